-- A term in which the walk refuses nothing has the sort that the walk finds.
use Rattle.std.proofs.Common.{◌≡◌, ℕ, nat_le, Bool, true, false, cond, List, Option, Some, None, refl, sym, ◌∙◌, ap, subst}
use Rattle.tht_tree.specs.declared.plain.Sort.{Sort}
use Rattle.tht_tree.specs.declared.plain.Sort.TheVariants as sort
use Rattle.tht_tree.specs.declared.state.Local.{Local}
use Rattle.tht_tree.specs.declared.term.Term.{Term, roll-Term, map-Term, fold-roll-Term, ind-Term}
use Rattle.tht_tree.specs.declared.term.Term.TheOpen.{Term-F}
use Rattle.tht_tree.specs.declared.term.Term.TheOpen as f
use Rattle.tht_tree.specs.declared.walk.Class.{Class}
use Rattle.tht_tree.specs.declared.walk.Class.TheVariants as c
use Rattle.tht_tree.specs.declared.walk.Found.{Found}
use Rattle.tht_tree.specs.declared.walk.WalkCode.{WalkCode}
use Rattle.tht_tree.specs.declared.walk.WalkCode.TheVariants.{S1}
use Rattle.tht_tree.specs.Syntax.{Names, position}
use Rattle.tht_tree.specs.Rules.Context.{Scope}
use Rattle.tht_tree.specs.Rules.Scoping.{variable_sort, name_sort, cons_sort, len_sort, offset_sort, not_sort, sort_at, sort_of}
use Rattle.tht_tree.specs.Walk.Codes.{line_of, first, unless}
use Rattle.tht_tree.specs.Walk.Names as walk
use Rattle.tht_tree.specs.Walk.Sorts.{same_sort, clash, wants, agree, found_name, found_at, found}
use Rattle.tht_tree.specs.Walk.Terms.{term_of}
use Rattle.proof_laws.specs.Walked.{MatchesAt, Matches}
use Rattle.proof_laws.proofs.TermSorts.{some, both_makes, equation_makes}

abbrev pub no_walk_code : Option WalkCode
no_walk_code = None

pub first_none : (a b : Option WalkCode) → first a b ≡ no_walk_code → (a ≡ no_walk_code) × (b ≡ no_walk_code)
first_none None b e = (refl, e)
first_none (Some a) None e = cc
first_none (Some a) (Some b) e = by (nat_le (line_of a) (line_of b)) e
  where
    by : (t : Bool) → cond t (Some a) (Some b) ≡ no_walk_code → (Some a ≡ no_walk_code) × (Some b ≡ no_walk_code)
    by true g = cc
    by false g = cc

walk_same : (s r : Sort) → same_sort s r ≡ true → s ≡ r
walk_same sort.Nat sort.Nat e = refl
walk_same sort.Bool sort.Bool e = refl
walk_same sort.Loc sort.Loc e = refl
walk_same sort.Unit sort.Unit e = refl
walk_same sort.Seq sort.Seq e = refl
walk_same _ _ e = cc

pub unless_none : (t : Bool) (code : WalkCode) → unless t code ≡ no_walk_code → t ≡ true
unless_none true code e = refl
unless_none false code e = cc

clash_none : (s r : Sort) (o : Option Sort) → o ≡ some r → clash s o ≡ no_walk_code → r ≡ s
clash_none s r o e g = sym (walk_same s r (unless_none (same_sort s r) S1 (sym (ap (clash s) e) ∙ g)))

module _ (roots : Names) (names : walk.Scope) (scope : Scope) (matches : Matches roots names scope) where
  -- where the walk refuses nothing it finds a sort, and the rules find it too
  abbrev Sorted : Found → Option Sort → Type 0
  Sorted x o = x.code ≡ no_walk_code → (s : Sort) × (x.sort ≡ some s) × (o ≡ some s)

  abbrev fo : Term → Found
  fo = found names false

  abbrev so : Term → Option Sort
  so = sort_of roots scope

  abbrev Keeps : Term → Type 0
  Keeps u = Sorted (fo u) (so u)

  -- a part of the sort that is wanted
  wanted : (s : Sort) (u : Term) → Keeps u → wants s (fo u) ≡ no_walk_code → so u ≡ some s
  wanted s u keeps e =
      let parts = first_none (fo u).code (clash s (fo u).sort) e in
      let found_sort = keeps parts.0 in
      found_sort.2 ∙ ap some (clash_none s found_sort.0 (fo u).sort found_sort.1 parts.1)

  abbrev Kept : Type 0
  Kept = (u : Term) × Keeps u

  abbrev IsLevel : Term-F Term → Type 0
  IsLevel x = Sorted (found_at names false (map-Term Term Found fo x)) (sort_at roots scope (map-Term Term (Option Sort) so x))

  named : (x : List ℕ) (k : Option Class) (l : Option Local) (r : Option ℕ) → MatchesAt k l r → Sorted (found_name false k) (name_sort (variable_sort l) r)
  named x (Some (c.Program s)) l r m e = (s, refl, ap (λ z. name_sort (variable_sort z) r) m.0)
  named x (Some (c.Logic s)) l r m e = (s, refl, ap (λ z. name_sort (variable_sort z) r) m.0)
  named x (Some c.Root) l r m e = (sort.Loc, refl, (λ i. name_sort (variable_sort (m.0 i)) (m.1.1 i)))
  named x None l r m e = cc
  named x (Some c.Hypothesis) l r m e = cc
  named x (Some _) l r m e = cc

  of_both : (r : Sort) (a b : Kept) → first (wants r (fo a.0)) (wants r (fo b.0)) ≡ no_walk_code → (so a.0 ≡ some r) × (so b.0 ≡ some r)
  of_both r a b e =
      let parts = first_none (wants r (fo a.0)) (wants r (fo b.0)) e in
      (wanted r a.0 a.1 parts.0, wanted r b.0 b.1 parts.1)

  level : (y : Term-F Kept) → IsLevel (map-Term Kept Term (λ e. e.0) y)
  level (f.Num n) h = (sort.Nat, refl, refl)
  level f.True h = (sort.Bool, refl, refl)
  level f.False h = (sort.Bool, refl, refl)
  level f.Null h = (sort.Loc, refl, refl)
  level f.Nil h = (sort.Seq, refl, refl)
  level f.Unit h = (sort.Unit, refl, refl)
  level (f.Var x) h = named x (names x) (scope x) (position 0 roots x) (matches x) h
  level (f.Len a) h = (sort.Nat, refl, ap len_sort (wanted sort.Seq a.0 a.1 h))
  level (f.Offset a k) h = (sort.Loc, refl, ap offset_sort (wanted sort.Loc a.0 a.1 h))
  level (f.Not a) h = (sort.Bool, refl, ap not_sort (wanted sort.Bool a.0 a.1 h))
  level (f.Mul a b) h = let p = of_both sort.Nat a b h in (sort.Nat, refl, both_makes sort.Nat (so a.0) (so b.0) sort.Nat p.0 p.1)
  level (f.Add a b) h = let p = of_both sort.Nat a b h in (sort.Nat, refl, both_makes sort.Nat (so a.0) (so b.0) sort.Nat p.0 p.1)
  level (f.Sub a b) h = let p = of_both sort.Nat a b h in (sort.Nat, refl, both_makes sort.Nat (so a.0) (so b.0) sort.Nat p.0 p.1)
  level (f.Lt a b) h = let p = of_both sort.Nat a b h in (sort.Bool, refl, both_makes sort.Nat (so a.0) (so b.0) sort.Bool p.0 p.1)
  level (f.Le a b) h = let p = of_both sort.Nat a b h in (sort.Bool, refl, both_makes sort.Nat (so a.0) (so b.0) sort.Bool p.0 p.1)
  level (f.And a b) h = let p = of_both sort.Bool a b h in (sort.Bool, refl, both_makes sort.Bool (so a.0) (so b.0) sort.Bool p.0 p.1)
  level (f.Or a b) h = let p = of_both sort.Bool a b h in (sort.Bool, refl, both_makes sort.Bool (so a.0) (so b.0) sort.Bool p.0 p.1)
  level (f.Imp a b) h = let p = of_both sort.Bool a b h in (sort.Bool, refl, both_makes sort.Bool (so a.0) (so b.0) sort.Bool p.0 p.1)
  level (f.Cons a b) h =
      let p = first_none (wants sort.Nat (fo a.0)) (first (wants sort.Seq (fo b.0)) no_walk_code) h in
      let q = first_none (wants sort.Seq (fo b.0)) no_walk_code p.1 in
      (sort.Seq, refl, λ i. cons_sort (wanted sort.Nat a.0 a.1 p.0 i) (wanted sort.Seq b.0 b.1 q.0 i))
  level (f.Cat a b) h =
      let p = first_none (wants sort.Seq (fo a.0)) (first (wants sort.Seq (fo b.0)) no_walk_code) h in
      let q = first_none (wants sort.Seq (fo b.0)) no_walk_code p.1 in
      (sort.Seq, refl, both_makes sort.Seq (so a.0) (so b.0) sort.Seq (wanted sort.Seq a.0 a.1 p.0) (wanted sort.Seq b.0 b.1 q.0))
  level (f.Eq a b) h =
      let p = first_none (fo a.0).code (first (fo b.0).code (agree (fo a.0).sort (fo b.0).sort)) h in
      let q = first_none (fo b.0).code (agree (fo a.0).sort (fo b.0).sort) p.1 in
      let left = a.1 p.0 in
      let right = b.1 q.0 in
      let same = clash_none left.0 right.0 (fo b.0).sort right.1 (sym (ap (λ o. agree o (fo b.0).sort) left.1) ∙ q.1) in
      (sort.Bool, refl, equation_makes (so a.0) (so b.0) left.0 left.2 (right.2 ∙ ap some same))

  keeps : (u : Term) → Keeps u
  unfolding found
  keeps = ind-Term Keeps (λ x y is.
      subst (λ z. Sorted z (so (roll-Term x))) (sym (fold-roll-Term Found (found_at names false) x))
      (subst (Sorted (found_at names false (map-Term Term Found fo x))) (sym (fold-roll-Term (Option Sort) (sort_at roots scope) x)) (subst IsLevel is (level y))))

  -- a term of the sort that is wanted
  pub walked_term : (s : Sort) (u : Term) → term_of names s u ≡ no_walk_code → so u ≡ some s
  walked_term s u e = wanted s u (keeps u) e
