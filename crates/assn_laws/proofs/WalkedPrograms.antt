-- A term of the program in which the walk over names and sorts refuses nothing has a sort whose values a cell can hold, and no part
-- of it makes a sequence; variables of the logic and roots may be in scope beside.
use Rattle.std.proofs.Common.{◌≡◌, ℕ, Bool, true, ◌&&◌, List, [], ◌∷◌, All, map, Option, Some, None, refl, sym, ◌∙◌, ap, subst}
use Rattle.std.proofs.lemmas.List.Elements.{All-cons, All-nil}
use Rattle.tht_tree.specs.declared.plain.Sort.{Sort}
use Rattle.tht_tree.specs.declared.plain.Sort.TheVariants as sort
use Rattle.tht_tree.specs.declared.state.Local.{Local}
use Rattle.tht_tree.specs.declared.term.Term.{Term, roll-Term, map-Term, fold-roll-Term, ind-Term}
use Rattle.tht_tree.specs.declared.term.Term.TheOpen.{Term-F}
use Rattle.tht_tree.specs.declared.term.Term.TheOpen as f
use Rattle.tht_tree.specs.declared.walk.Class.{Class}
use Rattle.tht_tree.specs.declared.walk.Class.TheVariants as c
use Rattle.tht_tree.specs.declared.walk.Found.{Found}
use Rattle.tht_tree.specs.declared.walk.WalkCode.TheVariants.{S2}
use Rattle.tht_tree.specs.Values.{is_storable}
use Rattle.tht_tree.specs.Syntax.{Names, position}
use Rattle.tht_tree.specs.Rules.Context.{Scope}
use Rattle.tht_tree.specs.Rules.Scoping.{is_storable_sort, variable_sort, name_sort, offset_sort, not_sort, sort_at, sort_of, sequence_free, sequence_free_at}
use Rattle.tht_tree.specs.Walk.Codes.{first}
use Rattle.tht_tree.specs.Walk.Names as walk
use Rattle.tht_tree.specs.Walk.Sorts.{same_sort, wants, clash, agree, of_logic, found_name, found_at, found}
use Rattle.tht_tree.specs.Walk.Terms.{program_of, any_program, any_programs}
use Rattle.proof_laws.proofs.TermSorts.{some, both_makes, equation_makes}
use Rattle.proof_laws.proofs.WalkedTerms.{no_walk_code, first_none}
use Rattle.proof_laws.specs.Walked.{MatchesAt, Matches}
use Rattle.assn_laws.specs.Walked.{WalkedProgramsAreStorable}
use Rattle.assn_laws.proofs.Refusing.{first_of_none, clash_none, both}

no_seq : is_storable sort.Seq ≡ true → ⊥
no_seq e = cc

-- a variable of the program that may stand in its terms holds no sequence
no_sequence : (s : Sort) → of_logic (same_sort s sort.Seq) ≡ no_walk_code → is_storable s ≡ true
no_sequence sort.Nat e = refl
no_sequence sort.Bool e = refl
no_sequence sort.Loc e = refl
no_sequence sort.Unit e = refl
no_sequence sort.Seq e = cc

-- a term of the program has this sort
pub record IsProgram (roots : Names) (scope : Scope) (u : Term) (s : Sort) : Type 0 where
  pub of_sort : sort_of roots scope u ≡ some s
  pub storable : is_storable s ≡ true
  pub plain : sequence_free u ≡ true

module _ (roots : Names) (names : walk.Scope) (scope : Scope) (matches : Matches roots names scope) where
  -- what the walk finds, the sort by the rules, and whether no part makes a sequence
  abbrev Sorted : Found → Option Sort → Bool → Type 0
  Sorted x o plain = x.code ≡ no_walk_code → (s : Sort) × (x.sort ≡ some s) × (o ≡ some s) × (is_storable s ≡ true) × (plain ≡ true)

  abbrev fo : Term → Found
  fo = found names true

  abbrev so : Term → Option Sort
  so = sort_of roots scope

  abbrev Keeps : Term → Type 0
  Keeps u = Sorted (fo u) (so u) (sequence_free u)

  -- a part of the sort that is wanted
  wanted : (s : Sort) (u : Term) → Keeps u → wants s (fo u) ≡ no_walk_code → IsProgram roots scope u s
  wanted s u keeps e =
      let parts = first_none (fo u).code (clash s (fo u).sort) e in
      let it = keeps parts.0 in
      let same : it.0 ≡ s = clash_none s it.0 (fo u).sort it.1 parts.1 in
      record { of_sort = it.2 ∙ ap some same; storable = subst (λ z. is_storable z ≡ true) same it.3; plain = it.4 }

  abbrev Kept : Type 0
  Kept = (u : Term) × Keeps u

  abbrev IsLevel : Term-F Term → Type 0
  IsLevel x = Sorted (found_at names true (map-Term Term Found fo x)) (sort_at roots scope (map-Term Term (Option Sort) so x)) (sequence_free_at (map-Term Term Bool sequence_free x))

  named : (k : Option Class) (l : Option Local) (r : Option ℕ) → MatchesAt k l r → Sorted (found_name true k) (name_sort (variable_sort l) r) true
  named (Some (c.Program s)) l r m e = (s, refl, ap (λ z. name_sort (variable_sort z) r) m.0, no_sequence s e, refl)
  named (Some c.Root) l r m e = (sort.Loc, refl, (λ i. name_sort (variable_sort (m.0 i)) (m.1.1 i)), refl, refl)
  named None l r m e = cc
  named (Some (c.Logic s)) l r m e = cc
  named (Some c.Hypothesis) l r m e = cc
  named (Some _) l r m e = cc

  -- two parts of one sort
  record Two (r : Sort) (a b : Kept) : Type 0 where
    left : IsProgram roots scope a.0 r
    right : IsProgram roots scope b.0 r

  two : (r : Sort) (a b : Kept) → first (wants r (fo a.0)) (wants r (fo b.0)) ≡ no_walk_code → Two r a b
  two r a b e =
      let parts = first_none (wants r (fo a.0)) (wants r (fo b.0)) e in
      record { left = wanted r a.0 a.1 parts.0; right = wanted r b.0 b.1 parts.1 }

  plain_two : (r : Sort) (a b : Kept) → Two r a b → (sequence_free a.0 && sequence_free b.0) ≡ true
  plain_two r a b p = both (sequence_free a.0) (sequence_free b.0) p.left.plain p.right.plain

  level : (y : Term-F Kept) → IsLevel (map-Term Kept Term (λ e. e.0) y)
  level (f.Num n) h = (sort.Nat, refl, refl, refl, refl)
  level f.True h = (sort.Bool, refl, refl, refl, refl)
  level f.False h = (sort.Bool, refl, refl, refl, refl)
  level f.Null h = (sort.Loc, refl, refl, refl, refl)
  level f.Nil h = cc
  level f.Unit h = (sort.Unit, refl, refl, refl, refl)
  level (f.Var x) h = named (names x) (scope x) (position 0 roots x) (matches x) h
  level (f.Len a) h = let p = wanted sort.Seq a.0 a.1 h in absurd (no_seq p.storable)
  level (f.Offset a k) h = let p = wanted sort.Loc a.0 a.1 h in (sort.Loc, refl, ap offset_sort p.of_sort, refl, p.plain)
  level (f.Not a) h = let p = wanted sort.Bool a.0 a.1 h in (sort.Bool, refl, ap not_sort p.of_sort, refl, p.plain)
  level (f.Mul a b) h = let p = two sort.Nat a b h in (sort.Nat, refl, both_makes sort.Nat (so a.0) (so b.0) sort.Nat p.left.of_sort p.right.of_sort, refl, plain_two sort.Nat a b p)
  level (f.Add a b) h = let p = two sort.Nat a b h in (sort.Nat, refl, both_makes sort.Nat (so a.0) (so b.0) sort.Nat p.left.of_sort p.right.of_sort, refl, plain_two sort.Nat a b p)
  level (f.Sub a b) h = let p = two sort.Nat a b h in (sort.Nat, refl, both_makes sort.Nat (so a.0) (so b.0) sort.Nat p.left.of_sort p.right.of_sort, refl, plain_two sort.Nat a b p)
  level (f.Lt a b) h = let p = two sort.Nat a b h in (sort.Bool, refl, both_makes sort.Nat (so a.0) (so b.0) sort.Bool p.left.of_sort p.right.of_sort, refl, plain_two sort.Nat a b p)
  level (f.Le a b) h = let p = two sort.Nat a b h in (sort.Bool, refl, both_makes sort.Nat (so a.0) (so b.0) sort.Bool p.left.of_sort p.right.of_sort, refl, plain_two sort.Nat a b p)
  level (f.And a b) h = let p = two sort.Bool a b h in (sort.Bool, refl, both_makes sort.Bool (so a.0) (so b.0) sort.Bool p.left.of_sort p.right.of_sort, refl, plain_two sort.Bool a b p)
  level (f.Or a b) h = let p = two sort.Bool a b h in (sort.Bool, refl, both_makes sort.Bool (so a.0) (so b.0) sort.Bool p.left.of_sort p.right.of_sort, refl, plain_two sort.Bool a b p)
  level (f.Imp a b) h = let p = two sort.Bool a b h in (sort.Bool, refl, both_makes sort.Bool (so a.0) (so b.0) sort.Bool p.left.of_sort p.right.of_sort, refl, plain_two sort.Bool a b p)
  level (f.Cons a b) h =
      let p = first_none (wants sort.Nat (fo a.0)) (first (wants sort.Seq (fo b.0)) (Some S2)) h in
      let q = first_none (wants sort.Seq (fo b.0)) (Some S2) p.1 in
      absurd (no_seq (wanted sort.Seq b.0 b.1 q.0).storable)
  level (f.Cat a b) h =
      let p = first_none (wants sort.Seq (fo a.0)) (first (wants sort.Seq (fo b.0)) (Some S2)) h in
      absurd (no_seq (wanted sort.Seq a.0 a.1 p.0).storable)
  level (f.Eq a b) h =
      let p = first_none (fo a.0).code (first (fo b.0).code (agree (fo a.0).sort (fo b.0).sort)) h in
      let q = first_none (fo b.0).code (agree (fo a.0).sort (fo b.0).sort) p.1 in
      let left = a.1 p.0 in
      let right = b.1 q.0 in
      let same = clash_none left.0 right.0 (fo b.0).sort right.1 (sym (ap (λ o. agree o (fo b.0).sort) left.1) ∙ q.1) in
      (sort.Bool, refl, equation_makes (so a.0) (so b.0) left.0 left.2 (right.2 ∙ ap some same), refl, both (sequence_free a.0) (sequence_free b.0) left.4 right.4)

  keeps : (u : Term) → Keeps u
  unfolding found
  keeps = ind-Term Keeps (λ x y is.
      subst (λ z. Sorted z (so (roll-Term x)) (sequence_free (roll-Term x))) (sym (fold-roll-Term Found (found_at names true) x))
      (subst (λ z. Sorted (found_at names true (map-Term Term Found fo x)) z (sequence_free (roll-Term x))) (sym (fold-roll-Term (Option Sort) (sort_at roots scope) x))
      (subst (Sorted (found_at names true (map-Term Term Found fo x)) (sort_at roots scope (map-Term Term (Option Sort) so x))) (sym (fold-roll-Term Bool sequence_free_at x)) (subst IsLevel is (level y)))))

  -- a term of the sort that is wanted, and of any sort
  pub program_term : (s : Sort) (u : Term) → program_of names s u ≡ no_walk_code → IsProgram roots scope u s
  program_term s u e = wanted s u (keeps u) e

  pub any_term : (u : Term) → any_program names u ≡ no_walk_code → (s : Sort) × IsProgram roots scope u s
  any_term u e = let it = keeps u e in (it.0, record { of_sort = it.2; storable = it.3; plain = it.4 })

  pub storable_term : (u : Term) → any_program names u ≡ no_walk_code → is_storable_sort (sort_of roots scope u) ≡ true
  storable_term u e = let it = any_term u e in ap is_storable_sort it.1.of_sort ∙ it.1.storable

  pub all_storable : (us : List Term) → any_programs names us ≡ no_walk_code → All (λ u. is_storable_sort (sort_of roots scope u) ≡ true) us
  all_storable [] e = All-nil (λ u. is_storable_sort (sort_of roots scope u) ≡ true)
  all_storable (u ∷ us) e =
      let parts = first_of_none (any_program names u) (map (any_program names) us) e in
      All-cons (λ z. is_storable_sort (sort_of roots scope z) ≡ true) u us (storable_term u parts.0) (all_storable us parts.1)

-- The law of terms of the program.
pub walked_programs_are_storable : WalkedProgramsAreStorable
walked_programs_are_storable roots names scope matches us e = all_storable roots names scope matches us e
