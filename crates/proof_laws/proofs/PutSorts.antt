-- The sort of a term into which terms are put: that of the term, where each name has the sort of what stands for it.
use Rattle.std.proofs.Common.{◌≡◌, ℕ, List, Option, sym, ◌∙◌, ap, subst}
use Rattle.tht_tree.specs.declared.plain.Sort.{Sort}
use Rattle.tht_tree.specs.declared.plain.Sort.TheVariants as sort
use Rattle.tht_tree.specs.declared.term.Term.{Term, map-Term, fold-roll-Term, ind-Term}
use Rattle.tht_tree.specs.declared.term.Term.TheOpen.{Term-F}
use Rattle.tht_tree.specs.declared.term.Term.TheOpen as f
use Rattle.tht_tree.specs.Syntax.{Names, position}
use Rattle.tht_tree.specs.Rules.Context.{Scope}
use Rattle.tht_tree.specs.Rules.Scoping.{variable_sort, equation_sort, both_of, cons_sort, len_sort, offset_sort, not_sort, name_sort, sort_at, sort_of}
use Rattle.tht_tree.proofs.TermFolds.{at-Num, at-True, at-False, at-Null, at-Nil, at-Unit, at-Len, at-Offset, at-Not, at-Mul, at-Add, at-Sub, at-Cons, at-Cat, at-Eq, at-Lt, at-Le, at-And, at-Or, at-Imp}
use Rattle.tht_tree.specs.Normal.Putting.{Puts, put_name, put_at, put_in}

module _ (roots : Names) (scope inner : Scope) (by : Puts)
    (names : (x : List ℕ) → sort_of roots scope (put_name by x) ≡ name_sort (variable_sort (inner x)) (position 0 roots x)) where
  abbrev Keeps : Term → Type 0
  Keeps u = sort_of roots scope (put_in by u) ≡ sort_of roots inner u

  abbrev S : Type 0
  S = Option Sort

  abbrev step : Term-F S → S
  step = sort_at roots scope

  abbrev IsLevel : Term-F Term → Type 0
  IsLevel x = sort_of roots scope (put_at by (map-Term Term Term (put_in by) x)) ≡ sort_at roots inner (map-Term Term S (sort_of roots inner) x)

  abbrev Kept : Type 0
  Kept = (u : Term) × Keeps u

  put : Kept → Term
  put e = put_in by e.0

  level : (y : Term-F Kept) → IsLevel (map-Term Kept Term (λ e. e.0) y)
  level (f.Num n) = at-Num S step n
  level f.True = at-True S step
  level f.False = at-False S step
  level f.Null = at-Null S step
  level f.Nil = at-Nil S step
  level f.Unit = at-Unit S step
  level (f.Var x) = names x
  level (f.Len a) = at-Len S step (put_in by a.0) ∙ ap len_sort a.1
  level (f.Offset a k) = at-Offset S step (put_in by a.0) k ∙ ap offset_sort a.1
  level (f.Not a) = at-Not S step (put_in by a.0) ∙ ap not_sort a.1
  level (f.Mul a b) = at-Mul S step (put_in by a.0) (put_in by b.0) ∙ (λ i. both_of sort.Nat (a.1 i) (b.1 i) sort.Nat)
  level (f.Add a b) = at-Add S step (put_in by a.0) (put_in by b.0) ∙ (λ i. both_of sort.Nat (a.1 i) (b.1 i) sort.Nat)
  level (f.Sub a b) = at-Sub S step (put_in by a.0) (put_in by b.0) ∙ (λ i. both_of sort.Nat (a.1 i) (b.1 i) sort.Nat)
  level (f.Cons a b) = at-Cons S step (put_in by a.0) (put_in by b.0) ∙ (λ i. cons_sort (a.1 i) (b.1 i))
  level (f.Cat a b) = at-Cat S step (put_in by a.0) (put_in by b.0) ∙ (λ i. both_of sort.Seq (a.1 i) (b.1 i) sort.Seq)
  level (f.Eq a b) = at-Eq S step (put_in by a.0) (put_in by b.0) ∙ (λ i. equation_sort (a.1 i) (b.1 i))
  level (f.Lt a b) = at-Lt S step (put_in by a.0) (put_in by b.0) ∙ (λ i. both_of sort.Nat (a.1 i) (b.1 i) sort.Bool)
  level (f.Le a b) = at-Le S step (put_in by a.0) (put_in by b.0) ∙ (λ i. both_of sort.Nat (a.1 i) (b.1 i) sort.Bool)
  level (f.And a b) = at-And S step (put_in by a.0) (put_in by b.0) ∙ (λ i. both_of sort.Bool (a.1 i) (b.1 i) sort.Bool)
  level (f.Or a b) = at-Or S step (put_in by a.0) (put_in by b.0) ∙ (λ i. both_of sort.Bool (a.1 i) (b.1 i) sort.Bool)
  level (f.Imp a b) = at-Imp S step (put_in by a.0) (put_in by b.0) ∙ (λ i. both_of sort.Bool (a.1 i) (b.1 i) sort.Bool)

  pub put_sort : (u : Term) → Keeps u
  put_sort = ind-Term Keeps (λ x y is.
      ap (sort_of roots scope) (fold-roll-Term Term (put_at by) x)
      ∙ subst IsLevel is (level y)
      ∙ sym (fold-roll-Term S (sort_at roots inner) x))
