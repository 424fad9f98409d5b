-- The sort of a term, by the sorts of its names.
use Rattle.std.proofs.Common.{◌≡◌, ℕ, List, [], Option, Some, None, refl, sym, ◌∙◌, ap}
use Rattle.tht_tree.specs.declared.plain.Sort.{Sort}
use Rattle.tht_tree.specs.declared.plain.Sort.TheVariants as sort
use Rattle.tht_tree.specs.declared.plain.Value.TheVariants as v
use Rattle.tht_tree.specs.declared.term.Term.{Term, roll-Term}
use Rattle.tht_tree.specs.declared.term.Term.TheOpen.{Term-F}
use Rattle.tht_tree.specs.declared.term.Term.TheOpen as f
use Rattle.tht_tree.specs.Values.{Val, is, seq}
use Rattle.tht_tree.specs.Syntax.{Names, position, Op, add, sub, mul, cons, cat, eq, lt, le, conj, disj, imp, Trm, lit, free, bound, len, off, neg, op, trm_at}
use Rattle.tht_tree.specs.Normal.Putting.{Puts, put_name, put_in, put}
use Rattle.tht_tree.specs.Rules.Context.{Scope}
use Rattle.tht_tree.specs.Rules.Scoping.{variable_sort, name_sort, both_of, equation_sort, cons_sort, len_sort, offset_sort, not_sort, sort_at, sort_of}
use Rattle.tht_tree.proofs.TermInduction.{fold_level, OfParts, by_parts}
use Rattle.assn_laws.specs.AssertionLaws.{EachName}
use Rattle.tht_logic.proofs.NamesInTerms.{all_free, put_for, put_names}
use Rattle.assn_laws.proofs.KnownNames.{Sorted, both_sorted, equation_sorted, cons_sorted, len_sorted, offset_sorted, not_sorted}

-- ---- sorts of terms without names

abbrev val_sort : Val → Option Sort
val_sort (is (v.Nat n)) = Some sort.Nat
val_sort (is (v.Bool b)) = Some sort.Bool
val_sort (is (v.Loc p)) = Some sort.Loc
val_sort (is v.Unit) = Some sort.Unit
val_sort (seq xs) = Some sort.Seq

abbrev op_sort : Op → Option Sort → Option Sort → Option Sort
op_sort mul a b = both_of sort.Nat a b sort.Nat
op_sort add a b = both_of sort.Nat a b sort.Nat
op_sort sub a b = both_of sort.Nat a b sort.Nat
op_sort cons a b = cons_sort a b
op_sort cat a b = both_of sort.Seq a b sort.Seq
op_sort eq a b = equation_sort a b
op_sort lt a b = both_of sort.Nat a b sort.Bool
op_sort le a b = both_of sort.Nat a b sort.Bool
op_sort conj a b = both_of sort.Bool a b sort.Bool
op_sort disj a b = both_of sort.Bool a b sort.Bool
op_sort imp a b = both_of sort.Bool a b sort.Bool

-- the sort of a term whose names have these sorts
abbrev pub trm_sort : (List ℕ → Option Sort) → Trm → Option Sort
trm_sort N (lit w) = val_sort w
trm_sort N (free x) = N x
trm_sort N (bound j) = None
trm_sort N (len a) = len_sort (trm_sort N a)
trm_sort N (off j a) = offset_sort (trm_sort N a)
trm_sort N (neg a) = not_sort (trm_sort N a)
trm_sort N (op o a b) = op_sort o (trm_sort N a) (trm_sort N b)

op_parts : (o : Op) (a b : Option Sort) (z : Sort) → op_sort o a b ≡ Some z → Sorted a × Sorted b
op_parts mul a b z e = both_sorted sort.Nat a b sort.Nat z e
op_parts add a b z e = both_sorted sort.Nat a b sort.Nat z e
op_parts sub a b z e = both_sorted sort.Nat a b sort.Nat z e
op_parts cons a b z e = cons_sorted a b z e
op_parts cat a b z e = both_sorted sort.Seq a b sort.Seq z e
op_parts eq a b z e = equation_sorted a b z e
op_parts lt a b z e = both_sorted sort.Nat a b sort.Bool z e
op_parts le a b z e = both_sorted sort.Nat a b sort.Bool z e
op_parts conj a b z e = both_sorted sort.Bool a b sort.Bool z e
op_parts disj a b z e = both_sorted sort.Bool a b sort.Bool z e
op_parts imp a b z e = both_sorted sort.Bool a b sort.Bool z e

-- where each name of which C holds stands for a term of its sort
module _ (N M : List ℕ → Option Sort) (g : List ℕ → Trm) (C : List ℕ → Type 0) (names : (x : List ℕ) → C x → (s : Sort) → N x ≡ Some s → trm_sort M (g x) ≡ Some s) where
  trm_kept : (u : Trm) → EachName C u → (s : Sort) → trm_sort N u ≡ Some s → trm_sort M (put g u) ≡ Some s
  trm_kept (lit w) c s e = e
  trm_kept (free x) c s e = names x c s e
  trm_kept (bound j) c s e = e
  trm_kept (len a) c s e = let w = len_sorted (trm_sort N a) s e in ap len_sort (trm_kept a c w.0 w.1 ∙ sym w.1) ∙ e
  trm_kept (off j a) c s e = let w = offset_sorted (trm_sort N a) s e in ap offset_sort (trm_kept a c w.0 w.1 ∙ sym w.1) ∙ e
  trm_kept (neg a) c s e = let w = not_sorted (trm_sort N a) s e in ap not_sort (trm_kept a c w.0 w.1 ∙ sym w.1) ∙ e
  trm_kept (op o a b) c s e =
      let w = op_parts o (trm_sort N a) (trm_sort N b) s e in
      (λ i. op_sort o ((trm_kept a c.0 w.0.0 w.0.1 ∙ sym w.0.1) i) ((trm_kept b c.1 w.1.0 w.1.1 ∙ sym w.1.1) i)) ∙ e

-- names that stand for themselves
put_free : (u : Trm) → put free u ≡ u
put_free (lit w) = refl
put_free (free x) = refl
put_free (bound j) = refl
put_free (len a) = ap len (put_free a)
put_free (off j a) = ap (off j) (put_free a)
put_free (neg a) = ap neg (put_free a)
put_free (op o a b) = λ i. op o (put_free a i) (put_free b i)

-- ---- sorts of terms

-- the sort of a name
abbrev pub sort_named : Names → Scope → List ℕ → Option Sort
sort_named roots scope x = name_sort (variable_sort (scope x)) (position 0 roots x)

module _ (roots : Names) (scope : Scope) where
  abbrev N : List ℕ → Option Sort
  N = sort_named roots scope

  abbrev By_names : Term → Type 0
  By_names u = sort_of roots scope u ≡ trm_sort N (all_free u)

  names_step : (x : Term-F Term) → OfParts By_names x → By_names (roll-Term x)
  names_step (f.Num n) q = fold_level (sort_at roots scope) (f.Num n) ∙ ap (trm_sort N) (sym (fold_level (trm_at [] []) (f.Num n)))
  names_step f.True q = fold_level (sort_at roots scope) f.True ∙ ap (trm_sort N) (sym (fold_level (trm_at [] []) f.True))
  names_step f.False q = fold_level (sort_at roots scope) f.False ∙ ap (trm_sort N) (sym (fold_level (trm_at [] []) f.False))
  names_step f.Null q = fold_level (sort_at roots scope) f.Null ∙ ap (trm_sort N) (sym (fold_level (trm_at [] []) f.Null))
  names_step f.Nil q = fold_level (sort_at roots scope) f.Nil ∙ ap (trm_sort N) (sym (fold_level (trm_at [] []) f.Nil))
  names_step f.Unit q = fold_level (sort_at roots scope) f.Unit ∙ ap (trm_sort N) (sym (fold_level (trm_at [] []) f.Unit))
  names_step (f.Var x) q = fold_level (sort_at roots scope) (f.Var x) ∙ ap (trm_sort N) (sym (fold_level (trm_at [] []) (f.Var x)))
  names_step (f.Len a) q = fold_level (sort_at roots scope) (f.Len a) ∙ ap len_sort q ∙ ap (trm_sort N) (sym (fold_level (trm_at [] []) (f.Len a)))
  names_step (f.Offset a k) q = fold_level (sort_at roots scope) (f.Offset a k) ∙ ap offset_sort q ∙ ap (trm_sort N) (sym (fold_level (trm_at [] []) (f.Offset a k)))
  names_step (f.Not a) q = fold_level (sort_at roots scope) (f.Not a) ∙ ap not_sort q ∙ ap (trm_sort N) (sym (fold_level (trm_at [] []) (f.Not a)))
  names_step (f.Mul a b) q = fold_level (sort_at roots scope) (f.Mul a b) ∙ (λ i. both_of sort.Nat (q.0 i) (q.1 i) sort.Nat) ∙ ap (trm_sort N) (sym (fold_level (trm_at [] []) (f.Mul a b)))
  names_step (f.Add a b) q = fold_level (sort_at roots scope) (f.Add a b) ∙ (λ i. both_of sort.Nat (q.0 i) (q.1 i) sort.Nat) ∙ ap (trm_sort N) (sym (fold_level (trm_at [] []) (f.Add a b)))
  names_step (f.Sub a b) q = fold_level (sort_at roots scope) (f.Sub a b) ∙ (λ i. both_of sort.Nat (q.0 i) (q.1 i) sort.Nat) ∙ ap (trm_sort N) (sym (fold_level (trm_at [] []) (f.Sub a b)))
  names_step (f.Cons a b) q = fold_level (sort_at roots scope) (f.Cons a b) ∙ (λ i. cons_sort (q.0 i) (q.1 i)) ∙ ap (trm_sort N) (sym (fold_level (trm_at [] []) (f.Cons a b)))
  names_step (f.Cat a b) q = fold_level (sort_at roots scope) (f.Cat a b) ∙ (λ i. both_of sort.Seq (q.0 i) (q.1 i) sort.Seq) ∙ ap (trm_sort N) (sym (fold_level (trm_at [] []) (f.Cat a b)))
  names_step (f.Eq a b) q = fold_level (sort_at roots scope) (f.Eq a b) ∙ (λ i. equation_sort (q.0 i) (q.1 i)) ∙ ap (trm_sort N) (sym (fold_level (trm_at [] []) (f.Eq a b)))
  names_step (f.Lt a b) q = fold_level (sort_at roots scope) (f.Lt a b) ∙ (λ i. both_of sort.Nat (q.0 i) (q.1 i) sort.Bool) ∙ ap (trm_sort N) (sym (fold_level (trm_at [] []) (f.Lt a b)))
  names_step (f.Le a b) q = fold_level (sort_at roots scope) (f.Le a b) ∙ (λ i. both_of sort.Nat (q.0 i) (q.1 i) sort.Bool) ∙ ap (trm_sort N) (sym (fold_level (trm_at [] []) (f.Le a b)))
  names_step (f.And a b) q = fold_level (sort_at roots scope) (f.And a b) ∙ (λ i. both_of sort.Bool (q.0 i) (q.1 i) sort.Bool) ∙ ap (trm_sort N) (sym (fold_level (trm_at [] []) (f.And a b)))
  names_step (f.Or a b) q = fold_level (sort_at roots scope) (f.Or a b) ∙ (λ i. both_of sort.Bool (q.0 i) (q.1 i) sort.Bool) ∙ ap (trm_sort N) (sym (fold_level (trm_at [] []) (f.Or a b)))
  names_step (f.Imp a b) q = fold_level (sort_at roots scope) (f.Imp a b) ∙ (λ i. both_of sort.Bool (q.0 i) (q.1 i) sort.Bool) ∙ ap (trm_sort N) (sym (fold_level (trm_at [] []) (f.Imp a b)))

  pub sort_by_names : (u : Term) → sort_of roots scope u ≡ trm_sort (sort_named roots scope) (all_free u)
  sort_by_names = by_parts By_names names_step

module _ (roots : Names) (old new : Scope) (C : List ℕ → Type 0) where
  -- a term keeps its sort, where each name of which C holds stands for a term of the name's sort
  pub put_sorted : (by : Puts) → ((x : List ℕ) → C x → (s : Sort) → sort_named roots old x ≡ Some s → sort_of roots new (put_name by x) ≡ Some s) → (u : Term) → EachName C (all_free u)
      → (s : Sort) → sort_of roots old u ≡ Some s → sort_of roots new (put_in by u) ≡ Some s
  put_sorted by names u c s e =
      sort_by_names roots new (put_in by u) ∙ ap (trm_sort (sort_named roots new)) (put_names [] [] by u)
      ∙ trm_kept (sort_named roots old) (sort_named roots new) (put_for [] [] by) C (λ x k r g. sym (sort_by_names roots new (put_name by x)) ∙ names x k r g) (all_free u) c s
      (sym (sort_by_names roots old u) ∙ e)

  -- and where each has its sort in the new scope too
  pub sort_stays : ((x : List ℕ) → C x → (s : Sort) → sort_named roots old x ≡ Some s → sort_named roots new x ≡ Some s) → (u : Term) → EachName C (all_free u)
      → (s : Sort) → sort_of roots old u ≡ Some s → sort_of roots new u ≡ Some s
  sort_stays names u c s e =
      sort_by_names roots new u ∙ ap (trm_sort (sort_named roots new)) (sym (put_free (all_free u)))
      ∙ trm_kept (sort_named roots old) (sort_named roots new) free C names (all_free u) c s (sym (sort_by_names roots old u) ∙ e)
