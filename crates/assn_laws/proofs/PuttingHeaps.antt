-- The law of putting in: what is put in has its value.
use Rattle.std.proofs.Common.{◌≡◌, ◌≢◌, ◌⊎◌, ℕ, true, not, length, List, [], ◌∷◌, map, Option, Some, None, refl, sym, ◌∙◌, ap, subst}
use Rattle.std.proofs.Math.Path.{transport, transport⁻¹}
use Rattle.tht_tree.specs.declared.plain.Place.{Place}
use Rattle.tht_tree.specs.declared.plain.Place.TheVariants.{Null}
use Rattle.tht_tree.specs.declared.plain.Value.{Value}
use Rattle.tht_tree.specs.declared.term.Term.{Term, roll-Term}
use Rattle.tht_tree.specs.declared.term.Term.TheOpen.{Term-F}
use Rattle.tht_tree.specs.declared.term.Term.TheOpen as f
use Rattle.tht_tree.specs.Values.{Val, is, Env, bool_of, place_of, seq_of, a_nat, a_bool, a_place, has_sort_val}
use Rattle.tht_tree.specs.Syntax.{Names, position, Trm, lit, free, bound, len, off, neg, op, mul, add, sub, cons, cat, eq, lt, le, conj, disj, imp, root_or_free, trm_at, trm}
use Rattle.tht_tree.specs.Terms.{offset_by, apply, value_of}
use Rattle.tht_tree.specs.Heaps.{Heap, Joins, IsEmpty, IsCell}
use Rattle.tht_tree.specs.Heaps as heap
use Rattle.tht_tree.specs.Normal.Putting.{Puts, put_name, put, over}
use Rattle.tht_tree.proofs.TermInduction.{fold_level, OfParts, by_parts}
use Rattle.tht_logic.specs.Assertions.{Asn, emp, fact, own, shared, star, inst, exist, either, asn}
use Rattle.tht_logic.specs.Satisfaction.{Meaning, Satisfies}
use Rattle.tht_logic.specs.Putting.{put_in_assn, put_asn}
use Rattle.assn_laws.specs.AssertionLaws.{PuttingHasTheHeaps}
use Rattle.assn_laws.proofs.PuttingNames.{putting_never_captures}

-- a term of a source in which no name is bound has one value, whatever the values of bound variables
module _ (roots : Names) (env : Env) (vs : List Val) where
  abbrev AnyBound : Trm → Type 0
  AnyBound u = value_of env vs u ≡ value_of env [] u

  abbrev IsClosed : Term → Type 0
  IsClosed u = AnyBound (trm roots [] u)

  root_closed : (x : List ℕ) (r : Option ℕ) → AnyBound (root_or_free x r)
  root_closed x (Some r) = refl
  root_closed x None = refl

  closed_step : (x : Term-F Term) → OfParts IsClosed x → IsClosed (roll-Term x)
  closed_step (f.Num n) q = subst AnyBound (sym (fold_level (trm_at roots []) (f.Num n))) refl
  closed_step f.True q = subst AnyBound (sym (fold_level (trm_at roots []) f.True)) refl
  closed_step f.False q = subst AnyBound (sym (fold_level (trm_at roots []) f.False)) refl
  closed_step f.Null q = subst AnyBound (sym (fold_level (trm_at roots []) f.Null)) refl
  closed_step f.Nil q = subst AnyBound (sym (fold_level (trm_at roots []) f.Nil)) refl
  closed_step f.Unit q = subst AnyBound (sym (fold_level (trm_at roots []) f.Unit)) refl
  closed_step (f.Var x) q = subst AnyBound (sym (fold_level (trm_at roots []) (f.Var x))) (root_closed x (position 0 roots x))
  closed_step (f.Len a) q = subst AnyBound (sym (fold_level (trm_at roots []) (f.Len a))) (ap (λ w. a_nat (length (seq_of w))) q)
  closed_step (f.Offset a k) q = subst AnyBound (sym (fold_level (trm_at roots []) (f.Offset a k))) (ap (λ w. a_place (offset_by k (place_of w))) q)
  closed_step (f.Not a) q = subst AnyBound (sym (fold_level (trm_at roots []) (f.Not a))) (ap (λ w. a_bool (not (bool_of w))) q)
  closed_step (f.Mul a b) q = subst AnyBound (sym (fold_level (trm_at roots []) (f.Mul a b))) (λ i. apply mul (q.0 i) (q.1 i))
  closed_step (f.Add a b) q = subst AnyBound (sym (fold_level (trm_at roots []) (f.Add a b))) (λ i. apply add (q.0 i) (q.1 i))
  closed_step (f.Sub a b) q = subst AnyBound (sym (fold_level (trm_at roots []) (f.Sub a b))) (λ i. apply sub (q.0 i) (q.1 i))
  closed_step (f.Cons a b) q = subst AnyBound (sym (fold_level (trm_at roots []) (f.Cons a b))) (λ i. apply cons (q.0 i) (q.1 i))
  closed_step (f.Cat a b) q = subst AnyBound (sym (fold_level (trm_at roots []) (f.Cat a b))) (λ i. apply cat (q.0 i) (q.1 i))
  closed_step (f.Eq a b) q = subst AnyBound (sym (fold_level (trm_at roots []) (f.Eq a b))) (λ i. apply eq (q.0 i) (q.1 i))
  closed_step (f.Lt a b) q = subst AnyBound (sym (fold_level (trm_at roots []) (f.Lt a b))) (λ i. apply lt (q.0 i) (q.1 i))
  closed_step (f.Le a b) q = subst AnyBound (sym (fold_level (trm_at roots []) (f.Le a b))) (λ i. apply le (q.0 i) (q.1 i))
  closed_step (f.And a b) q = subst AnyBound (sym (fold_level (trm_at roots []) (f.And a b))) (λ i. apply conj (q.0 i) (q.1 i))
  closed_step (f.Or a b) q = subst AnyBound (sym (fold_level (trm_at roots []) (f.Or a b))) (λ i. apply disj (q.0 i) (q.1 i))
  closed_step (f.Imp a b) q = subst AnyBound (sym (fold_level (trm_at roots []) (f.Imp a b))) (λ i. apply imp (q.0 i) (q.1 i))

  pub closed_value : (u : Term) → value_of env vs (trm roots [] u) ≡ value_of env [] (trm roots [] u)
  closed_value = by_parts IsClosed closed_step

module _ (roots : Names) (env : Env) (by : Puts) where
  abbrev base : List ℕ → Trm
  base x = trm roots [] (put_name by x)

  abbrev outer : Env
  outer = over roots env by

  pub put_value : (vs : List Val) (u : Trm) → value_of env vs (put base u) ≡ value_of outer vs u
  put_value vs (lit v) = refl
  put_value vs (free x) = closed_value roots env vs (put_name by x)
  put_value vs (bound k) = refl
  put_value vs (len a) = ap (λ w. a_nat (length (seq_of w))) (put_value vs a)
  put_value vs (off k a) = ap (λ w. a_place (offset_by k (place_of w))) (put_value vs a)
  put_value vs (neg a) = ap (λ w. a_bool (not (bool_of w))) (put_value vs a)
  put_value vs (op o a b) = λ i. apply o (put_value vs a i) (put_value vs b i)

  put_values : (vs : List Val) (us : List Trm) → map (value_of env vs) (map (put base) us) ≡ map (value_of outer vs) us
  put_values vs [] = refl
  put_values vs (u ∷ us) = λ i. put_value vs u i ∷ put_values vs us i

  pub put_satisfied : (M : Meaning) (vs : List Val) (p : Asn) → Satisfies M env vs (put_asn base p) ≡ Satisfies M outer vs p
  put_satisfied M vs emp = refl
  put_satisfied M vs (fact t) = λ i h. IsEmpty h × (put_value vs t i ≡ a_bool true)
  put_satisfied M vs (own t u) = λ i h.
      (b : ℕ) × (p : Place) × (w : Value) × (p ≢ Null) × (put_value vs t i ≡ a_place p) × (put_value vs u i ≡ is w) × IsCell h p (heap.own b w)
  put_satisfied M vs (shared t u) = λ i h. (p : Place) × (w : Value) × (p ≢ Null) × (put_value vs t i ≡ a_place p) × (put_value vs u i ≡ is w) × IsCell h p (heap.shared w)
  put_satisfied M vs (star p q) = λ i h. (x y : Heap) × Joins x y h × put_satisfied M vs p i x × put_satisfied M vs q i y
  put_satisfied M vs (inst n us) = λ i h. M n (put_values vs us i) h
  put_satisfied M vs (exist s p) = λ i h. (v : Val) × (has_sort_val s v ≡ true) × put_satisfied M (v ∷ vs) p i h
  put_satisfied M vs (either p q) = λ i h. put_satisfied M vs p i h ⊎ put_satisfied M vs q i h

pub putting_has_the_heaps : (M : Meaning) → PuttingHasTheHeaps M
putting_has_the_heaps M roots env by p h =
    let e : Satisfies M env [] (asn roots [] (put_in_assn by p)) h ≡ Satisfies M (over roots env by) [] (asn [] [] p) h
    = λ i. (ap (Satisfies M env []) (putting_never_captures roots by p) ∙ put_satisfied roots env by M [] (asn [] [] p)) i h in
    (transport e, transport⁻¹ e)
