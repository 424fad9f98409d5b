-- When a formula is true, by its form.
use Rattle.std.proofs.Common.{◌≡◌, ◌==◌, ℕ, ◌<◌, ◌≤◌, ◌⊎◌, inl, inr, Bool, true, false, not, ◌&&◌, ◌||◌, nat_lt, nat_le, refl, sym, ◌∙◌, ap, arith}
use Rattle.std.proofs.lemmas.Bool.{eqb-true, eq-eqb}
use Rattle.std.proofs.lemmas.Bool.Decides.{nat_tests}
use Rattle.std.proofs.lemmas.Slice.Eq.{bytes_eq-Decides}
use Rattle.tht_tree.specs.declared.plain.Place.{Place}
use Rattle.tht_tree.specs.declared.plain.Place.TheVariants.{Null, Root, Cell}
use Rattle.tht_tree.specs.declared.plain.Value.{Value}
use Rattle.tht_tree.specs.declared.plain.Value.TheVariants as v
use Rattle.tht_tree.specs.declared.term.Term.{Term}
use Rattle.tht_tree.specs.declared.term.Term.TheVariants as t
use Rattle.tht_tree.specs.Values.{Val, is, seq, same_val, same_value, same_place, same_bool, Env, bool_of, nat_of, a_bool}
use Rattle.tht_tree.specs.Syntax.{Names}
use Rattle.tht_tree.specs.Terms.{value, implies}
use Rattle.normal_laws.proofs.TermMeanings.{value-True, value-False, value-Not, value-Eq, value-Lt, value-Le, value-And, value-Or, value-Imp}
use Rattle.proof_laws.specs.Satisfied.{IsTrueIn}
use Rattle.proof_laws.proofs.Refusing.{both_true}

-- ---- values that are the same

same_place-true : (p q : Place) → same_place p q ≡ true → p ≡ q
same_place-true Null Null e = refl
same_place-true (Root r) (Root s) e = ap Root (eqb-true r s e)
same_place-true (Cell a i) (Cell b j) e = let h = both_true (a == b) (i == j) e in λ k. Cell (eqb-true a b h.0 k) (eqb-true i j h.1 k)
same_place-true _ _ e = cc

same_place-refl : (p : Place) → same_place p p ≡ true
same_place-refl Null = refl
same_place-refl (Root r) = eq-eqb r r refl
same_place-refl (Cell a i) = λ k. eq-eqb a a refl k && eq-eqb i i refl k

same_bool-true : (a b : Bool) → same_bool a b ≡ true → a ≡ b
same_bool-true true true e = refl
same_bool-true false false e = refl
same_bool-true _ _ e = cc

same_value-true : (a b : Value) → same_value a b ≡ true → a ≡ b
same_value-true (v.Nat m) (v.Nat n) e = ap v.Nat (eqb-true m n e)
same_value-true (v.Bool a) (v.Bool b) e = ap v.Bool (same_bool-true a b e)
same_value-true (v.Loc p) (v.Loc q) e = ap v.Loc (same_place-true p q e)
same_value-true v.Unit v.Unit e = refl
same_value-true _ _ e = cc

pub same_val-true : (a b : Val) → same_val a b ≡ true → a ≡ b
same_val-true (is a) (is b) e = ap is (same_value-true a b e)
same_val-true (seq s) (seq u) e = ap seq ((bytes_eq-Decides s u).0 e)
same_val-true _ _ e = cc

same_value-refl : (a : Value) → same_value a a ≡ true
same_value-refl (v.Nat n) = eq-eqb n n refl
same_value-refl (v.Bool true) = refl
same_value-refl (v.Bool false) = refl
same_value-refl (v.Loc p) = same_place-refl p
same_value-refl v.Unit = refl

pub same_val-refl : (a : Val) → same_val a a ≡ true
same_val-refl (is a) = same_value-refl a
same_val-refl (seq s) = (bytes_eq-Decides s s).1 refl

-- ---- truths

truth_of : (w : Val) → bool_of w ≡ true → w ≡ a_bool true
truth_of (is (v.Bool true)) e = refl
truth_of _ e = cc

either_true : (a b : Bool) → (a || b) ≡ true → (a ≡ true) ⊎ (b ≡ true)
either_true true b e = inl refl
either_true false b e = inr e

or_left : (a b : Bool) → a ≡ true → (a || b) ≡ true
or_left a b e = ap (λ c. c || b) e

or_right : (a b : Bool) → b ≡ true → (a || b) ≡ true
or_right true b e = refl
or_right false b e = e

module _ (roots : Names) (env : Env) where
  abbrev val : Term → Val
  val = value roots env

  abbrev pub Holds : Term → Type 0
  Holds u = IsTrueIn roots env u

  -- the truth of a term
  abbrev pub truth : Term → Bool
  truth u = bool_of (val u)

  pub holds : (u : Term) → truth u ≡ true → Holds u
  holds u e = truth_of (val u) e

  pub is_true : (u : Term) → Holds u → truth u ≡ true
  is_true u h = ap bool_of h

  pub true_holds : Holds t.True
  true_holds = value-True roots env

  pub false_fails : Holds t.False → ⊥
  false_fails h = let e : true ≡ false = sym (ap bool_of h) ∙ ap bool_of (value-False roots env) in cc

  pub and_holds : (a b : Term) → Holds a → Holds b → Holds (t.And a b)
  and_holds a b h g = value-And roots env a b ∙ (λ i. a_bool (bool_of (h i) && bool_of (g i)))

  pub and_says : (a b : Term) → Holds (t.And a b) → Holds a × Holds b
  and_says a b h =
      let e = both_true (truth a) (truth b) (ap bool_of (sym (value-And roots env a b) ∙ h)) in
      (holds a e.0, holds b e.1)

  pub or_says : (a b : Term) → Holds (t.Or a b) → Holds a ⊎ Holds b
  or_says a b h = from (either_true (truth a) (truth b) (ap bool_of (sym (value-Or roots env a b) ∙ h)))
    where
      from : (truth a ≡ true) ⊎ (truth b ≡ true) → Holds a ⊎ Holds b
      from (inl e) = inl (holds a e)
      from (inr e) = inr (holds b e)

  pub left_holds : (a b : Term) → Holds a → Holds (t.Or a b)
  left_holds a b h = value-Or roots env a b ∙ ap a_bool (or_left (truth a) (truth b) (is_true a h))

  pub right_holds : (a b : Term) → Holds b → Holds (t.Or a b)
  right_holds a b h = value-Or roots env a b ∙ ap a_bool (or_right (truth a) (truth b) (is_true b h))

  pub imp_holds : (a b : Term) → (Holds a → Holds b) → Holds (t.Imp a b)
  imp_holds a b go = value-Imp roots env a b ∙ ap a_bool (from (truth a) refl)
    where
      from : (c : Bool) → truth a ≡ c → implies c (truth b) ≡ true
      from true e = is_true b (go (holds a e))
      from false e = refl

  pub imp_says : (a b : Term) → Holds (t.Imp a b) → Holds a → Holds b
  imp_says a b h g = holds b (ap (λ c. implies c (truth b)) (sym (is_true a g)) ∙ ap bool_of (sym (value-Imp roots env a b) ∙ h))

  pub neg_holds : (a : Term) → (Holds a → ⊥) → Holds (t.Not a)
  neg_holds a go = value-Not roots env a ∙ ap a_bool (from (truth a) refl)
    where
      from : (c : Bool) → truth a ≡ c → not c ≡ true
      from true e = absurd (go (holds a e))
      from false e = refl

  pub neg_says : (a : Term) → Holds (t.Not a) → Holds a → ⊥
  neg_says a h g = let e : false ≡ true = ap not (sym (is_true a g)) ∙ ap bool_of (sym (value-Not roots env a) ∙ h) in cc

  -- a formula or its negation is true
  pub one_holds : (a : Term) → Holds a ⊎ Holds (t.Not a)
  one_holds a = from (truth a) refl
    where
      from : (c : Bool) → truth a ≡ c → Holds a ⊎ Holds (t.Not a)
      from true e = inl (holds a e)
      from false e = inr (value-Not roots env a ∙ ap (λ c. a_bool (not c)) e)

  -- ---- comparisons

  pub eq_holds : (a b : Term) → val a ≡ val b → Holds (t.Eq a b)
  eq_holds a b e = value-Eq roots env a b ∙ ap a_bool (ap (λ w. same_val w (val b)) e ∙ same_val-refl (val b))

  pub eq_says : (a b : Term) → Holds (t.Eq a b) → val a ≡ val b
  eq_says a b h = same_val-true (val a) (val b) (ap bool_of (sym (value-Eq roots env a b) ∙ h))

  abbrev pub number : Term → ℕ
  number u = nat_of (val u)

  pub le_says : (a b : Term) → Holds (t.Le a b) → number a ≤ number b
  le_says a b h = let e : nat_le (number a) (number b) ≡ true = ap bool_of (sym (value-Le roots env a b) ∙ h) in grind (arith, nat_tests)

  pub lt_says : (a b : Term) → Holds (t.Lt a b) → number a < number b
  lt_says a b h = let e : nat_lt (number a) (number b) ≡ true = ap bool_of (sym (value-Lt roots env a b) ∙ h) in grind (arith, nat_tests)

  -- if a <= b is not true, then b < a
  pub le_holds : (a b : Term) → (number b < number a → ⊥) → Holds (t.Le a b)
  le_holds a b go = value-Le roots env a b ∙ ap a_bool (from (nat_le (number a) (number b)) refl)
    where
      from : (c : Bool) → nat_le (number a) (number b) ≡ c → c ≡ true
      from true e = refl
      from false e = let l : number b < number a = grind (arith, nat_tests) in absurd (go l)

  pub lt_holds : (a b : Term) → (number b ≤ number a → ⊥) → Holds (t.Lt a b)
  lt_holds a b go = value-Lt roots env a b ∙ ap a_bool (from (nat_lt (number a) (number b)) refl)
    where
      from : (c : Bool) → nat_lt (number a) (number b) ≡ c → c ≡ true
      from true e = refl
      from false e = let l : number b ≤ number a = grind (arith, nat_tests) in absurd (go l)

  pub le_fails : (a b : Term) → (Holds (t.Le a b) → ⊥) → number b < number a
  le_fails a b go = from (nat_le (number a) (number b)) refl
    where
      from : (c : Bool) → nat_le (number a) (number b) ≡ c → number b < number a
      from true e = absurd (go (value-Le roots env a b ∙ ap a_bool e))
      from false e = grind (arith, nat_tests)

  pub lt_fails : (a b : Term) → (Holds (t.Lt a b) → ⊥) → number b ≤ number a
  lt_fails a b go = from (nat_lt (number a) (number b)) refl
    where
      from : (c : Bool) → nat_lt (number a) (number b) ≡ c → number b ≤ number a
      from true e = absurd (go (value-Lt roots env a b ∙ ap a_bool e))
      from false e = grind (arith, nat_tests)
