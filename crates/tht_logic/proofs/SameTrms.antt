-- The test of terms without names tells that they are one, and each term passes it with itself.
use Rattle.std.proofs.Common.{◌≡◌, ℕ, eqb, Bool, true, false, ◌&&◌, List, [], ◌∷◌, refl, ap, inl, inr}
use Rattle.std.proofs.lemmas.Bool.{eqb-true}
use Rattle.std.proofs.lemmas.Bool.Decides.{eqb_tells}
use Rattle.std.proofs.lemmas.Slice.Eq.{bytes_eq-Decides}
use Rattle.std.specs.Prelude.{bytes_eq}
use Rattle.tht_tree.specs.declared.plain.Place.{Place}
use Rattle.tht_tree.specs.declared.plain.Sort.{Sort}
use Rattle.tht_tree.specs.declared.plain.Sort.TheVariants as sort
use Rattle.tht_tree.specs.declared.plain.Value.{Value}
use Rattle.tht_tree.specs.declared.plain.Value.TheVariants as v
use Rattle.tht_tree.specs.Values.{Val, is, seq, same_place, same_bool, same_value, same_val}
use Rattle.tht_tree.specs.Syntax.{Op, add, sub, mul, cons, cat, eq, lt, le, conj, disj, imp, Trm, lit, free, bound, len, off, neg, op}
use Rattle.tht_tree.specs.Rules.Scoping.{same_sort}
use Rattle.tht_tree.proofs.Cells.{place_tells, same_here}
use Rattle.tht_tree.proofs.SameTerm.{bytes_eq-true}
use Rattle.tht_logic.specs.Alike.{same_op, same_trm, same_trms}

pub and_both : (b c : Bool) → (b && c) ≡ true → (b ≡ true) × (c ≡ true)
and_both true c e = (refl, e)
and_both false c e = cc

pub both_pass : (b c : Bool) → b ≡ true → c ≡ true → (b && c) ≡ true
both_pass b c e f = λ i. e i && f i

-- ---- what the test tells

same_op-true : (o p : Op) → same_op o p ≡ true → o ≡ p
same_op-true add add e = refl
same_op-true sub sub e = refl
same_op-true mul mul e = refl
same_op-true cons cons e = refl
same_op-true cat cat e = refl
same_op-true eq eq e = refl
same_op-true lt lt e = refl
same_op-true le le e = refl
same_op-true conj conj e = refl
same_op-true disj disj e = refl
same_op-true imp imp e = refl
same_op-true _ _ e = cc

same_bool-true : (b c : Bool) → same_bool b c ≡ true → b ≡ c
same_bool-true true true e = refl
same_bool-true true false e = cc
same_bool-true false false e = refl
same_bool-true false true e = cc

same_place-true : (p q : Place) → same_place p q ≡ true → p ≡ q
same_place-true p q e = elim (place_tells p q) [ inl h ↦ h.1 | inr h ↦ let g = h.0 in cc ]

same_value-true : (u w : Value) → same_value u w ≡ true → u ≡ w
same_value-true (v.Nat m) (v.Nat n) e = ap v.Nat (eqb-true m n e)
same_value-true (v.Bool b) (v.Bool c) e = ap v.Bool (same_bool-true b c e)
same_value-true (v.Loc p) (v.Loc q) e = ap v.Loc (same_place-true p q e)
same_value-true v.Unit v.Unit e = refl
same_value-true _ _ e = cc

pub same_val-true : (x y : Val) → same_val x y ≡ true → x ≡ y
same_val-true (is u) (is w) e = ap is (same_value-true u w e)
same_val-true (seq s) (seq t) e = ap seq (bytes_eq-true s t e)
same_val-true (is u) (seq t) e = cc
same_val-true (seq s) (is w) e = cc

pub same_trm-true : (t u : Trm) → same_trm t u ≡ true → t ≡ u
same_trm-true (lit x) (lit y) e = ap lit (same_val-true x y e)
same_trm-true (free x) (free y) e = ap free (bytes_eq-true x y e)
same_trm-true (bound k) (bound l) e = ap bound (eqb-true k l e)
same_trm-true (len t) (len u) e = ap len (same_trm-true t u e)
same_trm-true (off k t) (off l u) e =
    let b : (eqb k l ≡ true) × (same_trm t u ≡ true) = and_both (eqb k l) (same_trm t u) e in
    λ i. off (eqb-true k l b.0 i) (same_trm-true t u b.1 i)
same_trm-true (neg t) (neg u) e = ap neg (same_trm-true t u e)
same_trm-true (op o t w) (op p u z) e =
    let b : ((same_op o p && same_trm t u) ≡ true) × (same_trm w z ≡ true) = and_both (same_op o p && same_trm t u) (same_trm w z) e in
    let c : (same_op o p ≡ true) × (same_trm t u ≡ true) = and_both (same_op o p) (same_trm t u) b.0 in
    λ i. op (same_op-true o p c.0 i) (same_trm-true t u c.1 i) (same_trm-true w z b.1 i)
same_trm-true _ _ e = cc

pub same_trms-true : (ts us : List Trm) → same_trms ts us ≡ true → ts ≡ us
same_trms-true [] [] e = refl
same_trms-true (t ∷ ts) (u ∷ us) e =
    let b : (same_trm t u ≡ true) × (same_trms ts us ≡ true) = and_both (same_trm t u) (same_trms ts us) e in
    λ i. same_trm-true t u b.0 i ∷ same_trms-true ts us b.1 i
same_trms-true [] (u ∷ us) e = cc
same_trms-true (t ∷ ts) [] e = cc

-- ---- each passes with itself

number_itself : (n : ℕ) → eqb n n ≡ true
number_itself n = elim (eqb_tells n n) [ inl h ↦ h.0 | inr h ↦ absurd (h.1 refl) ]

pub name_itself : (x : List ℕ) → bytes_eq x x ≡ true
name_itself x = (bytes_eq-Decides x x).1 refl

op_itself : (o : Op) → same_op o o ≡ true
op_itself add = refl
op_itself sub = refl
op_itself mul = refl
op_itself cons = refl
op_itself cat = refl
op_itself eq = refl
op_itself lt = refl
op_itself le = refl
op_itself conj = refl
op_itself disj = refl
op_itself imp = refl

pub sort_itself : (s : Sort) → same_sort s s ≡ true
sort_itself sort.Nat = refl
sort_itself sort.Bool = refl
sort_itself sort.Loc = refl
sort_itself sort.Unit = refl
sort_itself sort.Seq = refl

value_itself : (u : Value) → same_value u u ≡ true
value_itself (v.Nat n) = number_itself n
value_itself (v.Bool true) = refl
value_itself (v.Bool false) = refl
value_itself (v.Loc p) = same_here p
value_itself v.Unit = refl

val_itself : (x : Val) → same_val x x ≡ true
val_itself (is u) = value_itself u
val_itself (seq s) = name_itself s

pub term_itself : (u : Trm) → same_trm u u ≡ true
term_itself (lit x) = val_itself x
term_itself (free x) = name_itself x
term_itself (bound k) = number_itself k
term_itself (len u) = term_itself u
term_itself (off k u) = both_pass (eqb k k) (same_trm u u) (number_itself k) (term_itself u)
term_itself (neg u) = term_itself u
term_itself (op o u w) = both_pass (same_op o o && same_trm u u) (same_trm w w) (both_pass (same_op o o) (same_trm u u) (op_itself o) (term_itself u)) (term_itself w)

pub terms_itself : (us : List Trm) → same_trms us us ≡ true
terms_itself [] = refl
terms_itself (u ∷ us) = both_pass (same_trm u u) (same_trms us us) (term_itself u) (terms_itself us)
