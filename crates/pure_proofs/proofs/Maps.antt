-- A map of local names once a name was put in or taken out.
use Rattle.std.proofs.Common.{◌≡◌, ℕ, List, Bool, true, false, cond, Option, Some, None, refl, sym, ◌∙◌, ap}
use Rattle.std.specs.Prelude.{bytes_eq}
use mathlib.Core.Path.{fun_ext}
use Rattle.std.specs.BTreeMap.{BTreeMap, UpdatesBy, is_at}
use Rattle.std.specs.Map.{lookup}
use Rattle.std.specs.Cmp.Lexicographic.{slice_cmp}
use Rattle.std.specs.Ordering.{nat_cmp}
use Rattle.std.specs.String.{string_cmp, string_bytes}
use Rattle.std.specs.declared.string.String.{String}
use Rattle.std.proofs.lemmas.Map.Text.{btree_map_updates_text}
use Rattle.std.proofs.lemmas.Slice.Eq.{bytes_eq-Decides}
use Rattle.tht_tree.specs.declared.state.Local.{Local}
use Rattle.tht_tree.specs.declared.state.Local.TheVariants.{Hypothesis}
use Rattle.tht_tree.specs.Rules.Context.{Scope, with_local}
use Rattle.pure_terms.specs.Locals.{locals_of}

abbrev Puts : {Y : Type 0} → BTreeMap (String Y) Local → BTreeMap (String Y) Local → List ℕ → Option Local → Type 0
Puts m n x w = UpdatesBy string_cmp (λ k. slice_cmp nat_cmp x (string_bytes k)) m n w

pub locals_with : {Y : Type 0} (m n : BTreeMap (String Y) Local) (x y : List ℕ) (l : Local) → Puts m n x (Some l) → x ≡ y → locals_of n ≡ with_local (locals_of m) y l
locals_with m n x y l u e = fun_ext (btree_map_updates_text x m n (Some l) u) ∙ ap (λ z. with_local (locals_of m) z l) e

-- the second of two that are put in for a name counts
twice : (was : Scope) (x : List ℕ) (k l : Local) → with_local (with_local was x k) x l ≡ with_local was x l
twice was x k l = fun_ext (λ y. by (bytes_eq x y) (was y))
  where
    by : (b : Bool) (o : Option Local) → cond b (Some l) (cond b (Some k) o) ≡ cond b (Some l) o
    by true o = refl
    by false o = refl

pub set_again : {Y : Type 0} (m n : BTreeMap (String Y) Local) (x y : List ℕ) (l : Local) (was : Scope) → Puts m n x (Some l) → x ≡ y → locals_of m ≡ with_local was y Hypothesis
    → locals_of n ≡ with_local was y l
set_again m n x y l was u e old = locals_with m n x y l u e ∙ ap (λ s. with_local s y l) old ∙ twice was y Hypothesis l

-- what stands for a name that was put in
pub put_there : (was : Scope) (x : List ℕ) (l : Local) → with_local was x l x ≡ Some l
put_there was x l = ap (λ b. cond b (Some l) (was x)) ((bytes_eq-Decides x x).1 refl)

pub not_gone : {A : Type 0} {Y : Type 0} (m : BTreeMap (String Y) Local) (x : List ℕ) (was : Scope) → locals_of m ≡ with_local was x Hypothesis → locals_of m x ≡ None → A
not_gone m x was e n = let h = sym n ∙ ap (λ s. s x) e ∙ put_there was x Hypothesis in cc

-- a name that stood for l before stands for it again
pub set_back : {Y : Type 0} (m : BTreeMap (String Y) Local) (was : Scope) (x : List ℕ) (l : Local) → locals_of m ≡ with_local was x l → was x ≡ Some l → locals_of m ≡ was
set_back m was x l e f = e ∙ fun_ext (λ y. by y (bytes_eq x y) refl)
  where
    by : (y : List ℕ) (b : Bool) → bytes_eq x y ≡ b → with_local was x l y ≡ was y
    by y true g = ap (λ b. cond b (Some l) (was y)) g ∙ sym f ∙ ap was ((bytes_eq-Decides x y).0 g)
    by y false g = ap (λ b. cond b (Some l) (was y)) g

-- a name that stood for nothing before stands for nothing again
pub take_out : {Y : Type 0} (m n : BTreeMap (String Y) Local) (x y : List ℕ) (k : Local) (was : Scope) → Puts m n x None → x ≡ y → locals_of m ≡ with_local was y k → was y ≡ None
    → locals_of n ≡ was
take_out m n x y k was u e old f = fun_ext (λ z. btree_map_updates_text x m n None u z ∙ ap (λ b. cond b None (locals_of m z)) (ap (λ v. bytes_eq v z) e) ∙ ap (λ s. cond (bytes_eq y z) None (s z)) old ∙ by z (bytes_eq y z) refl)
  where
    by : (z : List ℕ) (b : Bool) → bytes_eq y z ≡ b → cond (bytes_eq y z) None (with_local was y k z) ≡ was z
    by z true g = ap (λ b. cond b None (with_local was y k z)) g ∙ sym f ∙ ap was ((bytes_eq-Decides y z).0 g)
    by z false g = ap (λ b. cond b None (cond b (Some k) (was z))) g

-- the same entries say the same
pub locals_same : {Y : Type 0} (m n : BTreeMap (String Y) Local) → n.entries ≡ m.entries → locals_of n ≡ locals_of m
locals_same m n e = λ i x. lookup (is_at (λ k. slice_cmp nat_cmp x (string_bytes k))) (e i)
