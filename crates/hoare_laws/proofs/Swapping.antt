-- Names that are bound one after another, where they differ, may be bound in another order.
use Rattle.std.proofs.Common.{◌≡◌, Bool, true, false, cond, is_none, ℕ, List, Option, Some, None, refl, sym, ◌∙◌, ap, subst}
use mathlib.Core.Path.{fun_ext}
use Rattle.std.specs.Prelude.{bytes_eq}
use Rattle.tht_tree.specs.declared.plain.Sort.TheVariants as sort
use Rattle.tht_tree.specs.declared.walk.Class.{Class}
use Rattle.tht_tree.specs.declared.walk.Class.TheVariants as class
use Rattle.tht_tree.specs.declared.walk.WalkCode.TheVariants.{N2}
use Rattle.tht_tree.specs.Walk.Codes.{unless}
use Rattle.tht_tree.specs.Walk.Names as walk
use Rattle.tht_tree.specs.Walk.Names.{with_name, with_variable, with_hypothesis, with_parts, new_name, new_parts}
use Rattle.std.proofs.lemmas.Slice.Eq.{bytes_eq-Decides}
use Rattle.tht_tree.proofs.SameTerm.{bytes_eq-true}
use Rattle.proof_laws.proofs.WalkedTerms.{no_walk_code, first_none, unless_none}
use Rattle.assn_laws.proofs.Refusing.{no_class}

-- a name is new exactly where nothing has it
pub new_none : (names : walk.Scope) (x : List ℕ) → new_name names x ≡ no_walk_code → names x ≡ None
new_none names x e = no_class (names x) (unless_none (is_none (names x)) N2 e)

pub none_new : (names : walk.Scope) (x : List ℕ) → names x ≡ None → new_name names x ≡ no_walk_code
none_new names x e = ap (λ (o : Option Class). unless (is_none o) N2) e

-- what is new behind a name is another name, and was new before it
pub other_name : (names : walk.Scope) (x y : List ℕ) (k : Class) → with_name names x k y ≡ None → (bytes_eq x y ≡ false) × (names y ≡ None)
other_name names x y k = pick (bytes_eq x y)
  where
    pick : (b : Bool) → cond b (Some k) (names y) ≡ None → (b ≡ false) × (names y ≡ None)
    pick true e = cc
    pick false e = (refl, e)

turned : (x y : List ℕ) → bytes_eq x y ≡ false → bytes_eq y x ≡ false
turned x y e = pick (bytes_eq y x) refl
  where
    pick : (b : Bool) → bytes_eq y x ≡ b → b ≡ false
    pick true f = let same : bytes_eq x y ≡ true = ap (bytes_eq x) (bytes_eq-true y x f) ∙ (bytes_eq-Decides x x).1 refl in let never = sym e ∙ same in cc
    pick false f = refl

pub swapped : (names : walk.Scope) (x y : List ℕ) (a b : Class) → bytes_eq x y ≡ false → with_name (with_name names x a) y b ≡ with_name (with_name names y b) x a
swapped names x y a b e = fun_ext (λ z. pick z (bytes_eq x z) (bytes_eq y z) refl refl)
  where
    pick : (z : List ℕ) (p q : Bool) → bytes_eq x z ≡ p → bytes_eq y z ≡ q → cond q (Some b) (cond p (Some a) (names z)) ≡ cond p (Some a) (cond q (Some b) (names z))
    pick z true true f g = let same : bytes_eq x y ≡ true = ap (bytes_eq x) (bytes_eq-true y z g) ∙ f in let never = sym e ∙ same in cc
    pick z true false f g = refl
    pick z false true f g = refl
    pick z false false f g = refl

-- A hypothesis, and then the parts of a sequence.
module _ (names : walk.Scope) (n x s : List ℕ) (new : new_name names n ≡ no_walk_code) (parts : new_parts (with_hypothesis names n) x s ≡ no_walk_code) where
  abbrev inner : walk.Scope
  inner = with_hypothesis names n

  pub both : (new_name inner x ≡ no_walk_code) × (new_name (with_variable inner x sort.Nat) s ≡ no_walk_code)
  both = first_none (new_name inner x) (new_name (with_variable inner x sort.Nat) s) parts

  of_x : (bytes_eq n x ≡ false) × (names x ≡ None)
  of_x = other_name names n x class.Hypothesis (new_none inner x both.0)

  of_s : (bytes_eq x s ≡ false) × (inner s ≡ None)
  of_s = other_name inner x s (class.Logic sort.Nat) (new_none (with_variable inner x sort.Nat) s both.1)

  of_n : (bytes_eq n s ≡ false) × (names s ≡ None)
  of_n = other_name names n s class.Hypothesis of_s.1

  pub new_head : new_name names x ≡ no_walk_code
  new_head = none_new names x of_x.1

  pub new_last : new_name names s ≡ no_walk_code
  new_last = none_new names s of_n.1

  pub new_tail : new_name (with_variable names x sort.Nat) s ≡ no_walk_code
  new_tail = none_new (with_variable names x sort.Nat) s (ap (λ b. cond b (Some (class.Logic sort.Nat)) (names s)) of_s.0 ∙ of_n.1)

  pub new_behind : new_name (with_parts names x s) n ≡ no_walk_code
  new_behind =
      none_new (with_parts names x s) n
      (ap (λ b. cond b (Some (class.Logic sort.Seq)) (with_variable names x sort.Nat n)) (turned n s of_n.0) ∙ ap (λ b. cond b (Some (class.Logic sort.Nat)) (names n)) (turned n x of_x.0) ∙ new_none names n new)

  pub hypothesis_last : with_parts (with_hypothesis names n) x s ≡ with_hypothesis (with_parts names x s) n
  hypothesis_last =
      ap (λ z. with_variable z s sort.Seq) (swapped names n x class.Hypothesis (class.Logic sort.Nat) of_x.0)
      ∙ swapped (with_variable names x sort.Nat) n s class.Hypothesis (class.Logic sort.Seq) of_n.0
