-- The atoms of a `*`, and of what is neither that nor `emp`.
use Rattle.std.proofs.Common.{◌≡◌, ◌≢◌, List, [], ◌∷◌, ◌++◌, Result, Ok, Err, OnOk, OnErr, append-nil, append_assoc, refl, sym, ◌∙◌, ap, subst}
use Rattle.tht_tree.specs.declared.assn.Assn.{Assn}
use Rattle.tht_tree.specs.declared.assn.Assn.TheVariants as a
use Rattle.tht_logic.specs.Flatten.{flatten}
use Rattle.heap_assert.specs.FirstAtoms.{FirstAdded}
use Rattle.assn_laws.proofs.AssnLevels.{Star, Exists, Either, Star-is, Exists-is, Either-is}
use Rattle.assn_laws.proofs.Flattening.{flatten-Fact, flatten-Own, flatten-Shared, flatten-Star, flatten-Inst, flatten-Exists, flatten-Either}

abbrev IsOne : Assn → Type 0
IsOne p = flatten p ≡ p ∷ []

an_atom : (p : Assn) → p ≢ a.Emp → ((q r : Assn) → p ≢ a.Star q r) → flatten p ≡ p ∷ []
an_atom a.Emp e s = absurd (e refl)
an_atom (a.Fact t) e s = flatten-Fact t
an_atom (a.Own t u) e s = flatten-Own t u
an_atom (a.Shared t u) e s = flatten-Shared t u
an_atom (Star p q) e s = absurd (s p q (sym (Star-is p q)))
an_atom (a.Inst n ts) e s = flatten-Inst n ts
an_atom (Exists x r p) e s = subst IsOne (Exists-is x r p) (flatten-Exists x r p)
an_atom (Either p q) e s = subst IsOne (Either-is p q) (flatten-Either p q)

pub added_one : (whole : Assn) (before after : List Assn) → whole ≢ a.Emp → ((q r : Assn) → whole ≢ a.Star q r) → after ≡ before ++ whole ∷ [] → after ≡ before ++ flatten whole
added_one whole before after e s h = h ∙ sym (ap (λ (l : List Assn). before ++ l) (an_atom whole e s))

-- first those of the left part are added, and then those of the right part
pub added_both : (whole p q : Assn) (before between after : List Assn) → whole ≡ a.Star p q → between ≡ before ++ flatten p → after ≡ between ++ flatten q → after ≡ before ++ flatten whole
added_both whole p q before between after e f g =
    g ∙ ap (λ (l : List Assn). l ++ flatten q) f ∙ append_assoc before (flatten p) (flatten q) ∙ sym (ap (λ (l : List Assn). before ++ l) (ap flatten e ∙ flatten-Star p q))

pub if_ok : {T E : Type 0} (r : Result T E) (P Q : Type 0) → (P → Q) → OnOk r P → OnOk r Q
if_ok (Ok x) P Q f h = f h
if_ok (Err e) P Q f h = tt

-- ---- at want of memory

pub none_added : (before after all : List Assn) → after ≡ before → FirstAdded before after all
none_added before after all h = record { added = []; missing = all; whole = refl; now = h ∙ sym (append-nil before) }

-- some of those of the left part are added
pub left_added : (whole p q : Assn) (before after : List Assn) → whole ≡ a.Star p q → FirstAdded before after (flatten p) → FirstAdded before after (flatten whole)
left_added whole p q before after e f = record {
  added = f.added;
  missing = f.missing ++ flatten q;
  whole = ap flatten e ∙ flatten-Star p q ∙ ap (λ (l : List Assn). l ++ flatten q) f.whole ∙ append_assoc f.added f.missing (flatten q);
  now = f.now;
}

-- those of the left part are added, and some of those of the right part
pub right_added : (whole p q : Assn) (before between after : List Assn) → whole ≡ a.Star p q → between ≡ before ++ flatten p → FirstAdded between after (flatten q) → FirstAdded before after (flatten whole)
right_added whole p q before between after e h f = record {
  added = flatten p ++ f.added;
  missing = f.missing;
  whole = ap flatten e ∙ flatten-Star p q ∙ ap (λ (l : List Assn). flatten p ++ l) f.whole ∙ sym (append_assoc (flatten p) f.added f.missing);
  now = f.now ∙ ap (λ (l : List Assn). l ++ f.added) h ∙ append_assoc before (flatten p) f.added;
}

pub if_err : {T E : Type 0} (r : Result T E) (P Q : Type 0) → (P → Q) → OnErr r P → OnErr r Q
if_err (Ok x) P Q f h = tt
if_err (Err e) P Q f h = f h
