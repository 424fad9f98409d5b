-- Atoms that take the place of another: what is known then.
use Rattle.std.proofs.Common.{◌≡◌, ◌≢◌, ℕ, ◌≤◌, cond, [], ◌∷◌, Option, Some, None, Result, Ok, Err, OnOk, refl, sym, ◌∙◌, ap, arith}
use Rattle.std.proofs.lemmas.List.Elements.{All-head, All-tail}
use Rattle.std.specs.Ordering.{is_eq}
use Rattle.std.specs.Prelude.{All, IsSome, OnErr}
use Rattle.tht_tree.specs.declared.assn.Assn.{Assn}
use Rattle.tht_tree.specs.declared.assn.Assn.TheVariants as a
use Rattle.tht_tree.specs.Rules.Context.{Context, atom_at}
use Rattle.tht_logic.specs.Flatten.{flatten, with_atoms, with_assn}
use Rattle.assn_laws.proofs.Flattening.{flatten-Emp, flatten-Star}
use Rattle.assn_laws.proofs.AtomLists.{Atoms, All-without, order, below, same, above}
use Rattle.heap_rules.specs.Changes.{less, more}
use Rattle.heap_rules.proofs.FlatSizes.{an_atom}
use Rattle.heap_rules.proofs.MoreAtoms.{Numbered, with_both}

pub numbered_less : (i : ℕ) (c : Context) → Numbered c → Numbered (less i c)
numbered_less i c h = All-without (λ a. a.0 ≤ c.made) i c.atoms h

-- ---- the atoms of an assertion, form by form

pub with_none : (c : Context) → with_assn a.Emp c ≡ c
with_none c = ap (λ ps. with_atoms ps c) flatten-Emp

pub with_two : (p q : Assn) (c : Context) → with_assn (a.Star p q) c ≡ with_assn q (with_assn p c)
with_two p q c = ap (λ ps. with_atoms ps c) (flatten-Star p q) ∙ with_both (flatten p) (flatten q) c

pub with_one : (p : Assn) (c : Context) → p ≢ a.Emp → ((q r : Assn) → p ≢ a.Star q r) → with_assn p c ≡ more p c
with_one p c e s = ap (λ ps. with_atoms ps c) (an_atom p e s)

-- ---- the number of an atom that is there

number_at : (n i : ℕ) (p : Assn) (es : Atoms) → All (λ a. a.0 ≤ n) es → atom_at i es ≡ Some p → i ≤ n
number_at n i p [] h e = cc
number_at n i p (x ∷ es) h e = elim (order i x.0) [
  | below f l ↦ number_at n i p es (All-tail (λ a. a.0 ≤ n) x es h) (sym (ap (λ o. cond (is_eq o) (Some x.1) (atom_at i es)) f) ∙ e)
  | same f l ↦ let k = All-head (λ a. a.0 ≤ n) x es h in omega arith
  | above f l ↦ number_at n i p es (All-tail (λ a. a.0 ≤ n) x es h) (sym (ap (λ o. cond (is_eq o) (Some x.1) (atom_at i es)) f) ∙ e)
]

pub number_of : (n i : ℕ) (es : Atoms) → All (λ a. a.0 ≤ n) es → IsSome (atom_at i es) → i ≤ n
number_of n i es h there = pick (atom_at i es) refl there
  where
    pick : (o : Option Assn) → atom_at i es ≡ o → IsSome o → i ≤ n
    pick (Some p) e t = number_at n i p es h e
    pick None e t = cc

pub if_ok : {T E : Type 0} (r : Result T E) (P Q : Type 0) → (P → Q) → OnOk r P → OnOk r Q
if_ok (Ok x) P Q f h = f h
if_ok (Err e) P Q f h = tt

pub if_err : {T E : Type 0} (r : Result T E) (P Q : Type 0) → (P → Q) → OnErr r P → OnErr r Q
if_err (Ok x) P Q f h = tt
if_err (Err e) P Q f h = f h
