-- The numbers of atoms that are there.
use Rattle.std.proofs.Common.{◌≡◌, ℕ, ◌≤◌, List, [], ◌∷◌, Some, sym, ◌∙◌, ap, cond, arith}
use Rattle.std.specs.Prelude.{All}
use Rattle.std.specs.Ordering.{is_eq}
use Rattle.std.proofs.lemmas.List.Elements.{All-head, All-tail}
use Rattle.tht_tree.specs.declared.assn.Assn.{Assn}
use Rattle.tht_tree.specs.Rules.Context.{atom_at}
use Rattle.assn_laws.proofs.AtomLists.{order, below, same, above}

-- the number of an atom that is there is at most the number made
pub number_at : (n i : ℕ) (y : Assn) (es : List (ℕ × Assn)) → All (λ x. x.0 ≤ n) es → atom_at i es ≡ Some y → i ≤ n
number_at n i y [] all e = cc
number_at n i y (x ∷ es) all e = elim (order i x.0) [
  | below f l ↦ let h = All-head (λ x. x.0 ≤ n) x es all in omega arith
  | same f l ↦ let h = All-head (λ x. x.0 ≤ n) x es all in omega arith
  | above f l ↦ number_at n i y es (All-tail (λ x. x.0 ≤ n) x es all) (sym (ap (λ o. cond (is_eq o) (Some x.1) (atom_at i es)) f) ∙ e)
]
