-- Parts of atoms: of a cell its place and its value, of an instance its arguments.
use Rattle.std.specs.Prelude.{ℕ, zero, suc, List, [], ◌∷◌, slice_get, Option, Some, None, option_map}
use Rattle.tht_tree.specs.declared.term.Term.{Term}
use Rattle.tht_tree.specs.declared.assn.Assn.{Assn}
use Rattle.tht_tree.specs.declared.assn.Assn.TheVariants as assn
use Rattle.tht_tree.specs.declared.assn.Assn.TheOpen as a

-- A part of an atom, and the atom with another term in its place.
pub record Part : Type 0 where
  pub term : Term
  pub with : Term → Assn

-- the first or the second of two
abbrev pub side : {A : Type 0} → ℕ → A → A → Option A
side zero x y = None
side (suc zero) x y = Some x
side (suc (suc zero)) x y = Some y
side (suc (suc (suc k))) x y = None

-- the items, with another at k, from 0
abbrev pub replaced : {A : Type 0} → ℕ → A → List A → List A
replaced k y [] = []
replaced zero y (x ∷ xs) = y ∷ xs
replaced (suc k) y (x ∷ xs) = x ∷ replaced k y xs

-- argument k of an instance, from 0
abbrev pub argument : ℕ → List ℕ → List Term → Option Part
argument k q ts = option_map (λ t. record { term = t; with = λ u. assn.Inst q (replaced k u ts) }) (slice_get ts k)

abbrev pub argument_from_1 : ℕ → List ℕ → List Term → Option Part
argument_from_1 zero q ts = None
argument_from_1 (suc k) q ts = argument k q ts

-- Part k, from 1: of a cell its place and its value, of an instance its arguments.
abbrev pub part_at : ℕ → a.Assn-F Assn → Option Part
part_at k (a.Own t u) = side k (record { term = t; with = λ w. assn.Own w u }) (record { term = u; with = λ w. assn.Own t w })
part_at k (a.Shared t u) = side k (record { term = t; with = λ w. assn.Shared w u }) (record { term = u; with = λ w. assn.Shared t w })
part_at k (a.Inst q ts) = argument_from_1 k q ts
part_at k _ = None
