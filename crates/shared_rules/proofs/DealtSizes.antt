-- How large the frame is.
use Rattle.std.proofs.Common.{◌≡◌, ℕ, ◌+◌, ◌≤◌, List, [], ◌∷◌, map, fold, Option, Ok, sum_by, unwrap_or, refl, sym, ◌∙◌, ap, arith}
use Rattle.std.proofs.lemmas.Map.Entries.{sum_by-remove_entry}
use Rattle.std.specs.BTreeMap.{is_at}
use Rattle.std.specs.Map.{values_of}
use Rattle.std.specs.Option.{option_map}
use Rattle.std.specs.Ordering.{nat_cmp}
use Rattle.tht_tree.specs.declared.assn.Assn.{Assn}
use Rattle.tht_tree.specs.declared.plain.Spot.{Spot}
use Rattle.tht_tree.specs.Rules.Context.{Context, atom_at, without_atom, context_nodes}
use Rattle.tht_tree.specs.Rules.Sizes.{assn_nodes}
use Rattle.tht_logic.specs.Rules.Calls.{Dealt, dealt}
use Rattle.tht_logic.specs.Rules.Gives.{Atoms}
use Rattle.shared_rules.proofs.Dealt.{First, first_of, none_dealt}

abbrev atoms_nodes : Atoms → ℕ
atoms_nodes atoms = sum_by (λ x. assn_nodes x.1) atoms

abbrev nodes_of : Option Assn → ℕ
nodes_of o = unwrap_or (option_map assn_nodes o) 0

fold-map : {X Y : Type 0} (f : Y → ℕ) (g : X → Y) (n : ℕ) (xs : List X) → fold (λ a y. a + f y) n (map g xs) ≡ fold (λ a x. a + f (g x)) n xs
fold-map f g n [] = refl
fold-map f g n (x ∷ xs) = fold-map f g (n + f (g x)) xs

by_values : (es : Atoms) → sum_by assn_nodes (values_of es) ≡ atoms_nodes es
by_values es = fold-map assn_nodes (λ e. e.1) 0 es

size_without : (i : ℕ) (es : Atoms) → atoms_nodes (without_atom i es) + nodes_of (atom_at i es) ≡ atoms_nodes es
size_without i es =
    (λ k. sym (by_values (without_atom i es)) k + nodes_of (atom_at i es)) ∙ sum_by-remove_entry assn_nodes (is_at (nat_cmp i)) es ∙ by_values es

-- the atoms of the frame have no more nodes
frame_smaller : (spot : Spot) (ns : List ℕ) (atoms : Atoms) (d : Dealt) → dealt spot ns atoms ≡ Ok d → atoms_nodes d.frame ≤ atoms_nodes atoms
frame_smaller spot [] atoms d e = let is = ap atoms_nodes (none_dealt spot atoms d e).1 in omega (arith, is)
frame_smaller spot (i ∷ ns) atoms d e =
    let w : First spot i ns atoms d = first_of spot i ns atoms d e in
    let more = frame_smaller spot ns (without_atom i atoms) w.others w.deals in
    let size = size_without i atoms in
    let is = ap atoms_nodes w.frame in
    omega (arith, more, size, is)

pub left_smaller : (spot : Spot) (ns : List ℕ) (c : Context) (d : Dealt) → dealt spot ns c.atoms ≡ Ok d → context_nodes (record c { atoms = d.frame }) ≤ context_nodes c
left_smaller spot ns c d e = let less = frame_smaller spot ns c.atoms d e in omega (arith, less)
