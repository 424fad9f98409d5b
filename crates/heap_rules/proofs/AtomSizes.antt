-- The sizes of lists of atoms, and of what is known without an atom and with another.
use Rattle.std.proofs.Common.{◌≡◌, ℕ, ◌+◌, ◌-◌, ◌^◌, ◌<◌, ◌≤◌, min, List, [], ◌∷◌, ◌++◌, map, fold, Option, sum_by, unwrap_or, refl, sym, ◌∙◌, ap, arith}
use Rattle.std.proofs.lemmas.Cmp.{nat_cmp_total}
use Rattle.std.proofs.lemmas.List.Sums.{sum_by_push}
use Rattle.std.proofs.lemmas.List.Elements.{All-head, All-tail}
use Rattle.std.proofs.lemmas.Map.Entries.{sum_by-remove_entry, sum_by-insert_entry}
use Rattle.std.specs.Prelude.{All}
use Rattle.std.specs.BTreeMap.{is_at}
use Rattle.std.specs.Map.{keys_of, values_of}
use Rattle.std.specs.Option.{option_map}
use Rattle.std.specs.Ordering.{nat_cmp}
use Rattle.std.specs.List.Sorted.{IsStrictlySortedBy}
use Rattle.tht_tree.specs.declared.assn.Assn.{Assn}
use Rattle.tht_tree.specs.Rules.Context.{Context, atom_at, with_atom, without_atom, context_nodes}
use Rattle.tht_tree.specs.Rules.Sizes.{assn_nodes}
use Rattle.assn_laws.proofs.AtomLists.{Atoms, order, below, same, above, with_above}
use Rattle.heap_rules.specs.Changes.{less, changed}
use Rattle.heap_rules.specs.Following.{IsAscending}

-- ---- the size of the atoms

abbrev pub atoms_nodes : Atoms → ℕ
atoms_nodes atoms = sum_by (λ x. assn_nodes x.1) atoms

abbrev pub nodes_of : Option Assn → ℕ
nodes_of o = unwrap_or (option_map assn_nodes o) 0

fold-map : {X Y : Type 0} (f : Y → ℕ) (g : X → Y) (n : ℕ) (xs : List X) → fold (λ a y. a + f y) n (map g xs) ≡ fold (λ a x. a + f (g x)) n xs
fold-map f g n [] = refl
fold-map f g n (x ∷ xs) = fold-map f g (n + f (g x)) xs

by_values : (es : Atoms) → sum_by assn_nodes (values_of es) ≡ atoms_nodes es
by_values es = fold-map assn_nodes (λ e. e.1) 0 es

plus : {a b c d : ℕ} → a ≡ c → b ≡ d → a + b ≡ c + d
plus e f = λ i. e i + f i

size_without : (i : ℕ) (es : Atoms) → atoms_nodes (without_atom i es) + nodes_of (atom_at i es) ≡ atoms_nodes es
size_without i es = plus (sym (by_values (without_atom i es))) refl ∙ sum_by-remove_entry assn_nodes (is_at (nat_cmp i)) es ∙ by_values es

size_with : (i : ℕ) (y : Assn) (es : Atoms) → IsStrictlySortedBy nat_cmp (keys_of es) → atoms_nodes (with_atom i y es) + nodes_of (atom_at i es) ≡ atoms_nodes es + assn_nodes y
size_with i y es sorted = plus (sym (by_values (with_atom i y es))) refl ∙ sum_by-insert_entry assn_nodes nat_cmp_total es i y sorted ∙ plus (by_values es) refl

-- ---- without an atom, and with another

module _ (i : ℕ) (c : Context) where
  pub less_nodes : context_nodes (less i c) + nodes_of (atom_at i c.atoms) ≡ context_nodes c
  less_nodes = let e = size_without i c.atoms in omega (arith, e)

  module _ (n s : ℕ) (counted : n ≡ context_nodes c) (range : n < 2 ^ 64) (size : s ≡ min (nodes_of (atom_at i c.atoms)) (2 ^ 64 - 1)) where
    pub is_within : s ≤ n
    is_within = let e = less_nodes in omega arith

    pub is_left : n - s ≡ context_nodes (less i c)
    is_left = let e = less_nodes in omega arith

  pub changed_nodes : (p : Assn) → IsAscending c → context_nodes (changed i p c) ≡ context_nodes (less i c) + assn_nodes p
  changed_nodes p sorted = let e = size_with i p c.atoms sorted in let f = size_without i c.atoms in omega (arith, e, f)

-- ---- with a new number

pub at_end : (n i : ℕ) (p : Assn) (es : Atoms) → All (λ a. a.0 ≤ n) es → n < i → with_atom i p es ≡ es ++ (i, p) ∷ []
at_end n i p [] h l = refl
at_end n i p (e ∷ es) h l =
    let head = All-head (λ a. a.0 ≤ n) e es h in
    let tail = at_end n i p es (All-tail (λ a. a.0 ≤ n) e es h) l in
    elim (order i e.0) [
      | below f g ↦ absurd (omega arith)
      | same f g ↦ absurd (omega arith)
      | above f g ↦ with_above i p e es f ∙ ap (λ z. e ∷ z) tail
    ]

pub size_new : (n i : ℕ) (p : Assn) (es : Atoms) → All (λ a. a.0 ≤ n) es → n < i → atoms_nodes (with_atom i p es) ≡ atoms_nodes es + assn_nodes p
size_new n i p es h l = ap atoms_nodes (at_end n i p es h l) ∙ sum_by_push (λ x. assn_nodes x.1) es (i, p)
