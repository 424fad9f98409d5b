-- The sizes of what is known after each statement, by a count of nodes that stays at 2^64 - 1.
use Rattle.std.proofs.Common.{◌≡◌, ℕ, suc, ◌+◌, ◌-◌, ◌^◌, ◌<◌, ◌≤◌, Bool, true, false, ◌&&◌, leb, ltb, min, List, [], ◌∷◌, ◌++◌, length, Option, Some, Ok, sum_by, unwrap_or, refl, sym, ◌∙◌, ap, arith}
use Rattle.std.proofs.lemmas.Bool.{lt-ltb, le-ltb, leb-true, leb-false, lt-leb}
use Rattle.std.proofs.lemmas.Cmp.{nat_cmp_total}
use Rattle.std.proofs.lemmas.List.Elements.{All-head, All-tail}
use Rattle.std.proofs.lemmas.List.Sums.{sum_by_push}
use Rattle.std.proofs.lemmas.Map.Entries.{sum_by-remove_entry, sum_by-insert_entry}
use Rattle.std.specs.Prelude.{All}
use Rattle.std.specs.BTreeMap.{is_at}
use Rattle.std.specs.Map.{keys_of, values_of}
use Rattle.std.specs.Option.{option_map}
use Rattle.std.specs.Ordering.{nat_cmp}
use Rattle.std.specs.List.Sorted.{IsStrictlySortedBy}
use Rattle.tht_tree.specs.declared.assn.Assn.{Assn}
use Rattle.tht_tree.specs.declared.assn.Assn.TheVariants as a
use Rattle.tht_tree.specs.declared.plain.Spot.{Spot}
use Rattle.tht_tree.specs.declared.rule.RuleCode.TheVariants.{R10}
use Rattle.tht_tree.specs.declared.state.Hyp.{Hyp}
use Rattle.tht_tree.specs.declared.term.Term.{Term}
use Rattle.tht_tree.specs.Rules.Context.{Context, Scope, atom_at, with_atom, without_atom, context_nodes}
use Rattle.tht_logic.specs.Flatten.{with_atoms}
use Rattle.tht_logic.specs.Rules.Checking.{Checked, reject, on_true, if_fits}
use Rattle.tht_logic.specs.Rules.Commands.{new_cells}
use Rattle.tht_tree.specs.Rules.Sizes.{nodes, assn_nodes}
use Rattle.heap_rules.specs.Following.{IsAscending}
use Rattle.hoare_rules.specs.Steps.{write_context, free_context, with_next, all_nodes}
use Rattle.hoare_rules.proofs.CellSizes.{own_nodes}
use Rattle.assn_laws.proofs.AtomLists.{Atoms, order, below, same, above, with_above, All-with}
use Rattle.hoare_rules.proofs.Sums.{sum_by-map}

-- ---- limits

abbrev within : Spot → Context → Bool → Checked Context
within spot c b = on_true spot R10 b (Ok c)

-- the limit of a context, by a count of its nodes that stays at 2^64 - 1
module _ (spot : Spot) (c : Context) (n : ℕ) (capped : n ≡ min (context_nodes c) (2 ^ 64 - 1)) where
  pub too_large : false ≡ leb n 262144 → if_fits spot c ≡ reject spot R10
  too_large e =
      let above : leb (context_nodes c) 262144 ≡ false = lt-leb (context_nodes c) 262144 (omega (arith, leb-false n 262144 (sym e))) in
      ap (λ b. within spot c (b && ltb c.made (2 ^ 32))) above

  pub is_counted : true ≡ leb n 262144 → n ≡ context_nodes c
  is_counted e = omega (arith, leb-true n 262144 (sym e))

  pub not_too_large : c.made < 2 ^ 32 → true ≡ leb n 262144 → if_fits spot c ≡ Ok c
  not_too_large small e =
      let fits : leb (context_nodes c) 262144 ≡ true = ap (λ k. leb k 262144) (sym (is_counted e)) ∙ sym e in
      ap (within spot c) (λ i. fits i && lt-ltb c.made (2 ^ 32) small i)

second_false : (a b : Bool) → b ≡ false → (a && b) ≡ false
second_false true b e = e
second_false false b e = refl

-- too many atoms were numbered
pub too_many : (spot : Spot) (c : Context) → 2 ^ 32 ≤ c.made → if_fits spot c ≡ reject spot R10
too_many spot c many = ap (within spot c) (second_false (leb (context_nodes c) 262144) (ltb c.made (2 ^ 32)) (le-ltb c.made (2 ^ 32) many))

-- ---- the size of the atoms

abbrev pub atoms_nodes : Atoms → ℕ
atoms_nodes atoms = sum_by (λ x. assn_nodes x.1) atoms

by_values : (es : Atoms) → sum_by assn_nodes (values_of es) ≡ atoms_nodes es
by_values es = sum_by-map assn_nodes (λ e. e.1) es

abbrev nodes_of : Option Assn → ℕ
nodes_of o = unwrap_or (option_map assn_nodes o) 0

plus : {a b c d : ℕ} → a ≡ c → b ≡ d → a + b ≡ c + d
plus e f = λ i. e i + f i

size_without : (i : ℕ) (es : Atoms) (x : Assn) → atom_at i es ≡ Some x → atoms_nodes (without_atom i es) + assn_nodes x ≡ atoms_nodes es
size_without i es x at =
    plus (sym (by_values (without_atom i es))) (sym (ap nodes_of at)) ∙ sum_by-remove_entry assn_nodes (is_at (nat_cmp i)) es ∙ by_values es

size_with : (i : ℕ) (y : Assn) (es : Atoms) (o : Option Assn) → IsStrictlySortedBy nat_cmp (keys_of es) → atom_at i es ≡ o → atoms_nodes (with_atom i y es) + nodes_of o ≡ atoms_nodes es + assn_nodes y
size_with i y es o sorted at =
    plus (sym (by_values (with_atom i y es))) (sym (ap nodes_of at)) ∙ sum_by-insert_entry assn_nodes nat_cmp_total es i y sorted ∙ plus (by_values es) refl

-- ---- the atom of a cell

module _ (c : Context) (i : ℕ) (t v : Term) (at : atom_at i c.atoms ≡ Some (a.Own t v)) where
  pub free_size : context_nodes (free_context c i) + (nodes t + nodes v + 1) ≡ context_nodes c
  free_size = let e = size_without i c.atoms (a.Own t v) at in let g = own_nodes t v in omega (arith, e, g)

  -- what is left of the count
  pub free_left : (n s : ℕ) → n ≡ context_nodes c → n < 2 ^ 64 → s ≡ min (nodes t + nodes v + 1) (2 ^ 64 - 1) → (s ≤ n) × (n - s ≡ min (context_nodes (free_context c i)) (2 ^ 64 - 1))
  free_left n s counted range size = let e = free_size in (omega arith, omega arith)

  pub write_size : (u : Term) → IsAscending c → context_nodes (write_context c i t u) + nodes v ≡ context_nodes c + nodes u
  write_size u sorted = let e = size_with i (a.Own t u) c.atoms (Some (a.Own t v)) sorted at in let g = own_nodes t u in let h = own_nodes t v in omega (arith, e, g, h)

  pub value_within : (n s : ℕ) → n ≡ context_nodes c → s ≡ min (nodes v) (2 ^ 64 - 1) → s ≤ n
  value_within n s counted size = let e = free_size in omega arith

  -- the count with the new value's nodes in place of the old one's
  pub write_left : (u : Term) → IsAscending c → (n s k m : ℕ) → n ≡ context_nodes c → n < 2 ^ 64 → s ≡ min (nodes v) (2 ^ 64 - 1) → k ≡ min (nodes u) (2 ^ 64 - 1) → m ≡ min (n - s + k) (2 ^ 64 - 1) →
      m ≡ min (context_nodes (write_context c i t u)) (2 ^ 64 - 1)
  write_left u sorted n s k m counted range old new sum = let e = write_size u sorted in let f = free_size in omega arith

-- ---- atoms that are added

-- an atom with a number above all others stands behind them
with_new : (n i : ℕ) (p : Assn) (es : Atoms) → All (λ e. e.0 ≤ n) es → n < i → with_atom i p es ≡ es ++ (i, p) ∷ []
with_new n i p [] all l = refl
with_new n i p (e ∷ es) all l =
    let head = All-head (λ e. e.0 ≤ n) e es all in
    let tail = with_new n i p es (All-tail (λ e. e.0 ≤ n) e es all) l in
    elim (order i e.0) [
      | below f g ↦ absurd (omega arith)
      | same f g ↦ absurd (omega arith)
      | above f g ↦ with_above i p e es f ∙ ap (λ z. e ∷ z) tail
    ]

abbrev pub IsNumbered : Context → Type 0
IsNumbered c = All (λ e. e.0 ≤ c.made) c.atoms

module _ (c : Context) (numbered : IsNumbered c) (p : Assn) where
  pub next_size : context_nodes (with_next p c) ≡ context_nodes c + assn_nodes p
  next_size =
      let e : atoms_nodes (with_atom (c.made + 1) p c.atoms) ≡ atoms_nodes (c.atoms ++ (c.made + 1, p) ∷ []) = ap atoms_nodes (with_new c.made (c.made + 1) p c.atoms numbered (omega arith)) in
      let f = sum_by_push (λ x. assn_nodes x.1) c.atoms (c.made + 1, p) in
      omega (arith, e, f)

  pub next_numbered : IsNumbered (with_next p c)
  next_numbered =
      let more : All (λ e. e.0 ≤ c.made + 1) c.atoms = λ k d l. let h = numbered k d l in omega arith in
      All-with (λ e. e.0 ≤ c.made + 1) (c.made + 1) p c.atoms more (omega arith)

-- the size of all that is known, with these atoms too
pub added_size : (ps : List Assn) (c : Context) → IsNumbered c → context_nodes (with_atoms ps c) ≡ context_nodes c + all_nodes ps
added_size [] c numbered = omega arith
added_size (p ∷ ps) c numbered =
    let e = next_size c numbered p in
    let f = added_size ps (with_next p c) (next_numbered c numbered p) in
    omega (arith, e, f)

-- the last number then
pub added_made : (ps : List Assn) (c : Context) → (with_atoms ps c).made ≡ c.made + length ps
added_made [] c = omega arith
added_made (p ∷ ps) c = let e = added_made ps (with_next p c) in omega (arith, e)

pub cells_count : (x : List ℕ) (k : ℕ) (ts : List Term) → length (new_cells x k ts) ≡ length ts
cells_count x k [] = refl
cells_count x k (t ∷ ts) = ap suc (cells_count x (suc k) ts)

-- the count with those of these atoms
pub more_left : (c d : Context) (ps : List Assn) → context_nodes d ≡ context_nodes c + all_nodes ps → (n s m : ℕ) → n ≡ context_nodes c → min s (2 ^ 64 - 1) ≡ min (all_nodes ps) (2 ^ 64 - 1) → m ≡ min (n + s) (2 ^ 64 - 1) → m ≡ min (context_nodes d) (2 ^ 64 - 1)
more_left c d ps e n s m counted new sum = omega arith

pub same_context : {s z : Scope} {hs gs : List Hyp} {xs ys : Atoms} {m n : ℕ} → s ≡ z → hs ≡ gs → xs ≡ ys → m ≡ n →
    ◌≡◌ {A = Context} (record { scope = s; hyps = hs; atoms = xs; made = m }) (record { scope = z; hyps = gs; atoms = ys; made = n })
same_context e f g h = λ i. record { scope = e i; hyps = f i; atoms = g i; made = h i }
