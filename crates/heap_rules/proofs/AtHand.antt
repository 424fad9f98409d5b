-- Atoms that are left where some were consumed, by their numbers.
use Rattle.std.proofs.Common.{◌≡◌, ◌≢◌, ℕ, ◌+◌, Bool, true, false, cond, List, [], ◌∷◌, Option, Some, None, sum_by, unwrap_or, refl, sym, ◌∙◌, ap, arith}
use Rattle.std.proofs.lemmas.Map.Entries.{sum_by-remove_entry}
use Rattle.std.specs.Prelude.{◌||◌}
use Rattle.std.specs.List.{list_any}
use Rattle.std.specs.BTreeMap.{is_at}
use Rattle.std.specs.BTreeSet.{insert_key}
use Rattle.std.specs.Map.{values_of}
use Rattle.std.specs.Option.{option_map}
use Rattle.std.specs.Ordering.{nat_cmp, is_eq, match_ordering}
use Rattle.tht_tree.specs.declared.assn.Assn.{Assn}
use Rattle.tht_tree.specs.Rules.Context.{atom_at, without_atom}
use Rattle.tht_tree.specs.Rules.Sizes.{assn_nodes}
use Rattle.tht_logic.specs.Rules.Gives.{Atoms}
use Rattle.assn_laws.proofs.AtomLists.{order, below, same, above, Ascends, Ascends-without}
use Rattle.assn_laws.proofs.TakenAtoms.{at_other, at_same}
use Rattle.pure_proofs.proofs.Sums.{sum_by-map}
use Rattle.heap_rules.specs.ConsumedAtoms.{without_each, atoms_nodes}

-- whether two numbers are one
number_tells : (i j : ℕ) → (b : Bool) × (is_eq (nat_cmp i j) ≡ b) × ((b ≡ true → i ≡ j) × (b ≡ false → i ≢ j))
number_tells i j = elim (order i j) [
  | below f l ↦ (false, ap is_eq f, (λ e. cc, λ e h. omega (arith, l, h)))
  | same f l ↦ (true, ap is_eq f, (λ e. l, λ e. cc))
  | above f l ↦ (false, ap is_eq f, (λ e. cc, λ e h. omega (arith, l, h)))
]

without_head : (i : ℕ) (e : ℕ × Assn) (es : Atoms) (b : Bool) → is_eq (nat_cmp i e.0) ≡ b → without_atom i (e ∷ es) ≡ cond b es (e ∷ without_atom i es)
without_head i e es b g = ap (λ c. cond c es (e ∷ without_atom i es)) g

-- two that are taken away, in either order
turned : (i j : ℕ) (es : Atoms) → without_atom i (without_atom j es) ≡ without_atom j (without_atom i es)
turned i j [] = refl
turned i j (e ∷ es) = pick (number_tells i e.0) (number_tells j e.0) (turned i j es)
  where
    pick : ((b : Bool) × (is_eq (nat_cmp i e.0) ≡ b) × ((b ≡ true → i ≡ e.0) × (b ≡ false → i ≢ e.0))) → ((b : Bool) × (is_eq (nat_cmp j e.0) ≡ b) × ((b ≡ true → j ≡ e.0) × (b ≡ false → j ≢ e.0)))
        → without_atom i (without_atom j es) ≡ without_atom j (without_atom i es) → without_atom i (without_atom j (e ∷ es)) ≡ without_atom j (without_atom i (e ∷ es))
    pick (true, f, g) (true, k, l) more =
        let is : i ≡ j = g.0 refl ∙ sym (l.0 refl) in
        ap (λ n. without_atom n (without_atom j (e ∷ es))) is ∙ ap (λ n. without_atom j (without_atom n (e ∷ es))) (sym is)
    pick (true, f, g) (false, k, l) more =
        ap (without_atom i) (without_head j e es false k) ∙ without_head i e (without_atom j es) true f ∙ sym (ap (without_atom j) (without_head i e es true f))
    pick (false, f, g) (true, k, l) more =
        ap (without_atom i) (without_head j e es true k) ∙ sym (ap (without_atom j) (without_head i e es false f) ∙ without_head j e (without_atom i es) true k)
    pick (false, f, g) (false, k, l) more =
        ap (without_atom i) (without_head j e es false k) ∙ without_head i e (without_atom j es) false f ∙ ap (λ z. e ∷ z) more
        ∙ sym (ap (without_atom j) (without_head i e es false f) ∙ without_head j e (without_atom i es) false k)

first_last : (i : ℕ) (is : List ℕ) (es : Atoms) → without_each is (without_atom i es) ≡ without_atom i (without_each is es)
first_last i [] es = refl
first_last i (j ∷ is) es = ap (without_each is) (turned j i es) ∙ first_last i is (without_atom j es)

-- one number more
pub each_more : (i : ℕ) (is : List ℕ) (es : Atoms) → list_any (is_at (nat_cmp i)) is ≡ false → without_each (insert_key nat_cmp is i) es ≡ without_atom i (without_each is es)
each_more i [] es n = refl
each_more i (j ∷ is) es n = elim (order i j) [
  | below f l ↦ ap (λ o. without_each (match_ordering o (i ∷ j ∷ is) (j ∷ is) (j ∷ insert_key nat_cmp is i)) es) f ∙ first_last i (j ∷ is) es
  | same f l ↦ let z : true ≡ false = sym (ap (λ o. is_eq o || list_any (is_at (nat_cmp i)) is) f) ∙ n in cc
  | above f l ↦
      ap (λ o. without_each (match_ordering o (i ∷ j ∷ is) (j ∷ is) (j ∷ insert_key nat_cmp is i)) es) f
      ∙ each_more i is (without_atom j es) (sym (ap (λ o. is_eq o || list_any (is_at (nat_cmp i)) is) f) ∙ n)
]

-- ---- the atom with a number

abbrev Told : ℕ → ℕ → Type 0
Told i j = (b : Bool) × (is_eq (nat_cmp i j) ≡ b) × ((b ≡ true → i ≡ j) × (b ≡ false → i ≢ j))

none_still : (i k : ℕ) (es : Atoms) → atom_at i es ≡ None → atom_at i (without_atom k es) ≡ None
none_still i k [] e = e
none_still i k (x ∷ es) e = pick (is_eq (nat_cmp k x.0)) (is_eq (nat_cmp i x.0)) refl (none_still i k es) e
  where
    pick : (b c : Bool) → is_eq (nat_cmp i x.0) ≡ c → (atom_at i es ≡ None → atom_at i (without_atom k es) ≡ None) → cond c (Some x.1) (atom_at i es) ≡ None → atom_at i (cond b es (x ∷ without_atom k es)) ≡ None
    pick b true q more e = cc
    pick true false q more e = e
    pick false false q more e = ap (λ c. cond c (Some x.1) (atom_at i (without_atom k es))) q ∙ more e

pub none_left : (i : ℕ) (is : List ℕ) (es : Atoms) → atom_at i es ≡ None → atom_at i (without_each is es) ≡ None
none_left i [] es e = e
none_left i (k ∷ is) es e = none_left i is (without_atom k es) (none_still i k es e)

-- one that was taken away is there no more
pub gone : (i : ℕ) (is : List ℕ) (es : Atoms) → Ascends es → list_any (is_at (nat_cmp i)) is ≡ true → None ≡ atom_at i (without_each is es)
gone i [] es h e = cc
gone i (j ∷ is) es h e = pick (number_tells i j) (gone i is (without_atom j es) (Ascends-without j es h))
  where
    pick : Told i j → (list_any (is_at (nat_cmp i)) is ≡ true → None ≡ atom_at i (without_each is (without_atom j es))) → None ≡ atom_at i (without_each is (without_atom j es))
    pick (true, f, g) more = sym (none_left i is (without_atom j es) (ap (λ k. atom_at k (without_atom j es)) (g.0 refl) ∙ at_same j es h))
    pick (false, f, g) more = more (sym (ap (λ b. b || list_any (is_at (nat_cmp i)) is) f) ∙ e)

-- the others are
pub still_there : (i : ℕ) (is : List ℕ) (es : Atoms) → list_any (is_at (nat_cmp i)) is ≡ false → atom_at i es ≡ atom_at i (without_each is es)
still_there i [] es e = refl
still_there i (j ∷ is) es e = pick (number_tells i j) (still_there i is (without_atom j es))
  where
    pick : Told i j → (list_any (is_at (nat_cmp i)) is ≡ false → atom_at i (without_atom j es) ≡ atom_at i (without_each is (without_atom j es))) → atom_at i es ≡ atom_at i (without_each is (without_atom j es))
    pick (true, f, g) more = let z : true ≡ false = sym (ap (λ b. b || list_any (is_at (nat_cmp i)) is) f) ∙ e in cc
    pick (false, f, g) more = sym (at_other i j es (g.1 refl)) ∙ more (sym (ap (λ b. b || list_any (is_at (nat_cmp i)) is) f) ∙ e)

-- ---- sizes

by_values : (es : Atoms) → sum_by assn_nodes (values_of es) ≡ atoms_nodes es
by_values es = sum_by-map assn_nodes (λ e. e.1) es

abbrev nodes_of : Option Assn → ℕ
nodes_of o = unwrap_or (option_map assn_nodes o) 0

plus : {a b c d : ℕ} → a ≡ c → b ≡ d → a + b ≡ c + d
plus e f = λ i. e i + f i

-- an atom that is taken away
pub size_without : (i : ℕ) (es : Atoms) (x : Assn) → atom_at i es ≡ Some x → atoms_nodes (without_atom i es) + assn_nodes x ≡ atoms_nodes es
size_without i es x at =
    plus (sym (by_values (without_atom i es))) (sym (ap nodes_of at)) ∙ sum_by-remove_entry assn_nodes (is_at (nat_cmp i)) es ∙ by_values es
