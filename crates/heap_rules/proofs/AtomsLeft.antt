-- Consumed atoms: their numbers, and the nodes that are left.
use Rattle.std.proofs.Common.{◌≡◌, ℕ, ◌+◌, ◌-◌, ◌^◌, ◌<◌, ◌≤◌, true, min, List, [], ◌∷◌, length, Some, None, refl, sym, ◌∙◌, ap, arith}
use Rattle.std.specs.Prelude.{All}
use Rattle.std.specs.List.{list_any}
use Rattle.std.specs.List.Sorted.{IsStrictlySortedBy}
use Rattle.std.specs.BTreeMap.{is_at}
use Rattle.std.specs.BTreeSet.{insert_key}
use Rattle.std.specs.Map.{keys_of}
use Rattle.std.specs.Ordering.{nat_cmp}
use Rattle.tht_tree.specs.declared.assn.Assn.{Assn}
use Rattle.tht_tree.specs.Rules.Context.{Context, context_nodes, atom_at, without_atom}
use Rattle.tht_tree.specs.Rules.Sizes.{assn_nodes}
use Rattle.tht_logic.specs.Rules.Gives.{Atoms}
use Rattle.assn_laws.proofs.AtomLists.{ascends_from}
use Rattle.pure_proofs.proofs.Atoms.{none_above}
use Rattle.heap_rules.specs.declared.consumed.Consumed.{Consumed}
use Rattle.heap_rules.specs.ConsumedAtoms.{left_of, without_each, atoms_nodes, IsNew, IsNext, IsCounted, less_each, older_left_in}
use Rattle.heap_rules.specs.Changes.{less_older}
use Rattle.heap_rules.proofs.AtHand.{none_left, gone, still_there, each_more, size_without}

pub none_made : (s : Consumed) (made i : ℕ) (es : Atoms) → All (λ a. a.0 ≤ made) es → made < i → atom_at i (left_of s es) ≡ None
unfolding left_of
none_made s made i es h l = none_left i s.numbers.keys es (none_above made i es h l)

pub none_consumed : (s : Consumed) (i : ℕ) (es : Atoms) → IsStrictlySortedBy nat_cmp (keys_of es) → list_any (is_at (nat_cmp i)) s.numbers.keys ≡ true → atom_at i (left_of s es) ≡ None
unfolding left_of
none_consumed s i es h e = sym (gone i s.numbers.keys es (ascends_from es h) e)

pub one_left : (s : Consumed) (i : ℕ) (es : Atoms) → IsNew i s → atom_at i es ≡ atom_at i (left_of s es)
unfolding left_of
one_left s i es n = still_there i s.numbers.keys es n

-- none is consumed
pub all_left : (s : Consumed) → s.numbers.keys ≡ [] → (es : Atoms) → left_of s es ≡ es
unfolding left_of
all_left s e es = ap (λ is. without_each is es) e

pub none_counted : (s : Consumed) → s.numbers.keys ≡ [] → s.nodes ≡ 0 → (es : Atoms) → IsCounted s es
unfolding IsCounted
none_counted s e f es = let g : atoms_nodes (left_of s es) ≡ atoms_nodes es = ap atoms_nodes (all_left s e es) in omega (arith, f, g)

-- one more is consumed
pub left_more : (s t : Consumed) (i : ℕ) → IsNew i s → t.numbers.keys ≡ insert_key nat_cmp s.numbers.keys i → (es : Atoms) → left_of t es ≡ without_atom i (left_of s es)
unfolding left_of
left_more s t i n e es = ap (λ is. without_each is es) e ∙ each_more i s.numbers.keys es n

-- its nodes are counted
pub counted_more : (s t : Consumed) (i k : ℕ) (es : Atoms) → left_of t es ≡ without_atom i (left_of s es) → t.nodes ≡ min (s.nodes + k) (2 ^ 64 - 1) → IsNext i k s es → IsCounted s es → IsCounted t es
unfolding IsCounted
counted_more s t i k es left sum next counted =
    let e = size_without i (left_of s es) next.atom next.at in
    let f : atoms_nodes (left_of t es) ≡ atoms_nodes (without_atom i (left_of s es)) = ap atoms_nodes left in
    omega (arith, e, f, counted, next.range, next.size, sum)

-- where nothing is consumed, as much is counted
pub counted_same : (s t : Consumed) (es : Atoms) → t.numbers.keys ≡ s.numbers.keys → t.nodes ≡ s.nodes → IsCounted s es → IsCounted t es
unfolding IsCounted left_of
counted_same s t es e f counted = plus (ap (λ is. atoms_nodes (without_each is es)) e) f ∙ counted
  where
    plus : {a b c d : ℕ} → a ≡ c → b ≡ d → a + b ≡ c + d
    plus e f = λ i. e i + f i

-- the atoms of a context are a part of it
pub atoms_in_range : (c : Context) (n : ℕ) → n ≡ context_nodes c → n < 2 ^ 64 → atoms_nodes c.atoms < 2 ^ 64
atoms_in_range c n e l = omega (arith, e, l)

-- ---- one after another

pub popped : (n i : ℕ) (is js : List ℕ) (c d w : Context) → js ≡ i ∷ is → d ≡ less_older n i c → less_each n js c ≡ w → less_each n is d ≡ w
popped n i is js c d w e f left = ap (less_each n is) f ∙ sym (ap (λ ks. less_each n ks c) e) ∙ left

pub no_keys : (is : List ℕ) → (0 < length is → ⊥) → is ≡ []
no_keys [] h = refl
no_keys (i ∷ is) h = absurd (h (omega arith))

pub all_popped : (n : ℕ) (js : List ℕ) (c w : Context) → js ≡ [] → less_each n js c ≡ w → c ≡ w
all_popped n js c w e left = sym (ap (λ ks. less_each n ks c) e) ∙ left

pub less_each_is : (n : ℕ) (s : Consumed) (c : Context) → less_each n s.numbers.keys c ≡ older_left_in n s c
unfolding older_left_in
less_each_is n s c = refl
