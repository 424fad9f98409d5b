-- The places of predicates, and the predicates that are declared there.
use Rattle.std.proofs.Common.{◌≡◌, ℕ, suc, ◌+◌, Bool, true, false, cond, List, [], ◌∷◌, ◌++◌, length, Option, Some, None, refl, sym, ◌∙◌, ap, arith}
use Rattle.std.specs.Prelude.{bytes_eq, option_and_then}
use mathlib.Core.Path.{fun_ext}
use Rattle.std.specs.List.{slice_get}
use Rattle.std.specs.BTreeMap.{BTreeMap, UpdatesBy, is_at}
use Rattle.std.specs.Map.{lookup}
use Rattle.std.specs.Cmp.Lexicographic.{slice_cmp}
use Rattle.std.specs.Ordering.{nat_cmp}
use Rattle.std.specs.String.{string_cmp, string_bytes}
use Rattle.std.specs.declared.string.String.{String}
use Rattle.std.proofs.lemmas.Map.Text.{btree_map_updates_text}
use Rattle.tht_tree.specs.declared.decl.Decl.{Decl}
use Rattle.tht_tree.specs.declared.decl.DeclKind.{DeclKind}
use Rattle.tht_tree.specs.declared.decl.DeclKind.TheVariants as d
use Rattle.tht_logic.specs.Rules.Definitions.{Predicate, with_declaration, with_predicates, predicates_of}
use Rattle.heap_assert.specs.Instances.{predicate_in}
use Rattle.heap_rules.specs.PredicatePlaces.{ByName, Naming, name_of, with_name, with_named, with_place, places_from, last_at, predicate_at, places_in, AreNamed, ArePlaces}

abbrev Named : Type 0
Named = List ℕ → Option Predicate

-- ---- what is declared at a place

-- one declaration more
named_step : (k : DeclKind) (n : ℕ) (known : ByName) (others : Named) (all : List Decl) (y : List ℕ) → predicate_at (Some n) all ≡ predicate_in k → predicate_at (known y) all ≡ others y
    → predicate_at (with_place name_of k n known y) all ≡ with_declaration k others y
named_step (d.Pred a q ps p) n known others all y h g = by (bytes_eq q y)
  where
    by : (b : Bool) → predicate_at (cond b (Some n) (known y)) all ≡ cond b (predicate_in (d.Pred a q ps p)) (others y)
    by true = h
    by false = g
named_step (d.PredOn a q ps x nil m s cons) n known others all y h g = by (bytes_eq q y)
  where
    by : (b : Bool) → predicate_at (cond b (Some n) (known y)) all ≡ cond b (predicate_in (d.PredOn a q ps x nil m s cons)) (others y)
    by true = h
    by false = g
named_step (d.Root x s v) n known others all y h g = g
named_step (d.Invariant a x) n known others all y h g = g
named_step (d.Lemma l) n known others all y h g = g
named_step (d.Txn a b) n known others all y h g = g
named_step (d.Proc a b) n known others all y h g = g

named_from : (xs : List Decl) (n : ℕ) (known : ByName) (others : Named) (all : List Decl) → ((k : ℕ) → slice_get all (n + k) ≡ slice_get xs k) → ((y : List ℕ) → predicate_at (known y) all ≡ others y)
    → (y : List ℕ) → predicate_at (places_from name_of n known xs y) all ≡ with_predicates others xs y
named_from [] n known others all at h y = h y
named_from (x ∷ xs) n known others all at h y =
    let first : slice_get all n ≡ Some x = ap (slice_get all) (omega arith) ∙ at 0 in
    named_from xs (suc n) (with_place name_of x.kind n known) (with_declaration x.kind others) all
    (λ k. ap (slice_get all) (omega arith) ∙ at (suc k))
    (λ z. named_step x.kind n known others all z (ap (option_and_then (λ w. predicate_in w.kind)) first) (h z)) y

-- the predicates by their names are those at the last places
pub last_named : (decls : List Decl) (y : List ℕ) → predicate_at (last_at name_of decls y) decls ≡ predicates_of decls y
last_named decls y = named_from decls 0 (λ q. None) (λ q. None) decls (λ k. ap (slice_get decls) (omega arith)) (λ z. refl) y

pub named_there : {Y : Type 0} (m : BTreeMap (String Y) ℕ) (decls : List Decl) (x : List ℕ) (o : Option ℕ) → ArePlaces m decls → places_in m x ≡ o → predicate_at o decls ≡ predicates_of decls x
unfolding AreNamed
named_there m decls x o are e = ap (λ z. predicate_at z decls) (sym e ∙ are x) ∙ last_named decls x

-- ---- one declaration more

module _ (naming : Naming) where
  from_push : (xs : List Decl) (n m : ℕ) (known : ByName) (x : Decl) (y : List ℕ) → n + length xs ≡ m
      → places_from naming n known (xs ++ x ∷ []) y ≡ with_place naming x.kind m (places_from naming n known xs) y
  from_push [] n m known x y e = ap (λ k. with_place naming x.kind k known y) (omega (arith, e))
  from_push (w ∷ xs) n m known x y e = from_push xs (suc n) m (with_place naming w.kind n known) x y (omega (arith, e))

  last_push : (decls : List Decl) (x : Decl) (y : List ℕ) → last_at naming (decls ++ x ∷ []) y ≡ with_place naming x.kind (length decls) (last_at naming decls) y
  last_push decls x y = from_push decls 0 (length decls) (λ q. None) x y (omega arith)

  pub none_placed : {Y : Type 0} (m : BTreeMap (String Y) ℕ) → m.entries ≡ [] → AreNamed naming m []
  unfolding AreNamed
  none_placed m e = λ x. ap (lookup (is_at (λ k. slice_cmp nat_cmp x (string_bytes k)))) e

  placed : {Y : Type 0} (m n : BTreeMap (String Y) ℕ) (decls : List Decl) (x : Decl) (k : DeclKind) (i : ℕ) → ((y : List ℕ) → places_in n y ≡ with_place naming k i (places_in m) y) → AreNamed naming m decls
      → length decls ≡ i → x.kind ≡ k → AreNamed naming n (decls ++ x ∷ [])
  unfolding AreNamed
  placed m n decls x k i u are l e = λ y.
      u y ∙ ap (λ (f : ByName). with_place naming k i f y) (fun_ext are) ∙ ap (λ z. with_place naming z i (last_at naming decls) y) (sym e)
      ∙ ap (λ z. with_place naming x.kind z (last_at naming decls) y) (sym l) ∙ sym (last_push decls x y)

  abbrev Takes : {Y : Type 0} → BTreeMap (String Y) ℕ → BTreeMap (String Y) ℕ → DeclKind → ℕ → Type 0
  Takes m n k i = (decls : List Decl) (x : Decl) → AreNamed naming m decls → length decls ≡ i → x.kind ≡ k → AreNamed naming n (decls ++ x ∷ [])

  -- a declaration of the kind
  pub placed_named : {Y : Type 0} (m n : BTreeMap (String Y) ℕ) (q : List ℕ) (k : DeclKind) (i : ℕ) → naming k ≡ Some q → ((y : List ℕ) → places_in n y ≡ with_name q i (places_in m) y) → Takes m n k i
  placed_named m n q k i e u decls x are l f = placed m n decls x k i (λ y. u y ∙ ap (λ o. with_named o i (places_in m) y) (sym e)) are l f

  -- another declaration
  pub placed_none : {Y : Type 0} (m : BTreeMap (String Y) ℕ) (k : DeclKind) (i : ℕ) → naming k ≡ None → Takes m m k i
  placed_none m k i e decls x are l f = placed m m decls x k i (λ y. ap (λ o. with_named o i (places_in m) y) (sym e)) are l f

-- a name that is put into the map
pub put_named : {Y : Type 0} (m n : BTreeMap (String Y) ℕ) (x q : List ℕ) (i : ℕ) → UpdatesBy string_cmp (λ k. slice_cmp nat_cmp x (string_bytes k)) m n (Some i) → x ≡ q → (y : List ℕ) → places_in n y ≡ with_name q i (places_in m) y
put_named m n x q i u e y = btree_map_updates_text x m n (Some i) u y ∙ ap (λ z. cond (bytes_eq z y) (Some i) (places_in m y)) e
