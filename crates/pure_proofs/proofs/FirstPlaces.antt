-- The places of the first hypotheses with each name, once one more is known or the last is known no more.
use Rattle.std.proofs.Common.{◌≡◌, ℕ, suc, ◌<◌, Bool, true, false, cond, List, [], ◌∷◌, ◌++◌, length, Option, Some, None, is_some, option_map, IsTrue, nat_eq, ◌↔◌, eqb-true, eq-eqb, refl, sym, ◌∙◌, ap, arith}
use Rattle.std.specs.Prelude.{bytes_eq}
use Rattle.std.specs.BTreeMap.{BTreeMap, UpdatesBy, is_at}
use Rattle.std.specs.Map.{lookup}
use Rattle.std.specs.Cmp.Lexicographic.{slice_cmp, nat_list_eq_equiv}
use Rattle.std.specs.Ordering.{nat_cmp}
use Rattle.std.specs.String.{string_cmp, string_bytes}
use Rattle.std.specs.declared.string.String.{String}
use Rattle.std.proofs.lemmas.Map.Text.{btree_map_updates_text}
use Rattle.std.proofs.lemmas.Slice.Eq.{bytes_eq-Decides}
use Rattle.tht_tree.specs.declared.state.Hyp.{Hyp}
use Rattle.tht_tree.specs.Rules.Known.{hyp_named}
use Rattle.pure_proofs.specs.Places.{first_at, places_in, formula_at, ArePlaces}

behind : (o : Option ℕ) (h : Hyp) (hs : List Hyp) → formula_at (option_map suc o) (h ∷ hs) ≡ formula_at o hs
behind None h hs = refl
behind (Some n) h hs = refl

-- the hypothesis with a name is the one at its place
pub named_at : (hs : List Hyp) (x : List ℕ) → hyp_named x hs ≡ formula_at (first_at hs x) hs
named_at [] x = refl
named_at (h ∷ hs) x = by (bytes_eq x h.name) (named_at hs x)
  where
    by : (b : Bool) → hyp_named x hs ≡ formula_at (first_at hs x) hs → cond b (Some h.formula) (hyp_named x hs) ≡ formula_at (cond b (Some 0) (option_map suc (first_at hs x))) (h ∷ hs)
    by true ih = refl
    by false ih = ih ∙ sym (behind (first_at hs x) h hs)

-- ---- one hypothesis more

-- the first place, or else the second, where it is one
abbrev or_place : Option ℕ → Bool → ℕ → Option ℕ
or_place (Some i) b n = Some i
or_place None b n = cond b (Some n) None

moved_on : (o : Option ℕ) (b : Bool) (n : ℕ) → option_map suc (or_place o b n) ≡ or_place (option_map suc o) b (suc n)
moved_on (Some i) b n = refl
moved_on None true n = refl
moved_on None false n = refl

first_push : (hs : List Hyp) (h : Hyp) (x : List ℕ) → first_at (hs ++ h ∷ []) x ≡ or_place (first_at hs x) (bytes_eq x h.name) (length hs)
first_push [] h x = refl
first_push (g ∷ hs) h x = by (bytes_eq x g.name) (first_push hs h x)
  where
    by : (b : Bool) → first_at (hs ++ h ∷ []) x ≡ or_place (first_at hs x) (bytes_eq x h.name) (length hs)
        → cond b (Some 0) (option_map suc (first_at (hs ++ h ∷ []) x)) ≡ or_place (cond b (Some 0) (option_map suc (first_at hs x))) (bytes_eq x h.name) (length (g ∷ hs))
    by true ih = refl
    by false ih = ap (option_map suc) ih ∙ moved_on (first_at hs x) (bytes_eq x h.name) (length hs)

-- each place is one of the list
below : (hs : List Hyp) (x : List ℕ) (n : ℕ) → first_at hs x ≡ Some n → n < length hs
below [] x n e = cc
below (g ∷ hs) x n e = by (bytes_eq x g.name) (first_at hs x) refl (λ m f. below hs x m f) e
  where
    by : (b : Bool) (o : Option ℕ) → first_at hs x ≡ o → ((m : ℕ) → first_at hs x ≡ Some m → m < length hs) → cond b (Some 0) (option_map suc o) ≡ Some n → n < length (g ∷ hs)
    by true o f ih e = let z : 0 ≡ n = cc in omega (arith, z)
    by false None f ih e = cc
    by false (Some m) f ih e = let z : suc m ≡ n = cc in let l = ih m f in omega (arith, z, l)

turned : (x y : List ℕ) (b : Bool) → bytes_eq x y ≡ b → bytes_eq y x ≡ b
turned x y b e = sym (nat_list_eq_equiv.symm x y) ∙ e

-- a name that has a place already keeps it
kept : (hs : List Hyp) (h : Hyp) (i : ℕ) → first_at hs h.name ≡ Some i → (x : List ℕ) → first_at hs x ≡ first_at (hs ++ h ∷ []) x
kept hs h i e x = by (first_at hs x) (bytes_eq x h.name) refl refl ∙ sym (first_push hs h x)
  where
    by : (o : Option ℕ) (b : Bool) → first_at hs x ≡ o → bytes_eq x h.name ≡ b → first_at hs x ≡ or_place (first_at hs x) (bytes_eq x h.name) (length hs)
    by (Some j) b f g = f ∙ sym (ap (λ o. or_place o (bytes_eq x h.name) (length hs)) f)
    by None true f g = let z : Some i ≡ None = sym e ∙ ap (first_at hs) (sym ((bytes_eq-Decides x h.name).0 g)) ∙ f in cc
    by None false f g = f ∙ sym (ap (λ o. or_place o (bytes_eq x h.name) (length hs)) f ∙ ap (λ b. or_place None b (length hs)) g)

-- a new name has the place of its hypothesis
new_place : (hs : List Hyp) (h : Hyp) → first_at hs h.name ≡ None → (x : List ℕ) → cond (bytes_eq h.name x) (Some (length hs)) (first_at hs x) ≡ first_at (hs ++ h ∷ []) x
new_place hs h e x = by (bytes_eq h.name x) refl ∙ sym (first_push hs h x)
  where
    by : (b : Bool) → bytes_eq h.name x ≡ b → cond (bytes_eq h.name x) (Some (length hs)) (first_at hs x) ≡ or_place (first_at hs x) (bytes_eq x h.name) (length hs)
    by true g =
        let f : first_at hs x ≡ None = ap (first_at hs) (sym ((bytes_eq-Decides h.name x).0 g)) ∙ e in
        ap (λ b. cond b (Some (length hs)) (first_at hs x)) g ∙ sym (ap (λ o. or_place o (bytes_eq x h.name) (length hs)) f ∙ ap (λ b. or_place None b (length hs)) (turned h.name x true g))
    by false g = ap (λ b. cond b (Some (length hs)) (first_at hs x)) g ∙ past (first_at hs x) ∙ ap (λ b. or_place (first_at hs x) b (length hs)) (sym (turned h.name x false g))
      where
        past : (o : Option ℕ) → o ≡ or_place o false (length hs)
        past (Some j) = refl
        past None = refl

abbrev Puts : {Y : Type 0} → BTreeMap (String Y) ℕ → BTreeMap (String Y) ℕ → List ℕ → Option ℕ → Type 0
Puts m n x w = UpdatesBy string_cmp (λ k. slice_cmp nat_cmp x (string_bytes k)) m n w

-- the hypothesis at the place that a map has for a name
pub formula_there : {Y : Type 0} (m : BTreeMap (String Y) ℕ) (hs : List Hyp) (x : List ℕ) (o : Option ℕ) → ArePlaces m hs → places_in m x ≡ o → formula_at o hs ≡ hyp_named x hs
unfolding ArePlaces
formula_there m hs x o are e = ap (λ z. formula_at z hs) (sym e ∙ are x) ∙ sym (named_at hs x)

-- the same entries and hypotheses
pub places_same : {Y : Type 0} (m n : BTreeMap (String Y) ℕ) (hs gs : List Hyp) → n.entries ≡ m.entries → gs ≡ hs → ArePlaces m hs → ArePlaces n gs
unfolding ArePlaces
places_same m n hs gs e f are = λ x. ap (lookup (is_at (λ k. slice_cmp nat_cmp x (string_bytes k)))) e ∙ are x ∙ ap (λ zs. first_at zs x) (sym f)

-- whether a place is this one
pub is_this : (o : Option ℕ) (i k : ℕ) → o ≡ Some i → IsTrue (nat_eq i k) ↔ (o ≡ Some k)
is_this o i k e = (λ t. e ∙ ap Some (eqb-true i k t), λ f. let g : Some i ≡ Some k = sym e ∙ f in let h : i ≡ k = cc in eq-eqb i k h)

pub is_none : (o : Option ℕ) (k : ℕ) → o ≡ None → IsTrue false ↔ (o ≡ Some k)
is_none o k e = (λ t. cc, λ f. let g : None ≡ Some k = sym e ∙ f in cc)

pub none_placed : {Y : Type 0} (m : BTreeMap (String Y) ℕ) → m.entries ≡ [] → ArePlaces m []
unfolding ArePlaces
none_placed m e = λ x. ap (lookup (is_at (λ k. slice_cmp nat_cmp x (string_bytes k)))) e

pub known_already : {Y : Type 0} (m : BTreeMap (String Y) ℕ) (hs : List Hyp) (h : Hyp) (x : List ℕ) → h.name ≡ x → is_some (places_in m x) ≡ true → ArePlaces m hs → ArePlaces m (hs ++ h ∷ [])
unfolding ArePlaces
known_already m hs h x e s are = λ y. are y ∙ by (first_at hs x) refl y
  where
    by : (o : Option ℕ) → first_at hs x ≡ o → (y : List ℕ) → first_at hs y ≡ first_at (hs ++ h ∷ []) y
    by (Some i) f = kept hs h i (ap (first_at hs) e ∙ f)
    by None f = let z : false ≡ true = sym (ap is_some (are x ∙ f)) ∙ s in cc

pub placed : {Y : Type 0} (m n : BTreeMap (String Y) ℕ) (hs : List Hyp) (h : Hyp) (x z : List ℕ) (k : ℕ) → h.name ≡ x → z ≡ x → length hs ≡ k → is_some (places_in m x) ≡ false → Puts m n z (Some k) → ArePlaces m hs
    → ArePlaces n (hs ++ h ∷ [])
unfolding ArePlaces
placed m n hs h x z k e d l s u are = λ y.
    btree_map_updates_text z m n (Some k) u y ∙ ap (λ w. cond (bytes_eq w y) (Some k) (places_in m y)) (d ∙ sym e) ∙ ap (λ w. cond (bytes_eq h.name y) (Some w) (places_in m y)) (sym l)
    ∙ ap (cond (bytes_eq h.name y) (Some (length hs))) (are y) ∙ new_place hs h (by (first_at hs x) refl) y
  where
    by : (o : Option ℕ) → first_at hs x ≡ o → first_at hs h.name ≡ None
    by None f = ap (first_at hs) e ∙ f
    by (Some i) f = let q : true ≡ false = sym (ap is_some (are x ∙ f)) ∙ s in cc

-- ---- the last hypothesis gone

-- a name whose place is not the last one's loses nothing
pub stays : {Y : Type 0} (m : BTreeMap (String Y) ℕ) (hs : List Hyp) (h : Hyp) (x : List ℕ) (k : ℕ) → h.name ≡ x → length hs ≡ k → (places_in m x ≡ Some k → ⊥) → ArePlaces m (hs ++ h ∷ []) → ArePlaces m hs
unfolding ArePlaces
stays m hs h x k e l other are = λ y. are y ∙ by (first_at hs x) refl y
  where
    last : first_at hs x ≡ None → places_in m x ≡ Some k
    last f =
        are x ∙ first_push hs h x ∙ ap (λ o. or_place o (bytes_eq x h.name) (length hs)) f ∙ ap (λ b. or_place None b (length hs)) (ap (λ n. bytes_eq x n) e ∙ nat_list_eq_equiv.refl x) ∙ ap Some l

    by : (o : Option ℕ) → first_at hs x ≡ o → (y : List ℕ) → first_at (hs ++ h ∷ []) y ≡ first_at hs y
    by (Some i) f y = sym (kept hs h i (ap (first_at hs) e ∙ f) y)
    by None f y = absurd (other (last f))

pub taken : {Y : Type 0} (m n : BTreeMap (String Y) ℕ) (hs : List Hyp) (h : Hyp) (x z : List ℕ) (k : ℕ) → h.name ≡ x → z ≡ x → length hs ≡ k → places_in m x ≡ Some k → Puts m n z None → ArePlaces m (hs ++ h ∷ [])
    → ArePlaces n hs
unfolding ArePlaces
taken m n hs h x z k e d l s u are = λ y.
    btree_map_updates_text z m n None u y ∙ ap (λ w. cond (bytes_eq w y) None (places_in m y)) (d ∙ sym e) ∙ ap (cond (bytes_eq h.name y) None) (are y ∙ first_push hs h y) ∙ by y (bytes_eq h.name y) refl
  where
    gone : (o : Option ℕ) → first_at hs x ≡ o → first_at hs h.name ≡ None
    gone None f = ap (first_at hs) e ∙ f
    gone (Some i) f =
        let q : Some i ≡ Some k = sym (are x ∙ first_push hs h x ∙ ap (λ o. or_place o (bytes_eq x h.name) (length hs)) f) ∙ s in
        let r : i ≡ k = cc in
        let b = below hs x i f in absurd (omega (arith, r, b, l))

    past : (o : Option ℕ) → or_place o false (length hs) ≡ o
    past (Some j) = refl
    past None = refl

    by : (y : List ℕ) (b : Bool) → bytes_eq h.name y ≡ b → cond (bytes_eq h.name y) None (or_place (first_at hs y) (bytes_eq y h.name) (length hs)) ≡ first_at hs y
    by y true g = ap (λ b. cond b None (or_place (first_at hs y) (bytes_eq y h.name) (length hs))) g ∙ sym (ap (first_at hs) (sym ((bytes_eq-Decides h.name y).0 g)) ∙ gone (first_at hs x) refl)
    by y false g =
        ap (λ b. cond b None (or_place (first_at hs y) (bytes_eq y h.name) (length hs))) g ∙ ap (λ b. or_place (first_at hs y) b (length hs)) (turned h.name y false g) ∙ past (first_at hs y)
