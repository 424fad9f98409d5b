-- The names in scope after one was bound or taken out.
use Rattle.std.proofs.Common.{◌≡◌, ℕ, Bool, true, false, cond, List, [], ◌∷◌, ◌++◌, Option, Some, None, refl, ◌∙◌, ap}
use mathlib.Core.Path.{fun_ext}
use Rattle.std.specs.Prelude.{bytes_eq}
use Rattle.std.specs.BTreeMap.{BTreeMap, Updates, UpdatesBy, get_by_text}
use Rattle.std.specs.String.{string_cmp, string_bytes}
use Rattle.std.specs.declared.string.String.{String}
use Rattle.std.proofs.lemmas.Map.Text.{btree_map_updates_text, text_cmp}
use Rattle.std.proofs.lemmas.Slice.Eq.{bytes_eq-Decides}
use Rattle.tht_tree.specs.declared.walk.Class.{Class}
use Rattle.tht_tree.specs.Walk.Names.{Scope as Names, with_name}
use Rattle.term_walk.specs.declared.scope.Shadow.{Shadow}
use Rattle.term_walk.specs.Scopes.{put_back, unbound}

abbrev by_text : {Y : Type 0} → BTreeMap (String Y) Class → Names
by_text m x = get_by_text m x

pub after_insert : {Y : Type 0} (key : String Y) (m n : BTreeMap (String Y) Class) (x : List ℕ) (c : Class) → Updates string_cmp m n key (Some c) → string_bytes key ≡ x
    → by_text n ≡ with_name (by_text m) x c
after_insert key m n x c u e = fun_ext (btree_map_updates_text (string_bytes key) m n (Some c) u) ∙ ap (λ z. with_name (by_text m) z c) e

pub after_remove : {Y : Type 0} (m n : BTreeMap (String Y) Class) (t x : List ℕ) → t ≡ x → UpdatesBy string_cmp (text_cmp t) m n None → by_text n ≡ put_back (by_text m) x None
after_remove m n t x e u = fun_ext (btree_map_updates_text t m n None u) ∙ ap (λ z. put_back (by_text m) z None) e

-- what stood there before is back
pub as_before : (names : Names) (x : List ℕ) (c : Class) → put_back (with_name names x c) x (names x) ≡ names
as_before names x c = fun_ext at
  where
    pick : (y : List ℕ) (b : Bool) → bytes_eq x y ≡ b → cond b (names x) (cond b (Some c) (names y)) ≡ names y
    pick y true e = ap names ((bytes_eq-Decides x y).0 e)
    pick y false e = refl

    at : (y : List ℕ) → put_back (with_name names x c) x (names x) y ≡ names y
    at y = pick y (bytes_eq x y) refl

-- what was known before a name is known again once it is taken out
pub known_again : (outer bound inner now : Names) (x : List ℕ) (c : Class) (shadowed : Option Class) → bound ≡ with_name outer x c → shadowed ≡ outer x → inner ≡ bound
    → now ≡ put_back inner x shadowed → now ≡ outer
known_again outer bound inner now x c shadowed b s i n =
    n ∙ ap (λ z. put_back z x shadowed) (i ∙ b) ∙ ap (put_back (with_name outer x c) x) s ∙ as_before outer x c

-- the last name that was bound is taken out first
pub unbound_last : (names : Names) (bs : List Shadow) (b : Shadow) → unbound names (bs ++ b ∷ []) ≡ unbound (put_back names b.name b.class) bs
unbound_last names [] b = refl
unbound_last names (d ∷ bs) b = ap (λ z. put_back z d.name d.class) (unbound_last names bs b)

-- one more name that is bound
pub bound_more : (outer now : Names) (bs : List Shadow) (x : List ℕ) (c : Class) (shadowed : Option Class) → now ≡ with_name outer x c → shadowed ≡ outer x
    → unbound now (bs ++ record { name = x; class = shadowed } ∷ []) ≡ unbound outer bs
bound_more outer now bs x c shadowed n s =
    unbound_last now bs (record { name = x; class = shadowed }) ∙ ap (λ z. unbound (put_back z x shadowed) bs) n ∙ ap (λ z. unbound (put_back (with_name outer x c) x z) bs) s
    ∙ ap (λ z. unbound z bs) (as_before outer x c)
