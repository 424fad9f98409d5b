-- The levels of names, once a variable is bound or taken out.
use Rattle.std.proofs.Common.{◌≡◌, ℕ, suc, ◌+◌, ◌-◌, ◌<◌, Bool, true, false, cond, List, [], ◌∷◌, ◌++◌, length, map, Option, Some, None, refl, sym, ◌∙◌, ap, arith}
use Rattle.std.specs.Prelude.{bytes_eq, reverse}
use Rattle.std.specs.BTreeMap.{BTreeMap, UpdatesBy, is_at}
use Rattle.std.specs.Map.{lookup}
use Rattle.std.specs.Cmp.Lexicographic.{slice_cmp}
use Rattle.std.specs.Ordering.{nat_cmp}
use Rattle.std.specs.String.{string_cmp, string_bytes}
use Rattle.std.specs.declared.string.String.{String}
use Rattle.std.proofs.lemmas.List.{reverse-append, reverse-reverse, length-reverse, length-map}
use Rattle.std.proofs.lemmas.Map.Text.{btree_map_updates_text}
use Rattle.std.proofs.lemmas.Slice.Eq.{bytes_eq-Decides}
use Rattle.tht_tree.specs.Syntax.{Names, position}
use Rattle.program_forms.specs.declared.levels.Shadow.{Shadow}
use Rattle.program_forms.specs.Levels.{level_in, outer_levels, names_in, levels_in, Puts, AreLevels, AreShadowed}
use Rattle.program_forms.specs.Outside.{outside}

-- ---- maps

pub puts : {Y : Type 0} (m n : BTreeMap (String Y) ℕ) (x : List ℕ) (o : Option ℕ) → UpdatesBy string_cmp (λ k. slice_cmp nat_cmp x (string_bytes k)) m n o → Puts m n x o
puts m n x o u = btree_map_updates_text x m n o u

same_levels : {Y : Type 0} (m n : BTreeMap (String Y) ℕ) → n.entries ≡ m.entries → (x : List ℕ) → levels_in n x ≡ levels_in m x
same_levels m n e x = ap (lookup (is_at (λ k. slice_cmp nat_cmp x (string_bytes k)))) e

-- ---- names

names_more : (bound : List Shadow) (s : Shadow) → names_in (bound ++ s ∷ []) ≡ s.name ∷ names_in bound
names_more bound s = ap (map (λ (z : Shadow). z.name)) (reverse-append bound (s ∷ []))

outer_more : (bound : List Shadow) (s : Shadow) → map (λ (z : Shadow). z.outer) (reverse (bound ++ s ∷ [])) ≡ s.outer ∷ map (λ (z : Shadow). z.outer) (reverse bound)
outer_more bound s = ap (map (λ (z : Shadow). z.outer)) (reverse-append bound (s ∷ []))

names_long : (bound : List Shadow) → length (names_in bound) ≡ length bound
names_long bound = length-map (reverse bound) (λ (z : Shadow). z.name) ∙ length-reverse bound

-- ---- no variable

pub none_leveled : {Y : Type 0} (m : BTreeMap (String Y) ℕ) (bound : List Shadow) → m.entries ≡ [] → bound ≡ [] → AreLevels m bound
unfolding AreLevels
none_leveled m bound e b = λ x. ap (lookup (is_at (λ k. slice_cmp nat_cmp x (string_bytes k)))) e ∙ ap (λ zs. level_in (names_in zs) x) (sym b)

pub none_shadowed : (bound : List Shadow) → bound ≡ [] → AreShadowed bound
unfolding AreShadowed
none_shadowed bound b = ap (λ zs. map (λ (z : Shadow). z.outer) (reverse zs)) b ∙ ap (λ zs. outer_levels (names_in zs)) (sym b)

-- ---- one variable more

pub leveled_more : {Y : Type 0} (m n : BTreeMap (String Y) ℕ) (bound more : List Shadow) (s : Shadow) (x : List ℕ) (d : ℕ) → more ≡ bound ++ s ∷ [] → s.name ≡ x → d ≡ length bound
    → Puts m n x (Some d) → AreLevels m bound → AreLevels n more
unfolding AreLevels
leveled_more m n bound more s x d b e l put are = λ y.
    put y
    ∙ ap (λ z. cond (bytes_eq z y) (Some d) (levels_in m y)) (sym e)
    ∙ ap (λ k. cond (bytes_eq s.name y) (Some k) (levels_in m y)) (l ∙ sym (names_long bound))
    ∙ ap (cond (bytes_eq s.name y) (Some (length (names_in bound)))) (are y)
    ∙ ap (λ zs. level_in zs y) (sym (names_more bound s))
    ∙ ap (λ zs. level_in (names_in zs) y) (sym b)

pub shadowed_more : {Y : Type 0} (m : BTreeMap (String Y) ℕ) (bound more : List Shadow) (s : Shadow) → more ≡ bound ++ s ∷ [] → s.outer ≡ levels_in m s.name
    → AreLevels m bound → AreShadowed bound → AreShadowed more
unfolding AreLevels AreShadowed
shadowed_more m bound more s b o are shadowed =
    let known : s.outer ≡ level_in (names_in bound) s.name = o ∙ are s.name in
    ap (λ zs. map (λ (z : Shadow). z.outer) (reverse zs)) b
    ∙ outer_more bound s
    ∙ (λ i. known i ∷ shadowed i)
    ∙ ap outer_levels (sym (names_more bound s))
    ∙ ap (λ zs. outer_levels (names_in zs)) (sym b)

pub names_bound : (bound more : List Shadow) (s : Shadow) → more ≡ bound ++ s ∷ [] → names_in more ≡ s.name ∷ names_in bound
names_bound bound more s b = ap names_in b ∙ names_more bound s

-- ---- the same variables in the same map

pub leveled_same : {Y : Type 0} (m n : BTreeMap (String Y) ℕ) (bound again : List Shadow) → n.entries ≡ m.entries → again ≡ bound → AreLevels m bound → AreLevels n again
unfolding AreLevels
leveled_same m n bound again e b are = λ x. same_levels m n e x ∙ are x ∙ ap (λ zs. level_in (names_in zs) x) (sym b)

pub shadowed_same : (bound again : List Shadow) → again ≡ bound → AreShadowed bound → AreShadowed again
unfolding AreShadowed
shadowed_same bound again b shadowed = ap (λ zs. map (λ (z : Shadow). z.outer) (reverse zs)) b ∙ shadowed ∙ ap (λ zs. outer_levels (names_in zs)) (sym b)

-- ---- the last variable gone

was_outer : (bound : List Shadow) (s : Shadow) → AreShadowed (bound ++ s ∷ [])
    → (s.outer ≡ level_in (names_in bound) s.name) × (map (λ (z : Shadow). z.outer) (reverse bound) ≡ outer_levels (names_in bound))
unfolding AreShadowed
was_outer bound s shadowed =
    let both : (s.outer ∷ map (λ (z : Shadow). z.outer) (reverse bound)) ≡ (level_in (names_in bound) s.name ∷ outer_levels (names_in bound)) =
    sym (outer_more bound s) ∙ shadowed ∙ ap outer_levels (names_more bound s) in
    let first : s.outer ≡ level_in (names_in bound) s.name = cc in
    let rest : map (λ (z : Shadow). z.outer) (reverse bound) ≡ outer_levels (names_in bound) = cc in
    (first, rest)

pub shadowed_less : (front all again : List Shadow) (s : Shadow) → all ≡ front ++ s ∷ [] → again ≡ front → AreShadowed all → AreShadowed again
unfolding AreShadowed
shadowed_less front all again s b a shadowed = shadowed_same front again a (was_outer front s (shadowed_same all (front ++ s ∷ []) (sym b) shadowed)).1

pub leveled_less : {Y : Type 0} (m n : BTreeMap (String Y) ℕ) (front all again : List Shadow) (s : Shadow) (x : List ℕ) (o : Option ℕ) → all ≡ front ++ s ∷ [] → again ≡ front → x ≡ s.name
    → o ≡ s.outer → Puts m n x o → AreLevels m all → AreShadowed all → AreLevels n again
unfolding AreLevels
leveled_less m n front all again s x o b a e f put are shadowed = λ y.
    put y
    ∙ ap (λ z. cond (bytes_eq z y) o (levels_in m y)) e
    ∙ ap (λ w. cond (bytes_eq s.name y) w (levels_in m y)) (f ∙ (was_outer front s (shadowed_same all (front ++ s ∷ []) (sym b) shadowed)).0)
    ∙ ap (cond (bytes_eq s.name y) (level_in (names_in front) s.name)) (are y ∙ ap (λ zs. level_in (names_in zs) y) b ∙ ap (λ zs. level_in zs y) (names_more front s))
    ∙ pick y (bytes_eq s.name y) refl
    ∙ ap (λ zs. level_in (names_in zs) y) (sym a)
  where
    pick : (y : List ℕ) (c : Bool) → bytes_eq s.name y ≡ c → cond c (level_in (names_in front) s.name) (cond c (Some (length (names_in front))) (level_in (names_in front) y)) ≡ level_in (names_in front) y
    pick y true g = ap (level_in (names_in front)) ((bytes_eq-Decides s.name y).0 g)
    pick y false g = refl

pub names_outside : (front all again : List Shadow) (s : Shadow) → all ≡ front ++ s ∷ [] → again ≡ front → names_in again ≡ outside (names_in all)
names_outside front all again s b a = ap names_in a ∙ ap outside (sym (ap names_in b ∙ names_more front s))

pub none_outside : (all seen : List Shadow) → seen ≡ all → length seen ≡ 0 → names_in all ≡ outside (names_in all)
none_outside all seen e l = pick seen e l
  where
    pick : (zs : List Shadow) → zs ≡ all → length zs ≡ 0 → names_in all ≡ outside (names_in all)
    pick [] f k = ap names_in (sym f) ∙ ap (λ zs. outside (names_in zs)) f
    pick (z ∷ zs) f k = absurd (omega arith)

pub last_same : (was front : List Shadow) (last s : Shadow) → was ++ last ∷ [] ≡ front ++ s ∷ [] → was ≡ front
last_same was front last s e =
    let turned : (last ∷ reverse was) ≡ (s ∷ reverse front) = sym (reverse-append was (last ∷ [])) ∙ ap reverse e ∙ reverse-append front (s ∷ []) in
    let rest : reverse was ≡ reverse front = cc in
    sym (reverse-reverse was) ∙ ap reverse rest ∙ reverse-reverse front

pub none_last : (all again front : List Shadow) (s : Shadow) → all ≡ [] → all ≡ front ++ s ∷ [] → again ≡ front
none_last all again [] s e f = let z : [] ≡ s ∷ [] = sym e ∙ f in cc
none_last all again (t ∷ front) s e f = let z : [] ≡ t ∷ (front ++ s ∷ []) = sym e ∙ f in cc

pub puts_same : {Y : Type 0} (m n : BTreeMap (String Y) ℕ) (x y : List ℕ) (o : Option ℕ) → Puts m n x o → x ≡ y → Puts m n y o
puts_same m n x y o put e = λ z. put z ∙ ap (λ w. cond (bytes_eq w z) o (levels_in m z)) e

-- ---- positions

below : (xs : Names) (x : List ℕ) (l : ℕ) → level_in xs x ≡ Some l → l < length xs
below [] x l e = cc
below (y ∷ ys) x l e = pick (bytes_eq y x) (λ f. below ys x l f) e
  where
    pick : (c : Bool) → (level_in ys x ≡ Some l → l < length ys) → cond c (Some (length ys)) (level_in ys x) ≡ Some l → l < length (y ∷ ys)
    pick true inner f = let g : length ys ≡ l = cc in omega (arith, g)
    pick false inner f = let g : l < length ys = inner f in omega (arith, g)

-- the position of a level, where n variables are bound, from k on
abbrev inwards : ℕ → ℕ → Option ℕ → Option ℕ
inwards k n None = None
inwards k n (Some l) = Some (k + (n - 1 - l))

by_level : (k : ℕ) (xs : Names) (x : List ℕ) → position k xs x ≡ inwards k (length xs) (level_in xs x)
by_level k [] x = refl
by_level k (y ∷ ys) x = pick (bytes_eq y x) (by_level (suc k) ys x ∙ further (level_in ys x) refl)
  where
    further : (o : Option ℕ) → level_in ys x ≡ o → inwards (suc k) (length ys) (level_in ys x) ≡ inwards k (suc (length ys)) (level_in ys x)
    further None e = ap (inwards (suc k) (length ys)) e ∙ ap (inwards k (suc (length ys))) (sym e)
    further (Some l) e =
        let lt : l < length ys = below ys x l e in
        let n : (suc k + (length ys - 1 - l)) ≡ (k + (suc (length ys) - 1 - l)) = omega (arith, lt) in
        ap (inwards (suc k) (length ys)) e ∙ ap Some n ∙ ap (inwards k (suc (length ys))) (sym e)

    pick : (c : Bool) → position (suc k) ys x ≡ inwards k (suc (length ys)) (level_in ys x)
        → cond c (Some k) (position (suc k) ys x) ≡ inwards k (suc (length ys)) (cond c (Some (length ys)) (level_in ys x))
    pick true ih = let n : k ≡ (k + (suc (length ys) - 1 - length ys)) = omega arith in ap Some n
    pick false ih = ih

pub some_position : {Y : Type 0} (m : BTreeMap (String Y) ℕ) (bound : List Shadow) (x : List ℕ) (l n d k : ℕ) → AreLevels m bound → levels_in m x ≡ Some l → n ≡ length bound → d ≡ n - l
    → k ≡ d - 1 → Some k ≡ position 0 (names_in bound) x
unfolding AreLevels
some_position m bound x l n d k are e f g h =
    let long = names_long bound in
    let same : k ≡ (0 + (length (names_in bound) - 1 - l)) = omega (arith, long, f, g, h) in
    ap Some same ∙ ap (inwards 0 (length (names_in bound))) (sym e ∙ are x) ∙ sym (by_level 0 (names_in bound) x)

pub no_position : {Y : Type 0} (m : BTreeMap (String Y) ℕ) (bound : List Shadow) (x : List ℕ) → AreLevels m bound → levels_in m x ≡ None → None ≡ position 0 (names_in bound) x
unfolding AreLevels
no_position m bound x are e = ap (inwards 0 (length (names_in bound))) (sym e ∙ are x) ∙ sym (by_level 0 (names_in bound) x)
