-- The walk that hands down names of levels makes what putting in is defined as.
use Rattle.std.proofs.Common.{◌≡◌, ℕ, zero, suc, ◌+◌, ◌≤◌, arith, List, [], ◌∷◌, ◌++◌, refl, sym, ◌∙◌, ap}
use Rattle.tht_tree.specs.declared.assn.Assn.{Assn, map-Assn, roll-Assn, fold-roll-Assn}
use Rattle.tht_tree.specs.declared.assn.Assn.TheVariants as a
use Rattle.tht_tree.specs.declared.assn.Assn.TheOpen.{Assn-F}
use Rattle.tht_tree.specs.declared.assn.Assn.TheOpen as f
use Rattle.tht_tree.specs.Normal.Putting.{Puts}
use Rattle.tht_logic.specs.Putting.{bound_name, zeros_made, renaming, put_assn_at, put_inside, put_in_assn}
use Rattle.assn_laws.proofs.AssnInduction.{OfParts, by_parts}
use Rattle.assn_laws.proofs.Nameless.{put_whole}
use Rattle.heap_assert.specs.ByNames.{put_named_at, put_named}

-- the name of the next level
pub next_name : (d : ℕ) → bound_name d ++ 48 ∷ [] ≡ bound_name (suc d)
next_name zero = refl
next_name (suc d) = ap (λ (n : List ℕ). 48 ∷ n) (next_name d)

-- the name of a number, zero by zero
pub one_longer : (d : ℕ) (t u : List ℕ) → t ≡ bound_name d → u ≡ t ++ 48 ∷ [] → u ≡ bound_name (d + 1)
one_longer d t u e f = let more : suc d ≡ d + 1 = omega arith in f ∙ ap (λ (n : List ℕ). n ++ 48 ∷ []) e ∙ next_name d ∙ ap bound_name more

pub all_zeros : (d n : ℕ) (t : List ℕ) → t ≡ bound_name d → d ≤ n → n ≤ d → t ≡ bound_name n
all_zeros d n t e l g = let same : d ≡ n = omega (arith, l, g) in e ∙ ap bound_name same

abbrev NamedIs : Assn → Type 0
NamedIs p = (d : ℕ) (by : Puts) → put_named (bound_name d) by p ≡ put_inside d by p

abbrev by_name : Assn → List ℕ → Puts → Assn
by_name p level by = put_named level by p

abbrev by_level : Assn → ℕ → Puts → Assn
by_level p d by = put_inside d by p

level : (x : Assn-F Assn) → OfParts NamedIs x → (d : ℕ) (by : Puts) →
    put_named_at (map-Assn Assn (List ℕ → Puts → Assn) by_name x) (bound_name d) by ≡ put_assn_at (map-Assn Assn (ℕ → Puts → Assn) by_level x) d by
level f.Emp h d by = refl
level (f.Fact t) h d by = refl
level (f.Own t u) h d by = refl
level (f.Shared t u) h d by = refl
level (f.Star p q) h d by = λ i. a.Star (h.0 d by i) (h.1 d by i)
level (f.Inst n ts) h d by = refl
level (f.Exists x s p) h d by =
    ap (a.Exists (bound_name d) s) (ap (λ (n : List ℕ). put_named n (renaming x d by) p) (next_name d) ∙ h (suc d) (renaming x d by))
level (f.Either p q) h d by = λ i. a.Either (h.0 d by i) (h.1 d by i)

at_level : (x : Assn-F Assn) → OfParts NamedIs x → NamedIs (roll-Assn x)
at_level x h d by =
    ap (λ g. g (bound_name d) by) (fold-roll-Assn (List ℕ → Puts → Assn) put_named_at x) ∙ level x h d by
    ∙ sym (ap (λ g. g d by) (fold-roll-Assn (ℕ → Puts → Assn) put_assn_at x))

named_is : (p : Assn) → NamedIs p
named_is = by_parts NamedIs at_level

-- from the outermost level on
pub outermost_is : (p : Assn) (by : Puts) → put_named (bound_name (zeros_made by p)) by p ≡ put_in_assn by p
outermost_is p by = named_is p (zeros_made by p) by ∙ sym (put_whole by p)
