-- The turns in which two sums are added, monomial by monomial.
use Rattle.std.specs.Prelude.{◌≡◌, ℕ, ◌+◌, ◌<◌, true, false, [], ◌∷◌}
use Rattle.tht_tree.specs.declared.form.Monomial.{Monomial}
use Rattle.tht_tree.specs.Normal.Sums.{Sum, monomial}
use Rattle.tht_tree.specs.Normal.Forms.{is_wide}
use Rattle.pure_terms.specs.declared.sums.Next.{Next}
use Rattle.pure_terms.specs.declared.sums.Next.TheVariants as next
use Rattle.pure_terms.specs.Making.{has_wide}

-- the first monomial of a sum, if its number is not wide, and what is left behind it; nothing is left of a sum that has ended
abbrev pub IsNext : Next → Sum → Sum → Type 0
IsNext (next.Monomial m) p rest = (p ≡ m ∷ rest) × (is_wide m.coefficient ≡ false)
IsNext next.Wide p rest = has_wide p ≡ true
IsNext next.End p rest = p ≡ []

abbrev pub IsJoined : Next → Monomial → Monomial → Type 0
IsJoined (next.Monomial k) m n = (k ≡ monomial (m.coefficient + n.coefficient) m.atoms) × (is_wide k.coefficient ≡ false)
IsJoined next.Wide m n = is_wide (m.coefficient + n.coefficient) ≡ true
IsJoined next.End m n = ⊥

-- where a monomial was taken, fewer are left
abbrev pub IsFewer : Next → ℕ → ℕ → Type 0
IsFewer (next.Monomial m) left before = left < before
IsFewer _ left before = Unit {0}
