-- Tests that are joined by "or", and numbers that are wide.
use Rattle.std.proofs.Common.{◌≡◌, ℕ, ◌+◌, ◌^◌, ◌<◌, ◌≤◌, ◌||◌, Bool, true, false, refl, arith}
use Rattle.std.proofs.lemmas.Bool.Decides.{nat_tests}
use Rattle.tht_tree.specs.Normal.Forms.{is_wide}

pub neither : (a b : Bool) → (a || b) ≡ false → (a ≡ false) × (b ≡ false)
neither false b e = (refl, e)
neither true b e = absurd (contradiction e)
  where
    contradiction : true ≡ false → ⊥
    contradiction e = cc

pub none_or : (a b : Bool) → a ≡ false → b ≡ false → (a || b) ≡ false
none_or false b e f = f
none_or true b e f = e

pub first_or : (a b : Bool) → a ≡ true → (a || b) ≡ true
first_or true b e = refl
first_or false b e = cc

pub second_or : (a b : Bool) → b ≡ true → (a || b) ≡ true
second_or true b e = refl
second_or false b e = e

pub or_assoc : (a b c : Bool) → (a || (b || c)) ≡ ((a || b) || c)
or_assoc true b c = refl
or_assoc false b c = refl

pub not_wide : (n : ℕ) → n < 2 ^ 128 → is_wide n ≡ false
not_wide n h = grind (arith, nat_tests)

wide_up : (n : ℕ) → 2 ^ 128 ≤ n → is_wide n ≡ true
wide_up n h = grind (arith, nat_tests)

pub is_wide_from : (n : ℕ) → (n < 2 ^ 128 → ⊥) → is_wide n ≡ true
is_wide_from n h = wide_up n (omega arith)

pub wide_is : (n : ℕ) → is_wide n ≡ true → 2 ^ 128 ≤ n
wide_is n e = grind (arith, nat_tests)

narrow_is : (n : ℕ) → is_wide n ≡ false → n < 2 ^ 128
narrow_is n e = grind (arith, nat_tests)

-- parts of a number that is not wide are not wide
pub first_narrow : (a b : ℕ) → is_wide (a + b) ≡ false → is_wide a ≡ false
first_narrow a b e = let h = narrow_is (a + b) e in not_wide a (omega arith)

pub second_narrow : (a b : ℕ) → is_wide (a + b) ≡ false → is_wide b ≡ false
second_narrow a b e = let h = narrow_is (a + b) e in not_wide b (omega arith)
