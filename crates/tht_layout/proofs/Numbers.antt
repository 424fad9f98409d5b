-- A number in decimal is read back.
use Rattle.std.proofs.Common.{◌≡◌, ℕ, zero, suc, ◌+◌, ◌-◌, ◌*◌, ◌/◌, ◌%◌, ◌^◌, ◌<◌, ap, sym, subst, ◌∙◌, refl, arith, Bool, true, false, nat_lt, ◌==◌, if◌then◌else◌, List, [], ◌∷◌, fold}
use Rattle.std.proofs.lemmas.Bool.Decides.{nat_tests}
use Rattle.std.proofs.Math.Nat.{pow-suc}
use Rattle.std.specs.Fmt.{digit_glyph, digits_onto, digits, decimal}
use Rattle.tht_tree.specs.Values.{number_limit}
use Rattle.tht_tree.specs.Splitting.{Class, digit, class_of, in_number, is_in_number, number_of}

abbrev step : ℕ → ℕ → ℕ
step n b = 10 * n + (b - 48)

abbrev pub AllInNumber : List ℕ → Type 0
AllInNumber [] = Unit {0}
AllInNumber (b ∷ bs) = (in_number b ≡ true) × AllInNumber bs

glyph_is : (n : ℕ) → n < 10 → digit_glyph false n ≡ 48 + n
glyph_is n h = let t : nat_lt n 10 ≡ true = grind (arith, nat_tests) in rw t

-- the digits before some others, of a number with at most so many digits
value_onto : (k n : ℕ) (acc : List ℕ) → n < 10 ^ k → fold step 0 (digits_onto k 10 false n acc) ≡ fold step n acc
value_onto zero n acc h = let none : n ≡ 0 = omega arith in ap (λ (m : ℕ). fold step m acc) (sym none)
value_onto (suc k) n acc h = by_test (n / 10 == 0) refl (λ small. value_onto k (n / 10) (digit_glyph false (n % 10) ∷ acc) small)
  where
    smaller : 10 ^ suc k ≡ 10 ^ k * 10 → n / 10 < 10 ^ k
    smaller same = let below : n < 10 ^ k * 10 = subst (λ (m : ℕ). n < m) same h in omega arith

    last : step (n / 10) (digit_glyph false (n % 10)) ≡ n
    last = let g : digit_glyph false (n % 10) ≡ 48 + n % 10 = glyph_is (n % 10) (omega arith) in rw g (omega arith)

    by_test : (b : Bool) → (n / 10 == 0) ≡ b → (n / 10 < 10 ^ k → fold step 0
        (digits_onto k 10 false (n / 10) (digit_glyph false (n % 10) ∷ acc)) ≡ fold step (n / 10) (digit_glyph false (n % 10) ∷ acc))
        → fold step 0 (if b then digit_glyph false (n % 10) ∷ acc else digits_onto k 10 false (n / 10)
        (digit_glyph false (n % 10) ∷ acc)) ≡ fold step n acc
    by_test true t more =
        let none : n / 10 ≡ 0 = grind (arith, nat_tests) in
        ap (λ (m : ℕ). fold step m acc) (ap (λ (m : ℕ). step m (digit_glyph false (n % 10))) (sym none) ∙ last)
    by_test false t more = more (smaller (pow-suc 10 k)) ∙ ap (λ (m : ℕ). fold step m acc) last

pub decimal_value : (n : ℕ) → n < number_limit → number_of (decimal n) ≡ n
unfolding number_of digits
decimal_value n h = value_onto 64 n [] (omega arith)

-- the digits are digits
digit_in : (n : ℕ) → n < 10 → in_number (digit_glyph false n) ≡ true
unfolding in_number class_of
digit_in zero h = refl
digit_in (suc zero) h = refl
digit_in (suc (suc zero)) h = refl
digit_in (suc (suc (suc zero))) h = refl
digit_in (suc (suc (suc (suc zero)))) h = refl
digit_in (suc (suc (suc (suc (suc zero))))) h = refl
digit_in (suc (suc (suc (suc (suc (suc zero)))))) h = refl
digit_in (suc (suc (suc (suc (suc (suc (suc zero))))))) h = refl
digit_in (suc (suc (suc (suc (suc (suc (suc (suc zero)))))))) h = refl
digit_in (suc (suc (suc (suc (suc (suc (suc (suc (suc zero))))))))) h = refl
digit_in (suc (suc (suc (suc (suc (suc (suc (suc (suc (suc n)))))))))) h = absurd (omega arith)

digits_in : (k n : ℕ) (acc : List ℕ) → AllInNumber acc → AllInNumber (digits_onto k 10 false n acc)
digits_in zero n acc h = h
digits_in (suc k) n acc h = by_test (n / 10 == 0) (digits_in k (n / 10) (digit_glyph false (n % 10) ∷ acc) (digit_in (n % 10) (omega arith), h))
  where
    by_test : (b : Bool) → AllInNumber (digits_onto k 10 false (n / 10) (digit_glyph false (n % 10) ∷ acc))
        → AllInNumber (if b then digit_glyph false (n % 10) ∷ acc else digits_onto k 10 false (n / 10) (digit_glyph false (n % 10) ∷ acc))
    by_test true more = (digit_in (n % 10) (omega arith), h)
    by_test false more = more

pub decimal_digits : (n : ℕ) → AllInNumber (decimal n)
unfolding digits
decimal_digits n = digits_in 64 n [] tt

-- there is at least one
pub record Digits (n : ℕ) : Type 0 where
  pub first : ℕ
  pub others : List ℕ
  pub is : decimal n ≡ first ∷ others
  pub starts : class_of first ≡ digit
  pub goes_on : AllInNumber others

starts_digit : (b : ℕ) → in_number b ≡ true → class_of b ≡ digit
unfolding in_number
starts_digit b h = by_class (class_of b) h
  where
    by_class : (c : Class) → is_in_number c ≡ true → c ≡ digit
    by_class digit h = refl
    by_class _ h = cc

longer : (k n : ℕ) (b : ℕ) (acc : List ℕ) → (c : ℕ) × (cs : List ℕ) × (digits_onto k 10 false n (b ∷ acc) ≡ c ∷ cs)
longer zero n b acc = (b, acc, refl)
longer (suc k) n b acc = by_test (n / 10 == 0) (longer k (n / 10) (digit_glyph false (n % 10)) (b ∷ acc))
  where
    by_test : (t : Bool) → ((c : ℕ) × (cs : List ℕ) × (digits_onto k 10 false (n / 10) (digit_glyph false (n % 10) ∷ b ∷ acc) ≡ c ∷ cs))
        → (c : ℕ) × (cs : List ℕ) × ((if t then digit_glyph false (n % 10) ∷ b ∷ acc else digits_onto k 10 false (n / 10)
        (digit_glyph false (n % 10) ∷ b ∷ acc)) ≡ c ∷ cs)
    by_test true h = (digit_glyph false (n % 10), b ∷ acc, refl)
    by_test false h = h

some_digit : (n : ℕ) → (c : ℕ) × (cs : List ℕ) × (decimal n ≡ c ∷ cs)
unfolding digits
some_digit n = by_test (n / 10 == 0) (longer 63 (n / 10) (digit_glyph false (n % 10)) [])
  where
    by_test : (t : Bool) → ((c : ℕ) × (cs : List ℕ) × (digits_onto 63 10 false (n / 10) (digit_glyph false (n % 10) ∷ []) ≡ c ∷ cs))
        → (c : ℕ) × (cs : List ℕ) × ((if t then digit_glyph false (n % 10) ∷ [] else digits_onto 63 10 false (n / 10)
        (digit_glyph false (n % 10) ∷ [])) ≡ c ∷ cs)
    by_test true h = (digit_glyph false (n % 10), [], refl)
    by_test false h = h

pub digits_of : (n : ℕ) → Digits n
digits_of n =
    let s = some_digit n in
    let P : List ℕ → Type 0 = AllInNumber in
    let all : AllInNumber (s.0 ∷ s.1) = subst P s.2 (decimal_digits n) in
    record { first = s.0; others = s.1; is = s.2; starts = starts_digit s.0 all.0; goes_on = all.1 }
