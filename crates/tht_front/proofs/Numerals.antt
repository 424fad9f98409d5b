-- Numbers among the words: a word is the decimal of a number where it begins with a digit above 0 and is read as that number.
use Rattle.std.proofs.Common.{◌≡◌, ℕ, ◌^◌, ◌<◌, ◌≤◌, Bool, true, false, ◌&&◌, length, get_or, List, [], ◌∷◌, Option, None, Some, Result, Ok, Err, zero, suc, refl, sym, ◌∙◌, ap, subst, arith}
use Rattle.std.proofs.lemmas.Bool.{leb-true, le-leb}
use Rattle.std.proofs.lemmas.Fmt.{decimal_digit, decimal_nonempty, first_decimal, digits_decimal, decimal-digits_value, parse-decimal}
use Rattle.std.proofs.lemmas.Slice.Eq.{bytes_eq-Decides}
use Rattle.std.proofs.lemmas.Str.Parse.{IsNumeralModel, numerals_by_value, tells_digits, digit_from_value, parse_plain}
use Rattle.std.specs.Prelude.{nat_le, bytes_eq, decimal, if◌then◌else◌}
use Rattle.std.specs.Result.{OkIff}
use Rattle.std.specs.Str.Parse.{AllDigits, ParsesUnsigned, digits_value}
use Rattle.tht_tree.proofs.SameTerm.{bytes_eq-true}
use Rattle.tht_logic.specs.CommandLine.{if_written, number_up_to}
use Rattle.tht_front.specs.Asking.{begins_above_zero}

own : IsNumeralModel (AllDigits 10) (digits_value 10)
own = numerals_by_value (AllDigits 10) tells_digits

-- ---- the first digit

both : (a b : Bool) → a ≡ true → b ≡ true → (a && b) ≡ true
both a b e f = λ i. e i && f i

both_true : (a b : Bool) → (a && b) ≡ true → (a ≡ true) × (b ≡ true)
both_true true b e = (refl, e)
both_true false b e = cc

begins_of : (ds : List ℕ) → 0 < length ds → 48 < get_or ds 0 0 → AllDigits 10 ds → begins_above_zero ds ≡ true
begins_of [] some first digits = absurd (omega (arith, some))
begins_of (b ∷ bs) some first digits =
    let above : 48 < b = first in
    let range = digit_from_value b digits.0 in
    both (nat_le 49 b) (nat_le b 57) (le-leb 49 b (omega (arith, above))) (le-leb b 57 range.1)

-- the decimal of a number above 0 begins with a digit above 0
begins_decimal : (n : ℕ) → 0 < n → n < 2 ^ 64 → begins_above_zero (decimal n) ≡ true
begins_decimal n more small = begins_of (decimal n) (decimal_nonempty n small) (first_decimal n more small) (digits_decimal own n small)

first_digit : (ds : List ℕ) → begins_above_zero ds ≡ true → (0 < length ds) × (48 < get_or ds 0 0) × (get_or ds 0 0 ≤ 57)
first_digit [] e = cc
first_digit (b ∷ bs) e =
    let b2 = both_true (nat_le 49 b) (nat_le b 57) e in
    let low : 49 ≤ b = leb-true 49 b b2.0 in
    let above : 48 < b = omega (arith, low) in
    let some : 0 < length (b ∷ bs) = omega arith in
    (some, above, leb-true b 57 b2.1)

-- a word that begins so is not the decimal of 0
above_zero : (word : List ℕ) → begins_above_zero word ≡ true → (n : ℕ) → decimal n ≡ word → 1 ≤ n
above_zero word begins zero written =
    let zero_text : word ≡ 48 ∷ [] = sym written ∙ decimal_digit 0 (omega arith) in
    let never : true ≡ false = sym begins ∙ ap begins_above_zero zero_text in
    cc
above_zero word begins (suc n) written = omega arith

-- ---- what is written

-- the word is the decimal of the number, which is from one up to the limit
record IsWritten (limit : ℕ) (word : List ℕ) (n : ℕ) : Type 0 where
  is : word ≡ decimal n
  least : 1 ≤ n
  most : n ≤ limit

-- what holds of `None`, and of `Some n` where the word is the decimal of n, holds of the answer
written_by : (P : Option ℕ → Type 0) (limit : ℕ) (word : List ℕ) (n : ℕ) → P None → (IsWritten limit word n → P (Some n)) → P (if_written limit word n)
written_by P limit word n none some = pick (bytes_eq word (decimal n)) (nat_le 1 n) (nat_le n limit) refl refl refl
  where
    pick : (a b c : Bool) → bytes_eq word (decimal n) ≡ a → nat_le 1 n ≡ b → nat_le n limit ≡ c → P (if a && (b && c) then Some n else None)
    pick true true true e f g = some (record { is = bytes_eq-true word (decimal n) e; least = leb-true 1 n f; most = leb-true n limit g })
    pick true true false e f g = none
    pick true false c e f g = none
    pick false b c e f g = none

module _ (limit : ℕ) (small : limit < 2 ^ 32) (word : List ℕ) where
  -- a word that begins otherwise is no number
  pub no_number : false ≡ begins_above_zero word → None ≡ number_up_to limit word
  no_number e =
      written_by (λ o. None ≡ o) limit word (digits_value 10 word) refl
      (λ w. let begins = ap begins_above_zero w.is ∙ begins_decimal (digits_value 10 word) (omega (arith, w.least)) (omega (arith, w.most, small)) in
      let never : false ≡ true = e ∙ begins in
      cc)

  module _ {E : Type 0} (r : Result ℕ E) (parses : ParsesUnsigned 32 10 word r) where
    -- nor is one that is not read
    pub not_read : (e : E) → r ≡ Err e → None ≡ number_up_to limit word
    not_read e is =
        written_by (λ o. None ≡ o) limit word (digits_value 10 word) refl
        (λ w. let read : r ≡ Ok (digits_value 10 word) = parse-decimal 32 (digits_value 10 word) word r (omega (arith, w.most, small)) (omega (arith, w.most, small)) w.is parses in
        let never : Err e ≡ Ok (digits_value 10 word) = sym is ∙ read in
        cc)

    -- one that is read is that number
    pub read : (n : ℕ) → r ≡ Ok n → true ≡ begins_above_zero word → (if nat_le n limit then Some n else None) ≡ number_up_to limit word
    read n is begins =
        let first = first_digit word (sym begins) in
        let plain : OkIff r (AllDigits 10 word × (0 < length word) × (digits_value 10 word < 2 ^ 32)) (digits_value 10 word)
        = parse_plain own 32 word r parses (λ plus. absurd (omega (arith, first.1, plus))) in
        let said : (AllDigits 10 word × (0 < length word) × (digits_value 10 word < 2 ^ 32)) × (n ≡ digits_value 10 word)
        = subst (λ z. OkIff z (AllDigits 10 word × (0 < length word) × (digits_value 10 word < 2 ^ 32)) (digits_value 10 word)) is plain in
        let v : ℕ = digits_value 10 word in
        let written : decimal v ≡ word = decimal-digits_value own word said.0.0 first.0 (λ zero_first. absurd (omega (arith, first.1, zero_first))) (omega (arith, said.0.2)) in
        let same : bytes_eq word (decimal v) ≡ true = (bytes_eq-Decides word (decimal v)).1 (sym written) in
        let least : nat_le 1 v ≡ true = le-leb 1 v (above_zero word (sym begins) v written) in
        ap (λ k. if nat_le k limit then Some k else None) said.1
        ∙ sym (ap (λ b. if b && (nat_le 1 v && nat_le v limit) then Some v else None) same ∙ ap (λ b. if b && nat_le v limit then Some v else None) least)
