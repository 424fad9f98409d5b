-- The number that digits write, digit by digit.
use Rattle.std.proofs.Common.{◌≡◌, ℕ, ◌+◌, ◌-◌, ◌*◌, ◌≤◌, ◌<◌, sym, ◌∙◌, ap, refl, arith, List, [], ◌∷◌, length, take, drop, get_or, fold}
use Rattle.std.proofs.lemmas.List.{take-append-drop}
use Rattle.std.proofs.lemmas.List.Sums.{fold_more, fold-append}
use Rattle.tht_tree.specs.Splitting.{number_of}

abbrev step : ℕ → ℕ → ℕ
step n b = 10 * n + (b - 48)

step_grows : (n : ℕ) (bs : List ℕ) → n ≤ fold step n bs
step_grows n [] = omega arith
step_grows n (b ∷ bs) = let more = step_grows (step n b) bs in omega arith

pub number_none : number_of [] ≡ 0
unfolding number_of
number_none = refl

pub number_more : (bs : List ℕ) (i : ℕ) → i < length bs → number_of (take (i + 1) bs) ≡ 10 * number_of (take i bs) + (get_or bs i 0 - 48)
unfolding number_of
number_more bs i h = fold_more step 0 bs i 0 h

number_grows : (bs : List ℕ) (i : ℕ) → number_of (take i bs) ≤ number_of bs
unfolding number_of
number_grows bs i =
    let whole : fold step 0 bs ≡ fold step (fold step 0 (take i bs)) (drop i bs) =
    ap (fold step 0) (sym (take-append-drop i bs)) ∙ fold-append step 0 (take i bs) (drop i bs) in
    let more = step_grows (fold step 0 (take i bs)) (drop i bs) in omega arith

-- the digits after one make the number no less
pub number_least : (bs : List ℕ) (i : ℕ) → i < length bs → 10 * number_of (take i bs) + (get_or bs i 0 - 48) ≤ number_of bs
number_least bs i h = let e = number_more bs i h in let g = number_grows bs (i + 1) in omega arith
