-- What pulls and pushes do to known bytes.
use Rattle.std.proofs.Common.{◌≡◌, ℕ, ◌+◌, ◌≤◌, List, ◌++◌, [], length, take, drop, min, ◌<◌, sym, ◌∙◌, refl, subst, arith, None, Some, IfSome, ◌↔◌, ap, length-append}
use Rattle.std.proofs.lemmas.List.{take-append-drop, drop-drop, drop-take, take-take, nil_from_length, length-take-le}
use Rattle.std.specs.declared.option.Option.{Option}
use Rattle.std.specs.Io.KnownBytes.{Appends, Consumes, IsAtEnd}
use Rattle.std.proofs.KnownBytes.{Appends-trans, Consumes-trans}
use Rattle.tht_ports.specs.Ends.{LosesFront}

-- a read that gives none only at the end gives none exactly where nothing was left
pub none_at_end : (old new : Option (List ℕ)) (n : ℕ) (into : List ℕ)
    → n ≤ length into → Consumes old new (take n into) → (n ≡ 0 → 0 < length into → IsAtEnd new)
    → IfSome old (λ bytes. 0 < length into → (n ≡ 0) ↔ (bytes ≡ []))
none_at_end None new n into most taken end = tt
none_at_end (Some xs) None n into most taken end = absurd taken
none_at_end (Some xs) (Some ys) n into most taken end = λ wide. (
  λ none. let gone : ys ≡ [] = end none wide in rw (taken, none, gone) refl,
  λ gone. let count : length (take n into) ≡ n = length-take-le n into most in
      let lengths : length xs ≡ length (take n into) + length ys = ap length taken ∙ length-append (take n into) ys in
      let empty : length xs ≡ 0 = ap length gone in
      omega arith,
)

-- what was left is the n bytes that were moved and then the rest, and where none was moved nothing is left
pub moved : (k n most room : ℕ) (xs front left piece : List ℕ)
    → left ≡ drop k xs → piece ≡ drop k xs → front ≡ take n piece
    → n ≡ min most (min room (length piece)) → 1 ≤ most
    → (left ≡ front ++ drop (k + n) xs) × (n ≡ 0 → 0 < room → drop (k + n) xs ≡ [])
moved k n most room xs front left piece l p e count some =
    let b : take n (drop k xs) ++ drop n (drop k xs) ≡ drop k xs = take-append-drop n (drop k xs) in
    let d : drop n (drop k xs) ≡ drop (k + n) xs = drop-drop n k xs in (
      cc,
      λ none wide. let short : length piece ≤ 0 = omega arith in
          let gone : drop k xs ≡ [] = sym p ∙ nil_from_length piece (omega arith) in
          rw (← d) (rw (none, gone) refl),
    )

-- the first i, and n more
pub take_on : (i n : ℕ) (xs : List ℕ) → take i xs ++ take n (drop i xs) ≡ take (i + n) xs
take_on i n xs =
    let a : take i (take (i + n) xs) ++ drop i (take (i + n) xs) ≡ take (i + n) xs = take-append-drop i (take (i + n) xs) in
    let b : drop i (take (i + n) xs) ≡ take n (drop i xs) = drop-take i n xs in
    let d : take i (take (i + n) xs) ≡ take i xs = take-take i (i + n) xs (omega arith) in
    cc

-- a write of the first i bytes, and then of n more
pub wrote_on : (old mid new : Option (List ℕ)) (i n : ℕ) (xs piece : List ℕ)
    → piece ≡ drop i xs → Appends old mid (take i xs) → Appends mid new (take n piece)
    → Appends old new (take (i + n) xs)
wrote_on old mid new i n xs piece e p q =
    let joined : take i xs ++ take n piece ≡ take (i + n) xs = rw e (take_on i n xs) in
    subst (Appends old new) joined (Appends-trans old mid new _ _ p q)

-- what two reads took, one after the other, was a front
pub loses_more : (old mid new : Option (List ℕ)) (front more : List ℕ)
    → Consumes old mid front → Consumes mid new more → LosesFront old new
loses_more old mid new front more p q =
    record { front = front ++ more; lost = Consumes-trans old mid new front more p q }
