-- The tokens of a source: all limits count at them, names are names, and numbers are below 2^64.
use Rattle.std.proofs.Common.{◌≡◌, true, ℕ, ◌≤◌, ◌<◌, List, [], ◌∷◌, refl}
use Rattle.tht_tree.specs.declared.token.TokenKind.TheVariants as k
use Rattle.tht_tree.specs.Values.{number_limit}
use Rattle.tht_tree.specs.Tokens.{counts, counts_at, many, deep, Tok, kind_of, mark_of, info_of}
use Rattle.tht_tree.specs.Productions.{Room, Within}
use Rattle.tht_layout.proofs.Prints.{IsName}

pub record Good (t : Tok) : Type 0 where
  pub marked : mark_of t ≡ counts
  pub is_name : kind_of t ≡ k.Name → IsName (info_of t).text
  pub is_small : kind_of t ≡ k.Num → (info_of t).value < number_limit

abbrev pub AllGood : List Tok → Type 0
AllGood [] = Unit {0}
AllGood (t ∷ ts) = Good t × AllGood ts

-- what a text holds, and that the tokens left are good too
pub record Told (Q : Type 0) (j : List Tok) : Type 0 where
  pub it : Q
  pub rest : AllGood j

-- a limit that counts is kept
pub room_is : {limit n : ℕ} (t : Tok) → Good t → Room limit n (mark_of t) → n < limit
room_is {limit = limit} {n = n} t g room = let h : counts_at (mark_of t) many ≡ true = rw g.marked refl in room h

pub depth_is : {d : ℕ} (t : Tok) (i : List Tok) → Good t → Within d (t ∷ i) → d ≤ 100
depth_is t i g within = let h : counts_at (mark_of t) deep ≡ true = rw g.marked refl in within h
