-- Which fault of a text is its first one. The tokens before it are the longest front of the text that begins some text of the
-- language (a viable prefix), where no limit counts at what follows them. No token passes two limits at once: the entries of a
-- list stand at one depth, operators open nothing, and the version stands alone.
use Rattle.std.specs.Prelude.{◌≡◌, ℕ, true, List, [], ◌∷◌, ◌++◌, fold}
use Rattle.tht_tree.specs.declared.plain.Spot.{Spot}
use Rattle.tht_tree.specs.Tokens.{Limit, Mark, lifts, free, counts_at, Tok, tok, info_of, mark_of}
use Rattle.tht_tree.specs.Splitting.{start_spot, after}
use Rattle.tht_tree.specs.Productions.{Rel}

-- A token that cannot stand there, or one at which a limit is passed.
pub data Fault : Type 0 where
  unexpected : Fault
  over : Limit → Fault

-- the token with another mark
abbrev pub marked : Mark → Tok → Tok
marked m (tok k w) = tok k (record { mark = m; spot = w.spot; value = w.value; text = w.text })

-- the token with all limits but one
abbrev pub lifted : Limit → Tok → Tok
lifted l = marked (lifts l)

-- no limit counts at these tokens
abbrev pub AllFree : List Tok → Type 0
AllFree [] = Unit {0}
AllFree (t ∷ ts) = (mark_of t ≡ free) × AllFree ts

-- What may follow the tokens before a fault that stands at the first of j: any tokens without limits; where a limit is
-- passed, that very token with the limit lifted, and then such tokens.
abbrev pub Permits : Fault → List Tok → List Tok → Type 0
Permits unexpected j more = AllFree more
Permits (over l) [] more = ⊥
Permits (over l) (t ∷ j) [] = ⊥
Permits (over l) (t ∷ j) (u ∷ more) = (u ≡ lifted l t) × AllFree more

-- No text goes on from the tokens c with the first token of j. Of an unexpected token this holds whatever limits count at it; where a
-- limit is passed, it holds as long as that limit counts. At the end of the input, no text ends there.
abbrev pub Ends : {A : Type 0} → Rel A → Fault → List Tok → List Tok → Type 0
Ends {A = A} R unexpected c [] = (x : A) → R c x [] → ⊥
Ends {A = A} R unexpected c (t ∷ j) = (m : Mark) (more : List Tok) (x : A) → R (c ++ marked m t ∷ more) x [] → ⊥
Ends {A = A} R (over l) c [] = ⊥
Ends {A = A} R (over l) c (t ∷ j) = (m : Mark) (more : List Tok) (x : A) → counts_at m l ≡ true → R (c ++ marked m t ∷ more) x [] → ⊥

-- The first fault of the tokens i stands at the first of j, or at the end of the input: the tokens before it begin a text,
-- and with it they do not.
pub record IsFault {A : Type 0} (R : Rel A) (i : List Tok) (f : Fault) (j : List Tok) : Type 0 where
  pub front : List Tok
  pub all : i ≡ front ++ j
  pub more : List Tok
  pub value : A
  pub permits : Permits f j more
  pub begins : R (front ++ more) value []
  pub ends : Ends R f front j

-- where the first of these tokens of a text stands, or the end of the text
abbrev pub spot_in : List ℕ → List Tok → Spot
spot_in bytes [] = fold after start_spot bytes
spot_in bytes (t ∷ ts) = (info_of t).spot
