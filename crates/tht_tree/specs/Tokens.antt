-- The tokens of a text as the grammar sees them.
use Rattle.std.specs.Prelude.{ℕ, Bool, true, false, List, [], ◌∷◌, Option, Some, None}
use Rattle.tht_tree.specs.declared.plain.Spot.{Spot}
use Rattle.tht_tree.specs.declared.token.TokenKind.{TokenKind}

-- What a limit is of: open constructs, the length of a chain or a list, or the version.
pub data Limit : Type 0 where
  deep : Limit
  many : Limit
  version : Limit

-- Which limits count at a token: all, all but one, or none. All count at each token of a source; the others are there so
-- that a source can be compared with the texts that would go on without a limit.
pub data Mark : Type 0 where
  counts : Mark
  lifts : Limit → Mark
  free : Mark

-- whether the limit counts at a token of this mark
abbrev pub counts_at : Mark → Limit → Bool
counts_at counts l = true
counts_at (lifts deep) deep = false
counts_at (lifts many) many = false
counts_at (lifts version) version = false
counts_at (lifts _) _ = true
counts_at free l = false

-- which limits count at a token, where it stands, the value of a number (0 for any other token), and its bytes
pub record Info : Type 0 where
  pub mark : Mark
  pub spot : Spot
  pub value : ℕ
  pub text : List ℕ

pub data Tok : Type 0 where
  tok : TokenKind → Info → Tok

abbrev pub kind_of : Tok → TokenKind
kind_of (tok k i) = k

abbrev pub info_of : Tok → Info
info_of (tok k i) = i

abbrev pub mark_of : Tok → Mark
mark_of t = (info_of t).mark

abbrev pub first_kind : List Tok → Option TokenKind
first_kind [] = None
first_kind (t ∷ ts) = Some (kind_of t)
