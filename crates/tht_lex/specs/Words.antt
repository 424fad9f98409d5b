-- The rows of a table, without where their texts lie.
use Rattle.std.specs.Prelude.{ℕ, List, map}
use Rattle.std.specs.Borrow.{Bor}
use Rattle.tht_tree.specs.declared.token.TokenKind.{TokenKind}

abbrev pub rows : List (Bor (List ℕ) × TokenKind) → List (List ℕ × TokenKind)
rows table = map (λ r. (r.0.now, r.1)) table
