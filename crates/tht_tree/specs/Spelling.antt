-- Which bytes spell which file, and where those that spell none are at fault.
use Rattle.std.specs.Prelude.{◌≡◌, ℕ, List, [], Option, Ok, Err}
use Rattle.tht_tree.specs.declared.plain.Spot.{Spot}
use Rattle.tht_tree.specs.declared.token.TokenKind.{TokenKind}
use Rattle.tht_tree.specs.declared.file.Source1.{Source1}
use Rattle.tht_tree.specs.Tokens.{Tok, first_kind}
use Rattle.tht_tree.specs.Splitting.{Splits, start_spot, LexFault}
use Rattle.tht_tree.specs.Grammar.{SpellsFile}
use Rattle.tht_tree.specs.Faults.{Fault, IsFault, spot_in}

-- the bytes split into tokens that spell the file, up to their end
pub record IsSpelled (file : Source1) (bytes : List ℕ) : Type 0 where
  pub tokens : List Tok
  pub split : Splits start_spot bytes (Ok tokens)
  pub spelled : SpellsFile tokens file []

-- the first fault of the bytes is that they do not split into tokens, at this spot
abbrev pub FaultsInSplitting : List ℕ → LexFault → Spot → Type 0
FaultsInSplitting bytes f spot = Splits start_spot bytes (Err (f, spot))

-- the bytes split into tokens, whose first fault stands at this spot, at a token of this kind or at the end
pub record FaultsInSpelling (bytes : List ℕ) (f : Fault) (spot : Spot) (found : Option TokenKind) : Type 0 where
  pub tokens : List Tok
  pub left : List Tok
  pub split : Splits start_spot bytes (Ok tokens)
  pub fault : IsFault SpellsFile tokens f left
  pub spot_is : spot ≡ spot_in bytes left
  pub found_is : found ≡ first_kind left
