-- What the public answers of the parser say of the bytes.
use Rattle.std.specs.Prelude.{◌≡◌, ℕ, List, Option, Result, Ok, Err}
use Rattle.tht_tree.specs.declared.token.TokenKind.{TokenKind}
use Rattle.tht_tree.specs.declared.file.Source1.{Source1}
use Rattle.tht_tree.specs.Tokens.{deep, many, version}
use Rattle.tht_tree.specs.Splitting.{bad_byte, long_name, big_number}
use Rattle.tht_tree.specs.Faults.{unexpected, over}
use Rattle.tht_tree.specs.Spelling.{FaultsInSplitting, FaultsInSpelling}
use Rattle.tht_parse.specs.declared.end.ParseEnd.{ParseEnd}
use Rattle.tht_parse.specs.declared.end.ParseEnd.TheVariants as e

-- what the error says is the first fault of the bytes; want of memory says nothing of them
abbrev pub IsFirstFault : List ℕ → ParseEnd → Type 0
IsFirstFault bytes (e.BadByte spot) = FaultsInSplitting bytes bad_byte spot
IsFirstFault bytes (e.LongName spot) = FaultsInSplitting bytes long_name spot
IsFirstFault bytes (e.BigNumber spot) = FaultsInSplitting bytes big_number spot
IsFirstFault bytes (e.Unexpected spot found) = FaultsInSpelling bytes unexpected spot found
IsFirstFault bytes (e.Deep spot) = (found : Option TokenKind) × FaultsInSpelling bytes (over deep) spot found
IsFirstFault bytes (e.Many spot) = (found : Option TokenKind) × FaultsInSpelling bytes (over many) spot found
IsFirstFault bytes (e.Version spot) = (found : Option TokenKind) × FaultsInSpelling bytes (over version) spot found
IsFirstFault bytes e.Memory = Unit {0}

-- the file, unless memory ran out
abbrev pub IsOkOrMemory : Result Source1 ParseEnd → Source1 → Type 0
IsOkOrMemory (Ok file) x = file ≡ x
IsOkOrMemory (Err e.Memory) x = Unit {0}
IsOkOrMemory (Err end) x = ⊥
