-- The tokens that are to be printed.
use Rattle.std.specs.Prelude.{List, reverse, map}
use Rattle.tht_tree.specs.Layout.{Shape, word, name, number}
use Rattle.tht_print.specs.declared.tokens.Token.{Token}
use Rattle.tht_print.specs.declared.tokens.Token.TheVariants.{Word, Name, Number}
use Rattle.tht_print.specs.declared.tokens.Tokens.{Tokens}

abbrev pub shape_of : Token → Shape
shape_of (Word kind) = word kind
shape_of (Name text) = name text.now
shape_of (Number value) = number value

-- the tokens of a stack, from its top on
unfoldable pub tokens_of : Tokens → List Shape
tokens_of tokens = reverse (map shape_of tokens.stack.items)
