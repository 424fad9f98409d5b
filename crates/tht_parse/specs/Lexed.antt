-- The ends of parsing, by what the lexer says.
use Rattle.tht_lex.specs.declared.end.LexEnd.{LexEnd}
use Rattle.tht_lex.specs.declared.end.LexEnd.TheVariants as l
use Rattle.tht_parse.specs.declared.end.ParseEnd.{ParseEnd}
use Rattle.tht_parse.specs.declared.end.ParseEnd.TheVariants as e

-- the end that the lexer's end is
abbrev pub lexed : LexEnd → ParseEnd
lexed (l.BadByte spot) = e.BadByte spot
lexed (l.LongName spot) = e.LongName spot
lexed (l.BigNumber spot) = e.BigNumber spot
lexed l.Memory = e.Memory
