-- The ends of parsing, by what the readers say.
use Rattle.std.specs.Prelude.{ℕ, List}
use Rattle.tht_tree.specs.Tokens.{Tok, first_kind}
use Rattle.tht_tree.specs.Faults.{spot_in}
use Rattle.tht_parse.specs.declared.stop.Fault.TheVariants as f
use Rattle.tht_parse.specs.declared.stop.Stop.{Stop}
use Rattle.tht_parse.specs.declared.stop.Stop.TheVariants as s
use Rattle.tht_parse.specs.declared.end.ParseEnd.{ParseEnd}
use Rattle.tht_parse.specs.declared.end.ParseEnd.TheVariants as e

-- the end where these tokens of the bytes are left
abbrev pub end_of : List ℕ → List Tok → Stop → ParseEnd
end_of bytes left (s.Fault f.Unexpected) = e.Unexpected (spot_in bytes left) (first_kind left)
end_of bytes left (s.Fault f.Deep) = e.Deep (spot_in bytes left)
end_of bytes left (s.Fault f.Many) = e.Many (spot_in bytes left)
end_of bytes left (s.Fault f.Version) = e.Version (spot_in bytes left)
end_of bytes left s.Memory = e.Memory
