use Rattle.std.proofs.Common.{rules}
use Rattle.tht_ports.proofs.Moves.{none_at_end}
use Rattle.tht_ports.proofs.streams.StdinSourceSource.pull.Goals as goal

pub returns-in-Ok-clause-end : goal.returns-in-Ok-clause-end
returns-in-Ok-clause-end g c = search (rules, none_at_end)
