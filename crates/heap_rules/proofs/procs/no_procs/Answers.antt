use Rattle.heap_rules.specs.PredicatePlaces.{proc_name_of}
use Rattle.heap_rules.proofs.PlacesByName.{none_placed}
use Rattle.heap_rules.proofs.procs.no_procs.Goals as goal

pub returns : goal.returns
returns c = none_placed proc_name_of c.new.result c.new.ensures.empty
