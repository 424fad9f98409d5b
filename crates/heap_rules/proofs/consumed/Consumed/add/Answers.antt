use Rattle.heap_rules.specs.declared.consumed.Consumed.{Consumed}
use Rattle.heap_rules.proofs.AtomsLeft.{left_more, counted_more}
use Rattle.heap_rules.proofs.consumed.Consumed.add.Goals as goal

pub returns-clause-left : goal.returns-clause-left
returns-clause-left c = λ atoms.
    left_more c.args.self.now (record { numbers = c.insert.new.self; nodes = c.saturating_add-self.result }) c.args.number c.requires.new c.in_ok-insert.ensures.keys atoms

pub returns-clause-counted : goal.returns-clause-counted
returns-clause-counted c = λ atoms next counted.
    let new : Consumed = record { numbers = c.insert.new.self; nodes = c.saturating_add-self.result } in
    counted_more c.args.self.now new c.args.number c.args.nodes atoms (left_more c.args.self.now new c.args.number c.requires.new c.in_ok-insert.ensures.keys atoms) c.saturating_add-self.ensures next counted
