use Rattle.std.proofs.Common.{◌∙◌, ap}
use Rattle.tht_tree.specs.Rules.Context.{context_of}
use Rattle.heap_rules.proofs.NewLocals.{locals_of-insert}
use Rattle.heap_rules.proofs.names.bind.Goals as goal

pub returns-clause-ok : goal.returns-clause-ok
returns-clause-ok c =
    ap (λ s. record (context_of c.args.known.now.state) { scope = s })
    (locals_of-insert c.in_ok-name.name c.args.known.now.state.scope c.insert.new.self c.args.name.now c.args.local c.in_ok-insert.ensures.updates (c.in_ok-name.ensures.ok ∙ c.as_str.ensures))
