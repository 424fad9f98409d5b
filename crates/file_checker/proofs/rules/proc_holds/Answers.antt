use Rattle.tht_tree.specs.Rules.Context.{context_of}
use Rattle.tht_logic.specs.Rules.Scoped.{instance_fits}
use Rattle.heap_rules.specs.Declarations.{declared_by}
use Rattle.file_checker.proofs.Starting.{start_formed}
use Rattle.file_checker.proofs.rules.proc_holds.Goals as goal

pub body_holds-requires : goal.body_holds-requires
body_holds-requires c =
    start_formed (instance_fits (declared_by c.args.predicates.now)) c.args.spot c.args.head.now (context_of c.in_ok-state.state) c.requires c.in_ok-state.ensures
