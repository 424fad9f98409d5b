use Rattle.std.proofs.Common.{sym, ◌∙◌}
use Rattle.tht_tree.specs.Rules.Context.{context_of}
use Rattle.pure_proofs.specs.Said.{known_in}
use Rattle.pure_proofs.proofs.Soundness.{true_where_known}
use Rattle.pure_proofs.proofs.prover.prove.Goals as goal

pub returns-in-Ok-None-clause-sound : goal.returns-in-Ok-None-clause-sound
unfolding known_in
returns-in-Ok-None-clause-sound c =
    true_where_known c.args.roots.now c.args.proof.now (context_of c.args.known.now.state) c.args.goal.now (sym c.in-Ok-None.ensures.verdict ∙ c.in-Ok-None.field-0-is)
