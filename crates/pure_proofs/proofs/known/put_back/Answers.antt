use Rattle.std.proofs.Common.{◌∙◌}
use Rattle.tht_tree.specs.declared.state.Local.TheVariants.{Hypothesis}
use Rattle.pure_proofs.proofs.Maps.{set_back, take_out}
use Rattle.pure_proofs.proofs.known.put_back.Goals as goal

pub returns-in-Some : goal.returns-in-Some
returns-in-Some c = λ was e f. set_back c.set_local.new.scope was c.args.name.now c.in-Some.local (c.set_local.ensures was e) (f ∙ c.in-Some.is)

pub returns-in-None : goal.returns-in-None
returns-in-None c = λ was e f. take_out c.args.scope.now c.remove.new.self c.as_str.result.now c.args.name.now Hypothesis was c.remove.ensures.updates c.as_str.ensures e (f ∙ c.in-None.is)
