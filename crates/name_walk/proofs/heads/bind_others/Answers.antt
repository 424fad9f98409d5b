use Rattle.std.proofs.Common.{◌∙◌}
use Rattle.term_walk.specs.Scopes.{scope_of}
use Rattle.name_walk.proofs.OtherParams.{others_after, others_over}
use Rattle.name_walk.proofs.heads.bind_others.Goals as goal

pub loop-param-preserved : goal.loop-param-preserved
loop-param-preserved c = record {
  known =
      others_after c.args.name.now c.args.params.now c.loop-param.param-index c.param-item.result c.loop-param-test.true c.param-item.is (scope_of c.loop-param.scope) (scope_of c.bind_other.new.scope) _
      c.loop-param.replaced c.in_ok-replaced.replaced c.in_ok-replaced.ensures.known c.loop-param.invariant.known;
  outer = c.in_ok-replaced.ensures.outer ∙ c.loop-param.invariant.outer;
}

pub returns-clause-known : goal.returns-clause-known
returns-clause-known c =
    others_over c.args.name.now c.args.params.now c.loop-param.param-index c.loop-param-test.false (scope_of c.loop-param.scope) _ c.loop-param.replaced c.loop-param.invariant.known
