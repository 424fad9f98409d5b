use Rattle.std.proofs.Common.{◌≡◌, ◌∙◌, ap}
use Rattle.tht_tree.specs.Walk.Codes.{first}
use Rattle.tht_tree.specs.Walk.Names.{with_name}
use Rattle.term_walk.specs.Scopes.{scope_of}
use Rattle.term_walk.specs.Params.{variable_of}
use Rattle.term_walk.proofs.ParamLists.{names_after, known_after}
use Rattle.term_walk.proofs.params.bind_params.Goals as goal

pub loop-param-preserved : goal.loop-param-preserved
loop-param-preserved c =
    let now = scope_of c.loop-param.scope in
    let bound : scope_of c.bind_in.new.self ≡ with_name now c.param-item.result.name (variable_of c.args.program c.param-item.result.sort) =
    c.in_ok-bind_in.ensures.known ∙ ap (with_name now c.param-item.result.name) c.variable.ensures
    in
    record {
      names =
          names_after (variable_of c.args.program) c.args.params.now c.loop-param.param-index c.param-item.result c.loop-param-test.true c.param-item.is now (scope_of c.bind_in.new.self) bound _ c.loop-param.code c.first-code.result
          c.loop-param.invariant.names (c.first-code.ensures ∙ ap (first c.loop-param.code) c.new_name.ensures);
      known = known_after (variable_of c.args.program) c.args.params.now c.loop-param.param-index c.param-item.result c.loop-param-test.true c.param-item.is now (scope_of c.bind_in.new.self) bound _ c.loop-param.invariant.known;
      outer = c.in_ok-bind_in.ensures.outer ∙ c.loop-param.invariant.outer;
    }
