use Rattle.std.proofs.Common.{◌≡◌, drop}
use Rattle.tht_tree.specs.Walk.Codes.{first}
use Rattle.tht_tree.specs.Walk.Names.{new_params, with_params}
use Rattle.term_walk.specs.Scopes.{scope_of, unbound}
use Rattle.term_walk.specs.Params.{variable_of}
use Rattle.term_walk.proofs.params.bind_params.Given as goal

abbrev pub invariant-loop-param : goal.invariant-loop-param
invariant-loop-param l = record {
  names : new_params (variable_of l.fn.program) (scope_of l.fn.scope) l.params ≡ first l.code (new_params (variable_of l.fn.program) (scope_of l.scope) (drop l.param-index l.params));
  known : with_params (variable_of l.fn.program) (scope_of l.fn.scope) l.params ≡ with_params (variable_of l.fn.program) (scope_of l.scope) (drop l.param-index l.params);
  outer : unbound (scope_of l.scope) l.bound ≡ unbound (scope_of l.fn.scope) l.fn.bound;
}
