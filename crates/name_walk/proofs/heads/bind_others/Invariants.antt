use Rattle.std.proofs.Common.{◌≡◌, drop}
use Rattle.tht_tree.specs.Walk.Names.{other_params}
use Rattle.tht_tree.specs.Walk.Decls.{with_logic}
use Rattle.term_walk.specs.Scopes.{scope_of, unbound}
use Rattle.name_walk.specs.Params.{others_left}
use Rattle.name_walk.proofs.heads.bind_others.Given as goal

abbrev pub invariant-loop-param : goal.invariant-loop-param
invariant-loop-param l = record {
  known : with_logic (scope_of l.fn.scope) (other_params l.name l.params) ≡ with_logic (scope_of l.scope) (others_left l.replaced l.name (drop l.param-index l.params));
  outer : unbound (scope_of l.scope) l.bound ≡ unbound (scope_of l.fn.scope) l.fn.bound;
}
