use Rattle.std.proofs.Common.{◌≡◌, length}
use Rattle.term_walk.specs.Scopes.{scope_of, unbound}
use Rattle.term_walk.proofs.scope.Scope.unbind_all.Given as goal

abbrev pub invariant-loop-shadow : goal.invariant-loop-shadow
invariant-loop-shadow l = unbound (scope_of l.self) l.bound ≡ unbound (scope_of l.fn.self) l.fn.bound

abbrev pub decreases-loop-shadow : goal.decreases-loop-shadow
decreases-loop-shadow l = length l.bound
