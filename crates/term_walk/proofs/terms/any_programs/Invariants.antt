use Rattle.std.proofs.Common.{◌≡◌, map, take}
use Rattle.tht_tree.specs.Walk.Codes.{first_of}
use Rattle.tht_tree.specs.Walk.Terms.{any_program}
use Rattle.term_walk.specs.Scopes.{scope_of}
use Rattle.term_walk.proofs.terms.any_programs.Given as goal

abbrev pub invariant-loop-term : goal.invariant-loop-term
invariant-loop-term l = l.code ≡ first_of (map (any_program (scope_of l.scope)) (take l.term-index l.terms))
