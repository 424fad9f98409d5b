use Rattle.std.proofs.Common.{◌≡◌, map, take}
use Rattle.tht_tree.specs.Walk.Codes.{first_of}
use Rattle.tht_tree.specs.Walk.Proofs.{entry}
use Rattle.term_walk.specs.Scopes.{scope_of}
use Rattle.term_walk.proofs.proofs.facts.Given as goal

abbrev pub invariant-loop-entry : goal.invariant-loop-entry
invariant-loop-entry l = l.code ≡ first_of (map (λ e. e.fact (scope_of l.scope)) (map entry (take l.entry-index l.entries)))
