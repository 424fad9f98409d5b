use Rattle.std.proofs.Common.{◌≡◌, ◌-◌, ◌+◌, ◌*◌, length}
use Rattle.tht_grammar.specs.Words.{begins_stmt}
use Rattle.tht_grammar.specs.Steps.{repeat}
use Rattle.tht_grammar.specs.Reading as spec
use Rattle.tht_parse.proofs.bodies.+bodies.Given as goal

abbrev pub decreases-body : goal.decreases-body
decreases-body l = 10 * l.depth + 0

abbrev pub decreases-statements : goal.decreases-statements
decreases-statements l = 10 * l.depth + 8

abbrev pub decreases-ended : goal.decreases-ended
decreases-ended l = 10 * l.depth + 7

abbrev pub decreases-stmt_kind : goal.decreases-stmt_kind
decreases-stmt_kind l = 10 * l.depth + 6

abbrev pub decreases-bound : goal.decreases-bound
decreases-bound l = 10 * l.depth + 5

abbrev pub decreases-typed : goal.decreases-typed
decreases-typed l = 10 * l.depth + 4

abbrev pub decreases-do_block : goal.decreases-do_block
decreases-do_block l = 10 * l.depth + 3

abbrev pub decreases-atomic : goal.decreases-atomic
decreases-atomic l = 10 * l.depth + 3

abbrev pub decreases-par : goal.decreases-par
decreases-par l = 10 * l.depth + 5

abbrev pub decreases-branches : goal.decreases-branches
decreases-branches l = 10 * l.depth + 4

abbrev pub decreases-block : goal.decreases-block
decreases-block l = 10 * l.depth + 2

abbrev pub decreases-end : goal.decreases-end
decreases-end l = 10 * l.depth + 6

abbrev pub decreases-end_kind : goal.decreases-end_kind
decreases-end_kind l = 10 * l.depth + 5

abbrev pub decreases-if_else : goal.decreases-if_else
decreases-if_else l = 10 * l.depth + 4

abbrev pub decreases-case : goal.decreases-case
decreases-case l = 10 * l.depth + 4

abbrev pub decreases-case_atom : goal.decreases-case_atom
decreases-case_atom l = 10 * l.depth + 3

abbrev pub decreases-case_bool : goal.decreases-case_bool
decreases-case_bool l = 10 * l.depth + 3

abbrev pub decreases-case_seq : goal.decreases-case_seq
decreases-case_seq l = 10 * l.depth + 3

abbrev pub decreases-dead : goal.decreases-dead
decreases-dead l = 10 * l.depth + 4

abbrev pub invariant-statements-loop-turn : goal.invariant-statements-loop-turn
invariant-statements-loop-turn l =
    spec.stmts (spec.nested l.depth) l.fn.tokens
    ≡ repeat begins_stmt (spec.ended (spec.nested l.depth)) (length l.fn.tokens - l._turn) l.found l.tokens
