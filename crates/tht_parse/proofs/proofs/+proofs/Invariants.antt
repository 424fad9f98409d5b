use Rattle.std.proofs.Common.{◌≡◌, ◌-◌, ◌+◌, ◌*◌}
use Rattle.tht_tree.specs.declared.token.TokenKind.TheVariants as k
use Rattle.tht_grammar.specs.Steps.{is, entries, listed}
use Rattle.tht_grammar.specs.Reading as spec
use Rattle.tht_parse.proofs.proofs.+proofs.Given as goal

abbrev pub decreases-proof : goal.decreases-proof
decreases-proof l = 10 * l.depth + 0

abbrev pub decreases-proof_kind : goal.decreases-proof_kind
decreases-proof_kind l = 10 * l.depth + 4

abbrev pub decreases-of_proof : goal.decreases-of_proof
decreases-of_proof l = 10 * l.depth + 3

abbrev pub decreases-of_proofs : goal.decreases-of_proofs
decreases-of_proofs l = 10 * l.depth + 3

abbrev pub decreases-of_term : goal.decreases-of_term
decreases-of_term l = 10 * l.depth + 3

abbrev pub decreases-of_term_and_proofs : goal.decreases-of_term_and_proofs
decreases-of_term_and_proofs l = 10 * l.depth + 3

abbrev pub decreases-of_terms : goal.decreases-of_terms
decreases-of_terms l = 10 * l.depth + 3

abbrev pub decreases-subst : goal.decreases-subst
decreases-subst l = 10 * l.depth + 3

abbrev pub decreases-cases : goal.decreases-cases
decreases-cases l = 10 * l.depth + 3

abbrev pub decreases-fun : goal.decreases-fun
decreases-fun l = 10 * l.depth + 3

abbrev pub decreases-em : goal.decreases-em
decreases-em l = 10 * l.depth + 3

abbrev pub decreases-case : goal.decreases-case
decreases-case l = 10 * l.depth + 1

abbrev pub decreases-lin : goal.decreases-lin
decreases-lin l = 10 * l.depth + 3

abbrev pub decreases-lin_entries : goal.decreases-lin_entries
decreases-lin_entries l = 10 * l.depth + 2

abbrev pub decreases-lin_entry : goal.decreases-lin_entry
decreases-lin_entry l = 10 * l.depth + 1

abbrev pub decreases-lemma : goal.decreases-lemma
decreases-lemma l = 10 * l.depth + 3

abbrev pub invariant-lin_entries-loop-turn : goal.invariant-lin_entries-loop-turn
invariant-lin_entries-loop-turn l =
    listed (is k.Num) (spec.lin_entry (spec.nested l.depth)) 64 l.fn.tokens
    ≡ entries (is k.Num) (spec.lin_entry (spec.nested l.depth)) (64 - l._turn) l.found l.tokens
