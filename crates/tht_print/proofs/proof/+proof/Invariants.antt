use denote.Param.Weighed.{most}
use Rattle.std.proofs.Common.{◌≡◌, ◌≤◌, ◌+◌, ◌*◌, ◌∷◌, max, length, map}
use Rattle.tht_tree.specs.declared.token.TokenKind.TheVariants as k
use Rattle.tht_tree.specs.declared.proof.Proof.{size-Proof}
use Rattle.tht_tree.specs.declared.proof.ProofKind.{size-ProofKind}
use Rattle.tht_tree.specs.declared.proof.LinEntry.{size-LinEntry}
use Rattle.tht_tree.specs.Layout.{commas, word}
use Rattle.tht_print.specs.Parts.{lin_entry}
use Rattle.tht_print.specs.Tokens.{tokens_of}
use Rattle.tht_print.proofs.proof.+proof.Given as goal

abbrev pub invariant-certificate-loop-entry : goal.invariant-certificate-loop-entry
invariant-certificate-loop-entry l = record {
  printed : commas (map lin_entry l.entries) (word k.RBrace ∷ tokens_of l.fn.out) ≡ commas (map lin_entry l.rest) (tokens_of l.out);
  within : most size-LinEntry l.rest ≤ most size-LinEntry l.entries;
}

abbrev pub decreases-certificate-loop-entry : goal.decreases-certificate-loop-entry
decreases-certificate-loop-entry l = length l.rest

abbrev pub decreases-proof : goal.decreases-proof
decreases-proof l = 8 * size-Proof l.q.now + 7

abbrev pub decreases-form : goal.decreases-form
decreases-form l = 8 * size-ProofKind l.q.now + 6

abbrev pub decreases-one : goal.decreases-one
decreases-one l = 8 * size-Proof l.q.now + 8

abbrev pub decreases-two : goal.decreases-two
decreases-two l = 8 * max (size-Proof l.q.now) (size-Proof l.r.now) + 8

abbrev pub decreases-over_one : goal.decreases-over_one
decreases-over_one l = 8 * size-Proof l.q.now + 8

abbrev pub decreases-over_two : goal.decreases-over_two
decreases-over_two l = 8 * max (size-Proof l.q.now) (size-Proof l.r.now) + 8

abbrev pub decreases-over_ones : goal.decreases-over_ones
decreases-over_ones l = 8 * size-Proof l.q.now + 8

abbrev pub decreases-over_ends : goal.decreases-over_ends
decreases-over_ends l = 8 * max (size-Proof l.q.now) (size-Proof l.r.now) + 8

abbrev pub decreases-case : goal.decreases-case
decreases-case l = 8 * size-Proof l.q.now + 8

abbrev pub decreases-cases : goal.decreases-cases
decreases-cases l = 8 * max (size-Proof l.q.now) (size-Proof l.r.now) + 9

abbrev pub decreases-function : goal.decreases-function
decreases-function l = 8 * size-Proof l.q.now + 8

abbrev pub decreases-lemma : goal.decreases-lemma
decreases-lemma l = 8 * size-Proof l.q.now + 8

abbrev pub decreases-fact : goal.decreases-fact
decreases-fact l = 8 * size-LinEntry l.entry.now + 8

abbrev pub decreases-certificate : goal.decreases-certificate
decreases-certificate l = 8 * goal.size-certificate l + 9
