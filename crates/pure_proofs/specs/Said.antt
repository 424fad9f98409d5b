-- What the rules say of a proof, where nothing but the roots is declared.
use Rattle.tht_tree.specs.declared.plain.Spot.{Spot}
use Rattle.tht_tree.specs.declared.proof.LinEntry.{LinEntry}
use Rattle.tht_tree.specs.declared.proof.Proof.{Proof}
use Rattle.tht_tree.specs.declared.proof.ProofKind.{ProofKind}
use Rattle.tht_tree.specs.declared.state.State.{State}
use Rattle.tht_tree.specs.Syntax.{Names}
use Rattle.tht_tree.specs.Rules.Context.{Context, context_of}
use Rattle.tht_tree.specs.Rules.Proofs.{Prover, Entry, prove, prove_kind, prove_entry}
use Rattle.pure_proofs.specs.Verdicts.{without_lemmas}

-- what is known in a state
unfoldable pub known_in : State → Context
known_in s = context_of s

-- what is refused of a proof, of one by its form, and of an entry of a linear certificate
abbrev pub said : Names → Proof → Prover
said roots = prove (without_lemmas roots)

abbrev pub said_of_kind : Names → ProofKind → Spot → Prover
said_of_kind roots = prove_kind (without_lemmas roots)

abbrev pub said_of_entry : Names → LinEntry → Entry
said_of_entry roots = prove_entry (without_lemmas roots)
