-- What is proved is true: the law of proofs, where no lemma is declared.
use Rattle.std.proofs.Common.{◌≡◌, None}
use Rattle.tht_tree.specs.declared.proof.Proof.{Proof}
use Rattle.tht_tree.specs.declared.term.Term.{Term}
use Rattle.tht_tree.specs.Syntax.{Names}
use Rattle.tht_tree.specs.Values.{Env}
use Rattle.tht_tree.specs.Rules.Context.{Context}
use Rattle.proof_laws.specs.Satisfied.{LemmasHold}
use Rattle.proof_laws.specs.Scoped.{Signatures}
use Rattle.lin_laws.proofs.ProofsSound.{proofs_sound}
use Rattle.pure_proofs.specs.Said.{said}
use Rattle.pure_proofs.specs.Verdicts.{without_lemmas}
use Rattle.pure_proofs.specs.Truth.{IsTrueWhereKnown}

no_lemmas : (roots : Names) (fits : Signatures) (env : Env) → LemmasHold (without_lemmas roots) fits env
no_lemmas roots fits env = record { sorted = λ scope l ts t u f e. cc; holds = λ scope l ts t u s n f e h. cc }

pub true_where_known : (roots : Names) (q : Proof) (c : Context) (goal : Term) → said roots q c goal ≡ None → IsTrueWhereKnown roots q c goal
true_where_known roots q c goal e = λ fits env h known scoped sorted. proofs_sound (without_lemmas roots) fits env h (no_lemmas roots fits env) q c known scoped goal sorted e
