-- The trees of the forms of proofs that differ in their first word alone.
use Rattle.tht_tree.specs.declared.term.Term.{Term}
use Rattle.tht_tree.specs.declared.proof.Proof.{Proof}
use Rattle.tht_tree.specs.declared.proof.ProofKind.{ProofKind}
use Rattle.tht_tree.specs.declared.proof.ProofKind.TheVariants as p
use Rattle.tht_parse.specs.declared.forms.OverProof.{OverProof}
use Rattle.tht_parse.specs.declared.forms.OverProof.TheVariants as one
use Rattle.tht_parse.specs.declared.forms.OverProofs.{OverProofs}
use Rattle.tht_parse.specs.declared.forms.OverProofs.TheVariants as two
use Rattle.tht_parse.specs.declared.forms.OverTerm.{OverTerm}
use Rattle.tht_parse.specs.declared.forms.OverTerm.TheVariants as of_term
use Rattle.tht_parse.specs.declared.forms.OverTermAndProofs.{OverTermAndProofs}
use Rattle.tht_parse.specs.declared.forms.OverTermAndProofs.TheVariants as mixed
use Rattle.tht_parse.specs.declared.forms.OverTerms.{OverTerms}
use Rattle.tht_parse.specs.declared.forms.OverTerms.TheVariants as of_terms

abbrev pub over_proof : OverProof → Proof → ProofKind
over_proof one.Sym = p.Sym
over_proof one.Inl = p.Inl
over_proof one.Inr = p.Inr
over_proof one.Absurd = p.Absurd
over_proof one.Monus = p.Monus

abbrev pub over_proofs : OverProofs → Proof → Proof → ProofKind
over_proofs two.Both = p.Both
over_proofs two.Pair = p.Pair

abbrev pub over_term : OverTerm → Term → Proof → ProofKind
over_term of_term.Recast = p.Recast
over_term of_term.Fst = p.Fst
over_term of_term.Snd = p.Snd

abbrev pub over_term_and_proofs : OverTermAndProofs → Term → Proof → Proof → ProofKind
over_term_and_proofs mixed.App = p.App
over_term_and_proofs mixed.Neg = p.Neg

abbrev pub over_terms : OverTerms → Term → Term → Proof → ProofKind
over_terms of_terms.Head = p.Head
over_terms of_terms.Tail = p.Tail
