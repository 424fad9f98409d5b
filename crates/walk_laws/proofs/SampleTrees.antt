-- How the trees of samples are written.
use Rattle.std.proofs.Common.{ℕ, List, Option, Some}
use Rattle.tht_tree.specs.declared.plain.Spot.{Spot}
use Rattle.tht_tree.specs.declared.term.Term.{Term, roll-Term, out-roll-Term}
use Rattle.tht_tree.specs.declared.term.Term.TheOpen as t
use Rattle.tht_tree.specs.declared.assn.Assn.{Assn, roll-Assn}
use Rattle.tht_tree.specs.declared.assn.Assn.TheOpen as a
use Rattle.tht_tree.specs.declared.proof.Proof.{Proof}
use Rattle.tht_tree.specs.declared.proof.LinEntry.{LinEntry, roll-LinEntry}
use Rattle.tht_tree.specs.declared.proof.ProofKind.{ProofKind, roll-ProofKind}
use Rattle.tht_tree.specs.declared.proof.ProofKind.TheOpen as p
use Rattle.tht_tree.specs.declared.give.Give.{Give}
use Rattle.tht_tree.specs.declared.give.GiveKind.{GiveKind, roll-GiveKind}
use Rattle.tht_tree.specs.declared.give.GiveKind.TheOpen as g
use Rattle.tht_tree.specs.declared.body.Body.{Body, roll-Body}
use Rattle.tht_tree.specs.declared.body.Stmt.{Stmt}
use Rattle.tht_tree.specs.declared.body.End.{End}
use Rattle.tht_tree.specs.declared.body.StmtKind.{StmtKind, roll-StmtKind}
use Rattle.tht_tree.specs.declared.body.EndKind.{EndKind, roll-EndKind}
use Rattle.tht_tree.specs.declared.body.EndKind.TheOpen as b
use Rattle.tht_tree.specs.declared.walk.WalkCode.{WalkCode}
use Rattle.tht_tree.specs.declared.walk.WalkRefusal.{WalkRefusal}
use Rattle.walk_laws.proofs.Levels.{code_is, sort_is, kind_is, assn_is, proof_is, proof_kind_is, fact_is, fact_proof_is, give_is, give_kind_is, walk_is, after_is, end_is, end_kind_is, body_is}

-- ---- trees

abbrev pub at : ℕ → ℕ → Spot
at line column = record { line = line; column = column }

abbrev pub tm : t.Term-F Term → Term
tm = roll-Term

abbrev pub an : a.Assn-F Assn → Assn
an = roll-Assn

abbrev pub a_proof : p.ProofKind-F ProofKind LinEntry Proof → ProofKind
a_proof = roll-ProofKind

abbrev pub an_entry : p.LinEntry-F ProofKind LinEntry Proof → LinEntry
an_entry = roll-LinEntry

abbrev pub a_give : g.GiveKind-F GiveKind Give → GiveKind
a_give = roll-GiveKind

abbrev pub a_stmt : b.StmtKind-F EndKind StmtKind Body End Stmt → StmtKind
a_stmt = roll-StmtKind

abbrev pub the_end : b.EndKind-F EndKind StmtKind Body End Stmt → EndKind
the_end = roll-EndKind

abbrev pub block : List Stmt → End → Body
block ss e = roll-Body (record { stmts = ss; end = e })

abbrev pub refused : ℕ → ℕ → WalkCode → Option WalkRefusal
refused line column code = Some (record { spot = at line column; code = code })

pub ruleset levels = (code_is, sort_is, kind_is, assn_is, proof_is, proof_kind_is, fact_is, fact_proof_is, give_is, give_kind_is, walk_is, after_is, end_is, end_kind_is, body_is, out-roll-Term)
