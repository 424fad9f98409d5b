-- What a tree is without its spots: each part of it stands at no place.
use Rattle.std.specs.Prelude.{map}
use Rattle.tht_tree.specs.declared.plain.Spot.{Spot}
use Rattle.tht_tree.specs.declared.proof.Proof.{Proof, fold-Proof, roll-Proof}
use Rattle.tht_tree.specs.declared.proof.ProofKind.{ProofKind, fold-ProofKind, roll-ProofKind}
use Rattle.tht_tree.specs.declared.proof.ProofKind.TheOpen as p
use Rattle.tht_tree.specs.declared.proof.LinEntry.{LinEntry, fold-LinEntry, roll-LinEntry}
use Rattle.tht_tree.specs.declared.give.Give.{Give, fold-Give, roll-Give}
use Rattle.tht_tree.specs.declared.give.GiveKind.{GiveKind, fold-GiveKind, roll-GiveKind}
use Rattle.tht_tree.specs.declared.give.GiveKind.TheOpen as g
use Rattle.tht_tree.specs.declared.step.Step.{Step}
use Rattle.tht_tree.specs.declared.step.StepKind.{StepKind}
use Rattle.tht_tree.specs.declared.step.StepKind.TheVariants as step
use Rattle.tht_tree.specs.declared.body.Body.{Body, fold-Body, roll-Body}
use Rattle.tht_tree.specs.declared.body.Stmt.{Stmt, fold-Stmt, roll-Stmt}
use Rattle.tht_tree.specs.declared.body.StmtKind.{StmtKind, fold-StmtKind, roll-StmtKind}
use Rattle.tht_tree.specs.declared.body.End.{End, fold-End, roll-End}
use Rattle.tht_tree.specs.declared.body.EndKind.{EndKind, fold-EndKind, roll-EndKind}
use Rattle.tht_tree.specs.declared.body.EndKind.TheOpen as b
use Rattle.tht_tree.specs.declared.decl.Decl.{Decl}
use Rattle.tht_tree.specs.declared.decl.DeclKind.{DeclKind}
use Rattle.tht_tree.specs.declared.decl.DeclKind.TheVariants as decl
use Rattle.tht_tree.specs.declared.decl.Lemma.{Lemma}
use Rattle.tht_tree.specs.declared.decl.LemmaKind.{LemmaKind}
use Rattle.tht_tree.specs.declared.decl.LemmaKind.TheVariants as lemma
use Rattle.tht_tree.specs.declared.file.Main.{Main}
use Rattle.tht_tree.specs.declared.file.Source1.{Source1}

abbrev pub no_spot : Spot
no_spot = record { line = 0; column = 0 }

-- proofs

abbrev pub bare_proof_at : p.Proof-F ProofKind LinEntry Proof → Proof
bare_proof_at x = roll-Proof (record x { spot = no_spot })

abbrev pub bare_proof : Proof → Proof
bare_proof = fold-Proof ProofKind LinEntry Proof roll-ProofKind roll-LinEntry bare_proof_at

abbrev pub bare_proof_kind : ProofKind → ProofKind
bare_proof_kind = fold-ProofKind ProofKind LinEntry Proof roll-ProofKind roll-LinEntry bare_proof_at

abbrev pub bare_entry : LinEntry → LinEntry
bare_entry = fold-LinEntry ProofKind LinEntry Proof roll-ProofKind roll-LinEntry bare_proof_at

-- gives

abbrev pub bare_give_parts : g.GiveKind-F GiveKind Give → g.GiveKind-F GiveKind Give
bare_give_parts (g.Fact p) = g.Fact (bare_proof p)
bare_give_parts k = k

abbrev pub bare_give_kind_at : g.GiveKind-F GiveKind Give → GiveKind
bare_give_kind_at k = roll-GiveKind (bare_give_parts k)

abbrev pub bare_give_at : g.Give-F GiveKind Give → Give
bare_give_at x = roll-Give (record x { spot = no_spot })

abbrev pub bare_give : Give → Give
bare_give = fold-Give GiveKind Give bare_give_kind_at bare_give_at

abbrev pub bare_give_kind : GiveKind → GiveKind
bare_give_kind = fold-GiveKind GiveKind Give bare_give_kind_at bare_give_at

-- proof steps

abbrev pub bare_step_kind : StepKind → StepKind
bare_step_kind (step.Have h t p) = step.Have h t (bare_proof p)
bare_step_kind (step.Fold p ts g) = step.Fold p ts (bare_give g)
bare_step_kind (step.Rewrite i k t p) = step.Rewrite i k t (bare_proof p)
bare_step_kind (step.Use l ts g) = step.Use l ts (bare_give g)
bare_step_kind k = k

abbrev pub bare_step : Step → Step
bare_step s = record { spot = no_spot; kind = bare_step_kind s.kind }

-- bodies

abbrev pub bare_stmt_parts : b.StmtKind-F EndKind StmtKind Body End Stmt → b.StmtKind-F EndKind StmtKind Body End Stmt
bare_stmt_parts (b.Read x s t i h p) = b.Read x s t i h (bare_proof p)
bare_stmt_parts (b.Write t u i p) = b.Write t u i (bare_proof p)
bare_stmt_parts (b.Free t i p) = b.Free t i (bare_proof p)
bare_stmt_parts (b.Publish t i p) = b.Publish t i (bare_proof p)
bare_stmt_parts (b.Retract t i p) = b.Retract t i (bare_proof p)
bare_stmt_parts (b.Call x f ts us g) = b.Call x f ts us (bare_give g)
bare_stmt_parts (b.Proof s) = b.Proof (bare_step s)
bare_stmt_parts k = k

abbrev pub bare_end_parts : b.EndKind-F EndKind StmtKind Body End Stmt → b.EndKind-F EndKind StmtKind Body End Stmt
bare_end_parts (b.Ret t g) = b.Ret t (bare_give g)
bare_end_parts (b.Dead p x) = b.Dead (bare_proof p) x
bare_end_parts k = k

abbrev pub bare_end_kind_at : b.EndKind-F EndKind StmtKind Body End Stmt → EndKind
bare_end_kind_at k = roll-EndKind (bare_end_parts k)

abbrev pub bare_stmt_kind_at : b.StmtKind-F EndKind StmtKind Body End Stmt → StmtKind
bare_stmt_kind_at k = roll-StmtKind (bare_stmt_parts k)

abbrev pub bare_end_at : b.End-F EndKind StmtKind Body End Stmt → End
bare_end_at x = roll-End (record x { spot = no_spot })

abbrev pub bare_stmt_at : b.Stmt-F EndKind StmtKind Body End Stmt → Stmt
bare_stmt_at x = roll-Stmt (record x { spot = no_spot })

abbrev pub bare_body : Body → Body
bare_body = fold-Body EndKind StmtKind Body End Stmt bare_end_kind_at bare_stmt_kind_at roll-Body bare_end_at bare_stmt_at

abbrev pub bare_stmt : Stmt → Stmt
bare_stmt = fold-Stmt EndKind StmtKind Body End Stmt bare_end_kind_at bare_stmt_kind_at roll-Body bare_end_at bare_stmt_at

abbrev pub bare_stmt_kind : StmtKind → StmtKind
bare_stmt_kind = fold-StmtKind EndKind StmtKind Body End Stmt bare_end_kind_at bare_stmt_kind_at roll-Body bare_end_at bare_stmt_at

abbrev pub bare_end : End → End
bare_end = fold-End EndKind StmtKind Body End Stmt bare_end_kind_at bare_stmt_kind_at roll-Body bare_end_at bare_stmt_at

abbrev pub bare_end_kind : EndKind → EndKind
bare_end_kind = fold-EndKind EndKind StmtKind Body End Stmt bare_end_kind_at bare_stmt_kind_at roll-Body bare_end_at bare_stmt_at

-- declarations

abbrev pub bare_lemma_kind : LemmaKind → LemmaKind
bare_lemma_kind (lemma.Plain x) = lemma.Plain (bare_body x)
bare_lemma_kind (lemma.OnSeq s x head tail y) = lemma.OnSeq s (bare_body x) head tail (bare_body y)
bare_lemma_kind (lemma.OnNat n x m y) = lemma.OnNat n (bare_body x) m (bare_body y)

abbrev pub bare_lemma : Lemma → Lemma
bare_lemma l = record l { spot = no_spot; kind = bare_lemma_kind l.kind }

abbrev pub bare_decl_kind : DeclKind → DeclKind
bare_decl_kind (decl.Invariant a g) = decl.Invariant a (bare_give g)
bare_decl_kind (decl.Lemma l) = decl.Lemma (bare_lemma l)
bare_decl_kind (decl.Txn h x) = decl.Txn h (bare_body x)
bare_decl_kind (decl.Proc h x) = decl.Proc h (bare_body x)
bare_decl_kind k = k

abbrev pub bare_decl : Decl → Decl
bare_decl d = record { spot = no_spot; kind = bare_decl_kind d.kind }

-- files

abbrev pub bare_main : Main → Main
bare_main m = record m { spot = no_spot; body = bare_body m.body }

-- the file, each of its parts at no place
abbrev pub without_spots : Source1 → Source1
without_spots file = record file { decls = map bare_decl file.decls; main = bare_main file.main }
