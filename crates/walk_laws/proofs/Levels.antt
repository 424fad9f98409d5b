-- The walk of a tree, by its uppermost level.
use Rattle.std.proofs.Common.{◌≡◌, ap, ◌∙◌, List, map}
use Rattle.tht_tree.specs.declared.plain.Spot.{Spot}
use Rattle.tht_tree.specs.declared.term.Term.{Term, roll-Term, map-Term, fold-roll-Term}
use Rattle.tht_tree.specs.declared.term.Term.TheOpen as t
use Rattle.tht_tree.specs.declared.assn.Assn.{Assn, roll-Assn, map-Assn, fold-roll-Assn}
use Rattle.tht_tree.specs.declared.assn.Assn.TheOpen as a
use Rattle.tht_tree.specs.declared.proof.Proof.{Proof, fold_out-Proof}
use Rattle.tht_tree.specs.declared.proof.LinEntry.{LinEntry, roll-LinEntry, map-LinEntry, fold-roll-LinEntry}
use Rattle.tht_tree.specs.declared.proof.ProofKind.{ProofKind, roll-ProofKind, map-ProofKind, fold-roll-ProofKind}
use Rattle.tht_tree.specs.declared.proof.ProofKind.TheOpen as p
use Rattle.tht_tree.specs.declared.give.Give.{Give, fold_out-Give}
use Rattle.tht_tree.specs.declared.give.GiveKind.{GiveKind, roll-GiveKind, map-GiveKind, fold-roll-GiveKind}
use Rattle.tht_tree.specs.declared.give.GiveKind.TheOpen as g
use Rattle.tht_tree.specs.declared.body.Body.{Body, roll-Body, fold-roll-Body}
use Rattle.tht_tree.specs.declared.body.Stmt.{Stmt, fold_out-Stmt}
use Rattle.tht_tree.specs.declared.body.End.{End, fold_out-End}
use Rattle.tht_tree.specs.declared.body.StmtKind.{StmtKind, roll-StmtKind, map-StmtKind, fold-roll-StmtKind}
use Rattle.tht_tree.specs.declared.body.EndKind.{EndKind, roll-EndKind, map-EndKind, fold-roll-EndKind}
use Rattle.tht_tree.specs.declared.body.EndKind.TheOpen as b
use Rattle.tht_tree.specs.Walk.Names.{Scope, Walk}
use Rattle.tht_tree.specs.declared.walk.Found.{Found}
use Rattle.tht_tree.specs.Walk.Sorts.{found, found_at}
use Rattle.tht_tree.specs.Walk.Terms.{formula}
use Rattle.tht_tree.specs.declared.walk.Kind.{Kind}
use Rattle.tht_tree.specs.Walk.Kinds.{kind_of, kind_at}
use Rattle.tht_tree.specs.Walk.Assns.{assn, assn_at}
use Rattle.tht_tree.specs.Walk.Proofs.{Entry, proof, proof_kind, entry, proof_at, entry_at, spotted_proof}
use Rattle.tht_tree.specs.Walk.Gives.{give, give_kind, give_at, spotted_give}
use Rattle.tht_tree.specs.declared.walk.Frame.{Frame}
use Rattle.tht_tree.specs.Walk.Bodies.{InBody, Statement, body, stmt, stmt_kind, end, end_kind, stmt_at, after_at, statement_at, end_at, body_at, statements, spotted_end, spotted_stmt}

pub found_is : (scope : Scope) (program : _) (x : t.Term-F Term)
    → found scope program (roll-Term x) ≡ found_at scope program (map-Term Term Found (found scope program) x)
unfolding found
found_is scope program x = fold-roll-Term Found (found_at scope program) x

pub kind_is : (scope : Scope) (x : a.Assn-F Assn) → kind_of scope (roll-Assn x) ≡ kind_at scope (map-Assn Assn Kind (kind_of scope) x)
unfolding kind_of
kind_is scope x = fold-roll-Assn Kind (kind_at scope) x

pub assn_is : (x : a.Assn-F Assn) (scope : Scope) → assn (roll-Assn x) scope ≡ assn_at (map-Assn Assn (Scope → _) assn x) scope
unfolding assn
assn_is x scope = ap (λ f. f scope) (fold-roll-Assn (Scope → _) assn_at x)

pub proof_is : (spot : Spot) (x : ProofKind) (scope : Scope) → proof (record { spot = spot; kind = x }) scope ≡ proof_kind x spot scope
unfolding proof proof_kind
proof_is spot x scope = ap (λ f. f scope) (fold_out-Proof (Spot → Walk) Entry Walk proof_at entry_at spotted_proof (record { spot = spot; kind = x }))

pub proof_kind_is : (x : p.ProofKind-F ProofKind LinEntry Proof) (spot : Spot) (scope : Scope) → proof_kind (roll-ProofKind x) spot scope
    ≡ proof_at (map-ProofKind ProofKind LinEntry Proof (Spot → Walk) Entry Walk proof_kind entry proof x) spot scope
unfolding proof proof_kind entry
proof_kind_is x spot scope = ap (λ f. f spot scope) (fold-roll-ProofKind (Spot → Walk) Entry Walk proof_at entry_at spotted_proof x)

pub entry_is : (x : p.LinEntry-F ProofKind LinEntry Proof) → entry (roll-LinEntry x)
    ≡ entry_at (map-LinEntry ProofKind LinEntry Proof (Spot → Walk) Entry Walk proof_kind entry proof x)
unfolding proof proof_kind entry
entry_is x = fold-roll-LinEntry (Spot → Walk) Entry Walk proof_at entry_at spotted_proof x

pub give_is : (spot : Spot) (x : GiveKind) (scope : Scope) → give (record { spot = spot; kind = x }) scope ≡ give_kind x spot scope
unfolding give give_kind
give_is spot x scope = ap (λ f. f scope) (fold_out-Give (Spot → Walk) Walk give_at spotted_give (record { spot = spot; kind = x }))

pub give_kind_is : (x : g.GiveKind-F GiveKind Give) (spot : Spot) (scope : Scope) → give_kind (roll-GiveKind x) spot scope
    ≡ give_at (map-GiveKind GiveKind Give (Spot → Walk) Walk give_kind give x) spot scope
unfolding give give_kind
give_kind_is x spot scope = ap (λ f. f spot scope) (fold-roll-GiveKind (Spot → Walk) Walk give_at spotted_give x)

pub stmt_is : (spot : Spot) (x : StmtKind) → stmt (record { spot = spot; kind = x }) ≡ stmt_kind x spot
unfolding stmt stmt_kind
stmt_is spot x = fold_out-Stmt (Spot → InBody) (Spot → Statement) InBody InBody Statement end_at statement_at body_at spotted_end spotted_stmt
    (record { spot = spot; kind = x })

pub stmt_kind_is : (x : b.StmtKind-F EndKind StmtKind Body End Stmt) (spot : Spot) → stmt_kind (roll-StmtKind x) spot
    ≡ statement_at (map-StmtKind EndKind StmtKind Body End Stmt (Spot → InBody) (Spot → Statement) InBody InBody Statement end_kind stmt_kind body end stmt x) spot
unfolding body stmt stmt_kind end end_kind
stmt_kind_is x spot = ap (λ f. f spot)
    (fold-roll-StmtKind (Spot → InBody) (Spot → Statement) InBody InBody Statement end_at statement_at body_at spotted_end spotted_stmt x)

pub end_is : (spot : Spot) (x : EndKind) (f : Frame) (scope : Scope) → end (record { spot = spot; kind = x }) f scope ≡ end_kind x spot f scope
unfolding end end_kind
end_is spot x f scope = ap (λ g. g f scope)
    (fold_out-End (Spot → InBody) (Spot → Statement) InBody InBody Statement end_at statement_at body_at spotted_end spotted_stmt
    (record { spot = spot; kind = x }))

pub end_kind_is : (x : b.EndKind-F EndKind StmtKind Body End Stmt) (spot : Spot) (f : Frame) (scope : Scope) → end_kind (roll-EndKind x) spot f scope
    ≡ end_at (map-EndKind EndKind StmtKind Body End Stmt (Spot → InBody) (Spot → Statement) InBody InBody Statement end_kind stmt_kind body end stmt x) spot f scope
unfolding body stmt stmt_kind end end_kind
end_kind_is x spot f scope = ap (λ g. g spot f scope)
    (fold-roll-EndKind (Spot → InBody) (Spot → Statement) InBody InBody Statement end_at statement_at body_at spotted_end spotted_stmt x)

pub body_is : (xs : List Stmt) (y : End) (f : Frame) (scope : Scope) → body (roll-Body (record { stmts = xs; end = y })) f scope
    ≡ statements (map stmt xs) (end y) f scope
unfolding body stmt end
body_is xs y f scope = ap (λ g. g f scope)
    (fold-roll-Body (Spot → InBody) (Spot → Statement) InBody InBody Statement end_at statement_at body_at spotted_end spotted_stmt
    (record { stmts = xs; end = y }))

-- the same of the code alone, and of the sort
pub code_is : (scope : Scope) (program : _) (x : t.Term-F Term)
    → (found scope program (roll-Term x)).code ≡ (found_at scope program (map-Term Term Found (found scope program) x)).code
code_is scope program x = ap (λ y. y.code) (found_is scope program x)

pub sort_is : (scope : Scope) (program : _) (x : t.Term-F Term)
    → (found scope program (roll-Term x)).sort ≡ (found_at scope program (map-Term Term Found (found scope program) x)).sort
sort_is scope program x = ap (λ y. y.sort) (found_is scope program x)

pub fact_is : (x : p.LinEntry-F ProofKind LinEntry Proof) (scope : Scope) → (entry (roll-LinEntry x)).fact scope ≡ formula scope x.fact
fact_is x scope = ap (λ e. e.fact scope) (entry_is x)

pub fact_proof_is : (x : p.LinEntry-F ProofKind LinEntry Proof) (scope : Scope) → (entry (roll-LinEntry x)).proof scope ≡ proof x.proof scope
fact_proof_is x scope = ap (λ e. e.proof scope) (entry_is x)

-- a statement's refusal, and what is known after it
abbrev pub level : b.StmtKind-F EndKind StmtKind Body End Stmt → b.StmtKind-F (Spot → InBody) (Spot → Statement) InBody InBody Statement
level = map-StmtKind EndKind StmtKind Body End Stmt (Spot → InBody) (Spot → Statement) InBody InBody Statement end_kind stmt_kind body end stmt

pub walk_is : (spot : Spot) (x : b.StmtKind-F EndKind StmtKind Body End Stmt) (f : Frame) (scope : Scope)
    → (stmt (record { spot = spot; kind = roll-StmtKind x })).walk f scope ≡ stmt_at (level x) spot f scope
walk_is spot x f scope = ap (λ y. y.walk f scope) (stmt_is spot (roll-StmtKind x) ∙ stmt_kind_is x spot)

pub after_is : (spot : Spot) (x : b.StmtKind-F EndKind StmtKind Body End Stmt) (scope : Scope)
    → (stmt (record { spot = spot; kind = roll-StmtKind x })).after scope ≡ after_at (level x) scope
after_is spot x scope = ap (λ y. y.after scope) (stmt_is spot (roll-StmtKind x) ∙ stmt_kind_is x spot)
