-- Two trees are the same without their spots where they are one level down.
use Rattle.std.proofs.Common.{◌≡◌, ◌↔◌, sym, ◌∙◌, ap, ℕ, List, map}
use Rattle.tht_tree.specs.declared.proof.Proof.{Proof, fold_out-Proof}
use Rattle.tht_tree.specs.declared.proof.ProofKind.{ProofKind, roll-ProofKind, out-ProofKind, map-ProofKind, fold_out-ProofKind, out-roll-ProofKind}
use Rattle.tht_tree.specs.declared.proof.ProofKind.TheVariants as kind
use Rattle.tht_tree.specs.declared.proof.ProofKind.TheOpen as proof
use Rattle.tht_tree.specs.declared.proof.LinEntry.{LinEntry, roll-LinEntry, out-LinEntry, fold_out-LinEntry, out-roll-LinEntry}
use Rattle.tht_tree.specs.declared.give.Give.{Give, fold_out-Give}
use Rattle.tht_tree.specs.declared.give.GiveKind.{GiveKind, roll-GiveKind, out-GiveKind, fold_out-GiveKind, out-roll-GiveKind}
use Rattle.tht_tree.specs.declared.body.Body.{Body, roll-Body, out-Body, fold_out-Body, out-roll-Body}
use Rattle.tht_tree.specs.declared.body.Stmt.{Stmt, fold_out-Stmt}
use Rattle.tht_tree.specs.declared.body.StmtKind.{StmtKind, roll-StmtKind, out-StmtKind, fold_out-StmtKind, out-roll-StmtKind}
use Rattle.tht_tree.specs.declared.body.End.{End, fold_out-End}
use Rattle.tht_tree.specs.declared.body.EndKind.{EndKind, roll-EndKind, out-EndKind, fold_out-EndKind, out-roll-EndKind}
use Rattle.tht_tree.specs.WithoutSpots.{no_spot, bare_proof, bare_proof_kind, bare_proof_at, bare_entry, bare_give, bare_give_kind, bare_give_kind_at, bare_give_at, bare_body, bare_stmt, bare_stmt_kind, bare_stmt_kind_at, bare_stmt_at, bare_end, bare_end_kind, bare_end_kind_at, bare_end_at}
use Rattle.tree_copies.specs.Levels.{proof_level, entry_level, give_level, body_level, stmt_level, end_level}

-- f rolls up what g says of a thing
module _ {A F B : Type 0} (f : A → B) (g : A → F) (roll : F → B) (out : B → F) (back : (x : F) → out (roll x) ≡ x) (is : (a : A) → f a ≡ roll (g a)) where
  one_level : (a b : A) → (g a ≡ g b) ↔ (f a ≡ f b)
  one_level a b = (λ e. is a ∙ ap roll e ∙ sym (is b), λ e. sym (back (g a)) ∙ ap out (sym (is a) ∙ e ∙ is b) ∙ back (g b))

-- the same said of other things
iff_then : {P Q R : Type 0} → (P ↔ Q) → (Q ↔ R) → (P ↔ R)
iff_then f g = (λ x. g.0 (f.0 x), λ x. f.1 (g.1 x))

-- ---- proofs

proof_kinds : (a b : ProofKind) → (proof_level a ≡ proof_level b) ↔ (bare_proof_kind a ≡ bare_proof_kind b)
proof_kinds = one_level bare_proof_kind proof_level roll-ProofKind out-ProofKind out-roll-ProofKind (fold_out-ProofKind ProofKind LinEntry Proof roll-ProofKind roll-LinEntry bare_proof_at)

pub entries_same : (a b : LinEntry) → (entry_level a ≡ entry_level b) ↔ (bare_entry a ≡ bare_entry b)
entries_same = one_level bare_entry entry_level roll-LinEntry out-LinEntry out-roll-LinEntry (fold_out-LinEntry ProofKind LinEntry Proof roll-ProofKind roll-LinEntry bare_proof_at)

pub lin_is : (k : ℕ) (xs : List LinEntry) → proof_level (kind.Lin k xs) ≡ proof.Lin k (map bare_entry xs)
lin_is k xs = ap (map-ProofKind ProofKind LinEntry Proof ProofKind LinEntry Proof bare_proof_kind bare_entry bare_proof) (kind.outs-Lin k xs)

bare_proof_is : (a : Proof) → bare_proof a ≡ record { spot = no_spot; kind = bare_proof_kind a.kind }
bare_proof_is a = fold_out-Proof ProofKind LinEntry Proof roll-ProofKind roll-LinEntry bare_proof_at a

of_proof_kinds : (a b : Proof) → (bare_proof_kind a.kind ≡ bare_proof_kind b.kind) ↔ (bare_proof a ≡ bare_proof b)
of_proof_kinds a b =
    (λ e. bare_proof_is a ∙ (λ i. record { spot = no_spot; kind = e i }) ∙ sym (bare_proof_is b), λ e. let h = sym (bare_proof_is a) ∙ e ∙ bare_proof_is b in ap (λ (x : Proof). x.kind) h)

pub proofs_same : {P : Type 0} (a b : Proof) → (P ↔ (proof_level a.kind ≡ proof_level b.kind)) → (P ↔ (bare_proof a ≡ bare_proof b))
proofs_same a b h = iff_then h (iff_then (proof_kinds a.kind b.kind) (of_proof_kinds a b))

-- ---- gives

give_kinds : (a b : GiveKind) → (give_level a ≡ give_level b) ↔ (bare_give_kind a ≡ bare_give_kind b)
give_kinds = one_level bare_give_kind give_level roll-GiveKind out-GiveKind out-roll-GiveKind (fold_out-GiveKind GiveKind Give bare_give_kind_at bare_give_at)

bare_give_is : (a : Give) → bare_give a ≡ record { spot = no_spot; kind = bare_give_kind a.kind }
bare_give_is a = fold_out-Give GiveKind Give bare_give_kind_at bare_give_at a

of_give_kinds : (a b : Give) → (bare_give_kind a.kind ≡ bare_give_kind b.kind) ↔ (bare_give a ≡ bare_give b)
of_give_kinds a b =
    (λ e. bare_give_is a ∙ (λ i. record { spot = no_spot; kind = e i }) ∙ sym (bare_give_is b), λ e. let h = sym (bare_give_is a) ∙ e ∙ bare_give_is b in ap (λ (x : Give). x.kind) h)

pub gives_same : {P : Type 0} (a b : Give) → (P ↔ (give_level a.kind ≡ give_level b.kind)) → (P ↔ (bare_give a ≡ bare_give b))
gives_same a b h = iff_then h (iff_then (give_kinds a.kind b.kind) (of_give_kinds a b))

-- ---- bodies

pub bodies_same : {P : Type 0} (a b : Body) → (P ↔ (body_level a ≡ body_level b)) → (P ↔ (bare_body a ≡ bare_body b))
bodies_same a b h = iff_then h (one_level bare_body body_level roll-Body out-Body out-roll-Body (fold_out-Body EndKind StmtKind Body End Stmt bare_end_kind_at bare_stmt_kind_at roll-Body bare_end_at bare_stmt_at) a b)

stmt_kinds : (a b : StmtKind) → (stmt_level a ≡ stmt_level b) ↔ (bare_stmt_kind a ≡ bare_stmt_kind b)
stmt_kinds = one_level bare_stmt_kind stmt_level roll-StmtKind out-StmtKind out-roll-StmtKind (fold_out-StmtKind EndKind StmtKind Body End Stmt bare_end_kind_at bare_stmt_kind_at roll-Body bare_end_at bare_stmt_at)

bare_stmt_is : (a : Stmt) → bare_stmt a ≡ record { spot = no_spot; kind = bare_stmt_kind a.kind }
bare_stmt_is a = fold_out-Stmt EndKind StmtKind Body End Stmt bare_end_kind_at bare_stmt_kind_at roll-Body bare_end_at bare_stmt_at a

of_stmt_kinds : (a b : Stmt) → (bare_stmt_kind a.kind ≡ bare_stmt_kind b.kind) ↔ (bare_stmt a ≡ bare_stmt b)
of_stmt_kinds a b =
    (λ e. bare_stmt_is a ∙ (λ i. record { spot = no_spot; kind = e i }) ∙ sym (bare_stmt_is b), λ e. let h = sym (bare_stmt_is a) ∙ e ∙ bare_stmt_is b in ap (λ (x : Stmt). x.kind) h)

pub stmts_same : {P : Type 0} (a b : Stmt) → (P ↔ (stmt_level a.kind ≡ stmt_level b.kind)) → (P ↔ (bare_stmt a ≡ bare_stmt b))
stmts_same a b h = iff_then h (iff_then (stmt_kinds a.kind b.kind) (of_stmt_kinds a b))

end_kinds : (a b : EndKind) → (end_level a ≡ end_level b) ↔ (bare_end_kind a ≡ bare_end_kind b)
end_kinds = one_level bare_end_kind end_level roll-EndKind out-EndKind out-roll-EndKind (fold_out-EndKind EndKind StmtKind Body End Stmt bare_end_kind_at bare_stmt_kind_at roll-Body bare_end_at bare_stmt_at)

bare_end_is : (a : End) → bare_end a ≡ record { spot = no_spot; kind = bare_end_kind a.kind }
bare_end_is a = fold_out-End EndKind StmtKind Body End Stmt bare_end_kind_at bare_stmt_kind_at roll-Body bare_end_at bare_stmt_at a

of_end_kinds : (a b : End) → (bare_end_kind a.kind ≡ bare_end_kind b.kind) ↔ (bare_end a ≡ bare_end b)
of_end_kinds a b =
    (λ e. bare_end_is a ∙ (λ i. record { spot = no_spot; kind = e i }) ∙ sym (bare_end_is b), λ e. let h = sym (bare_end_is a) ∙ e ∙ bare_end_is b in ap (λ (x : End). x.kind) h)

pub ends_same : {P : Type 0} (a b : End) → (P ↔ (end_level a.kind ≡ end_level b.kind)) → (P ↔ (bare_end a ≡ bare_end b))
ends_same a b h = iff_then h (iff_then (end_kinds a.kind b.kind) (of_end_kinds a b))
