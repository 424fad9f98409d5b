-- What each tree is without its spots, by its form.
use Rattle.std.proofs.Common.{◌≡◌, ℕ, ap, sym, ◌∙◌, List, map}
use Rattle.tht_tree.specs.declared.plain.Spot.{Spot}
use Rattle.tht_tree.specs.declared.plain.Sort.{Sort}
use Rattle.tht_tree.specs.declared.term.Term.{Term}
use Rattle.tht_tree.specs.declared.assn.Assn.{Assn}
use Rattle.tht_tree.specs.declared.proof.Proof.{Proof, fold_out-Proof, roll-Proof}
use Rattle.tht_tree.specs.declared.proof.LinEntry.{LinEntry, fold-roll-LinEntry, roll-LinEntry}
use Rattle.tht_tree.specs.declared.proof.ProofKind.{ProofKind, fold-roll-ProofKind, roll-ProofKind}
use Rattle.tht_tree.specs.declared.proof.ProofKind.TheOpen as pf
use Rattle.tht_tree.specs.declared.proof.ProofKind.TheVariants as p
use Rattle.tht_tree.specs.declared.give.Give.{Give, fold_out-Give, roll-Give}
use Rattle.tht_tree.specs.declared.give.GiveKind.{GiveKind, fold-roll-GiveKind}
use Rattle.tht_tree.specs.declared.give.GiveKind.TheOpen as gf
use Rattle.tht_tree.specs.declared.give.GiveKind.TheVariants as g
use Rattle.tht_tree.specs.declared.step.Step.{Step}
use Rattle.tht_tree.specs.declared.body.Body.{Body, fold-roll-Body, roll-Body}
use Rattle.tht_tree.specs.declared.body.Stmt.{Stmt, fold_out-Stmt, roll-Stmt}
use Rattle.tht_tree.specs.declared.body.End.{End, fold_out-End, roll-End}
use Rattle.tht_tree.specs.declared.body.StmtKind.{StmtKind, fold-roll-StmtKind}
use Rattle.tht_tree.specs.declared.body.EndKind.{EndKind, fold-roll-EndKind}
use Rattle.tht_tree.specs.declared.body.EndKind.TheOpen as bf
use Rattle.tht_tree.specs.declared.body.StmtKind.TheVariants as c
use Rattle.tht_tree.specs.declared.body.EndKind.TheVariants as e
use Rattle.tht_tree.specs.WithoutSpots.{no_spot, bare_proof_at, bare_proof, bare_proof_kind, bare_entry, bare_give_kind_at, bare_give_at, bare_give, bare_give_kind, bare_step, bare_body, bare_stmt, bare_stmt_kind, bare_stmt_kind_at, bare_stmt_at, bare_end, bare_end_kind, bare_end_kind_at, bare_end_at}

-- ---- proofs

pub bare_proof_is : (spot : Spot) (x : ProofKind) → bare_proof (record { spot = spot; kind = x }) ≡ roll-Proof
    (record { spot = no_spot; kind = bare_proof_kind x })
bare_proof_is spot x = fold_out-Proof ProofKind LinEntry Proof roll-ProofKind roll-LinEntry bare_proof_at (record { spot = spot; kind = x })

pub bare_entry_is : (n : ℕ) (x : Term) (q : Proof)
    → bare_entry (roll-LinEntry (record { multiplier = n; fact = x; proof = q })) ≡ roll-LinEntry
    (record { multiplier = n; fact = x; proof = bare_proof q })
bare_entry_is n x q = fold-roll-LinEntry ProofKind LinEntry Proof roll-ProofKind roll-LinEntry bare_proof_at
    (record { multiplier = n; fact = x; proof = q })

pub bare_proof_Hyp : (x : List ℕ) → bare_proof_kind (p.Hyp x) ≡ (p.Hyp x)
bare_proof_Hyp x = ap bare_proof_kind (sym (p.rolls-Hyp x))
    ∙ fold-roll-ProofKind ProofKind LinEntry Proof roll-ProofKind roll-LinEntry bare_proof_at (pf.Hyp x) ∙ (p.rolls-Hyp x)

pub bare_proof_Refl : bare_proof_kind p.Refl ≡ p.Refl
bare_proof_Refl = ap bare_proof_kind (sym p.rolls-Refl)
    ∙ fold-roll-ProofKind ProofKind LinEntry Proof roll-ProofKind roll-LinEntry bare_proof_at pf.Refl ∙ p.rolls-Refl

pub bare_proof_Calc : bare_proof_kind p.Calc ≡ p.Calc
bare_proof_Calc = ap bare_proof_kind (sym p.rolls-Calc)
    ∙ fold-roll-ProofKind ProofKind LinEntry Proof roll-ProofKind roll-LinEntry bare_proof_at pf.Calc ∙ p.rolls-Calc

pub bare_proof_Recast : (x : Term) (y : Proof) → bare_proof_kind (p.Recast x y) ≡ (p.Recast x (bare_proof y))
bare_proof_Recast x y = ap bare_proof_kind (sym (p.rolls-Recast x y))
    ∙ fold-roll-ProofKind ProofKind LinEntry Proof roll-ProofKind roll-LinEntry bare_proof_at (pf.Recast x y) ∙ (p.rolls-Recast x (bare_proof y))

pub bare_proof_Sym : (x : Proof) → bare_proof_kind (p.Sym x) ≡ (p.Sym (bare_proof x))
bare_proof_Sym x = ap bare_proof_kind (sym (p.rolls-Sym x))
    ∙ fold-roll-ProofKind ProofKind LinEntry Proof roll-ProofKind roll-LinEntry bare_proof_at (pf.Sym x) ∙ (p.rolls-Sym (bare_proof x))

pub bare_proof_Both : (x : Proof) (y : Proof) → bare_proof_kind (p.Both x y) ≡ (p.Both (bare_proof x) (bare_proof y))
bare_proof_Both x y = ap bare_proof_kind (sym (p.rolls-Both x y))
    ∙ fold-roll-ProofKind ProofKind LinEntry Proof roll-ProofKind roll-LinEntry bare_proof_at (pf.Both x y)
    ∙ (p.rolls-Both (bare_proof x) (bare_proof y))

pub bare_proof_Subst : (x : List ℕ) (y : Sort) (z : Term) (u : Term) (v : Term) (w : Proof) (m : Proof)
    → bare_proof_kind (p.Subst x y z u v w m) ≡ (p.Subst x y z u v (bare_proof w) (bare_proof m))
bare_proof_Subst x y z u v w m = ap bare_proof_kind (sym (p.rolls-Subst x y z u v w m))
    ∙ fold-roll-ProofKind ProofKind LinEntry Proof roll-ProofKind roll-LinEntry bare_proof_at (pf.Subst x y z u v w m)
    ∙ (p.rolls-Subst x y z u v (bare_proof w) (bare_proof m))

pub bare_proof_Pair : (x : Proof) (y : Proof) → bare_proof_kind (p.Pair x y) ≡ (p.Pair (bare_proof x) (bare_proof y))
bare_proof_Pair x y = ap bare_proof_kind (sym (p.rolls-Pair x y))
    ∙ fold-roll-ProofKind ProofKind LinEntry Proof roll-ProofKind roll-LinEntry bare_proof_at (pf.Pair x y)
    ∙ (p.rolls-Pair (bare_proof x) (bare_proof y))

pub bare_proof_Fst : (x : Term) (y : Proof) → bare_proof_kind (p.Fst x y) ≡ (p.Fst x (bare_proof y))
bare_proof_Fst x y = ap bare_proof_kind (sym (p.rolls-Fst x y))
    ∙ fold-roll-ProofKind ProofKind LinEntry Proof roll-ProofKind roll-LinEntry bare_proof_at (pf.Fst x y) ∙ (p.rolls-Fst x (bare_proof y))

pub bare_proof_Snd : (x : Term) (y : Proof) → bare_proof_kind (p.Snd x y) ≡ (p.Snd x (bare_proof y))
bare_proof_Snd x y = ap bare_proof_kind (sym (p.rolls-Snd x y))
    ∙ fold-roll-ProofKind ProofKind LinEntry Proof roll-ProofKind roll-LinEntry bare_proof_at (pf.Snd x y) ∙ (p.rolls-Snd x (bare_proof y))

pub bare_proof_Inl : (x : Proof) → bare_proof_kind (p.Inl x) ≡ (p.Inl (bare_proof x))
bare_proof_Inl x = ap bare_proof_kind (sym (p.rolls-Inl x))
    ∙ fold-roll-ProofKind ProofKind LinEntry Proof roll-ProofKind roll-LinEntry bare_proof_at (pf.Inl x) ∙ (p.rolls-Inl (bare_proof x))

pub bare_proof_Inr : (x : Proof) → bare_proof_kind (p.Inr x) ≡ (p.Inr (bare_proof x))
bare_proof_Inr x = ap bare_proof_kind (sym (p.rolls-Inr x))
    ∙ fold-roll-ProofKind ProofKind LinEntry Proof roll-ProofKind roll-LinEntry bare_proof_at (pf.Inr x) ∙ (p.rolls-Inr (bare_proof x))

pub bare_proof_Cases : (x : Term) (y : Proof) (z : List ℕ) (u : Proof) (v : List ℕ) (w : Proof)
    → bare_proof_kind (p.Cases x y z u v w) ≡ (p.Cases x (bare_proof y) z (bare_proof u) v (bare_proof w))
bare_proof_Cases x y z u v w = ap bare_proof_kind (sym (p.rolls-Cases x y z u v w))
    ∙ fold-roll-ProofKind ProofKind LinEntry Proof roll-ProofKind roll-LinEntry bare_proof_at (pf.Cases x y z u v w)
    ∙ (p.rolls-Cases x (bare_proof y) z (bare_proof u) v (bare_proof w))

pub bare_proof_Fun : (x : List ℕ) (y : Proof) → bare_proof_kind (p.Fun x y) ≡ (p.Fun x (bare_proof y))
bare_proof_Fun x y = ap bare_proof_kind (sym (p.rolls-Fun x y))
    ∙ fold-roll-ProofKind ProofKind LinEntry Proof roll-ProofKind roll-LinEntry bare_proof_at (pf.Fun x y) ∙ (p.rolls-Fun x (bare_proof y))

pub bare_proof_App : (x : Term) (y : Proof) (z : Proof) → bare_proof_kind (p.App x y z) ≡ (p.App x (bare_proof y) (bare_proof z))
bare_proof_App x y z = ap bare_proof_kind (sym (p.rolls-App x y z))
    ∙ fold-roll-ProofKind ProofKind LinEntry Proof roll-ProofKind roll-LinEntry bare_proof_at (pf.App x y z)
    ∙ (p.rolls-App x (bare_proof y) (bare_proof z))

pub bare_proof_Neg : (x : Term) (y : Proof) (z : Proof) → bare_proof_kind (p.Neg x y z) ≡ (p.Neg x (bare_proof y) (bare_proof z))
bare_proof_Neg x y z = ap bare_proof_kind (sym (p.rolls-Neg x y z))
    ∙ fold-roll-ProofKind ProofKind LinEntry Proof roll-ProofKind roll-LinEntry bare_proof_at (pf.Neg x y z)
    ∙ (p.rolls-Neg x (bare_proof y) (bare_proof z))

pub bare_proof_Absurd : (x : Proof) → bare_proof_kind (p.Absurd x) ≡ (p.Absurd (bare_proof x))
bare_proof_Absurd x = ap bare_proof_kind (sym (p.rolls-Absurd x))
    ∙ fold-roll-ProofKind ProofKind LinEntry Proof roll-ProofKind roll-LinEntry bare_proof_at (pf.Absurd x) ∙ (p.rolls-Absurd (bare_proof x))

pub bare_proof_Em : (x : Term) (y : List ℕ) (z : Proof) (u : List ℕ) (v : Proof)
    → bare_proof_kind (p.Em x y z u v) ≡ (p.Em x y (bare_proof z) u (bare_proof v))
bare_proof_Em x y z u v = ap bare_proof_kind (sym (p.rolls-Em x y z u v))
    ∙ fold-roll-ProofKind ProofKind LinEntry Proof roll-ProofKind roll-LinEntry bare_proof_at (pf.Em x y z u v)
    ∙ (p.rolls-Em x y (bare_proof z) u (bare_proof v))

pub bare_proof_Lin : (x : ℕ) (y : List LinEntry) → bare_proof_kind (p.Lin x y) ≡ (p.Lin x (map bare_entry y))
bare_proof_Lin x y = ap bare_proof_kind (sym (p.rolls-Lin x y))
    ∙ fold-roll-ProofKind ProofKind LinEntry Proof roll-ProofKind roll-LinEntry bare_proof_at (pf.Lin x y) ∙ (p.rolls-Lin x (map bare_entry y))

pub bare_proof_Monus : (x : Proof) → bare_proof_kind (p.Monus x) ≡ (p.Monus (bare_proof x))
bare_proof_Monus x = ap bare_proof_kind (sym (p.rolls-Monus x))
    ∙ fold-roll-ProofKind ProofKind LinEntry Proof roll-ProofKind roll-LinEntry bare_proof_at (pf.Monus x) ∙ (p.rolls-Monus (bare_proof x))

pub bare_proof_Head : (x : Term) (y : Term) (z : Proof) → bare_proof_kind (p.Head x y z) ≡ (p.Head x y (bare_proof z))
bare_proof_Head x y z = ap bare_proof_kind (sym (p.rolls-Head x y z))
    ∙ fold-roll-ProofKind ProofKind LinEntry Proof roll-ProofKind roll-LinEntry bare_proof_at (pf.Head x y z) ∙ (p.rolls-Head x y (bare_proof z))

pub bare_proof_Tail : (x : Term) (y : Term) (z : Proof) → bare_proof_kind (p.Tail x y z) ≡ (p.Tail x y (bare_proof z))
bare_proof_Tail x y z = ap bare_proof_kind (sym (p.rolls-Tail x y z))
    ∙ fold-roll-ProofKind ProofKind LinEntry Proof roll-ProofKind roll-LinEntry bare_proof_at (pf.Tail x y z) ∙ (p.rolls-Tail x y (bare_proof z))

pub bare_proof_Nocons : bare_proof_kind p.Nocons ≡ p.Nocons
bare_proof_Nocons = ap bare_proof_kind (sym p.rolls-Nocons)
    ∙ fold-roll-ProofKind ProofKind LinEntry Proof roll-ProofKind roll-LinEntry bare_proof_at pf.Nocons ∙ p.rolls-Nocons

pub bare_proof_Apart : (x : ℕ) (y : ℕ) → bare_proof_kind (p.Apart x y) ≡ (p.Apart x y)
bare_proof_Apart x y = ap bare_proof_kind (sym (p.rolls-Apart x y))
    ∙ fold-roll-ProofKind ProofKind LinEntry Proof roll-ProofKind roll-LinEntry bare_proof_at (pf.Apart x y) ∙ (p.rolls-Apart x y)

pub bare_proof_Nonnull : (x : ℕ) → bare_proof_kind (p.Nonnull x) ≡ (p.Nonnull x)
bare_proof_Nonnull x = ap bare_proof_kind (sym (p.rolls-Nonnull x))
    ∙ fold-roll-ProofKind ProofKind LinEntry Proof roll-ProofKind roll-LinEntry bare_proof_at (pf.Nonnull x) ∙ (p.rolls-Nonnull x)

pub bare_proof_Lemma : (x : List ℕ) (y : List Term) (z : Proof) → bare_proof_kind (p.Lemma x y z) ≡ (p.Lemma x y (bare_proof z))
bare_proof_Lemma x y z = ap bare_proof_kind (sym (p.rolls-Lemma x y z))
    ∙ fold-roll-ProofKind ProofKind LinEntry Proof roll-ProofKind roll-LinEntry bare_proof_at (pf.Lemma x y z) ∙ (p.rolls-Lemma x y (bare_proof z))

pub bare_proof_Todo : bare_proof_kind p.Todo ≡ p.Todo
bare_proof_Todo = ap bare_proof_kind (sym p.rolls-Todo)
    ∙ fold-roll-ProofKind ProofKind LinEntry Proof roll-ProofKind roll-LinEntry bare_proof_at pf.Todo ∙ p.rolls-Todo

-- ---- gives

pub bare_give_is : (spot : Spot) (x : GiveKind) → bare_give (record { spot = spot; kind = x }) ≡ roll-Give
    (record { spot = no_spot; kind = bare_give_kind x })
bare_give_is spot x = fold_out-Give GiveKind Give bare_give_kind_at bare_give_at (record { spot = spot; kind = x })

pub bare_give_Emp : bare_give_kind g.Emp ≡ g.Emp
bare_give_Emp = ap bare_give_kind (sym g.rolls-Emp) ∙ fold-roll-GiveKind GiveKind Give bare_give_kind_at bare_give_at gf.Emp ∙ g.rolls-Emp

pub bare_give_Atom : (x : ℕ) → bare_give_kind (g.Atom x) ≡ (g.Atom x)
bare_give_Atom x = ap bare_give_kind (sym (g.rolls-Atom x)) ∙ fold-roll-GiveKind GiveKind Give bare_give_kind_at bare_give_at (gf.Atom x)
    ∙ (g.rolls-Atom x)

pub bare_give_Fact : (x : Proof) → bare_give_kind (g.Fact x) ≡ (g.Fact (bare_proof x))
bare_give_Fact x = ap bare_give_kind (sym (g.rolls-Fact x)) ∙ fold-roll-GiveKind GiveKind Give bare_give_kind_at bare_give_at (gf.Fact x)
    ∙ (g.rolls-Fact (bare_proof x))

pub bare_give_Star : (x : Give) (y : Give) → bare_give_kind (g.Star x y) ≡ (g.Star (bare_give x) (bare_give y))
bare_give_Star x y = ap bare_give_kind (sym (g.rolls-Star x y)) ∙ fold-roll-GiveKind GiveKind Give bare_give_kind_at bare_give_at (gf.Star x y)
    ∙ (g.rolls-Star (bare_give x) (bare_give y))

pub bare_give_Ex : (x : Term) (y : Give) → bare_give_kind (g.Ex x y) ≡ (g.Ex x (bare_give y))
bare_give_Ex x y = ap bare_give_kind (sym (g.rolls-Ex x y)) ∙ fold-roll-GiveKind GiveKind Give bare_give_kind_at bare_give_at (gf.Ex x y)
    ∙ (g.rolls-Ex x (bare_give y))

pub bare_give_Left : (x : Give) → bare_give_kind (g.Left x) ≡ (g.Left (bare_give x))
bare_give_Left x = ap bare_give_kind (sym (g.rolls-Left x)) ∙ fold-roll-GiveKind GiveKind Give bare_give_kind_at bare_give_at (gf.Left x)
    ∙ (g.rolls-Left (bare_give x))

pub bare_give_Right : (x : Give) → bare_give_kind (g.Right x) ≡ (g.Right (bare_give x))
bare_give_Right x = ap bare_give_kind (sym (g.rolls-Right x)) ∙ fold-roll-GiveKind GiveKind Give bare_give_kind_at bare_give_at (gf.Right x)
    ∙ (g.rolls-Right (bare_give x))

pub bare_give_Fold : (x : Give) → bare_give_kind (g.Fold x) ≡ (g.Fold (bare_give x))
bare_give_Fold x = ap bare_give_kind (sym (g.rolls-Fold x)) ∙ fold-roll-GiveKind GiveKind Give bare_give_kind_at bare_give_at (gf.Fold x)
    ∙ (g.rolls-Fold (bare_give x))

-- ---- bodies

pub bare_stmt_is : (spot : Spot) (x : StmtKind) → bare_stmt (record { spot = spot; kind = x }) ≡ roll-Stmt
    (record { spot = no_spot; kind = bare_stmt_kind x })
bare_stmt_is spot x = fold_out-Stmt EndKind StmtKind Body End Stmt bare_end_kind_at bare_stmt_kind_at roll-Body bare_end_at bare_stmt_at
    (record { spot = spot; kind = x })

pub bare_end_is : (spot : Spot) (x : EndKind) → bare_end (record { spot = spot; kind = x }) ≡ roll-End
    (record { spot = no_spot; kind = bare_end_kind x })
bare_end_is spot x = fold_out-End EndKind StmtKind Body End Stmt bare_end_kind_at bare_stmt_kind_at roll-Body bare_end_at bare_stmt_at
    (record { spot = spot; kind = x })

pub bare_body_is : (xs : List Stmt) (y : End) → bare_body (roll-Body (record { stmts = xs; end = y })) ≡ roll-Body
    (record { stmts = map bare_stmt xs; end = bare_end y })
bare_body_is xs y = fold-roll-Body EndKind StmtKind Body End Stmt bare_end_kind_at bare_stmt_kind_at roll-Body bare_end_at bare_stmt_at
    (record { stmts = xs; end = y })

pub bare_stmt_Read : (x : List ℕ) (y : Sort) (z : Term) (u : ℕ) (v : List ℕ) (w : Proof)
    → bare_stmt_kind (c.Read x y z u v w) ≡ (c.Read x y z u v (bare_proof w))
bare_stmt_Read x y z u v w = ap bare_stmt_kind (sym (c.rolls-Read x y z u v w))
    ∙ fold-roll-StmtKind EndKind StmtKind Body End Stmt bare_end_kind_at bare_stmt_kind_at roll-Body bare_end_at bare_stmt_at
    (bf.Read x y z u v w) ∙ (c.rolls-Read x y z u v (bare_proof w))

pub bare_stmt_Write : (x : Term) (y : Term) (z : ℕ) (u : Proof) → bare_stmt_kind (c.Write x y z u) ≡ (c.Write x y z (bare_proof u))
bare_stmt_Write x y z u = ap bare_stmt_kind (sym (c.rolls-Write x y z u))
    ∙ fold-roll-StmtKind EndKind StmtKind Body End Stmt bare_end_kind_at bare_stmt_kind_at roll-Body bare_end_at bare_stmt_at (bf.Write x y z u)
    ∙ (c.rolls-Write x y z (bare_proof u))

pub bare_stmt_Alloc : (x : List ℕ) (y : List Term) → bare_stmt_kind (c.Alloc x y) ≡ (c.Alloc x y)
bare_stmt_Alloc x y = ap bare_stmt_kind (sym (c.rolls-Alloc x y))
    ∙ fold-roll-StmtKind EndKind StmtKind Body End Stmt bare_end_kind_at bare_stmt_kind_at roll-Body bare_end_at bare_stmt_at (bf.Alloc x y)
    ∙ (c.rolls-Alloc x y)

pub bare_stmt_Free : (x : Term) (y : ℕ) (z : Proof) → bare_stmt_kind (c.Free x y z) ≡ (c.Free x y (bare_proof z))
bare_stmt_Free x y z = ap bare_stmt_kind (sym (c.rolls-Free x y z))
    ∙ fold-roll-StmtKind EndKind StmtKind Body End Stmt bare_end_kind_at bare_stmt_kind_at roll-Body bare_end_at bare_stmt_at (bf.Free x y z)
    ∙ (c.rolls-Free x y (bare_proof z))

pub bare_stmt_Publish : (x : Term) (y : ℕ) (z : Proof) → bare_stmt_kind (c.Publish x y z) ≡ (c.Publish x y (bare_proof z))
bare_stmt_Publish x y z = ap bare_stmt_kind (sym (c.rolls-Publish x y z))
    ∙ fold-roll-StmtKind EndKind StmtKind Body End Stmt bare_end_kind_at bare_stmt_kind_at roll-Body bare_end_at bare_stmt_at (bf.Publish x y z)
    ∙ (c.rolls-Publish x y (bare_proof z))

pub bare_stmt_Retract : (x : Term) (y : ℕ) (z : Proof) → bare_stmt_kind (c.Retract x y z) ≡ (c.Retract x y (bare_proof z))
bare_stmt_Retract x y z = ap bare_stmt_kind (sym (c.rolls-Retract x y z))
    ∙ fold-roll-StmtKind EndKind StmtKind Body End Stmt bare_end_kind_at bare_stmt_kind_at roll-Body bare_end_at bare_stmt_at (bf.Retract x y z)
    ∙ (c.rolls-Retract x y (bare_proof z))

pub bare_stmt_Call : (x : List ℕ) (y : List ℕ) (z : List Term) (u : List Term) (v : Give)
    → bare_stmt_kind (c.Call x y z u v) ≡ (c.Call x y z u (bare_give v))
bare_stmt_Call x y z u v = ap bare_stmt_kind (sym (c.rolls-Call x y z u v))
    ∙ fold-roll-StmtKind EndKind StmtKind Body End Stmt bare_end_kind_at bare_stmt_kind_at roll-Body bare_end_at bare_stmt_at (bf.Call x y z u v)
    ∙ (c.rolls-Call x y z u (bare_give v))

pub bare_stmt_Do : (x : List ℕ) (y : Sort) (z : List ℕ) (u : Body) (v : Assn) → bare_stmt_kind (c.Do x y z u v) ≡ (c.Do x y z (bare_body u) v)
bare_stmt_Do x y z u v = ap bare_stmt_kind (sym (c.rolls-Do x y z u v))
    ∙ fold-roll-StmtKind EndKind StmtKind Body End Stmt bare_end_kind_at bare_stmt_kind_at roll-Body bare_end_at bare_stmt_at (bf.Do x y z u v)
    ∙ (c.rolls-Do x y z (bare_body u) v)

pub bare_stmt_Atomic : (x : List ℕ) (y : Sort) (z : List ℕ) (u : Body) (v : Assn)
    → bare_stmt_kind (c.Atomic x y z u v) ≡ (c.Atomic x y z (bare_body u) v)
bare_stmt_Atomic x y z u v = ap bare_stmt_kind (sym (c.rolls-Atomic x y z u v))
    ∙ fold-roll-StmtKind EndKind StmtKind Body End Stmt bare_end_kind_at bare_stmt_kind_at roll-Body bare_end_at bare_stmt_at
    (bf.Atomic x y z u v) ∙ (c.rolls-Atomic x y z (bare_body u) v)

pub bare_stmt_Par : (x : List ℕ) (y : Sort) (z : List ℕ) (u : Sort) (v : List ℕ) (w : Body) (m : Assn) (n : List ℕ) (i : Body) (j : Assn)
    → bare_stmt_kind (c.Par x y z u v w m n i j) ≡ (c.Par x y z u v (bare_body w) m n (bare_body i) j)
bare_stmt_Par x y z u v w m n i j = ap bare_stmt_kind (sym (c.rolls-Par x y z u v w m n i j))
    ∙ fold-roll-StmtKind EndKind StmtKind Body End Stmt bare_end_kind_at bare_stmt_kind_at roll-Body bare_end_at bare_stmt_at
    (bf.Par x y z u v w m n i j) ∙ (c.rolls-Par x y z u v (bare_body w) m n (bare_body i) j)

pub bare_stmt_Proof : (x : Step) → bare_stmt_kind (c.Proof x) ≡ (c.Proof (bare_step x))
bare_stmt_Proof x = ap bare_stmt_kind (sym (c.rolls-Proof x))
    ∙ fold-roll-StmtKind EndKind StmtKind Body End Stmt bare_end_kind_at bare_stmt_kind_at roll-Body bare_end_at bare_stmt_at (bf.Proof x)
    ∙ (c.rolls-Proof (bare_step x))

pub bare_end_Ret : (x : Term) (y : Give) → bare_end_kind (e.Ret x y) ≡ (e.Ret x (bare_give y))
bare_end_Ret x y = ap bare_end_kind (sym (e.rolls-Ret x y))
    ∙ fold-roll-EndKind EndKind StmtKind Body End Stmt bare_end_kind_at bare_stmt_kind_at roll-Body bare_end_at bare_stmt_at (bf.Ret x y)
    ∙ (e.rolls-Ret x (bare_give y))

pub bare_end_If : (x : Term) (y : List ℕ) (z : Body) (u : Body) → bare_end_kind (e.If x y z u) ≡ (e.If x y (bare_body z) (bare_body u))
bare_end_If x y z u = ap bare_end_kind (sym (e.rolls-If x y z u))
    ∙ fold-roll-EndKind EndKind StmtKind Body End Stmt bare_end_kind_at bare_stmt_kind_at roll-Body bare_end_at bare_stmt_at (bf.If x y z u)
    ∙ (e.rolls-If x y (bare_body z) (bare_body u))

pub bare_end_CaseAtom : (x : ℕ) (y : Body) (z : Body) → bare_end_kind (e.CaseAtom x y z) ≡ (e.CaseAtom x (bare_body y) (bare_body z))
bare_end_CaseAtom x y z = ap bare_end_kind (sym (e.rolls-CaseAtom x y z))
    ∙ fold-roll-EndKind EndKind StmtKind Body End Stmt bare_end_kind_at bare_stmt_kind_at roll-Body bare_end_at bare_stmt_at (bf.CaseAtom x y z)
    ∙ (e.rolls-CaseAtom x (bare_body y) (bare_body z))

pub bare_end_CaseBool : (x : Term) (y : List ℕ) (z : Body) (u : Body)
    → bare_end_kind (e.CaseBool x y z u) ≡ (e.CaseBool x y (bare_body z) (bare_body u))
bare_end_CaseBool x y z u = ap bare_end_kind (sym (e.rolls-CaseBool x y z u))
    ∙ fold-roll-EndKind EndKind StmtKind Body End Stmt bare_end_kind_at bare_stmt_kind_at roll-Body bare_end_at bare_stmt_at (bf.CaseBool x y z u)
    ∙ (e.rolls-CaseBool x y (bare_body z) (bare_body u))

pub bare_end_CaseSeq : (x : Term) (y : List ℕ) (z : Body) (u : List ℕ) (v : List ℕ) (w : Body)
    → bare_end_kind (e.CaseSeq x y z u v w) ≡ (e.CaseSeq x y (bare_body z) u v (bare_body w))
bare_end_CaseSeq x y z u v w = ap bare_end_kind (sym (e.rolls-CaseSeq x y z u v w))
    ∙ fold-roll-EndKind EndKind StmtKind Body End Stmt bare_end_kind_at bare_stmt_kind_at roll-Body bare_end_at bare_stmt_at
    (bf.CaseSeq x y z u v w) ∙ (e.rolls-CaseSeq x y (bare_body z) u v (bare_body w))

pub bare_end_Dead : (x : Proof) (y : Body) → bare_end_kind (e.Dead x y) ≡ (e.Dead (bare_proof x) (bare_body y))
bare_end_Dead x y = ap bare_end_kind (sym (e.rolls-Dead x y))
    ∙ fold-roll-EndKind EndKind StmtKind Body End Stmt bare_end_kind_at bare_stmt_kind_at roll-Body bare_end_at bare_stmt_at (bf.Dead x y)
    ∙ (e.rolls-Dead (bare_proof x) (bare_body y))
