-- How each tree is printed, by its form.
use Rattle.std.proofs.Common.{◌≡◌, ℕ, ap, sym, ◌∙◌, List, ◌∷◌, map}
use Rattle.tht_tree.specs.declared.plain.Spot.{Spot}
use Rattle.tht_tree.specs.declared.plain.Sort.{Sort}
use Rattle.tht_tree.specs.declared.term.Term.{Term, fold-roll-Term}
use Rattle.tht_tree.specs.declared.term.Term.TheOpen as tf
use Rattle.tht_tree.specs.declared.term.Term.TheVariants as t
use Rattle.tht_tree.specs.declared.assn.Assn.{Assn, fold-roll-Assn}
use Rattle.tht_tree.specs.declared.assn.Assn.TheOpen as af
use Rattle.tht_tree.specs.declared.assn.Assn.TheVariants as a
use Rattle.tht_tree.specs.declared.proof.Proof.{Proof, fold_out-Proof}
use Rattle.tht_tree.specs.declared.proof.LinEntry.{LinEntry, fold-LinEntry, fold-roll-LinEntry, roll-LinEntry}
use Rattle.tht_tree.specs.declared.proof.ProofKind.{ProofKind, fold-ProofKind, fold-roll-ProofKind}
use Rattle.tht_tree.specs.declared.proof.ProofKind.TheOpen as pf
use Rattle.tht_tree.specs.declared.proof.ProofKind.TheVariants as p
use Rattle.tht_tree.specs.declared.give.Give.{Give, fold_out-Give}
use Rattle.tht_tree.specs.declared.give.GiveKind.{GiveKind, fold-GiveKind, fold-roll-GiveKind}
use Rattle.tht_tree.specs.declared.give.GiveKind.TheOpen as gf
use Rattle.tht_tree.specs.declared.give.GiveKind.TheVariants as g
use Rattle.tht_tree.specs.declared.step.Step.{Step}
use Rattle.tht_tree.specs.declared.body.Body.{Body, fold-roll-Body, roll-Body}
use Rattle.tht_tree.specs.declared.body.Stmt.{Stmt, fold-Stmt, fold_out-Stmt}
use Rattle.tht_tree.specs.declared.body.End.{End, fold-End, fold_out-End}
use Rattle.tht_tree.specs.declared.body.StmtKind.{StmtKind, fold-StmtKind, fold-roll-StmtKind}
use Rattle.tht_tree.specs.declared.body.EndKind.{EndKind, fold-EndKind, fold-roll-EndKind}
use Rattle.tht_tree.specs.declared.body.EndKind.TheOpen as bf
use Rattle.tht_tree.specs.declared.body.StmtKind.TheVariants as c
use Rattle.tht_tree.specs.declared.body.EndKind.TheVariants as e
use Rattle.tht_tree.specs.Layout.{Shown, Printed, term_layer, shown_term, assn_layer, shown_assn, proof_layer, entry_layer, proof, give_layer, shown_give, stmt_layer, end_layer, body_layer, body, number, brackets, term, braces, ended}

-- ---- terms

pub shown_Num : (x : ℕ) → shown_term (t.Num x) ≡ term_layer (tf.Num x)
unfolding shown_term
shown_Num x = ap shown_term (sym (t.rolls-Num x)) ∙ fold-roll-Term Shown term_layer (tf.Num x)

pub shown_True : shown_term t.True ≡ term_layer tf.True
unfolding shown_term
shown_True = ap shown_term (sym t.rolls-True) ∙ fold-roll-Term Shown term_layer tf.True

pub shown_False : shown_term t.False ≡ term_layer tf.False
unfolding shown_term
shown_False = ap shown_term (sym t.rolls-False) ∙ fold-roll-Term Shown term_layer tf.False

pub shown_Null : shown_term t.Null ≡ term_layer tf.Null
unfolding shown_term
shown_Null = ap shown_term (sym t.rolls-Null) ∙ fold-roll-Term Shown term_layer tf.Null

pub shown_Nil : shown_term t.Nil ≡ term_layer tf.Nil
unfolding shown_term
shown_Nil = ap shown_term (sym t.rolls-Nil) ∙ fold-roll-Term Shown term_layer tf.Nil

pub shown_Unit : shown_term t.Unit ≡ term_layer tf.Unit
unfolding shown_term
shown_Unit = ap shown_term (sym t.rolls-Unit) ∙ fold-roll-Term Shown term_layer tf.Unit

pub shown_Var : (x : List ℕ) → shown_term (t.Var x) ≡ term_layer (tf.Var x)
unfolding shown_term
shown_Var x = ap shown_term (sym (t.rolls-Var x)) ∙ fold-roll-Term Shown term_layer (tf.Var x)

pub shown_Len : (x : Term) → shown_term (t.Len x) ≡ term_layer (tf.Len (shown_term x))
unfolding shown_term
shown_Len x = ap shown_term (sym (t.rolls-Len x)) ∙ fold-roll-Term Shown term_layer (tf.Len x)

pub shown_Offset : (x : Term) (y : ℕ) → shown_term (t.Offset x y) ≡ term_layer (tf.Offset (shown_term x) y)
unfolding shown_term
shown_Offset x y = ap shown_term (sym (t.rolls-Offset x y)) ∙ fold-roll-Term Shown term_layer (tf.Offset x y)

pub shown_Mul : (x : Term) (y : Term) → shown_term (t.Mul x y) ≡ term_layer (tf.Mul (shown_term x) (shown_term y))
unfolding shown_term
shown_Mul x y = ap shown_term (sym (t.rolls-Mul x y)) ∙ fold-roll-Term Shown term_layer (tf.Mul x y)

pub shown_Add : (x : Term) (y : Term) → shown_term (t.Add x y) ≡ term_layer (tf.Add (shown_term x) (shown_term y))
unfolding shown_term
shown_Add x y = ap shown_term (sym (t.rolls-Add x y)) ∙ fold-roll-Term Shown term_layer (tf.Add x y)

pub shown_Sub : (x : Term) (y : Term) → shown_term (t.Sub x y) ≡ term_layer (tf.Sub (shown_term x) (shown_term y))
unfolding shown_term
shown_Sub x y = ap shown_term (sym (t.rolls-Sub x y)) ∙ fold-roll-Term Shown term_layer (tf.Sub x y)

pub shown_Cons : (x : Term) (y : Term) → shown_term (t.Cons x y) ≡ term_layer (tf.Cons (shown_term x) (shown_term y))
unfolding shown_term
shown_Cons x y = ap shown_term (sym (t.rolls-Cons x y)) ∙ fold-roll-Term Shown term_layer (tf.Cons x y)

pub shown_Cat : (x : Term) (y : Term) → shown_term (t.Cat x y) ≡ term_layer (tf.Cat (shown_term x) (shown_term y))
unfolding shown_term
shown_Cat x y = ap shown_term (sym (t.rolls-Cat x y)) ∙ fold-roll-Term Shown term_layer (tf.Cat x y)

pub shown_Eq : (x : Term) (y : Term) → shown_term (t.Eq x y) ≡ term_layer (tf.Eq (shown_term x) (shown_term y))
unfolding shown_term
shown_Eq x y = ap shown_term (sym (t.rolls-Eq x y)) ∙ fold-roll-Term Shown term_layer (tf.Eq x y)

pub shown_Lt : (x : Term) (y : Term) → shown_term (t.Lt x y) ≡ term_layer (tf.Lt (shown_term x) (shown_term y))
unfolding shown_term
shown_Lt x y = ap shown_term (sym (t.rolls-Lt x y)) ∙ fold-roll-Term Shown term_layer (tf.Lt x y)

pub shown_Le : (x : Term) (y : Term) → shown_term (t.Le x y) ≡ term_layer (tf.Le (shown_term x) (shown_term y))
unfolding shown_term
shown_Le x y = ap shown_term (sym (t.rolls-Le x y)) ∙ fold-roll-Term Shown term_layer (tf.Le x y)

pub shown_Not : (x : Term) → shown_term (t.Not x) ≡ term_layer (tf.Not (shown_term x))
unfolding shown_term
shown_Not x = ap shown_term (sym (t.rolls-Not x)) ∙ fold-roll-Term Shown term_layer (tf.Not x)

pub shown_And : (x : Term) (y : Term) → shown_term (t.And x y) ≡ term_layer (tf.And (shown_term x) (shown_term y))
unfolding shown_term
shown_And x y = ap shown_term (sym (t.rolls-And x y)) ∙ fold-roll-Term Shown term_layer (tf.And x y)

pub shown_Or : (x : Term) (y : Term) → shown_term (t.Or x y) ≡ term_layer (tf.Or (shown_term x) (shown_term y))
unfolding shown_term
shown_Or x y = ap shown_term (sym (t.rolls-Or x y)) ∙ fold-roll-Term Shown term_layer (tf.Or x y)

pub shown_Imp : (x : Term) (y : Term) → shown_term (t.Imp x y) ≡ term_layer (tf.Imp (shown_term x) (shown_term y))
unfolding shown_term
shown_Imp x y = ap shown_term (sym (t.rolls-Imp x y)) ∙ fold-roll-Term Shown term_layer (tf.Imp x y)

-- ---- assertions

pub shown_Emp : shown_assn a.Emp ≡ assn_layer af.Emp
unfolding shown_assn
shown_Emp = ap shown_assn (sym a.rolls-Emp) ∙ fold-roll-Assn Shown assn_layer af.Emp

pub shown_Fact : (x : Term) → shown_assn (a.Fact x) ≡ assn_layer (af.Fact x)
unfolding shown_assn
shown_Fact x = ap shown_assn (sym (a.rolls-Fact x)) ∙ fold-roll-Assn Shown assn_layer (af.Fact x)

pub shown_Own : (x : Term) (y : Term) → shown_assn (a.Own x y) ≡ assn_layer (af.Own x y)
unfolding shown_assn
shown_Own x y = ap shown_assn (sym (a.rolls-Own x y)) ∙ fold-roll-Assn Shown assn_layer (af.Own x y)

pub shown_Shared : (x : Term) (y : Term) → shown_assn (a.Shared x y) ≡ assn_layer (af.Shared x y)
unfolding shown_assn
shown_Shared x y = ap shown_assn (sym (a.rolls-Shared x y)) ∙ fold-roll-Assn Shown assn_layer (af.Shared x y)

pub shown_Star : (x : Assn) (y : Assn) → shown_assn (a.Star x y) ≡ assn_layer (af.Star (shown_assn x) (shown_assn y))
unfolding shown_assn
shown_Star x y = ap shown_assn (sym (a.rolls-Star x y)) ∙ fold-roll-Assn Shown assn_layer (af.Star x y)

pub shown_Inst : (x : List ℕ) (y : List Term) → shown_assn (a.Inst x y) ≡ assn_layer (af.Inst x y)
unfolding shown_assn
shown_Inst x y = ap shown_assn (sym (a.rolls-Inst x y)) ∙ fold-roll-Assn Shown assn_layer (af.Inst x y)

pub shown_Exists : (x : List ℕ) (y : Sort) (z : Assn) → shown_assn (a.Exists x y z) ≡ assn_layer (af.Exists x y (shown_assn z))
unfolding shown_assn
shown_Exists x y z = ap shown_assn (sym (a.rolls-Exists x y z)) ∙ fold-roll-Assn Shown assn_layer (af.Exists x y z)

pub shown_Either : (x : Assn) (y : Assn) → shown_assn (a.Either x y) ≡ assn_layer (af.Either (shown_assn x) (shown_assn y))
unfolding shown_assn
shown_Either x y = ap shown_assn (sym (a.rolls-Either x y)) ∙ fold-roll-Assn Shown assn_layer (af.Either x y)

-- ---- proofs

pub proof_kind : ProofKind → Printed
proof_kind = fold-ProofKind Printed Printed Printed proof_layer entry_layer (λ q. q.kind)

pub lin_entry : LinEntry → Printed
lin_entry = fold-LinEntry Printed Printed Printed proof_layer entry_layer (λ q. q.kind)

pub proof_is : (spot : Spot) (x : ProofKind) → proof (record { spot = spot; kind = x }) ≡ proof_kind x
unfolding proof proof_kind
proof_is spot x = fold_out-Proof Printed Printed Printed proof_layer entry_layer (λ q. q.kind) (record { spot = spot; kind = x })

pub entry_is : (n : ℕ) (x : Term) (q : Proof) → lin_entry (roll-LinEntry (record { multiplier = n; fact = x; proof = q })) ≡
    (λ rest. number n ∷ brackets (term x) (proof q rest))
unfolding proof lin_entry
entry_is n x q = fold-roll-LinEntry Printed Printed Printed proof_layer entry_layer (λ q. q.kind) (record { multiplier = n; fact = x; proof = q })

pub printed_Hyp : (x : List ℕ) → proof_kind (p.Hyp x) ≡ proof_layer (pf.Hyp x)
unfolding proof proof_kind lin_entry
printed_Hyp x = ap proof_kind (sym (p.rolls-Hyp x)) ∙ fold-roll-ProofKind Printed Printed Printed proof_layer entry_layer (λ q. q.kind) (pf.Hyp x)

pub printed_Refl : proof_kind p.Refl ≡ proof_layer pf.Refl
unfolding proof proof_kind lin_entry
printed_Refl = ap proof_kind (sym p.rolls-Refl) ∙ fold-roll-ProofKind Printed Printed Printed proof_layer entry_layer (λ q. q.kind) pf.Refl

pub printed_Calc : proof_kind p.Calc ≡ proof_layer pf.Calc
unfolding proof proof_kind lin_entry
printed_Calc = ap proof_kind (sym p.rolls-Calc) ∙ fold-roll-ProofKind Printed Printed Printed proof_layer entry_layer (λ q. q.kind) pf.Calc

pub printed_Recast : (x : Term) (y : Proof) → proof_kind (p.Recast x y) ≡ proof_layer (pf.Recast x (proof y))
unfolding proof proof_kind lin_entry
printed_Recast x y = ap proof_kind (sym (p.rolls-Recast x y)) ∙ fold-roll-ProofKind Printed Printed Printed proof_layer entry_layer (λ q. q.kind)
    (pf.Recast x y)

pub printed_Sym : (x : Proof) → proof_kind (p.Sym x) ≡ proof_layer (pf.Sym (proof x))
unfolding proof proof_kind lin_entry
printed_Sym x = ap proof_kind (sym (p.rolls-Sym x)) ∙ fold-roll-ProofKind Printed Printed Printed proof_layer entry_layer (λ q. q.kind) (pf.Sym x)

pub printed_Both : (x : Proof) (y : Proof) → proof_kind (p.Both x y) ≡ proof_layer (pf.Both (proof x) (proof y))
unfolding proof proof_kind lin_entry
printed_Both x y = ap proof_kind (sym (p.rolls-Both x y)) ∙ fold-roll-ProofKind Printed Printed Printed proof_layer entry_layer (λ q. q.kind)
    (pf.Both x y)

pub printed_Subst : (x : List ℕ) (y : Sort) (z : Term) (u : Term) (v : Term) (w : Proof) (m : Proof)
    → proof_kind (p.Subst x y z u v w m) ≡ proof_layer (pf.Subst x y z u v (proof w) (proof m))
unfolding proof proof_kind lin_entry
printed_Subst x y z u v w m = ap proof_kind (sym (p.rolls-Subst x y z u v w m))
    ∙ fold-roll-ProofKind Printed Printed Printed proof_layer entry_layer (λ q. q.kind) (pf.Subst x y z u v w m)

pub printed_Pair : (x : Proof) (y : Proof) → proof_kind (p.Pair x y) ≡ proof_layer (pf.Pair (proof x) (proof y))
unfolding proof proof_kind lin_entry
printed_Pair x y = ap proof_kind (sym (p.rolls-Pair x y)) ∙ fold-roll-ProofKind Printed Printed Printed proof_layer entry_layer (λ q. q.kind)
    (pf.Pair x y)

pub printed_Fst : (x : Term) (y : Proof) → proof_kind (p.Fst x y) ≡ proof_layer (pf.Fst x (proof y))
unfolding proof proof_kind lin_entry
printed_Fst x y = ap proof_kind (sym (p.rolls-Fst x y)) ∙ fold-roll-ProofKind Printed Printed Printed proof_layer entry_layer (λ q. q.kind)
    (pf.Fst x y)

pub printed_Snd : (x : Term) (y : Proof) → proof_kind (p.Snd x y) ≡ proof_layer (pf.Snd x (proof y))
unfolding proof proof_kind lin_entry
printed_Snd x y = ap proof_kind (sym (p.rolls-Snd x y)) ∙ fold-roll-ProofKind Printed Printed Printed proof_layer entry_layer (λ q. q.kind)
    (pf.Snd x y)

pub printed_Inl : (x : Proof) → proof_kind (p.Inl x) ≡ proof_layer (pf.Inl (proof x))
unfolding proof proof_kind lin_entry
printed_Inl x = ap proof_kind (sym (p.rolls-Inl x)) ∙ fold-roll-ProofKind Printed Printed Printed proof_layer entry_layer (λ q. q.kind) (pf.Inl x)

pub printed_Inr : (x : Proof) → proof_kind (p.Inr x) ≡ proof_layer (pf.Inr (proof x))
unfolding proof proof_kind lin_entry
printed_Inr x = ap proof_kind (sym (p.rolls-Inr x)) ∙ fold-roll-ProofKind Printed Printed Printed proof_layer entry_layer (λ q. q.kind) (pf.Inr x)

pub printed_Cases : (x : Term) (y : Proof) (z : List ℕ) (u : Proof) (v : List ℕ) (w : Proof)
    → proof_kind (p.Cases x y z u v w) ≡ proof_layer (pf.Cases x (proof y) z (proof u) v (proof w))
unfolding proof proof_kind lin_entry
printed_Cases x y z u v w = ap proof_kind (sym (p.rolls-Cases x y z u v w))
    ∙ fold-roll-ProofKind Printed Printed Printed proof_layer entry_layer (λ q. q.kind) (pf.Cases x y z u v w)

pub printed_Fun : (x : List ℕ) (y : Proof) → proof_kind (p.Fun x y) ≡ proof_layer (pf.Fun x (proof y))
unfolding proof proof_kind lin_entry
printed_Fun x y = ap proof_kind (sym (p.rolls-Fun x y)) ∙ fold-roll-ProofKind Printed Printed Printed proof_layer entry_layer (λ q. q.kind)
    (pf.Fun x y)

pub printed_App : (x : Term) (y : Proof) (z : Proof) → proof_kind (p.App x y z) ≡ proof_layer (pf.App x (proof y) (proof z))
unfolding proof proof_kind lin_entry
printed_App x y z = ap proof_kind (sym (p.rolls-App x y z)) ∙ fold-roll-ProofKind Printed Printed Printed proof_layer entry_layer (λ q. q.kind)
    (pf.App x y z)

pub printed_Neg : (x : Term) (y : Proof) (z : Proof) → proof_kind (p.Neg x y z) ≡ proof_layer (pf.Neg x (proof y) (proof z))
unfolding proof proof_kind lin_entry
printed_Neg x y z = ap proof_kind (sym (p.rolls-Neg x y z)) ∙ fold-roll-ProofKind Printed Printed Printed proof_layer entry_layer (λ q. q.kind)
    (pf.Neg x y z)

pub printed_Absurd : (x : Proof) → proof_kind (p.Absurd x) ≡ proof_layer (pf.Absurd (proof x))
unfolding proof proof_kind lin_entry
printed_Absurd x = ap proof_kind (sym (p.rolls-Absurd x)) ∙ fold-roll-ProofKind Printed Printed Printed proof_layer entry_layer (λ q. q.kind)
    (pf.Absurd x)

pub printed_Em : (x : Term) (y : List ℕ) (z : Proof) (u : List ℕ) (v : Proof)
    → proof_kind (p.Em x y z u v) ≡ proof_layer (pf.Em x y (proof z) u (proof v))
unfolding proof proof_kind lin_entry
printed_Em x y z u v = ap proof_kind (sym (p.rolls-Em x y z u v)) ∙ fold-roll-ProofKind Printed Printed Printed proof_layer entry_layer
    (λ q. q.kind) (pf.Em x y z u v)

pub printed_Lin : (x : ℕ) (y : List LinEntry) → proof_kind (p.Lin x y) ≡ proof_layer (pf.Lin x (map lin_entry y))
unfolding proof proof_kind lin_entry
printed_Lin x y = ap proof_kind (sym (p.rolls-Lin x y)) ∙ fold-roll-ProofKind Printed Printed Printed proof_layer entry_layer (λ q. q.kind)
    (pf.Lin x y)

pub printed_Monus : (x : Proof) → proof_kind (p.Monus x) ≡ proof_layer (pf.Monus (proof x))
unfolding proof proof_kind lin_entry
printed_Monus x = ap proof_kind (sym (p.rolls-Monus x)) ∙ fold-roll-ProofKind Printed Printed Printed proof_layer entry_layer (λ q. q.kind)
    (pf.Monus x)

pub printed_Head : (x : Term) (y : Term) (z : Proof) → proof_kind (p.Head x y z) ≡ proof_layer (pf.Head x y (proof z))
unfolding proof proof_kind lin_entry
printed_Head x y z = ap proof_kind (sym (p.rolls-Head x y z)) ∙ fold-roll-ProofKind Printed Printed Printed proof_layer entry_layer (λ q. q.kind)
    (pf.Head x y z)

pub printed_Tail : (x : Term) (y : Term) (z : Proof) → proof_kind (p.Tail x y z) ≡ proof_layer (pf.Tail x y (proof z))
unfolding proof proof_kind lin_entry
printed_Tail x y z = ap proof_kind (sym (p.rolls-Tail x y z)) ∙ fold-roll-ProofKind Printed Printed Printed proof_layer entry_layer (λ q. q.kind)
    (pf.Tail x y z)

pub printed_Nocons : proof_kind p.Nocons ≡ proof_layer pf.Nocons
unfolding proof proof_kind lin_entry
printed_Nocons = ap proof_kind (sym p.rolls-Nocons) ∙ fold-roll-ProofKind Printed Printed Printed proof_layer entry_layer (λ q. q.kind) pf.Nocons

pub printed_Apart : (x : ℕ) (y : ℕ) → proof_kind (p.Apart x y) ≡ proof_layer (pf.Apart x y)
unfolding proof proof_kind lin_entry
printed_Apart x y = ap proof_kind (sym (p.rolls-Apart x y)) ∙ fold-roll-ProofKind Printed Printed Printed proof_layer entry_layer (λ q. q.kind)
    (pf.Apart x y)

pub printed_Nonnull : (x : ℕ) → proof_kind (p.Nonnull x) ≡ proof_layer (pf.Nonnull x)
unfolding proof proof_kind lin_entry
printed_Nonnull x = ap proof_kind (sym (p.rolls-Nonnull x)) ∙ fold-roll-ProofKind Printed Printed Printed proof_layer entry_layer (λ q. q.kind)
    (pf.Nonnull x)

pub printed_Lemma : (x : List ℕ) (y : List Term) (z : Proof) → proof_kind (p.Lemma x y z) ≡ proof_layer (pf.Lemma x y (proof z))
unfolding proof proof_kind lin_entry
printed_Lemma x y z = ap proof_kind (sym (p.rolls-Lemma x y z)) ∙ fold-roll-ProofKind Printed Printed Printed proof_layer entry_layer
    (λ q. q.kind) (pf.Lemma x y z)

pub printed_Todo : proof_kind p.Todo ≡ proof_layer pf.Todo
unfolding proof proof_kind lin_entry
printed_Todo = ap proof_kind (sym p.rolls-Todo) ∙ fold-roll-ProofKind Printed Printed Printed proof_layer entry_layer (λ q. q.kind) pf.Todo

-- ---- gives

pub give_kind : GiveKind → Shown
give_kind = fold-GiveKind Shown Shown give_layer (λ x. x.kind)

pub give_is : (spot : Spot) (x : GiveKind) → shown_give (record { spot = spot; kind = x }) ≡ give_kind x
unfolding shown_give give_kind
give_is spot x = fold_out-Give Shown Shown give_layer (λ y. y.kind) (record { spot = spot; kind = x })

pub shown_give_Emp : give_kind g.Emp ≡ give_layer gf.Emp
unfolding shown_give give_kind
shown_give_Emp = ap give_kind (sym g.rolls-Emp) ∙ fold-roll-GiveKind Shown Shown give_layer (λ y. y.kind) gf.Emp

pub shown_give_Atom : (x : ℕ) → give_kind (g.Atom x) ≡ give_layer (gf.Atom x)
unfolding shown_give give_kind
shown_give_Atom x = ap give_kind (sym (g.rolls-Atom x)) ∙ fold-roll-GiveKind Shown Shown give_layer (λ y. y.kind) (gf.Atom x)

pub shown_give_Fact : (x : Proof) → give_kind (g.Fact x) ≡ give_layer (gf.Fact x)
unfolding shown_give give_kind
shown_give_Fact x = ap give_kind (sym (g.rolls-Fact x)) ∙ fold-roll-GiveKind Shown Shown give_layer (λ y. y.kind) (gf.Fact x)

pub shown_give_Star : (x : Give) (y : Give) → give_kind (g.Star x y) ≡ give_layer (gf.Star (shown_give x) (shown_give y))
unfolding shown_give give_kind
shown_give_Star x y = ap give_kind (sym (g.rolls-Star x y)) ∙ fold-roll-GiveKind Shown Shown give_layer (λ y. y.kind) (gf.Star x y)

pub shown_give_Ex : (x : Term) (y : Give) → give_kind (g.Ex x y) ≡ give_layer (gf.Ex x (shown_give y))
unfolding shown_give give_kind
shown_give_Ex x y = ap give_kind (sym (g.rolls-Ex x y)) ∙ fold-roll-GiveKind Shown Shown give_layer (λ y. y.kind) (gf.Ex x y)

pub shown_give_Left : (x : Give) → give_kind (g.Left x) ≡ give_layer (gf.Left (shown_give x))
unfolding shown_give give_kind
shown_give_Left x = ap give_kind (sym (g.rolls-Left x)) ∙ fold-roll-GiveKind Shown Shown give_layer (λ y. y.kind) (gf.Left x)

pub shown_give_Right : (x : Give) → give_kind (g.Right x) ≡ give_layer (gf.Right (shown_give x))
unfolding shown_give give_kind
shown_give_Right x = ap give_kind (sym (g.rolls-Right x)) ∙ fold-roll-GiveKind Shown Shown give_layer (λ y. y.kind) (gf.Right x)

pub shown_give_Fold : (x : Give) → give_kind (g.Fold x) ≡ give_layer (gf.Fold (shown_give x))
unfolding shown_give give_kind
shown_give_Fold x = ap give_kind (sym (g.rolls-Fold x)) ∙ fold-roll-GiveKind Shown Shown give_layer (λ y. y.kind) (gf.Fold x)

-- ---- bodies

pub stmt_kind : StmtKind → Printed
stmt_kind = fold-StmtKind Printed Printed Printed Printed Printed end_layer stmt_layer body_layer (λ y. y.kind) (λ y. y.kind)

pub end_kind : EndKind → Printed
end_kind = fold-EndKind Printed Printed Printed Printed Printed end_layer stmt_layer body_layer (λ y. y.kind) (λ y. y.kind)

pub stmt : Stmt → Printed
stmt = fold-Stmt Printed Printed Printed Printed Printed end_layer stmt_layer body_layer (λ y. y.kind) (λ y. y.kind)

pub end : End → Printed
end = fold-End Printed Printed Printed Printed Printed end_layer stmt_layer body_layer (λ y. y.kind) (λ y. y.kind)

pub stmt_is : (spot : Spot) (x : StmtKind) → stmt (record { spot = spot; kind = x }) ≡ stmt_kind x
unfolding stmt stmt_kind
stmt_is spot x = fold_out-Stmt Printed Printed Printed Printed Printed end_layer stmt_layer body_layer (λ y. y.kind) (λ y. y.kind)
    (record { spot = spot; kind = x })

pub end_is : (spot : Spot) (x : EndKind) → end (record { spot = spot; kind = x }) ≡ end_kind x
unfolding end end_kind
end_is spot x = fold_out-End Printed Printed Printed Printed Printed end_layer stmt_layer body_layer (λ y. y.kind) (λ y. y.kind)
    (record { spot = spot; kind = x })

pub body_is : (xs : List Stmt) (y : End) → body (roll-Body (record { stmts = xs; end = y })) ≡ braces (λ rest. ended (map stmt xs) (end y rest))
unfolding body stmt end
body_is xs y = fold-roll-Body Printed Printed Printed Printed Printed end_layer stmt_layer body_layer (λ y. y.kind) (λ y. y.kind)
    (record { stmts = xs; end = y })

pub printed_stmt_Read : (x : List ℕ) (y : Sort) (z : Term) (u : ℕ) (v : List ℕ) (w : Proof)
    → stmt_kind (c.Read x y z u v w) ≡ stmt_layer (bf.Read x y z u v w)
unfolding body stmt_kind
printed_stmt_Read x y z u v w = ap stmt_kind (sym (c.rolls-Read x y z u v w))
    ∙ fold-roll-StmtKind Printed Printed Printed Printed Printed end_layer stmt_layer body_layer (λ y. y.kind) (λ y. y.kind) (bf.Read x y z u v w)

pub printed_stmt_Write : (x : Term) (y : Term) (z : ℕ) (u : Proof) → stmt_kind (c.Write x y z u) ≡ stmt_layer (bf.Write x y z u)
unfolding body stmt_kind
printed_stmt_Write x y z u = ap stmt_kind (sym (c.rolls-Write x y z u))
    ∙ fold-roll-StmtKind Printed Printed Printed Printed Printed end_layer stmt_layer body_layer (λ y. y.kind) (λ y. y.kind) (bf.Write x y z u)

pub printed_stmt_Alloc : (x : List ℕ) (y : List Term) → stmt_kind (c.Alloc x y) ≡ stmt_layer (bf.Alloc x y)
unfolding body stmt_kind
printed_stmt_Alloc x y = ap stmt_kind (sym (c.rolls-Alloc x y))
    ∙ fold-roll-StmtKind Printed Printed Printed Printed Printed end_layer stmt_layer body_layer (λ y. y.kind) (λ y. y.kind) (bf.Alloc x y)

pub printed_stmt_Free : (x : Term) (y : ℕ) (z : Proof) → stmt_kind (c.Free x y z) ≡ stmt_layer (bf.Free x y z)
unfolding body stmt_kind
printed_stmt_Free x y z = ap stmt_kind (sym (c.rolls-Free x y z))
    ∙ fold-roll-StmtKind Printed Printed Printed Printed Printed end_layer stmt_layer body_layer (λ y. y.kind) (λ y. y.kind) (bf.Free x y z)

pub printed_stmt_Publish : (x : Term) (y : ℕ) (z : Proof) → stmt_kind (c.Publish x y z) ≡ stmt_layer (bf.Publish x y z)
unfolding body stmt_kind
printed_stmt_Publish x y z = ap stmt_kind (sym (c.rolls-Publish x y z))
    ∙ fold-roll-StmtKind Printed Printed Printed Printed Printed end_layer stmt_layer body_layer (λ y. y.kind) (λ y. y.kind) (bf.Publish x y z)

pub printed_stmt_Retract : (x : Term) (y : ℕ) (z : Proof) → stmt_kind (c.Retract x y z) ≡ stmt_layer (bf.Retract x y z)
unfolding body stmt_kind
printed_stmt_Retract x y z = ap stmt_kind (sym (c.rolls-Retract x y z))
    ∙ fold-roll-StmtKind Printed Printed Printed Printed Printed end_layer stmt_layer body_layer (λ y. y.kind) (λ y. y.kind) (bf.Retract x y z)

pub printed_stmt_Call : (x : List ℕ) (y : List ℕ) (z : List Term) (u : List Term) (v : Give)
    → stmt_kind (c.Call x y z u v) ≡ stmt_layer (bf.Call x y z u v)
unfolding body stmt_kind
printed_stmt_Call x y z u v = ap stmt_kind (sym (c.rolls-Call x y z u v))
    ∙ fold-roll-StmtKind Printed Printed Printed Printed Printed end_layer stmt_layer body_layer (λ y. y.kind) (λ y. y.kind) (bf.Call x y z u v)

pub printed_stmt_Do : (x : List ℕ) (y : Sort) (z : List ℕ) (u : Body) (v : Assn) → stmt_kind (c.Do x y z u v) ≡ stmt_layer (bf.Do x y z (body u) v)
unfolding body stmt_kind
printed_stmt_Do x y z u v = ap stmt_kind (sym (c.rolls-Do x y z u v))
    ∙ fold-roll-StmtKind Printed Printed Printed Printed Printed end_layer stmt_layer body_layer (λ y. y.kind) (λ y. y.kind) (bf.Do x y z u v)

pub printed_stmt_Atomic : (x : List ℕ) (y : Sort) (z : List ℕ) (u : Body) (v : Assn)
    → stmt_kind (c.Atomic x y z u v) ≡ stmt_layer (bf.Atomic x y z (body u) v)
unfolding body stmt_kind
printed_stmt_Atomic x y z u v = ap stmt_kind (sym (c.rolls-Atomic x y z u v))
    ∙ fold-roll-StmtKind Printed Printed Printed Printed Printed end_layer stmt_layer body_layer (λ y. y.kind) (λ y. y.kind) (bf.Atomic x y z u v)

pub printed_stmt_Par : (x : List ℕ) (y : Sort) (z : List ℕ) (u : Sort) (v : List ℕ) (w : Body) (m : Assn) (n : List ℕ) (i : Body) (j : Assn)
    → stmt_kind (c.Par x y z u v w m n i j) ≡ stmt_layer (bf.Par x y z u v (body w) m n (body i) j)
unfolding body stmt_kind
printed_stmt_Par x y z u v w m n i j = ap stmt_kind (sym (c.rolls-Par x y z u v w m n i j))
    ∙ fold-roll-StmtKind Printed Printed Printed Printed Printed end_layer stmt_layer body_layer (λ y. y.kind) (λ y. y.kind)
    (bf.Par x y z u v w m n i j)

pub printed_stmt_Proof : (x : Step) → stmt_kind (c.Proof x) ≡ stmt_layer (bf.Proof x)
unfolding body stmt_kind
printed_stmt_Proof x = ap stmt_kind (sym (c.rolls-Proof x))
    ∙ fold-roll-StmtKind Printed Printed Printed Printed Printed end_layer stmt_layer body_layer (λ y. y.kind) (λ y. y.kind) (bf.Proof x)

pub printed_end_Ret : (x : Term) (y : Give) → end_kind (e.Ret x y) ≡ end_layer (bf.Ret x y)
unfolding body end_kind
printed_end_Ret x y = ap end_kind (sym (e.rolls-Ret x y))
    ∙ fold-roll-EndKind Printed Printed Printed Printed Printed end_layer stmt_layer body_layer (λ y. y.kind) (λ y. y.kind) (bf.Ret x y)

pub printed_end_If : (x : Term) (y : List ℕ) (z : Body) (u : Body) → end_kind (e.If x y z u) ≡ end_layer (bf.If x y (body z) (body u))
unfolding body end_kind
printed_end_If x y z u = ap end_kind (sym (e.rolls-If x y z u))
    ∙ fold-roll-EndKind Printed Printed Printed Printed Printed end_layer stmt_layer body_layer (λ y. y.kind) (λ y. y.kind) (bf.If x y z u)

pub printed_end_CaseAtom : (x : ℕ) (y : Body) (z : Body) → end_kind (e.CaseAtom x y z) ≡ end_layer (bf.CaseAtom x (body y) (body z))
unfolding body end_kind
printed_end_CaseAtom x y z = ap end_kind (sym (e.rolls-CaseAtom x y z))
    ∙ fold-roll-EndKind Printed Printed Printed Printed Printed end_layer stmt_layer body_layer (λ y. y.kind) (λ y. y.kind) (bf.CaseAtom x y z)

pub printed_end_CaseBool : (x : Term) (y : List ℕ) (z : Body) (u : Body)
    → end_kind (e.CaseBool x y z u) ≡ end_layer (bf.CaseBool x y (body z) (body u))
unfolding body end_kind
printed_end_CaseBool x y z u = ap end_kind (sym (e.rolls-CaseBool x y z u))
    ∙ fold-roll-EndKind Printed Printed Printed Printed Printed end_layer stmt_layer body_layer (λ y. y.kind) (λ y. y.kind) (bf.CaseBool x y z u)

pub printed_end_CaseSeq : (x : Term) (y : List ℕ) (z : Body) (u : List ℕ) (v : List ℕ) (w : Body)
    → end_kind (e.CaseSeq x y z u v w) ≡ end_layer (bf.CaseSeq x y (body z) u v (body w))
unfolding body end_kind
printed_end_CaseSeq x y z u v w = ap end_kind (sym (e.rolls-CaseSeq x y z u v w))
    ∙ fold-roll-EndKind Printed Printed Printed Printed Printed end_layer stmt_layer body_layer (λ y. y.kind) (λ y. y.kind) (bf.CaseSeq x y z u v w)

pub printed_end_Dead : (x : Proof) (y : Body) → end_kind (e.Dead x y) ≡ end_layer (bf.Dead x (body y))
unfolding body end_kind
printed_end_Dead x y = ap end_kind (sym (e.rolls-Dead x y))
    ∙ fold-roll-EndKind Printed Printed Printed Printed Printed end_layer stmt_layer body_layer (λ y. y.kind) (λ y. y.kind) (bf.Dead x y)
