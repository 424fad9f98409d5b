-- The rules of statements and ends by their forms, where these predicates are declared.
use Rattle.std.proofs.Common.{◌≡◌, ℕ, List, Result, sym, subst}
use Rattle.tht_tree.specs.declared.plain.Sort.{Sort}
use Rattle.tht_tree.specs.declared.plain.Spot.{Spot}
use Rattle.tht_tree.specs.declared.term.Term.{Term}
use Rattle.tht_tree.specs.declared.term.Term.TheVariants as term
use Rattle.tht_tree.specs.declared.assn.Assn.{Assn}
use Rattle.tht_tree.specs.declared.give.Give.{Give}
use Rattle.tht_tree.specs.declared.proof.Proof.{Proof}
use Rattle.tht_tree.specs.declared.step.Step.{Step}
use Rattle.tht_tree.specs.declared.body.Body.{Body}
use Rattle.tht_tree.specs.declared.body.End.{End}
use Rattle.tht_tree.specs.declared.body.EndKind.TheVariants as e
use Rattle.tht_tree.specs.declared.body.Stmt.{Stmt}
use Rattle.tht_tree.specs.declared.body.StmtKind.TheVariants as s
use Rattle.tht_tree.specs.declared.state.Post.{Post}
use Rattle.tht_tree.specs.declared.rule.RuleCode.TheVariants.{R5, R11}
use Rattle.tht_tree.specs.Rules.Context.{Context}
use Rattle.tht_tree.specs.Rules.Refusals.{needs, ◌▸◌}
use Rattle.tht_tree.specs.Rules.Proofs.{prove, proves}
use Rattle.tht_logic.specs.SamePrograms.{same_program}
use Rattle.tht_logic.specs.Rules.Checking.{reject, and_then}
use Rattle.tht_logic.specs.Rules.Steps.{after_step}
use Rattle.tht_logic.specs.Rules.Commands.{after_read, after_write, after_alloc, after_free}
use Rattle.tht_logic.specs.Rules.Calls.{after_call, after_do}
use Rattle.tht_logic.specs.Rules.Bodies.{return_refused, sides, by_truth, by_sides, by_sequence, body_refused, end_refused, end_kind_refused, after_stmt, after_stmt_kind}
use Rattle.tht_logic.proofs.RuleLevels as levels
use Rattle.pure_proofs.specs.declared.refusal.Refusal.{Refusal}
use Rattle.pure_proofs.specs.Verdicts.{IsVerdict}
use Rattle.heap_rules.specs.declared.places.Predicates.{Predicates}
use Rattle.heap_rules.specs.Declarations.{declared_by}
use Rattle.hoare_rules.specs.Cells.{Says, undeclared}

module _ (p : Predicates) where
  -- ---- statements

  module _ (spot : Spot) (c : Context) where
    pub read_is : (x : List ℕ) (r : Sort) (t : Term) (i : ℕ) (h : List ℕ) (q : Proof) → after_stmt_kind (declared_by p) (s.Read x r t i h q) spot c ≡ after_read undeclared spot c x r t i h q
    unfolding declared_by
    read_is x r t i h q = levels.read_rule (declared_by p) spot c x r t i h q

    pub write_is : (t u : Term) (i : ℕ) (q : Proof) → after_stmt_kind (declared_by p) (s.Write t u i q) spot c ≡ after_write undeclared spot c t u i q
    unfolding declared_by
    write_is t u i q = levels.write_rule (declared_by p) spot c t u i q

    pub alloc_is : (x : List ℕ) (ts : List Term) → after_stmt_kind (declared_by p) (s.Alloc x ts) spot c ≡ after_alloc spot c x ts
    alloc_is x ts = levels.alloc_rule (declared_by p) spot c x ts

    pub free_is : (t : Term) (i : ℕ) (q : Proof) → after_stmt_kind (declared_by p) (s.Free t i q) spot c ≡ after_free undeclared spot c t i q
    unfolding declared_by
    free_is t i q = levels.free_rule (declared_by p) spot c t i q

    pub publish_is : (t : Term) (i : ℕ) (q : Proof) → after_stmt_kind (declared_by p) (s.Publish t i q) spot c ≡ reject spot R5
    publish_is t i q = levels.publish_rule (declared_by p) spot c t i q

    pub retract_is : (t : Term) (i : ℕ) (q : Proof) → after_stmt_kind (declared_by p) (s.Retract t i q) spot c ≡ reject spot R5
    retract_is t i q = levels.retract_rule (declared_by p) spot c t i q

    pub call_is : (x f : List ℕ) (ts us : List Term) (g : Give) → after_stmt_kind (declared_by p) (s.Call x f ts us g) spot c ≡ after_call (declared_by p) spot c x f ts us g
    call_is x f ts us g = levels.call_rule (declared_by p) spot c x f ts us g

    pub do_is : (x : List ℕ) (r : Sort) (ns : List ℕ) (body : Body) (box : Assn)
        → after_stmt_kind (declared_by p) (s.Do x r ns body box) spot c ≡ after_do spot c x r ns (body_refused (declared_by p) body) box
    do_is x r ns body box = levels.do_rule (declared_by p) spot c x r ns body box

    pub atomic_is : (x : List ℕ) (r : Sort) (ns : List ℕ) (body : Body) (box : Assn) → after_stmt_kind (declared_by p) (s.Atomic x r ns body box) spot c ≡ reject spot R5
    atomic_is x r ns body box = levels.atomic_rule (declared_by p) spot c x r ns body box

    pub par_is : (x : List ℕ) (r : Sort) (y : List ℕ) (q : Sort) (ns : List ℕ) (body : Body) (box : Assn) (ms : List ℕ) (other : Body) (last : Assn)
        → after_stmt_kind (declared_by p) (s.Par x r y q ns body box ms other last) spot c ≡ reject spot R5
    par_is x r y q ns body box ms other last = levels.par_rule (declared_by p) spot c x r y q ns body box ms other last

    pub proof_is : (x : Step) → after_stmt_kind (declared_by p) (s.Proof x) spot c ≡ after_step (declared_by p) c x
    proof_is x = levels.proof_rule (declared_by p) spot c x

  -- a statement is its kind, at its spot
  pub stmt_says : {A : Type 0} (result : Result A Refusal) (x : Stmt) (c now : Context) → Says result (after_stmt_kind (declared_by p) x.kind x.spot c) now → Says result (after_stmt (declared_by p) x c) now
  stmt_says result x c now h = subst (λ f. Says result (f c) now) (sym (levels.stmt_rule (declared_by p) x)) h

  -- ---- ends

  module _ (spot : Spot) (post : Post) (c : Context) where
    pub ret_is : (t : Term) (g : Give) → end_kind_refused (declared_by p) (e.Ret t g) spot post c ≡ return_refused (declared_by p) spot c t g post
    ret_is t g = levels.ret_rule (declared_by p) spot post c t g

    pub if_is : (t : Term) (h : List ℕ) (body other : Body)
        → end_kind_refused (declared_by p) (e.If t h body other) spot post c ≡ by_truth spot c h t (body_refused (declared_by p) body) (body_refused (declared_by p) other) post
    if_is t h body other = levels.if_rule (declared_by p) spot post c t h body other

    pub case_atom_is : (i : ℕ) (body other : Body) → end_kind_refused (declared_by p) (e.CaseAtom i body other) spot post c
        ≡ and_then (sides spot c i) (λ z. needs spot R11 (same_program body other) ▸ by_sides spot c i (body_refused (declared_by p) body) (body_refused (declared_by p) other) z post)
    case_atom_is i body other = levels.case_atom_rule (declared_by p) spot post c i body other

    pub case_bool_is : (t : Term) (h : List ℕ) (body other : Body) → end_kind_refused (declared_by p) (e.CaseBool t h body other) spot post c
        ≡ (needs spot R11 (same_program body other) ▸ by_truth spot c h t (body_refused (declared_by p) body) (body_refused (declared_by p) other) post)
    case_bool_is t h body other = levels.case_bool_rule (declared_by p) spot post c t h body other

    pub case_seq_is : (t : Term) (h : List ℕ) (body : Body) (x y : List ℕ) (other : Body) → end_kind_refused (declared_by p) (e.CaseSeq t h body x y other) spot post c
        ≡ (needs spot R11 (same_program body other) ▸ by_sequence spot c h t (body_refused (declared_by p) body) x y (body_refused (declared_by p) other) post)
    case_seq_is t h body x y other = levels.case_seq_rule (declared_by p) spot post c t h body x y other

    pub dead_is : (q : Proof) (body : Body) → end_kind_refused (declared_by p) (e.Dead q body) spot post c ≡ proves spot (prove undeclared q) c term.False
    unfolding declared_by
    dead_is q body = levels.dead_rule (declared_by p) spot post c q body

  -- an end is its kind, at its spot
  pub end_says : {A : Type 0} (result : Result A Refusal) (x : End) (post : Post) (c : Context) → IsVerdict result (end_kind_refused (declared_by p) x.kind x.spot post c) → IsVerdict result (end_refused (declared_by p) x post c)
  end_says result x post c h = subst (λ f. IsVerdict result (f post c)) (sym (levels.end_rule (declared_by p) x)) h
