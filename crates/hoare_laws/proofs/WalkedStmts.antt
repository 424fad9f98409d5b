-- What it is that the walk over names and sorts refuses nothing in a statement or an end, by their uppermost level.
use Rattle.std.proofs.Common.{◌≡◌, ℕ, List, [], ◌∷◌, Option, Some, None, sym, ◌∙◌}
use Rattle.tht_tree.specs.declared.assn.Assn.{Assn}
use Rattle.tht_tree.specs.declared.body.EndKind.TheOpen as b
use Rattle.tht_tree.specs.declared.give.Give.{Give}
use Rattle.tht_tree.specs.declared.plain.Sort.{Sort}
use Rattle.tht_tree.specs.declared.plain.Sort.TheVariants as sort
use Rattle.tht_tree.specs.declared.plain.Spot.{Spot}
use Rattle.tht_tree.specs.declared.proof.Proof.{Proof}
use Rattle.tht_tree.specs.declared.step.Step.{Step}
use Rattle.tht_tree.specs.declared.term.Term.{Term}
use Rattle.tht_tree.specs.declared.walk.Frame.{Frame}
use Rattle.tht_tree.specs.declared.walk.Where.TheVariants.{Outside}
use Rattle.tht_tree.specs.Walk.Codes.{first, first_of, ◌▸◌}
use Rattle.tht_tree.specs.Walk.Names as walk
use Rattle.tht_tree.specs.Walk.Names.{with_result, with_hypothesis, with_parts, new_name, new_parts}
use Rattle.tht_tree.specs.Walk.Terms.{term_of, formula, program_of, any_program, any_programs, storable}
use Rattle.tht_tree.specs.Walk.Kinds.{private_only}
use Rattle.tht_tree.specs.Walk.Assns.{assn}
use Rattle.tht_tree.specs.Walk.Proofs.{proof}
use Rattle.tht_tree.specs.Walk.Gives as gives
use Rattle.tht_tree.specs.Walk.Steps as steps
use Rattle.tht_tree.specs.Walk.Bodies as w
use Rattle.tht_tree.specs.Walk.Bodies.{InBody, Statement, frame, new_result, place_term, not_in_lemma, private_box, result_box, command, stmt_at, end_at}
use Rattle.proof_laws.proofs.WalkedTerms.{no_walk_code, first_none}
use Rattle.assn_laws.proofs.Refusing.{nothing, construct_none, behind_none, first_of_none}

-- ---- what is refused in none of their parts

pub record ReadWalked (names : walk.Scope) (x : List ℕ) (r : Sort) (t : Term) (h : List ℕ) (q : Proof) : Type 0 where
  pub new : new_name names x ≡ no_walk_code
  pub new_hyp : new_name (with_result names x r) h ≡ no_walk_code
  pub place : program_of names sort.Loc t ≡ no_walk_code
  pub proved : proof q names ≡ nothing

pub record WriteWalked (names : walk.Scope) (t u : Term) (q : Proof) : Type 0 where
  pub place : program_of names sort.Loc t ≡ no_walk_code
  pub value : any_program names u ≡ no_walk_code
  pub proved : proof q names ≡ nothing

pub record AllocWalked (names : walk.Scope) (x : List ℕ) (ts : List Term) : Type 0 where
  pub new : new_name names x ≡ no_walk_code
  pub values : any_programs names ts ≡ no_walk_code

pub record FreeWalked (names : walk.Scope) (t : Term) (q : Proof) : Type 0 where
  pub place : program_of names sort.Loc t ≡ no_walk_code
  pub proved : proof q names ≡ nothing

pub record RetWalked (names : walk.Scope) (r : Sort) (t : Term) (g : Give) : Type 0 where
  pub value : program_of names r t ≡ no_walk_code
  pub give : gives.give g names ≡ nothing

pub record CallWalked (names : walk.Scope) (x c : List ℕ) (ts us : List Term) (g : Give) : Type 0 where
  pub new : new_name names x ≡ no_walk_code
  pub command : command Outside names c ts us ≡ no_walk_code
  pub give : gives.give g names ≡ nothing

pub record DoWalked (names : walk.Scope) (x : List ℕ) (r : Sort) (p : Assn) : Type 0 where
  pub new : new_name names x ≡ no_walk_code
  pub stored : storable r ≡ no_walk_code
  pub box : assn p (with_result names x r) ≡ no_walk_code

module _ (spot : Spot) (names : walk.Scope) where
  -- ---- statements outside atomic blocks

  module _ (s : Sort) where
    abbrev f : Frame
    f = frame Outside s

    pub read_walked : (x : List ℕ) (r : Sort) (t : Term) (i : ℕ) (h : List ℕ) (q : Proof) → stmt_at (b.Read x r t i h q) spot f names ≡ nothing → ReadWalked names x r t h q
    read_walked x r t i h q e =
        let own = first (new_result names x r) (new_name (with_result names x r) h) in
        let all = first_of (own ∷ place_term names t ∷ not_in_lemma Outside ∷ []) in
        let parts = construct_none spot all (proof q names) e in
        let tests = first_of_none own (place_term names t ∷ not_in_lemma Outside ∷ []) parts.0 in
        let bound = first_none (new_result names x r) (new_name (with_result names x r) h) tests.0 in
        record {
          new = (first_none (new_name names x) (storable r) bound.0).0;
          new_hyp = bound.1;
          place = (first_of_none (place_term names t) (not_in_lemma Outside ∷ []) tests.1).0;
          proved = parts.1;
        }

    pub write_walked : (t u : Term) (i : ℕ) (q : Proof) → stmt_at (b.Write t u i q) spot f names ≡ nothing → WriteWalked names t u q
    write_walked t u i q e =
        let all = first_of (place_term names t ∷ any_program names u ∷ not_in_lemma Outside ∷ []) in
        let parts = construct_none spot all (proof q names) e in
        let tests = first_of_none (place_term names t) (any_program names u ∷ not_in_lemma Outside ∷ []) parts.0 in
        record {
          place = tests.0;
          value = (first_of_none (any_program names u) (not_in_lemma Outside ∷ []) tests.1).0;
          proved = parts.1;
        }

    pub alloc_walked : (x : List ℕ) (ts : List Term) → stmt_at (b.Alloc x ts) spot f names ≡ nothing → AllocWalked names x ts
    alloc_walked x ts e =
        let all = first_of (new_name names x ∷ any_programs names ts ∷ not_in_lemma Outside ∷ []) in
        let parts = construct_none spot all nothing e in
        let tests = first_of_none (new_name names x) (any_programs names ts ∷ not_in_lemma Outside ∷ []) parts.0 in
        record { new = tests.0; values = (first_of_none (any_programs names ts) (not_in_lemma Outside ∷ []) tests.1).0 }

    pub free_walked : (t : Term) (i : ℕ) (q : Proof) → stmt_at (b.Free t i q) spot f names ≡ nothing → FreeWalked names t q
    free_walked t i q e =
        let parts = construct_none spot (first (place_term names t) (not_in_lemma Outside)) (proof q names) e in
        record { place = (first_none (place_term names t) (not_in_lemma Outside) parts.0).0; proved = parts.1 }

    pub call_walked : (x c : List ℕ) (ts us : List Term) (g : Give) → stmt_at (b.Call x c ts us g) spot f names ≡ nothing → CallWalked names x c ts us g
    call_walked x c ts us g e =
        let parts = construct_none spot (first (new_name names x) (command Outside names c ts us)) (gives.give g names) e in
        let own = first_none (new_name names x) (command Outside names c ts us) parts.0 in
        record { new = own.0; command = own.1; give = parts.1 }

    -- a `do`, and its body
    pub do_walked : (x : List ℕ) (r : Sort) (ns : List ℕ) (body : InBody) (box : Assn) → stmt_at (b.Do x r ns body box) spot f names ≡ nothing
        → DoWalked names x r box × (body (frame Outside r) names ≡ nothing)
    do_walked x r ns body box e =
        let all = first_of (new_result names x r ∷ private_box names x r box ∷ not_in_lemma Outside ∷ []) in
        let parts = construct_none spot all (body (frame Outside r) names) e in
        let tests = first_of_none (new_result names x r) (private_box names x r box ∷ not_in_lemma Outside ∷ []) parts.0 in
        let bound = first_none (new_name names x) (storable r) tests.0 in
        let boxes = first_none (result_box names x r box) (private_only names box) (first_of_none (private_box names x r box) (not_in_lemma Outside ∷ []) tests.1).0 in
        (record { new = bound.0; stored = bound.1; box = boxes.0 }, parts.1)

  -- ---- ends outside lemmas

  module _ (r : Sort) where
    abbrev g : Frame
    g = frame Outside r

    pub ret_walked : (t : Term) (x : Give) → end_at (b.Ret t x) spot g names ≡ nothing → RetWalked names r t x
    ret_walked t x e =
        let parts = construct_none spot (program_of names r t) (gives.give x names) e in
        record { value = parts.0; give = parts.1 }

    -- each of two bodies, and what stands before them
    pub if_walked : (t : Term) (h : List ℕ) (body other : InBody) → end_at (b.If t h body other) spot g names ≡ nothing
        → (program_of names sort.Bool t ≡ no_walk_code) × (new_name names h ≡ no_walk_code) × (body g (with_hypothesis names h) ≡ nothing) × (other g (with_hypothesis names h) ≡ nothing)
    if_walked t h body other e =
        let all = first_of (program_of names sort.Bool t ∷ new_name names h ∷ not_in_lemma Outside ∷ []) in
        let parts = construct_none spot all (body g (with_hypothesis names h) ▸ other g (with_hypothesis names h)) e in
        let tests = first_of_none (program_of names sort.Bool t) (new_name names h ∷ not_in_lemma Outside ∷ []) parts.0 in
        let bodies = behind_none (body g (with_hypothesis names h)) (other g (with_hypothesis names h)) parts.1 in
        (tests.0, (first_of_none (new_name names h) (not_in_lemma Outside ∷ []) tests.1).0, bodies.0, bodies.1)

    pub sides_walked : (i : ℕ) (body other : InBody) → end_at (b.CaseAtom i body other) spot g names ≡ nothing → (body g names ≡ nothing) × (other g names ≡ nothing)
    sides_walked i body other e = behind_none (body g names) (other g names) e

    pub truth_walked : (t : Term) (h : List ℕ) (body other : InBody) → end_at (b.CaseBool t h body other) spot g names ≡ nothing
        → (formula names t ≡ no_walk_code) × (new_name names h ≡ no_walk_code) × (body g (with_hypothesis names h) ≡ nothing) × (other g (with_hypothesis names h) ≡ nothing)
    truth_walked t h body other e =
        let parts = construct_none spot (first (formula names t) (new_name names h)) (body g (with_hypothesis names h) ▸ other g (with_hypothesis names h)) e in
        let tests = first_none (formula names t) (new_name names h) parts.0 in
        let bodies = behind_none (body g (with_hypothesis names h)) (other g (with_hypothesis names h)) parts.1 in
        (tests.0, tests.1, bodies.0, bodies.1)

    pub sequence_walked : (t : Term) (h : List ℕ) (body : InBody) (x s : List ℕ) (other : InBody) → end_at (b.CaseSeq t h body x s other) spot g names ≡ nothing
        → (term_of names sort.Seq t ≡ no_walk_code) × (new_name names h ≡ no_walk_code) × (new_parts (with_hypothesis names h) x s ≡ no_walk_code)
        × (body g (with_hypothesis names h) ≡ nothing) × (other g (with_parts (with_hypothesis names h) x s) ≡ nothing)
    sequence_walked t h body x s other e =
        let inner = with_hypothesis names h in
        let all = first_of (term_of names sort.Seq t ∷ new_name names h ∷ new_parts inner x s ∷ []) in
        let parts = construct_none spot all (body g inner ▸ other g (with_parts inner x s)) e in
        let tests = first_of_none (term_of names sort.Seq t) (new_name names h ∷ new_parts inner x s ∷ []) parts.0 in
        let others = first_of_none (new_name names h) (new_parts inner x s ∷ []) tests.1 in
        let bodies = behind_none (body g inner) (other g (with_parts inner x s)) parts.1 in
        (tests.0, others.0, others.1, bodies.0, bodies.1)

    pub dead_walked : (q : Proof) (body : InBody) → end_at (b.Dead q body) spot g names ≡ nothing → (proof q names ≡ nothing) × (body g names ≡ nothing)
    dead_walked q body e = behind_none (proof q names) (body g names) e
