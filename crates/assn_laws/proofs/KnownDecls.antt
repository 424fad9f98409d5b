-- What the walk knows where some declarations of a file stand in front and others behind: predicates and procs of the whole file, since a later one has a new name.
use Rattle.std.proofs.Common.{◌≡◌, ◌⊎◌, ℕ, Bool, true, false, List, [], ◌∷◌, ◌++◌, Option, Some, None, refl, sym, ◌∙◌, ap, subst, inl, inr}
use Rattle.std.proofs.lemmas.List.Elements.{All-head, All-tail, All-cons, All-nil}
use Rattle.std.specs.Prelude.{bytes_eq, option_map, if◌then◌else◌}
use Rattle.tht_tree.specs.declared.plain.Spot.{Spot}
use Rattle.tht_tree.specs.declared.decl.Head.{Head}
use Rattle.tht_tree.specs.declared.decl.Decl.{Decl}
use Rattle.tht_tree.specs.declared.decl.DeclKind.{DeclKind}
use Rattle.tht_tree.specs.declared.decl.DeclKind.TheVariants as d
use Rattle.tht_tree.specs.declared.file.Source1.{Source1}
use Rattle.tht_tree.specs.declared.walk.Class.{Class}
use Rattle.tht_tree.specs.declared.walk.Class.TheVariants as c
use Rattle.tht_tree.specs.declared.walk.Naming.TheVariants.{Nowhere}
use Rattle.tht_tree.specs.declared.walk.Where.TheVariants.{Outside, Inside}
use Rattle.tht_tree.specs.Walk.Codes.{first as walk_first, first_of, ◌▸◌}
use Rattle.tht_tree.specs.Walk.Names as walk
use Rattle.tht_tree.specs.Walk.Names.{with_name, new_name}
use Rattle.tht_tree.specs.Walk.Kinds.{private_only}
use Rattle.tht_tree.specs.Walk.Assns as w
use Rattle.tht_tree.specs.Walk.Bodies.{frame, body, result_box, private_box}
use Rattle.tht_tree.specs.Walk.Decls.{Before, with_logic, new_logic, with_predicate, with_lemma, in_lemma, with_txn, with_proc, in_command}
use Rattle.tht_tree.specs.Walk.Decls.{head_code, case_names, pred_code, lemma_code, lemma_bodies, txn_code, proc_code, definition, signature, decl_kind, after_decl}
use Rattle.tht_tree.specs.Walk.Files.{WellSorted, has_invariant, at_start, decls, after_decls, main}
use Rattle.tht_tree.proofs.SameTerm.{bytes_eq-true}
use Rattle.tht_logic.specs.Procedures.{Procedure, Procedures, with_declared_procedure, with_procedures}
use Rattle.tht_logic.specs.Programs.{root_names}
use Rattle.tht_logic.specs.Rules.Definitions.{Predicate, with_declaration, with_predicates}
use Rattle.tht_logic.specs.Rules.Definitions as defs
use Rattle.tht_logic.specs.Rules.Scoped.{Table}
use Rattle.assn_laws.specs.Walked.{KnowsAt, Knows, KnowsProcAt, KnowsProcs, is_simple, AreSimple}
use Rattle.assn_laws.specs.FileLaws.{DeclarationsBegin, Stands, ProceduresStand}
use Rattle.assn_laws.proofs.Answers.{some_same}
use Rattle.assn_laws.proofs.DefinedByEarlier.{new_to_walk, all_reached}
use Rattle.assn_laws.proofs.Refusing.{nothing, construct_none, behind_none, first_of_none}
use Rattle.assn_laws.proofs.ProcNames.{procs_with_name}

-- ---- declarations in front, and behind

pub walk_parts : (i : Bool) (xs ys : List Decl) (b : Before) → decls i (xs ++ ys) b ≡ nothing → (decls i xs b ≡ nothing) × (decls i ys (after_decls xs b) ≡ nothing)
walk_parts i [] ys b e = (refl, e)
walk_parts i (x ∷ xs) ys b e =
    let parts = behind_none (decl_kind i x.kind x.spot b) (decls i (xs ++ ys) (after_decl x.kind b)) e in
    let rest = walk_parts i xs ys (after_decl x.kind b) parts.1 in
    (ap (λ z. z ▸ decls i xs (after_decl x.kind b)) parts.0 ∙ rest.0, rest.1)

pub after_parts : (xs ys : List Decl) (b : Before) → after_decls (xs ++ ys) b ≡ after_decls ys (after_decls xs b)
after_parts [] ys b = refl
after_parts (x ∷ xs) ys b = after_parts xs ys (after_decl x.kind b)

predicates_parts : (xs ys : List Decl) (known : Table) → with_predicates known (xs ++ ys) ≡ with_predicates (with_predicates known xs) ys
predicates_parts [] ys known = refl
predicates_parts (x ∷ xs) ys known = predicates_parts xs ys (with_declaration x.kind known)

callees_parts : (xs ys : List Decl) (known : Procedures) → with_procedures known (xs ++ ys) ≡ with_procedures (with_procedures known xs) ys
callees_parts [] ys known = refl
callees_parts (x ∷ xs) ys known = callees_parts xs ys (with_declared_procedure x.kind known)

simple_parts : (xs ys : List Decl) → AreSimple (xs ++ ys) → AreSimple xs × AreSimple ys
simple_parts [] ys all = (All-nil (λ z. is_simple z.kind ≡ true), all)
simple_parts (x ∷ xs) ys all =
    let rest = simple_parts xs ys (All-tail (λ z. is_simple z.kind ≡ true) x (xs ++ ys) all) in
    (All-cons (λ z. is_simple z.kind ≡ true) x xs (All-head (λ z. is_simple z.kind ≡ true) x (xs ++ ys) all) rest.0, rest.1)

-- ---- names of declarations

-- the name of a declaration is new
abbrev IsNewIn : walk.Scope → DeclKind → Type 0
IsNewIn names (d.Root x s y) = names x ≡ None
IsNewIn names (d.Invariant a g) = Unit {0}
IsNewIn names (d.Pred who q ps a) = names q ≡ None
IsNewIn names (d.PredOn who q ps u a m s c) = names q ≡ None
IsNewIn names (d.Lemma x) = names x.name ≡ None
IsNewIn names (d.Txn h y) = names h.name ≡ None
IsNewIn names (d.Proc h y) = names h.name ≡ None

name_is_new : (i : Bool) (k : DeclKind) → is_simple k ≡ true → (spot : Spot) (b : Before) → decl_kind i k spot b ≡ nothing → IsNewIn b.scope k
name_is_new i (d.Root x s y) simple spot b e = cc
name_is_new i (d.PredOn who q ps u a m s c) simple spot b e = cc
name_is_new i (d.Invariant a g) simple spot b e = tt
name_is_new i (d.Pred who q ps a) simple spot b e =
    let self : walk.Scope = with_predicate b.scope who q ps Nowhere in
    new_to_walk b.scope q (first_of_none (new_name b.scope q) (new_logic self ps ∷ definition who (with_logic self ps) a ∷ []) (construct_none spot (pred_code who q ps a b.scope) nothing e).0).0
name_is_new i (d.Lemma x) simple spot b e =
    let names = first_of (new_name b.scope x.name ∷ new_logic (with_lemma b.scope x Nowhere) x.params ∷ case_names x x.kind b.scope ∷ []) in
    let code = (construct_none x.spot (lemma_code x b.scope) (lemma_bodies x x.kind b.scope) e).0 in
    let own = (first_of_none names (w.assn x.pre (in_lemma x b.scope) ∷ w.assn x.post (in_lemma x b.scope) ∷ []) code).0 in
    new_to_walk b.scope x.name (first_of_none (new_name b.scope x.name) (new_logic (with_lemma b.scope x Nowhere) x.params ∷ case_names x x.kind b.scope ∷ []) own).0
name_is_new i (d.Txn h y) simple spot b e =
    let self = with_txn b.scope h in
    let code = (construct_none spot (txn_code h b.scope) (body y (frame Inside h.sort) (in_command h self)) e).0 in
    new_to_walk b.scope h.name (first_of_none (new_name b.scope h.name) (head_code h self ∷ result_box (in_command h self) h.result h.sort h.post ∷ []) code).0
name_is_new i (d.Proc h y) simple spot b e =
    let self = with_proc b.scope h in
    let boxes = walk_first (private_only self h.pre) (private_box (in_command h self) h.result h.sort h.post) in
    let code = (construct_none spot (proc_code h b.scope) (body y (frame Outside h.sort) (in_command h self)) e).0 in
    new_to_walk b.scope h.name (first_of_none (new_name b.scope h.name) (head_code h self ∷ boxes ∷ []) code).0

-- what is not known in the wider scope is not known in the other
abbrev Within : walk.Scope → walk.Scope → Type 0
Within names wider = (y : List ℕ) → wider y ≡ None → names y ≡ None

new_within : (names wider : walk.Scope) → Within names wider → (k : DeclKind) → IsNewIn wider k → IsNewIn names k
new_within names wider f (d.Root x s y) new = f x new
new_within names wider f (d.Invariant a g) new = tt
new_within names wider f (d.Pred who q ps a) new = f q new
new_within names wider f (d.PredOn who q ps u a m s c) new = f q new
new_within names wider f (d.Lemma x) new = f x.name new
new_within names wider f (d.Txn h y) new = f h.name new
new_within names wider f (d.Proc h y) new = f h.name new

within_name : (names wider : walk.Scope) → Within names wider → (x : List ℕ) (k : Class) → Within names (with_name wider x k)
within_name names wider f x k y = pick (bytes_eq x y)
  where
    pick : (t : Bool) → (if t then Some k else wider y) ≡ None → names y ≡ None
    pick true e = cc
    pick false e = f y e

within_decl : (names : walk.Scope) (b : Before) → Within names b.scope → (k : DeclKind) → Within names (after_decl k b).scope
within_decl names b f (d.Root x s y) = within_name names b.scope f x _
within_decl names b f (d.Invariant a g) = f
within_decl names b f (d.Pred who q ps a) = within_name names b.scope f q _
within_decl names b f (d.PredOn who q ps u a m s c) = within_name names b.scope f q _
within_decl names b f (d.Lemma x) = within_name names b.scope f x.name _
within_decl names b f (d.Txn h y) = within_name names b.scope f h.name _
within_decl names b f (d.Proc h y) = within_name names b.scope f h.name _

-- ---- the tables

-- the heads of callees
abbrev pub heads : Procedures → List ℕ → Option Head
heads cs f = option_map (λ x. x.head) (cs f)

module _ (names : walk.Scope) where
  no_class_at : (q y : List ℕ) → names q ≡ None → bytes_eq q y ≡ true → names y ≡ None
  no_class_at q y new g = ap names (sym (bytes_eq-true q y g)) ∙ new

  -- one more predicate of a name that is new
  knows_more : (q : List ℕ) (x : Predicate) (known : Table) → names q ≡ None → Knows known names → Knows (defs.with_predicate q x known) names
  knows_more q x known new knows y = pick (bytes_eq q y) refl
    where
      pick : (t : Bool) → bytes_eq q y ≡ t → KnowsAt (names y) (if t then Some x else known y)
      pick true g = subst (λ z. KnowsAt z (Some x)) (sym (no_class_at q y new g)) tt
      pick false g = knows y

  knows_after : (k : DeclKind) (known : Table) → IsNewIn names k → Knows known names → Knows (with_declaration k known) names
  knows_after (d.Pred who q ps a) known new knows = knows_more q _ known new knows
  knows_after (d.PredOn who q ps u a m s c) known new knows = knows_more q _ known new knows
  knows_after (d.Root x s y) known new knows = knows
  knows_after (d.Invariant a g) known new knows = knows
  knows_after (d.Lemma x) known new knows = knows
  knows_after (d.Txn h y) known new knows = knows
  knows_after (d.Proc h y) known new knows = knows

  procs_after : (k : DeclKind) (cs : Procedures) → IsNewIn names k → KnowsProcs (heads cs) names → KnowsProcs (heads (with_declared_procedure k cs)) names
  procs_after (d.Proc h y) cs new knows f = pick (bytes_eq h.name f) refl
    where
      x : Procedure
      x = record { head = h; body = y }

      pick : (t : Bool) → bytes_eq h.name f ≡ t → KnowsProcAt (names f) (option_map (λ z. z.head) (if t then Some x else cs f))
      pick true g = subst (λ z. KnowsProcAt z (Some h)) (sym (no_class_at h.name f new g)) tt
      pick false g = knows f
  procs_after (d.Pred who q ps a) cs new knows f = knows f
  procs_after (d.PredOn who q ps u a m s c) cs new knows f = knows f
  procs_after (d.Root x s y) cs new knows f = knows f
  procs_after (d.Invariant a g) cs new knows f = knows f
  procs_after (d.Lemma x) cs new knows f = knows f
  procs_after (d.Txn h y) cs new knows f = knows f

  -- later declarations change nothing of what the walk knows here
  later : (i : Bool) (xs : List Decl) (b : Before) (known : Table) (cs : Procedures) → AreSimple xs → Within names b.scope → decls i xs b ≡ nothing → Knows known names → KnowsProcs (heads cs) names
      → Knows (with_predicates known xs) names × KnowsProcs (heads (with_procedures cs xs)) names
  later i [] b known cs simple within e knows procs = (knows, procs)
  later i (x ∷ xs) b known cs simple within e knows procs =
      let parts = behind_none (decl_kind i x.kind x.spot b) (decls i xs (after_decl x.kind b)) e in
      let own = name_is_new i x.kind (All-head (λ z. is_simple z.kind ≡ true) x xs simple) x.spot b parts.0 in
      let new = new_within names b.scope within x.kind own in
      later i xs (after_decl x.kind b) (with_declaration x.kind known) (with_declared_procedure x.kind cs) (All-tail (λ z. is_simple z.kind ≡ true) x xs simple) (within_decl names b within x.kind) parts.1
      (knows_after x.kind known new knows) (procs_after x.kind cs new procs)

-- behind a declaration the walk knows its proc
proc_declared : (k : DeclKind) (b : Before) (cs : Procedures) → KnowsProcs (heads cs) b.scope → KnowsProcs (heads (with_declared_procedure k cs)) (after_decl k b).scope
proc_declared (d.Proc h y) b cs knows f = pick (bytes_eq h.name f)
  where
    x : Procedure
    x = record { head = h; body = y }

    pick : (t : Bool) → KnowsProcAt (if t then Some (c.Proc (signature h)) else b.scope f) (option_map (λ z. z.head) (if t then Some x else cs f))
    pick true = refl
    pick false = knows f
proc_declared (d.Root x s y) b cs knows f = procs_with_name (heads cs) b.scope x _ (λ o. tt) knows f
proc_declared (d.Invariant a g) b cs knows f = knows f
proc_declared (d.Pred who q ps a) b cs knows f = procs_with_name (heads cs) b.scope q _ (λ o. tt) knows f
proc_declared (d.PredOn who q ps u a m s c) b cs knows f = procs_with_name (heads cs) b.scope q _ (λ o. tt) knows f
proc_declared (d.Lemma x) b cs knows f = procs_with_name (heads cs) b.scope x.name _ (λ o. tt) knows f
proc_declared (d.Txn h y) b cs knows f = procs_with_name (heads cs) b.scope h.name _ (λ o. tt) knows f

pub procs_declared : (xs : List Decl) (b : Before) (cs : Procedures) → KnowsProcs (heads cs) b.scope → KnowsProcs (heads (with_procedures cs xs)) (after_decls xs b).scope
procs_declared [] b cs knows = knows
procs_declared (x ∷ xs) b cs knows = procs_declared xs (after_decl x.kind b) (with_declared_procedure x.kind cs) (proc_declared x.kind b cs knows)

-- ---- the laws

-- the walk of the declarations of a file
pub decls_walked : (file : Source1) → WellSorted file → decls (has_invariant file.decls) file.decls at_start ≡ nothing
decls_walked file sorted = (behind_none (decls (has_invariant file.decls) file.decls at_start) (main file.main (after_decls file.decls at_start)) sorted).0

-- What the walk knows among the declarations.
pub declarations_begin : DeclarationsBegin
declarations_begin file sorted simple before after all =
    let i = has_invariant file.decls in
    let b : Before = after_decls before at_start in
    let walks = walk_parts i before after at_start (subst (λ z. decls i z at_start ≡ nothing) all (decls_walked file sorted)) in
    let kinds = simple_parts before after (subst AreSimple all simple) in
    let known : Table = with_predicates (λ q. None) before in
    let cs : Procedures = with_procedures (λ f. None) before in
    let reached = all_reached (root_names file) i before at_start (λ q. None) kinds.0 (record { matches = λ x. (refl, refl); knows = λ q. tt; no_other = λ q e. refl }) walks.0 in
    let rest = later b.scope i after b known cs kinds.1 (λ y e. e) walks.1 reached.knows (procs_declared before at_start (λ f. None) (λ f. tt)) in (
      reached.matches,
      subst (λ z. Knows z b.scope) (sym (predicates_parts before after (λ q. None)) ∙ ap (with_predicates (λ q. None)) (sym all)) rest.0,
      subst (λ z. KnowsProcs (heads z) b.scope) (sym (callees_parts before after (λ f. None)) ∙ ap (with_procedures (λ f. None)) (sym all)) rest.1,
    )

module _ (f : List ℕ) (x : Procedure) where
  found : (xs : List Decl) (known : Procedures) → with_procedures known xs f ≡ Some x → (known f ≡ Some x) ⊎ Stands xs x.head x.body
  found [] known e = inl e
  found (z ∷ zs) known e = elim (found zs (with_declared_procedure z.kind known) e) [
    | inl g ↦ from z.kind refl g
    | inr s ↦ inr (record { before = z ∷ s.before; at = s.at; after = s.after; all = ap (λ q. z ∷ q) s.all; is = s.is })
  ]
    where
      from : (k : DeclKind) → z.kind ≡ k → with_declared_procedure k known f ≡ Some x → (known f ≡ Some x) ⊎ Stands (z ∷ zs) x.head x.body
      from (d.Proc h y) is g = pick (bytes_eq h.name f) g
        where
          it : Procedure
          it = record { head = h; body = y }

          pick : (t : Bool) → (if t then Some it else known f) ≡ Some x → (known f ≡ Some x) ⊎ Stands (z ∷ zs) x.head x.body
          pick true k =
              let same : it ≡ x = some_same it x k in
              inr (record { before = []; at = z; after = zs; all = refl; is = is ∙ (λ j. d.Proc (same j).head (same j).body) })
          pick false k = inl k
      from _ is g = inl g

-- Procedures are declarations.
pub procedures_stand : ProceduresStand
procedures_stand decls f x e = elim (found f x decls (λ g. None) e) [ inl never ↦ cc | inr s ↦ s ]
