-- The predicates of a file are defined by earlier ones, where the walk over names and sorts refuses nothing: by induction over its declarations.
use Rattle.std.proofs.Common.{◌≡◌, ◌⊎◌, ℕ, Bool, true, false, List, [], ◌∷◌, Option, Some, None, refl, sym, ◌∙◌, ap, subst, inl, inr}
use Rattle.std.proofs.lemmas.List.Elements.{All-head, All-tail}
use Rattle.std.proofs.Math.Path.{transport}
use Rattle.std.specs.Prelude.{bytes_eq, if◌then◌else◌}
use Rattle.tht_tree.specs.declared.plain.Sort.{Sort}
use Rattle.tht_tree.specs.declared.plain.Spot.{Spot}
use Rattle.tht_tree.specs.declared.assn.Assn.{Assn}
use Rattle.tht_tree.specs.declared.decl.Access.{Access}
use Rattle.tht_tree.specs.declared.decl.Param.{Param}
use Rattle.tht_tree.specs.declared.decl.Head.{Head}
use Rattle.tht_tree.specs.declared.decl.Lemma.{Lemma}
use Rattle.tht_tree.specs.declared.decl.Decl.{Decl}
use Rattle.tht_tree.specs.declared.decl.DeclKind.{DeclKind}
use Rattle.tht_tree.specs.declared.decl.DeclKind.TheVariants as d
use Rattle.tht_tree.specs.declared.state.Local.TheVariants.{Variable}
use Rattle.tht_tree.specs.declared.walk.Class.{Class}
use Rattle.tht_tree.specs.declared.walk.Class.TheVariants as c
use Rattle.tht_tree.specs.declared.walk.Naming.TheVariants.{Anywhere, Nowhere}
use Rattle.tht_tree.specs.declared.walk.Where.TheVariants.{Outside, Inside}
use Rattle.tht_tree.specs.declared.walk.WalkCode.TheVariants.{N2}
use Rattle.tht_tree.specs.Syntax.{Names, position}
use Rattle.tht_tree.specs.Rules.Context.{no_locals}
use Rattle.tht_tree.specs.Walk.Codes.{first as walk_first, first_of}
use Rattle.tht_tree.specs.Walk.Names as walk
use Rattle.tht_tree.specs.Walk.Names.{with_name, with_params, new_name, new_params, param_sorts}
use Rattle.tht_tree.specs.Walk.Kinds.{of_access, private_only}
use Rattle.tht_tree.specs.Walk.Assns as w
use Rattle.tht_tree.specs.Walk.Bodies.{frame, body, result_box, private_box}
use Rattle.tht_tree.specs.Walk.Decls.{Before, with_logic, new_logic, with_predicate, with_lemma, in_lemma, with_txn, with_proc, in_command, head_code, case_names, pred_code, lemma_code, lemma_bodies, txn_code, proc_code, definition, decl_kind, after_decl, signature}
use Rattle.tht_tree.specs.Walk.Files.{decls, after_decls}
use Rattle.tht_tree.proofs.SameTerm.{bytes_eq-true}
use Rattle.proof_laws.specs.Walked.{MatchesAt, Matches}
use Rattle.proof_laws.proofs.WalkedTerms.{no_walk_code, first_none, unless_none}
use Rattle.tht_logic.specs.Rules.Definitions.{one_case, with_declaration, with_predicates}
use Rattle.tht_logic.specs.Rules.Definitions as defs
use Rattle.tht_logic.specs.Rules.Scoped.{Table}
use Rattle.assn_laws.specs.Walked.{KnowsAt, Knows, is_simple, AreSimple}
use Rattle.assn_laws.proofs.Predicates.{param_scope, IsDefinedByEarlier, AreDefinedByEarlier}
use Rattle.assn_laws.proofs.Refusing.{nothing, construct_none, behind_none, first_of_none, no_class}
use Rattle.assn_laws.proofs.WalkedNames.{unknown}
use Rattle.assn_laws.proofs.WalkedAssns.{walked_assertions_are_in_order}

pub new_to_walk : (names : walk.Scope) (x : List ℕ) → new_name names x ≡ no_walk_code → names x ≡ None
new_to_walk names x e = no_class (names x) (unless_none _ N2 e)

-- ---- parameters

-- behind the parameters a name is what it was, or one of them and new before
abbrev Kept : List Param → walk.Scope → List ℕ → Type 0
Kept ps names y = (param_scope ps y ≡ None) × (with_params c.Logic names ps y ≡ names y)

abbrev Bound : List Param → walk.Scope → List ℕ → Type 0
Bound ps names y = (s : Sort) × (param_scope ps y ≡ Some (Variable s)) × (with_params c.Logic names ps y ≡ Some (c.Logic s)) × (names y ≡ None)

params_tell : (ps : List Param) (names : walk.Scope) (y : List ℕ) → new_params c.Logic names ps ≡ no_walk_code → Kept ps names y ⊎ Bound ps names y
params_tell [] names y e = inl (refl, refl)
params_tell (p ∷ ps) names y e =
    pick (bytes_eq p.name y) refl (params_tell ps inner y parts.1)
  where
    inner : walk.Scope
    inner = with_name names p.name (c.Logic p.sort)

    parts : (new_name names p.name ≡ no_walk_code) × (new_params c.Logic inner ps ≡ no_walk_code)
    parts = first_none (new_name names p.name) (new_params c.Logic inner ps) e

    after : Option Class
    after = with_params c.Logic inner ps y

    pick : (t : Bool) → bytes_eq p.name y ≡ t
        → ((param_scope ps y ≡ None) × (after ≡ (if t then Some (c.Logic p.sort) else names y)))
        ⊎ ((s : Sort) × (param_scope ps y ≡ Some (Variable s)) × (after ≡ Some (c.Logic s)) × ((if t then Some (c.Logic p.sort) else names y) ≡ None))
        → (((if t then Some (Variable p.sort) else param_scope ps y) ≡ None) × (after ≡ names y))
        ⊎ ((s : Sort) × ((if t then Some (Variable p.sort) else param_scope ps y) ≡ Some (Variable s)) × (after ≡ Some (c.Logic s)) × (names y ≡ None))
    pick true g (inl k) = inr (p.sort, refl, k.1, ap names (sym (bytes_eq-true p.name y g)) ∙ new_to_walk names p.name parts.0)
    pick true g (inr k) = let n = k.3 in cc
    pick false g k = k

module _ (roots : Names) where
  module _ (names : walk.Scope) (m : Matches roots names no_locals) (ps : List Param) (e : new_params c.Logic names ps ≡ no_walk_code) where
    params_match : Matches roots (with_params c.Logic names ps) (param_scope ps)
    params_match y = elim (params_tell ps names y e) [
      | inl k ↦ transport (λ i. MatchesAt (sym k.1 i) (sym k.0 i) (position 0 roots y)) (m y)
      | inr k ↦ transport (λ i. MatchesAt (sym k.2 i) (sym k.1 i) (position 0 roots y)) (refl, (subst (λ z. MatchesAt z None (position 0 roots y)) k.3 (m y)).1)
    ]

    params_known : (known : Table) → Knows known names → Knows known (with_params c.Logic names ps)
    params_known known knows y = elim (params_tell ps names y e) [
      | inl k ↦ subst (λ z. KnowsAt z (known y)) (sym k.1) (knows y)
      | inr k ↦ subst (λ z. KnowsAt z (known y)) (sym k.2) tt
    ]

  -- ---- what the walk knows before a declaration

  -- a name that is new to the walk is new to the table of the declarations in front
  abbrev pub KnowsNoOther : Table → walk.Scope → Type 0
  KnowsNoOther known names = (q : List ℕ) → names q ≡ None → known q ≡ None

  pub record Reached (known : Table) (names : walk.Scope) : Type 0 where
    pub matches : Matches roots names no_locals
    pub knows : Knows known names
    pub no_other : KnowsNoOther known names

  module _ (known : Table) (names : walk.Scope) (at : Reached known names) (q : List ℕ) (new : new_name names q ≡ no_walk_code) where
    -- the name of a declaration that is no variable, no hypothesis and no root
    matches_with : (k : Class) → ((r : Option ℕ) → r ≡ None → MatchesAt (Some k) None r) → Matches roots (with_name names q k) no_locals
    matches_with k f y = pick (bytes_eq q y) refl
      where
        pick : (t : Bool) → bytes_eq q y ≡ t → MatchesAt (if t then Some k else names y) None (position 0 roots y)
        pick true g = f (position 0 roots y) (ap (position 0 roots) (sym (bytes_eq-true q y g)) ∙ (unknown roots names no_locals at.matches q new).1)
        pick false g = at.matches y

    knows_with : (k : Class) → ((x : _) → KnowsAt (Some k) x) → Knows known (with_name names q k)
    knows_with k f y = pick (bytes_eq q y)
      where
        pick : (t : Bool) → KnowsAt (if t then Some k else names y) (known y)
        pick true = f (known y)
        pick false = at.knows y

    no_other_with : (k : Class) → KnowsNoOther known (with_name names q k)
    no_other_with k y = pick (bytes_eq q y)
      where
        pick : (t : Bool) → (if t then Some k else names y) ≡ None → known y ≡ None
        pick true g = cc
        pick false g = at.no_other y g

    reached_with : (k : Class) → ((r : Option ℕ) → r ≡ None → MatchesAt (Some k) None r) → ((x : _) → KnowsAt (Some k) x) → Reached known (with_name names q k)
    reached_with k f g = record { matches = matches_with k f; knows = knows_with k g; no_other = no_other_with k }

    not_known : known q ≡ None
    not_known = at.no_other q (new_to_walk names q new)

    module _ (who : Access) (ps : List Param) (p : Assn) where
      knows_predicate : Knows (defs.with_predicate q (one_case ps p) known) (with_predicate names who q ps Anywhere)
      knows_predicate y = pick (bytes_eq q y)
        where
          pick : (t : Bool) → KnowsAt (if t then Some (c.Predicate who (param_sorts ps) Anywhere) else names y) (if t then Some (one_case ps p) else known y)
          pick true = refl
          pick false = at.knows y

      no_other_predicate : KnowsNoOther (defs.with_predicate q (one_case ps p) known) (with_predicate names who q ps Anywhere)
      no_other_predicate y = pick (bytes_eq q y)
        where
          pick : (t : Bool) → (if t then Some (c.Predicate who (param_sorts ps) Anywhere) else names y) ≡ None → (if t then Some (one_case ps p) else known y) ≡ None
          pick true g = cc
          pick false g = at.no_other y g

      reached_predicate : Reached (defs.with_predicate q (one_case ps p) known) (with_predicate names who q ps Anywhere)
      reached_predicate = record { matches = matches_with (c.Predicate who (param_sorts ps) Anywhere) (λ r e. (refl, e)); knows = knows_predicate; no_other = no_other_predicate }

      inside : Reached known (with_predicate names who q ps Nowhere)
      inside = reached_with (c.Predicate who (param_sorts ps) Nowhere) (λ r e. (refl, e)) (λ x. tt)

      is_defined : new_logic (with_predicate names who q ps Nowhere) ps ≡ no_walk_code → definition who (with_logic (with_predicate names who q ps Nowhere) ps) p ≡ no_walk_code → IsDefinedByEarlier roots known (d.Pred who q ps p)
      is_defined params body =
          let self : walk.Scope = with_predicate names who q ps Nowhere in
          let here : walk.Scope = with_logic self ps in (
            not_known,
            walked_assertions_are_in_order roots known here (param_scope ps) (params_match self inside.matches ps params) (params_known self inside.matches ps params known inside.knows) p
                (first_none (w.assn p here) (of_access who here p) body).0,
          )

  -- ---- declarations

  -- a declaration is defined by earlier ones, and then more is known
  abbrev Turns : Bool → DeclKind → Type 0
  Turns i k = (spot : Spot) (known : Table) (b : Before) → Reached known b.scope → decl_kind i k spot b ≡ nothing → IsDefinedByEarlier roots known k × Reached (with_declaration k known) (after_decl k b).scope

  pred_turns : (i : Bool) (who : Access) (q : List ℕ) (ps : List Param) (p : Assn) → Turns i (d.Pred who q ps p)
  pred_turns i who q ps p spot known b at e =
      let self : walk.Scope = with_predicate b.scope who q ps Nowhere in
      let code = (construct_none spot (pred_code who q ps p b.scope) nothing e).0 in
      let rest = first_of_none (new_name b.scope q) (new_logic self ps ∷ definition who (with_logic self ps) p ∷ []) code in
      let last = first_of_none (new_logic self ps) (definition who (with_logic self ps) p ∷ []) rest.1 in
      (is_defined known b.scope at q rest.0 who ps p last.0 last.1, reached_predicate known b.scope at q rest.0 who ps p)

  lemma_turns : (i : Bool) (x : Lemma) → Turns i (d.Lemma x)
  lemma_turns i x spot known b at e =
      let names = first_of (new_name b.scope x.name ∷ new_logic (with_lemma b.scope x Nowhere) x.params ∷ case_names x x.kind b.scope ∷ []) in
      let code = (construct_none x.spot (lemma_code x b.scope) (lemma_bodies x x.kind b.scope) e).0 in
      let own = (first_of_none names (w.assn x.pre (in_lemma x b.scope) ∷ w.assn x.post (in_lemma x b.scope) ∷ []) code).0 in
      let new = (first_of_none (new_name b.scope x.name) (new_logic (with_lemma b.scope x Nowhere) x.params ∷ case_names x x.kind b.scope ∷ []) own).0 in
      (tt, reached_with known b.scope at x.name new (c.Lemma (param_sorts x.params) Anywhere) (λ r f. (refl, f)) (λ z. tt))

  txn_turns : (i : Bool) (h : Head) (y : _) → Turns i (d.Txn h y)
  txn_turns i h y spot known b at e =
      let self = with_txn b.scope h in
      let code = (construct_none spot (txn_code h b.scope) (body y (frame Inside h.sort) (in_command h self)) e).0 in
      let new = (first_of_none (new_name b.scope h.name) (head_code h self ∷ result_box (in_command h self) h.result h.sort h.post ∷ []) code).0 in
      (tt, reached_with known b.scope at h.name new (c.Txn (signature h)) (λ r f. (refl, f)) (λ z. tt))

  proc_turns : (i : Bool) (h : Head) (y : _) → Turns i (d.Proc h y)
  proc_turns i h y spot known b at e =
      let self = with_proc b.scope h in
      let boxes = walk_first (private_only self h.pre) (private_box (in_command h self) h.result h.sort h.post) in
      let code = (construct_none spot (proc_code h b.scope) (body y (frame Outside h.sort) (in_command h self)) e).0 in
      let new = (first_of_none (new_name b.scope h.name) (head_code h self ∷ boxes ∷ []) code).0 in
      (tt, reached_with known b.scope at h.name new (c.Proc (signature h)) (λ r f. (refl, f)) (λ z. tt))

  kind_turns : (i : Bool) (k : DeclKind) → is_simple k ≡ true → Turns i k
  kind_turns i (d.Pred who q ps p) s = pred_turns i who q ps p
  kind_turns i (d.Invariant p g) s = λ spot known b at e. (tt, at)
  kind_turns i (d.Lemma x) s = lemma_turns i x
  kind_turns i (d.Txn h y) s = txn_turns i h y
  kind_turns i (d.Proc h y) s = proc_turns i h y
  kind_turns i (d.Root x r v) s = cc
  kind_turns i (d.PredOn who q ps x nil n t cons) s = cc

  pub all_defined : (i : Bool) (xs : List Decl) (b : Before) (known : Table) → AreSimple xs → Reached known b.scope → decls i xs b ≡ nothing → AreDefinedByEarlier roots known xs
  all_defined i [] b known simple at e = tt
  all_defined i (x ∷ xs) b known simple at e =
      let parts = behind_none (decl_kind i x.kind x.spot b) (decls i xs (after_decl x.kind b)) e in
      let one = kind_turns i x.kind (All-head (λ z. is_simple z.kind ≡ true) x xs simple) x.spot known b at parts.0 in
      (one.0, all_defined i xs (after_decl x.kind b) (with_declaration x.kind known) (All-tail (λ z. is_simple z.kind ≡ true) x xs simple) one.1 parts.1)

  -- and what the walk knows behind them
  pub all_reached : (i : Bool) (xs : List Decl) (b : Before) (known : Table) → AreSimple xs → Reached known b.scope → decls i xs b ≡ nothing → Reached (with_predicates known xs) (after_decls xs b).scope
  all_reached i [] b known simple at e = at
  all_reached i (x ∷ xs) b known simple at e =
      let parts = behind_none (decl_kind i x.kind x.spot b) (decls i xs (after_decl x.kind b)) e in
      let one = kind_turns i x.kind (All-head (λ z. is_simple z.kind ≡ true) x xs simple) x.spot known b at parts.0 in
      all_reached i xs (after_decl x.kind b) (with_declaration x.kind known) (All-tail (λ z. is_simple z.kind ≡ true) x xs simple) one.1 parts.1
