-- A proof in which the walk over names and sorts refuses nothing is in order.
use Rattle.std.proofs.Common.{◌≡◌, ℕ, Bool, true, false, cond, ◌&&◌, is_none, List, [], ◌∷◌, map, Option, Some, None, refl, sym, ◌∙◌, ap, subst}
use Rattle.std.specs.Prelude.{bytes_eq}
use Rattle.std.specs.List.{list_all}
use Rattle.tht_tree.specs.declared.plain.Spot.{Spot}
use Rattle.tht_tree.specs.declared.plain.Sort.{Sort}
use Rattle.tht_tree.specs.declared.plain.Sort.TheVariants as sort
use Rattle.tht_tree.specs.declared.proof.Proof.{Proof, roll-Proof, fold_out-Proof, ind-Proof}
use Rattle.tht_tree.specs.declared.proof.LinEntry.{LinEntry, roll-LinEntry, fold-roll-LinEntry}
use Rattle.tht_tree.specs.declared.proof.ProofKind.{ProofKind, roll-ProofKind, map-ProofKind, fold-roll-ProofKind}
use Rattle.tht_tree.specs.declared.proof.ProofKind.TheOpen as p
use Rattle.tht_tree.specs.declared.state.Local.TheVariants as local
use Rattle.tht_tree.specs.declared.term.Term.{Term}
use Rattle.tht_tree.specs.declared.walk.Class.{Class}
use Rattle.tht_tree.specs.declared.walk.Class.TheVariants as c
use Rattle.tht_tree.specs.declared.walk.WalkCode.{WalkCode}
use Rattle.tht_tree.specs.declared.walk.WalkCode.TheVariants.{N2}
use Rattle.tht_tree.specs.declared.walk.WalkRefusal.{WalkRefusal}
use Rattle.tht_tree.specs.Syntax.{Names, position}
use Rattle.tht_tree.specs.Rules.Context.{Scope, with_local}
use Rattle.tht_tree.specs.Rules.Scoping.{is_of}
use Rattle.tht_tree.specs.Walk.Codes.{first, first_of, construct, ◌▸◌, in_order}
use Rattle.tht_tree.specs.Walk.Names as walk
use Rattle.tht_tree.specs.Walk.Names.{Walk, with_variable, with_hypothesis, new_name}
use Rattle.tht_tree.specs.Walk.Terms.{term_of, formula, lemma}
use Rattle.tht_tree.specs.Walk.Proofs as w
use Rattle.tht_tree.proofs.SameTerm.{bytes_eq-true}
use Rattle.proof_laws.specs.Scoped.{InScope, Signatures, is_new, term_in, formula_in, behind, scoped_at, is_scoped, kind_scoped, entry_scoped}
use Rattle.proof_laws.specs.Walked.{MatchesAt, Matches, ArgumentsFit, WalkedProofsAreScoped}
use Rattle.proof_laws.proofs.TermSorts.{same_sort-refl}
use Rattle.proof_laws.proofs.Levels.{scoped_level, scoped_is, kind_scoped_is, entry_scoped_is}
use Rattle.proof_laws.proofs.WalkedTerms.{no_walk_code, first_none, unless_none, walked_term}

-- ---- where nothing is refused

abbrev nothing : Option WalkRefusal
nothing = None

construct_none : (spot : Spot) (code : Option WalkCode) (inside : Option WalkRefusal) → construct spot code inside ≡ nothing → (code ≡ no_walk_code) × (inside ≡ nothing)
construct_none spot None inside e = (refl, e)
construct_none spot (Some code) inside e = cc

behind_none : (a b : Option WalkRefusal) → (a ▸ b) ≡ nothing → (a ≡ nothing) × (b ≡ nothing)
behind_none None b e = (refl, e)
behind_none (Some a) b e = cc

first_of_none : (x : Option WalkCode) (xs : List (Option WalkCode)) → first_of (x ∷ xs) ≡ no_walk_code → (x ≡ no_walk_code) × (first_of xs ≡ no_walk_code)
first_of_none x [] e = (e, refl)
first_of_none x (y ∷ ys) e = first_none x (first_of (y ∷ ys)) e

both : (a b : Bool) → a ≡ true → b ≡ true → (a && b) ≡ true
both a b e g = λ i. e i && g i

-- ---- scopes

no_name : (o : Option Class) → is_none o ≡ true → o ≡ None
no_name None e = refl
no_name (Some x) e = cc

module _ (roots : Names) where
  unknown : (names : walk.Scope) (scope : Scope) → Matches roots names scope → (x : List ℕ) → new_name names x ≡ no_walk_code → (scope x ≡ None) × (position 0 roots x ≡ None)
  unknown names scope m x e = subst (λ k. MatchesAt k (scope x) (position 0 roots x)) (no_name (names x) (unless_none (is_none (names x)) N2 e)) (m x)

  with_hyp_matches : (names : walk.Scope) (scope : Scope) → Matches roots names scope → (h : List ℕ) → new_name names h ≡ no_walk_code → Matches roots (with_hypothesis names h) (with_local scope h local.Hypothesis)
  with_hyp_matches names scope m h e x = by (bytes_eq h x) refl
    where
      by : (t : Bool) → bytes_eq h x ≡ t → MatchesAt (cond t (Some c.Hypothesis) (names x)) (cond t (Some local.Hypothesis) (scope x)) (position 0 roots x)
      by true g = (refl, ap (position 0 roots) (sym (bytes_eq-true h x g)) ∙ (unknown names scope m h e).1)
      by false g = m x

  with_variable_matches : (names : walk.Scope) (scope : Scope) → Matches roots names scope → (y : List ℕ) (s : Sort) → new_name names y ≡ no_walk_code → Matches roots (with_variable names y s) (with_local scope y (local.Variable s))
  with_variable_matches names scope m y s e x = by (bytes_eq y x) refl
    where
      by : (t : Bool) → bytes_eq y x ≡ t → MatchesAt (cond t (Some (c.Logic s)) (names x)) (cond t (Some (local.Variable s)) (scope x)) (position 0 roots x)
      by true g = (refl, ap (position 0 roots) (sym (bytes_eq-true y x g)) ∙ (unknown names scope m y e).1)
      by false g = m x

  module _ (fits : Signatures) where
    new_walked : (names : walk.Scope) (scope : Scope) → Matches roots names scope → (x : List ℕ) → new_name names x ≡ no_walk_code → is_new roots fits scope x ≡ true
    new_walked names scope m x e = let gone = unknown names scope m x e in both (is_none (scope x)) (is_none (position 0 roots x)) (ap is_none gone.0) (ap is_none gone.1)

    term_walked : (names : walk.Scope) (scope : Scope) → Matches roots names scope → (s : Sort) (u : Term) → term_of names s u ≡ no_walk_code → term_in roots fits scope s u ≡ true
    term_walked names scope m s u e = ap (is_of s) (walked_term roots names scope m s u e) ∙ same_sort-refl s

    -- what the walk says of a proof, and whether it is in order
    abbrev Walked : Walk → InScope → Type 0
    Walked q s = (names : walk.Scope) (scope : Scope) → Matches roots names scope → q names ≡ nothing → s scope ≡ true

    behind_walked : (q : Walk) (s : InScope) → Walked q s → (names : walk.Scope) (scope : Scope) → Matches roots names scope → (h : List ℕ) → new_name names h ≡ no_walk_code → q (with_hypothesis names h) ≡ nothing →
        behind roots fits scope h s ≡ true
    behind_walked q s walked names scope m h new e =
        both (is_new roots fits scope h) (s (with_local scope h local.Hypothesis)) (new_walked names scope m h new)
        (walked (with_hypothesis names h) (with_local scope h local.Hypothesis) (with_hyp_matches names scope m h new) e)

-- ---- the forms

module _ (roots : Names) (fits : Signatures) (arguments : ArgumentsFit roots fits) where
  abbrev Good : Walk → InScope → Type 0
  Good = Walked roots fits

  abbrev KindWalked : ProofKind → Type 0
  KindWalked k = (spot : Spot) → Good (w.proof_kind k spot) (kind_scoped roots fits k)

  abbrev EntryWalked : LinEntry → Type 0
  EntryWalked e = (names : walk.Scope) (scope : Scope) → Matches roots names scope → (w.entry e).fact names ≡ no_walk_code → (w.entry e).proof names ≡ nothing → entry_scoped roots fits e scope ≡ true

  abbrev ProofWalked : Proof → Type 0
  ProofWalked q = Good (w.proof q) (is_scoped roots fits q)

  abbrev Kinds : Type 0
  Kinds = (k : ProofKind) × KindWalked k

  abbrev Entries : Type 0
  Entries = (x : LinEntry) × EntryWalked x

  abbrev Proofs : Type 0
  Proofs = (q : Proof) × ProofWalked q

  abbrev walked_level : p.ProofKind-F ProofKind LinEntry Proof → p.ProofKind-F (Spot → Walk) w.Entry Walk
  walked_level = map-ProofKind ProofKind LinEntry Proof (Spot → Walk) w.Entry Walk w.proof_kind w.entry w.proof

  abbrev IsLevel : p.ProofKind-F ProofKind LinEntry Proof → Type 0
  IsLevel x = (spot : Spot) → Good (w.proof_at (walked_level x) spot) (scoped_at roots fits (scoped_level roots fits x))

  abbrev is : Proof → InScope
  is = is_scoped roots fits

  abbrev term_ok : (names : walk.Scope) (scope : Scope) → Matches roots names scope → (s : Sort) (u : Term) → term_of names s u ≡ no_walk_code → term_in roots fits scope s u ≡ true
  term_ok = term_walked roots fits

  -- a formula, and a proof; a formula, and two proofs; two proofs
  formula_and : (u : Term) (q : Proofs) (spot : Spot) → Good (λ names. construct spot (formula names u) (w.proof q.0 names)) (λ scope. formula_in roots fits scope u && is q.0 scope)
  formula_and u q spot names scope m e =
      let parts = construct_none spot (formula names u) (w.proof q.0 names) e in
      both (formula_in roots fits scope u) (is q.0 scope) (term_ok names scope m sort.Bool u parts.0) (q.1 names scope m parts.1)

  two_proofs : (q r : Proofs) → Good (λ names. w.proof q.0 names ▸ w.proof r.0 names) (λ scope. is q.0 scope && is r.0 scope)
  two_proofs q r names scope m e =
      let parts = behind_none (w.proof q.0 names) (w.proof r.0 names) e in
      both (is q.0 scope) (is r.0 scope) (q.1 names scope m parts.0) (r.1 names scope m parts.1)

  formula_and_two : (u : Term) (q r : Proofs) (spot : Spot) → Good (λ names. construct spot (formula names u) (w.proof q.0 names ▸ w.proof r.0 names)) (λ scope. formula_in roots fits scope u && is q.0 scope && is r.0 scope)
  formula_and_two u q r spot names scope m e =
      let parts = construct_none spot (formula names u) (w.proof q.0 names ▸ w.proof r.0 names) e in
      let proofs = behind_none (w.proof q.0 names) (w.proof r.0 names) parts.1 in
      both (formula_in roots fits scope u && is q.0 scope) (is r.0 scope)
      (both (formula_in roots fits scope u) (is q.0 scope) (term_ok names scope m sort.Bool u parts.0) (q.1 names scope m proofs.0))
      (r.1 names scope m proofs.1)

  terms_and : (s : Sort) (u v : Term) (q : Proofs) (spot : Spot) → Good (λ names. construct spot (first (term_of names s u) (term_of names s v)) (w.proof q.0 names)) (λ scope. term_in roots fits scope s u && term_in roots fits scope s v && is q.0 scope)
  terms_and s u v q spot names scope m e =
      let parts = construct_none spot (first (term_of names s u) (term_of names s v)) (w.proof q.0 names) e in
      let terms = first_none (term_of names s u) (term_of names s v) parts.0 in
      both (term_in roots fits scope s u && term_in roots fits scope s v) (is q.0 scope)
      (both (term_in roots fits scope s u) (term_in roots fits scope s v) (term_ok names scope m s u terms.0) (term_ok names scope m s v terms.1))
      (q.1 names scope m parts.1)

  entries : (es : List Entries) (names : walk.Scope) (scope : Scope) → Matches roots names scope → first_of (map (λ e. e.fact names) (map w.entry (map (λ x. x.0) es))) ≡ no_walk_code →
      in_order (map (λ e. e.proof names) (map w.entry (map (λ x. x.0) es))) ≡ nothing → list_all (λ s. s scope) (map (entry_scoped roots fits) (map (λ x. x.0) es)) ≡ true
  entries [] names scope m e g = refl
  entries (x ∷ es) names scope m e g =
      let facts = first_of_none ((w.entry x.0).fact names) (map (λ z. z.fact names) (map w.entry (map (λ z. z.0) es))) e in
      let proofs = behind_none ((w.entry x.0).proof names) (in_order (map (λ z. z.proof names) (map w.entry (map (λ z. z.0) es)))) g in
      both (entry_scoped roots fits x.0 scope) (list_all (λ s. s scope) (map (entry_scoped roots fits) (map (λ z. z.0) es)))
      (x.1 names scope m facts.0 proofs.0) (entries es names scope m facts.1 proofs.1)

  level : (y : p.ProofKind-F Kinds Entries Proofs) → IsLevel (map-ProofKind Kinds Entries Proofs ProofKind LinEntry Proof (λ x. x.0) (λ x. x.0) (λ x. x.0) y)
  level (p.Recast u q) spot names scope m e = formula_and u q spot names scope m e
  level (p.Sym q) spot names scope m e = q.1 names scope m e
  level (p.Both q r) spot names scope m e = two_proofs q r names scope m e
  level (p.Subst x s u a b q r) spot names scope m e =
      let inner = with_variable names x s in
      let terms = first_of (first (new_name names x) (formula inner u) ∷ term_of names s a ∷ term_of names s b ∷ []) in
      let parts = construct_none spot terms (w.proof q.0 names ▸ w.proof r.0 names) e in
      let proofs = behind_none (w.proof q.0 names) (w.proof r.0 names) parts.1 in
      let own = first_none (first (new_name names x) (formula inner u)) (first (term_of names s a) (term_of names s b)) parts.0 in
      let bound = first_none (new_name names x) (formula inner u) own.0 in
      let sides = first_none (term_of names s a) (term_of names s b) own.1 in
      let new = is_new roots fits scope x in
      let body = formula_in roots fits (with_local scope x (local.Variable s)) u in
      let left = term_in roots fits scope s a in
      let right = term_in roots fits scope s b in
      both (new && body && left && right && is q.0 scope) (is r.0 scope)
      (both (new && body && left && right) (is q.0 scope)
      (both (new && body && left) right
      (both (new && body) left
      (both new body (new_walked roots fits names scope m x bound.0)
      (term_ok inner (with_local scope x (local.Variable s)) (with_variable_matches roots names scope m x s bound.0) sort.Bool u bound.1))
      (term_ok names scope m s a sides.0))
      (term_ok names scope m s b sides.1))
      (q.1 names scope m proofs.0))
      (r.1 names scope m proofs.1)
  level (p.Pair q r) spot names scope m e = two_proofs q r names scope m e
  level (p.Fst u q) spot names scope m e = formula_and u q spot names scope m e
  level (p.Snd u q) spot names scope m e = formula_and u q spot names scope m e
  level (p.Inl q) spot names scope m e = q.1 names scope m e
  level (p.Inr q) spot names scope m e = q.1 names scope m e
  level (p.Cases u q h r g t) spot names scope m e =
      let own = first_of (formula names u ∷ new_name names h ∷ new_name names g ∷ []) in
      let parts = construct_none spot own (w.proof q.0 names ▸ w.proof r.0 (with_hypothesis names h) ▸ w.proof t.0 (with_hypothesis names g)) e in
      let first_part = behind_none (w.proof q.0 names) (w.proof r.0 (with_hypothesis names h) ▸ w.proof t.0 (with_hypothesis names g)) parts.1 in
      let cases = behind_none (w.proof r.0 (with_hypothesis names h)) (w.proof t.0 (with_hypothesis names g)) first_part.1 in
      let tests = first_none (formula names u) (first (new_name names h) (new_name names g)) parts.0 in
      let bound = first_none (new_name names h) (new_name names g) tests.1 in
      let whole = formula_in roots fits scope u in
      let one = behind roots fits scope h (is r.0) in
      let two = behind roots fits scope g (is t.0) in
      both (whole && is q.0 scope && one) two
      (both (whole && is q.0 scope) one
      (both whole (is q.0 scope) (term_ok names scope m sort.Bool u tests.0) (q.1 names scope m first_part.0))
      (behind_walked roots fits (w.proof r.0) (is r.0) r.1 names scope m h bound.0 cases.0))
      (behind_walked roots fits (w.proof t.0) (is t.0) t.1 names scope m g bound.1 cases.1)
  level (p.Fun h q) spot names scope m e =
      let parts = construct_none spot (new_name names h) (w.proof q.0 (with_hypothesis names h)) e in
      behind_walked roots fits (w.proof q.0) (is q.0) q.1 names scope m h parts.0 parts.1
  level (p.App u q r) spot names scope m e = formula_and_two u q r spot names scope m e
  level (p.Neg u q r) spot names scope m e = formula_and_two u q r spot names scope m e
  level (p.Absurd q) spot names scope m e = q.1 names scope m e
  level (p.Em u h q g r) spot names scope m e =
      let own = first_of (formula names u ∷ new_name names h ∷ new_name names g ∷ []) in
      let parts = construct_none spot own (w.proof q.0 (with_hypothesis names h) ▸ w.proof r.0 (with_hypothesis names g)) e in
      let cases = behind_none (w.proof q.0 (with_hypothesis names h)) (w.proof r.0 (with_hypothesis names g)) parts.1 in
      let tests = first_none (formula names u) (first (new_name names h) (new_name names g)) parts.0 in
      let bound = first_none (new_name names h) (new_name names g) tests.1 in
      let whole = formula_in roots fits scope u in
      let one = behind roots fits scope h (is q.0) in
      both (whole && one) (behind roots fits scope g (is r.0))
      (both whole one (term_ok names scope m sort.Bool u tests.0) (behind_walked roots fits (w.proof q.0) (is q.0) q.1 names scope m h bound.0 cases.0))
      (behind_walked roots fits (w.proof r.0) (is r.0) r.1 names scope m g bound.1 cases.1)
  level (p.Lin k es) spot names scope m e =
      let all = map w.entry (map (λ x. x.0) es) in
      let parts = construct_none spot (first_of (map (λ z. z.fact names) all)) (in_order (map (λ z. z.proof names) all)) e in
      entries es names scope m parts.0 parts.1
  level (p.Monus q) spot names scope m e = q.1 names scope m e
  level (p.Head u v q) spot names scope m e = terms_and sort.Seq u v q spot names scope m e
  level (p.Tail x y q) spot names scope m e = terms_and sort.Nat x y q spot names scope m e
  level (p.Lemma l ts q) spot names scope m e =
      let parts = construct_none spot (lemma names l ts) (w.proof q.0 names) e in
      both (fits scope l ts) (is q.0 scope) (arguments names scope m l ts parts.0) (q.1 names scope m parts.1)
  level _ spot names scope m e = refl

  -- ---- whole proofs

  carried : (q r : Walk) (s u : InScope) → q ≡ r → s ≡ u → Good r u → Good q s
  carried q r s u e g good = subst (λ z. Good z s) (sym e) (subst (Good r) (sym g) good)

  walk_kind_is : (x : p.ProofKind-F ProofKind LinEntry Proof) → w.proof_kind (roll-ProofKind x) ≡ w.proof_at (walked_level x)
  unfolding w.proof w.proof_kind w.entry
  walk_kind_is x = fold-roll-ProofKind (Spot → Walk) w.Entry Walk w.proof_at w.entry_at w.spotted_proof x

  walk_entry_is : (x : p.LinEntry-F ProofKind LinEntry Proof) → w.entry (roll-LinEntry x) ≡ record { fact = λ names. formula names x.fact; proof = w.proof x.proof }
  unfolding w.proof w.proof_kind w.entry
  walk_entry_is x = fold-roll-LinEntry (Spot → Walk) w.Entry Walk w.proof_at w.entry_at w.spotted_proof x

  walk_is : (q : Proof) → w.proof q ≡ w.proof_kind q.kind q.spot
  unfolding w.proof w.proof_kind
  walk_is q = fold_out-Proof (Spot → Walk) w.Entry Walk w.proof_at w.entry_at w.spotted_proof q

  kind_step : (x : p.ProofKind-F ProofKind LinEntry Proof) (y : p.ProofKind-F Kinds Entries Proofs) → map-ProofKind Kinds Entries Proofs ProofKind LinEntry Proof (λ z. z.0) (λ z. z.0) (λ z. z.0) y ≡ x → KindWalked (roll-ProofKind x)
  kind_step x y e = λ spot. carried (w.proof_kind (roll-ProofKind x) spot) (w.proof_at (walked_level x) spot) (kind_scoped roots fits (roll-ProofKind x)) (scoped_at roots fits (scoped_level roots fits x))
      (ap (λ g. g spot) (walk_kind_is x)) (kind_scoped_is roots fits x) (subst IsLevel e (level y) spot)

  entry_step : (x : p.LinEntry-F ProofKind LinEntry Proof) → ProofWalked x.proof → EntryWalked (roll-LinEntry x)
  entry_step x walked names scope m e g =
      ap (λ s. s scope) (entry_scoped_is roots fits x)
      ∙ both (formula_in roots fits scope x.fact) (is x.proof scope)
      (term_ok names scope m sort.Bool x.fact (sym (ap (λ z. z.fact names) (walk_entry_is x)) ∙ e))
      (walked names scope m (sym (ap (λ z. z.proof names) (walk_entry_is x)) ∙ g))

  proof_step : (q : Proof) → KindWalked q.kind → ProofWalked q
  proof_step q walked = carried (w.proof q) (w.proof_kind q.kind q.spot) (is_scoped roots fits q) (kind_scoped roots fits q.kind) (walk_is q) (scoped_is roots fits q) (walked q.spot)

  all_walked : (q : Proof) → ProofWalked q
  all_walked = ind-Proof KindWalked EntryWalked ProofWalked kind_step
      (λ x y e. entry_step x (subst (λ (z : p.LinEntry-F ProofKind LinEntry Proof). ProofWalked z.proof) e y.proof.1))
      (λ x y e. proof_step (roll-Proof x) (subst (λ (z : p.Proof-F ProofKind LinEntry Proof). KindWalked z.kind) e y.kind.1))

-- The law.
pub walked_proofs_are_scoped : WalkedProofsAreScoped
walked_proofs_are_scoped roots fits arguments q names scope m e = all_walked roots fits arguments q names scope m e
