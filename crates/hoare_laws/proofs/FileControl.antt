-- The laws of results, `do` and cases at a place of a file: what the walk refuses nothing in is in order, and what the rules then accept is true of heaps.
use Rattle.std.proofs.Common.{◌≡◌, ◌⊎◌, ℕ, Bool, true, false, cond, List, [], ◌∷◌, Option, Some, None, Ok, refl, sym, ◌∙◌, ap, subst, inl, inr}
use Rattle.std.specs.Prelude.{bytes_eq}
use Rattle.tht_tree.specs.declared.assn.Assn.{Assn}
use Rattle.tht_tree.specs.declared.plain.Sort.{Sort}
use Rattle.tht_tree.specs.declared.plain.Sort.TheVariants as sort
use Rattle.tht_tree.specs.declared.plain.Spot.{Spot}
use Rattle.tht_tree.specs.declared.plain.Value.{Value}
use Rattle.tht_tree.specs.declared.proof.Proof.{Proof}
use Rattle.tht_tree.specs.declared.state.Local.{Local}
use Rattle.tht_tree.specs.declared.state.Local.TheVariants.{Variable, Hypothesis}
use Rattle.tht_tree.specs.declared.term.Term.{Term}
use Rattle.tht_tree.specs.declared.term.Term.TheVariants as term
use Rattle.tht_tree.specs.declared.walk.Class.{Class}
use Rattle.tht_tree.specs.declared.walk.Class.TheVariants as class
use Rattle.tht_tree.specs.Values.{Val, is, seq, Env, bind, a_nat, a_bool, has_sort}
use Rattle.tht_tree.specs.Syntax.{Names, position}
use Rattle.tht_tree.specs.Terms.{value}
use Rattle.tht_tree.specs.Heaps.{Heap, Joins}
use Rattle.tht_tree.specs.Rules.Context.{Context, Scope, with_local}
use Rattle.tht_tree.specs.Rules.Known.{with_hyp}
use Rattle.tht_tree.specs.Rules.Proofs.{prove}
use Rattle.tht_tree.specs.Rules.Refusals.{needs}
use Rattle.tht_tree.specs.Rules.Sizes.{formula_fits}
use Rattle.tht_tree.specs.declared.rule.RuleCode.TheVariants.{R10}
use Rattle.tht_tree.specs.Walk.Names as walk
use Rattle.tht_tree.specs.Walk.Names.{with_name, with_variable, with_hypothesis, with_parts, new_name, new_parts}
use Rattle.tht_tree.specs.Walk.Terms.{term_of, formula}
use Rattle.tht_tree.specs.Walk.Assns as assns
use Rattle.tht_tree.specs.Walk.Proofs as proofs
use Rattle.tht_logic.specs.Flatten.{with_assn, flatten}
use Rattle.tht_logic.specs.Satisfaction.{Meaning}
use Rattle.tht_logic.specs.Meanings.{meaning_in}
use Rattle.tht_logic.specs.Rules.Checking.{Checked, on_true, if_fits}
use Rattle.tht_logic.specs.Rules.Calls as rules
use Rattle.tht_logic.specs.Rules.Calls.{Dealt, dealt}
use Rattle.tht_logic.specs.Rules.Bodies.{assuming, sides, on_side}
use Rattle.tht_logic.specs.Rules.Definitions.{Declarations}
use Rattle.tht_logic.specs.Rules.Scoped.{instance_fits}
use Rattle.tht_logic.specs.Rules.Scoped as scoped
use Rattle.proof_laws.specs.Walked.{MatchesAt, Matches}
use Rattle.proof_laws.proofs.WalkedTerms.{no_walk_code, walked_term}
use Rattle.assn_laws.specs.AssertionLaws.{Holds}
use Rattle.assn_laws.specs.Laws.{IsModel, AreTyped, Premises}
use Rattle.assn_laws.specs.Walked.{Knows, any_fits}
use Rattle.assn_laws.specs.FileLaws.{IsReady, IsIn, proof_in}
use Rattle.assn_laws.specs.ControlLaws.{CallsAreSound, ResultsAreSound, DealsSplitHeaps, AssumptionsAreSound, FormulasAreTrueOrFalse, SidesAreSound, SequencesAreNilOrMore, NothingIsDead}
use Rattle.assn_laws.proofs.AddedAtoms.{added_scope}
use Rattle.assn_laws.proofs.Answers.{from_true}
use Rattle.assn_laws.proofs.FileLaw.{in_order, premises, result_matches}
use Rattle.assn_laws.proofs.Refusing.{nothing}
use Rattle.assn_laws.proofs.Scopes.{knows_with, from_fits}
use Rattle.assn_laws.proofs.WalkedAssns.{walked_assertions_are_in_order}
use Rattle.assn_laws.proofs.WalkedNames.{is_new, term_walked, hypothesis_matches, variable_matches}
use Rattle.proof_laws.proofs.TermSorts.{eq_makes, neg_makes}
use Rattle.tht_tree.specs.Rules.Scoping.{is_of, sort_of, sort_at}
use Rattle.tht_tree.proofs.TermFolds.{at-Nil}
use Rattle.hoare_laws.proofs.Places.{Setting}
use Rattle.hoare_laws.proofs.Swapping.{new_head, new_tail, new_behind, hypothesis_last}

-- the laws of assertions that are used here
pub record Control (decl : Declarations) (M : Meaning) : Type 0 where
  pub calls : CallsAreSound decl (proof_in decl) (instance_fits decl) any_fits M
  pub results : ResultsAreSound decl (proof_in decl) (instance_fits decl) any_fits M
  pub deals : DealsSplitHeaps decl (proof_in decl) (instance_fits decl) any_fits M
  pub assumptions : AssumptionsAreSound decl (proof_in decl) (instance_fits decl) any_fits M
  pub formulas : FormulasAreTrueOrFalse decl (proof_in decl) (instance_fits decl) any_fits
  pub sides : SidesAreSound decl (proof_in decl) (instance_fits decl) any_fits M
  pub sequences : SequencesAreNilOrMore decl (proof_in decl) (instance_fits decl) any_fits M
  pub dead : NothingIsDead decl (proof_in decl) (instance_fits decl) any_fits M

-- what fits has the scope that it had
pub fitting_scope : (spot : Spot) (p : Assn) (k next : Context) → if_fits spot (with_assn p k) ≡ Ok next → next.scope ≡ k.scope
fitting_scope spot p k next e = sym (ap (λ z. z.scope) (from_fits spot (with_assn p k) next e)) ∙ added_scope [] (λ scope q ts. true) (flatten p) k

assuming_scope : (spot : Spot) (c : Context) (n : List ℕ) (t : Term) (next : Context) → assuming spot c n t ≡ Ok next → next.scope ≡ with_local c.scope n Hypothesis
assuming_scope spot c n t next e =
    let fits = from_true spot R10 (formula_fits t) (if_fits spot (with_hyp c n t)) next e in
    sym (ap (λ z. z.scope) (from_fits spot (with_hyp c n t) next fits.1))

nil_sort : (roots : Names) (scope : Scope) → sort_of roots scope term.Nil ≡ Some sort.Seq
nil_sort roots scope = at-Nil (Option Sort) (sort_at roots scope)

module _ (at : Setting) (laws : Control at.decl (meaning_in at.file)) where
  abbrev decl : Declarations
  decl = at.decl

  abbrev roots : Names
  roots = decl.proofs.roots

  abbrev M : Meaning
  M = meaning_in at.file

  abbrev In : walk.Scope → Context → Env → Heap → Type 0
  In = IsIn at.file decl

  module _ (names : walk.Scope) (c : Context) (env : Env) (h : Heap) (here : In names c env h) where
    abbrev typed : AreTyped decl (proof_in decl) (instance_fits decl) any_fits
    typed = (premises at.file decl at.ready c env h here.state).typed

    -- a result, with a heap that satisfies the box beside the one here
    pub result_in : (next : Context) (spot : Spot) (x : List ℕ) (r : Sort) (box : Assn) → new_name names x ≡ no_walk_code → assns.assn box (walk.with_result names x r) ≡ no_walk_code
        → rules.with_result spot c x r box ≡ Ok next → (v : Value) → has_sort r v ≡ true → (q whole : Heap) → Holds M roots (bind env x (is v)) box q → Joins q h whole
        → In (walk.with_result names x r) next (bind env x (is v)) whole
    result_in next spot x r box new walked ok v sorted q whole holds joins =
        let scope : next.scope ≡ with_local c.scope x (Variable r) = fitting_scope spot box (record c { scope = with_local c.scope x (Variable r) }) next ok in
        let matches = result_matches roots x r names c.scope here.matches new in
        let knows = knows_with decl.predicates names x (class.Program r) (λ o. tt) here.knows in
        record {
          matches = subst (Matches roots (walk.with_result names x r)) (sym scope) matches;
          knows = knows;
          state = laws.results typed c next env h here.state spot x r box (is_new roots names c.scope here.matches x new)
              (walked_assertions_are_in_order roots decl.predicates (walk.with_result names x r) (with_local c.scope x (Variable r)) matches knows box walked) ok v sorted q whole holds joins;
        }

    -- the atoms that are dealt, and the frame
    pub dealt_in : (spot : Spot) (ns : List ℕ) (d : Dealt) → dealt spot ns c.atoms ≡ Ok d
        → (a f : Heap) × Joins a f h × In names (record c { atoms = d.given }) env a × In names (record c { atoms = d.frame }) env f
    dealt_in spot ns d ok =
        let law = laws.deals c env h here.state spot ns d ok in
        (law.0, law.1, law.2, record { matches = here.matches; knows = here.knows; state = law.3 }, record { matches = here.matches; knows = here.knows; state = law.4 })

    -- a formula that is true here
    pub assumed_in : (next : Context) (spot : Spot) (n : List ℕ) (t : Term) → new_name names n ≡ no_walk_code → scoped.is_formula roots c.scope t ≡ true → value roots env t ≡ a_bool true
        → assuming spot c n t ≡ Ok next → In (with_hypothesis names n) next env h
    assumed_in next spot n t new sorted holds ok =
        let scope : next.scope ≡ with_local c.scope n Hypothesis = assuming_scope spot c n t next ok in
        let state = laws.assumptions typed c next env h here.state spot n t (is_new roots names c.scope here.matches n new) sorted holds ok in
        record {
          matches = subst (Matches roots (with_hypothesis names n)) (sym scope) (hypothesis_matches roots names c.scope here.matches n new);
          knows = knows_with decl.predicates names n class.Hypothesis (λ o. tt) here.knows;
          state = state;
        }

    -- a formula is true here, or its negation is
    pub truth_in : (t : Term) → formula names t ≡ no_walk_code → (value roots env t ≡ a_bool true) ⊎ ((value roots env t ≡ a_bool false) × (value roots env (term.Not t) ≡ a_bool true))
    truth_in t walked = laws.formulas c env here.state.formed.no_root_hidden here.state.satisfied.sorts t (term_walked roots names c.scope here.matches sort.Bool t walked)

    -- the negation of a formula is one
    pub not_formula : (t : Term) → formula names t ≡ no_walk_code → scoped.is_formula roots c.scope (term.Not t) ≡ true
    not_formula t walked = ap (is_of sort.Bool) (neg_makes roots c.scope t (walked_term roots names c.scope here.matches sort.Bool t walked))

    -- one side of an `either`
    pub side_in : (left right : Context) (spot : Spot) (i : ℕ) (p : Assn × Assn) → sides spot c i ≡ Ok p → on_side spot c i p.0 ≡ Ok left → on_side spot c i p.1 ≡ Ok right
        → In names left env h ⊎ In names right env h
    side_in left right spot i p ok on_left on_right =
        let law = laws.sides typed c left right env h here.state spot i p ok on_left on_right in
        elim law [
          | inl s ↦ inl (record { matches = subst (Matches roots names) (sym (fitting_scope spot p.0 _ left on_left)) here.matches; knows = here.knows; state = s })
          | inr s ↦ inr (record { matches = subst (Matches roots names) (sym (fitting_scope spot p.1 _ right on_right)) here.matches; knows = here.knows; state = s })
        ]

    -- where `false` is proved there is nothing
    pub none_in : (q : Proof) → proofs.proof q names ≡ nothing → prove decl.proofs q c term.False ≡ None → ⊥
    none_in q walked ok = laws.dead c env (premises at.file decl at.ready c env h here.state) q ((in_order decl names c.scope here.matches here.knows).proofs q walked) ok

    -- an equation with `nil` is a formula
    pub nil_formula : (t : Term) → term_of names sort.Seq t ≡ no_walk_code → scoped.is_formula roots c.scope (term.Eq t term.Nil) ≡ true
    nil_formula t walked = ap (is_of sort.Bool) (eq_makes roots c.scope t term.Nil sort.Seq (walked_term roots names c.scope here.matches sort.Seq t walked) (nil_sort roots c.scope))

  module _ (names : walk.Scope) (c : Context) (env : Env) (h : Heap) (here : In names c env h) where
    -- A sequence is `nil`, or a head before a tail; then there are values for their names.
    pub sequence_in : (t : Term) → term_of names sort.Seq t ≡ no_walk_code → (n x s : List ℕ) → new_name names n ≡ no_walk_code → new_parts (with_hypothesis names n) x s ≡ no_walk_code
        → (spot : Spot) (next : Context)
        → assuming spot (record c { scope = with_local (with_local c.scope x (Variable sort.Nat)) s (Variable sort.Seq) }) n (term.Eq t (term.Cons (term.Var x) (term.Var s))) ≡ Ok next
        → (value roots env (term.Eq t term.Nil) ≡ a_bool true)
        ⊎ ((k : ℕ) × (l : List ℕ) × In (with_parts (with_hypothesis names n) x s) next (bind (bind env x (a_nat k)) s (seq l)) h)
    sequence_in t walked n x s new parts spot next ok =
        let head = new_head names n x s new parts in
        let tail = new_tail names n x s new parts in
        let wider : Scope = with_local c.scope x (Variable sort.Nat) in
        let widest : Context = record c { scope = with_local wider s (Variable sort.Seq) } in
        let one = variable_matches roots names c.scope here.matches x sort.Nat head in
        let two = variable_matches roots (with_variable names x sort.Nat) wider one s sort.Seq tail in
        let knows = knows_with decl.predicates (with_variable names x sort.Nat) s (class.Logic sort.Seq) (λ o. tt) (knows_with decl.predicates names x (class.Logic sort.Nat) (λ o. tt) here.knows) in
        let law = laws.sequences (typed names c env h here) c env h here.state t (term_walked roots names c.scope here.matches sort.Seq t walked) x s (is_new roots names c.scope here.matches x head)
        (is_new roots (with_variable names x sort.Nat) wider one s tail) in
        elim law [
          | inl e ↦ inl e
          | inr q ↦ inr (
            q.0,
            q.1,
            subst (λ z. In z next (bind (bind env x (a_nat q.0)) s (seq q.1)) h) (sym (hypothesis_last names n x s new parts))
                (assumed_in (with_parts names x s) widest (bind (bind env x (a_nat q.0)) s (seq q.1)) h (record { matches = two; knows = knows; state = q.4 })
                next spot n (term.Eq t (term.Cons (term.Var x) (term.Var s))) (new_behind names n x s new parts) q.3 q.2 ok),
          )
        ]
