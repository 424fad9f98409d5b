-- The laws of predicates, steps, gives and returns, as statements.
use Rattle.std.specs.Prelude.{◌≡◌, ◌↔◌, ◌≤◌, ℕ, Bool, true, All, is_some, List, map, Some, None, Ok}
use Rattle.std.specs.List.Sorted.{IsStrictlySortedBy}
use Rattle.std.specs.Map.{keys_of}
use Rattle.std.specs.Ordering.{nat_cmp}
use Rattle.tht_tree.specs.declared.term.Term.{Term}
use Rattle.tht_tree.specs.declared.assn.Assn.{Assn}
use Rattle.tht_tree.specs.declared.proof.Proof.{Proof}
use Rattle.tht_tree.specs.declared.give.Give.{Give}
use Rattle.tht_tree.specs.declared.step.Step.{Step}
use Rattle.tht_tree.specs.declared.state.Local.TheVariants.{Variable}
use Rattle.tht_tree.specs.declared.state.Post.{Post}
use Rattle.tht_tree.specs.declared.plain.Spot.{Spot}
use Rattle.tht_tree.specs.Values.{Env, bind, a_bool}
use Rattle.tht_tree.specs.Syntax.{Names, position}
use Rattle.tht_tree.specs.Terms.{value}
use Rattle.tht_tree.specs.Satisfaction.{HasSorts}
use Rattle.tht_tree.specs.Heaps.{Heap, Joins}
use Rattle.tht_tree.specs.Rules.Context.{Scope, Context, with_local}
use Rattle.tht_tree.specs.Rules.Scoping.{sort_of, is_of}
use Rattle.tht_tree.specs.Rules.Proofs.{prove}
use Rattle.tht_logic.specs.Satisfaction.{Meaning, SatisfiesState}
use Rattle.tht_logic.specs.Putting.{put_assn_within}
use Rattle.tht_logic.specs.Rules.Definitions.{Lemma, Declarations, arguments, definition_of}
use Rattle.tht_logic.specs.Rules.Gives.{after_give}
use Rattle.tht_logic.specs.Rules.Steps.{after_step}
use Rattle.tht_logic.specs.Rules.Bodies.{return_refused}
use Rattle.tht_logic.specs.Rules.Scoped.{Signatures, HideNoRoot, HaveTheSorts, instance_fits}
use Rattle.tht_logic.specs.Rules.Scoped as scoped
use Rattle.tht_logic.specs.Rules.Formed as formed
use Rattle.assn_laws.specs.AssertionLaws.{Holds}

-- ---- predicates

-- A scope as it is while a file is checked, with an environment that gives its variables values of their sorts: no variable in it has the
-- name of a root.
pub record IsScope (roots : Names) (scope : Scope) (env : Env) : Type 0 where
  pub no_root_hidden : HideNoRoot roots scope
  pub sorts : HasSorts env scope

-- predicates mean their definitions: an instance with arguments that fit and what it is defined as hold of the same heaps
abbrev pub InstancesMeanDefinitions : Declarations → Signatures → Meaning → Type 0
InstancesMeanDefinitions decl instance M =
    (scope : Scope) (env : Env) → IsScope decl.proofs.roots scope env
    → (q : List ℕ) (ts : List Term) (p : Assn) (h : Heap) → instance scope q ts ≡ true
    → definition_of (decl.predicates q) ts ≡ Ok p → M q (map (value decl.proofs.roots env) ts) h ↔ Holds M decl.proofs.roots env p h

-- The lemmas are true here: with arguments that fit, a heap that satisfies the precondition satisfies the postcondition. (It is said of one
-- environment. So a lemma that is proved by induction may be used in its own proof, with arguments of which it is known to be true.)
abbrev pub LemmasHold : Declarations → Signatures → Meaning → Scope → Env → Type 0
LemmasHold decl fits M scope env =
    (l : List ℕ) (x : Lemma) (ts : List Term) (p q : Assn) (h : Heap) → fits scope l ts ≡ true → decl.lemmas l ≡ Some x
    → put_assn_within (arguments x.params ts) x.pre ≡ Ok p → put_assn_within (arguments x.params ts) x.post ≡ Ok q
    → Holds M decl.proofs.roots env p h → Holds M decl.proofs.roots env q h

-- ---- steps and gives

-- the two environments give each name one value, but for a name that is in the new scope alone
abbrev pub AgreeButOnNew : Scope → Scope → Env → Env → Type 0
AgreeButOnNew old next env new = (x : List ℕ) → (old x ≡ None → next x ≡ None) → new x ≡ env x

-- What is declared; which proofs are in order; and which arguments fit an instance and a lemma.
module _ (decl : Declarations) (proof : Proof → Scope → Bool) (instance lemma : Signatures) where
  abbrev pub roots : Names
  roots = decl.proofs.roots

  abbrev pub IsFormed : Context → Type 0
  IsFormed = formed.IsFormed roots instance

  -- a state as it is while a file is checked, with an environment and a heap that satisfy it
  pub record IsModel (M : Meaning) (c : Context) (env : Env) (h : Heap) : Type 0 where
    pub formed : IsFormed c
    pub satisfied : SatisfiesState M roots env c h

  -- what is proved here is true: the law of proofs, a premise
  abbrev pub ProofsHold : Context → Env → Type 0
  ProofsHold c env =
      (q : Proof) (goal : Term) → proof q c.scope ≡ true → scoped.is_formula roots c.scope goal ≡ true → prove decl.proofs q c goal ≡ None
      → value roots env goal ≡ a_bool true

  -- Arguments that fit an instance have sorts, and others of the same sorts fit it too; its definition is in order where the instance is, and
  -- so are the boxes of a lemma with arguments that fit.
  pub record AreTyped : Type 0 where
    pub sorted : (scope : Scope) (q : List ℕ) (ts : List Term) → instance scope q ts ≡ true
        → All (λ t. is_some (sort_of roots scope t) ≡ true) ts
    pub by_sorts : (old new : Scope) (q : List ℕ) (ts us : List Term) → HaveTheSorts roots old new ts us
        → instance old q ts ≡ true → instance new q us ≡ true
    pub defined : (scope : Scope) → HideNoRoot roots scope → (q : List ℕ) (ts : List Term) (p : Assn) → instance scope q ts ≡ true
        → definition_of (decl.predicates q) ts ≡ Ok p → scoped.assn roots instance p scope ≡ true
    pub asks : (scope : Scope) → HideNoRoot roots scope → (l : List ℕ) (ts : List Term) (x : Lemma) (p : Assn) → lemma scope l ts ≡ true
        → decl.lemmas l ≡ Some x → put_assn_within (arguments x.params ts) x.pre ≡ Ok p → scoped.assn roots instance p scope ≡ true
    pub gives : (scope : Scope) → HideNoRoot roots scope → (l : List ℕ) (ts : List Term) (x : Lemma) (p : Assn) → lemma scope l ts ≡ true
        → decl.lemmas l ≡ Some x → put_assn_within (arguments x.params ts) x.post ≡ Ok p → scoped.assn roots instance p scope ≡ true

  -- What the rules stand on, at a state with an environment: no proof in a step or a give is looked at from another state.
  pub record Premises (M : Meaning) (c : Context) (env : Env) : Type 0 where
    pub proofs : ProofsHold c env
    pub typed : AreTyped
    pub instances : InstancesMeanDefinitions decl instance M
    pub lemmas : LemmasHold decl lemma M c.scope env

  -- what satisfied the old state satisfies the new one, with some value for a variable that is new
  abbrev pub StepsAreSound : Meaning → Type 0
  StepsAreSound M =
      (c next : Context) (env : Env) (h : Heap) → Premises M c env → IsModel M c env h
      → (x : Step) → scoped.step roots instance proof lemma x.kind c.scope ≡ true
      → after_step decl c x ≡ Ok next → (new : Env) × AgreeButOnNew c.scope next.scope env new × IsModel M next new h

  -- the heap splits into one for the goal and one for the new state; so each atom is consumed once
  abbrev pub GivesAreSound : Meaning → Type 0
  GivesAreSound M =
      (c next : Context) (env : Env) (h : Heap) → Premises M c env → IsModel M c env h
      → (x : Give) (goal : Assn) → scoped.give roots instance proof x c.scope ≡ true
      → scoped.assn roots instance goal c.scope ≡ true → after_give decl c x goal ≡ Ok next
      → (a b : Heap) × Joins a b h × Holds M roots env goal a × IsModel M next env b

  -- a return: the heap satisfies the postcondition, where the result has the value of the term
  abbrev pub ReturnsAreSound : Meaning → Type 0
  ReturnsAreSound M =
      (c : Context) (env : Env) (h : Heap) → Premises M c env → IsModel M c env h
      → (spot : Spot) (t : Term) (x : Give) (post : Post)
      → scoped.give roots instance proof x c.scope ≡ true → is_of post.sort (sort_of roots c.scope t) ≡ true
      → scoped.assn roots instance post.assn (with_local c.scope post.result (Variable post.sort)) ≡ true → position 0 roots post.result ≡ None
      → return_refused decl spot c t x post ≡ None
      → Holds M roots (bind env post.result (value roots env t)) post.assn h
