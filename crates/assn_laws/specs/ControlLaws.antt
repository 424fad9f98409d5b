-- The laws of results, `do`, calls and cases, as statements.
use Rattle.std.specs.Prelude.{◌≡◌, ◌⊎◌, ℕ, Bool, true, false, bytes_eq, ◌&&◌, not, List, [], ◌∷◌, ◌++◌, map, Some, None, Ok}
use Rattle.std.specs.List.{list_all}
use Rattle.tht_tree.specs.declared.plain.Sort.{Sort}
use Rattle.tht_tree.specs.declared.plain.Sort.TheVariants as sort
use Rattle.tht_tree.specs.declared.plain.Spot.{Spot}
use Rattle.tht_tree.specs.declared.plain.Value.{Value}
use Rattle.tht_tree.specs.declared.assn.Assn.{Assn}
use Rattle.tht_tree.specs.declared.decl.Head.{Head}
use Rattle.tht_tree.specs.declared.give.Give.{Give}
use Rattle.tht_tree.specs.declared.proof.Proof.{Proof}
use Rattle.tht_tree.specs.declared.state.Local.TheVariants.{Variable}
use Rattle.tht_tree.specs.declared.term.Term.{Term}
use Rattle.tht_tree.specs.declared.term.Term.TheVariants as term
use Rattle.tht_tree.specs.Values.{Val, is, seq, Env, bind, a_nat, a_bool, has_sort, has_sort_val}
use Rattle.tht_tree.specs.Syntax.{Names}
use Rattle.tht_tree.specs.Terms.{value}
use Rattle.tht_tree.specs.Satisfaction.{HasSorts}
use Rattle.tht_tree.specs.Heaps.{Heap, Joins}
use Rattle.tht_tree.specs.Rules.Context.{Scope, Context, with_local}
use Rattle.tht_tree.specs.Rules.Scoping.{is_of, is_storable_sort, sort_of}
use Rattle.tht_tree.specs.Rules.Proofs.{prove}
use Rattle.tht_logic.specs.Satisfaction.{Meaning}
use Rattle.tht_logic.specs.Triples.{arguments_in}
use Rattle.tht_logic.specs.Rules.Definitions.{Declarations, head_scope}
use Rattle.tht_logic.specs.Rules.Calls.{Dealt, dealt, with_result, after_call_of}
use Rattle.tht_logic.specs.Rules.Bodies.{assuming, sides, on_side}
use Rattle.tht_logic.specs.Rules.Scoped.{Signatures, HideNoRoot, fit}
use Rattle.tht_logic.specs.Rules.Scoped as scoped
use Rattle.assn_laws.specs.AssertionLaws.{Holds}
use Rattle.assn_laws.specs.Laws.{IsModel, AreTyped, Premises}
use Rattle.assn_laws.specs.Allocs.{values_in}

-- ---- heads

-- no name stands twice in the list
abbrev pub are_distinct : Names → Bool
are_distinct [] = true
are_distinct (x ∷ xs) = list_all (λ y. not (bytes_eq x y)) xs && are_distinct xs

-- the names that a head binds
abbrev pub head_names : Head → Names
head_names x = map (λ p. p.name) x.params ++ map (λ p. p.name) x.logic ++ x.result ∷ []

-- what is in scope in the postcondition
abbrev pub post_scope : Head → Scope
post_scope x = with_local (head_scope x) x.result (Variable x.sort)

-- Where these are the roots, and these arguments fit an instance: the names that the head binds differ, and no root has one; its boxes are in order;
-- and values of its parameters and of its result can stand in a cell.
pub record HeadIsInOrder (roots : Names) (instance : Signatures) (x : Head) : Type 0 where
  pub distinct : are_distinct (head_names x) ≡ true
  pub no_root_hidden : HideNoRoot roots (post_scope x)
  pub pre : scoped.assn roots instance x.pre (head_scope x) ≡ true
  pub post : scoped.assn roots instance x.post (post_scope x) ≡ true
  pub params : list_all (λ p. is_storable_sort (Some p.sort)) x.params ≡ true
  pub result : is_storable_sort (Some x.sort) ≡ true

module _ (decl : Declarations) (proof : Proof → Scope → Bool) (instance lemma : Signatures) where
  abbrev roots : Names
  roots = decl.proofs.roots

  abbrev Model : Meaning → Context → Env → Heap → Type 0
  Model = IsModel decl proof instance lemma

  -- ---- results, calls and `do`

  -- some value for a variable that is new
  abbrev pub VariablesAreSound : Meaning → Type 0
  VariablesAreSound M =
      AreTyped decl proof instance lemma → (c : Context) (env : Env) (h : Heap) → Model M c env h → (x : List ℕ) (r : Sort) (v : Val) → scoped.is_new roots c.scope x ≡ true
      → has_sort_val r v ≡ true → Model M (record c { scope = with_local c.scope x (Variable r) }) (bind env x v) h

  -- A result: a heap that satisfies the box with it stands beside one that satisfied the state before; together they satisfy the state after.
  abbrev pub ResultsAreSound : Meaning → Type 0
  ResultsAreSound M =
      AreTyped decl proof instance lemma → (c next : Context) (env : Env) (f : Heap) → Model M c env f → (spot : Spot) (x : List ℕ) (r : Sort) (box : Assn)
      → scoped.is_new roots c.scope x ≡ true → scoped.assn roots instance box (with_local c.scope x (Variable r)) ≡ true → with_result spot c x r box ≡ Ok next
      → (v : Value) → has_sort r v ≡ true → (q h : Heap) → Holds M roots (bind env x (is v)) box q → Joins q f h → Model M next (bind env x (is v)) h

  -- atoms that are dealt: the heap splits into one for those that are given and one for the frame
  abbrev pub DealsSplitHeaps : Meaning → Type 0
  DealsSplitHeaps M =
      (c : Context) (env : Env) (h : Heap) → Model M c env h → (spot : Spot) (ns : List ℕ) (d : Dealt) → dealt spot ns c.atoms ≡ Ok d
      → (a f : Heap) × Joins a f h × Model M (record c { atoms = d.given }) env a × Model M (record c { atoms = d.frame }) env f

  -- A call: the heap splits into one that satisfies the precondition, where the parameters have the values of the arguments, and a frame; and once a heap
  -- satisfies the postcondition with some result, it and the frame satisfy the state after the call.
  abbrev pub CallsAreSound : Meaning → Type 0
  CallsAreSound M =
      (c next : Context) (env : Env) (h : Heap) → Premises decl proof instance lemma M c env → Model M c env h
      → (spot : Spot) (x : List ℕ) (ts us : List Term) (g : Give) (head : Head) → HeadIsInOrder roots instance head
      → fit roots c.scope head.params ts ≡ true → fit roots c.scope head.logic us ≡ true → scoped.is_new roots c.scope x ≡ true → scoped.give roots instance proof g c.scope ≡ true
      → after_call_of decl spot c x ts us g head ≡ Ok next
      → (a f : Heap) × Joins a f h × (callee : Env) × HasSorts callee (head_scope head) × (arguments_in callee head.params ≡ values_in roots env ts) × Holds M roots callee head.pre a
      × ((v : Value) (q i : Heap) → has_sort head.sort v ≡ true → Holds M roots (bind callee head.result (is v)) head.post q → Joins q f i → Model M next (bind env x (is v)) i)

  -- ---- cases

  -- a formula that is true
  abbrev pub AssumptionsAreSound : Meaning → Type 0
  AssumptionsAreSound M =
      AreTyped decl proof instance lemma → (c next : Context) (env : Env) (h : Heap) → Model M c env h → (spot : Spot) (n : List ℕ) (t : Term) → scoped.is_new roots c.scope n ≡ true
      → scoped.is_formula roots c.scope t ≡ true → value roots env t ≡ a_bool true → assuming spot c n t ≡ Ok next → Model M next env h

  -- a formula is true, or its negation is
  abbrev pub FormulasAreTrueOrFalse : Type 0
  FormulasAreTrueOrFalse =
      (c : Context) (env : Env) → HideNoRoot roots c.scope → HasSorts env c.scope → (t : Term) → scoped.is_formula roots c.scope t ≡ true
      → (value roots env t ≡ a_bool true) ⊎ ((value roots env t ≡ a_bool false) × (value roots env (term.Not t) ≡ a_bool true))

  -- one side of an `either` holds
  abbrev pub SidesAreSound : Meaning → Type 0
  SidesAreSound M =
      AreTyped decl proof instance lemma → (c left right : Context) (env : Env) (h : Heap) → Model M c env h → (spot : Spot) (i : ℕ) (p : Assn × Assn) → sides spot c i ≡ Ok p
      → on_side spot c i p.0 ≡ Ok left → on_side spot c i p.1 ≡ Ok right → Model M left env h ⊎ Model M right env h

  -- a sequence is `nil`, or a head before a tail, with some values for the names of these, which are new
  abbrev pub SequencesAreNilOrMore : Meaning → Type 0
  SequencesAreNilOrMore M =
      AreTyped decl proof instance lemma → (c : Context) (env : Env) (h : Heap) → Model M c env h → (t : Term) → is_of sort.Seq (sort_of roots c.scope t) ≡ true → (x s : List ℕ)
      → scoped.is_new roots c.scope x ≡ true → scoped.is_new roots (with_local c.scope x (Variable sort.Nat)) s ≡ true
      → (value roots env (term.Eq t term.Nil) ≡ a_bool true)
      ⊎ ((n : ℕ) × (l : List ℕ) × (value roots (bind (bind env x (a_nat n)) s (seq l)) (term.Eq t (term.Cons (term.Var x) (term.Var s))) ≡ a_bool true)
      × (scoped.is_formula roots (with_local (with_local c.scope x (Variable sort.Nat)) s (Variable sort.Seq)) (term.Eq t (term.Cons (term.Var x) (term.Var s))) ≡ true)
      × Model M (record c { scope = with_local (with_local c.scope x (Variable sort.Nat)) s (Variable sort.Seq) }) (bind (bind env x (a_nat n)) s (seq l)) h)

  -- where `false` is proved there is nothing
  abbrev pub NothingIsDead : Meaning → Type 0
  NothingIsDead M =
      (c : Context) (env : Env) → Premises decl proof instance lemma M c env → (q : Proof) → proof q c.scope ≡ true → prove decl.proofs q c term.False ≡ None → ⊥
