-- The names and sorts of declarations, and what is known after each.
use Rattle.std.specs.Prelude.{ℕ, Bool, true, not, ◌||◌, List, [], ◌∷◌, Option, Some, None}
use Rattle.tht_tree.specs.declared.plain.Spot.{Spot}
use Rattle.tht_tree.specs.declared.plain.Sort.{Sort}
use Rattle.tht_tree.specs.declared.plain.Sort.TheVariants as sort
use Rattle.tht_tree.specs.declared.assn.Assn.{Assn}
use Rattle.tht_tree.specs.declared.body.Body.{Body}
use Rattle.tht_tree.specs.declared.decl.Access.{Access}
use Rattle.tht_tree.specs.declared.decl.Param.{Param}
use Rattle.tht_tree.specs.declared.decl.Head.{Head}
use Rattle.tht_tree.specs.declared.decl.Initial.{Initial}
use Rattle.tht_tree.specs.declared.decl.Initial.TheVariants as v
use Rattle.tht_tree.specs.declared.decl.Lemma.{Lemma}
use Rattle.tht_tree.specs.declared.decl.LemmaKind.{LemmaKind}
use Rattle.tht_tree.specs.declared.decl.LemmaKind.TheVariants as l
use Rattle.tht_tree.specs.declared.decl.DeclKind.{DeclKind}
use Rattle.tht_tree.specs.declared.decl.DeclKind.TheVariants as d
use Rattle.tht_tree.specs.declared.walk.WalkCode.{WalkCode}
use Rattle.tht_tree.specs.declared.walk.WalkCode.TheVariants.{N1, N3, N5, N6}
use Rattle.tht_tree.specs.declared.walk.WalkRefusal.{WalkRefusal}
use Rattle.tht_tree.specs.Walk.Codes.{first, first_of, unless, construct, ◌▸◌}
use Rattle.tht_tree.specs.declared.walk.Signature.{Signature}
use Rattle.tht_tree.specs.declared.walk.Naming.{Naming}
use Rattle.tht_tree.specs.declared.walk.Naming.TheVariants.{Anywhere, Nowhere, Only}
use Rattle.tht_tree.specs.declared.walk.Class.{Class}
use Rattle.tht_tree.specs.Walk.Names.{Scope, Walk, with_name, with_result, with_variable, with_params, new_name, new_params, param_sorts, with_parts, new_parts, other_params, param_number}
use Rattle.tht_tree.specs.declared.walk.Class.TheVariants as n
use Rattle.tht_tree.specs.Walk.Sorts.{clash}
use Rattle.tht_tree.specs.Walk.Terms.{storable}
use Rattle.tht_tree.specs.Walk.Kinds.{shared_only, private_only, of_access}
use Rattle.tht_tree.specs.Walk.Assns.{assn}
use Rattle.tht_tree.specs.Walk.Gives.{give}
use Rattle.tht_tree.specs.declared.walk.Where.TheVariants.{Outside, Inside, InLemma}
use Rattle.tht_tree.specs.Walk.Bodies.{frame, new_result, result_box, private_box, body}

-- What stands before a declaration: the names in scope, and whether there was an invariant, and a txn or a proc.
pub record Before : Type 0 where
  pub scope : Scope
  pub invariant : Bool
  pub commands : Bool

-- ---- roots

-- the first value of a root: a literal, or the place of a root that is known, itself included
abbrev pub root_value : Sort → Option Class → Option WalkCode
root_value s None = Some N1
root_value s (Some n.Root) = clash s (Some sort.Loc)
root_value s (Some _) = Some N3

abbrev pub initial : Scope → Sort → Initial → Option WalkCode
initial scope s (v.Num n) = clash s (Some sort.Nat)
initial scope s v.True = clash s (Some sort.Bool)
initial scope s v.False = clash s (Some sort.Bool)
initial scope s v.Null = clash s (Some sort.Loc)
initial scope s v.Unit = clash s (Some sort.Unit)
initial scope s (v.Root x) = root_value s (scope x)

-- ---- what predicates and lemmas share: all their variables are of the logic

abbrev pub with_logic : Scope → List Param → Scope
with_logic = with_params n.Logic

abbrev pub new_logic : Scope → List Param → Option WalkCode
new_logic = new_params n.Logic

-- the parameter behind `on` has this sort
abbrev pub on_parameter : Sort → Option Class → Option WalkCode
on_parameter s None = Some N1
on_parameter s (Some (n.Logic r)) = clash s (Some r)
on_parameter s (Some _) = Some N3

-- In the cases behind `on` that parameter is replaced, and so is not in scope.
abbrev pub in_case : Scope → List ℕ → List Param → Scope
in_case scope u ps = with_logic scope (other_params u ps)

-- ---- predicates

abbrev pub with_predicate : Scope → Access → List ℕ → List Param → Naming → Scope
with_predicate scope who p ps naming = with_name scope p (n.Predicate who (param_sorts ps) naming)

-- a definition, or one case of it
abbrev pub definition : Access → Scope → Assn → Option WalkCode
definition who scope a = first (assn a scope) (of_access who scope a)

-- a predicate does not name itself
abbrev pub pred_code : Access → List ℕ → List Param → Assn → Scope → Option WalkCode
pred_code who p ps a scope =
    let self = with_predicate scope who p ps Nowhere in
    first_of (new_name scope p ∷ new_logic self ps ∷ definition who (with_logic self ps) a ∷ [])

-- one with `on` names itself in its second case, with exactly the tail as that argument
abbrev pub pred_on_code : Access → List ℕ → List Param → List ℕ → Assn → List ℕ → List ℕ → Assn → Scope → Option WalkCode
pred_on_code who p ps u a m s c scope =
    let self = with_predicate scope who p ps Nowhere in
    let cons = in_case (with_predicate scope who p ps (Only (param_number u ps) s)) u ps in
    let names = first_of (new_name scope p ∷ new_logic self ps ∷ on_parameter sort.Seq (with_logic self ps u) ∷ new_parts cons m s ∷ []) in
    first_of (names ∷ definition who (in_case self u ps) a ∷ definition who (with_parts cons m s) c ∷ [])

-- ---- lemmas

abbrev pub with_lemma : Scope → Lemma → Naming → Scope
with_lemma scope x naming = with_name scope x.name (n.Lemma (param_sorts x.params) naming)

-- what is known in a lemma: it does not name itself
abbrev pub in_lemma : Lemma → Scope → Scope
in_lemma x scope = with_logic (with_lemma scope x Nowhere) x.params

-- One with `on` does so in its second case alone, with exactly the tail, or the number, as that argument.
abbrev pub first_case : Lemma → List ℕ → Scope → Scope
first_case x u scope = in_case (with_lemma scope x Nowhere) u x.params

abbrev pub second_case : Lemma → List ℕ → List ℕ → Scope → Scope
second_case x u s scope = in_case (with_lemma scope x (Only (param_number u x.params) s)) u x.params

-- the parameter behind `on`, and the names of the second case
abbrev pub case_names : Lemma → LemmaKind → Scope → Option WalkCode
case_names x (l.Plain y) scope = None
case_names x (l.OnSeq u y m s z) scope = first (on_parameter sort.Seq (in_lemma x scope u)) (new_parts (second_case x u s scope) m s)
case_names x (l.OnNat u y m z) scope = first (on_parameter sort.Nat (in_lemma x scope u)) (new_name (second_case x u m scope) m)

abbrev pub lemma_code : Lemma → Scope → Option WalkCode
lemma_code x scope =
    let names = first_of (new_name scope x.name ∷ new_logic (with_lemma scope x Nowhere) x.params ∷ case_names x x.kind scope ∷ []) in
    first_of (names ∷ assn x.pre (in_lemma x scope) ∷ assn x.post (in_lemma x scope) ∷ [])

abbrev pub lemma_body : Body → Walk
lemma_body y = body y (frame InLemma sort.Unit)

abbrev pub lemma_bodies : Lemma → LemmaKind → Walk
lemma_bodies x (l.Plain y) scope = lemma_body y (in_lemma x scope)
lemma_bodies x (l.OnSeq u y m s z) scope = lemma_body y (first_case x u scope) ▸ lemma_body z (with_parts (second_case x u s scope) m s)
lemma_bodies x (l.OnNat u y m z) scope =
    lemma_body y (first_case x u scope) ▸ lemma_body z (with_variable (second_case x u m scope) m sort.Nat)

-- ---- txns and procs

abbrev pub signature : Head → Signature
signature h = record { params = param_sorts h.params; logic = param_sorts h.logic; result = h.sort }

abbrev pub with_txn : Scope → Head → Scope
with_txn scope h = with_name scope h.name (n.Txn (signature h))

abbrev pub with_proc : Scope → Head → Scope
with_proc scope h = with_name scope h.name (n.Proc (signature h))

-- what is known in a txn or a proc, where its own name is
abbrev pub in_command : Head → Scope → Scope
in_command h self = with_params n.Logic (with_params n.Program self h.params) h.logic

-- S5: what parameters of commands may hold
abbrev pub all_storable : List Param → Option WalkCode
all_storable [] = None
all_storable (p ∷ ps) = first (storable p.sort) (all_storable ps)

-- the parameters, the logical variables, the precondition, and the result, which is known in the postcondition alone
abbrev pub head_code : Head → Scope → Option WalkCode
head_code h self =
    let logic = new_params n.Logic (with_params n.Program self h.params) h.logic in
    let params = first_of (new_params n.Program self h.params ∷ all_storable h.params ∷ logic ∷ []) in
    first_of (params ∷ assn h.pre (in_command h self) ∷ new_result (in_command h self) h.result h.sort ∷ [])

-- pre- and postcondition of a txn are of any kind, those of a proc speak of private cells alone
abbrev pub txn_code : Head → Scope → Option WalkCode
txn_code h scope =
    let self = with_txn scope h in
    first_of (new_name scope h.name ∷ head_code h self ∷ result_box (in_command h self) h.result h.sort h.post ∷ [])

abbrev pub proc_code : Head → Scope → Option WalkCode
proc_code h scope =
    let self = with_proc scope h in
    let boxes = first (private_only self h.pre) (private_box (in_command h self) h.result h.sort h.post) in
    first_of (new_name scope h.name ∷ head_code h self ∷ boxes ∷ [])

-- ---- declarations

-- N6: a root stands in a file with an invariant, N5: before it
abbrev pub root_code : Bool → List ℕ → Sort → Initial → Before → Option WalkCode
root_code with_invariant x s y b =
    let value = first (new_name b.scope x) (initial (with_name b.scope x n.Root) s y) in
    first_of (value ∷ unless (not b.invariant) N5 ∷ unless with_invariant N6 ∷ [])

abbrev pub invariant_code : Assn → Before → Option WalkCode
invariant_code a b = first_of (assn a b.scope ∷ shared_only b.scope a ∷ unless (not (b.invariant || b.commands)) N5 ∷ [])

-- what is refused in a declaration of a file that has an invariant, or has none
abbrev pub decl_kind : Bool → DeclKind → Spot → Before → Option WalkRefusal
decl_kind with_invariant (d.Root x s y) spot b = construct spot (root_code with_invariant x s y b) None
decl_kind with_invariant (d.Invariant a g) spot b = construct spot (invariant_code a b) (give g b.scope)
decl_kind with_invariant (d.Pred who p ps a) spot b = construct spot (pred_code who p ps a b.scope) None
decl_kind with_invariant (d.PredOn who p ps u a m s c) spot b = construct spot (pred_on_code who p ps u a m s c b.scope) None
decl_kind with_invariant (d.Lemma x) spot b = construct x.spot (lemma_code x b.scope) (lemma_bodies x x.kind b.scope)
decl_kind with_invariant (d.Txn h y) spot b =
    construct spot (txn_code h b.scope) (body y (frame Inside h.sort) (in_command h (with_txn b.scope h)))
decl_kind with_invariant (d.Proc h y) spot b =
    construct spot (proc_code h b.scope) (body y (frame Outside h.sort) (in_command h (with_proc b.scope h)))

-- what stands before the next declaration
abbrev pub after_decl : DeclKind → Before → Before
after_decl (d.Root x s y) b = record b { scope = with_name b.scope x n.Root }
after_decl (d.Invariant a g) b = record b { invariant = true }
after_decl (d.Pred who p ps a) b = record b { scope = with_predicate b.scope who p ps Anywhere }
after_decl (d.PredOn who p ps u a m s c) b = record b { scope = with_predicate b.scope who p ps Anywhere }
after_decl (d.Lemma x) b = record b { scope = with_lemma b.scope x Anywhere }
after_decl (d.Txn h y) b = record b { scope = with_txn b.scope h; commands = true }
after_decl (d.Proc h y) b = record b { scope = with_proc b.scope h; commands = true }
