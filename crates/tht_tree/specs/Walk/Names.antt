-- Scope: what each name stands for. The names of roots, predicates, lemmas, txns and procs are known from their declaration on and
-- inside it; those of variables and hypotheses from where they are bound to the end of what binds them, but for the results of
-- commands and the variable of `subst`, as is said there. All are in one space.
use Rattle.std.specs.Prelude.{ℕ, suc, Bool, false, is_none, bytes_eq, List, [], ◌∷◌, map, slice_get, Option, Some, None, if◌then◌else◌}
use Rattle.tht_tree.specs.declared.walk.Signature.{Signature}
use Rattle.tht_tree.specs.declared.walk.Naming.{Naming}
use Rattle.tht_tree.specs.declared.walk.Naming.TheVariants.{Anywhere, Nowhere, Only}
use Rattle.tht_tree.specs.declared.walk.Class.{Class}
use Rattle.tht_tree.specs.declared.walk.Class.TheVariants.{Root, Predicate, Lemma, Txn, Proc, Program, Logic, Hypothesis}
use Rattle.tht_tree.specs.declared.plain.Sort.{Sort}
use Rattle.tht_tree.specs.declared.plain.Sort.TheVariants as sort
use Rattle.tht_tree.specs.declared.term.Term.{Term, out-Term}
use Rattle.tht_tree.specs.declared.decl.Access.{Access}
use Rattle.tht_tree.specs.declared.decl.Param.{Param}
use Rattle.tht_tree.specs.SameTree.{is_var}
use Rattle.tht_tree.specs.declared.walk.WalkCode.{WalkCode}
use Rattle.tht_tree.specs.declared.walk.WalkCode.TheVariants.{N1, N2, N3, N7}
use Rattle.tht_tree.specs.declared.walk.WalkRefusal.{WalkRefusal}
use Rattle.tht_tree.specs.Walk.Codes.{first, unless}

abbrev pub Scope : Type 0
Scope = List ℕ → Option Class

-- what is refused in a part of a file, by what is in scope there
abbrev pub Walk : Type 0
Walk = Scope → Option WalkRefusal

-- ---- what is in scope

abbrev pub no_names : Scope
no_names x = None

abbrev pub with_name : Scope → List ℕ → Class → Scope
with_name scope x c y = if bytes_eq x y then Some c else scope y

-- with the result of a statement, a logical variable, and a hypothesis
abbrev pub with_result : Scope → List ℕ → Sort → Scope
with_result scope x s = with_name scope x (Program s)

abbrev pub with_variable : Scope → List ℕ → Sort → Scope
with_variable scope x s = with_name scope x (Logic s)

abbrev pub with_hypothesis : Scope → List ℕ → Scope
with_hypothesis scope h = with_name scope h Hypothesis

-- with the head and the tail of a sequence
abbrev pub with_parts : Scope → List ℕ → List ℕ → Scope
with_parts scope x s = with_variable (with_variable scope x sort.Nat) s sort.Seq

-- with variables of one class, the first first
abbrev pub with_params : (Sort → Class) → Scope → List Param → Scope
with_params class scope [] = scope
with_params class scope (p ∷ ps) = with_params class (with_name scope p.name (class p.sort)) ps

-- ---- binding a name

-- N2: a name is bound where nothing in scope has it
abbrev pub new_name : Scope → List ℕ → Option WalkCode
new_name scope x = unless (is_none (scope x)) N2

-- one name after another
abbrev pub new_parts : Scope → List ℕ → List ℕ → Option WalkCode
new_parts scope x s = first (new_name scope x) (new_name (with_variable scope x sort.Nat) s)

abbrev pub new_params : (Sort → Class) → Scope → List Param → Option WalkCode
new_params class scope [] = None
new_params class scope (p ∷ ps) = first (new_name scope p.name) (new_params class (with_name scope p.name (class p.sort)) ps)

abbrev pub param_sorts : List Param → List Sort
param_sorts = map (λ p. p.sort)

-- the parameters but for the one with this name, and its number, from 0; of several that have the name the first is meant
abbrev pub other_params : List ℕ → List Param → List Param
other_params x [] = []
other_params x (p ∷ ps) = if bytes_eq x p.name then ps else p ∷ other_params x ps

abbrev pub param_number : List ℕ → List Param → ℕ
param_number x [] = 0
param_number x (p ∷ ps) = if bytes_eq x p.name then 0 else suc (param_number x ps)

-- ---- naming what is in scope

-- N1, N3: a name that stands for a hypothesis
abbrev pub hypothesis : Option Class → Option WalkCode
hypothesis None = Some N1
hypothesis (Some Hypothesis) = None
hypothesis (Some _) = Some N3

abbrev pub is_variable : List ℕ → Option Term → Bool
is_variable x None = false
is_variable x (Some t) = is_var x (out-Term t)

-- N7: a predicate or a lemma with these arguments
abbrev pub may_name : Naming → List Term → Option WalkCode
may_name Anywhere ts = None
may_name Nowhere ts = Some N7
may_name (Only n x) ts = unless (is_variable x (slice_get ts n)) N7
