-- What is refused in the terms of a construct.
use Rattle.std.specs.Prelude.{ℕ, Bool, true, false, not, List, [], ◌∷◌, map, Option, Some, None}
use Rattle.tht_tree.specs.declared.plain.Sort.{Sort}
use Rattle.tht_tree.specs.declared.plain.Sort.TheVariants as sort
use Rattle.tht_tree.specs.declared.term.Term.{Term}
use Rattle.tht_tree.specs.declared.walk.WalkCode.{WalkCode}
use Rattle.tht_tree.specs.declared.walk.WalkCode.TheVariants.{N1, N3, N4, S5}
use Rattle.tht_tree.specs.Walk.Codes.{first, first_of, unless}
use Rattle.tht_tree.specs.declared.walk.Class.{Class}
use Rattle.tht_tree.specs.declared.walk.Class.TheVariants.{Predicate, Lemma}
use Rattle.tht_tree.specs.Walk.Names.{Scope, may_name}
use Rattle.tht_tree.specs.Walk.Sorts.{same_sort, clash, wants, found}

-- a term of the logic: of this sort, a formula, and of any sort
abbrev pub term_of : Scope → Sort → Term → Option WalkCode
term_of scope s x = wants s (found scope false x)

abbrev pub formula : Scope → Term → Option WalkCode
formula scope = term_of scope sort.Bool

abbrev pub any_term : Scope → Term → Option WalkCode
any_term scope x = (found scope false x).code

-- a program term: of this sort, and of any sort
abbrev pub program_of : Scope → Sort → Term → Option WalkCode
program_of scope s x = wants s (found scope true x)

abbrev pub any_program : Scope → Term → Option WalkCode
any_program scope x = (found scope true x).code

-- S5: the sort of a cell, a parameter of a command, or a result
abbrev pub storable : Sort → Option WalkCode
storable s = unless (not (same_sort s sort.Seq)) S5

abbrev pub storable_if : Option Sort → Option WalkCode
storable_if None = None
storable_if (Some s) = storable s

-- what a cell holds
abbrev pub held : Scope → Term → Option WalkCode
held scope x = first (any_term scope x) (storable_if (found scope false x).sort)

-- ---- arguments

-- N4, S1: as many terms as there are sorts, each of its sort
abbrev pub fit : List Sort → List (Option Sort) → Option WalkCode
fit [] [] = None
fit (s ∷ ss) (r ∷ rs) = first (clash s r) (fit ss rs)
fit _ _ = Some N4

-- the terms by themselves, those of the logic and those of the program
abbrev pub any_terms : Scope → List Term → Option WalkCode
any_terms scope ts = first_of (map (any_term scope) ts)

abbrev pub any_programs : Scope → List Term → Option WalkCode
any_programs scope ts = first_of (map (any_program scope) ts)

-- the terms as arguments, which may be of the program, for parameters of these sorts
abbrev pub arguments : Scope → Bool → List Sort → List Term → Option WalkCode
arguments scope program sorts ts = fit sorts (map (λ x. (found scope program x).sort) ts)

-- ---- predicates and lemmas with arguments

abbrev pub as_predicate : Scope → List Term → Option Class → Option WalkCode
as_predicate scope ts None = Some N1
as_predicate scope ts (Some (Predicate access sorts naming)) = first (arguments scope false sorts ts) (may_name naming ts)
as_predicate scope ts (Some _) = Some N3

abbrev pub predicate : Scope → List ℕ → List Term → Option WalkCode
predicate scope p ts = first (any_terms scope ts) (as_predicate scope ts (scope p))

abbrev pub as_lemma : Scope → List Term → Option Class → Option WalkCode
as_lemma scope ts None = Some N1
as_lemma scope ts (Some (Lemma sorts naming)) = first (arguments scope false sorts ts) (may_name naming ts)
as_lemma scope ts (Some _) = Some N3

abbrev pub lemma : Scope → List ℕ → List Term → Option WalkCode
lemma scope l ts = first (any_terms scope ts) (as_lemma scope ts (scope l))
