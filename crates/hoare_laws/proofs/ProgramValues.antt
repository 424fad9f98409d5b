-- A term of the program has for the machine the value that it has in the environment.
use Rattle.std.proofs.Common.{◌≡◌, ℕ, suc, Bool, true, false, cond, List, [], ◌∷◌, map, Option, Some, None, refl, sym, ◌∙◌, ap, subst, arith}
use Rattle.std.specs.Prelude.{bytes_eq, Contains}
use Rattle.std.proofs.lemmas.Slice.Eq.{bytes_eq-Decides}
use Rattle.std.proofs.lemmas.Map.Made.{Contains-tail}
use Rattle.tht_tree.specs.declared.plain.Sort.{Sort}
use Rattle.tht_tree.specs.declared.plain.Sort.TheVariants as sort
use Rattle.tht_tree.specs.declared.state.Local.{Local}
use Rattle.tht_tree.specs.declared.state.Local.TheVariants.{Variable}
use Rattle.tht_tree.specs.declared.term.Term.{Term}
use Rattle.tht_tree.specs.declared.walk.Class.{Class}
use Rattle.tht_tree.specs.declared.walk.Class.TheVariants as c
use Rattle.tht_tree.specs.Values.{Val, Env, value_in}
use Rattle.tht_tree.specs.Syntax.{Names, position, root_or_free, named, trm}
use Rattle.tht_tree.specs.Terms.{value_of, value}
use Rattle.tht_tree.specs.Rules.Context.{Scope}
use Rattle.tht_tree.specs.Rules.Scoping.{sort_of}
use Rattle.tht_tree.specs.Walk.Names as walk
use Rattle.tht_tree.specs.Walk.Sorts.{same_sort, wants, clash, of_logic, found_name, found_of, found}
use Rattle.tht_tree.specs.Walk.Terms.{term_of, program_of, any_program, any_programs}
use Rattle.tht_tree.proofs.TermValues as terms
use Rattle.tht_tree.proofs.TermValues.{Agree}
use Rattle.tht_logic.specs.Triples.{Covers}
use Rattle.tht_logic.specs.Machine.{no_env}
use Rattle.tht_logic.specs.Machine as machine
use Rattle.proof_laws.specs.Walked.{MatchesAt, Matches}
use Rattle.proof_laws.proofs.WalkedTerms.{no_walk_code, first_none}
use Rattle.assn_laws.specs.Allocs.{values_in}
use Rattle.assn_laws.proofs.Refusing.{first_of_none}
use Rattle.assn_laws.proofs.WalkedNames.{any_walked}
use Rattle.hoare_laws.proofs.SameFound.{SameNames, same_found}

-- ---- the program's part of a scope

-- the variables of the program and the roots, and no other name
abbrev class_in_program : Option Class → Option Class
class_in_program (Some (c.Program s)) = Some (c.Program s)
class_in_program (Some c.Root) = Some c.Root
class_in_program _ = None

abbrev local_in_program : Option Class → Option Local
local_in_program (Some (c.Program s)) = Some (Variable s)
local_in_program _ = None

abbrev program_names : walk.Scope → walk.Scope
program_names names x = class_in_program (names x)

abbrev pub program_scope : walk.Scope → Scope
program_scope names x = local_in_program (names x)

program_matches_at : (k : Option Class) (l : Option Local) (r : Option ℕ) → MatchesAt k l r → MatchesAt (class_in_program k) (local_in_program k) r
program_matches_at None l r m = (refl, m.1)
program_matches_at (Some (c.Program s)) l r m = (refl, m.1)
program_matches_at (Some (c.Logic s)) l r m = (refl, m.1)
program_matches_at (Some c.Hypothesis) l r m = (refl, m.1)
program_matches_at (Some c.Root) l r m = (refl, m.1)
program_matches_at (Some _) l r m = (refl, m.1)

program_matches : (roots : Names) (names : walk.Scope) (scope : Scope) → Matches roots names scope → Matches roots (program_names names) (program_scope names)
program_matches roots names scope m x = program_matches_at (names x) (scope x) (position 0 roots x) (m x)

-- a variable of the program that may stand in its terms is found the same
variable_same : (s : Sort) → of_logic (same_sort s sort.Seq) ≡ no_walk_code → found_of s no_walk_code ≡ found_of s (of_logic (same_sort s sort.Seq))
variable_same s e = ap (found_of s) (sym e)

in_program_same : (names : walk.Scope) → SameNames names (program_names names)
in_program_same names x = at (names x)
  where
    at : (k : Option Class) → (found_name true k).code ≡ no_walk_code → found_name false (class_in_program k) ≡ found_name true k
    at None e = cc
    at (Some (c.Program s)) e = variable_same s e
    at (Some (c.Logic s)) e = cc
    at (Some c.Root) e = refl
    at (Some c.Hypothesis) e = cc
    at (Some _) e = cc

in_logic_same : (names : walk.Scope) → SameNames names names
in_logic_same names x = at (names x)
  where
    at : (k : Option Class) → (found_name true k).code ≡ no_walk_code → found_name false k ≡ found_name true k
    at None e = cc
    at (Some (c.Program s)) e = variable_same s e
    at (Some (c.Logic s)) e = cc
    at (Some c.Root) e = refl
    at (Some c.Hypothesis) e = cc
    at (Some _) e = cc

-- a term of the program may stand in the logic
pub in_logic : (names : walk.Scope) (s : Sort) (u : Term) → program_of names s u ≡ no_walk_code → term_of names s u ≡ no_walk_code
in_logic names s u e = ap (wants s) (same_found names names (in_logic_same names) u (first_none (found names true u).code (clash s (found names true u).sort) e).0) ∙ e

-- the sort of a term of the program needs its variables alone
program_sort : (roots : Names) (names : walk.Scope) (scope : Scope) → Matches roots names scope → (u : Term) → any_program names u ≡ no_walk_code
    → (s : Sort) × (sort_of roots (program_scope names) u ≡ Some s)
program_sort roots names scope m u e =
    let walked = any_walked roots (program_names names) (program_scope names) (program_matches roots names scope m) u
    (ap (λ z. z.code) (same_found names (program_names names) (in_program_same names) u e) ∙ e) in
    (walked.sort, walked.is)

-- ---- values

-- Each variable of the program that the walk has in scope is among these names, the innermost first, and has at its place there the value
-- that it has in the environment. (A variable of the logic need not be among them: the machine has no value for it.)
abbrev pub HaveValues : Names → walk.Scope → Env → Names → List Val → Type 0
HaveValues roots names env xs vs = (x : List ℕ) (s : Sort) → names x ≡ Some (c.Program s) → value_of no_env vs (named roots x (position 0 xs x)) ≡ env x

a_variable : (k : Option Class) (s : Sort) → local_in_program k ≡ Some (Variable s) → k ≡ Some (c.Program s)
a_variable (Some (c.Program r)) s e = ap (λ z. Some (c.Program z)) (inside r s e)
  where
    inside : (r s : Sort) → Some (Variable r) ≡ Some (Variable s) → r ≡ s
    inside r s e = cc
a_variable None s e = cc
a_variable (Some (c.Logic r)) s e = cc
a_variable (Some c.Root) s e = cc
a_variable (Some c.Hypothesis) s e = cc
a_variable (Some _) s e = cc

no_root : (roots : Names) → roots ≡ [] → (x : List ℕ) → position 0 roots x ≡ None
no_root roots none x = ap (λ z. position 0 z x) none

module _ (roots : Names) (none : roots ≡ []) (names : walk.Scope) (scope : Scope) (m : Matches roots names scope) (env : Env) (xs : Names) (vs : List Val) (values : HaveValues roots names env xs vs) where
  agree : Agree roots (program_scope names) no_env vs xs env [] []
  agree x s e = values x s (a_variable (names x) s e) ∙ sym (ap (λ o. value_of env [] (root_or_free x o)) (no_root roots none x))

  -- a term of the program
  pub program_value : (u : Term) → any_program names u ≡ no_walk_code → value_of no_env vs (trm roots xs u) ≡ value roots env u
  program_value u e =
      let typed = program_sort roots names scope m u e in
      terms.same_value_of roots (program_scope names) no_env vs xs env [] [] agree (λ x r h g. let never : None ≡ Some r = sym (no_root roots none x) ∙ h in cc) u typed.0 typed.1

  pub value_of_sort : (s : Sort) (u : Term) → program_of names s u ≡ no_walk_code → value_of no_env vs (trm roots xs u) ≡ value roots env u
  value_of_sort s u e = program_value u (first_none (found names true u).code (clash s (found names true u).sort) e).0

  -- terms of the program
  pub program_values : (us : List Term) → any_programs names us ≡ no_walk_code → map (machine.value vs) (map (trm roots xs) us) ≡ values_in roots env us
  program_values [] e = refl
  program_values (u ∷ us) e =
      let parts = first_of_none (any_program names u) (map (any_program names) us) e in
      let first = program_value u parts.0 in
      let others = program_values us parts.1 in
      λ i. value_in (first i) ∷ others i

-- ---- variables that are bound

-- one more bound variable moves the others one further
pub one_further : (roots : Names) (env : Env) (v : Val) (vs : List Val) (k : ℕ) (xs : Names) (y : List ℕ) → value_of env (v ∷ vs) (named roots y (position (suc k) xs y)) ≡ value_of env vs (named roots y (position k xs y))
one_further roots env v vs k [] y = no_bound (position 0 roots y)
  where
    no_bound : (o : Option ℕ) → value_of env (v ∷ vs) (root_or_free y o) ≡ value_of env vs (root_or_free y o)
    no_bound (Some r) = refl
    no_bound None = refl
one_further roots env v vs k (x ∷ xs) y = pick (bytes_eq x y) (one_further roots env v vs (suc k) xs y)
  where
    pick : (b : Bool) → value_of env (v ∷ vs) (named roots y (position (suc (suc k)) xs y)) ≡ value_of env vs (named roots y (position (suc k) xs y)) →
        value_of env (v ∷ vs) (named roots y (cond b (Some (suc k)) (position (suc (suc k)) xs y))) ≡ value_of env vs (named roots y (cond b (Some k) (position (suc k) xs y)))
    pick true more = refl
    pick false more = more

-- the environment's values
covered : (roots : Names) (env : Env) (xs : Names) (x : List ℕ) → Contains xs x → value_of no_env (map env xs) (named roots x (position 0 xs x)) ≡ env x
covered roots env [] x h = absurd (omega (arith, h.1))
covered roots env (y ∷ ys) x h = pick (bytes_eq y x) refl (covered roots env ys x)
  where
    pick : (b : Bool) → bytes_eq y x ≡ b → (Contains ys x → value_of no_env (map env ys) (named roots x (position 0 ys x)) ≡ env x) → value_of no_env (map env (y ∷ ys)) (named roots x (cond b (Some 0) (position 1 ys x))) ≡ env x
    pick true e more = ap env ((bytes_eq-Decides y x).0 e)
    pick false e more =
        one_further roots no_env (env y) (map env ys) 0 ys x
        ∙ more (Contains-tail y ys x (λ g. let f : bytes_eq y x ≡ true = (bytes_eq-Decides y x).1 g in let never = sym e ∙ f in cc) h)

-- where a body begins all variables are among the machine's
pub covering : (roots : Names) (names : walk.Scope) (scope : Scope) (env : Env) (xs : Names) → Matches roots names scope → Covers xs scope → HaveValues roots names env xs (map env xs)
covering roots names scope env xs m covers x s e =
    covered roots env xs x (covers x s (subst (λ k. MatchesAt k (scope x) (position 0 roots x)) e (m x)).0)
