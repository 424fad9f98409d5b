-- Where the body of a proc begins, the machine has for each parameter the value that it has in the environment.
use Rattle.std.proofs.Common.{◌≡◌, ℕ, Bool, true, false, cond, List, [], ◌∷◌, ◌++◌, map, Option, Some, None, refl, sym, ◌∙◌, ap, subst}
use Rattle.std.specs.Prelude.{bytes_eq, reverse}
use Rattle.std.specs.List.{list_all}
use Rattle.std.proofs.lemmas.List.{append-nil, append_assoc, reverse-append}
use Rattle.tht_tree.specs.declared.plain.Sort.{Sort}
use Rattle.tht_tree.specs.declared.decl.Param.{Param}
use Rattle.tht_tree.specs.declared.decl.Head.{Head}
use Rattle.tht_tree.specs.declared.state.Local.TheVariants.{Variable}
use Rattle.tht_tree.specs.declared.walk.Class.TheVariants as c
use Rattle.tht_tree.specs.Values.{Val, is, Env, value_in, has_sort_val, is_storable}
use Rattle.tht_tree.specs.Syntax.{Names, position, named}
use Rattle.tht_tree.specs.Satisfaction.{HasSorts}
use Rattle.tht_tree.specs.Terms.{value_of}
use Rattle.tht_tree.specs.Walk.Names as walk
use Rattle.tht_tree.specs.Walk.Names.{with_name, with_params}
use Rattle.tht_tree.specs.Walk.Decls.{in_command, with_proc, signature}
use Rattle.tht_tree.specs.Rules.Scoping.{is_storable_sort}
use Rattle.tht_tree.proofs.SameTerm.{bytes_eq-true}
use Rattle.tht_tree.proofs.TermValues as terms
use Rattle.tht_logic.specs.Triples.{arguments_in}
use Rattle.tht_logic.specs.Procedures.{bound_names}
use Rattle.tht_logic.specs.Machine.{no_env}
use Rattle.tht_logic.specs.Meanings.{names_of}
use Rattle.tht_logic.specs.Rules.Definitions.{head_scope}
use Rattle.tht_logic.specs.Rules.Scoped.{Signatures}
use Rattle.assn_laws.specs.ControlLaws.{HeadIsInOrder, are_distinct}
use Rattle.assn_laws.proofs.HeadScopes.{others, all_params, params_differ, head_scope_is, no_param}
use Rattle.assn_laws.proofs.KnownNames.{both_true}
use Rattle.assn_laws.proofs.NewVariable.{bytes_eq-refl}
use Rattle.assn_laws.proofs.Predicates.{param_scope}
use Rattle.hoare_laws.proofs.ProgramValues.{HaveValues, one_further}
use Rattle.hoare_laws.proofs.Growing.{with_other_values}

turned_over : {A : Type 0} (x : A) (xs ys : List A) → reverse (x ∷ xs) ++ ys ≡ reverse xs ++ (x ∷ ys)
turned_over x xs ys = ap (λ z. z ++ ys) (reverse-append (x ∷ []) xs) ∙ append_assoc (reverse xs) (x ∷ []) ys

-- ---- values by names

module _ (roots : Names) (env : Env) where
  -- one more variable of the program, with the value that it has
  with_own_value : (names : walk.Scope) (xs : Names) (vs : List Val) (x : List ℕ) (r : Sort) → HaveValues roots names env xs vs
      → HaveValues roots (with_name names x (c.Program r)) env (x ∷ xs) (env x ∷ vs)
  with_own_value names xs vs x r values y s e = pick (bytes_eq x y) refl e
    where
      pick : (b : Bool) → bytes_eq x y ≡ b → cond b (Some (c.Program r)) (names y) ≡ Some (c.Program s) → value_of no_env (env x ∷ vs) (named roots y (cond b (Some 0) (position 1 xs y))) ≡ env y
      pick true g f = ap env (bytes_eq-true x y g)
      pick false g f = one_further roots no_env (env x) vs 0 xs y ∙ values y s f

  -- parameters, the last one innermost
  params_have_values : (ps : List Param) (names : walk.Scope) (xs : Names) (vs : List Val) → HaveValues roots names env xs vs
      → HaveValues roots (with_params c.Program names ps) env (reverse (names_of ps) ++ xs) (reverse (map (λ p. env p.name) ps) ++ vs)
  params_have_values [] names xs vs values = values
  params_have_values (p ∷ ps) names xs vs values =
      subst (λ z. HaveValues roots (with_params c.Program names (p ∷ ps)) env z (reverse (map (λ q. env q.name) (p ∷ ps)) ++ vs)) (sym (turned_over p.name (names_of ps) xs))
      (subst (λ z. HaveValues roots (with_params c.Program names (p ∷ ps)) env (reverse (names_of ps) ++ (p.name ∷ xs)) z) (sym (turned_over (env p.name) (map (λ q. env q.name) ps) vs))
      (params_have_values ps (with_name names p.name (c.Program p.sort)) (p.name ∷ xs) (env p.name ∷ vs) (with_own_value names xs vs p.name p.sort values)))

  -- logical variables are none of the program's
  logic_have_values : (ps : List Param) (names : walk.Scope) (xs : Names) (vs : List Val) → HaveValues roots names env xs vs → HaveValues roots (with_params c.Logic names ps) env xs vs
  logic_have_values [] names xs vs values = values
  logic_have_values (p ∷ ps) names xs vs values =
      logic_have_values ps (with_name names p.name (c.Logic p.sort)) xs vs (with_other_values roots names env xs vs values p.name (c.Logic p.sort) (λ s e. cc))

-- ---- values of the parameters

-- what is of the sort of each parameter that is in scope is of the sort of each
each_sorted : (env : Env) (ps qs : List Param) → are_distinct (names_of (ps ++ qs)) ≡ true → ((y : List ℕ) (s : Sort) → param_scope (ps ++ qs) y ≡ Some (Variable s) → has_sort_val s (env y) ≡ true)
    → list_all (λ p. is_storable_sort (Some p.sort)) ps ≡ true → map is (arguments_in env ps) ≡ map (λ p. env p.name) ps
each_sorted env [] qs distinct sorts stored = refl
each_sorted env (p ∷ ps) qs distinct sorts stored =
    let d = both_true (list_all (λ y. others p.name y) (names_of (ps ++ qs))) (are_distinct (names_of (ps ++ qs))) distinct in
    let s = both_true (is_storable p.sort) (list_all (λ q. is_storable_sort (Some q.sort)) ps) stored in
    let first = terms.stored p.sort (env p.name) s.0 (sorts p.name p.sort (ap (λ b. cond b (Some (Variable p.sort)) (param_scope (ps ++ qs) p.name)) (bytes_eq-refl p.name))) in
    let one : is (value_in (env p.name)) ≡ env p.name = ap (λ z. is (value_in z)) first.1 ∙ sym first.1 in
    let rest = each_sorted env ps qs d.1 (λ y r e. sorts y r (behind y r d.0 e)) s.1 in
    λ i. one i ∷ rest i
  where
    behind : (y : List ℕ) (r : Sort) → list_all (λ z. others p.name z) (names_of (ps ++ qs)) ≡ true → param_scope (ps ++ qs) y ≡ Some (Variable r)
        → cond (bytes_eq p.name y) (Some (Variable p.sort)) (param_scope (ps ++ qs) y) ≡ Some (Variable r)
    behind y r differ e = pick (bytes_eq p.name y) refl
      where
        pick : (b : Bool) → bytes_eq p.name y ≡ b → cond b (Some (Variable p.sort)) (param_scope (ps ++ qs) y) ≡ Some (Variable r)
        pick true g =
            let none : param_scope (ps ++ qs) y ≡ None = ap (param_scope (ps ++ qs)) (sym (bytes_eq-true p.name y g)) ∙ no_param p.name (ps ++ qs) differ in
            let never : None ≡ Some (Variable r) = sym none ∙ e in
            cc
        pick false g = e

-- The machine's values at the beginning of a body are the environment's.
pub params_begin : (roots : Names) (instance : Signatures) (env : Env) (base : walk.Scope) (x : Head) → HeadIsInOrder roots instance x → HasSorts env (head_scope x)
    → ((y : List ℕ) (s : Sort) → base y ≡ Some (c.Program s) → ⊥)
    → HaveValues roots (in_command x (with_proc base x)) env (bound_names x.params) (reverse (map is (arguments_in env x.params)))
params_begin roots instance env base x order sorts none =
    let self = with_proc base x in
    let start : HaveValues roots self env [] [] = with_other_values roots base env [] [] (λ y s e. absurd (none y s e)) x.name (c.Proc (signature x)) (λ s e. cc) in
    let all = logic_have_values roots env x.logic (with_params c.Program self x.params) (reverse (names_of x.params) ++ []) (reverse (map (λ p. env p.name) x.params) ++ [])
    (params_have_values roots env x.params self [] [] start) in
    let same : map is (arguments_in env x.params) ≡ map (λ p. env p.name) x.params
    = each_sorted env x.params x.logic (params_differ x order.distinct) (λ y s e. sorts y s (ap (λ z. z y) (head_scope_is x order.distinct) ∙ e)) order.params in
    subst (λ z. HaveValues roots (in_command x self) env z (reverse (map is (arguments_in env x.params)))) (append-nil (bound_names x.params))
    (subst (λ z. HaveValues roots (in_command x self) env (bound_names x.params ++ []) z) (append-nil (reverse (map (λ p. env p.name) x.params)) ∙ ap reverse (sym same)) all)
