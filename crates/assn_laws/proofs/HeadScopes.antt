-- The parameters and logical variables of a head whose names differ: they are in scope as they stand, and each has the value of its argument.
use Rattle.std.proofs.Common.{◌≡◌, ℕ, Bool, true, false, not, List, [], ◌∷◌, ◌++◌, Option, Some, None, refl, sym, ◌∙◌, ap}
use Rattle.std.proofs.lemmas.List.{map-append}
use Rattle.std.specs.Prelude.{bytes_eq, if◌then◌else◌}
use Rattle.std.specs.List.{list_all}
use Rattle.tht_tree.specs.declared.decl.Param.{Param}
use Rattle.tht_tree.specs.declared.decl.Head.{Head}
use Rattle.tht_tree.specs.declared.state.Local.{Local}
use Rattle.tht_tree.specs.declared.state.Local.TheVariants.{Variable}
use Rattle.tht_tree.specs.declared.term.Term.{Term}
use Rattle.tht_tree.specs.declared.term.Term.TheVariants as t
use Rattle.tht_tree.specs.Values.{Env, value_in}
use Rattle.tht_tree.specs.Syntax.{Names}
use Rattle.tht_tree.specs.Terms.{value}
use Rattle.tht_tree.specs.Normal.Putting.{Puts, put_name, over}
use Rattle.tht_tree.specs.Rules.Context.{Scope, no_locals, with_local}
use Rattle.tht_tree.specs.Rules.Scoping.{is_of, variable_sort, sort_of}
use Rattle.tht_tree.proofs.SameTerm.{bytes_eq-true}
use Rattle.tht_logic.specs.Triples.{arguments_in}
use Rattle.tht_logic.specs.Meanings.{names_of}
use Rattle.tht_logic.specs.Rules.Calls.{call_arguments}
use Rattle.tht_logic.specs.Rules.Definitions.{arguments, with_params, head_scope}
use Rattle.tht_logic.specs.Rules.Scoped.{fit}
use Rattle.assn_laws.specs.Allocs.{values_in}
use Rattle.assn_laws.specs.ControlLaws.{are_distinct, head_names}
use Rattle.assn_laws.proofs.KnownNames.{both_true}
use Rattle.assn_laws.proofs.NewVariable.{bytes_eq-refl}
use Rattle.assn_laws.proofs.Predicates.{param_scope}
use Rattle.assn_laws.proofs.Refusing.{both}

-- ---- names that differ

abbrev pub others : List ℕ → List ℕ → Bool
others x y = not (bytes_eq x y)

pub not_false : (b : Bool) → not b ≡ true → b ≡ false
not_false true e = cc
not_false false e = refl

others_front : (x : List ℕ) (xs ys : Names) → list_all (others x) (xs ++ ys) ≡ true → list_all (others x) xs ≡ true
others_front x [] ys e = refl
others_front x (z ∷ xs) ys e =
    let b = both_true (others x z) (list_all (others x) (xs ++ ys)) e in
    both (others x z) (list_all (others x) xs) b.0 (others_front x xs ys b.1)

pub distinct_front : (xs ys : Names) → are_distinct (xs ++ ys) ≡ true → are_distinct xs ≡ true
distinct_front [] ys e = refl
distinct_front (x ∷ xs) ys e =
    let b = both_true (list_all (others x) (xs ++ ys)) (are_distinct (xs ++ ys)) e in
    both (list_all (others x) xs) (are_distinct xs) (others_front x xs ys b.0) (distinct_front xs ys b.1)

-- the parameters and the logical variables
abbrev pub all_params : Head → List Param
all_params x = x.params ++ x.logic

names_joined : (x : Head) → head_names x ≡ names_of (all_params x) ++ x.result ∷ []
names_joined x = ap (λ z. z ++ x.result ∷ []) (sym (map-append (λ p. p.name) x.params x.logic))

pub params_differ : (x : Head) → are_distinct (head_names x) ≡ true → are_distinct (names_of (all_params x)) ≡ true
params_differ x e = distinct_front (names_of (all_params x)) (x.result ∷ []) (ap are_distinct (sym (names_joined x)) ∙ e)

-- ---- what is in scope

abbrev or_else : Option Local → Option Local → Option Local
or_else (Some l) o = Some l
or_else None o = o

or_none : (o : Option Local) → or_else o None ≡ o
or_none (Some l) = refl
or_none None = refl

pub no_param : (x : List ℕ) (ps : List Param) → list_all (others x) (names_of ps) ≡ true → param_scope ps x ≡ None
no_param x [] e = refl
no_param x (p ∷ ps) e = pick (bytes_eq p.name x) refl (no_param x ps b.1)
  where
    b : (others x p.name ≡ true) × (list_all (others x) (names_of ps) ≡ true)
    b = both_true (others x p.name) (list_all (others x) (names_of ps)) e

    pick : (c : Bool) → bytes_eq p.name x ≡ c → param_scope ps x ≡ None → (if c then Some (Variable p.sort) else param_scope ps x) ≡ None
    pick true g more =
        let same : bytes_eq x p.name ≡ true = ap (bytes_eq x) (bytes_eq-true p.name x g) ∙ bytes_eq-refl x in
        let both_ways : false ≡ true = sym (not_false (bytes_eq x p.name) b.0) ∙ same in
        cc
    pick false g more = more

stand : (ps : List Param) (scope : Scope) → are_distinct (names_of ps) ≡ true → (y : List ℕ) → with_params scope ps y ≡ or_else (param_scope ps y) (scope y)
stand [] scope e y = refl
stand (p ∷ ps) scope e y = stand ps (with_local scope p.name (Variable p.sort)) b.1 y ∙ pick (bytes_eq p.name y) refl
  where
    b : (list_all (others p.name) (names_of ps) ≡ true) × (are_distinct (names_of ps) ≡ true)
    b = both_true (list_all (others p.name) (names_of ps)) (are_distinct (names_of ps)) e

    pick : (c : Bool) → bytes_eq p.name y ≡ c
        → or_else (param_scope ps y) (if c then Some (Variable p.sort) else scope y) ≡ or_else (if c then Some (Variable p.sort) else param_scope ps y) (scope y)
    pick true g = ap (λ o. or_else o (Some (Variable p.sort))) (ap (param_scope ps) (sym (bytes_eq-true p.name y g)) ∙ no_param p.name ps b.0)
    pick false g = refl

params_joined : (ps qs : List Param) (scope : Scope) → with_params (with_params scope ps) qs ≡ with_params scope (ps ++ qs)
params_joined [] qs scope = refl
params_joined (p ∷ ps) qs scope = params_joined ps qs (with_local scope p.name (Variable p.sort))

-- in a head whose names differ the first of a name is the last
pub head_scope_is : (x : Head) → are_distinct (head_names x) ≡ true → head_scope x ≡ param_scope (all_params x)
head_scope_is x e =
    params_joined x.params x.logic no_locals
    ∙ (λ i y. (stand (all_params x) no_locals (params_differ x e) y ∙ or_none (param_scope (all_params x) y)) i)

-- ---- arguments

module _ (roots : Names) (scope : Scope) where
  pub fit_joined : (ps qs : List Param) (ts us : List Term) → fit roots scope ps ts ≡ true → fit roots scope qs us ≡ true → fit roots scope (ps ++ qs) (ts ++ us) ≡ true
  fit_joined [] qs [] us e f = f
  fit_joined (p ∷ ps) qs (a ∷ ts) us e f =
      let b = both_true (is_of p.sort (sort_of roots scope a)) (fit roots scope ps ts) e in
      both (is_of p.sort (sort_of roots scope a)) (fit roots scope (ps ++ qs) (ts ++ us)) b.0 (fit_joined ps qs ts us b.1 f)
  fit_joined [] qs (a ∷ ts) us e f = cc
  fit_joined (p ∷ ps) qs [] us e f = cc

  pub arguments_joined : (ps qs : List Param) (ts us : List Term) → fit roots scope ps ts ≡ true → arguments ps ts ++ arguments qs us ≡ arguments (ps ++ qs) (ts ++ us)
  arguments_joined [] qs [] us e = refl
  arguments_joined (p ∷ ps) qs (a ∷ ts) us e =
      let b = both_true (is_of p.sort (sort_of roots scope a)) (fit roots scope ps ts) e in
      ap (λ z. (p.name, a) ∷ z) (arguments_joined ps qs ts us b.1)
  arguments_joined [] qs (a ∷ ts) us e = cc
  arguments_joined (p ∷ ps) qs [] us e = cc

-- a name that no parameter has stands for itself
pub stands_for_itself : (ps : List Param) (ts : List Term) (y : List ℕ) → variable_sort (param_scope ps y) ≡ None → put_name (arguments ps ts) y ≡ t.Var y
stands_for_itself [] ts y e = refl
stands_for_itself (p ∷ ps) [] y e = refl
stands_for_itself (p ∷ ps) (a ∷ ts) y e = pick (bytes_eq p.name y) e (λ k. stands_for_itself ps ts y k)
  where
    pick : (c : Bool) → variable_sort (if c then Some (Variable p.sort) else param_scope ps y) ≡ None → (variable_sort (param_scope ps y) ≡ None → put_name (arguments ps ts) y ≡ t.Var y)
        → (if c then a else put_name (arguments ps ts) y) ≡ t.Var y
    pick true g more = cc
    pick false g more = more g

-- each parameter has the value of its argument
module _ (roots : Names) (env : Env) where
  others_same : (x : List ℕ) (a : Term) (more : Puts) (ps : List Param) → list_all (others x) (names_of ps) ≡ true
      → arguments_in (over roots env ((x, a) ∷ more)) ps ≡ arguments_in (over roots env more) ps
  others_same x a more [] e = refl
  others_same x a more (p ∷ ps) e =
      let b = both_true (others x p.name) (list_all (others x) (names_of ps)) e in
      let same : value roots env (put_name ((x, a) ∷ more) p.name) ≡ value roots env (put_name more p.name)
      = ap (λ c. value roots env (if c then a else put_name more p.name)) (not_false (bytes_eq x p.name) b.0) in
      λ i. value_in (same i) ∷ others_same x a more ps b.1 i

  pub arguments_are : (scope : Scope) (ps : List Param) (ts : List Term) (more : Puts) → fit roots scope ps ts ≡ true → are_distinct (names_of ps) ≡ true
      → arguments_in (over roots env (arguments ps ts ++ more)) ps ≡ values_in roots env ts
  arguments_are scope [] [] more f e = refl
  arguments_are scope (p ∷ ps) (a ∷ ts) more f e =
      let b = both_true (list_all (others p.name) (names_of ps)) (are_distinct (names_of ps)) e in
      let g = both_true (is_of p.sort (sort_of roots scope a)) (fit roots scope ps ts) f in
      let rest : Puts = arguments ps ts ++ more in
      let its : value roots env (put_name ((p.name, a) ∷ rest) p.name) ≡ value roots env a = ap (λ c. value roots env (if c then a else put_name rest p.name)) (bytes_eq-refl p.name) in
      λ i. value_in (its i) ∷ (others_same p.name a rest ps b.0 ∙ arguments_are scope ps ts more g.1 b.1) i
  arguments_are scope [] (a ∷ ts) more f e = cc
  arguments_are scope (p ∷ ps) [] more f e = cc

-- what is put in for a call, as the arguments of one list
pub call_arguments_are : (roots : Names) (scope : Scope) (x : Head) (ts us : List Term) → fit roots scope x.params ts ≡ true → call_arguments x ts us ≡ arguments (all_params x) (ts ++ us)
call_arguments_are roots scope x ts us e = arguments_joined roots scope x.params x.logic ts us e
