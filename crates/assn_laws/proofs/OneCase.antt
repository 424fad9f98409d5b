-- A predicate with one case means its definition: where the names of its body are parameters or roots, and the predicates that it names
-- mean the same in the table by which it is meant.
use Rattle.std.proofs.Common.{◌≡◌, ◌↔◌, ◌⊎◌, ℕ, Bool, true, false, List, [], ◌∷◌, map, Some, Ok, Err, refl, sym, ◌∙◌, ap, subst, inl, inr}
use Rattle.std.proofs.Math.Path.{transport, transport⁻¹}
use Rattle.std.specs.Prelude.{bytes_eq, Result, if◌then◌else◌}
use Rattle.tht_tree.specs.declared.term.Term.{Term}
use Rattle.tht_tree.specs.declared.assn.Assn.{Assn}
use Rattle.tht_tree.specs.declared.decl.Param.{Param}
use Rattle.tht_tree.specs.declared.form.PutEnd.TheVariants.{Large as TooLarge}
use Rattle.tht_tree.specs.Values.{Val, Env, has_sort_val}
use Rattle.tht_tree.specs.Syntax.{Names, position, root_or_free, named}
use Rattle.tht_tree.specs.Terms.{value_of, value}
use Rattle.tht_tree.specs.Heaps.{Heap, Joins}
use Rattle.tht_logic.specs.Machine.{no_env}
use Rattle.tht_tree.specs.Normal.Putting.{Puts, put_name, over}
use Rattle.tht_tree.specs.Rules.Context.{Scope}
use Rattle.tht_tree.specs.Rules.Scoping.{is_of, sort_of}
use Rattle.tht_tree.specs.Rules.Sizes.{assn_fits}
use Rattle.tht_tree.proofs.TermValues.{value-Var}
use Rattle.tht_logic.specs.Assertions.{Asn, emp, fact, own, shared, star, inst, exist, either, asn}
use Rattle.tht_logic.specs.Satisfaction.{Meaning, Satisfies}
use Rattle.tht_logic.specs.Putting.{put_in_assn, put_assn_within}
use Rattle.tht_logic.specs.Rules.Definitions.{DefEnd, arguments, or_large, definition, one_case}
use Rattle.tht_logic.specs.Meanings.{names_of, holds}
use Rattle.tht_logic.specs.Rules.Scoped.{fit}
use Rattle.assn_laws.specs.AssertionLaws.{EachName, EachFree, Holds}
use Rattle.tht_logic.proofs.NamesInTerms.{name_in}
use Rattle.assn_laws.proofs.KnownNames.{both_true}
use Rattle.assn_laws.proofs.PuttingNames.{position_behind}
use Rattle.assn_laws.proofs.ByNames.{value_behind, same_heaps}
use Rattle.assn_laws.proofs.PuttingHeaps.{putting_has_the_heaps}

-- P holds of each predicate that is named
abbrev pub EachNamed : (List ℕ → Type 0) → Asn → Type 0
EachNamed P (inst n ts) = P n
EachNamed P (star p q) = EachNamed P p × EachNamed P q
EachNamed P (exist s p) = EachNamed P p
EachNamed P (either p q) = EachNamed P p × EachNamed P q
EachNamed P _ = Unit {0}

-- an assertion looks at the predicates that it names alone
module _ (P : List ℕ → Type 0) (M N : Meaning) (same : (n : List ℕ) → P n → M n ≡ N n) where
  pub same_table : (env : Env) (vs : List Val) (p : Asn) → EachNamed P p → Satisfies M env vs p ≡ Satisfies N env vs p
  same_table env vs emp k = refl
  same_table env vs (fact u) k = refl
  same_table env vs (own u w) k = refl
  same_table env vs (shared u w) k = refl
  same_table env vs (star p q) k = λ i h. (x y : Heap) × Joins x y h × same_table env vs p k.0 i x × same_table env vs q k.1 i y
  same_table env vs (inst n ts) k = λ i h. same n k i (map (value_of env vs) ts) h
  same_table env vs (exist s p) k = λ i h. (v : Val) × (has_sort_val s v ≡ true) × same_table env (v ∷ vs) p k i h
  same_table env vs (either p q) k = λ i h. same_table env vs p k.0 i h ⊎ same_table env vs q k.1 i h

-- the name of a parameter
abbrev pub is_param : List Param → List ℕ → Bool
is_param [] y = false
is_param (p ∷ ps) y = if bytes_eq p.name y then true else is_param ps y

-- a name of a body: a parameter or a root
abbrev pub InBody : Names → List Param → List ℕ → Type 0
InBody roots ps y = (is_param ps y ≡ true) ⊎ ((r : ℕ) × (position 0 roots y ≡ Some r))

module _ (roots : Names) (env : Env) (scope : Scope) (y : List ℕ) where
  -- a parameter that is bound has the value of its argument, and a root its place
  abbrev SameName : List Param → List Term → Type 0
  SameName ps ts = value_of no_env (map (value roots env) ts) (name_in roots (names_of ps) y) ≡ value roots env (put_name (arguments ps ts) y)

  the_root : InBody roots [] y → SameName [] []
  the_root k = elim k [ inl g ↦ (cc) | inr g ↦ ap (λ o. value_of no_env [] (root_or_free y o)) g.1 ∙ sym (value-Var roots env y ∙ ap (λ o. value_of env [] (root_or_free y o)) g.1) ]

  less_one : (p : Param) (ps : List Param) → bytes_eq p.name y ≡ false → InBody roots (p ∷ ps) y → InBody roots ps y
  less_one p ps e k = elim k [ inl g ↦ inl (sym (ap (λ c. if c then true else is_param ps y) e) ∙ g) | inr g ↦ inr g ]

  pub name_value : (ps : List Param) (ts : List Term) → fit roots scope ps ts ≡ true → InBody roots ps y → SameName ps ts
  name_value [] [] f k = the_root k
  name_value [] (u ∷ ts) f k = cc
  name_value (p ∷ ps) [] f k = cc
  name_value (p ∷ ps) (u ∷ ts) f k =
      pick (bytes_eq p.name y) (λ e. name_value ps ts (both_true (is_of p.sort (sort_of roots scope u)) (fit roots scope ps ts) f).1 (less_one p ps e k)) refl
    where
      pick : (c : Bool) → (bytes_eq p.name y ≡ false → SameName ps ts) → bytes_eq p.name y ≡ c
          → value_of no_env (value roots env u ∷ map (value roots env) ts) (named roots y (if c then Some 0 else position 1 (names_of ps) y)) ≡ value roots env (if c then u else put_name (arguments ps ts) y)
      pick true more e = refl
      pick false more e =
          ap (λ o. value_of no_env (value roots env u ∷ map (value roots env) ts) (named roots y o)) (position_behind 0 (names_of ps) y)
          ∙ value_behind roots no_env (map (value roots env) ts) (value roots env u) y (position 0 (names_of ps) y) ∙ more e

abbrev done : Assn → Result Assn DefEnd
done x = Ok x

done_same : (x y : Assn) → done x ≡ done y → x ≡ y
done_same x y e = cc

-- what a definition is, where it is there
pub made_of : (by : Puts) (p d : Assn) → or_large (put_assn_within by p) ≡ Ok d → put_in_assn by p ≡ d
made_of by p d e = pick (assn_fits (put_in_assn by p)) e
  where
    pick : (c : Bool) → or_large (if c then Ok (put_in_assn by p) else Err TooLarge) ≡ Ok d → put_in_assn by p ≡ d
    pick true g = done_same (put_in_assn by p) d g
    pick false g = cc

module _ (roots : Names) (M N : Meaning) (q : List ℕ) (ps : List Param) (p : Assn) (P : List ℕ → Type 0) (earlier : (n : List ℕ) → P n → M n ≡ N n)
    (means : M q ≡ (λ vs h. holds roots N (names_of ps) vs p h)) (named : EachNamed P (asn roots (names_of ps) p)) (free : EachFree (InBody roots ps) (asn [] [] p)) where
  module _ (scope : Scope) (env : Env) (ts : List Term) (fits : fit roots scope ps ts ≡ true) where
    abbrev by : Puts
    by = arguments ps ts

    abbrev values : List Val
    values = map (value roots env) ts

    same_name : (y : List ℕ) → EachName (InBody roots ps) (name_in [] [] y) → value_of (over roots env by) [] (name_in [] [] y) ≡ value_of no_env values (name_in roots (names_of ps) y)
    same_name y k = sym (name_value roots env scope y ps ts fits k)

    whole : M q values ≡ Satisfies M (over roots env by) [] (asn [] [] p)
    whole =
        ap (λ f. f values) means ∙ sym (same_table P M N earlier no_env values (asn roots (names_of ps) p) named)
        ∙ sym (same_heaps [] roots (InBody roots ps) (over roots env by) no_env M p [] [] values (names_of ps) same_name free)

    pub one_case_means : (d : Assn) (h : Heap) → definition (one_case ps p) ts ≡ Ok d → M q values h ↔ Holds M roots env d h
    one_case_means d h e =
        let made : put_in_assn by p ≡ d = made_of by p d e in
        let both = putting_has_the_heaps M roots env by p h in
        (λ w. subst (λ z. Holds M roots env z h) made (both.1 (transport (λ i. whole i h) w)), λ w. transport⁻¹ (λ i. whole i h) (both.0 (subst (λ z. Holds M roots env z h) (sym made) w)))
