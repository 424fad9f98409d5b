-- Behind an `exists`: its variable as a bound one, and as a name for which a term stands.
use Rattle.std.proofs.Common.{◌≡◌, ℕ, Bool, true, false, is_none, List, [], ◌∷◌, Option, Some, None, refl, ◌∙◌}
use Rattle.std.specs.Prelude.{bytes_eq, if◌then◌else◌}
use Rattle.tht_tree.specs.declared.plain.Sort.{Sort}
use Rattle.tht_tree.specs.declared.state.Local.TheVariants.{Variable}
use Rattle.tht_tree.specs.declared.term.Term.{Term}
use Rattle.tht_tree.specs.declared.term.Term.TheVariants as t
use Rattle.tht_tree.specs.declared.assn.Assn.{Assn}
use Rattle.tht_tree.specs.Values.{Val, Env}
use Rattle.tht_tree.specs.Syntax.{Names, position, root_or_free, named}
use Rattle.tht_tree.specs.Terms.{value_of, value}
use Rattle.tht_tree.specs.Normal.Putting.{Puts, over}
use Rattle.tht_tree.specs.Rules.Context.{Scope, with_local}
use Rattle.tht_tree.specs.Rules.Scoping.{variable_sort, name_sort, sort_at, sort_of}
use Rattle.tht_tree.proofs.TermFolds.{at-Var}
use Rattle.tht_tree.proofs.TermValues.{value-Var}
use Rattle.tht_logic.specs.Assertions.{asn}
use Rattle.tht_logic.specs.Satisfaction.{Meaning, Satisfies}
use Rattle.tht_logic.proofs.NamesInTerms.{name_in}
use Rattle.assn_laws.proofs.FreeNames.{every_free}
use Rattle.assn_laws.proofs.ByNames.{same_heaps}
use Rattle.assn_laws.proofs.PutScoped.{Keep}

-- a name has another place than the name of a root
pub none_there : (o : Option ℕ) → is_none o ≡ true → o ≡ None
none_there None e = refl
none_there (Some k) e = cc

-- one name for which a term stands
module _ (roots : Names) (n : List ℕ) (u : Term) where
  abbrev pub with_one : Puts
  with_one = (n, u) ∷ []

  -- the name has the term's value, whether it is free or bound
  module _ (M : Meaning) (env : Env) where
    abbrev pub its_value : Val
    its_value = value roots env u

    not_bound : (y : List ℕ) (o : Option ℕ) → value_of env [] (root_or_free y o) ≡ value_of env (its_value ∷ []) (root_or_free y o)
    not_bound y (Some k) = refl
    not_bound y None = refl

    same_name : (y : List ℕ) → value_of (over roots env with_one) [] (name_in [] [] y) ≡ value_of env (its_value ∷ []) (name_in roots (n ∷ []) y)
    same_name y = pick (bytes_eq n y)
      where
        pick : (c : Bool) → value roots env (if c then u else t.Var y) ≡ value_of env (its_value ∷ []) (named roots y (if c then Some 0 else None))
        pick true = refl
        pick false = value-Var roots env y ∙ not_bound y (position 0 roots y)

    pub opened : (p : Assn) → Satisfies M (over roots env with_one) [] (asn [] [] p) ≡ Satisfies M env (its_value ∷ []) (asn roots (n ∷ []) p)
    opened p =
        same_heaps [] roots (λ x. Unit {0}) (over roots env with_one) env M p [] [] (its_value ∷ []) (n ∷ []) (λ y q. same_name y)
        (every_free (λ x. Unit {0}) (λ x. tt) (asn [] [] p))

  -- it has a sort behind the binder, and stands for a term of that sort
  module _ (scope : Scope) (r : Sort) (sorted : sort_of roots scope u ≡ Some r) where
    abbrev pub behind : Scope
    behind = with_local scope n (Variable r)

    known_sort : (s : Sort) (o : Option ℕ) → name_sort (Some r) o ≡ Some s → Some r ≡ Some s
    known_sort s o e = e

    pub one_keeps : Keep roots with_one behind scope
    one_keeps y s e = pick (bytes_eq n y) e
      where
        pick : (c : Bool) → name_sort (variable_sort (if c then Some (Variable r) else scope y)) (position 0 roots y) ≡ Some s → sort_of roots scope (if c then u else t.Var y) ≡ Some s
        pick true g = sorted ∙ known_sort s (position 0 roots y) g
        pick false g = at-Var (Option Sort) (sort_at roots scope) y ∙ g
