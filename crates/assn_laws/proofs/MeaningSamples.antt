-- What predicates mean whose parameters, head and tail have the names of roots that are declared later: each such name is what it was where
-- the predicate was declared.
use Rattle.std.proofs.Common.{◌≡◌, ℕ, true, List, [], ◌∷◌, refl, sym, subst}
use Rattle.tht_tree.specs.declared.plain.Sort.TheVariants as sort
use Rattle.tht_tree.specs.declared.term.Term.TheVariants as t
use Rattle.tht_tree.specs.declared.assn.Assn.{Assn}
use Rattle.tht_tree.specs.declared.assn.Assn.TheVariants as a
use Rattle.tht_tree.specs.declared.decl.Access.TheVariants.{Private}
use Rattle.tht_tree.specs.declared.decl.Decl.{Decl}
use Rattle.tht_tree.specs.declared.decl.DeclKind.TheVariants as d
use Rattle.tht_tree.specs.Values.{Val, seq, Env, a_nat, a_bool}
use Rattle.tht_tree.specs.Syntax.{Names, Trm, lit, bound, op, eq}
use Rattle.tht_tree.specs.Terms.{value_of}
use Rattle.tht_tree.specs.Heaps.{Heap, IsEmpty}
use Rattle.tht_logic.specs.Machine.{no_env}
use Rattle.tht_logic.specs.Assertions.{fact, asn}
use Rattle.tht_logic.specs.Satisfaction.{Meaning, Satisfies}
use Rattle.tht_logic.specs.Meanings.{Relation, no_meaning, where_name, along, holds, meaning}
use Rattle.assn_laws.proofs.Samples.{x, sq, n, cell, list, at, num, var, param, by_levels}

-- the roots x and n
abbrev roots : Names
roots = x ∷ n ∷ []

fact_holds : (M : Meaning) (env : Env) (vs : List Val) (xs : Names) (p : Assn) (u : Trm) (h : Heap) → asn roots xs p ≡ fact u → IsEmpty h → value_of env vs u ≡ a_bool true
    → Satisfies M env vs (asn roots xs p) h
fact_holds M env vs xs p u h is empty e = subst (λ z. Satisfies M env vs z h) (sym is) (empty, e)

-- [x = 1] and [n = 1]
abbrev one : List ℕ → Assn
one v = a.Fact (t.Eq (var v) (num 1))

-- pred c (x : nat) = [x = 1];
abbrev of_parameter : Decl
of_parameter = record { spot = at 1; kind = d.Pred Private cell (param x sort.Nat ∷ []) (one x) }

parameter_is : asn roots (x ∷ []) (one x) ≡ fact (op eq (bound 0) (lit (a_nat 1)))
parameter_is = simp by_levels

parameter_before_root : (h : Heap) → IsEmpty h → meaning roots (of_parameter ∷ []) cell (a_nat 1 ∷ []) h
parameter_before_root h empty = fact_holds no_meaning no_env (a_nat 1 ∷ []) (x ∷ []) (one x) (op eq (bound 0) (lit (a_nat 1))) h parameter_is empty refl

-- pred l (s : seq) on s nil = emp cons n x = [n = 1];
abbrev of_head : Decl
of_head = record { spot = at 1; kind = d.PredOn Private list (param sq sort.Seq ∷ []) sq a.Emp n x (one n) }

head_is : asn roots (n ∷ x ∷ sq ∷ []) (one n) ≡ fact (op eq (bound 0) (lit (a_nat 1)))
head_is = simp by_levels

abbrev nil_case : Relation
nil_case ws g = holds roots no_meaning (sq ∷ []) ws a.Emp g

abbrev cons_case : Relation → ℕ → List ℕ → Relation
cons_case self k u ws g = holds roots (where_name list self no_meaning) (n ∷ x ∷ sq ∷ []) (a_nat k ∷ seq u ∷ ws) (one n) g

head_before_root : (h : Heap) → IsEmpty h → meaning roots (of_head ∷ []) list (seq (1 ∷ 2 ∷ []) ∷ []) h
head_before_root h empty =
    fact_holds (where_name list (along nil_case cons_case (2 ∷ [])) no_meaning) no_env (a_nat 1 ∷ seq (2 ∷ []) ∷ seq (1 ∷ 2 ∷ []) ∷ []) (n ∷ x ∷ sq ∷ []) (one n)
    (op eq (bound 0) (lit (a_nat 1))) h head_is empty refl
