-- What the calls of this crate keep of heaps, where predicates mean what any declarations say.
use Rattle.std.specs.Prelude.{◌≡◌, ◌↔◌, ℕ, true, List, [], Option, None, map}
use Rattle.tht_tree.specs.declared.term.Term.{Term}
use Rattle.tht_tree.specs.declared.assn.Assn.{Assn}
use Rattle.tht_tree.specs.declared.decl.Decl.{Decl}
use Rattle.tht_tree.specs.Values.{Env}
use Rattle.tht_tree.specs.Syntax.{Names, trm}
use Rattle.tht_tree.specs.Terms.{value}
use Rattle.tht_tree.specs.Heaps.{Heap, Joins}
use Rattle.tht_tree.specs.Normal.Putting.{Puts, put_name, over}
use Rattle.tht_tree.specs.Rules.Context.{Scope}
use Rattle.tht_logic.specs.Assertions.{asn}
use Rattle.tht_logic.specs.Satisfaction.{PartsHold}
use Rattle.tht_logic.specs.Meanings.{meaning}
use Rattle.tht_logic.specs.Putting.{put_asn}
use Rattle.tht_logic.specs.Rules.Definitions.{Predicate, Declarations, predicates_of}
use Rattle.tht_logic.specs.Rules.Scoped.{instance_fits}
use Rattle.assn_laws.specs.AssertionLaws.{Holds}
use Rattle.assn_laws.specs.Laws.{IsScope}
use Rattle.assn_laws.proofs.Predicates.{AreDefinedByEarlier}

-- a heap satisfies the list exactly where it is a disjoint union of one for the list of before and one for the assertion
abbrev pub AddsItsHeaps : List Assn → List Assn → Assn → Type 0
AddsItsHeaps before after p =
    (roots : Names) (decls : List Decl) (env : Env) (h : Heap)
    → PartsHold (meaning roots decls) roots env after h
    ↔ ((x y : Heap) × Joins x y h × PartsHold (meaning roots decls) roots env before x × Holds (meaning roots decls) roots env p y)

-- the two hold of the same heaps
abbrev pub HaveTheSameHeaps : Assn → Assn → Type 0
HaveTheSameHeaps p q =
    (roots : Names) (decls : List Decl) (env : Env) (h : Heap)
    → Holds (meaning roots decls) roots env p h ↔ Holds (meaning roots decls) roots env q h

-- what is made holds of the heaps of the assertion in which each name, a root's too, has the value of what stands for it
abbrev pub HasTheHeaps : Puts → Assn → Assn → Type 0
HasTheHeaps by p made =
    (roots : Names) (decls : List Decl) (env : Env) (h : Heap)
    → Holds (meaning roots decls) roots env made h ↔ Holds (meaning roots decls) [] (over roots env by) p h

-- no name that is put in is captured: it is putting in where bound variables have no names
abbrev pub CapturesNothing : Puts → Assn → Assn → Type 0
CapturesNothing by p made = (roots : Names) → asn roots [] made ≡ put_asn (λ x. trm roots [] (put_name by x)) (asn [] [] p)

-- Where each predicate is defined by earlier ones, an instance of this one with arguments that fit holds of the same heaps as what is made.
abbrev pub MeansItsDefinition : Option Predicate → List Term → Assn → Type 0
MeansItsDefinition known ts made =
    (decl : Declarations) (decls : List Decl) → ((q : List ℕ) → decl.predicates q ≡ predicates_of decls q)
    → AreDefinedByEarlier decl.proofs.roots (λ q. None) decls
    → (scope : Scope) (env : Env) → IsScope decl.proofs.roots scope env
    → (q : List ℕ) → decl.predicates q ≡ known → instance_fits decl scope q ts ≡ true
    → (h : Heap) → meaning decl.proofs.roots decls q (map (value decl.proofs.roots env) ts) h ↔ Holds (meaning decl.proofs.roots decls) decl.proofs.roots env made h
