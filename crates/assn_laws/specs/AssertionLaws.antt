-- The laws of assertions, as statements.
use Rattle.std.specs.Prelude.{◌≡◌, ◌↔◌, ℕ, true, All, List, []}
use Rattle.tht_tree.specs.declared.assn.Assn.{Assn}
use Rattle.tht_tree.specs.Values.{Env}
use Rattle.tht_tree.specs.Syntax.{Names, Trm, lit, free, bound, len, off, neg, op, trm}
use Rattle.tht_tree.specs.Heaps.{Heap}
use Rattle.tht_tree.specs.Normal.Putting.{Puts, put_name, over}
use Rattle.tht_logic.specs.Assertions.{Asn, emp, fact, own, shared, star, inst, exist, either, asn}
use Rattle.tht_logic.specs.Satisfaction.{Meaning, Satisfies, PartsHold}
use Rattle.tht_logic.specs.Putting.{put_in_assn, put_asn}
use Rattle.tht_logic.specs.Alike.{alike}
use Rattle.tht_logic.specs.Flatten.{flatten}

-- the assertion holds of the heap, where these are the roots and no name is bound
abbrev pub Holds : Meaning → Names → Env → Assn → Heap → Type 0
Holds M roots env p h = Satisfies M env [] (asn roots [] p) h

-- a heap satisfies an assertion exactly where it is a disjoint union of heaps, one for each of its atoms
abbrev pub FlatteningKeepsHeaps : Meaning → Type 0
FlatteningKeepsHeaps M = (roots : Names) (env : Env) (p : Assn) (h : Heap) → Holds M roots env p h ↔ PartsHold M roots env (flatten p) h

-- assertions that are alike hold of the same heaps
abbrev pub AlikeHaveTheSameHeaps : Meaning → Type 0
AlikeHaveTheSameHeaps M =
    (roots : Names) (env : Env) (p q : Assn) (h : Heap) → alike p q ≡ true → Holds M roots env p h → Holds M roots env q h

-- P holds of each name in a term, and of each free one in an assertion
abbrev pub EachName : (List ℕ → Type 0) → Trm → Type 0
EachName P (lit v) = Unit {0}
EachName P (free x) = P x
EachName P (bound k) = Unit {0}
EachName P (len a) = EachName P a
EachName P (off k a) = EachName P a
EachName P (neg a) = EachName P a
EachName P (op o a b) = EachName P a × EachName P b

abbrev pub EachFree : (List ℕ → Type 0) → Asn → Type 0
EachFree P emp = Unit {0}
EachFree P (fact t) = EachName P t
EachFree P (own t u) = EachName P t × EachName P u
EachFree P (shared t u) = EachName P t × EachName P u
EachFree P (star p q) = EachFree P p × EachFree P q
EachFree P (inst q ts) = All (EachName P) ts
EachFree P (exist s p) = EachFree P p
EachFree P (either p q) = EachFree P p × EachFree P q

-- Putting in captures nothing: it is putting in where bound variables have no names. (A name that is not replaced stands for itself: for
-- a root, or free.)
abbrev pub PuttingNeverCaptures : Type 0
PuttingNeverCaptures =
    (roots : Names) (by : Puts) (p : Assn) → asn roots [] (put_in_assn by p) ≡ put_asn (λ x. trm roots [] (put_name by x)) (asn [] [] p)

-- what putting in makes of assertions that are alike is one tree
abbrev pub AlikeBecomeOne : Type 0
AlikeBecomeOne = (by : Puts) (p q : Assn) → alike p q ≡ true → put_in_assn by p ≡ put_in_assn by q

-- what is put in has its value: the assertion then holds of the heaps of the one before, where each name, a root's too, has the value of
-- what stands for it
abbrev pub PuttingHasTheHeaps : Meaning → Type 0
PuttingHasTheHeaps M =
    (roots : Names) (env : Env) (by : Puts) (p : Assn) (h : Heap) → Holds M roots env (put_in_assn by p) h ↔ Holds M [] (over roots env by) p h
