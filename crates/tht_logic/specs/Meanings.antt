-- What the predicates of a file mean: each by its definition, in which the earlier ones have their meanings, and the name of one that is
-- defined by cases on a sequence stands for itself at the rest of the sequence.
use Rattle.std.specs.Prelude.{ℕ, Bool, true, false, bytes_eq, List, [], ◌∷◌, map, if◌then◌else◌}
use Rattle.tht_tree.specs.declared.assn.Assn.{Assn}
use Rattle.tht_tree.specs.declared.decl.Param.{Param}
use Rattle.tht_tree.specs.declared.decl.Decl.{Decl}
use Rattle.tht_tree.specs.declared.decl.DeclKind.{DeclKind}
use Rattle.tht_tree.specs.declared.decl.DeclKind.TheVariants as d
use Rattle.tht_tree.specs.Values.{Val, seq, a_nat, seq_of}
use Rattle.tht_tree.specs.declared.file.Source1.{Source1}
use Rattle.tht_tree.specs.Syntax.{Names}
use Rattle.tht_logic.specs.Programs.{root_names}
use Rattle.tht_tree.specs.Heaps.{Heap}
use Rattle.tht_logic.specs.Machine.{no_env}
use Rattle.tht_logic.specs.Assertions.{asn}
use Rattle.tht_logic.specs.Satisfaction.{Meaning, Satisfies}

-- of which heaps a predicate holds, with these arguments
abbrev pub Relation : Type 1
Relation = List Val → Heap → Type 0

abbrev pub no_meaning : Meaning
no_meaning q vs h = ⊥

abbrev pub chosen : Bool → Relation → Relation → Relation
chosen true r s = r
chosen false r s = s

-- with one more name
abbrev pub where_name : List ℕ → Relation → Meaning → Meaning
where_name q r M x = chosen (bytes_eq q x) r (M x)

-- the value of the parameter of this name
abbrev pub value_among : List Param → List Val → List ℕ → Val
value_among (p ∷ ps) (v ∷ vs) x = if bytes_eq p.name x then v else value_among ps vs x
value_among _ _ x = no_env x

abbrev pub names_of : List Param → Names
names_of ps = map (λ p. p.name) ps

-- along a sequence: what holds of `nil`, and of a head and a tail, given what holds of the tail
abbrev pub along : Relation → (Relation → ℕ → List ℕ → Relation) → List ℕ → Relation
along nil cons [] = nil
along nil cons (n ∷ s) = cons (along nil cons s) n s

module _ (roots : Names) where
  -- A definition holds of the heap, where the names that it binds have these values. They are bound, so each comes before a root that has
  -- the same name, since roots that are declared later may have it.
  abbrev pub holds : Meaning → Names → List Val → Assn → Heap → Type 0
  holds M xs vs p h = Satisfies M no_env vs (asn roots xs p) h

  abbrev pub with_meaning_of : Meaning → DeclKind → Meaning
  with_meaning_of M (d.Pred access q ps p) = where_name q (λ vs h. holds M (names_of ps) vs p h) M
  with_meaning_of M (d.PredOn access q ps x nil n s cons) =
      where_name q
      (λ vs h. along
      (λ ws g. holds M (names_of ps) ws nil g)
      (λ self k u ws g. holds (where_name q self M) (n ∷ s ∷ names_of ps) (a_nat k ∷ seq u ∷ ws) cons g)
      (seq_of (value_among ps vs x)) vs h)
      M
  with_meaning_of M _ = M

  abbrev pub with_meanings_of : Meaning → List Decl → Meaning
  with_meanings_of M [] = M
  with_meanings_of M (x ∷ xs) = with_meanings_of (with_meaning_of M x.kind) xs

  -- the meaning of declarations
  abbrev pub meaning : List Decl → Meaning
  meaning = with_meanings_of no_meaning

-- what the predicates of a file mean
abbrev pub meaning_in : Source1 → Meaning
meaning_in file = meaning (root_names file) file.decls
