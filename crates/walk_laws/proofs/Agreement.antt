-- The two folds over a term agree: it has a sort exactly where the walk refuses nothing in it, and then the walk finds that sort.
use Rattle.std.proofs.Common.{◌≡◌, ℕ, Bool, true, false, ◌&&◌, cond, refl, ◌∙◌, ap, subst, List, [], ◌∷◌, Option, Some, None, Result, Ok, Err, nat_le}
use Rattle.tht_tree.specs.declared.plain.Sort.{Sort}
use Rattle.tht_tree.specs.declared.plain.Sort.TheVariants as sort
use Rattle.tht_tree.specs.declared.term.Term.{Term}
use Rattle.tht_tree.specs.declared.term.Term.TheVariants as t
use Rattle.tht_tree.specs.declared.term.Term.TheOpen as f
use Rattle.tht_tree.proofs.TermFolds as p
use Rattle.tht_tree.specs.declared.walk.WalkCode.{WalkCode}
use Rattle.tht_tree.specs.declared.walk.WalkCode.TheVariants.{S1, S2}
use Rattle.tht_tree.specs.Walk.Codes.{line_of, first, first_of, unless}
use Rattle.tht_tree.specs.declared.walk.Class.{Class}
use Rattle.tht_tree.specs.declared.walk.Class.TheVariants.{Root, Predicate, Lemma, Txn, Proc, Program, Logic, Hypothesis}
use Rattle.tht_tree.specs.Walk.Names.{Scope}
use Rattle.tht_tree.specs.declared.walk.SortEnd.{SortEnd}
use Rattle.tht_tree.specs.declared.walk.SortEnd.TheVariants.{LogicOnly}
use Rattle.tht_tree.specs.declared.walk.Found.{Found}
use Rattle.tht_tree.specs.Walk.Sorts.{same_sort, part, parts, logic_only, of_sort, name_sort, sort_at, sort_of, clash, wants, found_of, of_logic, agree, found_name, found_at, found}

abbrev Refuses : Option WalkCode → Type 0
Refuses None = ⊥
Refuses (Some c) = Unit {0}

-- one test: nothing is wrong, or something is
abbrev Same : Option SortEnd → Option WalkCode → Type 0
Same None c = c ≡ None
Same (Some e) c = Refuses c

-- a term: both find this sort, or both that something is wrong
abbrev pub Agree : Result Sort SortEnd → Found → Type 0
Agree (Ok s) x = (x.code ≡ None) × (x.sort ≡ Some s)
Agree (Err e) x = Refuses x.code

some_if : (b : Bool) (c d : WalkCode) → Refuses (cond b (Some c) (Some d))
some_if true c d = tt
some_if false c d = tt

first_refuses : (c d : Option WalkCode) → Refuses c → Refuses (first c d)
first_refuses None d h = absurd h
first_refuses (Some c) None h = tt
first_refuses (Some c) (Some d) h = some_if (nat_le (line_of c) (line_of d)) c d

then_refuses : (c d : Option WalkCode) → Refuses d → Refuses (first c d)
then_refuses None d h = h
then_refuses (Some c) None h = absurd h
then_refuses (Some c) (Some d) h = some_if (nat_le (line_of c) (line_of d)) c d

both_pass : (c d : Option WalkCode) → c ≡ None → d ≡ None → first c d ≡ None
both_pass None d e h = h
both_pass (Some c) d e h = cc

one : (s : Sort) (e : Option SortEnd) (c : Option WalkCode) → Same e c → Agree (of_sort s (e ∷ [])) (found_of s c)
one s None c h = (h, refl)
one s (Some e) c h = h

two : (s : Sort) (e e' : Option SortEnd) (c c' : Option WalkCode) → Same e c → Same e' c' → Agree (of_sort s (e ∷ e' ∷ [])) (found_of s (first c c'))
two s None None c c' h h' = (both_pass c c' h h', refl)
two s None (Some e') c c' h h' = then_refuses c c' h'
two s (Some e) e' c c' h h' = first_refuses c c' h

three : (s : Sort) (e e' e'' : Option SortEnd) (c c' c'' : Option WalkCode) → Same e c → Same e' c' → Same e'' c''
    → Agree (of_sort s (e ∷ e' ∷ e'' ∷ [])) (found_of s (first_of (c ∷ c' ∷ c'' ∷ [])))
three s (Some e) e' e'' c c' c'' h h' h'' = first_refuses c (first c' c'') h
three s None (Some e') e'' c c' c'' h h' h'' = then_refuses c (first c' c'') (first_refuses c' c'' h')
three s None None (Some e'') c c' c'' h h' h'' = then_refuses c (first c' c'') (then_refuses c' c'' h'')
three s None None None c c' c'' h h' h'' = (both_pass c (first c' c'') h (both_pass c' c'' h' h''), refl)

clash_same : (b : Bool) (e : SortEnd) → Same (cond b None (Some e)) (unless b S1)
clash_same true e = refl
clash_same false e = tt

part_same : (s : Sort) (a : Result Sort SortEnd) (x : Found) → Agree a x → Same (part s a) (wants s x)
part_same s (Err e) x h = first_refuses x.code (clash s x.sort) h
part_same s (Ok r) x h = rw (h.0, h.1) (clash_same (same_sort s r) _)

parts_same : (a b : Result Sort SortEnd) (x y : Found) → Agree a x → Agree b y
    → Same (parts a b) (first_of (x.code ∷ y.code ∷ agree x.sort y.sort ∷ []))
parts_same (Err e) b x y h k = first_refuses x.code _ h
parts_same (Ok s) b x y h k = rw (h.0, h.1) (part_same s b y k)

logic_same : (program : Bool) → Same (logic_only program) (of_logic program)
logic_same true = tt
logic_same false = refl

name_agrees : (program : Bool) (x : List ℕ) (c : Option Class) → Agree (name_sort program x c) (found_name program c)
name_agrees program x None = tt
name_agrees program x (Some Root) = (refl, refl)
name_agrees program x (Some (Program s)) =
    let in_program = program && same_sort s sort.Seq in
    one s (logic_only in_program) (of_logic in_program) (logic_same in_program)
name_agrees program x (Some (Logic s)) = one s (logic_only program) (of_logic program) (logic_same program)
name_agrees program x (Some (Predicate a ss n)) = tt
name_agrees program x (Some (Lemma ss n)) = tt
name_agrees program x (Some (Txn f)) = tt
name_agrees program x (Some (Proc f)) = tt
name_agrees program x (Some Hypothesis) = tt

module _ (scope : Scope) (program : Bool) where
  abbrev S : f.Term-F (Result Sort SortEnd) → Result Sort SortEnd
  S = sort_at scope program

  abbrev F : f.Term-F Found → Found
  F = found_at scope program

  abbrev A : Term → Type 0
  A x = Agree (sort_of scope program x) (found scope program x)

  -- what both say of a term from its level
  from : {a a' : Result Sort SortEnd} {x x' : Found} → a ≡ a' → x ≡ x' → Agree a' x' → Agree a x
  from e h k = rw (e, h) k

  abbrev so : Term → Result Sort SortEnd
  so x = sort_of scope program x

  abbrev fo : Term → Found
  fo x = found scope program x

  in_one : (s r : Sort) (a : Term) → A a → Agree (of_sort s (part r (so a) ∷ [])) (found_of s (wants r (fo a)))
  in_one s r a h = one s (part r (so a)) (wants r (fo a)) (part_same r (so a) (fo a) h)

  in_two : (s r q : Sort) (a b : Term) → A a → A b
      → Agree (of_sort s (part r (so a) ∷ part q (so b) ∷ [])) (found_of s (first (wants r (fo a)) (wants q (fo b))))
  in_two s r q a b h k =
      two s (part r (so a)) (part q (so b)) (wants r (fo a)) (wants q (fo b)) (part_same r (so a) (fo a) h) (part_same q (so b) (fo b) k)

  in_three : (s r q : Sort) (a b : Term) → A a → A b
      → Agree (of_sort s (part r (so a) ∷ part q (so b) ∷ logic_only program ∷ []))
      (found_of s (first_of (wants r (fo a) ∷ wants q (fo b) ∷ of_logic program ∷ [])))
  in_three s r q a b h k =
      three s (part r (so a)) (part q (so b)) (logic_only program) (wants r (fo a)) (wants q (fo b)) (of_logic program)
      (part_same r (so a) (fo a) h) (part_same q (so b) (fo b) k) (logic_same program)

  in_equation : (a b : Term) → A a → A b
      → Agree (of_sort sort.Bool (parts (so a) (so b) ∷ []))
      (found_of sort.Bool (first_of ((fo a).code ∷ (fo b).code ∷ agree (fo a).sort (fo b).sort ∷ [])))
  in_equation a b h k = one sort.Bool _ _ (parts_same (so a) (so b) (fo a) (fo b) h k)

  pub agrees : (x : Term) → A x
  unfolding sort_of found
  agrees (t.Num n) = from (p.at-Num _ S n) (p.at-Num _ F n) (refl, refl)
  agrees t.True = from (p.at-True _ S) (p.at-True _ F) (refl, refl)
  agrees t.False = from (p.at-False _ S) (p.at-False _ F) (refl, refl)
  agrees t.Null = from (p.at-Null _ S) (p.at-Null _ F) (refl, refl)
  agrees t.Nil = from (p.at-Nil _ S) (p.at-Nil _ F) (one sort.Seq (logic_only program) (of_logic program) (logic_same program))
  agrees t.Unit = from (p.at-Unit _ S) (p.at-Unit _ F) (refl, refl)
  agrees (t.Var x) = from (p.at-Var _ S x) (p.at-Var _ F x) (name_agrees program x (scope x))
  agrees (p.Len a) = subst A (p.Len-is a) (from (p.at-Len _ S a) (p.at-Len _ F a) (in_one sort.Nat sort.Seq a (agrees a)))
  agrees (p.Offset a n) = subst A (p.Offset-is a n) (from (p.at-Offset _ S a n) (p.at-Offset _ F a n) (in_one sort.Loc sort.Loc a (agrees a)))
  agrees (p.Mul a b) = subst A (p.Mul-is a b) (from (p.at-Mul _ S a b) (p.at-Mul _ F a b) (in_two sort.Nat sort.Nat sort.Nat a b (agrees a) (agrees b)))
  agrees (p.Add a b) = subst A (p.Add-is a b) (from (p.at-Add _ S a b) (p.at-Add _ F a b) (in_two sort.Nat sort.Nat sort.Nat a b (agrees a) (agrees b)))
  agrees (p.Sub a b) = subst A (p.Sub-is a b) (from (p.at-Sub _ S a b) (p.at-Sub _ F a b) (in_two sort.Nat sort.Nat sort.Nat a b (agrees a) (agrees b)))
  agrees (p.Cons a b) = subst A (p.Cons-is a b) (from (p.at-Cons _ S a b) (p.at-Cons _ F a b) (in_three sort.Seq sort.Nat sort.Seq a b (agrees a) (agrees b)))
  agrees (p.Cat a b) = subst A (p.Cat-is a b) (from (p.at-Cat _ S a b) (p.at-Cat _ F a b) (in_three sort.Seq sort.Seq sort.Seq a b (agrees a) (agrees b)))
  agrees (p.Eq a b) = subst A (p.Eq-is a b) (from (p.at-Eq _ S a b) (p.at-Eq _ F a b) (in_equation a b (agrees a) (agrees b)))
  agrees (p.Lt a b) = subst A (p.Lt-is a b) (from (p.at-Lt _ S a b) (p.at-Lt _ F a b) (in_two sort.Bool sort.Nat sort.Nat a b (agrees a) (agrees b)))
  agrees (p.Le a b) = subst A (p.Le-is a b) (from (p.at-Le _ S a b) (p.at-Le _ F a b) (in_two sort.Bool sort.Nat sort.Nat a b (agrees a) (agrees b)))
  agrees (p.Not a) = subst A (p.Not-is a) (from (p.at-Not _ S a) (p.at-Not _ F a) (in_one sort.Bool sort.Bool a (agrees a)))
  agrees (p.And a b) = subst A (p.And-is a b) (from (p.at-And _ S a b) (p.at-And _ F a b) (in_two sort.Bool sort.Bool sort.Bool a b (agrees a) (agrees b)))
  agrees (p.Or a b) = subst A (p.Or-is a b) (from (p.at-Or _ S a b) (p.at-Or _ F a b) (in_two sort.Bool sort.Bool sort.Bool a b (agrees a) (agrees b)))
  agrees (p.Imp a b) = subst A (p.Imp-is a b) (from (p.at-Imp _ S a b) (p.at-Imp _ F a b) (in_two sort.Bool sort.Bool sort.Bool a b (agrees a) (agrees b)))

-- a variable of the program that stands for a sequence is of the logic alone
module _ (scope : Scope) (x : List ℕ) (known : scope x ≡ Some (Program sort.Seq)) where
  pub sequence_has_no_sort : sort_of scope true (t.Var x) ≡ Err LogicOnly
  unfolding sort_of
  sequence_has_no_sort = p.at-Var _ (sort_at scope true) x ∙ ap (name_sort true x) known

  pub sequence_is_refused : (found scope true (t.Var x)).code ≡ Some S2
  unfolding found
  sequence_is_refused = ap (λ y. y.code) (p.at-Var _ (found_at scope true) x) ∙ ap (λ c. (found_name true c).code) known
