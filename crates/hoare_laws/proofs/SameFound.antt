-- A term of the program in which the walk over names and sorts refuses nothing is found the same where it may be one of the logic, and other
-- names are in scope, but for the variables of the program and the roots.
use Rattle.std.proofs.Common.{◌≡◌, ℕ, true, false, List, Option, Some, refl, sym, ◌∙◌, ap}
use Rattle.tht_tree.specs.declared.plain.Sort.{Sort}
use Rattle.tht_tree.specs.declared.plain.Sort.TheVariants as sort
use Rattle.tht_tree.specs.declared.term.Term.{Term, map-Term}
use Rattle.tht_tree.specs.declared.term.Term.TheOpen.{Term-F}
use Rattle.tht_tree.specs.declared.term.Term.TheOpen as f
use Rattle.tht_tree.specs.declared.walk.Found.{Found}
use Rattle.tht_tree.specs.declared.walk.WalkCode.{WalkCode}
use Rattle.tht_tree.specs.declared.walk.WalkCode.TheVariants.{S2}
use Rattle.tht_tree.specs.Walk.Codes.{first}
use Rattle.tht_tree.specs.Walk.Names as walk
use Rattle.tht_tree.specs.Walk.Sorts.{clash, wants, agree, found_name, found_of, found_at, found}
use Rattle.tht_tree.proofs.TermInduction.{OfParts, by_parts}
use Rattle.walk_laws.proofs.Levels.{found_is}
use Rattle.proof_laws.proofs.WalkedTerms.{no_walk_code, first_none}

-- a name of the program is found the same
abbrev pub SameNames : walk.Scope → walk.Scope → Type 0
SameNames names other = (x : List ℕ) → (found_name true (names x)).code ≡ no_walk_code → found_name false (other x) ≡ found_name true (names x)

module _ (names other : walk.Scope) (same : SameNames names other) where
  abbrev fo : Term → Found
  fo = found names true

  abbrev go : Term → Found
  go = found other false

  abbrev IsSame : Term → Type 0
  IsSame u = (fo u).code ≡ no_walk_code → go u ≡ fo u

  abbrev SameAt : Term-F Term → Type 0
  SameAt x = (found_at names true (map-Term Term Found fo x)).code ≡ no_walk_code → found_at other false (map-Term Term Found go x) ≡ found_at names true (map-Term Term Found fo x)

  one : (r s : Sort) (a : Term) → IsSame a → wants r (fo a) ≡ no_walk_code → found_of s (wants r (go a)) ≡ found_of s (wants r (fo a))
  one r s a h e = ap (λ z. found_of s (wants r z)) (h (first_none (fo a).code (clash r (fo a).sort) e).0)

  two : (r s : Sort) (a b : Term) → IsSame a → IsSame b → first (wants r (fo a)) (wants r (fo b)) ≡ no_walk_code
      → found_of s (first (wants r (go a)) (wants r (go b))) ≡ found_of s (first (wants r (fo a)) (wants r (fo b)))
  two r s a b h k e =
      let parts = first_none (wants r (fo a)) (wants r (fo b)) e in
      let left = h (first_none (fo a).code (clash r (fo a).sort) parts.0).0 in
      let right = k (first_none (fo b).code (clash r (fo b).sort) parts.1).0 in
      λ i. found_of s (first (wants r (left i)) (wants r (right i)))

  of_logic_alone : (x : Option WalkCode) → first x (Some S2) ≡ no_walk_code → ⊥
  of_logic_alone x e = let never = (first_none x (Some S2) e).1 in cc

  level : (x : Term-F Term) → OfParts IsSame x → SameAt x
  level (f.Num n) h e = refl
  level f.True h e = refl
  level f.False h e = refl
  level f.Null h e = refl
  level f.Nil h e = cc
  level f.Unit h e = refl
  level (f.Var x) h e = same x e
  level (f.Len a) h e = one sort.Seq sort.Nat a h e
  level (f.Offset a k) h e = one sort.Loc sort.Loc a h e
  level (f.Not a) h e = one sort.Bool sort.Bool a h e
  level (f.Mul a b) h e = two sort.Nat sort.Nat a b h.0 h.1 e
  level (f.Add a b) h e = two sort.Nat sort.Nat a b h.0 h.1 e
  level (f.Sub a b) h e = two sort.Nat sort.Nat a b h.0 h.1 e
  level (f.Lt a b) h e = two sort.Nat sort.Bool a b h.0 h.1 e
  level (f.Le a b) h e = two sort.Nat sort.Bool a b h.0 h.1 e
  level (f.And a b) h e = two sort.Bool sort.Bool a b h.0 h.1 e
  level (f.Or a b) h e = two sort.Bool sort.Bool a b h.0 h.1 e
  level (f.Imp a b) h e = two sort.Bool sort.Bool a b h.0 h.1 e
  level (f.Cons a b) h e =
      let p = first_none (wants sort.Nat (fo a)) (first (wants sort.Seq (fo b)) (Some S2)) e in
      absurd (of_logic_alone (wants sort.Seq (fo b)) p.1)
  level (f.Cat a b) h e =
      let p = first_none (wants sort.Seq (fo a)) (first (wants sort.Seq (fo b)) (Some S2)) e in
      absurd (of_logic_alone (wants sort.Seq (fo b)) p.1)
  level (f.Eq a b) h e =
      let p = first_none (fo a).code (first (fo b).code (agree (fo a).sort (fo b).sort)) e in
      let q = first_none (fo b).code (agree (fo a).sort (fo b).sort) p.1 in
      let left = h.0 p.0 in
      let right = h.1 q.0 in
      λ i. found_of sort.Bool (first (left i).code (first (right i).code (agree (left i).sort (right i).sort)))

  pub same_found : (u : Term) → (fo u).code ≡ no_walk_code → go u ≡ fo u
  same_found = by_parts IsSame (λ x h e. found_is other false x ∙ level x h (sym (ap (λ z. z.code) (found_is names true x)) ∙ e) ∙ sym (found_is names true x))
