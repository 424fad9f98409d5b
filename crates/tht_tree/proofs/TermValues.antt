-- What the sort of a term says of its values.
use Rattle.std.proofs.Common.{◌≡◌, ℕ, Bool, true, false, ◌&&◌, not, cond, List, [], length, Option, Some, None, refl, sym, ◌∙◌, ap, subst, ◌⊎◌, inl, inr}
use Rattle.tht_tree.specs.declared.term.Term.{Term, roll-Term, map-Term}
use Rattle.tht_tree.specs.declared.term.Term.TheVariants as t
use Rattle.tht_tree.specs.declared.term.Term.TheOpen.{Term-F}
use Rattle.tht_tree.specs.declared.term.Term.TheOpen as f
use Rattle.tht_tree.specs.declared.plain.Sort.{Sort}
use Rattle.tht_tree.specs.declared.plain.Sort.TheVariants as sort
use Rattle.tht_tree.specs.declared.plain.Value.{Value}
use Rattle.tht_tree.specs.declared.plain.Value.TheVariants as v
use Rattle.tht_tree.specs.declared.state.Local.{Local}
use Rattle.tht_tree.specs.declared.state.Local.TheVariants.{Variable, Hypothesis}
use Rattle.tht_tree.specs.Values.{Val, is, seq, bool_of, place_of, seq_of, a_nat, a_bool, a_place, Env, has_sort, has_sort_val, is_storable}
use Rattle.tht_tree.specs.Syntax.{Trm, Names, add, sub, mul, cons, cat, eq, lt, le, conj, disj, imp, root_or_free, named, position, trm, trm_at}
use Rattle.tht_tree.specs.Terms.{value_of, value, apply, offset_by}
use Rattle.tht_tree.specs.Satisfaction.{HasSorts}
use Rattle.tht_tree.specs.Rules.Context.{Scope}
use Rattle.tht_tree.specs.Rules.Scoping.{same_sort, variable_sort, name_sort, both_of, equation_sort, cons_sort, len_sort, offset_sort, not_sort, sort_at, sort_of}
use Rattle.tht_tree.proofs.TermFolds.{at-Var, at-Eq}
use Rattle.tht_tree.proofs.TermInduction.{fold_level, OfParts, by_parts}

-- ---- sorts of the parts

pub same_sort-true : (s r : Sort) → same_sort s r ≡ true → s ≡ r
same_sort-true sort.Nat sort.Nat e = refl
same_sort-true sort.Bool sort.Bool e = refl
same_sort-true sort.Loc sort.Loc e = refl
same_sort-true sort.Unit sort.Unit e = refl
same_sort-true sort.Seq sort.Seq e = refl
same_sort-true _ _ e = cc

some_sort : (r s : Sort) → Some r ≡ Some s → s ≡ r
some_sort r s e = cc

no_sort : (s : Sort) → None ≡ Some s → ⊥
no_sort s e = cc

both_true : (a b : Bool) → (a && b) ≡ true → (a ≡ true) × (b ≡ true)
both_true true b e = (refl, e)
both_true false b e = cc

if_sort : (c : Bool) (q s : Sort) → cond c (Some q) None ≡ Some s → (c ≡ true) × (s ≡ q)
if_sort true q s e = (refl, some_sort q s e)
if_sort false q s e = cc

both_parts : (r : Sort) (a b : Option Sort) (q s : Sort) → both_of r a b q ≡ Some s → (a ≡ Some r) × (b ≡ Some r) × (s ≡ q)
both_parts r None b q s e = cc
both_parts r (Some a) None q s e = cc
both_parts r (Some a) (Some b) q s e =
    let h = if_sort (same_sort r a && same_sort r b) q s e in
    let both = both_true (same_sort r a) (same_sort r b) h.0 in
    (ap Some (sym (same_sort-true r a both.0)), ap Some (sym (same_sort-true r b both.1)), h.1)

equation_parts : (a b : Option Sort) (s : Sort) → equation_sort a b ≡ Some s → (r : Sort) × (q : Sort) × (a ≡ Some r) × (b ≡ Some q) × (same_sort r q ≡ true) × (s ≡ sort.Bool)
equation_parts None b s e = cc
equation_parts (Some r) None s e = cc
equation_parts (Some r) (Some q) s e = let h = if_sort (same_sort r q) sort.Bool s e in (r, q, refl, refl, h.0, h.1)

cons_parts : (a b : Option Sort) (s : Sort) → cons_sort a b ≡ Some s → (a ≡ Some sort.Nat) × (b ≡ Some sort.Seq) × (s ≡ sort.Seq)
cons_parts (Some sort.Nat) (Some sort.Seq) s e = (refl, refl, some_sort sort.Seq s e)
cons_parts _ _ s e = cc

len_part : (a : Option Sort) (s : Sort) → len_sort a ≡ Some s → (a ≡ Some sort.Seq) × (s ≡ sort.Nat)
len_part (Some sort.Seq) s e = (refl, some_sort sort.Nat s e)
len_part _ s e = cc

offset_part : (a : Option Sort) (s : Sort) → offset_sort a ≡ Some s → (a ≡ Some sort.Loc) × (s ≡ sort.Loc)
offset_part (Some sort.Loc) s e = (refl, some_sort sort.Loc s e)
offset_part _ s e = cc

not_part : (a : Option Sort) (s : Sort) → not_sort a ≡ Some s → (a ≡ Some sort.Bool) × (s ≡ sort.Bool)
not_part (Some sort.Bool) s e = (refl, some_sort sort.Bool s e)
not_part _ s e = cc

-- a name that has a sort is a variable, or a root's
name_parts : (l : Option Local) (o : Option ℕ) (s : Sort) → name_sort (variable_sort l) o ≡ Some s
    → (l ≡ Some (Variable s)) ⊎ ((r : ℕ) × (o ≡ Some r) × (variable_sort l ≡ None) × (s ≡ sort.Loc))
name_parts (Some (Variable r)) o s e = inl (ap (λ z. Some (Variable z)) (sym (some_sort r s e)))
name_parts (Some Hypothesis) (Some r) s e = inr (r, refl, refl, some_sort sort.Loc s e)
name_parts (Some Hypothesis) None s e = cc
name_parts None (Some r) s e = inr (r, refl, refl, some_sort sort.Loc s e)
name_parts None None s e = cc

-- ---- levels of sorts and values

sort_level : (roots : Names) (scope : Scope) (x : Term-F Term) → sort_of roots scope (roll-Term x) ≡ sort_at roots scope (map-Term Term (Option Sort) (sort_of roots scope) x)
sort_level roots scope x = fold_level (sort_at roots scope) x

value_level : (roots : Names) (e : Env) (vs : List Val) (xs : Names) (x : Term-F Term)
    → value_of e vs (trm roots xs (roll-Term x)) ≡ value_of e vs (trm_at roots xs (map-Term Term Trm (trm roots xs) x))
value_level roots e vs xs x = ap (value_of e vs) (fold_level (trm_at roots xs) x)

pub value-Var : (roots : Names) (e : Env) (x : List ℕ) → value roots e (t.Var x) ≡ value_of e [] (root_or_free x (position 0 roots x))
value-Var roots e x = ap (value_of e []) (at-Var Trm (trm_at roots []) x)

pub value-Equation : (roots : Names) (e : Env) (a b : Term) → value roots e (t.Eq a b) ≡ apply eq (value roots e a) (value roots e b)
value-Equation roots e a b = ap (value_of e []) (at-Eq Trm (trm_at roots []) a b)

-- ---- one value in two readings

-- two readings of names agree on the variables in scope
abbrev pub Agree : Names → Scope → Env → List Val → Names → Env → List Val → Names → Type 0
Agree roots scope e vs xs d ws ys =
    (x : List ℕ) (s : Sort) → scope x ≡ Some (Variable s) → value_of e vs (named roots x (position 0 xs x)) ≡ value_of d ws (named roots x (position 0 ys x))

-- and on the roots that no variable hides
abbrev pub RootsAgree : Names → Scope → Env → List Val → Names → Env → List Val → Names → Type 0
RootsAgree roots scope e vs xs d ws ys =
    (x : List ℕ) (r : ℕ) → position 0 roots x ≡ Some r → variable_sort (scope x) ≡ None
    → value_of e vs (named roots x (position 0 xs x)) ≡ value_of d ws (named roots x (position 0 ys x))

module _ (roots : Names) (scope : Scope) (e : Env) (vs : List Val) (xs : Names) (d : Env) (ws : List Val) (ys : Names) (agree : Agree roots scope e vs xs d ws ys) (roots_agree : RootsAgree roots scope e vs xs d ws ys) where
  abbrev Same : Term → Type 0
  Same a = (s : Sort) → sort_of roots scope a ≡ Some s → value_of e vs (trm roots xs a) ≡ value_of d ws (trm roots ys a)

  abbrev SameAt : Term-F Term → Type 0
  SameAt x = (s : Sort) → sort_at roots scope (map-Term Term (Option Sort) (sort_of roots scope) x) ≡ Some s
      → value_of e vs (trm_at roots xs (map-Term Term Trm (trm roots xs) x)) ≡ value_of d ws (trm_at roots ys (map-Term Term Trm (trm roots ys) x))

  same_name : (x : List ℕ) → SameAt (f.Var x)
  same_name x s k = elim (name_parts (scope x) (position 0 roots x) s k) [ inl h ↦ agree x s h | inr h ↦ roots_agree x h.0 h.1 h.2 ]

  same_both : (r : Sort) (o : _) (a b : Term) (q : Sort) → Same a → Same b → (s : Sort) → both_of r (sort_of roots scope a) (sort_of roots scope b) q ≡ Some s
      → apply o (value_of e vs (trm roots xs a)) (value_of e vs (trm roots xs b)) ≡ apply o (value_of d ws (trm roots ys a)) (value_of d ws (trm roots ys b))
  same_both r o a b q h k s j =
      let parts = both_parts r (sort_of roots scope a) (sort_of roots scope b) q s j in
      let left = h r parts.0 in
      let right = k r parts.1 in
      λ i. apply o (left i) (right i)

  same_at : (x : Term-F Term) → OfParts Same x → SameAt x
  same_at (f.Var x) h s k = same_name x s k
  same_at (f.Len a) h s k = ap (λ w. a_nat (length (seq_of w))) (h sort.Seq (len_part (sort_of roots scope a) s k).0)
  same_at (f.Offset a n) h s k = ap (λ w. a_place (offset_by n (place_of w))) (h sort.Loc (offset_part (sort_of roots scope a) s k).0)
  same_at (f.Not a) h s k = ap (λ w. a_bool (not (bool_of w))) (h sort.Bool (not_part (sort_of roots scope a) s k).0)
  same_at (f.Cons a b) h s k =
      let parts = cons_parts (sort_of roots scope a) (sort_of roots scope b) s k in
      let left = h.0 sort.Nat parts.0 in
      let right = h.1 sort.Seq parts.1 in
      λ i. apply cons (left i) (right i)
  same_at (f.Eq a b) h s k =
      let parts = equation_parts (sort_of roots scope a) (sort_of roots scope b) s k in
      let left = h.0 parts.0 parts.2 in
      let right = h.1 parts.1 parts.3 in
      λ i. apply eq (left i) (right i)
  same_at (f.Mul a b) h s k = same_both sort.Nat mul a b sort.Nat h.0 h.1 s k
  same_at (f.Add a b) h s k = same_both sort.Nat add a b sort.Nat h.0 h.1 s k
  same_at (f.Sub a b) h s k = same_both sort.Nat sub a b sort.Nat h.0 h.1 s k
  same_at (f.Cat a b) h s k = same_both sort.Seq cat a b sort.Seq h.0 h.1 s k
  same_at (f.Lt a b) h s k = same_both sort.Nat lt a b sort.Bool h.0 h.1 s k
  same_at (f.Le a b) h s k = same_both sort.Nat le a b sort.Bool h.0 h.1 s k
  same_at (f.And a b) h s k = same_both sort.Bool conj a b sort.Bool h.0 h.1 s k
  same_at (f.Or a b) h s k = same_both sort.Bool disj a b sort.Bool h.0 h.1 s k
  same_at (f.Imp a b) h s k = same_both sort.Bool imp a b sort.Bool h.0 h.1 s k
  same_at _ h s k = refl

  -- a term of a sort has one value in both
  pub same_value_of : (a : Term) (s : Sort) → sort_of roots scope a ≡ Some s → value_of e vs (trm roots xs a) ≡ value_of d ws (trm roots ys a)
  same_value_of = by_parts Same (λ x h s k. value_level roots e vs xs x ∙ same_at x h s (sym (sort_level roots scope x) ∙ k) ∙ sym (value_level roots d ws ys x))

-- ---- a value of the sort

-- no variable has a root's name
abbrev pub Apart : Names → Scope → Type 0
Apart roots scope = (x : List ℕ) (r : ℕ) → position 0 roots x ≡ Some r → variable_sort (scope x) ≡ None

-- a value of a storable sort is a stored value
pub stored : (s : Sort) (w : Val) → is_storable s ≡ true → has_sort_val s w ≡ true → (u : Value) × (w ≡ is u) × (has_sort s u ≡ true)
stored s (is u) e h = (u, refl, h)
stored sort.Seq (seq xs) e h = cc
stored sort.Nat (seq xs) e h = cc
stored sort.Bool (seq xs) e h = cc
stored sort.Loc (seq xs) e h = cc
stored sort.Unit (seq xs) e h = cc

module _ (roots : Names) (scope : Scope) (e : Env) (apart : Apart roots scope) (sorts : HasSorts e scope) where
  abbrev Typed : Term → Type 0
  Typed a = (s : Sort) → sort_of roots scope a ≡ Some s → has_sort_val s (value roots e a) ≡ true

  abbrev TypedAt : Term-F Term → Type 0
  TypedAt x = (s : Sort) → sort_at roots scope (map-Term Term (Option Sort) (sort_of roots scope) x) ≡ Some s
      → has_sort_val s (value_of e [] (trm_at roots [] (map-Term Term Trm (trm roots []) x))) ≡ true

  typed_name : (x : List ℕ) (o : Option ℕ) → position 0 roots x ≡ o → (s : Sort) → name_sort (variable_sort (scope x)) o ≡ Some s → has_sort_val s (value_of e [] (root_or_free x o)) ≡ true
  typed_name x None p s k = elim (name_parts (scope x) None s k) [ inl h ↦ sorts x s h | inr h ↦ let g = h.1 in cc ]
  typed_name x (Some r) p s k = rw (some_sort sort.Loc s (sym (ap (λ z. name_sort z (Some r)) (apart x r p)) ∙ k)) refl

  typed_at : (x : Term-F Term) → TypedAt x
  typed_at (f.Num n) s k = rw (some_sort sort.Nat s k) refl
  typed_at f.True s k = rw (some_sort sort.Bool s k) refl
  typed_at f.False s k = rw (some_sort sort.Bool s k) refl
  typed_at f.Null s k = rw (some_sort sort.Loc s k) refl
  typed_at f.Nil s k = rw (some_sort sort.Seq s k) refl
  typed_at f.Unit s k = rw (some_sort sort.Unit s k) refl
  typed_at (f.Var x) s k = typed_name x (position 0 roots x) refl s k
  typed_at (f.Len a) s k = rw (len_part (sort_of roots scope a) s k).1 refl
  typed_at (f.Offset a n) s k = rw (offset_part (sort_of roots scope a) s k).1 refl
  typed_at (f.Not a) s k = rw (not_part (sort_of roots scope a) s k).1 refl
  typed_at (f.Cons a b) s k = rw (cons_parts (sort_of roots scope a) (sort_of roots scope b) s k).2 refl
  typed_at (f.Eq a b) s k = rw (equation_parts (sort_of roots scope a) (sort_of roots scope b) s k).5 refl
  typed_at (f.Mul a b) s k = rw (both_parts sort.Nat (sort_of roots scope a) (sort_of roots scope b) sort.Nat s k).2 refl
  typed_at (f.Add a b) s k = rw (both_parts sort.Nat (sort_of roots scope a) (sort_of roots scope b) sort.Nat s k).2 refl
  typed_at (f.Sub a b) s k = rw (both_parts sort.Nat (sort_of roots scope a) (sort_of roots scope b) sort.Nat s k).2 refl
  typed_at (f.Cat a b) s k = rw (both_parts sort.Seq (sort_of roots scope a) (sort_of roots scope b) sort.Seq s k).2 refl
  typed_at (f.Lt a b) s k = rw (both_parts sort.Nat (sort_of roots scope a) (sort_of roots scope b) sort.Bool s k).2 refl
  typed_at (f.Le a b) s k = rw (both_parts sort.Nat (sort_of roots scope a) (sort_of roots scope b) sort.Bool s k).2 refl
  typed_at (f.And a b) s k = rw (both_parts sort.Bool (sort_of roots scope a) (sort_of roots scope b) sort.Bool s k).2 refl
  typed_at (f.Or a b) s k = rw (both_parts sort.Bool (sort_of roots scope a) (sort_of roots scope b) sort.Bool s k).2 refl
  typed_at (f.Imp a b) s k = rw (both_parts sort.Bool (sort_of roots scope a) (sort_of roots scope b) sort.Bool s k).2 refl

  -- a term of a sort has a value of that sort
  pub value_of_sort : (a : Term) (s : Sort) → sort_of roots scope a ≡ Some s → has_sort_val s (value roots e a) ≡ true
  value_of_sort = by_parts Typed (λ x h s k. ap (has_sort_val s) (value_level roots e [] [] x) ∙ typed_at x s (sym (sort_level roots scope x) ∙ k))

-- ---- more names in scope

-- a scope in which each variable of the other stands with its sort
abbrev pub Extends : Scope → Scope → Type 0
Extends old new = (x : List ℕ) (s : Sort) → old x ≡ Some (Variable s) → new x ≡ Some (Variable s)

module _ (roots : Names) (old new : Scope) (apart : Apart roots new) (extends : Extends old new) where
  abbrev Keeps : Term → Type 0
  Keeps a = (s : Sort) → sort_of roots old a ≡ Some s → sort_of roots new a ≡ Some s

  abbrev KeepsAt : Term-F Term → Type 0
  KeepsAt x = (s : Sort) → sort_at roots old (map-Term Term (Option Sort) (sort_of roots old) x) ≡ Some s → sort_at roots new (map-Term Term (Option Sort) (sort_of roots new) x) ≡ Some s

  keeps_name : (x : List ℕ) → KeepsAt (f.Var x)
  keeps_name x s k = elim (name_parts (old x) (position 0 roots x) s k) [
    | inl h ↦ ap (λ l. name_sort (variable_sort l) (position 0 roots x)) (extends x s h)
    | inr h ↦
        let free = apart x h.0 h.1 in
        let root = h.1 in
        (λ i. name_sort (free i) (root i)) ∙ ap Some (sym h.3)
  ]

  keeps_both : (r : Sort) (a b : Term) (q : Sort) → same_sort r r ≡ true → Keeps a → Keeps b → (s : Sort) → both_of r (sort_of roots old a) (sort_of roots old b) q ≡ Some s → both_of r (sort_of roots new a) (sort_of roots new b) q ≡ Some s
  keeps_both r a b q same h k s j =
      let parts = both_parts r (sort_of roots old a) (sort_of roots old b) q s j in
      let left = h r parts.0 in
      let right = k r parts.1 in
      (λ i. both_of r (left i) (right i) q) ∙ (λ i. cond (same i && same i) (Some q) None) ∙ ap Some (sym parts.2)

  keeps_at : (x : Term-F Term) → OfParts Keeps x → KeepsAt x
  keeps_at (f.Var x) h s k = keeps_name x s k
  keeps_at (f.Len a) h s k = let part = len_part (sort_of roots old a) s k in ap len_sort (h sort.Seq part.0) ∙ ap Some (sym part.1)
  keeps_at (f.Offset a n) h s k = let part = offset_part (sort_of roots old a) s k in ap offset_sort (h sort.Loc part.0) ∙ ap Some (sym part.1)
  keeps_at (f.Not a) h s k = let part = not_part (sort_of roots old a) s k in ap not_sort (h sort.Bool part.0) ∙ ap Some (sym part.1)
  keeps_at (f.Cons a b) h s k =
      let parts = cons_parts (sort_of roots old a) (sort_of roots old b) s k in
      let left = h.0 sort.Nat parts.0 in
      let right = h.1 sort.Seq parts.1 in
      (λ i. cons_sort (left i) (right i)) ∙ ap Some (sym parts.2)
  keeps_at (f.Eq a b) h s k =
      let parts = equation_parts (sort_of roots old a) (sort_of roots old b) s k in
      let left = h.0 parts.0 parts.2 in
      let right = h.1 parts.1 parts.3 in
      (λ i. equation_sort (left i) (right i)) ∙ ap (λ c. cond c (Some sort.Bool) None) parts.4 ∙ ap Some (sym parts.5)
  keeps_at (f.Mul a b) h s k = keeps_both sort.Nat a b sort.Nat refl h.0 h.1 s k
  keeps_at (f.Add a b) h s k = keeps_both sort.Nat a b sort.Nat refl h.0 h.1 s k
  keeps_at (f.Sub a b) h s k = keeps_both sort.Nat a b sort.Nat refl h.0 h.1 s k
  keeps_at (f.Cat a b) h s k = keeps_both sort.Seq a b sort.Seq refl h.0 h.1 s k
  keeps_at (f.Lt a b) h s k = keeps_both sort.Nat a b sort.Bool refl h.0 h.1 s k
  keeps_at (f.Le a b) h s k = keeps_both sort.Nat a b sort.Bool refl h.0 h.1 s k
  keeps_at (f.And a b) h s k = keeps_both sort.Bool a b sort.Bool refl h.0 h.1 s k
  keeps_at (f.Or a b) h s k = keeps_both sort.Bool a b sort.Bool refl h.0 h.1 s k
  keeps_at (f.Imp a b) h s k = keeps_both sort.Bool a b sort.Bool refl h.0 h.1 s k
  keeps_at _ h s k = k

  -- a term keeps its sort
  pub sort_of-Extends : (a : Term) (s : Sort) → sort_of roots old a ≡ Some s → sort_of roots new a ≡ Some s
  sort_of-Extends = by_parts Keeps (λ x h s k. sort_level roots new x ∙ keeps_at x h s (sym (sort_level roots old x) ∙ k))
