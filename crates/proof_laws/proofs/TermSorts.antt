-- The sorts of terms by their forms, the values of a sort, and what changes the scope but not the sorts.
use Rattle.std.proofs.Common.{◌≡◌, ℕ, Bool, true, false, cond, ◌&&◌, List, [], Option, Some, None, refl, sym, ◌∙◌, ap, subst}
use Rattle.std.specs.Prelude.{bytes_eq}
use Rattle.tht_tree.specs.declared.plain.Sort.{Sort}
use Rattle.tht_tree.specs.declared.plain.Sort.TheVariants as sort
use Rattle.tht_tree.specs.declared.plain.Value.TheVariants as v
use Rattle.tht_tree.specs.declared.state.Local.{Local}
use Rattle.tht_tree.specs.declared.state.Local.TheVariants.{Variable, Hypothesis}
use Rattle.tht_tree.specs.declared.term.Term.{Term, fold-Term, out-Term, map-Term, fold_out-Term}
use Rattle.tht_tree.specs.declared.term.Term.TheVariants as t
use Rattle.tht_tree.specs.declared.term.Term.TheOpen.{Term-F}
use Rattle.tht_tree.specs.declared.term.Term.TheOpen as f
use Rattle.tht_tree.specs.Values.{Val, is, seq, Env, a_nat, nat_of, seq_of, has_sort_val}
use Rattle.tht_tree.specs.Syntax.{Names, position, Trm, trm_at, trm, root_or_free}
use Rattle.tht_tree.specs.Rules.Context.{Scope, with_local}
use Rattle.tht_tree.specs.Rules.Scoping.{same_sort, is_of, variable_sort, equation_sort, both_of, cons_sort, len_sort, offset_sort, not_sort, name_sort, sort_at, sort_of}
use Rattle.tht_tree.proofs.SameTerm.{bytes_eq-true}
use Rattle.tht_tree.proofs.TermFolds.{at-False, at-Not, at-Add, at-Sub, at-Cons, at-Eq, at-Lt, at-Le, at-And, at-Or, at-Imp}
use Rattle.tht_tree.specs.Terms.{value_of, value}

pub same_sort-true : (s r : Sort) → same_sort s r ≡ true → s ≡ r
same_sort-true sort.Nat sort.Nat e = refl
same_sort-true sort.Bool sort.Bool e = refl
same_sort-true sort.Loc sort.Loc e = refl
same_sort-true sort.Unit sort.Unit e = refl
same_sort-true sort.Seq sort.Seq e = refl
same_sort-true _ _ e = cc

pub same_sort-refl : (s : Sort) → same_sort s s ≡ true
same_sort-refl sort.Nat = refl
same_sort-refl sort.Bool = refl
same_sort-refl sort.Loc = refl
same_sort-refl sort.Unit = refl
same_sort-refl sort.Seq = refl

abbrev pub some : Sort → Option Sort
some s = Some s

pub is_of-true : (s : Sort) (o : Option Sort) → is_of s o ≡ true → o ≡ some s
is_of-true s None e = cc
is_of-true s (Some r) e = ap some (sym (same_sort-true s r e))

-- ---- parts

both_if : (c d : Bool) (q z : Sort) → cond (c && d) (some q) None ≡ some z → (c ≡ true) × (d ≡ true) × (z ≡ q)
both_if true true q z e = (refl, refl, cc)
both_if true false q z e = cc
both_if false d q z e = cc

both_parts : (r : Sort) (a b : Option Sort) (q z : Sort) → both_of r a b q ≡ some z → (a ≡ some r) × (b ≡ some r) × (z ≡ q)
both_parts r (Some a) (Some b) q z e =
    let h = both_if (same_sort r a) (same_sort r b) q z e in
    (ap some (sym (same_sort-true r a h.0)), ap some (sym (same_sort-true r b h.1)), h.2)
both_parts r (Some a) None q z e = cc
both_parts r None b q z e = cc

pub both_makes : (r : Sort) (a b : Option Sort) (q : Sort) → a ≡ some r → b ≡ some r → both_of r a b q ≡ some q
both_makes r a b q h g = (λ i. both_of r (h i) (g i) q) ∙ (λ i. cond (same_sort-refl r i && same_sort-refl r i) (some q) None)

equation_parts : (a b : Option Sort) (z : Sort) → equation_sort a b ≡ some z → (r : Sort) × (a ≡ some r) × (b ≡ some r)
equation_parts None b z e = cc
equation_parts (Some r) None z e = cc
equation_parts (Some r) (Some q) z e = (r, refl, ap some (sym (same_sort-true r q (held (same_sort r q) e))))
  where
    held : (c : Bool) → cond c (some sort.Bool) None ≡ some z → c ≡ true
    held true h = refl
    held false h = cc

pub equation_makes : (a b : Option Sort) (r : Sort) → a ≡ some r → b ≡ some r → equation_sort a b ≡ some sort.Bool
equation_makes a b r h g = (λ i. equation_sort (h i) (g i)) ∙ (λ i. cond (same_sort-refl r i) (some sort.Bool) None)

not_part : (a : Option Sort) (z : Sort) → not_sort a ≡ some z → a ≡ some sort.Bool
not_part (Some sort.Bool) z e = refl
not_part _ z e = cc

cons_parts : (a b : Option Sort) (z : Sort) → cons_sort a b ≡ some z → (a ≡ some sort.Nat) × (b ≡ some sort.Seq)
cons_parts (Some sort.Nat) (Some sort.Seq) z e = (refl, refl)
cons_parts _ _ z e = cc

module _ (roots : Names) (scope : Scope) where
  abbrev pub of : Term → Option Sort
  of = sort_of roots scope

  abbrev step : Term-F (Option Sort) → Option Sort
  step = sort_at roots scope

  pub eq_parts : (a b : Term) (z : Sort) → of (t.Eq a b) ≡ some z → (r : Sort) × (of a ≡ some r) × (of b ≡ some r)
  eq_parts a b z e = equation_parts (of a) (of b) z (sym (at-Eq (Option Sort) step a b) ∙ e)

  pub eq_makes : (a b : Term) (r : Sort) → of a ≡ some r → of b ≡ some r → of (t.Eq a b) ≡ some sort.Bool
  eq_makes a b r h g = at-Eq (Option Sort) step a b ∙ equation_makes (of a) (of b) r h g

  pub le_parts : (a b : Term) (z : Sort) → of (t.Le a b) ≡ some z → (of a ≡ some sort.Nat) × (of b ≡ some sort.Nat)
  le_parts a b z e = let h = both_parts sort.Nat (of a) (of b) sort.Bool z (sym (at-Le (Option Sort) step a b) ∙ e) in (h.0, h.1)

  pub le_makes : (a b : Term) → of a ≡ some sort.Nat → of b ≡ some sort.Nat → of (t.Le a b) ≡ some sort.Bool
  le_makes a b h g = at-Le (Option Sort) step a b ∙ both_makes sort.Nat (of a) (of b) sort.Bool h g

  pub lt_parts : (a b : Term) (z : Sort) → of (t.Lt a b) ≡ some z → (of a ≡ some sort.Nat) × (of b ≡ some sort.Nat)
  lt_parts a b z e = let h = both_parts sort.Nat (of a) (of b) sort.Bool z (sym (at-Lt (Option Sort) step a b) ∙ e) in (h.0, h.1)

  pub sub_parts : (a b : Term) (z : Sort) → of (t.Sub a b) ≡ some z → (of a ≡ some sort.Nat) × (of b ≡ some sort.Nat)
  sub_parts a b z e = let h = both_parts sort.Nat (of a) (of b) sort.Nat z (sym (at-Sub (Option Sort) step a b) ∙ e) in (h.0, h.1)

  pub add_parts : (a b : Term) (z : Sort) → of (t.Add a b) ≡ some z → (of a ≡ some sort.Nat) × (of b ≡ some sort.Nat)
  add_parts a b z e = let h = both_parts sort.Nat (of a) (of b) sort.Nat z (sym (at-Add (Option Sort) step a b) ∙ e) in (h.0, h.1)

  pub and_parts : (a b : Term) (z : Sort) → of (t.And a b) ≡ some z → (of a ≡ some sort.Bool) × (of b ≡ some sort.Bool)
  and_parts a b z e = let h = both_parts sort.Bool (of a) (of b) sort.Bool z (sym (at-And (Option Sort) step a b) ∙ e) in (h.0, h.1)

  pub and_makes : (a b : Term) → of a ≡ some sort.Bool → of b ≡ some sort.Bool → of (t.And a b) ≡ some sort.Bool
  and_makes a b h g = at-And (Option Sort) step a b ∙ both_makes sort.Bool (of a) (of b) sort.Bool h g

  pub or_parts : (a b : Term) (z : Sort) → of (t.Or a b) ≡ some z → (of a ≡ some sort.Bool) × (of b ≡ some sort.Bool)
  or_parts a b z e = let h = both_parts sort.Bool (of a) (of b) sort.Bool z (sym (at-Or (Option Sort) step a b) ∙ e) in (h.0, h.1)

  pub imp_parts : (a b : Term) (z : Sort) → of (t.Imp a b) ≡ some z → (of a ≡ some sort.Bool) × (of b ≡ some sort.Bool)
  imp_parts a b z e = let h = both_parts sort.Bool (of a) (of b) sort.Bool z (sym (at-Imp (Option Sort) step a b) ∙ e) in (h.0, h.1)

  pub imp_makes : (a b : Term) → of a ≡ some sort.Bool → of b ≡ some sort.Bool → of (t.Imp a b) ≡ some sort.Bool
  imp_makes a b h g = at-Imp (Option Sort) step a b ∙ both_makes sort.Bool (of a) (of b) sort.Bool h g

  pub neg_part : (a : Term) (z : Sort) → of (t.Not a) ≡ some z → of a ≡ some sort.Bool
  neg_part a z e = not_part (of a) z (sym (at-Not (Option Sort) step a) ∙ e)

  pub neg_makes : (a : Term) → of a ≡ some sort.Bool → of (t.Not a) ≡ some sort.Bool
  neg_makes a h = at-Not (Option Sort) step a ∙ ap not_sort h

  pub false_sort : of t.False ≡ some sort.Bool
  false_sort = at-False (Option Sort) step

  pub cons_makes : (a b : Term) → of a ≡ some sort.Nat → of b ≡ some sort.Seq → of (t.Cons a b) ≡ some sort.Seq
  cons_makes a b h g = at-Cons (Option Sort) step a b ∙ (λ i. cons_sort (h i) (g i))

-- ---- values of a sort

-- each variable in scope has a value of its sort, and none has the name of a root
abbrev pub VariablesFit : Names → Env → Scope → Type 0
VariablesFit roots env scope = (x : List ℕ) (s : Sort) → variable_sort (scope x) ≡ some s → (has_sort_val s (env x) ≡ true) × (position 0 roots x ≡ None)

-- a name that has a sort is a variable
pub variable_at : (l : Option Local) (s : Sort) → variable_sort l ≡ some s → l ≡ Some (Variable s)
variable_at None s e = cc
variable_at (Some Hypothesis) s e = cc
variable_at (Some (Variable r)) s e = let same : r ≡ s = cc in ap (λ z. Some (Variable z)) same

module _ (roots : Names) (env : Env) (scope : Scope) (sorts : VariablesFit roots env scope) where
  abbrev val : Term → Val
  val = value roots env

  named_value : (x : List ℕ) (o : Option Sort) (r : Option ℕ) → variable_sort (scope x) ≡ o → position 0 roots x ≡ r → (s : Sort) → name_sort o r ≡ some s →
      has_sort_val s (value_of env [] (root_or_free x r)) ≡ true
  named_value x (Some q) (Some r) h g s e = let apart = (sorts x q h).1 in cc
  named_value x (Some q) None h g s e = let same : q ≡ s = cc in subst (λ z. has_sort_val z (env x) ≡ true) same (sorts x q h).0
  named_value x None (Some r) h g sort.Loc e = refl
  named_value x None (Some r) h g _ e = cc
  named_value x None None h g s e = cc

  abbrev value_at : Term-F Term → Val
  value_at x = value_of env [] (trm_at roots [] (map-Term Term Trm (trm roots []) x))

  abbrev IsLevel : Term-F Term → Type 0
  IsLevel x = (s : Sort) → sort_at roots scope (map-Term Term (Option Sort) (sort_of roots scope) x) ≡ some s →
      has_sort_val s (value_at x) ≡ true

  by_both : (r : Sort) (a b : Option Sort) (q : Sort) (w : Val) → has_sort_val q w ≡ true → (s : Sort) → both_of r a b q ≡ some s → has_sort_val s w ≡ true
  by_both r a b q w h s e = subst (λ z. has_sort_val z w ≡ true) (sym (both_parts r a b q s e).2) h

  level : (x : Term-F Term) → IsLevel x
  level (f.Num n) sort.Nat e = refl
  level f.True sort.Bool e = refl
  level f.False sort.Bool e = refl
  level f.Null sort.Loc e = refl
  level f.Nil sort.Seq e = refl
  level f.Unit sort.Unit e = refl
  level (f.Var x) s e = named_value x (variable_sort (scope x)) (position 0 roots x) refl refl s e
  level (f.Len a) s e = by_len (sort_of roots scope a) s e
    where
      by_len : (o : Option Sort) (s : Sort) → len_sort o ≡ some s → has_sort_val s (value_at (f.Len a)) ≡ true
      by_len (Some sort.Seq) sort.Nat e = refl
      by_len _ _ e = cc
  level (f.Offset a k) s e = by_offset (sort_of roots scope a) s e
    where
      by_offset : (o : Option Sort) (s : Sort) → offset_sort o ≡ some s → has_sort_val s (value_at (f.Offset a k)) ≡ true
      by_offset (Some sort.Loc) sort.Loc e = refl
      by_offset _ _ e = cc
  level (f.Mul a b) s e = by_both sort.Nat (sort_of roots scope a) (sort_of roots scope b) sort.Nat (value_at (f.Mul a b)) refl s e
  level (f.Add a b) s e = by_both sort.Nat (sort_of roots scope a) (sort_of roots scope b) sort.Nat (value_at (f.Add a b)) refl s e
  level (f.Sub a b) s e = by_both sort.Nat (sort_of roots scope a) (sort_of roots scope b) sort.Nat (value_at (f.Sub a b)) refl s e
  level (f.Cons a b) s e = by_cons (sort_of roots scope a) (sort_of roots scope b) s e
    where
      by_cons : (o p : Option Sort) (s : Sort) → cons_sort o p ≡ some s → has_sort_val s (value_at (f.Cons a b)) ≡ true
      by_cons (Some sort.Nat) (Some sort.Seq) sort.Seq e = refl
      by_cons _ _ _ e = cc
  level (f.Cat a b) s e = by_both sort.Seq (sort_of roots scope a) (sort_of roots scope b) sort.Seq (value_at (f.Cat a b)) refl s e
  level (f.Eq a b) s e = by_equation (sort_of roots scope a) (sort_of roots scope b) s e
    where
      by_cond : (c : Bool) (s : Sort) → cond c (some sort.Bool) None ≡ some s → has_sort_val s (value_at (f.Eq a b)) ≡ true
      by_cond true sort.Bool e = refl
      by_cond _ _ e = cc

      by_equation : (o p : Option Sort) (s : Sort) → equation_sort o p ≡ some s → has_sort_val s (value_at (f.Eq a b)) ≡ true
      by_equation (Some r) (Some q) s e = by_cond (same_sort r q) s e
      by_equation _ _ s e = cc
  level (f.Lt a b) s e = by_both sort.Nat (sort_of roots scope a) (sort_of roots scope b) sort.Bool (value_at (f.Lt a b)) refl s e
  level (f.Le a b) s e = by_both sort.Nat (sort_of roots scope a) (sort_of roots scope b) sort.Bool (value_at (f.Le a b)) refl s e
  level (f.Not a) s e = by_not (sort_of roots scope a) s e
    where
      by_not : (o : Option Sort) (s : Sort) → not_sort o ≡ some s → has_sort_val s (value_at (f.Not a)) ≡ true
      by_not (Some sort.Bool) sort.Bool e = refl
      by_not _ _ e = cc
  level (f.And a b) s e = by_both sort.Bool (sort_of roots scope a) (sort_of roots scope b) sort.Bool (value_at (f.And a b)) refl s e
  level (f.Or a b) s e = by_both sort.Bool (sort_of roots scope a) (sort_of roots scope b) sort.Bool (value_at (f.Or a b)) refl s e
  level (f.Imp a b) s e = by_both sort.Bool (sort_of roots scope a) (sort_of roots scope b) sort.Bool (value_at (f.Imp a b)) refl s e
  level _ _ e = cc

  -- a term has a value of its sort
  pub sorted_value : (u : Term) (s : Sort) → sort_of roots scope u ≡ some s → has_sort_val s (val u) ≡ true
  sorted_value u s e =
      ap (λ w. has_sort_val s (value_of env [] w)) (fold_out-Term Trm (trm_at roots []) u)
      ∙ level (out-Term u) s (sym (fold_out-Term (Option Sort) (sort_at roots scope) u) ∙ e)

  pub nat_value : (u : Term) → sort_of roots scope u ≡ some sort.Nat → val u ≡ a_nat (nat_of (val u))
  nat_value u e = is_nat (val u) (sorted_value u sort.Nat e)
    where
      is_nat : (w : Val) → has_sort_val sort.Nat w ≡ true → w ≡ a_nat (nat_of w)
      is_nat (is (v.Nat n)) h = refl
      is_nat _ h = cc

  pub seq_value : (u : Term) → sort_of roots scope u ≡ some sort.Seq → val u ≡ seq (seq_of (val u))
  seq_value u e = is_seq (val u) (sorted_value u sort.Seq e)
    where
      is_seq : (w : Val) → has_sort_val sort.Seq w ≡ true → w ≡ seq (seq_of w)
      is_seq (seq xs) h = refl
      is_seq (is w) h = cc

-- ---- scopes with the same variables

same_level : (roots : Names) (one two : Scope) → ((x : List ℕ) → variable_sort (one x) ≡ variable_sort (two x)) → (x : Term-F (Option Sort)) → sort_at roots one x ≡ sort_at roots two x
same_level roots one two same (f.Var x) = ap (λ o. name_sort o (position 0 roots x)) (same x)
same_level roots one two same _ = refl

pub same_sorts : (roots : Names) (one two : Scope) → ((x : List ℕ) → variable_sort (one x) ≡ variable_sort (two x)) → (u : Term) → sort_of roots one u ≡ sort_of roots two u
same_sorts roots one two same u = λ i. fold-Term (Option Sort) (λ x. same_level roots one two same x i) u

-- a hypothesis with a new name leaves the variables as they are
pub hyp_same : (scope : Scope) (h : List ℕ) → scope h ≡ None → (x : List ℕ) → variable_sort (with_local scope h Hypothesis x) ≡ variable_sort (scope x)
hyp_same scope h new x = by (bytes_eq h x) refl
  where
    by : (c : Bool) → bytes_eq h x ≡ c → variable_sort (cond c (Some Hypothesis) (scope x)) ≡ variable_sort (scope x)
    by true e = sym (ap variable_sort (ap scope (sym (bytes_eq-true h x e)) ∙ new))
    by false e = refl
