-- Terms that are like one another are one tree without the names of bound variables.
use Rattle.std.proofs.Common.{◌≡◌, ℕ, Bool, true, false, ◌&&◌, eqb, List, [], ◌∷◌, map, Option, Some, None, refl, sym, ◌∙◌, ap}
use Rattle.tht_tree.specs.declared.term.Term.{Term, out-Term, map-Term, roll-Term, fold_out-Term}
use Rattle.tht_tree.specs.declared.term.Term.TheOpen.{Term-F}
use Rattle.tht_tree.specs.declared.term.Term.TheOpen as f
use Rattle.tht_tree.specs.declared.plain.Place.TheVariants.{Null}
use Rattle.tht_tree.specs.declared.plain.Value.TheVariants as v
use Rattle.tht_tree.specs.SameTree.{is_num, is_true, is_false, is_null, is_nil_term, is_unit, is_len, is_offset, is_product, is_sum, is_difference, is_cons, is_cat, is_equation, is_less, is_at_most, is_negation, is_and, is_or, is_implication}
use Rattle.tht_tree.specs.Values.{Val, is, seq, a_nat, a_bool, a_place}
use Rattle.tht_tree.specs.Syntax.{Names, position, Op, add, sub, mul, cons, cat, eq, lt, le, conj, disj, imp, Trm, lit, len, off, neg, op, named, trm_at, trm}
use Rattle.tht_tree.proofs.TermInduction.{fold_level, OfParts, by_parts}
use Rattle.tht_logic.specs.Alike.{same_trm, same_trms}
use Rattle.heap_assert.specs.SideBySide.{Pairs, of_one, of_other, is_name_like, like_at, like_terms, like_lists}
use Rattle.heap_assert.proofs.LikeNames.{names_are}

-- ---- what is no variable is not like one

no_lit : (x : Val) (y : List ℕ) (o : Option ℕ) → false ≡ same_trm (lit x) (named [] y o)
no_lit x y (Some k) = refl
no_lit x y None = refl

no_len : (a : Trm) (y : List ℕ) (o : Option ℕ) → false ≡ same_trm (len a) (named [] y o)
no_len a y (Some k) = refl
no_len a y None = refl

no_off : (n : ℕ) (a : Trm) (y : List ℕ) (o : Option ℕ) → false ≡ same_trm (off n a) (named [] y o)
no_off n a y (Some k) = refl
no_off n a y None = refl

no_neg : (a : Trm) (y : List ℕ) (o : Option ℕ) → false ≡ same_trm (neg a) (named [] y o)
no_neg a y (Some k) = refl
no_neg a y None = refl

no_op : (q : Op) (a b : Trm) (y : List ℕ) (o : Option ℕ) → false ≡ same_trm (op q a b) (named [] y o)
no_op q a b y (Some k) = refl
no_op q a b y None = refl

abbrev is_variable : Term-F Term → Bool
is_variable (f.Var y) = true
is_variable _ = false

-- ---- one level of the one term, and one of the other

module _ (ys : Names) where
  -- the other term, from its outermost level
  abbrev other : Term-F Term → Trm
  other w = trm_at [] ys (map-Term Term Trm (trm [] ys) w)

  no_variable : (x : List ℕ) (o : Option ℕ) (w : Term-F Term) → is_variable w ≡ false → false ≡ same_trm (named [] x o) (other w)
  no_variable x (Some k) (f.Var y) e = cc
  no_variable x (Some k) _ e = refl
  no_variable x None (f.Var y) e = cc
  no_variable x None _ e = refl

  num_level : (n : ℕ) (w : Term-F Term) → is_num n w ≡ same_trm (lit (a_nat n)) (other w)
  num_level n (f.Num m) = refl
  num_level n (f.Var y) = no_lit (a_nat n) y (position 0 ys y)
  num_level n _ = refl

  true_level : (w : Term-F Term) → is_true w ≡ same_trm (lit (a_bool true)) (other w)
  true_level f.True = refl
  true_level (f.Var y) = no_lit (a_bool true) y (position 0 ys y)
  true_level _ = refl

  false_level : (w : Term-F Term) → is_false w ≡ same_trm (lit (a_bool false)) (other w)
  false_level f.False = refl
  false_level (f.Var y) = no_lit (a_bool false) y (position 0 ys y)
  false_level _ = refl

  null_level : (w : Term-F Term) → is_null w ≡ same_trm (lit (a_place Null)) (other w)
  null_level f.Null = refl
  null_level (f.Var y) = no_lit (a_place Null) y (position 0 ys y)
  null_level _ = refl

  nil_level : (w : Term-F Term) → is_nil_term w ≡ same_trm (lit (seq [])) (other w)
  nil_level f.Nil = refl
  nil_level (f.Var y) = no_lit (seq []) y (position 0 ys y)
  nil_level _ = refl

  unit_level : (w : Term-F Term) → is_unit w ≡ same_trm (lit (is v.Unit)) (other w)
  unit_level f.Unit = refl
  unit_level (f.Var y) = no_lit (is v.Unit) y (position 0 ys y)
  unit_level _ = refl

  module _ (a : Trm) (left : Term → Bool) (left_is : (u : Term) → left u ≡ same_trm a (trm [] ys u)) where
    len_level : (w : Term-F Term) → is_len left w ≡ same_trm (len a) (other w)
    len_level (f.Len c) = left_is c
    len_level (f.Var y) = no_len a y (position 0 ys y)
    len_level _ = refl

    not_level : (w : Term-F Term) → is_negation left w ≡ same_trm (neg a) (other w)
    not_level (f.Not c) = left_is c
    not_level (f.Var y) = no_neg a y (position 0 ys y)
    not_level _ = refl

    offset_level : (k : ℕ) (w : Term-F Term) → is_offset left k w ≡ same_trm (off k a) (other w)
    offset_level k (f.Offset c l) = ap (λ t. eqb k l && t) (left_is c)
    offset_level k (f.Var y) = no_off k a y (position 0 ys y)
    offset_level k _ = refl

    module _ (b : Trm) (right : Term → Bool) (right_is : (u : Term) → right u ≡ same_trm b (trm [] ys u)) where
      mul_level : (w : Term-F Term) → is_product left right w ≡ same_trm (op mul a b) (other w)
      mul_level (f.Mul c d) = λ i. left_is c i && right_is d i
      mul_level (f.Var y) = no_op mul a b y (position 0 ys y)
      mul_level _ = refl

      add_level : (w : Term-F Term) → is_sum left right w ≡ same_trm (op add a b) (other w)
      add_level (f.Add c d) = λ i. left_is c i && right_is d i
      add_level (f.Var y) = no_op add a b y (position 0 ys y)
      add_level _ = refl

      sub_level : (w : Term-F Term) → is_difference left right w ≡ same_trm (op sub a b) (other w)
      sub_level (f.Sub c d) = λ i. left_is c i && right_is d i
      sub_level (f.Var y) = no_op sub a b y (position 0 ys y)
      sub_level _ = refl

      cons_level : (w : Term-F Term) → is_cons left right w ≡ same_trm (op cons a b) (other w)
      cons_level (f.Cons c d) = λ i. left_is c i && right_is d i
      cons_level (f.Var y) = no_op cons a b y (position 0 ys y)
      cons_level _ = refl

      cat_level : (w : Term-F Term) → is_cat left right w ≡ same_trm (op cat a b) (other w)
      cat_level (f.Cat c d) = λ i. left_is c i && right_is d i
      cat_level (f.Var y) = no_op cat a b y (position 0 ys y)
      cat_level _ = refl

      eq_level : (w : Term-F Term) → is_equation left right w ≡ same_trm (op eq a b) (other w)
      eq_level (f.Eq c d) = λ i. left_is c i && right_is d i
      eq_level (f.Var y) = no_op eq a b y (position 0 ys y)
      eq_level _ = refl

      lt_level : (w : Term-F Term) → is_less left right w ≡ same_trm (op lt a b) (other w)
      lt_level (f.Lt c d) = λ i. left_is c i && right_is d i
      lt_level (f.Var y) = no_op lt a b y (position 0 ys y)
      lt_level _ = refl

      le_level : (w : Term-F Term) → is_at_most left right w ≡ same_trm (op le a b) (other w)
      le_level (f.Le c d) = λ i. left_is c i && right_is d i
      le_level (f.Var y) = no_op le a b y (position 0 ys y)
      le_level _ = refl

      and_level : (w : Term-F Term) → is_and left right w ≡ same_trm (op conj a b) (other w)
      and_level (f.And c d) = λ i. left_is c i && right_is d i
      and_level (f.Var y) = no_op conj a b y (position 0 ys y)
      and_level _ = refl

      or_level : (w : Term-F Term) → is_or left right w ≡ same_trm (op disj a b) (other w)
      or_level (f.Or c d) = λ i. left_is c i && right_is d i
      or_level (f.Var y) = no_op disj a b y (position 0 ys y)
      or_level _ = refl

      imp_level : (w : Term-F Term) → is_implication left right w ≡ same_trm (op imp a b) (other w)
      imp_level (f.Imp c d) = λ i. left_is c i && right_is d i
      imp_level (f.Var y) = no_op imp a b y (position 0 ys y)
      imp_level _ = refl

-- ---- whole terms

module _ (ps : Pairs) where
  abbrev one_trm : Term → Trm
  one_trm = trm [] (of_one ps)

  abbrev LikeIs : Term → Type 0
  LikeIs t = (u : Term) → like_terms ps t u ≡ same_trm (one_trm t) (trm [] (of_other ps) u)

  var_level : (x : List ℕ) (w : Term-F Term) → is_name_like ps x w ≡ same_trm (named [] x (position 0 (of_one ps) x)) (other (of_other ps) w)
  var_level x (f.Var y) = names_are ps x y
  var_level x w = no_variable (of_other ps) x (position 0 (of_one ps) x) w refl

  level : (x : Term-F Term) → OfParts LikeIs x → (u : Term) →
      like_at ps (map-Term Term (Term → Bool) (like_terms ps) x) u ≡ same_trm (trm_at [] (of_one ps) (map-Term Term Trm one_trm x)) (other (of_other ps) (out-Term u))
  level (f.Num n) h u = num_level (of_other ps) n (out-Term u)
  level f.True h u = true_level (of_other ps) (out-Term u)
  level f.False h u = false_level (of_other ps) (out-Term u)
  level f.Null h u = null_level (of_other ps) (out-Term u)
  level f.Nil h u = nil_level (of_other ps) (out-Term u)
  level f.Unit h u = unit_level (of_other ps) (out-Term u)
  level (f.Var x) h u = var_level x (out-Term u)
  level (f.Len a) h u = len_level (of_other ps) (one_trm a) (like_terms ps a) h (out-Term u)
  level (f.Not a) h u = not_level (of_other ps) (one_trm a) (like_terms ps a) h (out-Term u)
  level (f.Offset a k) h u = offset_level (of_other ps) (one_trm a) (like_terms ps a) h k (out-Term u)
  level (f.Mul a b) h u = mul_level (of_other ps) (one_trm a) (like_terms ps a) h.0 (one_trm b) (like_terms ps b) h.1 (out-Term u)
  level (f.Add a b) h u = add_level (of_other ps) (one_trm a) (like_terms ps a) h.0 (one_trm b) (like_terms ps b) h.1 (out-Term u)
  level (f.Sub a b) h u = sub_level (of_other ps) (one_trm a) (like_terms ps a) h.0 (one_trm b) (like_terms ps b) h.1 (out-Term u)
  level (f.Cons a b) h u = cons_level (of_other ps) (one_trm a) (like_terms ps a) h.0 (one_trm b) (like_terms ps b) h.1 (out-Term u)
  level (f.Cat a b) h u = cat_level (of_other ps) (one_trm a) (like_terms ps a) h.0 (one_trm b) (like_terms ps b) h.1 (out-Term u)
  level (f.Eq a b) h u = eq_level (of_other ps) (one_trm a) (like_terms ps a) h.0 (one_trm b) (like_terms ps b) h.1 (out-Term u)
  level (f.Lt a b) h u = lt_level (of_other ps) (one_trm a) (like_terms ps a) h.0 (one_trm b) (like_terms ps b) h.1 (out-Term u)
  level (f.Le a b) h u = le_level (of_other ps) (one_trm a) (like_terms ps a) h.0 (one_trm b) (like_terms ps b) h.1 (out-Term u)
  level (f.And a b) h u = and_level (of_other ps) (one_trm a) (like_terms ps a) h.0 (one_trm b) (like_terms ps b) h.1 (out-Term u)
  level (f.Or a b) h u = or_level (of_other ps) (one_trm a) (like_terms ps a) h.0 (one_trm b) (like_terms ps b) h.1 (out-Term u)
  level (f.Imp a b) h u = imp_level (of_other ps) (one_trm a) (like_terms ps a) h.0 (one_trm b) (like_terms ps b) h.1 (out-Term u)

  at_level : (x : Term-F Term) → OfParts LikeIs x → LikeIs (roll-Term x)
  at_level x h u =
      ap (λ g. g u) (fold_level (like_at ps) x) ∙ level x h u
      ∙ sym (λ i. same_trm (fold_level (trm_at [] (of_one ps)) x i) (fold_out-Term Trm (trm_at [] (of_other ps)) u i))

  pub terms_are : (t u : Term) → like_terms ps t u ≡ same_trm (trm [] (of_one ps) t) (trm [] (of_other ps) u)
  terms_are = by_parts LikeIs at_level

  pub lists_are : (ts us : List Term) → like_lists ps ts us ≡ same_trms (map (trm [] (of_one ps)) ts) (map (trm [] (of_other ps)) us)
  lists_are [] [] = refl
  lists_are [] (u ∷ us) = refl
  lists_are (t ∷ ts) [] = refl
  lists_are (t ∷ ts) (u ∷ us) = λ i. terms_are t u i && lists_are ts us i
