-- The value of an expression is that of its term.
use Rattle.std.proofs.Common.{◌≡◌, ℕ, zero, suc, ◌+◌, ◌-◌, ◌*◌, ◌≤◌, ltb, leb, cond, ◌&&◌, ◌||◌, not, Bool, true, false, List, [], ◌∷◌, length, map, reverse, get_or, Option, Some, None, refl, sym, ◌∙◌, ap, subst, arith, ◌⊎◌, inl, inr, if◌then◌else◌}
use Rattle.std.proofs.lemmas.Bool.{ltb-true, ltb-false}
use Rattle.std.proofs.lemmas.List.{get_or-reverse, get_or_past, length-reverse}
use Rattle.tht_tree.specs.declared.plain.Value.{Value}
use Rattle.tht_tree.specs.declared.plain.Value.TheVariants as v
use Rattle.tht_tree.specs.declared.term.Term.{Term, map-Term}
use Rattle.tht_tree.specs.declared.term.Term.TheOpen.{Term-F}
use Rattle.tht_tree.specs.declared.term.Term.TheOpen as f
use Rattle.tht_tree.specs.Values.{Val, is, value_in, nat_in, bool_in, place_in, unit_value, is_small_val, same_value}
use Rattle.tht_tree.specs.Syntax.{Trm, bound, len, off, neg, op, Op, add, sub, mul, eq, lt, le, conj, disj, imp, Names, position, named, trm, trm_at}
use Rattle.tht_tree.specs.Terms.{nth, value_of, fits, offset_by, implies}
use Rattle.tht_tree.proofs.TermInduction.{fold_level, OfParts, by_parts}
use Rattle.tht_logic.specs.Machine.{no_env, value, all_fit}
use Rattle.code_form.specs.declared.expr.Expr.{Expr, fold-roll-Expr}
use Rattle.code_form.specs.declared.expr.Expr.TheVariants as E
use Rattle.code_form.specs.declared.expr.Expr.TheOpen as e
use Rattle.code_form.specs.declared.expr.Op.{Op as BothOp}
use Rattle.code_form.specs.declared.expr.Op.TheVariants as o
use Rattle.code_form.specs.Eval.{fitting, one, both, applied, var_in, eval_at, eval_of, with_first, all_of}
use Rattle.tht_logic.specs.PlainPrograms.{no_sequence, no_sequences}
use Rattle.code_form.specs.Lowering.{var_expr, expr_at, expr_of}

-- ---- expressions, form by form

pub eval_lit : (w : Value) (env : List Value) → eval_of (E.Lit w) env ≡ fitting w
eval_lit w env = ap (λ z. eval_of z env) (sym (E.rolls-Lit w)) ∙ ap (λ g. g env) (fold-roll-Expr (List Value → Option Value) eval_at (e.Lit w))

eval_var : (k : ℕ) (env : List Value) → eval_of (E.Var k) env ≡ fitting (var_in env k)
eval_var k env = ap (λ z. eval_of z env) (sym (E.rolls-Var k)) ∙ ap (λ g. g env) (fold-roll-Expr (List Value → Option Value) eval_at (e.Var k))

eval_len : (a : Expr) (env : List Value) → eval_of (E.Len a) env ≡ one (λ x. Some (v.Nat 0)) (eval_of a env)
eval_len a env = ap (λ z. eval_of z env) (sym (E.rolls-Len a)) ∙ ap (λ g. g env) (fold-roll-Expr (List Value → Option Value) eval_at (e.Len a))

eval_offset : (a : Expr) (k : ℕ) (env : List Value) → eval_of (E.Offset a k) env ≡ one (λ x. fitting (v.Loc (offset_by k (place_in x)))) (eval_of a env)
eval_offset a k env = ap (λ z. eval_of z env) (sym (E.rolls-Offset a k)) ∙ ap (λ g. g env) (fold-roll-Expr (List Value → Option Value) eval_at (e.Offset a k))

eval_not : (a : Expr) (env : List Value) → eval_of (E.Not a) env ≡ one (λ x. Some (v.Bool (not (bool_in x)))) (eval_of a env)
eval_not a env = ap (λ z. eval_of z env) (sym (E.rolls-Not a)) ∙ ap (λ g. g env) (fold-roll-Expr (List Value → Option Value) eval_at (e.Not a))

eval_both : (p : BothOp) (a b : Expr) (env : List Value) → eval_of (E.Both p a b) env ≡ both (applied p) (eval_of a env) (eval_of b env)
eval_both p a b env = ap (λ z. eval_of z env) (sym (E.rolls-Both p a b)) ∙ ap (λ g. g env) (fold-roll-Expr (List Value → Option Value) eval_at (e.Both p a b))

-- ---- variables

nth_values : (ws : List Value) (k : ℕ) → nth (map is ws) k ≡ is (get_or ws k unit_value)
nth_values [] k = refl
nth_values (w ∷ ws) zero = refl
nth_values (w ∷ ws) (suc k) = nth_values ws k

nth_variable : (env : List Value) (k : ℕ) → nth (map is (reverse env)) k ≡ is (var_in env k)
nth_variable env k = nth_values (reverse env) k ∙ ap is (by (ltb k (length env)) refl)
  where
    by : (b : Bool) → ltb k (length env) ≡ b → get_or (reverse env) k unit_value ≡ cond b (get_or env (length env - 1 - k) unit_value) unit_value
    by true h = get_or-reverse env k unit_value (ltb-true k (length env) h)
    by false h = let l = ltb-false k (length env) h in let n = length-reverse env in get_or_past (reverse env) k unit_value (omega (arith, l, n))

-- ---- terms

pub both_true : (a b : Bool) → (a && b) ≡ true → (a ≡ true) × (b ≡ true)
both_true true b h = (refl, h)
both_true false b h = cc

abbrev pub if_fits : Bool → Value → Option Value
if_fits b w = if b then Some w else None

module _ (env : List Value) where
  abbrev pub values : List Val
  values = map is (reverse env)

  -- the term has a stored value, and this is that value where the term fits
  pub record Means (a : Option Value) (u : Trm) : Type 0 where
    pub stored : value_of no_env values u ≡ is (value values u)
    pub answer : a ≡ if_fits (fits no_env values u) (value values u)

  stored_is : (u : Trm) (w : Value) → value_of no_env values u ≡ is w → value_of no_env values u ≡ is (value values u)
  stored_is u w h = h ∙ ap is (sym (ap value_in h))

  both_is : (c d s : Bool) (x y r : Value) (g : Value → Value → Option Value) → g x y ≡ if_fits s r → both g (if_fits c x) (if_fits d y) ≡ if_fits (c && (d && s)) r
  both_is true true s x y r g h = h
  both_is true false s x y r g h = refl
  both_is false d s x y r g h = refl

  one_is : (c s : Bool) (x r : Value) (g : Value → Option Value) → g x ≡ if_fits s r → one g (if_fits c x) ≡ if_fits (c && s) r
  one_is true s x r g h = h
  one_is false s x r g h = refl

  name_is : (x : List ℕ) (p : Option ℕ) → Means (eval_of (var_expr p) env) (named [] x p)
  name_is x (Some k) = record {
    stored = stored_is (bound k) (var_in env k) (nth_variable env k);
    answer = rw (eval_var k env, nth_variable env k) refl;
  }
  name_is x None = record { stored = refl; answer = eval_lit v.Unit env }

  -- an operation with one part
  alone : (u a : Trm) (x : Option Value) (g : Value → Option Value) (w : Value) → Means x a → value_of no_env values u ≡ is w
      → fits no_env values u ≡ (fits no_env values a && is_small_val (value_of no_env values u)) → g (value values a) ≡ if_fits (is_small_val (value_of no_env values u)) w → Means (one g x) u
  alone u a x g w h is_w fit small = record {
    stored = stored_is u w is_w;
    answer = rw (h.answer, fit) (one_is (fits no_env values a) (is_small_val (value_of no_env values u)) (value values a) (value values u) g (small ∙ rw is_w refl));
  }

  -- an operation with two parts
  joined : (p : Op) (a b : Trm) (x y : Option Value) (g : Value → Value → Option Value) (w : Value) → Means x a → Means y b
      → value_of no_env values (op p a b) ≡ is w → g (value values a) (value values b) ≡ if_fits (is_small_val (value_of no_env values (op p a b))) w → Means (both g x y) (op p a b)
  joined p a b x y g w ha hb is_w small = record {
    stored = stored_is (op p a b) w is_w;
    answer = rw (ha.answer, hb.answer) (both_is (fits no_env values a) (fits no_env values b) (is_small_val (value_of no_env values (op p a b))) (value values a) (value values b) (value values (op p a b)) g (small ∙ rw is_w refl));
  }

  module _ (xs : Names) where
    abbrev meant : Term → Trm
    meant t = trm [] xs t

    abbrev answer : Term → Option Value
    answer t = eval_of (expr_of xs t) env

    abbrev pub IsMeant : Term → Type 0
    IsMeant t = no_sequence (trm [] xs t) ≡ true → Means (eval_of (expr_of xs t) env) (trm [] xs t)

    abbrev stored_at : Term → Value
    stored_at t = value values (trm [] xs t)

    abbrev free : Term → Bool
    free t = no_sequence (trm [] xs t)

    literal : (w : Value) (u : Trm) → Means (fitting w) u → Means (eval_of (E.Lit w) env) u
    literal w u m = subst (λ z. Means z u) (sym (eval_lit w env)) m

    two : (p : Op) (q : BothOp) (a b : Term) (w : Value) → IsMeant a → IsMeant b → (free a && free b) ≡ true
        → value_of no_env values (op p (meant a) (meant b)) ≡ is w → applied q (stored_at a) (stored_at b) ≡ if_fits (is_small_val (value_of no_env values (op p (meant a) (meant b)))) w
        → Means (eval_of (E.Both q (expr_of xs a) (expr_of xs b)) env) (op p (meant a) (meant b))
    two p q a b w h k s is_w small =
        let both_free = both_true (free a) (free b) s in
        subst (λ z. Means z (op p (meant a) (meant b))) (sym (eval_both q (expr_of xs a) (expr_of xs b) env))
        (joined p (meant a) (meant b) (answer a) (answer b) (applied q) w (h both_free.0) (k both_free.1) is_w small)

    equal : (a b : Term) → IsMeant a → IsMeant b → (free a && free b) ≡ true → Means (eval_of (E.Both o.Eq (expr_of xs a) (expr_of xs b)) env) (op eq (meant a) (meant b))
    equal a b h k s =
        let both_free = both_true (free a) (free b) s in
        let left = h both_free.0 in
        let right = k both_free.1 in
        subst (λ z. Means z (op eq (meant a) (meant b))) (sym (eval_both o.Eq (expr_of xs a) (expr_of xs b) env))
        (joined eq (meant a) (meant b) (answer a) (answer b) (applied o.Eq) (v.Bool (same_value (stored_at a) (stored_at b))) left right (rw (left.stored, right.stored) refl) refl)

    at : (x : Term-F Term) → OfParts IsMeant x → no_sequence (trm_at [] xs (map-Term Term Trm (trm [] xs) x)) ≡ true
        → Means (eval_of (expr_at xs (map-Term Term Expr (expr_of xs) x)) env) (trm_at [] xs (map-Term Term Trm (trm [] xs) x))
    at (f.Num k) h s = literal (v.Nat k) _ (record { stored = refl; answer = refl })
    at f.True h s = literal (v.Bool true) _ (record { stored = refl; answer = refl })
    at f.False h s = literal (v.Bool false) _ (record { stored = refl; answer = refl })
    at f.Null h s = literal (v.Loc _) _ (record { stored = refl; answer = refl })
    at f.Nil h s = cc
    at f.Unit h s = literal v.Unit _ (record { stored = refl; answer = refl })
    at (f.Var x) h s = name_is x (position 0 xs x)
    at (f.Len a) h s =
        subst (λ z. Means z (len (meant a))) (sym (eval_len (expr_of xs a) env))
        (alone (len (meant a)) (meant a) (answer a) (λ x. Some (v.Nat 0)) (v.Nat 0) (h s) (rw (h s).stored refl) refl (rw (h s).stored refl))
    at (f.Offset a k) h s =
        subst (λ z. Means z (off k (meant a))) (sym (eval_offset (expr_of xs a) k env))
        (alone (off k (meant a)) (meant a) (answer a) (λ x. fitting (v.Loc (offset_by k (place_in x)))) (v.Loc (offset_by k (place_in (stored_at a)))) (h s) refl refl refl)
    at (f.Not a) h s =
        subst (λ z. Means z (neg (meant a))) (sym (eval_not (expr_of xs a) env))
        (alone (neg (meant a)) (meant a) (answer a) (λ x. Some (v.Bool (not (bool_in x)))) (v.Bool (not (bool_in (stored_at a)))) (h s) refl refl refl)
    at (f.Mul a b) h s = two mul o.Mul a b (v.Nat (nat_in (stored_at a) * nat_in (stored_at b))) h.0 h.1 s refl refl
    at (f.Add a b) h s = two add o.Add a b (v.Nat (nat_in (stored_at a) + nat_in (stored_at b))) h.0 h.1 s refl refl
    at (f.Sub a b) h s = two sub o.Sub a b (v.Nat (nat_in (stored_at a) - nat_in (stored_at b))) h.0 h.1 s refl refl
    at (f.Cons a b) h s = cc
    at (f.Cat a b) h s = cc
    at (f.Eq a b) h s = equal a b h.0 h.1 s
    at (f.Lt a b) h s = two lt o.Lt a b (v.Bool (ltb (nat_in (stored_at a)) (nat_in (stored_at b)))) h.0 h.1 s refl refl
    at (f.Le a b) h s = two le o.Le a b (v.Bool (leb (nat_in (stored_at a)) (nat_in (stored_at b)))) h.0 h.1 s refl refl
    at (f.And a b) h s = two conj o.And a b (v.Bool (bool_in (stored_at a) && bool_in (stored_at b))) h.0 h.1 s refl refl
    at (f.Or a b) h s = two disj o.Or a b (v.Bool (bool_in (stored_at a) || bool_in (stored_at b))) h.0 h.1 s refl refl
    at (f.Imp a b) h s = two imp o.Imp a b (v.Bool (implies (bool_in (stored_at a)) (bool_in (stored_at b)))) h.0 h.1 s refl refl

    -- the expression of a term has the value that the machine gives the term
    pub means : (t : Term) → IsMeant t
    means = by_parts IsMeant (λ x h s.
        rw (fold_level (expr_at xs) x, fold_level (trm_at [] xs) x) (at x h (ap no_sequence (sym (fold_level (trm_at [] xs) x)) ∙ s)))

    -- the values of all terms, where each fits
    all_first : (c d : Bool) (w : Value) (ws : List Value) → with_first (if_fits c w) (cond d (Some ws) None) ≡ cond (c && d) (Some (w ∷ ws)) None
    all_first true true w ws = refl
    all_first true false w ws = refl
    all_first false d w ws = refl

    pub all_means : (ts : List Term) → no_sequences (map (trm [] xs) ts) ≡ true →
        all_of env (map (expr_of xs) ts) ≡ cond (all_fit values (map (trm [] xs) ts)) (Some (map (value values) (map (trm [] xs) ts))) None
    all_means [] s = refl
    all_means (t ∷ ts) s =
        let parts = both_true (no_sequence (trm [] xs t)) (no_sequences (map (trm [] xs) ts)) s in
        ap (λ z. with_first z (all_of env (map (expr_of xs) ts))) (means t parts.0).answer ∙
        ap (with_first (if_fits (fits no_env values (trm [] xs t)) (value values (trm [] xs t)))) (all_means ts parts.1) ∙
        all_first (fits no_env values (trm [] xs t)) (all_fit values (map (trm [] xs) ts)) (value values (trm [] xs t)) (map (value values) (map (trm [] xs) ts))
