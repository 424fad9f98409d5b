-- The rules of equations are sound, and those of normal forms, differences and sequences.
use Rattle.std.proofs.Common.{◌≡◌, ℕ, ◌+◌, ◌-◌, ◌≤◌, inl, inr, Bool, true, false, cond, ◌&&◌, List, [], ◌∷◌, Option, Some, None, option_and_then, Result, Ok, Err, is_none, refl, sym, ◌∙◌, ap, subst, arith}
use Rattle.std.specs.Prelude.{bytes_eq}
use Rattle.tht_tree.specs.declared.plain.Spot.{Spot}
use Rattle.tht_tree.specs.declared.plain.Sort.{Sort}
use Rattle.tht_tree.specs.declared.plain.Sort.TheVariants as sort
use Rattle.tht_tree.specs.declared.state.Local.TheVariants.{Variable}
use Rattle.tht_tree.specs.declared.term.Term.{Term, out-Term}
use Rattle.tht_tree.specs.declared.term.Term.TheVariants as t
use Rattle.tht_tree.specs.declared.proof.ProofKind.TheOpen as p
use Rattle.tht_tree.specs.Values.{Val, seq, Env, nat_of, seq_of, a_nat}
use Rattle.tht_tree.specs.Heaps.{Heap}
use Rattle.tht_tree.specs.Syntax.{Names, position}
use Rattle.tht_tree.specs.SameTree.{same_of, is_true}
use Rattle.tht_tree.specs.Rules.Context.{Context, Scope, with_local}
use Rattle.tht_tree.specs.Rules.Scoping.{is_of, variable_sort, name_sort, sort_at, sort_of}
use Rattle.tht_tree.proofs.SameTerm.{same_of-true, bytes_eq-true}
use Rattle.tht_tree.proofs.TermFolds.{at-Var}
use Rattle.tht_tree.specs.Terms.{value}
use Rattle.tht_tree.specs.declared.form.NormalEnd.{NormalEnd}
use Rattle.tht_tree.specs.Normal.Forms.{normal_term}
use Rattle.tht_tree.specs.Normal.Putting.{Puts, put_name, put_in, over}
use Rattle.normal_laws.proofs.NormalValues.{Fits, normal_value}
use Rattle.normal_laws.proofs.PutValues.{put_in_value}
use Rattle.normal_laws.proofs.TermMeanings.{value-Num, value-Nil, value-Add, value-Sub, value-Cons}
use Rattle.tht_tree.specs.declared.rule.RuleRefusal.{RuleRefusal}
use Rattle.tht_tree.specs.declared.rule.RuleCode.TheVariants.{R5, R8}
use Rattle.tht_tree.specs.Rules.Refusals.{needs, ◌▸◌}
use Rattle.tht_tree.specs.Rules.Shapes.{Pair, as_equation, is_nocons, as_monus}
use Rattle.tht_tree.specs.Rules.Known.{Declared}
use Rattle.proof_laws.specs.Scoped.{InScope, Signatures, is_new, formula_in, term_in, scoped_at}
use Rattle.tht_tree.specs.Rules.Proofs.{Prover, Entry, proves, makes, needs_normal, needs_same_normal, equation_of, proof_at}
use Rattle.proof_laws.proofs.Refusing.{nothing, seq_none, needs_none, two_none, both_true}
use Rattle.proof_laws.proofs.ShapesSay.{a_pair, equation_is, true_is, OfMonus, monus_is, nocons_is}
use Rattle.proof_laws.proofs.TermSorts.{some, VariablesFit, is_of-true, eq_parts, eq_makes, le_makes, sub_parts, add_parts, cons_makes, nat_value, seq_value}
use Rattle.proof_laws.proofs.PutSorts.{put_sort}
use Rattle.proof_laws.proofs.Truth.{true_holds, eq_holds, eq_says, le_says, neg_holds}
use Rattle.proof_laws.proofs.SoundRule.{none_there, variables_fit, Formula, Valid, IsSound, proves_sound, makes_says}

-- ---- normal forms

abbrev a_term : Term → Result Term NormalEnd
a_term u = Ok u

normal_there : (spot : Spot) (r : Result Term NormalEnd) (go : Term → Option RuleRefusal) → needs_normal spot r go ≡ nothing → (u : Term) × (r ≡ a_term u) × (go u ≡ nothing)
normal_there spot (Ok u) go e = (u, refl, e)
normal_there spot (Err d) go e = cc

-- what the values of a scope's variables must be for normal forms
pub fitting : (roots : Names) (env : Env) (scope : Scope) → VariablesFit roots env scope → Fits roots scope env
fitting roots env scope h = record { sorts = λ x s e. (h x s e).0; apart = λ x s e. (h x s e).1 }

-- ---- one term put in

module _ (roots : Names) (env : Env) (x : List ℕ) (new : position 0 roots x ≡ None) where
  abbrev one : Term → Puts
  one a = (x, a) ∷ []

  roots_stay : (a : Term) (y : List ℕ) (r : ℕ) → position 0 roots y ≡ Some r → put_name (one a) y ≡ t.Var y
  roots_stay a y r e = by (bytes_eq x y) refl
    where
      by : (c : Bool) → bytes_eq x y ≡ c → cond c a (t.Var y) ≡ t.Var y
      by true g = let clash = sym new ∙ ap (position 0 roots) (bytes_eq-true x y g) ∙ e in cc
      by false g = refl

  over_same : (a b : Term) → value roots env a ≡ value roots env b → over roots env (one a) ≡ over roots env (one b)
  over_same a b e = λ i y. by (bytes_eq x y) y i
    where
      by : (c : Bool) (y : List ℕ) → value roots env (cond c a (t.Var y)) ≡ value roots env (cond c b (t.Var y))
      by true y = e
      by false y = refl

  -- terms with one value may be put in for each other
  pub put_same : (a b : Term) → value roots env a ≡ value roots env b → (u : Term) → value roots env (put_in (one a) u) ≡ value roots env (put_in (one b) u)
  put_same a b e u = put_in_value roots env (one a) (roots_stay a) u ∙ (λ i. value roots (over_same a b e i) u) ∙ sym (put_in_value roots env (one b) (roots_stay b) u)

  module _ (scope : Scope) (s : Sort) where
    name_keeps : (a : Term) → sort_of roots scope a ≡ some s → (y : List ℕ) →
        sort_of roots scope (put_name (one a) y) ≡ name_sort (variable_sort (with_local scope x (Variable s) y)) (position 0 roots y)
    name_keeps a e y = by (bytes_eq x y)
      where
        by : (c : Bool) → sort_of roots scope (cond c a (t.Var y)) ≡ name_sort (variable_sort (cond c (Some (Variable s)) (scope y))) (position 0 roots y)
        by true = e
        by false = at-Var (Option Sort) (sort_at roots scope) y

    pub put_formula : (a : Term) → sort_of roots scope a ≡ some s → (u : Term) (r : Sort) → sort_of roots (with_local scope x (Variable s)) u ≡ some r → sort_of roots scope (put_in (one a) u) ≡ some r
    put_formula a e u r h = put_sort roots scope (with_local scope x (Variable s)) (one a) (name_keeps a e) u ∙ h

-- ---- the rules

module _ (known : Declared) (fits : Signatures) (env : Env) (heap : Heap) where
  abbrev Sound : Prover → InScope → Type 0
  Sound = IsSound known fits env heap

  abbrev SoundAt : p.ProofKind-F (Spot → Prover) Entry Prover → p.ProofKind-F InScope InScope InScope → Type 0
  SoundAt x s = (spot : Spot) → Sound (proof_at known x spot) (scoped_at known.roots fits s)

  abbrev IsValid : Term → Type 0
  IsValid = Valid known fits env heap

  abbrev val : Term → Val
  val = value known.roots env

  -- an equation of this sort
  equation_there : (s : Sort) (scope : Scope) (goal : Term) (x : Pair) → equation_of known s scope goal ≡ a_pair x → (goal ≡ t.Eq x.0 x.1) × (sort_of known.roots scope x.0 ≡ some s)
  equation_there s scope goal x e = from (as_equation goal) refl e
    where
      by : (y : Pair) (c : Bool) → is_of s (sort_of known.roots scope y.0) ≡ c → cond c (a_pair y) None ≡ a_pair x → (y ≡ x) × (is_of s (sort_of known.roots scope y.0) ≡ true)
      by y true g h = (cc, g)
      by y false g h = cc

      from : (o : Option Pair) → as_equation goal ≡ o → option_and_then (λ y. cond (is_of s (sort_of known.roots scope y.0)) (a_pair y) None) o ≡ a_pair x → (goal ≡ t.Eq x.0 x.1) × (sort_of known.roots scope x.0 ≡ some s)
      from None g h = cc
      from (Some y) g h =
          let parts = by y (is_of s (sort_of known.roots scope y.0)) refl h in
          (equation_is goal y g ∙ (λ i. t.Eq (parts.0 i).0 (parts.0 i).1), ap (λ (z : Pair). sort_of known.roots scope z.0) (sym parts.0) ∙ is_of-true s (sort_of known.roots scope y.0) parts.1)

  -- both sides of an equation have the sort of one
  both_sorts : (c : Context) (a b goal : Term) (s : Sort) → goal ≡ t.Eq a b → Formula known fits env heap c goal → sort_of known.roots c.scope a ≡ some s → sort_of known.roots c.scope b ≡ some s
  both_sorts c a b goal s is sorted e =
      let sides = eq_parts known.roots c.scope a b sort.Bool (subst (Formula known fits env heap c) is sorted) in
      sides.2 ∙ sym sides.1 ∙ e

  pub refl_sound : SoundAt p.Refl p.Refl
  refl_sound spot c sat order goal sorted e =
      let found = two_none spot R5 (as_equation goal) (λ a b. needs spot R5 (same_of a b)) e in
      let same = same_of-true found.0.0 found.0.1 (needs_none spot R5 (same_of found.0.0 found.0.1) found.2) in
      subst IsValid (sym (equation_is goal found.0 found.1)) (eq_holds known.roots env found.0.0 found.0.1 (ap val same))

  pub calc_sound : SoundAt p.Calc p.Calc
  calc_sound spot c sat order goal sorted e =
      let found = normal_there spot (normal_term c.scope goal) (λ u. needs spot R8 (is_true (out-Term u))) e in
      let is = true_is found.0 (needs_none spot R8 (is_true (out-Term found.0)) found.2) in
      sym (normal_value known.roots c.scope env (fitting known.roots env c.scope (variables_fit known fits env heap c sat)) goal sort.Bool sorted found.0 found.1)
      ∙ ap val is ∙ true_holds known.roots env

  pub nocons_sound : SoundAt p.Nocons p.Nocons
  nocons_sound spot c sat order goal sorted e =
      let found = nocons_is goal (needs_none spot R5 (is_nocons goal) e) in
      subst IsValid (sym found.2) (neg_holds known.roots env (t.Eq t.Nil (t.Cons found.0 found.1)) (λ h.
      differ (nat_of (val found.0)) (seq_of (val found.1)) (sym (value-Nil known.roots env) ∙ eq_says known.roots env t.Nil (t.Cons found.0 found.1) h ∙ value-Cons known.roots env found.0 found.1)))
    where
      differ : (n : ℕ) (ns : List ℕ) → seq [] ≡ seq (n ∷ ns) → ⊥
      differ n ns e = let g : [] ≡ n ∷ ns = ap seq_of e in cc

  module _ (q : Prover) (s : InScope) (sound : Sound q s) where
    abbrev made : (spot : Spot) → Sound (proves spot q) s
    made = proves_sound known fits env heap q s sound

    pub recast_sound : (u : Term) → SoundAt (p.Recast u q) (p.Recast u s)
    recast_sound u spot c sat order goal sorted e =
        let parts = both_true (formula_in known.roots fits c.scope u) (s c.scope) order in
        let next = seq_none (proves spot q c u) (needs_same_normal spot c.scope u goal) e in
        let is_formula = is_of-true sort.Bool (sort_of known.roots c.scope u) parts.0 in
        let one = normal_there spot (normal_term c.scope u) (λ a. needs_normal spot (normal_term c.scope goal) (λ b. needs spot R8 (same_of a b))) next.1 in
        let two = normal_there spot (normal_term c.scope goal) (λ b. needs spot R8 (same_of one.0 b)) one.2 in
        let same = same_of-true one.0 two.0 (needs_none spot R8 (same_of one.0 two.0) two.2) in
        let fitted = fitting known.roots env c.scope (variables_fit known fits env heap c sat) in
        sym (normal_value known.roots c.scope env fitted goal sort.Bool sorted two.0 two.1)
        ∙ ap val (sym same)
        ∙ normal_value known.roots c.scope env fitted u sort.Bool is_formula one.0 one.1
        ∙ made spot c sat parts.1 u is_formula next.0

    pub sym_sound : SoundAt (p.Sym q) (p.Sym s)
    sym_sound spot c sat order goal sorted e =
        let found = two_none spot R5 (as_equation goal) (λ a b. proves spot q c (t.Eq b a)) e in
        let a = found.0.0 in
        let b = found.0.1 in
        let is = equation_is goal found.0 found.1 in
        let sides = eq_parts known.roots c.scope a b sort.Bool (subst (Formula known fits env heap c) is sorted) in
        let back = made spot c sat order (t.Eq b a) (eq_makes known.roots c.scope b a sides.0 sides.2 sides.1) found.2 in
        subst IsValid (sym is) (eq_holds known.roots env a b (sym (eq_says known.roots env b a back)))

    pub monus_sound : SoundAt (p.Monus q) (p.Monus s)
    monus_sound spot c sat order goal sorted e =
        let found = two_none spot R5 (as_monus goal) (λ a b. proves spot q c (t.Le a b)) e in
        from found.0.0 found.0.1 found.2 (monus_is goal found.0 found.1)
      where
        back : (m n : ℕ) → m ≤ n → n - m + m ≡ n
        back m n l = omega arith

        gone : (m n : ℕ) → m ≤ n → m - n ≡ 0
        gone m n l = omega arith

        from : (a b : Term) → proves spot q c (t.Le a b) ≡ nothing → OfMonus goal (a, b) → IsValid goal
        from a b g (inl is) =
            let sides = eq_parts known.roots c.scope (t.Add (t.Sub b a) a) b sort.Bool (subst (Formula known fits env heap c) is sorted) in
            let sum = add_parts known.roots c.scope (t.Sub b a) a sides.0 sides.1 in
            let parts = sub_parts known.roots c.scope b a sort.Nat sum.0 in
            let less = le_says known.roots env a b (made spot c sat order (t.Le a b) (le_makes known.roots c.scope a b parts.1 parts.0) g) in
            subst IsValid (sym is) (eq_holds known.roots env (t.Add (t.Sub b a) a) b
            (value-Add known.roots env (t.Sub b a) a
            ∙ (λ i. a_nat (ap nat_of (value-Sub known.roots env b a) i + nat_of (val a)))
            ∙ ap a_nat (back (nat_of (val a)) (nat_of (val b)) less)
            ∙ sym (nat_value known.roots env c.scope (variables_fit known fits env heap c sat) b parts.0)))
        from a b g (inr is) =
            let sides = eq_parts known.roots c.scope (t.Sub a b) (t.Num 0) sort.Bool (subst (Formula known fits env heap c) is sorted) in
            let parts = sub_parts known.roots c.scope a b sides.0 sides.1 in
            let less = le_says known.roots env a b (made spot c sat order (t.Le a b) (le_makes known.roots c.scope a b parts.0 parts.1) g) in
            subst IsValid (sym is) (eq_holds known.roots env (t.Sub a b) (t.Num 0)
            (value-Sub known.roots env a b ∙ ap a_nat (gone (nat_of (val a)) (nat_of (val b)) less) ∙ sym (value-Num known.roots env 0)))

    pub head_sound : (v w : Term) → SoundAt (p.Head v w q) (p.Head v w s)
    head_sound v w spot c sat order goal sorted e =
        let first = both_true (term_in known.roots fits c.scope sort.Seq v && term_in known.roots fits c.scope sort.Seq w) (s c.scope) order in
        let parts = both_true (term_in known.roots fits c.scope sort.Seq v) (term_in known.roots fits c.scope sort.Seq w) first.0 in
        let found = two_none spot R5 (equation_of known sort.Nat c.scope goal) (λ x y. proves spot q c (t.Eq (t.Cons x v) (t.Cons y w))) e in
        let x = found.0.0 in
        let y = found.0.1 in
        let is = equation_there sort.Nat c.scope goal found.0 found.1 in
        let right = both_sorts c x y goal sort.Nat is.0 sorted is.1 in
        let made_sort = eq_makes known.roots c.scope (t.Cons x v) (t.Cons y w) sort.Seq
        (cons_makes known.roots c.scope x v is.1 (is_of-true sort.Seq (sort_of known.roots c.scope v) parts.0))
        (cons_makes known.roots c.scope y w right (is_of-true sort.Seq (sort_of known.roots c.scope w) parts.1)) in
        let same = sym (value-Cons known.roots env x v) ∙ eq_says known.roots env (t.Cons x v) (t.Cons y w) (made spot c sat first.1 (t.Eq (t.Cons x v) (t.Cons y w)) made_sort found.2) ∙ value-Cons known.roots env y w in
        subst IsValid (sym is.0) (eq_holds known.roots env x y
        (nat_value known.roots env c.scope (variables_fit known fits env heap c sat) x is.1
        ∙ ap a_nat (ap first_of_seq same)
        ∙ sym (nat_value known.roots env c.scope (variables_fit known fits env heap c sat) y right)))
      where
        head_of : List ℕ → ℕ
        head_of [] = 0
        head_of (n ∷ ns) = n

        first_of_seq : Val → ℕ
        first_of_seq u = head_of (seq_of u)

    pub tail_sound : (x y : Term) → SoundAt (p.Tail x y q) (p.Tail x y s)
    tail_sound x y spot c sat order goal sorted e =
        let first = both_true (term_in known.roots fits c.scope sort.Nat x && term_in known.roots fits c.scope sort.Nat y) (s c.scope) order in
        let parts = both_true (term_in known.roots fits c.scope sort.Nat x) (term_in known.roots fits c.scope sort.Nat y) first.0 in
        let found = two_none spot R5 (equation_of known sort.Seq c.scope goal) (λ v w. proves spot q c (t.Eq (t.Cons x v) (t.Cons y w))) e in
        let v = found.0.0 in
        let w = found.0.1 in
        let is = equation_there sort.Seq c.scope goal found.0 found.1 in
        let right = both_sorts c v w goal sort.Seq is.0 sorted is.1 in
        let made_sort = eq_makes known.roots c.scope (t.Cons x v) (t.Cons y w) sort.Seq
        (cons_makes known.roots c.scope x v (is_of-true sort.Nat (sort_of known.roots c.scope x) parts.0) is.1)
        (cons_makes known.roots c.scope y w (is_of-true sort.Nat (sort_of known.roots c.scope y) parts.1) right) in
        let same = sym (value-Cons known.roots env x v) ∙ eq_says known.roots env (t.Cons x v) (t.Cons y w) (made spot c sat first.1 (t.Eq (t.Cons x v) (t.Cons y w)) made_sort found.2) ∙ value-Cons known.roots env y w in
        subst IsValid (sym is.0) (eq_holds known.roots env v w
        (seq_value known.roots env c.scope (variables_fit known fits env heap c sat) v is.1
        ∙ ap seq (ap rest_of_seq same)
        ∙ sym (seq_value known.roots env c.scope (variables_fit known fits env heap c sat) w right)))
      where
        tail_of : List ℕ → List ℕ
        tail_of [] = []
        tail_of (n ∷ ns) = ns

        rest_of_seq : Val → List ℕ
        rest_of_seq u = tail_of (seq_of u)

    module _ (r : Prover) (u : InScope) (sound_r : Sound r u) where
      abbrev made_r : (spot : Spot) → Sound (proves spot r) u
      made_r = proves_sound known fits env heap r u sound_r

      pub both_sound : SoundAt (p.Both q r) (p.Both s u)
      both_sound spot c sat order goal sorted e =
          let parts = both_true (s c.scope) (u c.scope) order in
          let found = two_none spot R5 (equation_of known sort.Nat c.scope goal) (λ a b. proves spot q c (t.Le a b) ▸ proves spot r c (t.Le b a)) e in
          let a = found.0.0 in
          let b = found.0.1 in
          let is = equation_there sort.Nat c.scope goal found.0 found.1 in
          let right = both_sorts c a b goal sort.Nat is.0 sorted is.1 in
          let next = seq_none (proves spot q c (t.Le a b)) (proves spot r c (t.Le b a)) found.2 in
          let up = le_says known.roots env a b (made spot c sat parts.0 (t.Le a b) (le_makes known.roots c.scope a b is.1 right) next.0) in
          let down = le_says known.roots env b a (made_r spot c sat parts.1 (t.Le b a) (le_makes known.roots c.scope b a right is.1) next.1) in
          subst IsValid (sym is.0) (eq_holds known.roots env a b
          (nat_value known.roots env c.scope (variables_fit known fits env heap c sat) a is.1 ∙ ap a_nat (one (nat_of (val a)) (nat_of (val b)) up down) ∙ sym (nat_value known.roots env c.scope (variables_fit known fits env heap c sat) b right)))
        where
          one : (m n : ℕ) → m ≤ n → n ≤ m → m ≡ n
          one m n h g = omega arith

      pub subst_sound : (x : List ℕ) (z : Sort) (k a b : Term) → SoundAt (p.Subst x z k a b q r) (p.Subst x z k a b s u)
      subst_sound x z k a b spot c sat order goal sorted e =
          let new_x = is_new known.roots fits c.scope x in
          let k_in = formula_in known.roots fits (with_local c.scope x (Variable z)) k in
          let a_in = term_in known.roots fits c.scope z a in
          let b_in = term_in known.roots fits c.scope z b in
          let p5 = both_true (new_x && k_in && a_in && b_in && s c.scope) (u c.scope) order in
          let p4 = both_true (new_x && k_in && a_in && b_in) (s c.scope) p5.0 in
          let p3 = both_true (new_x && k_in && a_in) b_in p4.0 in
          let p2 = both_true (new_x && k_in) a_in p3.0 in
          let p1 = both_true new_x k_in p2.0 in
          let new = none_there (position 0 known.roots x) (both_true (is_none (c.scope x)) (is_none (position 0 known.roots x)) p1.0).1 in
          let a_sort = is_of-true z (sort_of known.roots c.scope a) p2.1 in
          let b_sort = is_of-true z (sort_of known.roots c.scope b) p3.1 in
          let k_sort = is_of-true sort.Bool (sort_of known.roots (with_local c.scope x (Variable z)) k) p1.1 in
          let with_a = put_in ((x, a) ∷ []) k in
          let with_b = put_in ((x, b) ∷ []) k in
          let first = seq_none (makes spot with_b goal) (proves spot q c (t.Eq a b) ▸ proves spot r c with_a) e in
          let next = seq_none (proves spot q c (t.Eq a b)) (proves spot r c with_a) first.1 in
          let same = eq_says known.roots env a b (made spot c sat p4.1 (t.Eq a b) (eq_makes known.roots c.scope a b z a_sort b_sort) next.0) in
          let holds_a = made_r spot c sat p5.1 with_a (put_formula known.roots env x new c.scope z a a_sort k sort.Bool k_sort) next.1 in
          subst IsValid (makes_says known fits env heap spot with_b goal first.0) (put_same known.roots env x new b a (sym same) k ∙ holds_a)
