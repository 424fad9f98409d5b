-- An assertion holds of the same heaps where its names have the same values, whether they are free or bound.
use Rattle.std.proofs.Common.{◌≡◌, ◌≢◌, ◌⊎◌, ℕ, suc, Bool, true, false, not, length, All, List, [], ◌∷◌, map, Option, Some, None, refl, sym, ◌∙◌, ap, subst}
use Rattle.std.proofs.lemmas.List.Elements.{All-head, All-tail}
use Rattle.std.specs.Prelude.{bytes_eq, if◌then◌else◌, option_map}
use Rattle.tht_tree.specs.declared.plain.Place.{Place}
use Rattle.tht_tree.specs.declared.plain.Place.TheVariants.{Null}
use Rattle.tht_tree.specs.declared.plain.Sort.{Sort}
use Rattle.tht_tree.specs.declared.plain.Value.{Value}
use Rattle.tht_tree.specs.declared.term.Term.{Term, roll-Term}
use Rattle.tht_tree.specs.declared.term.Term.TheOpen.{Term-F}
use Rattle.tht_tree.specs.declared.term.Term.TheOpen as f
use Rattle.tht_tree.specs.declared.assn.Assn.{Assn}
use Rattle.tht_tree.specs.declared.assn.Assn.TheVariants as a
use Rattle.tht_tree.specs.Values.{Val, is, Env, bool_of, place_of, seq_of, a_nat, a_bool, a_place, has_sort_val}
use Rattle.tht_tree.specs.Syntax.{Names, position, mul, add, sub, cons, cat, eq, lt, le, conj, disj, imp, root_or_free, named, trm_at, trm}
use Rattle.tht_tree.specs.Terms.{offset_by, apply, value_of}
use Rattle.tht_tree.specs.Heaps.{Heap, Joins, IsEmpty, IsCell}
use Rattle.tht_tree.specs.Heaps as heap
use Rattle.tht_tree.proofs.TermInduction.{fold_level, OfParts, by_parts}
use Rattle.tht_logic.specs.Assertions.{asn}
use Rattle.tht_logic.specs.Satisfaction.{Meaning, Satisfies}
use Rattle.assn_laws.specs.AssertionLaws.{EachName, EachFree}
use Rattle.assn_laws.proofs.AssnLevels.{Star, Exists, Either, Star-is, Exists-is, Either-is}
use Rattle.assn_laws.proofs.Nameless.{asn-Emp, asn-Fact, asn-Own, asn-Shared, asn-Star, asn-Inst, asn-Exists, asn-Either}
use Rattle.tht_logic.proofs.NamesInTerms.{name_in}
use Rattle.assn_laws.proofs.PuttingNames.{position_behind}

-- a name that is free has the same value behind one more bound variable, and each other the next number
pub value_behind : (roots : Names) (env : Env) (vs : List Val) (v : Val) (y : List ℕ) (o : Option ℕ) → value_of env (v ∷ vs) (named roots y (option_map suc o)) ≡ value_of env vs (named roots y o)
value_behind roots env vs v y (Some k) = refl
value_behind roots env vs v y None = of_free (position 0 roots y)
  where
    of_free : (r : Option ℕ) → value_of env (v ∷ vs) (root_or_free y r) ≡ value_of env vs (root_or_free y r)
    of_free (Some k) = refl
    of_free None = refl

-- K says of which free names something is known, in the environments e and g; the second reading may have other roots
module _ (roots others : Names) (K : List ℕ → Type 0) (e g : Env) where
  -- with the values vs of the bound names xs each name has the value in e that it has in g with the values ws of the bound names ys
  abbrev pub Same : List Val → Names → List Val → Names → Type 0
  Same vs xs ws ys = (y : List ℕ) → EachName K (name_in [] xs y) → value_of e vs (name_in roots xs y) ≡ value_of g ws (name_in others ys y)

  -- one bound variable more, of one value
  pub deeper_same : (vs : List Val) (xs : Names) (ws : List Val) (ys : Names) → Same vs xs ws ys → (x : List ℕ) (v : Val) → Same (v ∷ vs) (x ∷ xs) (v ∷ ws) (x ∷ ys)
  deeper_same vs xs ws ys s x v y = pick (bytes_eq x y)
    where
      known_before : (o : Option ℕ) → EachName K (named [] y (option_map suc o)) → EachName K (named [] y o)
      known_before (Some k) q = tt
      known_before None q = q

      pick : (c : Bool) → EachName K (named [] y (if c then Some 0 else position 1 xs y))
          → value_of e (v ∷ vs) (named roots y (if c then Some 0 else position 1 xs y)) ≡ value_of g (v ∷ ws) (named others y (if c then Some 0 else position 1 ys y))
      pick true q = refl
      pick false q =
          ap (λ o. value_of e (v ∷ vs) (named roots y o)) (position_behind 0 xs y) ∙ value_behind roots e vs v y (position 0 xs y)
          ∙ s y (known_before (position 0 xs y) (subst (λ o. EachName K (named [] y o)) (position_behind 0 xs y) q))
          ∙ sym (ap (λ o. value_of g (v ∷ ws) (named others y o)) (position_behind 0 ys y) ∙ value_behind others g ws v y (position 0 ys y))

  module _ (vs : List Val) (xs : Names) (ws : List Val) (ys : Names) (same : Same vs xs ws ys) where
    abbrev pub SameValue : Term → Type 0
    SameValue u = EachName K (trm [] xs u) → value_of e vs (trm roots xs u) ≡ value_of g ws (trm others ys u)

    value_step : (x : Term-F Term) → OfParts SameValue x → SameValue (roll-Term x)
    value_step (f.Num n) q k = ap (value_of e vs) (fold_level (trm_at roots xs) (f.Num n)) ∙ sym (ap (value_of g ws) (fold_level (trm_at others ys) (f.Num n)))
    value_step f.True q k = ap (value_of e vs) (fold_level (trm_at roots xs) f.True) ∙ sym (ap (value_of g ws) (fold_level (trm_at others ys) f.True))
    value_step f.False q k = ap (value_of e vs) (fold_level (trm_at roots xs) f.False) ∙ sym (ap (value_of g ws) (fold_level (trm_at others ys) f.False))
    value_step f.Null q k = ap (value_of e vs) (fold_level (trm_at roots xs) f.Null) ∙ sym (ap (value_of g ws) (fold_level (trm_at others ys) f.Null))
    value_step f.Nil q k = ap (value_of e vs) (fold_level (trm_at roots xs) f.Nil) ∙ sym (ap (value_of g ws) (fold_level (trm_at others ys) f.Nil))
    value_step f.Unit q k = ap (value_of e vs) (fold_level (trm_at roots xs) f.Unit) ∙ sym (ap (value_of g ws) (fold_level (trm_at others ys) f.Unit))
    value_step (f.Var y) q k = ap (value_of e vs) (fold_level (trm_at roots xs) (f.Var y)) ∙ same y (subst (EachName K) (fold_level (trm_at [] xs) (f.Var y)) k) ∙ sym (ap (value_of g ws) (fold_level (trm_at others ys) (f.Var y)))
    value_step (f.Len a) q k = ap (value_of e vs) (fold_level (trm_at roots xs) (f.Len a)) ∙ ap (λ w. a_nat (length (seq_of w))) (q (subst (EachName K) (fold_level (trm_at [] xs) (f.Len a)) k)) ∙ sym (ap (value_of g ws) (fold_level (trm_at others ys) (f.Len a)))
    value_step (f.Offset a j) q k = ap (value_of e vs) (fold_level (trm_at roots xs) (f.Offset a j)) ∙ ap (λ w. a_place (offset_by j (place_of w))) (q (subst (EachName K) (fold_level (trm_at [] xs) (f.Offset a j)) k)) ∙ sym (ap (value_of g ws) (fold_level (trm_at others ys) (f.Offset a j)))
    value_step (f.Not a) q k = ap (value_of e vs) (fold_level (trm_at roots xs) (f.Not a)) ∙ ap (λ w. a_bool (not (bool_of w))) (q (subst (EachName K) (fold_level (trm_at [] xs) (f.Not a)) k)) ∙ sym (ap (value_of g ws) (fold_level (trm_at others ys) (f.Not a)))
    value_step (f.Mul a b) q k =
        let h : EachName K (trm [] xs a) × EachName K (trm [] xs b) = subst (EachName K) (fold_level (trm_at [] xs) (f.Mul a b)) k in
        ap (value_of e vs) (fold_level (trm_at roots xs) (f.Mul a b)) ∙ (λ i. apply mul (q.0 h.0 i) (q.1 h.1 i)) ∙ sym (ap (value_of g ws) (fold_level (trm_at others ys) (f.Mul a b)))
    value_step (f.Add a b) q k =
        let h : EachName K (trm [] xs a) × EachName K (trm [] xs b) = subst (EachName K) (fold_level (trm_at [] xs) (f.Add a b)) k in
        ap (value_of e vs) (fold_level (trm_at roots xs) (f.Add a b)) ∙ (λ i. apply add (q.0 h.0 i) (q.1 h.1 i)) ∙ sym (ap (value_of g ws) (fold_level (trm_at others ys) (f.Add a b)))
    value_step (f.Sub a b) q k =
        let h : EachName K (trm [] xs a) × EachName K (trm [] xs b) = subst (EachName K) (fold_level (trm_at [] xs) (f.Sub a b)) k in
        ap (value_of e vs) (fold_level (trm_at roots xs) (f.Sub a b)) ∙ (λ i. apply sub (q.0 h.0 i) (q.1 h.1 i)) ∙ sym (ap (value_of g ws) (fold_level (trm_at others ys) (f.Sub a b)))
    value_step (f.Cons a b) q k =
        let h : EachName K (trm [] xs a) × EachName K (trm [] xs b) = subst (EachName K) (fold_level (trm_at [] xs) (f.Cons a b)) k in
        ap (value_of e vs) (fold_level (trm_at roots xs) (f.Cons a b)) ∙ (λ i. apply cons (q.0 h.0 i) (q.1 h.1 i)) ∙ sym (ap (value_of g ws) (fold_level (trm_at others ys) (f.Cons a b)))
    value_step (f.Cat a b) q k =
        let h : EachName K (trm [] xs a) × EachName K (trm [] xs b) = subst (EachName K) (fold_level (trm_at [] xs) (f.Cat a b)) k in
        ap (value_of e vs) (fold_level (trm_at roots xs) (f.Cat a b)) ∙ (λ i. apply cat (q.0 h.0 i) (q.1 h.1 i)) ∙ sym (ap (value_of g ws) (fold_level (trm_at others ys) (f.Cat a b)))
    value_step (f.Eq a b) q k =
        let h : EachName K (trm [] xs a) × EachName K (trm [] xs b) = subst (EachName K) (fold_level (trm_at [] xs) (f.Eq a b)) k in
        ap (value_of e vs) (fold_level (trm_at roots xs) (f.Eq a b)) ∙ (λ i. apply eq (q.0 h.0 i) (q.1 h.1 i)) ∙ sym (ap (value_of g ws) (fold_level (trm_at others ys) (f.Eq a b)))
    value_step (f.Lt a b) q k =
        let h : EachName K (trm [] xs a) × EachName K (trm [] xs b) = subst (EachName K) (fold_level (trm_at [] xs) (f.Lt a b)) k in
        ap (value_of e vs) (fold_level (trm_at roots xs) (f.Lt a b)) ∙ (λ i. apply lt (q.0 h.0 i) (q.1 h.1 i)) ∙ sym (ap (value_of g ws) (fold_level (trm_at others ys) (f.Lt a b)))
    value_step (f.Le a b) q k =
        let h : EachName K (trm [] xs a) × EachName K (trm [] xs b) = subst (EachName K) (fold_level (trm_at [] xs) (f.Le a b)) k in
        ap (value_of e vs) (fold_level (trm_at roots xs) (f.Le a b)) ∙ (λ i. apply le (q.0 h.0 i) (q.1 h.1 i)) ∙ sym (ap (value_of g ws) (fold_level (trm_at others ys) (f.Le a b)))
    value_step (f.And a b) q k =
        let h : EachName K (trm [] xs a) × EachName K (trm [] xs b) = subst (EachName K) (fold_level (trm_at [] xs) (f.And a b)) k in
        ap (value_of e vs) (fold_level (trm_at roots xs) (f.And a b)) ∙ (λ i. apply conj (q.0 h.0 i) (q.1 h.1 i)) ∙ sym (ap (value_of g ws) (fold_level (trm_at others ys) (f.And a b)))
    value_step (f.Or a b) q k =
        let h : EachName K (trm [] xs a) × EachName K (trm [] xs b) = subst (EachName K) (fold_level (trm_at [] xs) (f.Or a b)) k in
        ap (value_of e vs) (fold_level (trm_at roots xs) (f.Or a b)) ∙ (λ i. apply disj (q.0 h.0 i) (q.1 h.1 i)) ∙ sym (ap (value_of g ws) (fold_level (trm_at others ys) (f.Or a b)))
    value_step (f.Imp a b) q k =
        let h : EachName K (trm [] xs a) × EachName K (trm [] xs b) = subst (EachName K) (fold_level (trm_at [] xs) (f.Imp a b)) k in
        ap (value_of e vs) (fold_level (trm_at roots xs) (f.Imp a b)) ∙ (λ i. apply imp (q.0 h.0 i) (q.1 h.1 i)) ∙ sym (ap (value_of g ws) (fold_level (trm_at others ys) (f.Imp a b)))

    pub same_value : (u : Term) → EachName K (trm [] xs u) → value_of e vs (trm roots xs u) ≡ value_of g ws (trm others ys u)
    same_value = by_parts SameValue value_step

    pub same_values : (us : List Term) → All (EachName K) (map (trm [] xs) us) → map (value_of e vs) (map (trm roots xs) us) ≡ map (value_of g ws) (map (trm others ys) us)
    same_values [] k = refl
    same_values (u ∷ us) k = λ i. same_value u (All-head (EachName K) (trm [] xs u) (map (trm [] xs) us) k) i ∷ same_values us (All-tail (EachName K) (trm [] xs u) (map (trm [] xs) us) k) i

  -- ---- assertions

  module _ (M : Meaning) where
    abbrev pub Law : Assn → Type 1
    Law p = (vs : List Val) (xs : Names) (ws : List Val) (ys : Names) → Same vs xs ws ys → EachFree K (asn [] xs p) → Satisfies M e vs (asn roots xs p) ≡ Satisfies M g ws (asn others ys p)

    of_emp : Law a.Emp
    of_emp vs xs ws ys s k = ap (Satisfies M e vs) (asn-Emp roots xs) ∙ sym (ap (Satisfies M g ws) (asn-Emp others ys))

    of_fact : (u : Term) → Law (a.Fact u)
    of_fact u vs xs ws ys s k =
        let q : EachName K (trm [] xs u) = subst (EachFree K) (asn-Fact [] xs u) k in
        ap (Satisfies M e vs) (asn-Fact roots xs u) ∙ (λ i h. IsEmpty h × (same_value vs xs ws ys s u q i ≡ a_bool true)) ∙ sym (ap (Satisfies M g ws) (asn-Fact others ys u))

    of_own : (t u : Term) → Law (a.Own t u)
    of_own t u vs xs ws ys s k =
        let q : EachName K (trm [] xs t) × EachName K (trm [] xs u) = subst (EachFree K) (asn-Own [] xs t u) k in
        ap (Satisfies M e vs) (asn-Own roots xs t u)
        ∙ (λ i h. (b : ℕ) × (p : Place) × (w : Value) × (p ≢ Null) × (same_value vs xs ws ys s t q.0 i ≡ a_place p) × (same_value vs xs ws ys s u q.1 i ≡ is w) × IsCell h p (heap.own b w))
        ∙ sym (ap (Satisfies M g ws) (asn-Own others ys t u))

    of_shared : (t u : Term) → Law (a.Shared t u)
    of_shared t u vs xs ws ys s k =
        let q : EachName K (trm [] xs t) × EachName K (trm [] xs u) = subst (EachFree K) (asn-Shared [] xs t u) k in
        ap (Satisfies M e vs) (asn-Shared roots xs t u)
        ∙ (λ i h. (p : Place) × (w : Value) × (p ≢ Null) × (same_value vs xs ws ys s t q.0 i ≡ a_place p) × (same_value vs xs ws ys s u q.1 i ≡ is w) × IsCell h p (heap.shared w))
        ∙ sym (ap (Satisfies M g ws) (asn-Shared others ys t u))

    of_inst : (n : List ℕ) (us : List Term) → Law (a.Inst n us)
    of_inst n us vs xs ws ys s k =
        let q : All (EachName K) (map (trm [] xs) us) = subst (EachFree K) (asn-Inst [] xs n us) k in
        ap (Satisfies M e vs) (asn-Inst roots xs n us) ∙ (λ i h. M n (same_values vs xs ws ys s us q i) h) ∙ sym (ap (Satisfies M g ws) (asn-Inst others ys n us))

    of_star : (p q : Assn) → Law p → Law q → Law (a.Star p q)
    of_star p q l r vs xs ws ys s k =
        let z : EachFree K (asn [] xs p) × EachFree K (asn [] xs q) = subst (EachFree K) (asn-Star [] xs p q) k in
        ap (Satisfies M e vs) (asn-Star roots xs p q)
        ∙ (λ i h. (x y : Heap) × Joins x y h × l vs xs ws ys s z.0 i x × r vs xs ws ys s z.1 i y) ∙ sym (ap (Satisfies M g ws) (asn-Star others ys p q))

    of_either : (p q : Assn) → Law p → Law q → Law (a.Either p q)
    of_either p q l r vs xs ws ys s k =
        let z : EachFree K (asn [] xs p) × EachFree K (asn [] xs q) = subst (EachFree K) (asn-Either [] xs p q) k in
        ap (Satisfies M e vs) (asn-Either roots xs p q) ∙ (λ i h. l vs xs ws ys s z.0 i h ⊎ r vs xs ws ys s z.1 i h) ∙ sym (ap (Satisfies M g ws) (asn-Either others ys p q))

    of_exists : (x : List ℕ) (r : Sort) (p : Assn) → Law p → Law (a.Exists x r p)
    of_exists x r p l vs xs ws ys s k =
        let z : EachFree K (asn [] (x ∷ xs) p) = subst (EachFree K) (asn-Exists [] xs x r p) k in
        ap (Satisfies M e vs) (asn-Exists roots xs x r p)
        ∙ (λ i h. (v : Val) × (has_sort_val r v ≡ true) × l (v ∷ vs) (x ∷ xs) (v ∷ ws) (x ∷ ys) (deeper_same vs xs ws ys s x v) z i h)
        ∙ sym (ap (Satisfies M g ws) (asn-Exists others ys x r p))

    pub same_heaps : (p : Assn) → Law p
    same_heaps a.Emp = of_emp
    same_heaps (a.Fact u) = of_fact u
    same_heaps (a.Own t u) = of_own t u
    same_heaps (a.Shared t u) = of_shared t u
    same_heaps (Star p q) = subst Law (Star-is p q) (of_star p q (same_heaps p) (same_heaps q))
    same_heaps (a.Inst n us) = of_inst n us
    same_heaps (Exists x r p) = subst Law (Exists-is x r p) (of_exists x r p (same_heaps p))
    same_heaps (Either p q) = subst Law (Either-is p q) (of_either p q (same_heaps p) (same_heaps q))
