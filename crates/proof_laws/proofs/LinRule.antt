-- The rule of linear certificates is sound, if certificates are.
use Rattle.std.proofs.Common.{◌≡◌, ◌==◌, nat_lt, ℕ, ◌<◌, ◌≤◌, Bool, true, false, cond, List, [], ◌∷◌, map, filter_map, Option, Some, None, is_some, option_map, refl, sym, ◌∙◌, ap, subst, arith}
use Rattle.std.specs.List.{list_all, cons_option}
use Rattle.std.proofs.lemmas.Bool.{eqb-true}
use Rattle.std.proofs.lemmas.Bool.Decides.{nat_tests}
use Rattle.tht_tree.specs.declared.plain.Spot.{Spot}
use Rattle.tht_tree.specs.declared.plain.Sort.TheVariants as sort
use Rattle.tht_tree.specs.declared.term.Term.{Term, out-Term}
use Rattle.tht_tree.specs.declared.term.Term.TheVariants as t
use Rattle.tht_tree.specs.declared.term.Term.TheOpen.{Term-F}
use Rattle.tht_tree.specs.declared.term.Term.TheOpen as f
use Rattle.tht_tree.specs.declared.proof.ProofKind.TheOpen as p
use Rattle.tht_tree.specs.Values.{Env, nat_of, a_nat}
use Rattle.tht_tree.specs.Heaps.{Heap}
use Rattle.tht_tree.specs.Syntax.{Names}
use Rattle.tht_tree.specs.Rules.Sizes.{formula_fits}
use Rattle.tht_tree.specs.Rules.Context.{Context, Scope}
use Rattle.tht_tree.specs.Rules.Scoping.{is_of, sort_of}
use Rattle.tht_tree.specs.declared.form.Comparison.{Comparison}
use Rattle.tht_tree.specs.Normal.Linear.{at_most, below, negation_at, comparison_at, comparison_of}
use Rattle.tht_tree.specs.declared.rule.RuleCode.TheVariants.{R5, R10}
use Rattle.tht_tree.specs.Rules.Refusals.{refused_as, needs, ◌▸◌, in_order}
use Rattle.tht_tree.specs.Rules.Shapes.{equation_at, as_equation}
use Rattle.tht_tree.specs.Rules.Known.{Declared}
use Rattle.tht_tree.specs.Rules.Certificates.{Aim, denial, equal, aim_at, aim_of, fact_of, Fact, turned, refused_certificate}
use Rattle.proof_laws.specs.Scoped.{InScope, Signatures, scoped_at}
use Rattle.tht_tree.specs.Rules.Proofs.{Entry, proves, certifies, fact_in, entry_refused, proof_at}
use Rattle.proof_laws.proofs.Refusing.{nothing, seq_none, as_none, needs_none, some_none, both_true}
use Rattle.proof_laws.proofs.ShapesSay.{rolled}
use Rattle.proof_laws.proofs.TermSorts.{some, is_of-true, eq_parts, le_parts, lt_parts, neg_part, nat_value}
use Rattle.proof_laws.proofs.Truth.{Holds, number, neg_says, eq_holds, eq_says, le_says, lt_says, le_holds, lt_holds, le_fails, lt_fails}
use Rattle.proof_laws.proofs.SoundRule.{variables_fit, Sat, Formula, Valid, IsSound}
use Rattle.proof_laws.proofs.EquationRules.{fitting}
use Rattle.proof_laws.proofs.LinNeeds.{HasSides, Says, OfDenied, OfFacts, CertificatesAreSound}

abbrev pub a_comparison : Comparison → Option Comparison
a_comparison c = Some c

-- ---- comparisons

module _ (roots : Names) (env : Env) (scope : Scope) where
  abbrev IsFormula : Term → Type 0
  IsFormula u = sort_of roots scope u ≡ some sort.Bool

  -- both sides are numbers, and the comparison is true
  abbrev pub Good : Comparison → Type 0
  Good c = HasSides roots scope c × Says roots env c

  same_sides : (a b : Term) → Holds roots env (t.Eq a b) → (number roots env a ≤ number roots env b) × (number roots env b ≤ number roots env a)
  same_sides a b h = let e : number roots env a ≡ number roots env b = ap nat_of (eq_says roots env a b h) in (omega (arith, e), omega (arith, e))

  number_sides : (a b : Term) → IsFormula (t.Eq a b) → is_of sort.Nat (sort_of roots scope a) ≡ true → (sort_of roots scope a ≡ some sort.Nat) × (sort_of roots scope b ≡ some sort.Nat)
  number_sides a b sorted e =
      let left = is_of-true sort.Nat (sort_of roots scope a) e in
      let sides = eq_parts roots scope a b sort.Bool sorted in
      (left, sides.2 ∙ sym sides.1 ∙ left)

  denied_level : (u : Term) (x : Term-F Term) (c : Comparison) → out-Term u ≡ x → negation_at x ≡ a_comparison c → IsFormula u → (Holds roots env u → ⊥) → Good c
  denied_level u (f.Le a b) c e g sorted fails =
      let is = rolled u (f.Le a b) e ∙ t.rolls-Le a b in
      let sides = le_parts roots scope a b sort.Bool (subst IsFormula is sorted) in
      let one : below b a ≡ c = cc in
      subst Good one (record { left = sides.1; right = sides.0 }, le_fails roots env a b (λ h. fails (subst (Holds roots env) (sym is) h)))
  denied_level u (f.Lt a b) c e g sorted fails =
      let is = rolled u (f.Lt a b) e ∙ t.rolls-Lt a b in
      let sides = lt_parts roots scope a b sort.Bool (subst IsFormula is sorted) in
      let one : at_most b a ≡ c = cc in
      subst Good one (record { left = sides.1; right = sides.0 }, lt_fails roots env a b (λ h. fails (subst (Holds roots env) (sym is) h)))
  denied_level u _ c e g sorted fails = cc

  fact_level : (u : Term) (x : Term-F Term) (c : Comparison) → out-Term u ≡ x → comparison_at roots scope x ≡ a_comparison c → IsFormula u → Holds roots env u → Good c
  fact_level u (f.Le a b) c e g sorted h =
      let is = rolled u (f.Le a b) e ∙ t.rolls-Le a b in
      let sides = le_parts roots scope a b sort.Bool (subst IsFormula is sorted) in
      let one : at_most a b ≡ c = cc in
      subst Good one (record { left = sides.0; right = sides.1 }, le_says roots env a b (subst (Holds roots env) is h))
  fact_level u (f.Lt a b) c e g sorted h =
      let is = rolled u (f.Lt a b) e ∙ t.rolls-Lt a b in
      let sides = lt_parts roots scope a b sort.Bool (subst IsFormula is sorted) in
      let one : below a b ≡ c = cc in
      subst Good one (record { left = sides.0; right = sides.1 }, lt_says roots env a b (subst (Holds roots env) is h))
  fact_level u (f.Eq a b) c e g sorted h =
      let is = rolled u (f.Eq a b) e ∙ t.rolls-Eq a b in
      by (is_of sort.Nat (sort_of roots scope a)) refl is g
    where
      by : (n : Bool) → is_of sort.Nat (sort_of roots scope a) ≡ n → u ≡ t.Eq a b → cond n (a_comparison (at_most a b)) None ≡ a_comparison c → Good c
      by true k is l =
          let sides = number_sides a b (subst IsFormula is sorted) k in
          let one : at_most a b ≡ c = cc in
          subst Good one (record { left = sides.0; right = sides.1 }, (same_sides a b (subst (Holds roots env) is h)).0)
      by false k is l = cc
  fact_level u (f.Not a) c e g sorted h =
      let is = rolled u (f.Not a) e ∙ t.rolls-Not a in
      denied_level a (out-Term a) c refl g (neg_part roots scope a sort.Bool (subst IsFormula is sorted)) (neg_says roots env a (subst (Holds roots env) is h))
  fact_level u _ c e g sorted h = cc

  -- the reading of a fact that is true is true
  pub fact_good : (u : Term) (c : Comparison) → comparison_of roots scope u ≡ a_comparison c → IsFormula u → Holds roots env u → Good c
  fact_good u c g sorted h = fact_level u (out-Term u) c refl g sorted h

  -- the reading of an equation, turned round
  pub turned_good : (u : Term) (c : Comparison) → is_some (as_equation u) ≡ true → comparison_of roots scope u ≡ a_comparison c → IsFormula u → Holds roots env u → Good (at_most c.right c.left)
  turned_good u c eq g sorted h = level (out-Term u) refl eq g
    where
      by : (a b : Term) (n : Bool) → is_of sort.Nat (sort_of roots scope a) ≡ n → u ≡ t.Eq a b → cond n (a_comparison (at_most a b)) None ≡ a_comparison c → Good (at_most c.right c.left)
      by a b true k is l =
          let sides = number_sides a b (subst IsFormula is sorted) k in
          let one : at_most a b ≡ c = cc in
          subst (λ (z : Comparison). Good (at_most z.right z.left)) one (record { left = sides.1; right = sides.0 }, (same_sides a b (subst (Holds roots env) is h)).1)
      by a b false k is l = cc

      level : (x : Term-F Term) → out-Term u ≡ x → is_some (equation_at x) ≡ true → comparison_at roots scope x ≡ a_comparison c → Good (at_most c.right c.left)
      level (f.Eq a b) e k l = by a b (is_of sort.Nat (sort_of roots scope a)) refl (rolled u (f.Eq a b) e ∙ t.rolls-Eq a b) l
      level _ e k l = cc

-- ---- facts

module _ (known : Declared) (env : Env) (scope : Scope) where
  -- a fact, and, where the goal is an equation, the fact turned round
  abbrev IsFact : Aim → Fact → Type 0
  IsFact (denial c) x = Good known.roots env scope x.comparison
  IsFact (equal a b) x = Good known.roots env scope x.comparison × Good known.roots env scope (turned x).comparison

  abbrev AreFacts : Aim → List Fact → Type 0
  AreFacts aim [] = Unit {0}
  AreFacts aim (x ∷ xs) = IsFact aim x × AreFacts aim xs

  abbrev a_fact : Fact → Option Fact
  a_fact x = Some x

  of_comparison : (n : ℕ) (o : Option Comparison) (x : Fact) → option_map (λ c. record { by = n; comparison = c }) o ≡ a_fact x → o ≡ a_comparison x.comparison
  of_comparison n (Some c) x e = ap a_comparison (ap (λ o. comparison_or c o) e)
    where
      comparison_or : Comparison → Option Fact → Comparison
      comparison_or c None = c
      comparison_or c (Some x) = x.comparison
  of_comparison n None x e = cc

  fact_is : (aim : Aim) (u : Term) (n : ℕ) (x : Fact) → option_map (λ c. record { by = n; comparison = c }) (fact_of known.roots scope aim u) ≡ a_fact x → sort_of known.roots scope u ≡ some sort.Bool → Holds known.roots env u → IsFact aim x
  fact_is (denial d) u n x e sorted h = fact_good known.roots env scope u x.comparison (of_comparison n (comparison_of known.roots scope u) x e) sorted h
  fact_is (equal a b) u n x e sorted h = by (is_some (as_equation u)) refl (of_comparison n (fact_of known.roots scope (equal a b) u) x e)
    where
      by : (c : Bool) → is_some (as_equation u) ≡ c → cond c (comparison_of known.roots scope u) None ≡ a_comparison x.comparison → IsFact (equal a b) x
      by true k l = (fact_good known.roots env scope u x.comparison l sorted h, turned_good known.roots env scope u x.comparison k l sorted h)
      by false k l = cc

  one_way : (aim : Aim) (x : Fact) → IsFact aim x → Good known.roots env scope x.comparison
  one_way (denial c) x h = h
  one_way (equal a b) x h = h.0

  pub facts_sides : (aim : Aim) (xs : List Fact) → AreFacts aim xs → OfFacts (HasSides known.roots scope) xs × OfFacts (Says known.roots env) xs
  facts_sides aim [] all = (tt, tt)
  facts_sides aim (x ∷ xs) all =
      let one = one_way aim x all.0 in
      let rest = facts_sides aim xs all.1 in
      ((one.0, rest.0), (one.1, rest.1))

  pub turned_sides : (a b : Term) (xs : List Fact) → AreFacts (equal a b) xs → OfFacts (HasSides known.roots scope) (map turned xs) × OfFacts (Says known.roots env) (map turned xs)
  turned_sides a b [] all = (tt, tt)
  turned_sides a b (x ∷ xs) all =
      let rest = turned_sides a b xs all.1 in
      ((all.0.1.0, rest.0), (all.0.1.1, rest.1))

-- ---- the rule

module _ (known : Declared) (fits : Signatures) (env : Env) (heap : Heap) where
  abbrev IsValid : Term → Type 0
  IsValid = Valid known fits env heap

  -- an entry whose formula is one, and whose proof is sound
  pub record SoundEntry (e : Entry) (s : InScope) : Type 0 where
    pub sorted : (scope : Scope) → s scope ≡ true → sort_of known.roots scope e.fact ≡ some sort.Bool
    pub proved : (c : Context) → Sat known fits env heap c → s c.scope ≡ true → e.proof c e.fact ≡ nothing → IsValid e.fact

  abbrev pub EachSound : List Entry → List InScope → Type 0
  EachSound [] [] = Unit {0}
  EachSound (e ∷ es) (s ∷ ss) = SoundEntry e s × EachSound es ss
  EachSound _ _ = ⊥

  entry_fact : (spot : Spot) (c : Context) (aim : Aim) (e : Entry) (s : InScope) → SoundEntry e s → Sat known fits env heap c → s c.scope ≡ true → entry_refused known spot c aim e ≡ nothing →
      (x : Fact) × (fact_in known c.scope aim e ≡ Some x) × IsFact known env c.scope aim x
  entry_fact spot c aim e s sound sat order g =
      let next = seq_none (needs spot R5 (is_some (fact_in known c.scope aim e))) (proves spot e.proof c e.fact) g in
      let holds = sound.proved c sat order (seq_none (needs spot R10 (formula_fits e.fact)) (e.proof c e.fact) next.1).1 in
      from (fact_in known c.scope aim e) refl (needs_none spot R5 (is_some (fact_in known c.scope aim e)) next.0) holds
    where
      from : (o : Option Fact) → fact_in known c.scope aim e ≡ o → is_some o ≡ true → IsValid e.fact → (x : Fact) × (fact_in known c.scope aim e ≡ Some x) × IsFact known env c.scope aim x
      from (Some x) h k holds = (x, h, fact_is known env c.scope aim e.fact e.multiplier x h (sound.sorted c.scope order) holds)
      from None h k holds = cc

  entries_facts : (spot : Spot) (c : Context) (aim : Aim) (es : List Entry) (ss : List InScope) → EachSound es ss → Sat known fits env heap c → list_all (λ s. s c.scope) ss ≡ true →
      in_order (map (entry_refused known spot c aim) es) ≡ nothing → AreFacts known env c.scope aim (filter_map (fact_in known c.scope aim) es)
  entries_facts spot c aim [] ss all sat order g = tt
  entries_facts spot c aim (e ∷ es) [] all sat order g = absurd all
  entries_facts spot c aim (e ∷ es) (s ∷ ss) all sat order g =
      let orders = both_true (s c.scope) (list_all (λ z. z c.scope) ss) order in
      let next = seq_none (entry_refused known spot c aim e) (in_order (map (entry_refused known spot c aim) es)) g in
      let one = entry_fact spot c aim e s all.0 sat orders.0 next.0 in
      let rest = entries_facts spot c aim es ss all.1 sat orders.1 next.1 in
      subst (λ o. AreFacts known env c.scope aim (cons_option o (filter_map (fact_in known c.scope aim) es))) (sym one.1) (one.2, rest)

  module _ (certificates : CertificatesAreSound) where
    abbrev Sides : Context → Comparison → Type 0
    Sides c = HasSides known.roots c.scope

    refuted : (spot : Spot) (c : Context) → Sat known fits env heap c → (k : ℕ) (d : Option Comparison) (xs : List Fact) → OfDenied (Sides c) d → OfFacts (Sides c) xs × OfFacts (Says known.roots env) xs →
        refused_as spot (refused_certificate c.scope k d xs) ≡ nothing → OfDenied (Says known.roots env) d → ⊥
    refuted spot c sat k d xs sides facts h says =
        certificates known.roots c.scope env (fitting known.roots env c.scope (variables_fit known fits env heap c sat)) k d xs sides facts.0 (as_none spot (refused_certificate c.scope k d xs) h) says facts.1

    abbrev an_aim : Aim → Option Aim
    an_aim x = Some x

    module _ (spot : Spot) (c : Context) (sat : Sat known fits env heap c) (k : ℕ) (goal : Term) (sorted : Formula known fits env heap c goal) (xs : List Fact) where
      -- the facts are true, and the certificate is not refused
      abbrev Certified : Aim → Type 0
      Certified aim = AreFacts known env c.scope aim xs × (certifies spot c.scope k aim xs ≡ nothing)

      equal_holds : (a b : Term) → goal ≡ t.Eq a b → is_of sort.Nat (sort_of known.roots c.scope a) ≡ true → Certified (equal a b) → IsValid goal
      equal_holds a b is n all =
          let sides = number_sides known.roots env c.scope a b (subst (Formula known fits env heap c) is sorted) n in
          let next = seq_none (refused_as spot (refused_certificate c.scope k (Some (below b a)) xs)) (refused_as spot (refused_certificate c.scope k (Some (below a b)) (map turned xs))) all.1 in
          let not_above = refuted spot c sat k (Some (below b a)) xs (record { left = sides.1; right = sides.0 }) (facts_sides known env c.scope (equal a b) xs all.0) next.0 in
          let not_below = refuted spot c sat k (Some (below a b)) (map turned xs) (record { left = sides.0; right = sides.1 }) (turned_sides known env c.scope a b xs all.0) next.1 in
          subst IsValid (sym is) (eq_holds known.roots env a b
          (nat_value known.roots env c.scope (variables_fit known fits env heap c sat) a sides.0
          ∙ ap a_nat (neither_way (number known.roots env a) (number known.roots env b) not_above not_below)
          ∙ sym (nat_value known.roots env c.scope (variables_fit known fits env heap c sat) b sides.1)))
        where
          neither_way : (m n : ℕ) → (n < m → ⊥) → (m < n → ⊥) → m ≡ n
          neither_way m n h g = by (m == n) refl (nat_lt m n) refl
            where
              by : (e : Bool) → (m == n) ≡ e → (l : Bool) → nat_lt m n ≡ l → m ≡ n
              by true e l f = eqb-true m n e
              by false e true f = absurd (g (grind (arith, nat_tests)))
              by false e false f = absurd (h (grind (arith, nat_tests)))

      aim_level : (x : Term-F Term) (aim : Aim) → out-Term goal ≡ x → aim_at known.roots c.scope x ≡ an_aim aim → Certified aim → IsValid goal
      aim_level (f.Le a b) aim e g all =
          let is = rolled goal (f.Le a b) e ∙ t.rolls-Le a b in
          let sides = le_parts known.roots c.scope a b sort.Bool (subst (Formula known fits env heap c) is sorted) in
          let one : denial (Some (below b a)) ≡ aim = cc in
          let mine = subst Certified (sym one) all in
          subst IsValid (sym is) (le_holds known.roots env a b
          (refuted spot c sat k (Some (below b a)) xs (record { left = sides.1; right = sides.0 }) (facts_sides known env c.scope (denial (Some (below b a))) xs mine.0) mine.1))
      aim_level (f.Lt a b) aim e g all =
          let is = rolled goal (f.Lt a b) e ∙ t.rolls-Lt a b in
          let sides = lt_parts known.roots c.scope a b sort.Bool (subst (Formula known fits env heap c) is sorted) in
          let one : denial (Some (at_most b a)) ≡ aim = cc in
          let mine = subst Certified (sym one) all in
          subst IsValid (sym is) (lt_holds known.roots env a b
          (refuted spot c sat k (Some (at_most b a)) xs (record { left = sides.1; right = sides.0 }) (facts_sides known env c.scope (denial (Some (at_most b a))) xs mine.0) mine.1))
      aim_level f.False aim e g all =
          let one : denial None ≡ aim = cc in
          let mine = subst Certified (sym one) all in
          absurd (refuted spot c sat k None xs tt (facts_sides known env c.scope (denial None) xs mine.0) mine.1 tt)
      aim_level (f.Eq a b) aim e g all = by (is_of sort.Nat (sort_of known.roots c.scope a)) refl g
        where
          by : (n : Bool) → is_of sort.Nat (sort_of known.roots c.scope a) ≡ n → cond n (an_aim (equal a b)) None ≡ an_aim aim → IsValid goal
          by true n l = let one : equal a b ≡ aim = cc in equal_holds a b (rolled goal (f.Eq a b) e ∙ t.rolls-Eq a b) n (subst Certified (sym one) all)
          by false n l = cc
      aim_level _ aim e g all = cc

    pub lin_sound : (k : ℕ) (es : List Entry) (ss : List InScope) → EachSound es ss → (spot : Spot) → IsSound known fits env heap (proof_at known (p.Lin k es) spot) (scoped_at known.roots fits (p.Lin k ss))
    lin_sound k es ss all spot c sat order goal sorted e =
        let found = some_none spot R5 (aim_of known.roots c.scope goal) (λ aim. in_order (map (entry_refused known spot c aim) es) ▸ certifies spot c.scope k aim (filter_map (fact_in known c.scope aim) es)) e in
        let aim = found.0 in
        let next = seq_none (in_order (map (entry_refused known spot c aim) es)) (certifies spot c.scope k aim (filter_map (fact_in known c.scope aim) es)) found.2 in
        aim_level spot c sat k goal sorted (filter_map (fact_in known c.scope aim) es) (out-Term goal) aim refl found.1 (entries_facts spot c aim es ss all sat order next.0, next.1)
