-- The rules of hypotheses and connectives are sound.
use Rattle.std.proofs.Common.{◌≡◌, ℕ, ◌⊎◌, inl, inr, ◌&&◌, List, true, sym, subst}
use Rattle.tht_tree.specs.declared.plain.Spot.{Spot}
use Rattle.tht_tree.specs.declared.plain.Sort.TheVariants as sort
use Rattle.tht_tree.specs.declared.term.Term.{Term, out-Term}
use Rattle.tht_tree.specs.declared.term.Term.TheVariants as t
use Rattle.tht_tree.specs.declared.proof.ProofKind.TheOpen as p
use Rattle.tht_tree.specs.Values.{Env}
use Rattle.tht_tree.specs.Heaps.{Heap}
use Rattle.tht_tree.specs.SameTree.{same_of, is_false}
use Rattle.tht_tree.specs.Rules.Context.{Context}
use Rattle.tht_tree.proofs.SameTerm.{same_of-true}
use Rattle.tht_tree.specs.declared.rule.RuleCode.TheVariants.{R5, R12}
use Rattle.tht_tree.specs.Rules.Refusals.{needs, ◌▸◌}
use Rattle.tht_tree.specs.Rules.Shapes.{as_conjunction, as_disjunction, as_implication}
use Rattle.tht_tree.specs.Rules.Known.{Declared, hyp_named}
use Rattle.proof_laws.specs.Scoped.{InScope, Signatures, formula_in, behind, scoped_at}
use Rattle.tht_tree.specs.Rules.Proofs.{Prover, Entry, proves, proves_with, makes, proof_at}
use Rattle.proof_laws.specs.Satisfied.{LemmasHold}
use Rattle.proof_laws.proofs.Refusing.{nothing, seq_none, needs_none, some_none, two_none, both_true}
use Rattle.proof_laws.proofs.ShapesSay.{conjunction_is, disjunction_is, implication_is}
use Rattle.proof_laws.proofs.TermSorts.{is_of-true, and_parts, and_makes, or_parts, imp_parts, imp_makes, neg_makes, false_sort}
use Rattle.proof_laws.proofs.Truth.{false_fails, and_holds, and_says, or_says, left_holds, right_holds, imp_holds, imp_says, neg_holds, neg_says, one_holds}
use Rattle.proof_laws.proofs.SoundRule.{named_holds, Formula, Valid, IsSound, proves_sound, with_sound, makes_says}

module _ (known : Declared) (fits : Signatures) (env : Env) (heap : Heap) where
  abbrev pub Sound : Prover → InScope → Type 0
  Sound = IsSound known fits env heap

  -- the proof of this form, whose parts these are, is sound at any place
  abbrev pub SoundAt : p.ProofKind-F (Spot → Prover) Entry Prover → p.ProofKind-F InScope InScope InScope → Type 0
  SoundAt x s = (spot : Spot) → Sound (proof_at known x spot) (scoped_at known.roots fits s)

  abbrev IsValid : Term → Type 0
  IsValid = Valid known fits env heap

  -- the term is a formula
  formula_sort : (c : Context) (u : Term) → formula_in known.roots fits c.scope u ≡ true → Formula known fits env heap c u
  formula_sort c u e = is_of-true sort.Bool _ e

  pub hyp_sound : (n : List ℕ) → SoundAt (p.Hyp n) (p.Hyp n)
  hyp_sound n spot c sat order goal sorted e =
      let found = some_none spot R5 (hyp_named n c.hyps) (λ u. needs spot R5 (same_of u goal)) e in
      subst IsValid (same_of-true found.0 goal (needs_none spot R5 (same_of found.0 goal) found.2)) (named_holds known.roots env n c.hyps found.0 sat.hyps found.1)

  module _ (q : Prover) (s : InScope) (sound : Sound q s) where
    abbrev made : (spot : Spot) → Sound (proves spot q) s
    made = proves_sound known fits env heap q s sound

    pub fst_sound : (u : Term) → SoundAt (p.Fst u q) (p.Fst u s)
    fst_sound u spot c sat order goal sorted e =
        let parts = both_true (formula_in known.roots fits c.scope u) (s c.scope) order in
        (and_says known.roots env goal u (made spot c sat parts.1 (t.And goal u) (and_makes known.roots c.scope goal u sorted (formula_sort c u parts.0)) e)).0

    pub snd_sound : (u : Term) → SoundAt (p.Snd u q) (p.Snd u s)
    snd_sound u spot c sat order goal sorted e =
        let parts = both_true (formula_in known.roots fits c.scope u) (s c.scope) order in
        (and_says known.roots env u goal (made spot c sat parts.1 (t.And u goal) (and_makes known.roots c.scope u goal (formula_sort c u parts.0) sorted) e)).1

    pub inl_sound : SoundAt (p.Inl q) (p.Inl s)
    inl_sound spot c sat order goal sorted e =
        let found = two_none spot R5 (as_disjunction goal) (λ a b. q c a) e in
        let is = disjunction_is goal found.0 found.1 in
        let sides = or_parts known.roots c.scope found.0.0 found.0.1 sort.Bool (subst (Formula known fits env heap c) is sorted) in
        subst IsValid (sym is) (left_holds known.roots env found.0.0 found.0.1 (sound c sat order found.0.0 sides.0 found.2))

    pub inr_sound : SoundAt (p.Inr q) (p.Inr s)
    inr_sound spot c sat order goal sorted e =
        let found = two_none spot R5 (as_disjunction goal) (λ a b. q c b) e in
        let is = disjunction_is goal found.0 found.1 in
        let sides = or_parts known.roots c.scope found.0.0 found.0.1 sort.Bool (subst (Formula known fits env heap c) is sorted) in
        subst IsValid (sym is) (right_holds known.roots env found.0.0 found.0.1 (sound c sat order found.0.1 sides.1 found.2))

    pub fun_sound : (n : List ℕ) → SoundAt (p.Fun n q) (p.Fun n s)
    fun_sound n spot c sat order goal sorted e =
        let found = two_none spot R5 (as_implication goal) (λ a b. proves_with spot n a q c b) e in
        from found.0.0 found.0.1 found.2 (implication_is goal found.0 found.1)
      where
        from : (a b : Term) → proves_with spot n a q c b ≡ nothing → (goal ≡ t.Imp a b) ⊎ ((goal ≡ t.Not a) × (b ≡ t.False)) → IsValid goal
        from a b g (inl is) =
            let sides = imp_parts known.roots c.scope a b sort.Bool (subst (Formula known fits env heap c) is sorted) in
            subst IsValid (sym is) (imp_holds known.roots env a b (λ h. with_sound known fits env heap q s sound spot n a h c sat order b sides.1 g))
        from a b g (inr is) =
            subst IsValid (sym is.0) (neg_holds known.roots env a (λ h. false_fails known.roots env
            (subst IsValid is.1 (with_sound known fits env heap q s sound spot n a h c sat order b (subst (Formula known fits env heap c) (sym is.1) (false_sort known.roots c.scope)) g))))

    pub absurd_sound : SoundAt (p.Absurd q) (p.Absurd s)
    absurd_sound spot c sat order goal sorted e = absurd (false_fails known.roots env (made spot c sat order t.False (false_sort known.roots c.scope) e))

    pub lemma_sound : LemmasHold known fits env → (l : List ℕ) (ts : List Term) → SoundAt (p.Lemma l ts q) (p.Lemma l ts s)
    lemma_sound lemmas l ts spot c sat order goal sorted e =
        let parts = both_true (fits c.scope l ts) (s c.scope) order in
        let found = two_none spot R12 (known.lemmas l ts) (λ a b. makes spot b goal ▸ proves spot q c a) e in
        let next = seq_none (makes spot found.0.1 goal) (proves spot q c found.0.0) found.2 in
        let pre = made spot c sat parts.1 found.0.0 (lemmas.sorted c.scope l ts found.0.0 found.0.1 parts.0 found.1) next.1 in
        subst IsValid (makes_says known fits env heap spot found.0.1 goal next.0) (lemmas.holds c.scope l ts found.0.0 found.0.1 sat.sorts sat.names parts.0 found.1 pre)

    module _ (r : Prover) (u : InScope) (sound_r : Sound r u) where
      abbrev made_r : (spot : Spot) → Sound (proves spot r) u
      made_r = proves_sound known fits env heap r u sound_r

      pub pair_sound : SoundAt (p.Pair q r) (p.Pair s u)
      pair_sound spot c sat order goal sorted e =
          let parts = both_true (s c.scope) (u c.scope) order in
          let found = two_none spot R5 (as_conjunction goal) (λ a b. q c a ▸ r c b) e in
          let is = conjunction_is goal found.0 found.1 in
          let sides = and_parts known.roots c.scope found.0.0 found.0.1 sort.Bool (subst (Formula known fits env heap c) is sorted) in
          let next = seq_none (q c found.0.0) (r c found.0.1) found.2 in
          subst IsValid (sym is)
          (and_holds known.roots env found.0.0 found.0.1 (sound c sat parts.0 found.0.0 sides.0 next.0) (sound_r c sat parts.1 found.0.1 sides.1 next.1))

      pub app_sound : (a : Term) → SoundAt (p.App a q r) (p.App a s u)
      app_sound a spot c sat order goal sorted e =
          let first = both_true (formula_in known.roots fits c.scope a && s c.scope) (u c.scope) order in
          let parts = both_true (formula_in known.roots fits c.scope a) (s c.scope) first.0 in
          let next = seq_none (proves spot q c (t.Imp a goal)) (proves spot r c a) e in
          let whole = made spot c sat parts.1 (t.Imp a goal) (imp_makes known.roots c.scope a goal (formula_sort c a parts.0) sorted) next.0 in
          imp_says known.roots env a goal whole (made_r spot c sat first.1 a (formula_sort c a parts.0) next.1)

      pub neg_sound : (a : Term) → SoundAt (p.Neg a q r) (p.Neg a s u)
      neg_sound a spot c sat order goal sorted e =
          let first = both_true (formula_in known.roots fits c.scope a && s c.scope) (u c.scope) order in
          let parts = both_true (formula_in known.roots fits c.scope a) (s c.scope) first.0 in
          let rest = seq_none (needs spot R5 (is_false (out-Term goal))) (proves spot q c (t.Not a) ▸ proves spot r c a) e in
          let next = seq_none (proves spot q c (t.Not a)) (proves spot r c a) rest.1 in
          let whole = made spot c sat parts.1 (t.Not a) (neg_makes known.roots c.scope a (formula_sort c a parts.0)) next.0 in
          absurd (neg_says known.roots env a whole (made_r spot c sat first.1 a (formula_sort c a parts.0) next.1))

      pub em_sound : (a : Term) (n m : List ℕ) → SoundAt (p.Em a n q m r) (p.Em a n s m u)
      em_sound a n m spot c sat order goal sorted e =
          let first = both_true (formula_in known.roots fits c.scope a && behind known.roots fits c.scope n s) (behind known.roots fits c.scope m u) order in
          let parts = both_true (formula_in known.roots fits c.scope a) (behind known.roots fits c.scope n s) first.0 in
          let next = seq_none (proves_with spot n a q c goal) (proves_with spot m (t.Not a) r c goal) e in
          from parts.1 first.1 next.0 next.1 (one_holds known.roots env a)
        where
          from : behind known.roots fits c.scope n s ≡ true → behind known.roots fits c.scope m u ≡ true → proves_with spot n a q c goal ≡ nothing → proves_with spot m (t.Not a) r c goal ≡ nothing →
              IsValid a ⊎ IsValid (t.Not a) → IsValid goal
          from b d f g (inl h) = with_sound known fits env heap q s sound spot n a h c sat b goal sorted f
          from b d f g (inr h) = with_sound known fits env heap r u sound_r spot m (t.Not a) h c sat d goal sorted g

      module _ (o : Prover) (w : InScope) (sound_o : Sound o w) where
        pub cases_sound : (a : Term) (n m : List ℕ) → SoundAt (p.Cases a o n q m r) (p.Cases a w n s m u)
        cases_sound a n m spot c sat order goal sorted e =
            let last = both_true (formula_in known.roots fits c.scope a && w c.scope && behind known.roots fits c.scope n s) (behind known.roots fits c.scope m u) order in
            let mid = both_true (formula_in known.roots fits c.scope a && w c.scope) (behind known.roots fits c.scope n s) last.0 in
            let parts = both_true (formula_in known.roots fits c.scope a) (w c.scope) mid.0 in
            let found = two_none spot R5 (as_disjunction a) (λ b d. proves spot o c a ▸ proves_with spot n b q c goal ▸ proves_with spot m d r c goal) e in
            let b = found.0.0 in
            let d = found.0.1 in
            let next = seq_none (proves spot o c a) (proves_with spot n b q c goal ▸ proves_with spot m d r c goal) found.2 in
            let both = seq_none (proves_with spot n b q c goal) (proves_with spot m d r c goal) next.1 in
            let whole = proves_sound known fits env heap o w sound_o spot c sat parts.1 a (formula_sort c a parts.0) next.0 in
            from b d mid.1 last.1 both.0 both.1 (or_says known.roots env b d (subst IsValid (disjunction_is a found.0 found.1) whole))
          where
            from : (b d : Term) → behind known.roots fits c.scope n s ≡ true → behind known.roots fits c.scope m u ≡ true → proves_with spot n b q c goal ≡ nothing → proves_with spot m d r c goal ≡ nothing →
                IsValid b ⊎ IsValid d → IsValid goal
            from b d k l f g (inl h) = with_sound known fits env heap q s sound spot n b h c sat k goal sorted f
            from b d k l f g (inr h) = with_sound known fits env heap r u sound_r spot m d h c sat l goal sorted g
