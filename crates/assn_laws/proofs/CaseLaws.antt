-- The laws of cases: of a formula, of an `either`, of a sequence, and where `false` is proved.
use Rattle.std.proofs.Common.{◌≡◌, ◌⊎◌, ℕ, Bool, true, false, not, List, [], ◌∷◌, Some, Ok, refl, sym, ◌∙◌, ap, subst, inl, inr}
use Rattle.tht_tree.specs.declared.plain.Sort.{Sort}
use Rattle.tht_tree.specs.declared.plain.Sort.TheVariants as sort
use Rattle.tht_tree.specs.declared.plain.Spot.{Spot}
use Rattle.tht_tree.specs.declared.plain.Value.TheVariants as v
use Rattle.tht_tree.specs.declared.proof.Proof.{Proof}
use Rattle.tht_tree.specs.declared.assn.Assn.{Assn, out-Assn}
use Rattle.tht_tree.specs.declared.assn.Assn.TheVariants as a
use Rattle.tht_tree.specs.declared.rule.RuleCode.TheVariants.{R1, R2, R10}
use Rattle.tht_tree.specs.declared.state.Local.TheVariants.{Variable}
use Rattle.tht_tree.specs.declared.term.Term.{Term}
use Rattle.tht_tree.specs.declared.term.Term.TheVariants as t
use Rattle.tht_tree.specs.Values.{Val, is, seq, Env, bind, bool_of, nat_of, seq_of, a_nat, a_bool, has_sort_val}
use Rattle.tht_tree.specs.Syntax.{Names}
use Rattle.tht_tree.specs.Terms.{value}
use Rattle.tht_tree.specs.Heaps.{Heap}
use Rattle.tht_tree.specs.Rules.Context.{Context, Scope, with_local, atom_at, without_atom}
use Rattle.tht_tree.specs.Rules.Known.{with_hyp}
use Rattle.tht_tree.specs.Rules.Scoping.{is_of, sort_of}
use Rattle.tht_tree.specs.Rules.Sizes.{formula_fits}
use Rattle.tht_tree.proofs.TermValues.{value_of_sort, sort_of-Extends}
use Rattle.normal_laws.proofs.TermMeanings.{value-Not, value-Nil, value-Cons}
use Rattle.proof_laws.proofs.TermSorts.{false_sort}
use Rattle.proof_laws.proofs.TermSorts.{eq_makes, cons_makes}
use Rattle.proof_laws.proofs.Truth.{eq_holds, false_fails}
use Rattle.tht_logic.specs.Satisfaction.{Meaning, Satisfies}
use Rattle.tht_logic.specs.Flatten.{with_assn}
use Rattle.tht_logic.specs.Rules.Bodies.{on_side}
use Rattle.tht_logic.specs.Rules.Checking.{on_some, if_fits}
use Rattle.tht_logic.specs.Rules.Definitions.{Declarations}
use Rattle.tht_logic.specs.Rules.Gives.{disjunction_at}
use Rattle.tht_logic.specs.Rules.Scoped.{Signatures}
use Rattle.tht_logic.specs.Rules.Scoped as scoped
use Rattle.assn_laws.specs.AssertionLaws.{Holds}
use Rattle.assn_laws.specs.Laws.{IsModel, AreTyped}
use Rattle.assn_laws.specs.ControlLaws.{AssumptionsAreSound, FormulasAreTrueOrFalse, SidesAreSound, SequencesAreNilOrMore, NothingIsDead}
use Rattle.assn_laws.proofs.Answers.{ok_same, from_some, from_true}
use Rattle.assn_laws.proofs.CellRules.{fits_is}
use Rattle.assn_laws.proofs.GiveSound.{sort_is}
use Rattle.assn_laws.proofs.GoalShapes.{is_disjunction}
use Rattle.assn_laws.proofs.KnownNames.{both_true}
use Rattle.assn_laws.proofs.Nameless.{asn-Either}
use Rattle.assn_laws.proofs.NewVariable.{variable_at, still_valued, its_value, its_sort}
use Rattle.assn_laws.proofs.ScopedLevels.{scoped-Either}
use Rattle.assn_laws.proofs.StateAfter.{Taken, take, added_at, hyp_at, extends_new, apart_new}

-- ---- formulas

truths : (w : Val) → has_sort_val sort.Bool w ≡ true → (w ≡ a_bool true) ⊎ (w ≡ a_bool false)
truths (is (v.Bool true)) e = inl refl
truths (is (v.Bool false)) e = inr refl
truths (is _) e = cc
truths (seq l) e = cc

-- a sequence is empty, or has a head
sequences : (w : Val) → has_sort_val sort.Seq w ≡ true → (w ≡ seq []) ⊎ ((n : ℕ) × (l : List ℕ) × (w ≡ seq (n ∷ l)))
sequences (seq []) e = inl refl
sequences (seq (n ∷ l)) e = inr (n, l, refl)
sequences (is _) e = cc

module _ (decl : Declarations) (proof : Proof → Scope → Bool) (instance lemma : Signatures) where
  abbrev roots : Names
  roots = decl.proofs.roots

  -- a formula is true, or its negation is
  pub formulas_are_true_or_false : FormulasAreTrueOrFalse decl proof instance lemma
  formulas_are_true_or_false c env apart sorts u formula =
      from (truths (value roots env u) (value_of_sort roots c.scope env apart sorts u sort.Bool (sort_is sort.Bool (sort_of roots c.scope u) formula)))
    where
      from : (value roots env u ≡ a_bool true) ⊎ (value roots env u ≡ a_bool false)
          → (value roots env u ≡ a_bool true) ⊎ ((value roots env u ≡ a_bool false) × (value roots env (t.Not u) ≡ a_bool true))
      from (inl e) = inl e
      from (inr e) = inr (e, value-Not roots env u ∙ ap (λ w. a_bool (not (bool_of w))) e)

  module _ (M : Meaning) where
    abbrev Model : Context → Env → Heap → Type 0
    Model = IsModel decl proof instance lemma M

    -- what satisfies a state satisfies it with a hypothesis that is true
    pub assumptions_are_sound : AssumptionsAreSound decl proof instance lemma M
    assumptions_are_sound typed c next env h at spot n u new formula holds e =
        let w = from_true spot R10 (formula_fits u) (if_fits spot (with_hyp c n u)) next e in
        subst (λ k. Model k env h) (fits_is spot (with_hyp c n u) next w.1) (hyp_at decl proof instance lemma M typed c env h at n u new formula holds)

    -- where `false` is proved there is nothing
    pub nothing_is_dead : NothingIsDead decl proof instance lemma M
    nothing_is_dead c env premises q order proved =
        false_fails roots env (premises.proofs q t.False order (ap (is_of sort.Bool) (false_sort roots c.scope)) proved)

    -- ---- an `either`

    -- one side, for whose atoms there is a heap beside the others'
    side_holds : (typed : AreTyped decl proof instance lemma) (c next : Context) (env : Env) (h : Heap) (spot : Spot) (i : ℕ) (p q : Assn) (taken : Taken decl proof instance lemma M typed c env h i q)
        → scoped.assn roots instance p c.scope ≡ true → Holds M roots env p taken.one → on_side spot c i p ≡ Ok next → Model next env h
    side_holds typed c next env h spot i p q taken ins holds e =
        let without : Context = record c { atoms = without_atom i c.atoms } in
        subst (λ k. Model k env h) (fits_is spot (with_assn p without) next e)
        (added_at decl proof instance lemma M typed without env p taken.one taken.rest h taken.state holds ins taken.joins)

    -- what satisfies a state satisfies one of the states in which a side stands for the `either`
    pub sides_are_sound : SidesAreSound decl proof instance lemma M
    sides_are_sound typed c left right env h at spot i p e on_left on_right =
        let r = from_some spot R1 (atom_at i c.atoms) (λ k. on_some spot R2 (disjunction_at (out-Assn k)) Ok) p e in
        let w = from_some spot R2 (disjunction_at (out-Assn r.0)) Ok p r.2 in
        let is : r.0 ≡ a.Either p.0 p.1 = is_disjunction r.0 w.0 w.1 ∙ ap (λ z. a.Either z.0 z.1) (ok_same w.0 p w.2) in
        let taken = take decl proof instance lemma M typed c env h at i r.0 r.1 in
        let ins = both_true (scoped.assn roots instance p.0 c.scope) (scoped.assn roots instance p.1 c.scope)
        (sym (scoped-Either roots instance p.0 p.1 c.scope) ∙ subst (λ z. scoped.assn roots instance z c.scope ≡ true) is taken.in_order) in
        from taken ins (subst (λ z. Satisfies M env [] z taken.one) (asn-Either roots [] p.0 p.1) (subst (λ z. Holds M roots env z taken.one) is taken.holds))
      where
        from : {q : Assn} (taken : Taken decl proof instance lemma M typed c env h i q) → (scoped.assn roots instance p.0 c.scope ≡ true) × (scoped.assn roots instance p.1 c.scope ≡ true)
            → Holds M roots env p.0 taken.one ⊎ Holds M roots env p.1 taken.one → Model left env h ⊎ Model right env h
        from {q} taken ins (inl s) = inl (side_holds typed c left env h spot i p.0 q taken ins.0 s on_left)
        from {q} taken ins (inr s) = inr (side_holds typed c right env h spot i p.1 q taken ins.1 s on_right)

    -- ---- a sequence

    -- a sequence with a head: two variables that are new have the values of the head and of the tail
    module _ (typed : AreTyped decl proof instance lemma) (c : Context) (env : Env) (h : Heap) (at : Model c env h) (u : Term) (sorted : sort_of roots c.scope u ≡ Some sort.Seq) (x s : List ℕ)
        (new : scoped.is_new roots c.scope x ≡ true) (newer : scoped.is_new roots (with_local c.scope x (Variable sort.Nat)) s ≡ true) (n : ℕ) (l : List ℕ) where
      abbrev wider : Scope
      wider = with_local c.scope x (Variable sort.Nat)

      abbrev widest : Scope
      widest = with_local wider s (Variable sort.Seq)

      abbrev head_env : Env
      head_env = bind env x (a_nat n)

      abbrev tail_env : Env
      tail_env = bind head_env s (seq l)

      abbrev equation : Term
      equation = t.Eq u (t.Cons (t.Var x) (t.Var s))

      sorted_still : sort_of roots wider u ≡ Some sort.Seq
      sorted_still =
          sort_of-Extends roots c.scope wider (apart_new decl proof instance lemma M typed c.scope x (Variable sort.Nat) new at.formed.no_root_hidden)
          (extends_new decl proof instance lemma M typed c.scope x (Variable sort.Nat) new) u sort.Seq sorted

      same_sequence : value roots tail_env u ≡ value roots env u
      same_sequence =
          still_valued decl proof instance lemma M typed wider head_env s sort.Seq (seq l) newer refl u (sort.Seq, sorted_still)
          ∙ still_valued decl proof instance lemma M typed c.scope env x sort.Nat (a_nat n) new refl u (sort.Seq, sorted)

      head_value : value roots tail_env (t.Var x) ≡ a_nat n
      head_value =
          still_valued decl proof instance lemma M typed wider head_env s sort.Seq (seq l) newer refl (t.Var x)
          (sort.Nat, its_sort decl proof instance lemma M typed c.scope env x sort.Nat (a_nat n) new refl)
          ∙ its_value decl proof instance lemma M typed c.scope env x sort.Nat (a_nat n) new refl

      tail_value : value roots tail_env (t.Var s) ≡ seq l
      tail_value = its_value decl proof instance lemma M typed wider head_env s sort.Seq (seq l) newer refl

      equation_holds : value roots env u ≡ seq (n ∷ l) → value roots tail_env equation ≡ a_bool true
      equation_holds e =
          eq_holds roots tail_env u (t.Cons (t.Var x) (t.Var s))
          (same_sequence ∙ e ∙ sym (value-Cons roots tail_env (t.Var x) (t.Var s) ∙ (λ i. seq (nat_of (head_value i) ∷ seq_of (tail_value i)))))

      in_widest : (v : Term) (r : Sort) → sort_of roots wider v ≡ Some r → sort_of roots widest v ≡ Some r
      in_widest =
          sort_of-Extends roots wider widest
          (apart_new decl proof instance lemma M typed wider s (Variable sort.Seq) newer (apart_new decl proof instance lemma M typed c.scope x (Variable sort.Nat) new at.formed.no_root_hidden))
          (extends_new decl proof instance lemma M typed wider s (Variable sort.Seq) newer)

      equation_sorted : scoped.is_formula roots widest equation ≡ true
      equation_sorted =
          let tail_sort = its_sort decl proof instance lemma M typed wider head_env s sort.Seq (seq l) newer refl in
          let head_sort = in_widest (t.Var x) sort.Nat (its_sort decl proof instance lemma M typed c.scope env x sort.Nat (a_nat n) new refl) in
          ap (is_of sort.Bool) (eq_makes roots widest u (t.Cons (t.Var x) (t.Var s)) sort.Seq (in_widest u sort.Seq sorted_still) (cons_makes roots widest (t.Var x) (t.Var s) head_sort tail_sort))

      with_both : Model (record c { scope = widest }) tail_env h
      with_both =
          variable_at decl proof instance lemma M typed wider head_env s sort.Seq (seq l) newer refl c.hyps c.atoms c.made h
          (variable_at decl proof instance lemma M typed c.scope env x sort.Nat (a_nat n) new refl c.hyps c.atoms c.made h at)

    -- a sequence is `nil`, or some head before a tail
    pub sequences_are_nil_or_more : SequencesAreNilOrMore decl proof instance lemma M
    sequences_are_nil_or_more typed c env h at u has x s new newer =
        from (sequences (value roots env u) (value_of_sort roots c.scope env at.formed.no_root_hidden at.satisfied.sorts u sort.Seq sorted))
      where
        sorted : sort_of roots c.scope u ≡ Some sort.Seq
        sorted = sort_is sort.Seq (sort_of roots c.scope u) has

        from : (value roots env u ≡ seq []) ⊎ ((n : ℕ) × (l : List ℕ) × (value roots env u ≡ seq (n ∷ l)))
            → (value roots env (t.Eq u t.Nil) ≡ a_bool true)
            ⊎ ((n : ℕ) × (l : List ℕ) × (value roots (bind (bind env x (a_nat n)) s (seq l)) (t.Eq u (t.Cons (t.Var x) (t.Var s))) ≡ a_bool true)
            × (scoped.is_formula roots (with_local (with_local c.scope x (Variable sort.Nat)) s (Variable sort.Seq)) (t.Eq u (t.Cons (t.Var x) (t.Var s))) ≡ true)
            × Model (record c { scope = with_local (with_local c.scope x (Variable sort.Nat)) s (Variable sort.Seq) }) (bind (bind env x (a_nat n)) s (seq l)) h)
        from (inl e) = inl (eq_holds roots env u t.Nil (e ∙ sym (value-Nil roots env)))
        from (inr w) =
            inr (w.0, w.1, equation_holds typed c env h at u sorted x s new newer w.0 w.1 w.2, equation_sorted typed c env h at u sorted x s new newer w.0 w.1, with_both typed c env h at u sorted x s new newer w.0 w.1)
