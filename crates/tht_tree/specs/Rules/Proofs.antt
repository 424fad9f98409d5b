-- The rules of proofs: what is refused of a proof of a formula, the goal, from what is known. The goal's shape comes first, then
-- the proofs inside, in their order, then what is left. A formula that is made is not too large.
use Rattle.std.specs.Prelude.{ℕ, ◌==◌, not, ◌&&◌, List, [], ◌∷◌, map, filter_map, Option, Some, None, is_some, option_map, option_and_then, Result, Ok, Err, if◌then◌else◌}
use Rattle.tht_tree.specs.declared.plain.Spot.{Spot}
use Rattle.tht_tree.specs.declared.plain.Sort.{Sort}
use Rattle.tht_tree.specs.declared.plain.Sort.TheVariants as sort
use Rattle.tht_tree.specs.declared.term.Term.{Term, out-Term}
use Rattle.tht_tree.specs.declared.term.Term.TheVariants as term
use Rattle.tht_tree.specs.declared.proof.Proof.{Proof, fold-Proof}
use Rattle.tht_tree.specs.declared.proof.ProofKind.{ProofKind, fold-ProofKind}
use Rattle.tht_tree.specs.declared.proof.ProofKind.TheOpen as p
use Rattle.tht_tree.specs.declared.proof.LinEntry.{LinEntry, fold-LinEntry}
use Rattle.tht_tree.specs.SameTree.{same_of, is_true, is_false}
use Rattle.tht_tree.specs.Rules.Sizes.{formula_fits}
use Rattle.tht_tree.specs.Rules.Context.{Context, Scope, atom_at}
use Rattle.tht_tree.specs.Rules.Scoping.{is_of, sort_of}
use Rattle.tht_tree.specs.declared.form.NormalEnd.{NormalEnd}
use Rattle.tht_tree.specs.Normal.Forms.{normal_term}
use Rattle.tht_tree.specs.Normal.Linear.{below}
use Rattle.tht_tree.specs.Normal.Putting.{put_in}
use Rattle.tht_tree.specs.declared.rule.RuleCode.{RuleCode}
use Rattle.tht_tree.specs.declared.rule.RuleCode.TheVariants.{R1, R2, R5, R8, R9, R10, R12}
use Rattle.tht_tree.specs.declared.rule.RuleRefusal.{RuleRefusal}
use Rattle.tht_tree.specs.Rules.Refusals.{refuse, refused_as, needs, needs_some, needs_two, ◌▸◌, in_order}
use Rattle.tht_tree.specs.Rules.Shapes.{Pair, as_conjunction, as_disjunction, as_implication, as_equation, as_disequation, is_nocons, as_nonnull, as_monus}
use Rattle.tht_tree.specs.Rules.Known.{Declared, hyp_named, with_hyp, hyp_fits, cell_place}
use Rattle.tht_tree.specs.Rules.Certificates.{Aim, denial, equal, aim_of, fact_of, Fact, turned, end_code, refused_certificate}

-- what is refused of a proof, from what is known and for a goal
abbrev pub Prover : Type 0
Prover = Context → Term → Option RuleRefusal

-- an entry of a linear certificate: its multiplier, its formula and the proof of that
pub record Entry : Type 0 where
  pub multiplier : ℕ
  pub fact : Term
  pub proof : Prover

-- ---- goals and hypotheses that are made

-- the proof of a formula that is made
abbrev pub proves : Spot → Prover → Context → Term → Option RuleRefusal
proves spot q c u = needs spot R10 (formula_fits u) ▸ q c u

-- the proof of the goal with one more hypothesis
abbrev pub proves_with : Spot → List ℕ → Term → Prover → Context → Term → Option RuleRefusal
proves_with spot h u q c goal = needs spot R10 (hyp_fits c h u) ▸ q (with_hyp c h u) goal

-- a formula that is made is the goal
abbrev pub makes : Spot → Term → Term → Option RuleRefusal
makes spot u goal = needs spot R10 (formula_fits u) ▸ needs spot R5 (same_of u goal)

-- a term has a normal form, R10 or R7 where it has none, and that is as it should be
abbrev pub needs_normal : Spot → Result Term NormalEnd → (Term → Option RuleRefusal) → Option RuleRefusal
needs_normal spot (Ok u) go = go u
needs_normal spot (Err e) go = refuse spot (end_code e)

-- two terms have one normal form
abbrev pub needs_same_normal : Spot → Scope → Term → Term → Option RuleRefusal
needs_same_normal spot scope a b = needs_normal spot (normal_term scope a) (λ u. needs_normal spot (normal_term scope b) (λ w. needs spot R8 (same_of u w)))

-- ---- linear certificates

-- the certificates for what is denied: for an equation a second one, with each fact turned round
abbrev pub certifies : Spot → Scope → ℕ → Aim → List Fact → Option RuleRefusal
certifies spot scope k (denial c) facts = refused_as spot (refused_certificate scope k c facts)
certifies spot scope k (equal a b) facts =
    refused_as spot (refused_certificate scope k (Some (below b a)) facts)
    ▸ refused_as spot (refused_certificate scope k (Some (below a b)) (map turned facts))

-- ---- the forms of proofs

module _ (known : Declared) where
  -- the sides of an equation of this sort
  abbrev pub equation_of : Sort → Scope → Term → Option Pair
  equation_of s scope goal = option_and_then (λ p. if is_of s (sort_of known.roots scope p.0) then Some p else None) (as_equation goal)

  abbrev pub fact_in : Scope → Aim → Entry → Option Fact
  fact_in scope aim e = option_map (λ x. record { by = e.multiplier; comparison = x }) (fact_of known.roots scope aim e.fact)

  -- an entry's formula is read as a comparison, and proved
  abbrev pub entry_refused : Spot → Context → Aim → Entry → Option RuleRefusal
  entry_refused spot c aim e = needs spot R5 (is_some (fact_in c.scope aim e)) ▸ proves spot e.proof c e.fact

  abbrev pub proof_at : p.ProofKind-F (Spot → Prover) Entry Prover → Spot → Prover
  proof_at (p.Hyp h) spot c goal = needs_some spot R5 (hyp_named h c.hyps) (λ u. needs spot R5 (same_of u goal))
  proof_at p.Refl spot c goal = needs_two spot R5 (as_equation goal) (λ a b. needs spot R5 (same_of a b))
  proof_at p.Calc spot c goal = needs_normal spot (normal_term c.scope goal) (λ u. needs spot R8 (is_true (out-Term u)))
  proof_at (p.Recast t q) spot c goal = proves spot q c t ▸ needs_same_normal spot c.scope t goal
  proof_at (p.Sym q) spot c goal = needs_two spot R5 (as_equation goal) (λ a b. proves spot q c (term.Eq b a))
  proof_at (p.Both q r) spot c goal =
      needs_two spot R5 (equation_of sort.Nat c.scope goal) (λ a b. proves spot q c (term.Le a b) ▸ proves spot r c (term.Le b a))
  proof_at (p.Subst x s t a b q r) spot c goal =
      makes spot (put_in ((x, b) ∷ []) t) goal ▸ proves spot q c (term.Eq a b) ▸ proves spot r c (put_in ((x, a) ∷ []) t)
  proof_at (p.Pair q r) spot c goal = needs_two spot R5 (as_conjunction goal) (λ a b. q c a ▸ r c b)
  proof_at (p.Fst t q) spot c goal = proves spot q c (term.And goal t)
  proof_at (p.Snd t q) spot c goal = proves spot q c (term.And t goal)
  proof_at (p.Inl q) spot c goal = needs_two spot R5 (as_disjunction goal) (λ a b. q c a)
  proof_at (p.Inr q) spot c goal = needs_two spot R5 (as_disjunction goal) (λ a b. q c b)
  proof_at (p.Cases t q h r g u) spot c goal =
      needs_two spot R5 (as_disjunction t) (λ a b. proves spot q c t ▸ proves_with spot h a r c goal ▸ proves_with spot g b u c goal)
  proof_at (p.Fun h q) spot c goal = needs_two spot R5 (as_implication goal) (λ a b. proves_with spot h a q c b)
  proof_at (p.App t q r) spot c goal = proves spot q c (term.Imp t goal) ▸ proves spot r c t
  proof_at (p.Neg t q r) spot c goal = needs spot R5 (is_false (out-Term goal)) ▸ proves spot q c (term.Not t) ▸ proves spot r c t
  proof_at (p.Absurd q) spot c goal = proves spot q c term.False
  proof_at (p.Em t h q g r) spot c goal = proves_with spot h t q c goal ▸ proves_with spot g (term.Not t) r c goal
  proof_at (p.Lin k entries) spot c goal =
      needs_some spot R5 (aim_of known.roots c.scope goal) (λ aim.
      in_order (map (entry_refused spot c aim) entries) ▸ certifies spot c.scope k aim (filter_map (fact_in c.scope aim) entries))
  proof_at (p.Monus q) spot c goal = needs_two spot R5 (as_monus goal) (λ a b. proves spot q c (term.Le a b))
  proof_at (p.Head s u q) spot c goal =
      needs_two spot R5 (equation_of sort.Nat c.scope goal) (λ x y. proves spot q c (term.Eq (term.Cons x s) (term.Cons y u)))
  proof_at (p.Tail x y q) spot c goal =
      needs_two spot R5 (equation_of sort.Seq c.scope goal) (λ s u. proves spot q c (term.Eq (term.Cons x s) (term.Cons y u)))
  proof_at p.Nocons spot c goal = needs spot R5 (is_nocons goal)
  proof_at (p.Apart i j) spot c goal =
      needs_two spot R5 (as_disequation goal) (λ a b.
      needs_some spot R1 (atom_at i c.atoms) (λ x. needs_some spot R1 (atom_at j c.atoms) (λ y.
      needs_some spot R2 (cell_place x) (λ s. needs_some spot R2 (cell_place y) (λ u.
      needs spot R5 (not (i == j)) ▸ needs spot R5 (same_of s a && same_of u b))))))
  proof_at (p.Nonnull i) spot c goal =
      needs_some spot R5 (as_nonnull goal) (λ a.
      needs_some spot R1 (atom_at i c.atoms) (λ x. needs_some spot R2 (cell_place x) (λ s. needs spot R5 (same_of s a))))
  proof_at (p.Lemma l ts q) spot c goal = needs_two spot R12 (known.lemmas l ts) (λ t u. makes spot u goal ▸ proves spot q c t)
  proof_at p.Todo spot c goal = refuse spot R9

  abbrev pub entry_at : p.LinEntry-F (Spot → Prover) Entry Prover → Entry
  entry_at e = record { multiplier = e.multiplier; fact = e.fact; proof = e.proof }

  abbrev pub spotted_proof : p.Proof-F (Spot → Prover) Entry Prover → Prover
  spotted_proof x = x.kind x.spot

  -- what is refused of a proof
  unfoldable pub prove : Proof → Prover
  prove = fold-Proof (Spot → Prover) Entry Prover proof_at entry_at spotted_proof

  -- the same of a proof that stands at a spot, and of an entry
  unfoldable pub prove_kind : ProofKind → Spot → Prover
  prove_kind = fold-ProofKind (Spot → Prover) Entry Prover proof_at entry_at spotted_proof

  unfoldable pub prove_entry : LinEntry → Entry
  prove_entry = fold-LinEntry (Spot → Prover) Entry Prover proof_at entry_at spotted_proof
