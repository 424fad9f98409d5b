-- Proofs are sound, by induction: each form, if its parts are.
use Rattle.std.proofs.Common.{◌≡◌, true, ◌&&◌, List, [], ◌∷◌, map, sym, ap, subst}
use Rattle.tht_tree.specs.declared.plain.Spot.{Spot}
use Rattle.tht_tree.specs.declared.plain.Sort.TheVariants as sort
use Rattle.tht_tree.specs.declared.proof.Proof.{Proof, roll-Proof, ind-Proof}
use Rattle.tht_tree.specs.declared.proof.LinEntry.{LinEntry, roll-LinEntry}
use Rattle.tht_tree.specs.declared.proof.ProofKind.{ProofKind, roll-ProofKind, map-ProofKind}
use Rattle.tht_tree.specs.declared.proof.ProofKind.TheOpen as p
use Rattle.tht_tree.specs.Values.{Env}
use Rattle.tht_tree.specs.Heaps.{Heap}
use Rattle.tht_tree.specs.Rules.Context.{Scope}
use Rattle.tht_tree.specs.Rules.Scoping.{sort_of}
use Rattle.tht_tree.specs.Rules.Known.{Declared}
use Rattle.tht_tree.specs.Rules.Proofs.{Prover, prove, prove_kind, prove_entry, proof_at}
use Rattle.proof_laws.specs.Scoped.{InScope, Signatures, formula_in, is_scoped, kind_scoped, entry_scoped, scoped_at}
use Rattle.proof_laws.specs.Satisfied.{LemmasHold, ProofsAreSound}
use Rattle.proof_laws.proofs.Refusing.{both_true}
use Rattle.proof_laws.proofs.TermSorts.{some, is_of-true}
use Rattle.proof_laws.proofs.SoundRule.{IsSound}
use Rattle.proof_laws.proofs.Levels.{proved_level, scoped_level, prove_is, prove_kind_is, prove_entry_is, scoped_is, kind_scoped_is, entry_scoped_is}
use Rattle.proof_laws.proofs.ConnectiveRules as c
use Rattle.proof_laws.proofs.EquationRules as e
use Rattle.proof_laws.proofs.CellRules as h
use Rattle.proof_laws.proofs.LinRule as l
use Rattle.proof_laws.proofs.LinNeeds.{CertificatesAreSound}

module _ (certificates : CertificatesAreSound) (known : Declared) (fits : Signatures) (env : Env) (heap : Heap) (lemmas : LemmasHold known fits env) where
  abbrev Sound : Prover → InScope → Type 0
  Sound = IsSound known fits env heap

  abbrev KindSound : ProofKind → Type 0
  KindSound k = (spot : Spot) → Sound (prove_kind known k spot) (kind_scoped known.roots fits k)

  abbrev EntrySound : LinEntry → Type 0
  EntrySound x = l.SoundEntry known fits env heap (prove_entry known x) (entry_scoped known.roots fits x)

  abbrev ProofSound : Proof → Type 0
  ProofSound q = Sound (prove known q) (is_scoped known.roots fits q)

  abbrev Kinds : Type 0
  Kinds = (k : ProofKind) × KindSound k

  abbrev Entries : Type 0
  Entries = (x : LinEntry) × EntrySound x

  abbrev Proofs : Type 0
  Proofs = (q : Proof) × ProofSound q

  abbrev IsLevel : p.ProofKind-F ProofKind LinEntry Proof → Type 0
  IsLevel x = (spot : Spot) → Sound (proof_at known (proved_level known x) spot) (scoped_at known.roots fits (scoped_level known.roots fits x))

  each_sound : (es : List Entries) → l.EachSound known fits env heap (map (prove_entry known) (map (λ x. x.0) es)) (map (entry_scoped known.roots fits) (map (λ x. x.0) es))
  each_sound [] = tt
  each_sound (x ∷ es) = (x.1, each_sound es)

  level : (y : p.ProofKind-F Kinds Entries Proofs) → IsLevel (map-ProofKind Kinds Entries Proofs ProofKind LinEntry Proof (λ x. x.0) (λ x. x.0) (λ x. x.0) y)
  level (p.Hyp n) = c.hyp_sound known fits env heap n
  level p.Refl = e.refl_sound known fits env heap
  level p.Calc = e.calc_sound known fits env heap
  level (p.Recast u q) = e.recast_sound known fits env heap (prove known q.0) (is_scoped known.roots fits q.0) q.1 u
  level (p.Sym q) = e.sym_sound known fits env heap (prove known q.0) (is_scoped known.roots fits q.0) q.1
  level (p.Both q r) = e.both_sound known fits env heap (prove known q.0) (is_scoped known.roots fits q.0) q.1 (prove known r.0) (is_scoped known.roots fits r.0) r.1
  level (p.Subst x s u a b q r) = e.subst_sound known fits env heap (prove known q.0) (is_scoped known.roots fits q.0) q.1 (prove known r.0) (is_scoped known.roots fits r.0) r.1 x s u a b
  level (p.Pair q r) = c.pair_sound known fits env heap (prove known q.0) (is_scoped known.roots fits q.0) q.1 (prove known r.0) (is_scoped known.roots fits r.0) r.1
  level (p.Fst u q) = c.fst_sound known fits env heap (prove known q.0) (is_scoped known.roots fits q.0) q.1 u
  level (p.Snd u q) = c.snd_sound known fits env heap (prove known q.0) (is_scoped known.roots fits q.0) q.1 u
  level (p.Inl q) = c.inl_sound known fits env heap (prove known q.0) (is_scoped known.roots fits q.0) q.1
  level (p.Inr q) = c.inr_sound known fits env heap (prove known q.0) (is_scoped known.roots fits q.0) q.1
  level (p.Cases u o n q m r) =
      c.cases_sound known fits env heap (prove known q.0) (is_scoped known.roots fits q.0) q.1 (prove known r.0) (is_scoped known.roots fits r.0) r.1
      (prove known o.0) (is_scoped known.roots fits o.0) o.1 u n m
  level (p.Fun n q) = c.fun_sound known fits env heap (prove known q.0) (is_scoped known.roots fits q.0) q.1 n
  level (p.App u q r) = c.app_sound known fits env heap (prove known q.0) (is_scoped known.roots fits q.0) q.1 (prove known r.0) (is_scoped known.roots fits r.0) r.1 u
  level (p.Neg u q r) = c.neg_sound known fits env heap (prove known q.0) (is_scoped known.roots fits q.0) q.1 (prove known r.0) (is_scoped known.roots fits r.0) r.1 u
  level (p.Absurd q) = c.absurd_sound known fits env heap (prove known q.0) (is_scoped known.roots fits q.0) q.1
  level (p.Em u n q m r) = c.em_sound known fits env heap (prove known q.0) (is_scoped known.roots fits q.0) q.1 (prove known r.0) (is_scoped known.roots fits r.0) r.1 u n m
  level (p.Lin k es) = l.lin_sound known fits env heap certificates k (map (prove_entry known) (map (λ x. x.0) es)) (map (entry_scoped known.roots fits) (map (λ x. x.0) es)) (each_sound es)
  level (p.Monus q) = e.monus_sound known fits env heap (prove known q.0) (is_scoped known.roots fits q.0) q.1
  level (p.Head u v q) = e.head_sound known fits env heap (prove known q.0) (is_scoped known.roots fits q.0) q.1 u v
  level (p.Tail x y q) = e.tail_sound known fits env heap (prove known q.0) (is_scoped known.roots fits q.0) q.1 x y
  level p.Nocons = e.nocons_sound known fits env heap
  level (p.Apart i j) = h.apart_sound known fits env heap i j
  level (p.Nonnull i) = h.nonnull_sound known fits env heap i
  level (p.Lemma n ts q) = c.lemma_sound known fits env heap (prove known q.0) (is_scoped known.roots fits q.0) q.1 lemmas n ts
  level p.Todo = λ spot c sat order goal sorted g. cc

  -- soundness carried along equal provers and equal conditions
  carried : (q r : Prover) (s u : InScope) → q ≡ r → s ≡ u → Sound r u → Sound q s
  carried q r s u e g sound = subst (λ z. Sound z s) (sym e) (subst (Sound r) (sym g) sound)

  kind_step : (x : p.ProofKind-F ProofKind LinEntry Proof) (y : p.ProofKind-F Kinds Entries Proofs) → map-ProofKind Kinds Entries Proofs ProofKind LinEntry Proof (λ x. x.0) (λ x. x.0) (λ x. x.0) y ≡ x → KindSound (roll-ProofKind x)
  kind_step x y is = λ spot. carried (prove_kind known (roll-ProofKind x) spot) (proof_at known (proved_level known x) spot) (kind_scoped known.roots fits (roll-ProofKind x)) (scoped_at known.roots fits (scoped_level known.roots fits x))
      (ap (λ g. g spot) (prove_kind_is known x)) (kind_scoped_is known.roots fits x) (subst IsLevel is (level y) spot)

  proof_step : (q : Proof) → KindSound q.kind → ProofSound q
  proof_step q sound = carried (prove known q) (prove_kind known q.kind q.spot) (is_scoped known.roots fits q) (kind_scoped known.roots fits q.kind) (prove_is known q) (scoped_is known.roots fits q) (sound q.spot)

  abbrev EntryLevel : p.LinEntry-F ProofKind LinEntry Proof → Type 0
  EntryLevel x = l.SoundEntry known fits env heap (record { multiplier = x.multiplier; fact = x.fact; proof = prove known x.proof }) (λ scope. formula_in known.roots fits scope x.fact && is_scoped known.roots fits x.proof scope)

  entry_level : (x : p.LinEntry-F ProofKind LinEntry Proof) → ProofSound x.proof → EntryLevel x
  entry_level x sound = record {
    sorted = λ scope order. formula_sort scope order;
    proved = λ c sat order e. sound c sat (parts c.scope order).1 x.fact (formula_sort c.scope order) e;
  }
    where
      parts : (scope : Scope) → (formula_in known.roots fits scope x.fact && is_scoped known.roots fits x.proof scope) ≡ true → (formula_in known.roots fits scope x.fact ≡ true) × (is_scoped known.roots fits x.proof scope ≡ true)
      parts scope order = both_true (formula_in known.roots fits scope x.fact) (is_scoped known.roots fits x.proof scope) order

      formula_sort : (scope : Scope) → (formula_in known.roots fits scope x.fact && is_scoped known.roots fits x.proof scope) ≡ true → sort_of known.roots scope x.fact ≡ some sort.Bool
      formula_sort scope order = is_of-true sort.Bool (sort_of known.roots scope x.fact) (parts scope order).0

  entry_step : (x : p.LinEntry-F ProofKind LinEntry Proof) → ProofSound x.proof → EntrySound (roll-LinEntry x)
  entry_step x sound =
      subst (λ z. l.SoundEntry known fits env heap z (entry_scoped known.roots fits (roll-LinEntry x))) (sym (prove_entry_is known x))
      (subst (l.SoundEntry known fits env heap (record { multiplier = x.multiplier; fact = x.fact; proof = prove known x.proof })) (sym (entry_scoped_is known.roots fits x)) (entry_level x sound))

  all_sound : (q : Proof) → ProofSound q
  all_sound = ind-Proof KindSound EntrySound ProofSound kind_step (λ x y is. entry_step x (subst (λ (z : p.LinEntry-F ProofKind LinEntry Proof). ProofSound z.proof) is y.proof.1))
      (λ x y is. proof_step (roll-Proof x) (subst (λ (z : p.Proof-F ProofKind LinEntry Proof). KindSound z.kind) is y.kind.1))

-- The law, if certificates are sound.
pub proofs_are_sound : CertificatesAreSound → ProofsAreSound
proofs_are_sound certificates known fits env h lemmas q c sat order goal sorted e = all_sound certificates known fits env h lemmas q c sat order goal sorted e
