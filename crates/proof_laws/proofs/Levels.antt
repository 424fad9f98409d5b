-- What is refused of a proof, and whether it is in order, by its uppermost level.
use Rattle.std.proofs.Common.{◌≡◌, ap}
use Rattle.tht_tree.specs.declared.plain.Spot.{Spot}
use Rattle.tht_tree.specs.declared.term.Term.{Term}
use Rattle.tht_tree.specs.declared.proof.Proof.{Proof, fold_out-Proof}
use Rattle.tht_tree.specs.declared.proof.LinEntry.{LinEntry, roll-LinEntry, map-LinEntry, fold-roll-LinEntry}
use Rattle.tht_tree.specs.declared.proof.ProofKind.{ProofKind, roll-ProofKind, map-ProofKind, fold-roll-ProofKind}
use Rattle.tht_tree.specs.declared.proof.ProofKind.TheOpen as p
use Rattle.tht_tree.specs.Syntax.{Names}
use Rattle.tht_tree.specs.Rules.Context.{Context}
use Rattle.tht_tree.specs.Rules.Known.{Declared}
use Rattle.tht_tree.specs.Rules.Proofs.{Prover, Entry, prove, prove_kind, prove_entry, proof_at, entry_at, spotted_proof}
use Rattle.proof_laws.specs.Scoped.{InScope, Signatures, is_scoped, kind_scoped, entry_scoped, scoped_at, entry_scoped_at, spotted_scoped}

abbrev pub proved_level : Declared → p.ProofKind-F ProofKind LinEntry Proof → p.ProofKind-F (Spot → Prover) Entry Prover
proved_level known = map-ProofKind ProofKind LinEntry Proof (Spot → Prover) Entry Prover (prove_kind known) (prove_entry known) (prove known)

abbrev pub scoped_level : Names → Signatures → p.ProofKind-F ProofKind LinEntry Proof → p.ProofKind-F InScope InScope InScope
scoped_level roots fits = map-ProofKind ProofKind LinEntry Proof InScope InScope InScope (kind_scoped roots fits) (entry_scoped roots fits) (is_scoped roots fits)

pub prove_is : (known : Declared) (q : Proof) → prove known q ≡ prove_kind known q.kind q.spot
unfolding prove prove_kind
prove_is known q = fold_out-Proof (Spot → Prover) Entry Prover (proof_at known) (entry_at known) (spotted_proof known) q

pub prove_kind_is : (known : Declared) (x : p.ProofKind-F ProofKind LinEntry Proof) → prove_kind known (roll-ProofKind x) ≡ proof_at known (proved_level known x)
unfolding prove prove_kind prove_entry
prove_kind_is known x = fold-roll-ProofKind (Spot → Prover) Entry Prover (proof_at known) (entry_at known) (spotted_proof known) x

pub prove_entry_is : (known : Declared) (x : p.LinEntry-F ProofKind LinEntry Proof) →
    prove_entry known (roll-LinEntry x) ≡ entry_at known (map-LinEntry ProofKind LinEntry Proof (Spot → Prover) Entry Prover (prove_kind known) (prove_entry known) (prove known) x)
unfolding prove prove_kind prove_entry
prove_entry_is known x = fold-roll-LinEntry (Spot → Prover) Entry Prover (proof_at known) (entry_at known) (spotted_proof known) x

pub scoped_is : (roots : Names) (fits : Signatures) (q : Proof) → is_scoped roots fits q ≡ kind_scoped roots fits q.kind
unfolding is_scoped kind_scoped
scoped_is roots fits q = fold_out-Proof InScope InScope InScope (scoped_at roots fits) (entry_scoped_at roots fits) (spotted_scoped roots fits) q

pub kind_scoped_is : (roots : Names) (fits : Signatures) (x : p.ProofKind-F ProofKind LinEntry Proof) → kind_scoped roots fits (roll-ProofKind x) ≡ scoped_at roots fits (scoped_level roots fits x)
unfolding is_scoped kind_scoped entry_scoped
kind_scoped_is roots fits x = fold-roll-ProofKind InScope InScope InScope (scoped_at roots fits) (entry_scoped_at roots fits) (spotted_scoped roots fits) x

pub entry_scoped_is : (roots : Names) (fits : Signatures) (x : p.LinEntry-F ProofKind LinEntry Proof) →
    entry_scoped roots fits (roll-LinEntry x)
    ≡ entry_scoped_at roots fits (map-LinEntry ProofKind LinEntry Proof InScope InScope InScope (kind_scoped roots fits) (entry_scoped roots fits) (is_scoped roots fits) x)
unfolding is_scoped kind_scoped entry_scoped
entry_scoped_is roots fits x = fold-roll-LinEntry InScope InScope InScope (scoped_at roots fits) (entry_scoped_at roots fits) (spotted_scoped roots fits) x

-- ---- the same for a place, what is known and a goal

pub prove_on : (known : Declared) (spot : Spot) (k : ProofKind) (c : Context) (goal : Term) → prove known (record { spot = spot; kind = k }) c goal ≡ prove_kind known k spot c goal
prove_on known spot k c goal = ap (λ f. f c goal) (prove_is known (record { spot = spot; kind = k }))

pub prove_kind_on : (known : Declared) (x : p.ProofKind-F ProofKind LinEntry Proof) (spot : Spot) (c : Context) (goal : Term) →
    prove_kind known (roll-ProofKind x) spot c goal ≡ proof_at known (proved_level known x) spot c goal
prove_kind_on known x spot c goal = ap (λ f. f spot c goal) (prove_kind_is known x)

pub entry_multiplier : (known : Declared) (x : p.LinEntry-F ProofKind LinEntry Proof) → (prove_entry known (roll-LinEntry x)).multiplier ≡ x.multiplier
entry_multiplier known x = ap (λ e. e.multiplier) (prove_entry_is known x)

pub entry_fact : (known : Declared) (x : p.LinEntry-F ProofKind LinEntry Proof) → (prove_entry known (roll-LinEntry x)).fact ≡ x.fact
entry_fact known x = ap (λ e. e.fact) (prove_entry_is known x)

pub entry_proof : (known : Declared) (x : p.LinEntry-F ProofKind LinEntry Proof) (c : Context) (goal : Term) → (prove_entry known (roll-LinEntry x)).proof c goal ≡ prove known x.proof c goal
entry_proof known x c goal = ap (λ e. e.proof c goal) (prove_entry_is known x)
