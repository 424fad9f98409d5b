-- What a give leaves, and what is refused of a proof, by the uppermost level.
use Rattle.std.proofs.Common.{◌≡◌, ap}
use Rattle.tht_tree.specs.declared.plain.Spot.{Spot}
use Rattle.tht_tree.specs.declared.term.Term.{Term}
use Rattle.tht_tree.specs.declared.assn.Assn.{Assn}
use Rattle.tht_tree.specs.declared.proof.Proof.{Proof, fold_out-Proof}
use Rattle.tht_tree.specs.declared.proof.LinEntry.{LinEntry}
use Rattle.tht_tree.specs.declared.proof.ProofKind.{ProofKind, roll-ProofKind, map-ProofKind, fold-roll-ProofKind}
use Rattle.tht_tree.specs.declared.proof.ProofKind.TheOpen as p
use Rattle.tht_tree.specs.declared.give.Give.{Give, fold_out-Give}
use Rattle.tht_tree.specs.declared.give.GiveKind.{GiveKind, roll-GiveKind, map-GiveKind, fold-roll-GiveKind}
use Rattle.tht_tree.specs.declared.give.GiveKind.TheOpen as g
use Rattle.tht_tree.specs.Rules.Context.{Context}
use Rattle.tht_tree.specs.Rules.Known.{Declared}
use Rattle.tht_tree.specs.Rules.Proofs.{Prover, Entry, prove, prove_kind, prove_entry, proof_at, entry_at, spotted_proof}
use Rattle.tht_logic.specs.Rules.Definitions.{Declarations}
use Rattle.tht_logic.specs.Rules.Gives.{Atoms, ToFrame, give_at, spotted_give, frame_of, frame_of_kind}

pub frame_of_is : (decl : Declarations) (c : Context) (spot : Spot) (k : GiveKind) (atoms : Atoms) (goal : Assn)
    → frame_of decl c (record { spot = spot; kind = k }) atoms goal ≡ frame_of_kind decl c k spot atoms goal
unfolding frame_of frame_of_kind
frame_of_is decl c spot k atoms goal = ap (λ f. f atoms goal) (fold_out-Give (Spot → ToFrame) ToFrame (give_at decl c) (spotted_give decl c) (record { spot = spot; kind = k }))

pub frame_of_kind_is : (decl : Declarations) (c : Context) (x : g.GiveKind-F GiveKind Give) (spot : Spot) (atoms : Atoms) (goal : Assn)
    → frame_of_kind decl c (roll-GiveKind x) spot atoms goal
    ≡ give_at decl c (map-GiveKind GiveKind Give (Spot → ToFrame) ToFrame (frame_of_kind decl c) (frame_of decl c) x) spot atoms goal
unfolding frame_of frame_of_kind
frame_of_kind_is decl c x spot atoms goal = ap (λ f. f spot atoms goal) (fold-roll-GiveKind (Spot → ToFrame) ToFrame (give_at decl c) (spotted_give decl c) x)

abbrev pub proved_level : Declared → p.ProofKind-F ProofKind LinEntry Proof → p.ProofKind-F (Spot → Prover) Entry Prover
proved_level known = map-ProofKind ProofKind LinEntry Proof (Spot → Prover) Entry Prover (prove_kind known) (prove_entry known) (prove known)

pub prove_is : (known : Declared) (spot : Spot) (k : ProofKind) (c : Context) (goal : Term) → prove known (record { spot = spot; kind = k }) c goal ≡ prove_kind known k spot c goal
unfolding prove prove_kind
prove_is known spot k c goal = ap (λ f. f c goal) (fold_out-Proof (Spot → Prover) Entry Prover (proof_at known) (entry_at known) (spotted_proof known) (record { spot = spot; kind = k }))

pub prove_kind_is : (known : Declared) (x : p.ProofKind-F ProofKind LinEntry Proof) (spot : Spot) (c : Context) (goal : Term)
    → prove_kind known (roll-ProofKind x) spot c goal ≡ proof_at known (proved_level known x) spot c goal
unfolding prove prove_kind prove_entry
prove_kind_is known x spot c goal = ap (λ f. f spot c goal) (fold-roll-ProofKind (Spot → Prover) Entry Prover (proof_at known) (entry_at known) (spotted_proof known) x)

pub ruleset by_level = (frame_of_is, frame_of_kind_is, prove_is, prove_kind_is)
