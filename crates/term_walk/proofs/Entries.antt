-- The entries of a linear certificate, one after another.
use Rattle.std.proofs.Common.{◌≡◌, ℕ, ◌+◌, ◌<◌, sym, ◌∙◌, ap, suc, List, ◌∷◌, map, length, drop, get_or, add-one, Option, Some, None}
use Rattle.std.proofs.Math.Seq.{drop-cons}
use Rattle.tht_tree.specs.declared.plain.Spot.{Spot}
use Rattle.tht_tree.specs.declared.proof.Proof.{Proof}
use Rattle.tht_tree.specs.declared.proof.LinEntry.{LinEntry, out-LinEntry, fold_out-LinEntry}
use Rattle.tht_tree.specs.declared.proof.ProofKind.{ProofKind, map-ProofKind, fold_out-ProofKind}
use Rattle.tht_tree.specs.declared.proof.ProofKind.TheVariants as kind
use Rattle.tht_tree.specs.declared.proof.ProofKind.TheOpen as p
use Rattle.tht_tree.specs.declared.walk.WalkRefusal.{WalkRefusal}
use Rattle.tht_tree.specs.Walk.Codes.{◌▸◌, in_order}
use Rattle.tht_tree.specs.Walk.Names.{Scope, Walk}
use Rattle.tht_tree.specs.Walk.Terms.{formula}
use Rattle.tht_tree.specs.Walk.Proofs.{Entry, proof, proof_kind, entry, proof_at, entry_at, spotted_proof}

pub fact_of : (e : LinEntry) (scope : Scope) → (entry e).fact scope ≡ formula scope (out-LinEntry e).fact
unfolding proof proof_kind entry
fact_of e scope = ap (λ x. x.fact scope) (fold_out-LinEntry (Spot → Walk) Entry Walk proof_at entry_at spotted_proof e)

pub proof_of : (e : LinEntry) (scope : Scope) → (entry e).proof scope ≡ proof (out-LinEntry e).proof scope
unfolding proof proof_kind entry
proof_of e scope = ap (λ x. x.proof scope) (fold_out-LinEntry (Spot → Walk) Entry Walk proof_at entry_at spotted_proof e)

pub lin_is : (k : ℕ) (xs : List LinEntry) (spot : Spot) (scope : Scope) → proof_kind (kind.Lin k xs) spot scope ≡ proof_at (p.Lin k (map entry xs)) spot scope
unfolding proof proof_kind entry
lin_is k xs spot scope = ap (λ g. g spot scope) (
    fold_out-ProofKind (Spot → Walk) Entry Walk proof_at entry_at spotted_proof (kind.Lin k xs)
    ∙ ap (λ y. proof_at (map-ProofKind ProofKind LinEntry Proof (Spot → Walk) Entry Walk proof_kind entry proof y)) (kind.outs-Lin k xs)
    )

-- what is refused in the proofs of entries
abbrev pub proofs_of : Scope → List LinEntry → Option WalkRefusal
proofs_of scope xs = in_order (map (λ e. e.proof scope) (map entry xs))

module _ (xs : List LinEntry) (i : ℕ) (x : LinEntry) (scope now : Scope) (q : Proof) (o whole : Option WalkRefusal)
    (within : i < length xs) (here : x ≡ get_or xs i x) (left : whole ≡ proofs_of scope (drop i xs)) (is : q ≡ (out-LinEntry x).proof) (same : now ≡ scope)
    (said : o ≡ proof q now) where
  first_left : whole ≡ o ▸ proofs_of scope (drop (i + 1) xs)
  first_left =
      let d : drop i xs ≡ x ∷ drop (i + 1) xs = rw add-one (drop-cons xs i x within ∙ ap (λ y. y ∷ drop (suc i) xs) (sym here)) in
      let h : (entry x).proof scope ≡ o = proof_of x scope ∙ ap (λ y. proof y scope) (sym is) ∙ ap (proof q) (sym same) ∙ sym said in
      left ∙ ap (proofs_of scope) d ∙ ap (λ z. z ▸ proofs_of scope (drop (i + 1) xs)) h

  pub entry_refused : (r : WalkRefusal) → o ≡ Some r → Some r ≡ whole
  entry_refused r e = sym (first_left ∙ ap (λ z. z ▸ proofs_of scope (drop (i + 1) xs)) e)

  pub entry_passed : o ≡ None → whole ≡ proofs_of scope (drop (i + 1) xs)
  entry_passed e = first_left ∙ ap (λ z. z ▸ proofs_of scope (drop (i + 1) xs)) e
