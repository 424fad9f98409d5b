-- The names and sorts of a proof.
use Rattle.std.specs.Prelude.{[], ◌∷◌, map, Option, None}
use Rattle.tht_tree.specs.declared.plain.Spot.{Spot}
use Rattle.tht_tree.specs.declared.plain.Sort.TheVariants as sort
use Rattle.tht_tree.specs.declared.proof.Proof.{Proof, fold-Proof}
use Rattle.tht_tree.specs.declared.proof.ProofKind.{ProofKind, fold-ProofKind}
use Rattle.tht_tree.specs.declared.proof.ProofKind.TheOpen as p
use Rattle.tht_tree.specs.declared.proof.LinEntry.{LinEntry, fold-LinEntry}
use Rattle.tht_tree.specs.declared.walk.WalkCode.{WalkCode}
use Rattle.tht_tree.specs.Walk.Codes.{first, first_of, construct, ◌▸◌, in_order}
use Rattle.tht_tree.specs.Walk.Names.{Scope, Walk, with_variable, with_hypothesis, new_name, hypothesis}
use Rattle.tht_tree.specs.Walk.Terms.{term_of, formula, lemma}

-- an entry of a linear certificate: its formula is the certificate's own, its proof stands inside
pub record Entry : Type 0 where
  pub fact : Scope → Option WalkCode
  pub proof : Walk

-- A hypothesis is known in the proof behind its name, a variable of `subst` in the formula behind it.
abbrev pub proof_at : p.ProofKind-F (Spot → Walk) Entry Walk → Spot → Walk
proof_at (p.Hyp h) spot scope = construct spot (hypothesis (scope h)) None
proof_at p.Refl spot scope = None
proof_at p.Calc spot scope = None
proof_at (p.Recast t q) spot scope = construct spot (formula scope t) (q scope)
proof_at (p.Sym q) spot scope = q scope
proof_at (p.Both q r) spot scope = q scope ▸ r scope
proof_at (p.Subst x s t a b q r) spot scope =
    let formula_of = first (new_name scope x) (formula (with_variable scope x s) t) in
    construct spot (first_of (formula_of ∷ term_of scope s a ∷ term_of scope s b ∷ [])) (q scope ▸ r scope)
proof_at (p.Pair q r) spot scope = q scope ▸ r scope
proof_at (p.Fst t q) spot scope = construct spot (formula scope t) (q scope)
proof_at (p.Snd t q) spot scope = construct spot (formula scope t) (q scope)
proof_at (p.Inl q) spot scope = q scope
proof_at (p.Inr q) spot scope = q scope
proof_at (p.Cases t q h r g u) spot scope =
    let own = first_of (formula scope t ∷ new_name scope h ∷ new_name scope g ∷ []) in
    construct spot own (q scope ▸ r (with_hypothesis scope h) ▸ u (with_hypothesis scope g))
proof_at (p.Fun h q) spot scope = construct spot (new_name scope h) (q (with_hypothesis scope h))
proof_at (p.App t q r) spot scope = construct spot (formula scope t) (q scope ▸ r scope)
proof_at (p.Neg t q r) spot scope = construct spot (formula scope t) (q scope ▸ r scope)
proof_at (p.Absurd q) spot scope = q scope
proof_at (p.Em t h q g r) spot scope =
    let own = first_of (formula scope t ∷ new_name scope h ∷ new_name scope g ∷ []) in
    construct spot own (q (with_hypothesis scope h) ▸ r (with_hypothesis scope g))
proof_at (p.Lin n entries) spot scope =
    construct spot (first_of (map (λ e. e.fact scope) entries)) (in_order (map (λ e. e.proof scope) entries))
proof_at (p.Monus q) spot scope = q scope
proof_at (p.Head s u q) spot scope = construct spot (first (term_of scope sort.Seq s) (term_of scope sort.Seq u)) (q scope)
proof_at (p.Tail x y q) spot scope = construct spot (first (term_of scope sort.Nat x) (term_of scope sort.Nat y)) (q scope)
proof_at p.Nocons spot scope = None
proof_at (p.Apart m n) spot scope = None
proof_at (p.Nonnull n) spot scope = None
proof_at (p.Lemma l ts q) spot scope = construct spot (lemma scope l ts) (q scope)
proof_at p.Todo spot scope = None

abbrev pub entry_at : p.LinEntry-F (Spot → Walk) Entry Walk → Entry
entry_at e = record { fact = λ scope. formula scope e.fact; proof = e.proof }

abbrev pub spotted_proof : p.Proof-F (Spot → Walk) Entry Walk → Walk
spotted_proof x = x.kind x.spot

-- what is refused in a proof
unfoldable pub proof : Proof → Walk
proof = fold-Proof (Spot → Walk) Entry Walk proof_at entry_at spotted_proof

-- the same of a proof that stands at a spot, and of an entry
unfoldable pub proof_kind : ProofKind → Spot → Walk
proof_kind = fold-ProofKind (Spot → Walk) Entry Walk proof_at entry_at spotted_proof

unfoldable pub entry : LinEntry → Entry
entry = fold-LinEntry (Spot → Walk) Entry Walk proof_at entry_at spotted_proof
