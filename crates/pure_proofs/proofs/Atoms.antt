-- Lists of atoms by ascending numbers.
use Rattle.std.proofs.Common.{◌≡◌, ℕ, suc, ◌≤◌, ◌<◌, cond, eqb, List, [], ◌∷◌, Some, None, refl, ◌∙◌, ap, inl, inr, arith}
use Rattle.std.proofs.lemmas.Bool.Decides.{leb_tells, eqb_tells}
use Rattle.std.proofs.lemmas.List.Elements.{All-head, All-tail}
use Rattle.std.specs.Prelude.{All}
use Rattle.std.specs.Ordering.{nat_cmp, is_eq}
use Rattle.std.specs.declared.cmp.Ordering.TheVariants.{Less, Equal, Greater}
use Rattle.tht_tree.specs.declared.assn.Assn.{Assn}
use Rattle.tht_tree.specs.Rules.Context.{atom_at}

greater : (i k : ℕ) → k < i → nat_cmp i k ≡ Greater
greater i k l = elim (leb_tells (suc i) k) [
  | inl h ↦ let g = h.1 in absurd (omega arith)
  | inr h ↦ ap (λ c. cond c Less (cond (eqb i k) Equal Greater)) h.0 ∙ elim (eqb_tells i k) [
    | inl g ↦ let e = g.1 in absurd (omega arith)
    | inr g ↦ ap (λ c. cond c Equal Greater) g.0
  ]
]

-- no atom has a number above those made
pub none_above : (n i : ℕ) (es : List (ℕ × Assn)) → All (λ a. a.0 ≤ n) es → n < i → atom_at i es ≡ None
none_above n i [] h l = refl
none_above n i (e ∷ es) h l =
    let head = All-head (λ a. a.0 ≤ n) e es h in
    ap (λ o. cond (is_eq o) (Some e.1) (atom_at i es)) (greater i e.0 (omega arith)) ∙ none_above n i es (All-tail (λ a. a.0 ≤ n) e es h) l
