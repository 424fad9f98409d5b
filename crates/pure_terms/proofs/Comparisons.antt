-- Comparisons of normal forms.
use Rattle.std.proofs.Common.{◌≡◌, ◌≢◌, ℕ, zero, suc, nat_le, Bool, true, ◌&&◌, cond, Option, Some, None, refl, sym, ◌∙◌, ap, arith}
use Rattle.std.proofs.lemmas.Bool.Decides.{nat_tests}
use Rattle.tht_tree.specs.declared.term.Term.{Term}
use Rattle.tht_tree.specs.declared.term.Term.TheVariants as term
use Rattle.tht_tree.specs.declared.form.Form.{Form}
use Rattle.tht_tree.specs.declared.form.Form.TheVariants as form
use Rattle.tht_tree.specs.SameTree.{same_of}
use Rattle.tht_tree.specs.Normal.Forms.{term_of, truth, literal, iff_by, is_literal, kept_equation, equation, at_most_by}
use Rattle.pure_terms.specs.Sides.{is_formula, equation_by, known_at_most}

-- ---- equations

-- what is neither the same nor of two literals, by whether both are formulas
abbrev kept_by : Form → Form → Bool → Term
kept_by m n formulas = cond formulas (iff_by (truth (term_of m)) (truth (term_of n)) (term_of m) (term_of n)) (term.Eq (term_of m) (term_of n))

kept_is : (m n : Form) → kept_equation m n ≡ kept_by m n (is_formula m && is_formula n)
kept_is (form.Bool u) (form.Bool w) = refl
kept_is (form.Bool u) (form.Nat q) = refl
kept_is (form.Bool u) (form.Seq q) = refl
kept_is (form.Bool u) (form.Loc q) = refl
kept_is (form.Bool u) form.Unit = refl
kept_is (form.Nat p) n = refl
kept_is (form.Seq p) n = refl
kept_is (form.Loc p) n = refl
kept_is form.Unit n = refl

-- an equation is that of its sides
pub by_sides : (m n : Form) → equation m n ≡ equation_by (term_of m) (term_of n) (is_literal m && is_literal n) (is_formula m && is_formula n)
by_sides m n = ap (λ z. cond (same_of (term_of m) (term_of n)) term.True (cond (is_literal m && is_literal n) term.False z)) (kept_is m n)

-- ---- orders

zero_below : (n : ℕ) → nat_le 0 n ≡ true
zero_below n = grind (arith, nat_tests)

pub known_both : (m n : ℕ) → known_at_most (Some m) (Some n) ≡ Some (nat_le m n)
known_both zero n = ap (λ b. Some b) (sym (zero_below n))
known_both (suc m) n = refl

pub known_none : (m : ℕ) → m ≢ 0 → known_at_most (Some m) None ≡ None
known_none zero h = absurd (h refl)
known_none (suc m) h = refl

-- by whether it is known
abbrev at_most_known : Option Bool → Term → Term → Term
at_most_known (Some b) u w = literal b
at_most_known None u w = term.Le u w

by_known : (m n : Option ℕ) (u w : Term) → at_most_by m n u w ≡ at_most_known (known_at_most m n) u w
by_known None n u w = refl
by_known (Some zero) n u w = refl
by_known (Some (suc m)) (Some n) u w = refl
by_known (Some (suc m)) None u w = refl

pub known_side : (m n : Option ℕ) (b : Bool) (u w : Term) → known_at_most m n ≡ Some b → at_most_by m n u w ≡ literal b
known_side m n b u w e = by_known m n u w ∙ ap (λ z. at_most_known z u w) e

pub kept_side : (m n : Option ℕ) (u w : Term) → known_at_most m n ≡ None → at_most_by m n u w ≡ term.Le u w
kept_side m n u w e = by_known m n u w ∙ ap (λ z. at_most_known z u w) e
