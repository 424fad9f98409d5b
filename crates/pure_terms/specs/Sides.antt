-- Connectives and comparisons of normal forms, by their sides as terms.
use Rattle.std.specs.Prelude.{ℕ, zero, suc, nat_le, Bool, true, false, Option, Some, None, if◌then◌else◌}
use Rattle.tht_tree.specs.declared.term.Term.{Term}
use Rattle.tht_tree.specs.declared.term.Term.TheVariants as term
use Rattle.tht_tree.specs.declared.form.Form.{Form}
use Rattle.tht_tree.specs.declared.form.Form.TheVariants as form
use Rattle.tht_tree.specs.SameTree.{same_of}
use Rattle.tht_tree.specs.Normal.Forms.{truth, iff_by}
use Rattle.pure_terms.specs.declared.formulas.Sign.{Sign}
use Rattle.pure_terms.specs.declared.formulas.Sign.TheVariants as sign

abbrev pub is_formula : Form → Bool
is_formula (form.Bool u) = true
is_formula _ = false

-- an equation of two forms that are these terms, by whether both are literals, and whether both are formulas
abbrev pub equation_by : Term → Term → Bool → Bool → Term
equation_by u w literals formulas =
    if same_of u w then term.True
    else if literals then term.False
    else if formulas then iff_by (truth u) (truth w) u w
    else term.Eq u w

-- a sign between two terms
abbrev pub signed : Sign → Term → Term → Term
signed sign.And = term.And
signed sign.Or = term.Or
signed sign.Imp = term.Imp
signed sign.Eq = term.Eq
signed sign.Lt = term.Lt
signed sign.Le = term.Le

-- whether a <= b, where a is 0 or both are known
abbrev pub known_at_most : Option ℕ → Option ℕ → Option Bool
known_at_most (Some zero) n = Some true
known_at_most (Some (suc m)) (Some n) = Some (nat_le (suc m) n)
known_at_most _ _ = None
