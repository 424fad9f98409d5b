-- Rows as linear forms over the variables of all of them, and what the check of these forms says.
use Rattle.std.specs.Prelude.{ℤ, List, [], map, Option, Some, None}
use Rattle.lin_certs.specs.declared.form.LinForm.{LinForm}
use Rattle.lin_certs.specs.declared.check.LinSaid.{LinSaid}
use Rattle.lin_certs.specs.declared.check.LinSaid.TheVariants as said
use Rattle.tht_tree.specs.Normal.Sums.{Product}
use Rattle.tht_tree.specs.Normal.Linear.{Inequality, coefficient_of}
use Rattle.tht_tree.specs.declared.rule.RuleCode.{RuleCode}
use Rattle.tht_tree.specs.declared.rule.RuleCode.TheVariants.{R6, R7}
use Rattle.tht_tree.specs.Rules.Inequalities.{Row, variables_of}

-- a constant, and a coefficient for each variable
pub record PlainForm : Type 0 where
  pub constant : ℤ
  pub coefficients : List ℤ

-- the numbers of a form
abbrev pub plain : LinForm → PlainForm
plain form = record { constant = form.constant; coefficients = form.coeffs.items }

-- an inequality over these variables
abbrev pub form_over : List Product → Inequality → PlainForm
form_over ps xs = record { constant = coefficient_of [] xs; coefficients = map (λ p. coefficient_of p xs) ps }

-- rows over the variables of all of them
abbrev pub forms_of : List Row → List PlainForm
forms_of rows = map (λ r. form_over (variables_of rows) r.form) rows

-- what is refused where the check of the forms answers so
abbrev pub code_of : LinSaid → Option RuleCode
code_of (said.Wide index) = Some R7
code_of said.Refutes = None
code_of (said.Not variable sum) = Some R6
