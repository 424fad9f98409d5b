use Rattle.pure_terms.specs.Locals.{locals_of}
use Rattle.pure_terms.proofs.NormalAnswers.{one_value}
use Rattle.pure_terms.proofs.normalize.normal.Goals as goal

pub returns-clause-value : goal.returns-clause-value
returns-clause-value c = λ roots env fits s e.
    one_value roots (locals_of c.args.scope.now) env c.args.term.now c.in_ok-form_term.field-0 c.in_ok-form.form s fits e c.in_ok-form.ensures.0 c.in_ok-form_term.ensures
