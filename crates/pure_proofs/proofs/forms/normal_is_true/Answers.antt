use Rattle.tht_tree.specs.declared.rule.RuleCode.TheVariants.{R8}
use Rattle.tht_tree.specs.declared.term.Term.{out-Term}
use Rattle.tht_tree.specs.SameTree.{is_true}
use Rattle.tht_tree.specs.Normal.Forms.{normal_term}
use Rattle.tht_tree.specs.Rules.Refusals.{needs}
use Rattle.pure_terms.specs.Locals.{locals_of}
use Rattle.pure_proofs.proofs.Verdicts.{normal_end}
use Rattle.pure_proofs.proofs.forms.normal_is_true.Goals as goal

pub returns-in-Err : goal.returns-in-Err
returns-in-Err c =
    normal_end c.no_form.result c.in-Err.end c.args.spot (normal_term (locals_of c.args.scope.now) c.args.goal.now) (λ u. needs c.args.spot R8 (is_true (out-Term u))) c.in-Err.ensures.answer c.no_form.ensures
