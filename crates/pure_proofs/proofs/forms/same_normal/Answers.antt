use Rattle.tht_tree.specs.declared.rule.RuleCode.TheVariants.{R8}
use Rattle.tht_tree.specs.SameTree.{same_of}
use Rattle.tht_tree.specs.Normal.Forms.{normal_term}
use Rattle.tht_tree.specs.Rules.Proofs.{needs_normal}
use Rattle.tht_tree.specs.Rules.Refusals.{needs}
use Rattle.pure_terms.specs.Locals.{locals_of}
use Rattle.pure_proofs.proofs.Verdicts.{normal_end}
use Rattle.pure_proofs.proofs.forms.same_normal.Goals as goal

pub returns-in-Err : goal.returns-in-Err
returns-in-Err c =
    normal_end c.no_form.result c.in-Err.end c.args.spot (normal_term (locals_of c.args.scope.now) c.args.a.now) (λ u. needs_normal c.args.spot (normal_term (locals_of c.args.scope.now) c.args.b.now) (λ w. needs c.args.spot R8 (same_of u w))) c.in-Err.ensures.answer c.no_form.ensures
