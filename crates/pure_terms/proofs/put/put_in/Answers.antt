use Rattle.pure_terms.proofs.PutSizes.{too_many, too_deep, it_fits, kept_value}
use Rattle.pure_terms.proofs.InsideTerms.{nodes_over, levels_over, made_over}
use Rattle.pure_terms.proofs.put.put_in.Goals as goal

pub returns-then-size_inside-gt-FORMULA_NODES-clause-answer :
    goal.returns-then-size_inside-gt-FORMULA_NODES-clause-answer
returns-then-size_inside-gt-FORMULA_NODES-clause-answer c =
    too_many _ _ _ (nodes_over _ _ _ _ c.outside-terms.ensures c.size_inside.ensures) c.if-size_inside-gt-FORMULA_NODES.true

pub returns-then-levels_inside-gt-FORMULA_LEVELS-clause-answer :
    goal.returns-then-levels_inside-gt-FORMULA_LEVELS-clause-answer
returns-then-levels_inside-gt-FORMULA_LEVELS-clause-answer c =
    too_deep _ _ _ (levels_over _ _ _ _ c.outside-terms.ensures c.levels_inside.ensures) c.if-levels_inside-gt-FORMULA_LEVELS.true

pub returns-clause-answer : goal.returns-clause-answer
returns-clause-answer c =
    it_fits _ _ _ _ _ (nodes_over _ _ _ _ c.outside-terms.ensures c.size_inside.ensures) (levels_over _ _ _ _ c.outside-terms.ensures c.levels_inside.ensures)
    c.if-size_inside-gt-FORMULA_NODES.false c.if-levels_inside-gt-FORMULA_LEVELS.false (made_over _ _ _ _ c.outside-terms.ensures c.in_ok-term_inside.ensures)

pub returns-clause-value : goal.returns-clause-value
returns-clause-value c roots env keeps = kept_value roots env c.args.by.now c.args.term.now _ keeps (made_over _ _ _ _ c.outside-terms.ensures c.in_ok-term_inside.ensures)
