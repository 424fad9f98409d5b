use Rattle.std.proofs.Common.{◌≡◌, [], ◌∷◌, ◌++◌, sym, ◌∙◌, ap}
use Rattle.tht_tree.specs.Normal.Putting.{put_within}
use Rattle.pure_proofs.proofs.PutIn.{put_made, put_large}
use Rattle.pure_proofs.proofs.formulas.with_one.Goals as goal

pub returns-in-Ok : goal.returns-in-Ok
returns-in-Ok c =
    let by : c.add.new.self ≡ (c.args.name.now, c.args.term.now) ∷ [] = c.in_ok-add.ensures.ok ∙ (λ i. c.new-by.ensures i ++ (c.in_ok-name.ensures i, c.in_ok-term.ensures i) ∷ []) in
    put_made ((c.args.name.now, c.args.term.now) ∷ []) c.args.formula.now c.in-Ok.made (ap (λ z. put_within z c.args.formula.now) (sym by) ∙ c.in-Ok.ensures.answer)

pub returns-in-Err-Large : goal.returns-in-Err-Large
returns-in-Err-Large c =
    let by : c.add.new.self ≡ (c.args.name.now, c.args.term.now) ∷ [] = c.in_ok-add.ensures.ok ∙ (λ i. c.new-by.ensures i ++ (c.in_ok-name.ensures i, c.in_ok-term.ensures i) ∷ []) in
    put_large ((c.args.name.now, c.args.term.now) ∷ []) c.args.formula.now (ap (λ z. put_within z c.args.formula.now) (sym by) ∙ rw c.in-Err-Large.field-0-is at c.in-Err-Large.ensures.answer)
