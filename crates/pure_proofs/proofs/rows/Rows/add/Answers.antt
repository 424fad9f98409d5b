use Rattle.std.proofs.Common.{◌++◌, ◌∷◌, [], ◌∙◌, ap}
use Rattle.pure_proofs.specs.Rows.{in_rows}
use Rattle.pure_proofs.proofs.Walks.{in_rows-push}
use Rattle.pure_proofs.proofs.rows.Rows.add.Goals as goal

pub returns : goal.returns
returns c =
    (λ i. in_rows (c.in_ok-push.ensures.ok i) ((c.in_ok-push-2.ensures.items ∙ ap (λ ks. ks ++ c.args.by ∷ []) c.in_ok-reserve.ensures.items) i))
    ∙ in_rows-push c.args.self.now.forms c.args.self.now.by.items c.args.form c.args.by c.args.self.now.paired
