use Rattle.std.proofs.Common.{◌≡◌, map, ◌∙◌, ap}
use Rattle.std.proofs.lemmas.Result.{IfOk-weaker}
use Rattle.tht_tree.specs.Normal.Linear.{columns}
use Rattle.lin_laws.specs.Forms.{plain, form_over, forms_of}
use Rattle.pure_proofs.specs.Rows.{in_rows}
use Rattle.pure_proofs.proofs.RowLists.{made_of}
use Rattle.pure_proofs.proofs.refute.forms_of.Goals as goal

pub returns : goal.returns
returns c =
    let rows = c.args.rows.now in
    let ps = c.as_slice-2.result.now in
    IfOk-weaker c.forms_over.result (λ fs. map plain fs ≡ map (form_over ps) c.as_slice-3.result.now) (λ fs. map plain fs ≡ forms_of (in_rows rows.forms rows.by.items))
    (λ fs h. made_of fs ps rows.forms rows.by.items rows.paired (c.as_slice-2.ensures ∙ c.in_ok-products.ensures ∙ ap columns c.as_slice.ensures) (h ∙ ap (map (form_over ps)) c.as_slice-3.ensures)) c.forms_over.ensures
