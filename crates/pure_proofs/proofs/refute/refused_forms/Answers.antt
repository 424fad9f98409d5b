use Rattle.std.proofs.Common.{length, sym, ◌∙◌, ap}
use Rattle.pure_proofs.proofs.RowLists.{lengths_agree, forms_agree, refused_as_said}
use Rattle.pure_proofs.proofs.refute.refused_forms.Goals as goal

pub lin_check-requires : goal.lin_check-requires
lin_check-requires c =
    let rows = c.args.rows.now in
    record {
      paired = lengths_agree c.args.forms.now rows.forms rows.by.items rows.paired c.requires ∙ ap length (sym c.as_slice.ensures.value);
      aligned = forms_agree c.args.forms.now rows.forms rows.by.items c.requires;
    }

pub returns : goal.returns
returns c =
    let rows = c.args.rows.now in
    let said = c.lin_check.ensures in
    c.code_of.ensures
    ∙ sym (refused_as_said c.args.forms.now rows.forms rows.by.items c.as_slice.result.now rows.paired c.as_slice.ensures.value c.requires c.lin_check.result said.wide said.refutes said.not)
