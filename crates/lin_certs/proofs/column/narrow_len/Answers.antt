use Rattle.std.proofs.Common.{◌∙◌, refl, ap, rules}
use Rattle.std.specs.Int.{w128}
use Rattle.std.proofs.lemmas.Int.{to_z-of_z}
use Rattle.lin_certs.specs.Columns.{entry}
use Rattle.lin_certs.proofs.Columns.{further, from_stays}
use Rattle.lin_certs.proofs.column.narrow_len.Goals as goal

pub returns-in-None-clause-leaves : goal.returns-in-None-clause-leaves
returns-in-None-clause-leaves c h k =
    let is = to_z-of_z w128 c.entry.result (record { sfits = c.entry.type_inv }) ∙ c.entry.ensures ∙ ap (entry c.args.variable) c.index-forms-index.is in
    c.in-None.ensures (from_stays c.args.variable c.args.forms.now c.args.by.now c.loop-index.index _ _ _ _ c.requires h refl is c.loop-index.invariant k)

pub loop-index-preserved : goal.loop-index-preserved
loop-index-preserved c =
    let is = to_z-of_z w128 c.entry.result (record { sfits = c.entry.type_inv }) ∙ c.entry.ensures ∙ ap (entry c.args.variable) c.index-forms-index.is in
    let fits = to_z-of_z w128 c.in-Some.next (search rules) in
    let so = c.in-Some.ensures in
    further c.args.variable c.args.forms.now c.args.by.now c.loop-index.index _ _ _ _ c.requires c.loop-index-test.true refl is c.loop-index.invariant _ (so.0, fits ∙ so.1)
