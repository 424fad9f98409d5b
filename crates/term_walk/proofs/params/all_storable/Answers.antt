use Rattle.std.proofs.Common.{◌∙◌, ap}
use Rattle.tht_tree.specs.Walk.Codes.{first}
use Rattle.term_walk.proofs.ParamLists.{storable_after}
use Rattle.term_walk.proofs.params.all_storable.Goals as goal

pub loop-param-preserved : goal.loop-param-preserved
loop-param-preserved c =
    storable_after c.args.params.now c.loop-param.param-index c.param-item.result c.loop-param-test.true c.param-item.is _ c.loop-param.code c.first-code.result c.loop-param.invariant
    (c.first-code.ensures ∙ ap (first c.loop-param.code) c.storable.ensures)
