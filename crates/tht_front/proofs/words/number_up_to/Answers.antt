use Rattle.std.proofs.Common.{◌≡◌, true, ◌∙◌, rules}
use Rattle.tht_front.specs.Asking.{begins_above_zero}
use Rattle.tht_front.proofs.Numerals.{read}
use Rattle.tht_front.proofs.words.number_up_to.Goals as goal

pub returns-in-Ok : goal.returns-in-Ok
returns-in-Ok c =
    let begins : true ≡ begins_above_zero c.args.word.now = search rules in
    c.up_to.ensures ∙ read c.args.limit c.ranges.limit.fits c.args.word.now c.parse.result c.parse.ensures.value.0 c.in-Ok.number c.in-Ok.is begins
