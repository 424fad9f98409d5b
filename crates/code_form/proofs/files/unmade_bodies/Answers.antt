use Rattle.std.specs.String.{string_bytes}
use Rattle.code_form.proofs.FoundBodies.{unmade_all}
use Rattle.code_form.proofs.files.unmade_bodies.Goals as goal

pub returns : goal.returns
returns c = unmade_all string_bytes c.texts-texts.result.now c.loop-text.text-index c.args.names.now c.loop-text.bodies c.loop-text-test.false c.texts-texts.ensures c.loop-text.invariant
