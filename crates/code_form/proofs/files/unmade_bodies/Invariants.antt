use Rattle.std.proofs.Common.{◌≡◌, map, take}
use Rattle.std.specs.String.{string_bytes}
use Rattle.code_form.specs.Files.{unmade_proc}
use Rattle.code_form.proofs.files.unmade_bodies.Given as goal

abbrev pub invariant-loop-text : goal.invariant-loop-text
invariant-loop-text l = l.bodies ≡ map (λ t. unmade_proc (string_bytes t)) (take l.text-index l.texts)
