use Rattle.std.proofs.Common.{◌≡◌, ◌∷◌, Some, string_bytes, ◌∙◌, rules}
use Rattle.tht_logic.specs.CommandLine.{with_option}
use Rattle.tht_front.specs.Asking.{said_by}
use Rattle.tht_front.proofs.OptionWords.{taken}
use Rattle.tht_front.proofs.words.read_options.Goals as goal

pub loop-name-preserved : goal.loop-name-preserved
loop-name-preserved c =
    let first : c.loop-name.rest.now ≡ c.in-Some.name.now ∷ c.in-Some.after.now = search rules in
    let second : c.in-Some.after.now ≡ c.in_ok-value.value.now ∷ c.in_ok-value.others.now = search rules in
    let took : Some (said_by c.in_ok-options.options) ≡ with_option (string_bytes c.in-Some.name.now) (string_bytes c.in_ok-value.value.now) (said_by c.loop-name.options) = search rules in
    c.loop-name.invariant
    ∙ taken string_bytes c.loop-name.rest.now c.in-Some.after.now c.in-Some.name.now first (said_by c.loop-name.options) c.in_ok-value.value.now c.in_ok-value.others.now second (said_by c.in_ok-options.options) took
