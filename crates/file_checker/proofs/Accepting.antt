-- What makes a file accepted, and what is known of one.
use Rattle.std.proofs.Common.{◌≡◌, true, None}
use Rattle.tht_tree.specs.declared.file.Source1.{Source1}
use Rattle.tht_tree.specs.Walk.Files.{WellSorted}
use Rattle.tht_logic.specs.Built.{is_built}
use Rattle.tht_logic.specs.Soundness.{IsSound}
use Rattle.tht_logic.specs.Rules.Files.{first_rule_refusal, IsAccepted}
use Rattle.hoare_laws.proofs.FileSound.{accepted_is_sound}

pub accepted : (file : Source1) → is_built file ≡ true → WellSorted file → first_rule_refusal file ≡ None → IsAccepted file
accepted file built sorted rules = record { built = built; sorted = sorted; rules = rules }

pub sorted_of : (file : Source1) → IsAccepted file → WellSorted file
sorted_of file a = a.sorted

pub sound_of : (file : Source1) → IsAccepted file → IsSound file
sound_of = accepted_is_sound
