use Rattle.hoare_laws.proofs.Measure as measure
use Rattle.hoare_rules.proofs.laws.sequence_and_frame.Goals as goal

pub returns : goal.returns
returns c = measure.sequence_and_frame
