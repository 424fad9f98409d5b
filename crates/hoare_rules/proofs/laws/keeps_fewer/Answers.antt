use Rattle.hoare_laws.proofs.Measure as measure
use Rattle.hoare_rules.proofs.laws.keeps_fewer.Goals as goal

pub returns : goal.returns
returns c = measure.keeps_fewer
