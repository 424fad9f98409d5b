use Rattle.hoare_laws.proofs.PlainFiles as files
use Rattle.hoare_rules.proofs.laws.ordered_is_plain.Goals as goal

pub returns : goal.returns
returns c = files.plain_files
