use Rattle.tht_grammar.proofs.Texts.{one_file}
use Rattle.tht_front.proofs.Unique.{one_answer}
use Rattle.tht_front.proofs.laws.one_answer.Goals as goal

pub returns : goal.returns
returns c = one_answer one_file
