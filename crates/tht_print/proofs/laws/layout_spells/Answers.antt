use Rattle.tht_layout.proofs.Texts as texts
use Rattle.tht_print.proofs.laws.layout_spells.Goals as goal

pub returns : goal.returns
returns c = texts.layout_spells
