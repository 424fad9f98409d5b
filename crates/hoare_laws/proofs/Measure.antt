-- The laws of the measure.
use Rattle.tht_logic.specs.Meanings.{meaning}
use Rattle.tht_logic.specs.Soundness.{post_of}
use Rattle.tht_logic.proofs.Fewer as fewer
use Rattle.tht_logic.proofs.Sequence as sequence
use Rattle.hoare_laws.specs.Laws.{invariant_of, KeepsFewer, SequenceAndFrame}

pub keeps_fewer : KeepsFewer
keeps_fewer decls roots F env out invariant post k above t p =
    fewer.keeps_fewer F (invariant_of (meaning roots decls) roots env invariant) k above t p (post_of (meaning roots decls) roots out post)

pub sequence_and_frame : SequenceAndFrame
sequence_and_frame decls roots F env inner outer invariant first second k above b p rest q f h joins keeps follows =
    sequence.in_sequence F (invariant_of (meaning roots decls) roots env invariant) above b rest f (post_of (meaning roots decls) roots inner first) (post_of (meaning roots decls) roots outer second)
    k p q h joins keeps follows
