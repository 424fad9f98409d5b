use Rattle.heap_assert.proofs.KeptHeaps.{put_heaps, put_captures_nothing}
use Rattle.heap_assert.proofs.putting.put_in_assn.Goals as goal

pub returns-clause-heaps : goal.returns-clause-heaps
returns-clause-heaps c = put_heaps _ _ _ c.put_within.ensures

pub returns-clause-no_capture : goal.returns-clause-no_capture
returns-clause-no_capture c = put_captures_nothing _ _ _ c.put_within.ensures
