use Rattle.heap_assert.proofs.ZerosMade.{made_is}
use Rattle.heap_assert.proofs.zeros.zeros_made.Goals as goal

pub returns : goal.returns
returns c = made_is _ _ _ _ c.no_name-none.ensures c.free_zeros.ensures
