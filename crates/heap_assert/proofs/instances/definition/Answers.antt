use Rattle.heap_assert.proofs.KeptHeaps.{answer_means}
use Rattle.heap_assert.proofs.instances.definition.Goals as goal

pub returns-clause-heaps : goal.returns-clause-heaps
returns-clause-heaps c = answer_means _ _ _ c.defined_as.ensures
