use Rattle.heap_assert.proofs.OneAtom.{if_ok}
use Rattle.heap_assert.proofs.KeptHeaps.{adds_heaps}
use Rattle.heap_assert.proofs.atoms.flatten.Goals as goal

pub returns-clause-heaps : goal.returns-clause-heaps
returns-clause-heaps c = if_ok _ _ _ (adds_heaps _ _ _) c.add_atoms.ensures.ok
