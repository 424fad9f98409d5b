-- What keeps for one step more keeps.
use Rattle.std.proofs.Common.{ℕ, zero, suc, List}
use Rattle.tht_tree.specs.Heaps.{Heap}
use Rattle.tht_logic.specs.Machine.{Bodies, Tree, step_of}
use Rattle.tht_logic.specs.Soundness.{Assertion, Postcondition, Keeps}
use Rattle.tht_logic.proofs.Said.{leads_map}

pub keeps_fewer : (F : Bodies) (I : Assertion) (k : ℕ) (above : List ℕ) (t : Tree) (p : Heap) (Q : Postcondition) → Keeps F I (suc k) above t p Q → Keeps F I k above t p Q
keeps_fewer F I zero above t p Q h = tt
keeps_fewer F I (suc k) above t p Q h = record {
  ends = h.ends;
  safe = h.safe;
  goes = λ f m s b n. leads_map (step_of F above b n m t) _ _ (λ r x. (x.0, x.1, x.2, keeps_fewer F I k above r.tree x.0 Q x.3)) (h.goes f m s b n);
}
