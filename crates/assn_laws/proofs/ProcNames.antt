-- What no statement changes: the procs that the walk and the rules know.
use Rattle.std.proofs.Common.{ℕ, Bool, true, false, cond, List, Option, Some}
use Rattle.std.specs.Prelude.{bytes_eq}
use Rattle.tht_tree.specs.declared.decl.Head.{Head}
use Rattle.tht_tree.specs.declared.step.StepKind.{StepKind}
use Rattle.tht_tree.specs.declared.step.StepKind.TheVariants as s
use Rattle.tht_tree.specs.declared.walk.Class.{Class}
use Rattle.tht_tree.specs.declared.walk.Class.TheVariants as c
use Rattle.tht_tree.specs.Walk.Names as walk
use Rattle.tht_tree.specs.Walk.Names.{with_name}
use Rattle.tht_tree.specs.Walk.Steps.{after_step}
use Rattle.assn_laws.specs.Walked.{KnowsProcAt, KnowsProcs}

-- one more name, which is no proc's
pub procs_with_name : (procs : List ℕ → Option Head) (names : walk.Scope) (x : List ℕ) (k : Class) → ((o : Option Head) → KnowsProcAt (Some k) o) → KnowsProcs procs names
    → KnowsProcs procs (with_name names x k)
procs_with_name procs names x k other known y = pick (bytes_eq x y)
  where
    pick : (b : Bool) → KnowsProcAt (cond b (Some k) (names y)) (procs y)
    pick true = other (procs y)
    pick false = known y

pub procs_after_step : (procs : List ℕ → Option Head) (names : walk.Scope) (x : StepKind) → KnowsProcs procs names → KnowsProcs procs (after_step x names)
procs_after_step procs names (s.Have h t q) known = procs_with_name procs names h c.Hypothesis (λ o. tt) known
procs_after_step procs names (s.OpenVar i x r) known = procs_with_name procs names x (c.Logic r) (λ o. tt) known
procs_after_step procs names (s.OpenFact i h) known = procs_with_name procs names h c.Hypothesis (λ o. tt) known
procs_after_step procs names (s.Unfold i) known = known
procs_after_step procs names (s.Fold n us x) known = known
procs_after_step procs names (s.Rewrite i k u q) known = known
procs_after_step procs names (s.Use l us x) known = known
