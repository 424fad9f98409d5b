-- What it is worth that the rules accept a give and a step.
use Rattle.std.specs.Prelude.{◌≡◌, None}
use Rattle.tht_tree.specs.declared.assn.Assn.{Assn}
use Rattle.tht_tree.specs.declared.file.Source1.{Source1}
use Rattle.tht_tree.specs.declared.give.Give.{Give}
use Rattle.tht_tree.specs.declared.step.Step.{Step}
use Rattle.tht_tree.specs.Heaps.{Heap, Joins}
use Rattle.tht_tree.specs.Values.{Env}
use Rattle.tht_tree.specs.Rules.Context.{Context}
use Rattle.tht_tree.specs.Walk.Names as walk
use Rattle.tht_tree.specs.Walk.Assns as assns
use Rattle.tht_tree.specs.Walk.Gives as gives
use Rattle.tht_tree.specs.Walk.Steps as steps
use Rattle.tht_logic.specs.Meanings.{meaning_in}
use Rattle.tht_logic.specs.Rules.Definitions.{Declarations}
use Rattle.assn_laws.specs.AssertionLaws.{Holds}
use Rattle.assn_laws.specs.FileLaws.{IsReady, IsIn, SameValues}

-- In each file that declares this, where the names and sorts of the give and its goal are in order: a heap that satisfies what was known
-- splits into one that satisfies the goal and one that satisfies what is known then.
abbrev pub SplitsHeaps : Declarations → Give → Assn → Context → Context → Type 0
SplitsHeaps decl x goal c next =
    (file : Source1) → IsReady file decl → (names : walk.Scope) (env : Env) (h : Heap) → IsIn file decl names c env h → gives.give x names ≡ None → assns.assn goal names ≡ None
    → (a b : Heap) × Joins a b h × Holds (meaning_in file) decl.proofs.roots env goal a × IsIn file decl names next env b

-- In each file that declares this, where the names and sorts of the step are in order: what satisfied what was known satisfies, with some
-- values for the new variables, what is known then.
abbrev pub KeepsHeaps : Declarations → Step → Context → Context → Type 0
KeepsHeaps decl x c next =
    (file : Source1) → IsReady file decl → (names : walk.Scope) (env : Env) (h : Heap) → IsIn file decl names c env h → steps.step x names ≡ None
    → (new : Env) × SameValues c.scope env new × IsIn file decl (steps.after_step x.kind names) next new h
