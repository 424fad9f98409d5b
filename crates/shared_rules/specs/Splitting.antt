-- What it is worth that atoms are dealt.
use Rattle.tht_tree.specs.declared.file.Source1.{Source1}
use Rattle.tht_tree.specs.Heaps.{Heap, Joins}
use Rattle.tht_tree.specs.Values.{Env}
use Rattle.tht_tree.specs.Rules.Context.{Context}
use Rattle.tht_tree.specs.Walk.Names as walk
use Rattle.tht_logic.specs.Rules.Definitions.{Declarations}
use Rattle.assn_laws.specs.FileLaws.{IsIn}

-- In each file, whatever it declares: a heap that satisfies what was known splits into one that satisfies what is given and one that satisfies what is
-- left, the frame.
abbrev pub SplitsBetween : Context → Context → Context → Type 0
SplitsBetween c given frame =
    (file : Source1) (decl : Declarations) (names : walk.Scope) (env : Env) (h : Heap) → IsIn file decl names c env h
    → (a f : Heap) × Joins a f h × IsIn file decl names given env a × IsIn file decl names frame env f
