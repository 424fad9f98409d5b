-- The names of the procs of a file, and the bodies that these find.
use Rattle.std.specs.Prelude.{◌≡◌, ℕ, ◌<◌, is_some, bytes_eq, List, [], ◌∷◌, ◌++◌, length, map, Option, Some, None, if◌then◌else◌}
use Rattle.tht_tree.specs.declared.decl.Decl.{Decl}
use Rattle.tht_tree.specs.declared.decl.DeclKind.{DeclKind}
use Rattle.tht_tree.specs.declared.decl.DeclKind.TheVariants as d
use Rattle.tht_tree.specs.Syntax.{Names, position}
use Rattle.tht_logic.specs.Programs.{code}
use Rattle.tht_logic.specs.Procedures.{Procedure, Procedures}
use Rattle.code_form.specs.declared.code.Node.{Node}
use Rattle.code_form.specs.declared.code.Proc.{Proc}
use Rattle.code_form.specs.declared.bodies.Behind.TheVariants.{Caller}
use Rattle.code_form.specs.declared.bodies.Work.{Work}
use Rattle.code_form.specs.Means.{names_of, body_named}
use Rattle.code_form.specs.Lowering.{Stands}

-- ---- names

-- with one more name, behind the others, unless it is there
abbrev pub with_name : Names → List ℕ → Names
with_name xs f = if is_some (position 0 xs f) then xs else xs ++ f ∷ []

-- with the name of a proc
abbrev pub with_proc_name : DeclKind → Names → Names
with_proc_name (d.Proc head body) xs = with_name xs head.name
with_proc_name _ xs = xs

-- with those of the procs among declarations
abbrev pub with_proc_names : Names → List Decl → Names
with_proc_names known [] = known
with_proc_names known (x ∷ xs) = with_proc_names (with_proc_name x.kind known) xs

-- ---- bodies

-- bodies that are not made yet
abbrev pub unmade_proc : List ℕ → Proc
unmade_proc f = record { name = f; start = 0 }

abbrev pub unmade : Names → List Proc
unmade = map unmade_proc

-- the first body with this name begins here
abbrev pub with_start : List ℕ → ℕ → List Proc → List Proc
with_start f start [] = []
with_start f start (b ∷ bs) = if bytes_eq b.name f then record b { start = start } ∷ bs else b ∷ with_start f start bs

-- the node with this number stands for the body of the proc
pub record IsStart (procs : Names) (nodes : List Node) (x : Procedure) (start : ℕ) : Type 0 where
  pub there : start < length nodes
  pub stands : Stands procs nodes Caller (map (λ p. p.name) x.head.params) start (code [] x.body)

-- The bodies have the names of the procs, and those of procedures that are known were made.
pub record HasBodies (work : Work) (bodies : List Proc) (known : Procedures) : Type 0 where
  pub names : names_of bodies ≡ work.procs
  pub made : (f : List ℕ) (x : Procedure) (b : Proc) → known f ≡ Some x → body_named bodies f ≡ Some b → IsStart work.procs work.nodes x b.start
