-- The procs of a file by their names, their bodies as programs, and their postconditions.
use Rattle.std.specs.Prelude.{ℕ, bytes_eq, List, [], ◌∷◌, map, reverse, Option, Some, None, if◌then◌else◌}
use Rattle.tht_tree.specs.declared.plain.Value.{Value}
use Rattle.tht_tree.specs.declared.body.Body.{Body}
use Rattle.tht_tree.specs.declared.decl.Param.{Param}
use Rattle.tht_tree.specs.declared.decl.Head.{Head}
use Rattle.tht_tree.specs.declared.decl.Decl.{Decl}
use Rattle.tht_tree.specs.declared.decl.DeclKind.{DeclKind}
use Rattle.tht_tree.specs.declared.decl.DeclKind.TheVariants as d
use Rattle.tht_tree.specs.declared.file.Source1.{Source1}
use Rattle.tht_tree.specs.declared.state.Post.{Post}
use Rattle.tht_tree.specs.Values.{is}
use Rattle.tht_tree.specs.Syntax.{Names}
use Rattle.tht_logic.specs.Programs.{root_names, code}
use Rattle.tht_tree.specs.declared.plain.Place.TheVariants.{Null}
use Rattle.tht_logic.specs.Machine.{Prog, Ended, Plain, Free, Bodies, closed}

-- what a proc asks and gives, and its body
pub record Procedure : Type 0 where
  pub head : Head
  pub body : Body

-- the postcondition of a proc, and that of main
abbrev pub head_post : Head → Post
head_post x = record { result = x.result; sort = x.sort; assn = x.post }

abbrev pub main_post : Source1 → Post
main_post file = record { result = file.main.result; sort = file.main.sort; assn = file.main.post }

abbrev pub Procedures : Type 0
Procedures = List ℕ → Option Procedure

abbrev pub with_procedure : Procedure → Procedures → Procedures
with_procedure x others f = if bytes_eq x.head.name f then Some x else others f

abbrev pub with_declared_procedure : DeclKind → Procedures → Procedures
with_declared_procedure (d.Proc head body) others = with_procedure (record { head = head; body = body }) others
with_declared_procedure _ others = others

-- with those of more declarations; of two procs of one name, which do not come where names are in order, the last counts
abbrev pub with_procedures : Procedures → List Decl → Procedures
with_procedures known [] = known
with_procedures known (x ∷ xs) = with_procedures (with_declared_procedure x.kind known) xs

abbrev pub procedures_of : List Decl → Procedures
procedures_of = with_procedures (λ f. None)

-- the names of parameters, the last one first, as the names of variables stand that are bound one after another
abbrev pub bound_names : List Param → Names
bound_names ps = reverse (map (λ p. p.name) ps)

-- a call that is a fault: of a name that no proc has, which cannot come where names are in order
abbrev pub no_body : Prog
no_body = Plain (Free Null) Ended

-- a body with these values for its parameters, which stand in the order of their names
abbrev pub body_with : Names → Option Procedure → List Value → Prog
body_with roots (Some x) vs = closed (reverse (map is vs)) (code roots x.body (bound_names x.head.params))
body_with roots None vs = no_body

-- the bodies of the procs of a file
abbrev pub bodies_of : Names → Procedures → Bodies
bodies_of roots procedures f vs = body_with roots (procedures f) vs

abbrev pub bodies_in : Source1 → Bodies
bodies_in file = bodies_of (root_names file) (procedures_of file.decls)
