-- What is known in a proc, and which procs can be checked.
use Rattle.std.specs.Prelude.{◌≡◌, true, [], List, ⊤}
use Rattle.tht_tree.specs.declared.decl.Param.{Param}
use Rattle.tht_tree.specs.declared.decl.Head.{Head}
use Rattle.tht_tree.specs.declared.decl.DeclKind.{DeclKind}
use Rattle.tht_tree.specs.declared.decl.DeclKind.TheVariants as d
use Rattle.tht_tree.specs.Rules.Context.{Context, no_context}
use Rattle.tht_logic.specs.Rules.Definitions.{Declarations, with_params, head_scope}
use Rattle.tht_logic.specs.Rules.Scoped.{assn, instance_fits}

-- with these variables in scope
abbrev pub with_bound : Context → List Param → Context
with_bound c ps = record c { scope = with_params c.scope ps }

-- what is known in a proc before its precondition: its parameters and logical variables are in scope
abbrev pub in_head : Head → Context
in_head x = record no_context { scope = head_scope x }

-- the precondition is in order where these are in scope
abbrev pub PreIsInOrder : Declarations → Head → Type 0
PreIsInOrder decl x = assn [] (instance_fits decl) x.pre (head_scope x) ≡ true

-- so it is where a proc is declared
abbrev pub StartsInOrder : Declarations → DeclKind → Type 0
StartsInOrder decl (d.Proc head body) = PreIsInOrder decl head
StartsInOrder decl _ = ⊤
