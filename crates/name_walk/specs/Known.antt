-- What stands before a declaration, as the code has it.
use Rattle.tht_tree.specs.Walk.Names.{Scope}
use Rattle.tht_tree.specs.Walk.Decls.{Before}
use Rattle.name_walk.specs.declared.decls.Seen.{Seen}

-- these names in scope, behind what was seen
abbrev pub before_of : Seen → Scope → Before
before_of seen scope = record { scope = scope; invariant = seen.invariant; commands = seen.commands }
