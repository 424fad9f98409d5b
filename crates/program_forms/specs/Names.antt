-- The names that are bound.
use Rattle.tht_tree.specs.Syntax.{Names}
use Rattle.program_forms.specs.declared.binders.Binders.{Binders}
use Rattle.program_forms.specs.Levels.{names_in}

-- the innermost first
unfoldable pub names_of : Binders → Names
names_of binders = names_in binders.bound
