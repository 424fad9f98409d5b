-- What a parameter stands for.
use Rattle.std.specs.Prelude.{Bool, true, false}
use Rattle.tht_tree.specs.declared.plain.Sort.{Sort}
use Rattle.tht_tree.specs.declared.walk.Class.{Class}
use Rattle.tht_tree.specs.declared.walk.Class.TheVariants.{Program, Logic}

-- a variable of the program, or of the logic
abbrev pub variable_of : Bool → Sort → Class
variable_of true = Program
variable_of false = Logic
