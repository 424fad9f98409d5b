-- The parameters that a case behind `on` does not replace.
use Rattle.std.specs.Prelude.{ℕ, Bool, true, false, List}
use Rattle.tht_tree.specs.declared.decl.Param.{Param}
use Rattle.tht_tree.specs.Walk.Names.{other_params}

-- of the parameters that are left, those that are not replaced, once the one with this name has been met or not
abbrev pub others_left : Bool → List ℕ → List Param → List Param
others_left true x ps = ps
others_left false x ps = other_params x ps
