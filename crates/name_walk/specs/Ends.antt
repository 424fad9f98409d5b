-- Why the names and sorts of a file are refused.
use Rattle.std.specs.Prelude.{◌≡◌, Some, ⊤}
use Rattle.tht_tree.specs.declared.file.Source1.{Source1}
use Rattle.tht_tree.specs.Walk.Files.{first_refusal}
use Rattle.name_walk.specs.declared.files.WalkEnd.{WalkEnd}
use Rattle.name_walk.specs.declared.files.WalkEnd.TheVariants.{Refused, Memory}

-- what is refused is the first refusal of the file; for want of memory nothing is said
abbrev pub IsFirst : Source1 → WalkEnd → Type 0
IsFirst file (Refused r) = first_refusal file ≡ Some r
IsFirst file Memory = ⊤
