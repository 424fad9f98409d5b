-- Laws of the layout.
use Rattle.std.specs.Prelude.{◌≡◌, ℕ, List}
use Rattle.tht_tree.specs.declared.file.Source1.{Source1}
use Rattle.tht_tree.specs.Layout.{layout}
use Rattle.tht_tree.specs.Spelling.{IsSpelled}
use Rattle.tht_tree.specs.WithoutSpots.{without_spots}

-- The layout of a file that some bytes spell spells the same file, but for its spots.
abbrev pub LayoutSpells : Type 0
LayoutSpells =
    (file : Source1) (bytes : List ℕ) → IsSpelled file bytes
    → (again : Source1) × IsSpelled again (layout file) × (without_spots again ≡ without_spots file)
