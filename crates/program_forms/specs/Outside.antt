-- Names without the innermost.
use Rattle.std.specs.Prelude.{[], ◌∷◌}
use Rattle.tht_tree.specs.Syntax.{Names}

-- all but the innermost
abbrev pub outside : Names → Names
outside [] = []
outside (x ∷ xs) = xs
