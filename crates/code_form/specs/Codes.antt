-- What a code stands for: the programs of its nodes, and the bodies of its procs.
use Rattle.std.specs.Prelude.{ℕ, slice_get, Option, Some, None}
use Rattle.tht_logic.specs.Machine.{Bodies}
use Rattle.tht_logic.specs.Procedures.{no_body}
use Rattle.code_form.specs.declared.code.Code.{Code}
use Rattle.code_form.specs.declared.code.Proc.{Proc}
use Rattle.code_form.specs.Means.{Means, meaning, names_of, body_named}

-- the program of the node with a number, where the variables have these values in the order in which they were bound
abbrev pub means_of : Code → ℕ → Means
means_of code = meaning (names_of code.bodies) code.nodes

abbrev pub at_body : (ℕ → Means) → Option Proc → Means
at_body go None vs = no_body
at_body go (Some b) vs = go b.start vs

-- the bodies of the procs, by their names
abbrev pub bodies_of : Code → Bodies
bodies_of code f vs = at_body (means_of code) (body_named code.bodies f) vs

-- the body with a number
abbrev pub body_at : Code → ℕ → Means
body_at code f vs = at_body (means_of code) (slice_get code.bodies f) vs
