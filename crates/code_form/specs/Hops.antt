-- What a stop stands for.
use Rattle.std.specs.Prelude.{ℕ, ◌+◌, ◌<◌, ◌≤◌}
use Rattle.std.specs.Prelude.{List}
use Rattle.tht_tree.specs.declared.plain.Value.{Value}
use Rattle.tht_logic.specs.Machine.{Prog, Ended, FrontBig}
use Rattle.code_form.specs.Means.{Means}
use Rattle.code_form.specs.declared.walk.Stop.{Stop}
use Rattle.code_form.specs.declared.walk.Stop.TheVariants.{Stands, Gives, TooBig}
use Rattle.code_form.specs.declared.walk.Hop.{Hop}
use Rattle.code_form.specs.declared.walk.Hop.TheVariants as hop

abbrev pub stop_prog : (ℕ → Means) → Stop → List Value → Prog
stop_prog go (Stands i) env = go i env
stop_prog go (Gives v) env = Ended v
stop_prog go TooBig env = FrontBig

abbrev pub hop_prog : (ℕ → Means) → Hop → List Value → Prog
hop_prog go (hop.To i) env = go i env
hop_prog go (hop.Stop s) env = stop_prog go s env

-- a hop goes to a node further down, and takes no more room than it goes down
abbrev pub IsNear : Hop → ℕ → ℕ → ℕ → Type 0
IsNear (hop.To i) now was at = (i < at) × (now + i ≤ was)
IsNear (hop.Stop s) now was at = now ≤ was
