-- What a node does at once, at these values of the variables.
use Rattle.std.specs.Prelude.{◌≡◌, Bool, true, false, slice_get, ℕ, List, [], ◌∷◌, ◌++◌, ◌-◌, length, take, Option, Some, None, if◌then◌else◌}
use Rattle.tht_tree.specs.declared.plain.Value.{Value}
use Rattle.tht_tree.specs.Syntax.{Names}
use Rattle.tht_tree.specs.Values.{bool_in}
use Rattle.tht_logic.specs.Machine.{Prog, Ended, FrontBig}
use Rattle.code_form.specs.declared.code.Node.{Node}
use Rattle.code_form.specs.declared.code.Node.TheVariants as node
use Rattle.code_form.specs.declared.walk.Turn.{Turn}
use Rattle.code_form.specs.declared.walk.Turn.TheVariants.{Stay, Goes, Leaves, Gives, TooBig}
use Rattle.code_form.specs.declared.walk.Stop.{Stop}
use Rattle.code_form.specs.declared.walk.Stop.TheVariants as stop
use Rattle.code_form.specs.declared.walk.Hop.{Hop}
use Rattle.code_form.specs.declared.walk.Hop.TheVariants as hop
use Rattle.code_form.specs.Eval.{eval_of}
use Rattle.code_form.specs.Means.{Means, means_at}

abbrev pub or_turn : Option Value → (Value → Turn) → Turn
or_turn None f = TooBig
or_turn (Some v) f = f v

abbrev pub turn_of : Node → List Value → Turn
turn_of (node.If e p q) env = or_turn (eval_of e env) (λ v. if bool_in v then Goes p else Goes q)
turn_of (node.Leave e gone next) env = or_turn (eval_of e env) (Leaves gone next)
turn_of (node.Ret e) env = or_turn (eval_of e env) Gives
turn_of _ env = Stay

-- the program that a turn leaves
abbrev pub turn_prog : Names → (ℕ → Means) → Turn → Node → List Value → Prog
turn_prog names go Stay n env = means_at names go n env
turn_prog names go (Goes next) n env = go next env
turn_prog names go (Leaves gone next v) n env = go next (take (length env - gone) env ++ v ∷ [])
turn_prog names go (Gives v) n env = Ended v
turn_prog names go TooBig n env = FrontBig

-- a statement stands there
abbrev pub is_plain : Node → Bool
is_plain (node.If e p q) = false
is_plain (node.Leave e keep next) = false
is_plain (node.Ret e) = false
is_plain _ = true

abbrev pub plain_at : Option Node → Bool
plain_at None = false
plain_at (Some n) = is_plain n

abbrev pub StopsPlain : List Node → Stop → Type 0
StopsPlain nodes (stop.Stands i) = plain_at (slice_get nodes i) ≡ true
StopsPlain nodes _ = Unit {0}

abbrev pub HopsPlain : List Node → Hop → Type 0
HopsPlain nodes (hop.Stop s) = StopsPlain nodes s
HopsPlain nodes _ = Unit {0}
