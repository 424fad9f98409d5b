-- What a body on its way is seen as.
use Rattle.std.specs.Prelude.{ℕ, ◌≤◌, List}
use Rattle.tht_tree.specs.declared.plain.Value.{Value}
use Rattle.code_form.specs.declared.frames.Frame.{Frame}
use Rattle.code_form.specs.declared.frames.Front.{Front}
use Rattle.code_form.specs.Stack.{Chain, IsAtEnd}

-- What stands in front, and the values of the variables of all calls that are under way, with their frames: the variables of the innermost begin
-- at `base`.
pub record StackValue : Type 0 where
  pub front : Front
  pub base : ℕ
  pub values : List Value
  pub frames : List Frame

abbrev pub IsStack : Front → ℕ → ℕ → List Frame → Type 0
IsStack front base len frames = Chain 0 frames base × (base ≤ len) × IsAtEnd front frames
