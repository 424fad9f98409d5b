-- The frames of the calls that are under way, the outermost first.
use Rattle.std.specs.Prelude.{◌≡◌, ℕ, ◌≤◌, List, [], ◌∷◌, ◌++◌, take, drop, true, slice_get, map, Option, Some, None}
use Rattle.tht_tree.specs.declared.plain.Value.{Value}
use Rattle.tht_tree.specs.Values.{unit_value}
use Rattle.code_form.specs.declared.expr.Expr.{Expr}
use Rattle.code_form.specs.Eval.{eval_of}
use Rattle.tht_logic.specs.Machine.{Prog, FrontBig, and_then}
use Rattle.code_form.specs.declared.code.Node.{Node}
use Rattle.code_form.specs.Means.{Means}
use Rattle.code_form.specs.Turns.{plain_at}
use Rattle.code_form.specs.declared.frames.Frame.{Frame}
use Rattle.code_form.specs.declared.frames.Front.{Front}
use Rattle.code_form.specs.declared.frames.Front.TheVariants as front
use Rattle.code_form.specs.declared.frames.Bound.{Bound}
use Rattle.code_form.specs.declared.frames.Bound.TheVariants.{Nothing, One, Two}

-- each frame's values begin where those that it goes on with begin or later, and end before those of the next one
abbrev pub Chain : ℕ → List Frame → ℕ → Type 0
Chain lo [] n = lo ≤ n
Chain lo (f ∷ fs) n = (lo ≤ f.base) × (f.base ≤ f.len) × Chain f.len fs n

-- what a frame goes on with, from the value of the call
abbrev pub back : (ℕ → Means) → List Value → Frame → Value → Prog
back go values f v = go f.next (drop f.base (take f.len values) ++ v ∷ [])

-- what follows the innermost frame's value
abbrev pub rests : (ℕ → Means) → List Value → List Frame → (Value → Prog) → Value → Prog
rests go values [] k v = k v
rests go values (f ∷ fs) k v = rests go values fs (λ w. and_then (back go values f w) k) v

abbrev pub front_prog : (ℕ → Means) → Front → List Value → (Value → Prog) → Prog
front_prog go (front.At i) env k = and_then (go i env) k
front_prog go (front.Ended v) env k = k v
front_prog go front.TooBig env k = FrontBig

abbrev pub IsAtEnd : Front → List Frame → Type 0
IsAtEnd (front.Ended v) fs = fs ≡ []
IsAtEnd _ fs = Unit {0}

abbrev pub IsPlainFront : List Node → Front → Type 0
IsPlainFront nodes (front.At i) = plain_at (slice_get nodes i) ≡ true
IsPlainFront nodes _ = Unit {0}

abbrev pub value_or_unit : Option Value → Value
value_or_unit None = unit_value
value_or_unit (Some v) = v

-- the values that a statement binds
abbrev pub values_in : Bound → List Value
values_in Nothing = []
values_in (One w) = w ∷ []
values_in (Two w u) = w ∷ u ∷ []

-- the values of a call's arguments
abbrev pub arguments_of : List Value → List Expr → List Value
arguments_of env es = map (λ e. value_or_unit (eval_of e env)) es
