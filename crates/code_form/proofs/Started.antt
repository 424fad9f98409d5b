-- Nothing follows the start.
use Rattle.std.proofs.Common.{◌≡◌, ℕ, List, [], drop, refl, ◌∙◌, ap}
use Rattle.tht_tree.specs.declared.plain.Value.{Value}
use Rattle.tht_logic.specs.Machine.{Prog, Ended, FrontBig, Plain, Block, Fork, and_then}
use Rattle.code_form.specs.declared.frames.Frame.{Frame}
use Rattle.code_form.specs.Stack.{rests}

pub and_then_ended : (p : Prog) → and_then p Ended ≡ p
and_then_ended (Ended v) = refl
and_then_ended FrontBig = refl
and_then_ended (Plain c next) = λ i. Plain c (λ v. and_then_ended (next v) i)
and_then_ended (Block p next) = λ i. Block p (λ v. and_then_ended (next v) i)
and_then_ended (Fork p q next) = λ i. Fork p q (λ v w. and_then_ended (next v w) i)

pub begun_is : (go : ℕ → List Value → Prog) (from : ℕ) (env values : List Value) (frames : List Frame) → values ≡ env → frames ≡ [] →
    and_then (go from (drop 0 values)) (rests go values frames Ended) ≡ go from env
begun_is go from env values frames e h =
    ap (λ (z : List Value). and_then (go from (drop 0 z)) (rests go z frames Ended)) e ∙ ap (λ (z : List Frame). and_then (go from env) (rests go env z Ended)) h ∙ and_then_ended (go from env)
