-- The rule of calls in two stages.
use Rattle.std.specs.Prelude.{ℕ, List, ◌∷◌}
use Rattle.tht_tree.specs.declared.decl.Head.{Head}
use Rattle.tht_tree.specs.declared.give.Give.{Give}
use Rattle.tht_tree.specs.declared.plain.Spot.{Spot}
use Rattle.tht_tree.specs.declared.term.Term.{Term}
use Rattle.tht_tree.specs.declared.term.Term.TheVariants as term
use Rattle.tht_tree.specs.Rules.Context.{Context}
use Rattle.tht_logic.specs.Putting.{put_assn_within}
use Rattle.tht_logic.specs.Rules.Calls.{call_arguments, with_result}
use Rattle.tht_logic.specs.Rules.Checking.{Checked, on_ok, put_or_refused}
use Rattle.tht_logic.specs.Rules.Definitions.{Declarations}
use Rattle.tht_logic.specs.Rules.Gives.{after_give}

-- what is known once the precondition is given
abbrev pub given_before : Declarations → Spot → Context → List Term → List Term → Give → Head → Checked Context
given_before decl spot c ts us g f = on_ok (put_or_refused spot (put_assn_within (call_arguments f ts us) f.pre)) (after_give decl c g)

-- and with the postcondition then
abbrev pub known_behind : Spot → Context → List ℕ → List Term → List Term → Head → Checked Context
known_behind spot c x ts us f = on_ok (put_or_refused spot (put_assn_within ((f.result, term.Var x) ∷ call_arguments f ts us) f.post)) (with_result spot c x f.sort)
