use Rattle.code_form.specs.Branches.{IsOf}
use Rattle.test_code_form.proofs.tests.goes.Given as goal

abbrev pub invariant-loop-turn : goal.invariant-loop-turn
invariant-loop-turn l = IsOf l.code l.branch
