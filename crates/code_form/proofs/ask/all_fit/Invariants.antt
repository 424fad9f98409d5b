use Rattle.std.proofs.Common.{◌≡◌, drop}
use Rattle.code_form.specs.Eval.{all_of}
use Rattle.code_form.specs.Statements.{is_there}
use Rattle.code_form.proofs.ask.all_fit.Given as goal

abbrev pub invariant-loop-e : goal.invariant-loop-e
invariant-loop-e l = is_there (all_of l.env (drop l.e-index l.es)) ≡ is_there (all_of l.env l.es)
