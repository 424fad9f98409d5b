use Rattle.std.proofs.Common.{◌≡◌, map, reverse, take}
use Rattle.code_form.specs.Lowering.{expr_of}
use Rattle.code_form.proofs.terms.lower_all.Given as goal

abbrev pub invariant-loop-term : goal.invariant-loop-term
invariant-loop-term l = l.exprs ≡ map (expr_of (reverse l.bound)) (take l.term-index l.terms)
