use Rattle.std.proofs.Common.{arith, subst, sym, ℕ, ◌+◌}
use Rattle.lin_certs.proofs.Fronts.{IsFront, front_more, front_narrow, front_wide}
use Rattle.lin_certs.proofs.check.narrow_front.Goals as goal

pub loop-variable-preserved : goal.loop-variable-preserved
loop-variable-preserved c =
    let o = c.narrow_len.ensures in
    subst (λ (n : ℕ). IsFront c.args.forms.now c.args.by.now (c.loop-variable.variable + 1) n) (sym c.min-narrow.ensures)
    (front_more c.args.forms.now c.args.by.now _ _ _ c.loop-variable.invariant o.within o.before o.leaves)

pub returns-clause-narrow : goal.returns-clause-narrow
returns-clause-narrow c =
    front_narrow c.args.forms.now c.args.by.now c.requires.aligned _ _ (let e = c.width-variable-end.ensures in omega arith) c.loop-variable.invariant

pub returns-clause-wide : goal.returns-clause-wide
returns-clause-wide c =
    front_wide c.args.forms.now c.args.by.now c.requires.aligned _ _ (let e = c.width-variable-end.ensures in omega arith) c.loop-variable.invariant
