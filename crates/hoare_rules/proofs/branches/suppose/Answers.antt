use Rattle.std.proofs.Common.{rules, ◌≡◌, Ok, Err, sym, subst}
use Rattle.tht_tree.specs.Rules.Context.{context_of}
use Rattle.tht_logic.specs.Rules.Bodies.{assuming}
use Rattle.heap_rules.specs.Following.{Refuses}
use Rattle.hoare_rules.specs.Cells.{Says}
use Rattle.hoare_rules.proofs.Branching.{supposed, not_supposed}
use Rattle.hoare_rules.proofs.branches.suppose.Goals as goal

pub returns : goal.returns
returns c =
    let old = context_of c.args.known.now.state in
    let now = context_of c.assume.new.self.state in
    let h = c.in_ok-name.name in
    subst (λ h. assuming c.args.spot old h c.args.formula ≡ Ok now) c.in_ok-name.ensures
    (supposed c.args.spot old h c.args.formula now c.in_ok-assume.ensures.fits c.in_ok-assume.ensures.ok)

pub returns-in_err-assume : goal.returns-in_err-assume
returns-in_err-assume c =
    let old = context_of c.args.known.now.state in
    let h = c.in_ok-name.name in
    let e = c.in_err-assume.field-0.0 in
    let stopped = subst (λ h. Refuses e (assuming c.args.spot old h c.args.formula)) c.in_ok-name.ensures (not_supposed c.args.spot old h c.args.formula e c.in_err-assume.ensures.fits) in
    let is : c.from_residual-in_err-assume.result ≡ Err e = search rules in
    subst (λ r. Says r (assuming c.args.spot old c.args.name.now c.args.formula) (context_of c.assume.new.self.state)) (sym is) stopped
