use Rattle.std.proofs.Common.{ap}
use Rattle.tht_tree.specs.Rules.Context.{Context, context_of}
use Rattle.pure_terms.specs.Locals.{locals_of}
use Rattle.hoare_rules.proofs.Agreeing.{learnt_by}
use Rattle.hoare_rules.proofs.commands.learn.Goals as goal

pub returns : goal.returns
returns c =
    let old : Context = context_of c.args.known.now.state in
    let cell = c.args.cell in
    let found = c.in_ok-found.found in
    learnt_by cell.spot old cell.number c.args.name.now c.args.sort c.args.hyp.now found.place.now found.value.now c.in_ok-found.ensures.cell
    (record old { scope = locals_of c.bind.new.scope }) c.in_ok-hyp.hyp (ap (λ s. record old { scope = s }) c.in_ok-bind.ensures.ok) c.in_ok-hyp.ensures.ok
    (context_of c.assume.new.self.state) c.in_ok-assume.ensures.fits c.in_ok-assume.ensures.ok
