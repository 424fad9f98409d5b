use Rattle.tht_tree.specs.declared.state.Local.TheVariants.{Hypothesis}
use Rattle.std.specs.String.{string_bytes}
use Rattle.pure_proofs.proofs.Maps.{locals_with, locals_same}
use Rattle.pure_proofs.proofs.known.add_hyp.Goals as goal

pub returns-in-Ok-clause-ok : goal.returns-in-Ok-clause-ok
returns-in-Ok-clause-ok c =
    let scope = locals_with c.args.state.now.scope c.insert.new.self (string_bytes c.in_ok-name.name) c.args.hyp.name Hypothesis c.in-Ok.ensures.updates c.in_ok-name.ensures in
    λ i. record { scope = scope i; hyps = c.in_ok-push.ensures.ok i; atoms = c.args.state.now.atoms.entries; made = c.args.state.now.made }

pub returns-in-Err-clause-err : goal.returns-in-Err-clause-err
returns-in-Err-clause-err c =
    let scope = locals_same c.args.state.now.scope c.insert.new.self c.in-Err.ensures.err in
    let hyps = c.drop_last.ensures c.args.state.now.hyps c.args.hyp c.in_ok-push.ensures.ok in
    λ i. record { scope = scope i; hyps = hyps i; atoms = c.args.state.now.atoms.entries; made = c.args.state.now.made }
