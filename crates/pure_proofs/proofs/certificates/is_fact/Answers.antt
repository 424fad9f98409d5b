use Rattle.std.proofs.Common.{is_some, sym, ◌∙◌, ap}
use Rattle.tht_tree.specs.Rules.Certificates.{fact_of}
use Rattle.pure_proofs.specs.Facts.{denied_by}
use Rattle.pure_proofs.specs.Said.{known_in}
use Rattle.pure_proofs.proofs.Entries.{is_fact, matched}
use Rattle.pure_proofs.proofs.certificates.is_fact.Goals as goal

pub returns : goal.returns
unfolding known_in
returns c =
    let roots = c.args.roots.now in
    let scope = (known_in c.args.known.now.state).scope in
    let aim = denied_by c.args.aim in
    let e = c.args.entry.now in
    c.is_some.ensures ∙ matched c.fact_of.result (fact_of roots scope aim c.get.result.now) c.fact_of.ensures ∙ ap (λ u. is_some (fact_of roots scope aim u)) c.get.ensures ∙ sym (is_fact roots scope aim e)
