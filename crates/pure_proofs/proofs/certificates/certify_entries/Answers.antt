use Rattle.std.proofs.Common.{◌≡◌, map, filter_map, sym, ◌∙◌, ap}
use Rattle.std.proofs.lemmas.Result.{IfOk-weaker}
use Rattle.tht_tree.specs.Rules.Proofs.{fact_in, certifies}
use Rattle.pure_proofs.specs.Facts.{denied_by, fact_said}
use Rattle.pure_proofs.specs.Said.{known_in, said_of_entry}
use Rattle.pure_proofs.specs.Verdicts.{without_lemmas}
use Rattle.pure_proofs.proofs.Entries.{facts_are}
use Rattle.pure_proofs.proofs.certificates.certify_entries.Goals as goal

pub returns : goal.returns
unfolding known_in
returns c =
    let roots = c.args.roots.now in
    let scope = (known_in c.args.known.now.state).scope in
    let aim = denied_by c.args.aim in
    let fs = c.deref.result.now in
    let all = filter_map (fact_in (without_lemmas roots) scope aim) (map (said_of_entry roots) c.args.entries.now) in
    IfOk-weaker c.certify.result (λ r. r ≡ certifies c.args.spot scope c.args.multiplier aim (map fact_said fs)) (λ r. r ≡ certifies c.args.spot scope c.args.multiplier aim all)
    (λ r h. h ∙ ap (certifies c.args.spot scope c.args.multiplier aim) (ap (map fact_said) c.deref.ensures.value ∙ c.in_ok-facts.ensures ∙ sym (facts_are roots scope aim c.args.entries.now))) c.certify.ensures
