use Rattle.tht_tree.specs.Rules.Context.{context_of}
use Rattle.shared_rules.proofs.Splitting.{deal_is_sound}
use Rattle.shared_rules.proofs.dealing.deal.Goals as goal

pub returns-clause-sound : goal.returns-clause-sound
returns-clause-sound c =
    let d = c.deal_out.ensures in
    deal_is_sound (context_of c.args.state.now) (context_of c.deal_out.new.state) c.args.spot c.args.numbers.now c.deal_out.result d.dealt d.given d.frame
