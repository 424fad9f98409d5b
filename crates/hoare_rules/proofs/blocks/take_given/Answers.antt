use Rattle.std.proofs.Common.{◌≡◌, ap, sym, subst, arith}
use Rattle.tht_tree.specs.Rules.Context.{context_of}
use Rattle.tht_logic.specs.Rules.Calls.{dealt}
use Rattle.pure_proofs.specs.Places.{ArePlaces}
use Rattle.hoare_rules.proofs.InnerBlocks.{is_split}
use Rattle.hoare_rules.proofs.blocks.take_given.Goals as goal

pub invariant_of-known : goal.invariant_of-known
invariant_of-known c =
    let me = c.args.known.now in
    let is = c.deal-given.ensures.frame in
    let size = c.state_size-nodes.ensures in
    let less = c.deal-given.ensures.smaller in
    let counted = me.counted in
    let in_range = me.in_range in
    let made = ap (λ k. k.made) is in
    let made_in_range = me.made_in_range in
    record {
      numbered = c.deal-given.ensures.frame_numbered;
      counted = omega (arith, size, less, counted, in_range);
      in_range = omega (arith, size, less, counted, in_range);
      made_in_range = omega (arith, made, made_in_range);
      placed = subst (ArePlaces me.places) (sym (ap (λ k. k.hyps) is)) me.placed;
    }

pub returns-clause-split : goal.returns-clause-split
returns-clause-split c =
    let old = context_of c.args.known.now.state in
    is_split c.deal-given.result (dealt c.args.spot c.args.numbers.now old.atoms) old (context_of c.deal-given.new.state) c.deal-given.ensures.dealt c.deal-given.ensures.given c.deal-given.ensures.frame
