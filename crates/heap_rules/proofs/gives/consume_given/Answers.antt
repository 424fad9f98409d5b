use Rattle.std.proofs.Common.{[], sym, ◌∙◌, subst}
use Rattle.tht_tree.specs.Rules.Context.{context_of}
use Rattle.pure_proofs.specs.Said.{known_in}
use Rattle.heap_rules.proofs.FrameParts.{gave, gave_none}
use Rattle.heap_rules.proofs.MoreAtoms.{Numbered}
use Rattle.heap_rules.proofs.OlderAtoms.{older_left}
use Rattle.heap_rules.proofs.gives.consume_given.Goals as goal

pub returns-in-Ok-clause-follows : goal.returns-in-Ok-clause-follows
unfolding known_in
returns-in-Ok-clause-follows c =
    let me = c.args.known.now in
    let kept = c.in-Ok.ensures.kept in
    gave c.in-Ok.consumed (context_of me.state) _ _ _ c.in-Ok.ensures.frame kept
    (c.take_out.ensures ∙ older_left c.in-Ok.consumed [] _ (subst Numbered (sym kept) me.numbered))

pub returns-in-Err-clause-follows : goal.returns-in-Err-clause-follows
unfolding known_in
returns-in-Err-clause-follows c = gave_none c.in-Err.refusal _ (context_of c.args.known.now.state) _ c.in-Err.ensures.frame c.in-Err.ensures.kept

pub returns-in-Err-clause-err : goal.returns-in-Err-clause-err
unfolding known_in
returns-in-Err-clause-err c = c.in-Err.ensures.kept
