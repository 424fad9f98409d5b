use Rattle.std.proofs.Common.{refl, sym, ◌∙◌, ap}
use Rattle.tht_tree.specs.declared.rule.RuleCode.TheVariants.{R10}
use Rattle.tht_tree.specs.declared.state.Local.TheVariants.{Variable}
use Rattle.tht_tree.specs.Rules.Context.{context_of}
use Rattle.tht_logic.specs.Flatten.{flatten, with_assn}
use Rattle.heap_rules.specs.Changes.{less, less_older, older, named}
use Rattle.heap_rules.specs.Stages.{replaced_by, put_named_by}
use Rattle.heap_rules.proofs.AddedAtoms.{numbered_less}
use Rattle.heap_rules.proofs.Answering.{rejects, stays, first_refuses, fitting, too_large, ok_context, goes_on}
use Rattle.heap_rules.proofs.OlderAtoms.{less_older_with, named_less, older_again}
use Rattle.heap_rules.proofs.opening.put_named.Goals as goal

pub returns-then-not-has_room-clause-follows : goal.returns-then-not-has_room-clause-follows
returns-then-not-has_room-clause-follows c =
    let me = c.args.known.now in
    let old = context_of me.state in
    let spot = c.args.spot in
    let i = c.args.number in
    let p = c.args.assn in
    let left = less i old in
    let large = sym (c.if-not-has_room.ensures left (numbered_less i old me.numbered) (sym c.nodes_without.ensures) refl) in
    let said = replaced_by spot old i p in
    let e = c.refused.result in
    stays e (put_named_by spot old i p c.args.name.now c.args.sort) old old
    (first_refuses said (λ k. ok_context (named c.args.name.now (Variable c.args.sort) k)) e (rejects e spot R10 said c.refused.ensures (too_large spot (with_assn p left) large))) refl

pub returns-in-Ok-clause-follows : goal.returns-in-Ok-clause-follows
returns-in-Ok-clause-follows c =
    let me = c.args.known.now in
    let old = context_of me.state in
    let spot = c.args.spot in
    let i = c.args.number in
    let p = c.args.assn in
    let x = c.args.name.now in
    let l = Variable c.args.sort in
    let left = less i old in
    let fits = sym (c.if-not-has_room.ensures left (numbered_less i old me.numbered) (sym c.nodes_without.ensures) refl) in
    goes_on (replaced_by spot old i p) (λ k. ok_context (named x l k)) (with_assn p left) (fitting spot (with_assn p left) fits)
    ∙ ap ok_context
    (sym (c.take_older.ensures ∙ ap (less_older me.state.made i) (c.in-Ok.ensures.ok ∙ ap (named x l) c.in_ok-add_atoms.ensures.ok) ∙ named_less me.state.made i x l (with_assn p old) ∙ ap (named x l) (less_older_with i (flatten p) old me.numbered)))

pub returns-in-Err-clause-err : goal.returns-in-Err-clause-err
returns-in-Err-clause-err c =
    let me = c.args.known.now in
    c.take_back.ensures ∙ ap (older me.state.made) (c.in-Err.ensures.err ∙ c.in_ok-add_atoms.ensures.ok) ∙ older_again (flatten c.args.assn) (context_of me.state) me.numbered
