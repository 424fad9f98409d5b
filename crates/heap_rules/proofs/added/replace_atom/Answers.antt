use Rattle.std.proofs.Common.{refl, sym, ◌∙◌, ap}
use Rattle.tht_tree.specs.declared.rule.RuleCode.TheVariants.{R10}
use Rattle.tht_tree.specs.Rules.Context.{context_of}
use Rattle.tht_logic.specs.Flatten.{flatten, with_assn}
use Rattle.heap_rules.specs.Changes.{less, less_older}
use Rattle.heap_rules.specs.Stages.{replaced_by}
use Rattle.heap_rules.proofs.AddedAtoms.{numbered_less}
use Rattle.heap_rules.proofs.Answering.{rejects, stays, fitting, too_large, ok_context}
use Rattle.heap_rules.proofs.OlderAtoms.{less_older_with}
use Rattle.heap_rules.proofs.added.replace_atom.Goals as goal

pub returns-then-not-has_room-clause-follows : goal.returns-then-not-has_room-clause-follows
returns-then-not-has_room-clause-follows c =
    let me = c.args.known.now in
    let old = context_of me.state in
    let left = less c.args.number old in
    let large = sym (c.if-not-has_room.ensures left (numbered_less c.args.number old me.numbered) (sym c.nodes_without.ensures) refl) in
    let said = replaced_by c.args.spot old c.args.number c.args.assn in
    stays c.refused.result said old old (rejects c.refused.result c.args.spot R10 said c.refused.ensures (too_large c.args.spot (with_assn c.args.assn left) large)) refl

pub returns-clause-follows : goal.returns-clause-follows
returns-clause-follows c =
    let me = c.args.known.now in
    let old = context_of me.state in
    let i = c.args.number in
    let left = less i old in
    let fits = sym (c.if-not-has_room.ensures left (numbered_less i old me.numbered) (sym c.nodes_without.ensures) refl) in
    fitting c.args.spot (with_assn c.args.assn left) fits
    ∙ ap ok_context (sym (c.take_older.ensures ∙ ap (less_older me.state.made i) c.in_ok-add_atoms.ensures.ok ∙ less_older_with i (flatten c.args.assn) old me.numbered))
