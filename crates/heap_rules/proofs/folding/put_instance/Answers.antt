use Rattle.std.proofs.Common.{refl, sym, ◌∙◌, ap, arith}
use Rattle.tht_tree.specs.declared.assn.Assn.TheVariants.{Inst}
use Rattle.tht_tree.specs.declared.rule.RuleCode.TheVariants.{R10}
use Rattle.tht_tree.specs.Rules.Context.{context_of}
use Rattle.tht_logic.specs.Flatten.{flatten}
use Rattle.heap_rules.specs.ConsumedAtoms.{left_of, older_left_in}
use Rattle.heap_rules.specs.Stages.{put_for}
use Rattle.heap_rules.proofs.FoldSizes.{numbered_left, counted_left, put_at, put_large, room_left}
use Rattle.heap_rules.proofs.Answering.{rejects, stays, ok_context}
use Rattle.heap_rules.proofs.OlderAtoms.{older_left}
use Rattle.heap_rules.proofs.folding.put_instance.Goals as goal

pub overflow_sub-known : goal.overflow_sub-known
overflow_sub-known c = let me = c.args.known.now in let e = counted_left c.args.consumed (context_of me.state) c.requires in omega (arith, e, me.counted)

pub returns-then-not-has_room-clause-follows : goal.returns-then-not-has_room-clause-follows
returns-then-not-has_room-clause-follows c =
    let me = c.args.known.now in
    let old = context_of me.state in
    let spot = c.args.instance.spot in
    let p = Inst c.args.instance.name.now c.args.instance.arguments.now in
    let atoms = left_of c.args.consumed old.atoms in
    let said = put_for spot atoms old p in
    let large = sym (c.if-not-has_room.ensures (record old { atoms = atoms }) (numbered_left c.args.consumed old me.numbered) (room_left c.args.consumed old c.requires me.nodes me.counted) refl) in
    stays c.refused-then-not-has_room.result said old old (rejects c.refused-then-not-has_room.result spot R10 said c.refused-then-not-has_room.ensures
    (put_large spot atoms old p c.in_ok-atom.atom c.in_ok-atom.ensures.ok c.if-not-assn_fits.ensures large)) refl

pub returns-clause-follows : goal.returns-clause-follows
returns-clause-follows c =
    let me = c.args.known.now in
    let old = context_of me.state in
    let spot = c.args.instance.spot in
    let p = Inst c.args.instance.name.now c.args.instance.arguments.now in
    let s = c.args.consumed in
    let atoms = left_of s old.atoms in
    let room = sym (c.if-not-has_room.ensures (record old { atoms = atoms }) (numbered_left s old me.numbered) (room_left s old c.requires me.nodes me.counted) refl) in
    put_at spot atoms old p c.in_ok-atom.atom c.in_ok-atom.ensures.ok c.if-not-assn_fits.ensures room (record old { atoms = atoms }) refl
    ∙ ap ok_context (sym (c.take_out.ensures ∙ ap (older_left_in me.state.made s) c.in_ok-add_atoms.ensures.ok ∙ older_left s (flatten c.in_ok-atom.atom) old me.numbered))
