use Rattle.std.proofs.Common.{◌≡◌, refl, sym, subst}
use Rattle.std.specs.Prelude.{OnOk}
use Rattle.tht_tree.specs.Rules.Context.{context_of}
use Rattle.tht_logic.specs.Flatten.{with_assn}
use Rattle.file_checker.proofs.Starting.{added, no_room}
use Rattle.file_checker.proofs.heads.add_assn.Goals as goal

pub returns-then-not-has_room : goal.returns-then-not-has_room
returns-then-not-has_room c =
    let me = c.args.known.now in
    let old = context_of me.state in
    no_room c.args.spot old c.args.assn.now c.refused.result c.refused.ensures (c.if-not-has_room.ensures old me.numbered (sym me.counted) refl)

pub returns : goal.returns
returns c =
    let me = c.args.known.now in
    let old = context_of me.state in
    let now = context_of c.add_atoms.new.known.state in
    added c.args.spot old c.args.assn.now c.add_atoms.result now (c.if-not-has_room.ensures old me.numbered (sym me.counted) refl)
    (subst (λ p. OnOk c.add_atoms.result (now ≡ with_assn p old)) c.in_ok-copy.ensures c.add_atoms.ensures.ok)
    c.add_atoms.ensures.memory
