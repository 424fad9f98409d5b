use Rattle.std.proofs.Common.{◌≡◌, ap, sym, ◌∙◌, Some, None, slice_get, drop, take, List, [], ◌∷◌, ◌++◌}
use Rattle.std.specs.Option.{option_copied}
use Rattle.tht_tree.specs.declared.plain.Value.{Value}
use Rattle.code_form.specs.declared.walk.Turn.TheVariants as turn
use Rattle.code_form.specs.Codes.{means_of}
use Rattle.code_form.specs.Means.{names_of}
use Rattle.code_form.proofs.Turned.{turned_at, to_below, to_above, beyond, stays_plain}
use Rattle.code_form.proofs.walk.hop_from.Goals as goal

pub returns-then-next-at-clause-same : goal.returns-then-next-at-clause-same
returns-then-next-at-clause-same c =
    to_below (names_of c.args.code.now.bodies) c.args.code.now.nodes c.args.at c.in-Goes.next _ _ c.if-next-at.true
    (turned_at (names_of c.args.code.now.bodies) c.args.code.now.nodes c.args.at c.in-Some.node.now c.args.values.now.items c.as_slice.result.now c.env_at.result.now c.args.base (turn.Goes c.in-Goes.next) (sym c.get.ensures.value ∙ ap option_copied c.in-Some.is) c.as_slice.ensures.value c.env_at.ensures c.in-Goes.ensures)

pub returns-else-next-at-clause-same : goal.returns-else-next-at-clause-same
returns-else-next-at-clause-same c =
    to_above (names_of c.args.code.now.bodies) c.args.code.now.nodes c.args.at c.in-Goes.next _ _ c.if-next-at.false
    (turned_at (names_of c.args.code.now.bodies) c.args.code.now.nodes c.args.at c.in-Some.node.now c.args.values.now.items c.as_slice.result.now c.env_at.result.now c.args.base (turn.Goes c.in-Goes.next) (sym c.get.ensures.value ∙ ap option_copied c.in-Some.is) c.as_slice.ensures.value c.env_at.ensures c.in-Goes.ensures)

pub returns-then-next-at-2-clause-same : goal.returns-then-next-at-2-clause-same
returns-then-next-at-2-clause-same c =
    ap (means_of c.args.code.now c.in-Leaves.next) c.leave.ensures.env ∙
    to_below (names_of c.args.code.now.bodies) c.args.code.now.nodes c.args.at c.in-Leaves.next _ _ c.if-next-at-2.true
    (turned_at (names_of c.args.code.now.bodies) c.args.code.now.nodes c.args.at c.in-Some.node.now c.args.values.now.items c.as_slice.result.now c.env_at.result.now c.args.base (turn.Leaves c.in-Leaves.gone c.in-Leaves.next c.in-Leaves.v) (sym c.get.ensures.value ∙ ap option_copied c.in-Some.is) c.as_slice.ensures.value c.env_at.ensures c.in-Leaves.ensures)

pub returns-else-next-at-2-clause-same : goal.returns-else-next-at-2-clause-same
returns-else-next-at-2-clause-same c =
    to_above (names_of c.args.code.now.bodies) c.args.code.now.nodes c.args.at c.in-Leaves.next _ _ c.if-next-at-2.false
    (turned_at (names_of c.args.code.now.bodies) c.args.code.now.nodes c.args.at c.in-Some.node.now c.args.values.now.items c.as_slice.result.now c.env_at.result.now c.args.base (turn.Leaves c.in-Leaves.gone c.in-Leaves.next c.in-Leaves.v) (sym c.get.ensures.value ∙ ap option_copied c.in-Some.is) c.as_slice.ensures.value c.env_at.ensures c.in-Leaves.ensures)

pub returns-in-Gives-clause-same : goal.returns-in-Gives-clause-same
returns-in-Gives-clause-same c = turned_at (names_of c.args.code.now.bodies) c.args.code.now.nodes c.args.at c.in-Some.node.now c.args.values.now.items c.as_slice.result.now c.env_at.result.now c.args.base (turn.Gives c.in-Gives.v) (sym c.get.ensures.value ∙ ap option_copied c.in-Some.is) c.as_slice.ensures.value c.env_at.ensures c.in-Gives.ensures

pub returns-in-TooBig-clause-same : goal.returns-in-TooBig-clause-same
returns-in-TooBig-clause-same c = turned_at (names_of c.args.code.now.bodies) c.args.code.now.nodes c.args.at c.in-Some.node.now c.args.values.now.items c.as_slice.result.now c.env_at.result.now c.args.base turn.TooBig (sym c.get.ensures.value ∙ ap option_copied c.in-Some.is) c.as_slice.ensures.value c.env_at.ensures c.in-TooBig.ensures

pub returns-in-None-clause-same : goal.returns-in-None-clause-same
returns-in-None-clause-same c = beyond (names_of c.args.code.now.bodies) c.args.code.now.nodes c.args.at _ (sym c.get.ensures.value ∙ ap option_copied c.in-None.is)

pub returns-in-Stay-clause-plain : goal.returns-in-Stay-clause-plain
returns-in-Stay-clause-plain c = stays_plain (names_of c.args.code.now.bodies) c.args.code.now.nodes c.args.at c.in-Some.node.now c.env_at.result.now (sym c.get.ensures.value ∙ ap option_copied c.in-Some.is) c.in-Stay.ensures
