use Rattle.std.proofs.Common.{◌≡◌, ◌≤◌, sym, ◌∙◌, ap, subst, arith}
use Rattle.std.specs.Prelude.{All}
use Rattle.tht_tree.specs.declared.rule.RuleCode.TheVariants.{R10}
use Rattle.tht_logic.specs.Rules.Checking.{reject}
use Rattle.tht_tree.specs.Rules.Context.{context_of, context_nodes}
use Rattle.hoare_rules.specs.Steps.{free_context, freed}
use Rattle.assn_laws.proofs.AtomLists.{All-without}
use Rattle.hoare_rules.proofs.Agreeing.{freed_at, refuses_large}
use Rattle.hoare_rules.proofs.Exact.{free_left, too_large, is_counted}
use Rattle.hoare_rules.proofs.commands.take.Goals as goal

pub overflow_sub-nodes : goal.overflow_sub-nodes
overflow_sub-nodes c =
    let me = c.args.known.now in
    let found = c.in_ok-found.found in
    (free_left (context_of me.state) c.args.cell.number found.place.now found.value.now c.in_ok-found.ensures.cell me.nodes c.pair_size.result me.counted me.in_range c.pair_size.ensures).0

pub returns-then-not-context_is_within : goal.returns-then-not-context_is_within
returns-then-not-context_is_within c =
    let me = c.args.known.now in
    let old = context_of me.state in
    let cell = c.args.cell in
    let found = c.in_ok-found.found in
    let at = c.in_ok-found.ensures.cell in
    let left = free_left old cell.number found.place.now found.value.now at me.nodes c.pair_size.result me.counted me.in_range c.pair_size.ensures in
    let said : freed cell.spot old cell.number ≡ reject cell.spot R10 =
    freed_at cell.spot old cell.number found.place.now found.value.now at ∙ too_large cell.spot (free_context old cell.number) _ left.1 c.if-not-context_is_within.ensures in
    refuses_large c.refused.result cell.spot (freed cell.spot old cell.number) c.refused.ensures said

pub invariant_of-known : goal.invariant_of-known
invariant_of-known c =
    let me = c.args.known.now in
    let old = context_of me.state in
    let cell = c.args.cell in
    let found = c.in_ok-found.found in
    let at = c.in_ok-found.ensures.cell in
    let left = free_left old cell.number found.place.now found.value.now at me.nodes c.pair_size.result me.counted me.in_range c.pair_size.ensures in
    record {
      numbered = subst (All (λ x. x.0 ≤ me.state.made)) (sym c.take_atom.ensures) (All-without (λ x. x.0 ≤ me.state.made) cell.number me.state.atoms.entries me.numbered);
      counted = is_counted cell.spot (free_context old cell.number) _ left.1 c.if-not-context_is_within.ensures ∙ ap (λ es. context_nodes (record old { atoms = es })) (sym c.take_atom.ensures);
      in_range = omega (arith, me.in_range);
      made_in_range = me.made_in_range;
      placed = me.placed;
    }
