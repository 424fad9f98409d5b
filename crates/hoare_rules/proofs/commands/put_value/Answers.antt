use Rattle.std.proofs.Common.{◌≡◌, ◌^◌, ◌<◌, ◌≤◌, Ok, sym, ◌∙◌, ap, subst, arith}
use Rattle.std.specs.Prelude.{All}
use Rattle.tht_tree.specs.declared.assn.Assn.TheVariants.{Own}
use Rattle.tht_tree.specs.declared.rule.RuleCode.TheVariants.{R10}
use Rattle.tht_logic.specs.Rules.Checking.{unless_refused, if_fits, reject}
use Rattle.tht_tree.specs.Rules.Context.{context_of, context_nodes, with_atom}
use Rattle.tht_tree.specs.Rules.Refusals.{needs}
use Rattle.hoare_rules.specs.Steps.{write_context, written}
use Rattle.assn_laws.proofs.AtomLists.{All-with}
use Rattle.hoare_rules.proofs.Agreeing.{written_at, refuses_large}
use Rattle.hoare_rules.proofs.Exact.{value_within, write_left, too_large, is_counted, not_too_large}
use Rattle.hoare_rules.proofs.Numbers.{number_at}
use Rattle.hoare_rules.proofs.commands.put_value.Goals as goal

pub overflow_sub-known : goal.overflow_sub-known
overflow_sub-known c =
    let me = c.args.known.now in
    let old = context_of me.state in
    let found = c.in_ok-found.found in
    value_within old c.args.cell.number found.place.now found.value.now c.in_ok-found.ensures.cell me.nodes c.term_size.result me.counted c.term_size.ensures

pub returns-then-not-context_is_within : goal.returns-then-not-context_is_within
returns-then-not-context_is_within c =
    let me = c.args.known.now in
    let old = context_of me.state in
    let cell = c.args.cell in
    let found = c.in_ok-found.found in
    let place = found.place.now in
    let value = c.args.value.now in
    let at = c.in_ok-found.ensures.cell in
    let nodes = c.saturating_add-nodes.result in
    let new = write_context old cell.number place value in
    let left =
    write_left old cell.number place found.value.now at value c.ascend.ensures me.nodes c.term_size.result c.term_size-2.result nodes
    me.counted me.in_range c.term_size.ensures c.term_size-2.ensures c.saturating_add-nodes.ensures in
    let said : written cell.spot old cell.number value ≡ reject cell.spot R10 =
    written_at cell.spot old cell.number place found.value.now at value
    ∙ ap (λ b. unless_refused (needs cell.spot R10 b) (if_fits cell.spot new)) (sym c.if-not-pair_fits.ensures.cell)
    ∙ too_large cell.spot new nodes left c.if-not-context_is_within.ensures in
    refuses_large c.refused-then-not-context_is_within.result cell.spot (written cell.spot old cell.number value) c.refused-then-not-context_is_within.ensures said

pub invariant_of-known : goal.invariant_of-known
invariant_of-known c =
    let me = c.args.known.now in
    let old = context_of me.state in
    let cell = c.args.cell in
    let found = c.in_ok-found.found in
    let place = found.place.now in
    let value = c.args.value.now in
    let at = c.in_ok-found.ensures.cell in
    let nodes = c.saturating_add-nodes.result in
    let new = write_context old cell.number place value in
    let left =
    write_left old cell.number place found.value.now at value c.ascend.ensures me.nodes c.term_size.result c.term_size-2.result nodes
    me.counted me.in_range c.term_size.ensures c.term_size-2.ensures c.saturating_add-nodes.ensures in
    let same : c.set_cell_value.new.atoms.entries ≡ with_atom cell.number (Own place value) me.state.atoms.entries =
    c.set_cell_value.ensures place found.value.now at ∙ ap (λ t. with_atom cell.number (Own place t) me.state.atoms.entries) (c.in_ok-value-2.ensures ∙ c.in_ok-value.ensures) in
    record {
      numbered = subst (All (λ x. x.0 ≤ me.state.made)) (sym same) (All-with (λ x. x.0 ≤ me.state.made) cell.number (Own place value) me.state.atoms.entries me.numbered (number_at me.state.made cell.number (Own place found.value.now) me.state.atoms.entries me.numbered at));
      counted = is_counted cell.spot new nodes left c.if-not-context_is_within.ensures ∙ ap (λ es. context_nodes (record old { atoms = es })) (sym same);
      in_range = omega (arith, left);
      made_in_range = me.made_in_range;
      placed = me.placed;
    }

pub returns : goal.returns
returns c =
    let me = c.args.known.now in
    let old = context_of me.state in
    let cell = c.args.cell in
    let found = c.in_ok-found.found in
    let place = found.place.now in
    let value = c.args.value.now in
    let at = c.in_ok-found.ensures.cell in
    let nodes = c.saturating_add-nodes.result in
    let new = write_context old cell.number place value in
    let left =
    write_left old cell.number place found.value.now at value c.ascend.ensures me.nodes c.term_size.result c.term_size-2.result nodes
    me.counted me.in_range c.term_size.ensures c.term_size-2.ensures c.saturating_add-nodes.ensures in
    let same : c.set_cell_value.new.atoms.entries ≡ with_atom cell.number (Own place value) me.state.atoms.entries =
    c.set_cell_value.ensures place found.value.now at ∙ ap (λ t. with_atom cell.number (Own place t) me.state.atoms.entries) (c.in_ok-value-2.ensures ∙ c.in_ok-value.ensures) in
    let below : me.state.made < 2 ^ 32 = omega arith in
    written_at cell.spot old cell.number place found.value.now at value
    ∙ ap (λ b. unless_refused (needs cell.spot R10 b) (if_fits cell.spot new)) (sym c.if-not-pair_fits.ensures.cell)
    ∙ not_too_large cell.spot new nodes left below c.if-not-context_is_within.ensures
    ∙ ap (λ es. Ok (record old { atoms = es })) (sym same)
