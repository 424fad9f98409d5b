use Rattle.std.proofs.Common.{◌≡◌, ◌+◌, ◌<◌, ◌^◌, length, refl, subst}
use Rattle.std.specs.Prelude.{OnOk}
use Rattle.tht_tree.specs.Rules.Context.{context_of}
use Rattle.tht_logic.specs.Flatten.{with_atoms}
use Rattle.tht_logic.specs.Rules.Commands.{new_cells, after_alloc}
use Rattle.hoare_rules.specs.Steps.{alloc_context}
use Rattle.hoare_rules.proofs.Agreeing.{refuses_large}
use Rattle.hoare_rules.proofs.Following.{made_says}
use Rattle.hoare_rules.proofs.NewCells.{all_too_large, all_too_many, all_fit, no_numbers}
use Rattle.hoare_rules.proofs.allocs.allocate.Goals as goal

pub returns-then-not-context_is_within : goal.returns-then-not-context_is_within
returns-then-not-context_is_within c =
    let me = c.args.known.now in
    let old = context_of me.state in
    let spot = c.args.spot in
    let x = c.args.name.now in
    let ts = c.args.values.now in
    refuses_large c.refused-then-not-context_is_within.result spot (after_alloc spot old x ts) c.refused-then-not-context_is_within.ensures
    (all_too_large spot old x ts (c.if-not-cells_fit.ensures x) me.numbered me.nodes c.cells_size.result c.saturating_add.result
    me.counted (c.cells_size.ensures x) c.saturating_add.ensures c.if-not-context_is_within.ensures)

pub returns-then-not-are_numbers : goal.returns-then-not-are_numbers
returns-then-not-are_numbers c =
    let me = c.args.known.now in
    let old = context_of me.state in
    let spot = c.args.spot in
    let x = c.args.name.now in
    let ts = c.args.values.now in
    refuses_large c.refused-then-not-are_numbers.result spot (after_alloc spot old x ts) c.refused-then-not-are_numbers.ensures
    (all_too_many spot old x ts (c.if-not-cells_fit.ensures x) (no_numbers (me.state.made + length ts) c.if-not-are_numbers.ensures))

pub returns : goal.returns
returns c =
    let me = c.args.known.now in
    let old = context_of me.state in
    let spot = c.args.spot in
    let x = c.args.name.now in
    let ts = c.args.values.now in
    let new = context_of c.add_cells.new.known.state in
    let few : me.state.made + length ts < 2 ^ 32 = c.if-not-are_numbers.ensures.0 refl in
    made_says c.add_cells.result (after_alloc spot old x ts) (alloc_context old x ts) new
    (all_fit spot old x ts (c.if-not-cells_fit.ensures x) me.numbered me.nodes c.cells_size.result c.saturating_add.result
    me.counted (c.cells_size.ensures x) c.saturating_add.ensures few c.if-not-context_is_within.ensures)
    (subst (λ s. OnOk c.add_cells.result (new ≡ with_atoms (new_cells x 0 ts) (record old { scope = s }))) c.in_ok-bind.ensures.ok c.add_cells.ensures.ok)
    c.add_cells.ensures.memory
