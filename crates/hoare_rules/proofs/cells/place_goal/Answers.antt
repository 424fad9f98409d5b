use Rattle.tht_tree.specs.Rules.Context.{context_of}
use Rattle.hoare_rules.proofs.Agreeing.{goal_made}
use Rattle.hoare_rules.proofs.cells.place_goal.Goals as goal

pub returns : goal.returns
returns c =
    goal_made c.args.cell c.args.wanted (context_of c.args.state.now) c.in_ok-found.found.place.now c.in_ok-found.found.value.now c.in_ok-found.ensures.cell c.equation.result
    c.in_ok-need_sort.ensures c.equation.ensures
