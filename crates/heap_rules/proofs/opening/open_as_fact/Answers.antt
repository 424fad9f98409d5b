use Rattle.std.proofs.Common.{refl, sym, ◌∙◌, ap}
use Rattle.tht_tree.specs.declared.rule.RuleCode.TheVariants.{R10}
use Rattle.tht_tree.specs.Rules.Context.{context_of}
use Rattle.tht_tree.specs.Rules.Known.{with_hyp}
use Rattle.tht_logic.specs.Rules.Checking.{on_ok}
use Rattle.heap_rules.specs.Changes.{less}
use Rattle.heap_rules.specs.Stages.{atom_found, formula_of, opened_as_fact}
use Rattle.heap_rules.proofs.Answering.{rejects, stays, goes_on, ok_context}
use Rattle.heap_rules.proofs.HypSizes.{put_hyp, put_fits, put_fails}
use Rattle.heap_rules.proofs.opening.open_as_fact.Goals as goal

pub returns-then-not-hyp_has_room-clause-follows : goal.returns-then-not-hyp_has_room-clause-follows
returns-then-not-hyp_has_room-clause-follows c =
    let me = c.args.known.now in
    let old = context_of me.state in
    let name = c.args.name.now in
    let left = less c.args.number old in
    let t = c.in_ok-formula.formula.now in
    let found = on_ok (atom_found c.args.spot old c.args.number) (formula_of c.args.spot) in
    let said = opened_as_fact c.args.spot old c.args.number name in
    let large = sym (c.if-not-hyp_has_room.ensures left name (sym c.nodes_without.ensures) me.made_in_range) in
    stays c.refused.result said old old (rejects c.refused.result c.args.spot R10 said c.refused.ensures
    (goes_on found (λ u. put_hyp c.args.spot left name u) t c.in_ok-formula.ensures ∙ put_fails c.args.spot left name t large)) refl

pub returns-clause-follows : goal.returns-clause-follows
returns-clause-follows c =
    let me = c.args.known.now in
    let old = context_of me.state in
    let name = c.args.name.now in
    let i = c.args.number in
    let left = less i old in
    let t = c.in_ok-formula.formula.now in
    let found = on_ok (atom_found c.args.spot old i) (formula_of c.args.spot) in
    let fits = sym (c.if-not-hyp_has_room.ensures left name (sym c.nodes_without.ensures) me.made_in_range) in
    goes_on found (λ u. put_hyp c.args.spot left name u) t c.in_ok-formula.ensures ∙ put_fits c.args.spot left name t fits
    ∙ ap ok_context (sym (c.take_atom.ensures.left ∙ ap (less i) c.in_ok-add.ensures.ok ∙ ap (λ h. with_hyp left h.name h.formula) c.in_ok-hyp.ensures.ok))
