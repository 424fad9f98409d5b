use Rattle.std.proofs.Common.{rules, ◌≡◌, sym, ◌∙◌, ap, subst}
use Rattle.tht_tree.specs.declared.term.Term.TheVariants.{Eq, Cons, Var}
use Rattle.tht_tree.specs.Rules.Context.{Context, context_of}
use Rattle.tht_logic.specs.Rules.Bodies.{assuming}
use Rattle.hoare_rules.specs.Branches.{with_parts}
use Rattle.hoare_rules.specs.Cells.{Says}
use Rattle.hoare_rules.proofs.Branching.{assuming_same}
use Rattle.hoare_rules.proofs.branches.assume_link.Goals as goal

pub returns : goal.returns
returns c =
    let said : Says c.suppose.result (assuming c.args.spot (context_of c.bind_parts.new.known.state) c.args.case.hyp.now (Eq c.in_ok-term.term c.in_ok-link.link)) (context_of c.suppose.new.known.state) = c.suppose.ensures in
    let hyp = c.args.case.hyp.now in
    let now = context_of c.suppose.new.known.state in
    let parts = with_parts (context_of c.args.known.now.state) c.args.head.now c.args.tail.now in
    let link = Cons (Var c.args.head.now) (Var c.args.tail.now) in
    let term_is : c.in_ok-term.term ≡ c.args.case.term.now = search rules in
    let link_is : c.in_ok-link.link ≡ link = c.in_ok-link.ensures.ok in
    let same : Eq c.in_ok-term.term c.in_ok-link.link ≡ Eq c.args.case.term.now link = ap (λ t. Eq t c.in_ok-link.link) term_is ∙ ap (λ l. Eq c.args.case.term.now l) link_is in
    let known : context_of c.bind_parts.new.known.state ≡ parts = c.in_ok-bind_parts.ensures.ok in
    assuming_same c.suppose.result c.args.spot parts hyp _ _ now same (subst (λ k. Says c.suppose.result (assuming c.args.spot k hyp (Eq c.in_ok-term.term c.in_ok-link.link)) now) known said)
