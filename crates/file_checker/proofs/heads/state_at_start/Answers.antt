use Rattle.std.proofs.Common.{rules, ◌≡◌, Err, sym, ap, subst}
use Rattle.tht_tree.specs.Rules.Context.{context_of}
use Rattle.tht_logic.specs.Rules.Files.{at_start}
use Rattle.hoare_rules.specs.Cells.{MakesState}
use Rattle.file_checker.proofs.Starting.{not_added, starts}
use Rattle.file_checker.proofs.heads.state_at_start.Goals as goal

pub returns-in_err-add_assn : goal.returns-in_err-add_assn
returns-in_err-add_assn c =
    let e = c.in_err-add_assn.field-0.0 in
    let stopped = not_added c.args.spot c.args.head.now c.if-not-assn_fits.ensures (context_of c.in_ok-known.known.state) c.in_ok-known.ensures.ok e c.in_err-add_assn.ensures in
    let is : c.from_residual-in_err-add_assn.result ≡ Err e = search rules in
    subst (λ r. MakesState r (at_start c.args.spot c.args.head.now)) (sym is) stopped

pub returns : goal.returns
returns c =
    starts c.args.spot c.args.head.now c.if-not-assn_fits.ensures (context_of c.in_ok-known.known.state) c.in_ok-known.ensures.ok (context_of c.add_assn.new.known.state) (context_of c.into_state.result)
    c.in_ok-add_assn.ensures (ap context_of c.into_state.ensures)
