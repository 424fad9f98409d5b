use Rattle.std.proofs.Common.{◌≡◌, sym, ◌∙◌, ap}
use Rattle.tht_tree.specs.declared.assn.Assn.TheVariants.{Star}
use Rattle.tht_tree.specs.Rules.Context.{context_of}
use Rattle.tht_logic.specs.Flatten.{flatten, with_assn}
use Rattle.heap_rules.proofs.AddedAtoms.{with_two, with_one, if_ok, if_err}
use Rattle.heap_rules.proofs.OlderAtoms.{keeps_same, keeps_then}
use Rattle.heap_rules.proofs.added.+add_each.Goals as goal

pub returns-in_ok-add_each-in-Star-clause-ok : goal.returns-in_ok-add_each-in-Star-clause-ok
returns-in_ok-add_each-in-Star-clause-ok t c =
    let p = c.into_inner.result in
    let q = c.into_inner-in-Star.result in
    let old = context_of c.args.known.now.state in
    let whole : c.args.assn ≡ Star p q = cc in
    let all : with_assn q (context_of c.add_each.new.known.state) ≡ with_assn c.args.assn old = ap (with_assn q) c.in_ok-add_each-in-Star.ensures.ok ∙ sym (with_two p q old) ∙ sym (ap (λ z. with_assn z old) whole) in
    if_ok c.add_each-in-Star.result _ _ (λ e. e ∙ all) c.add_each-in-Star.ensures.ok

pub returns-in_ok-add_each-in-Star-clause-err : goal.returns-in_ok-add_each-in-Star-clause-err
returns-in_ok-add_each-in-Star-clause-err t c =
    let old = context_of c.args.known.now.state in
    if_err c.add_each-in-Star.result _ _ (keeps_then (flatten c.into_inner.result) old (context_of c.add_each.new.known.state) (context_of c.add_each-in-Star.new.known.state) c.in_ok-add_each-in-Star.ensures.ok) c.add_each-in-Star.ensures.err

pub returns-in_default : goal.returns-in_default
returns-in_default t c =
    let old = context_of c.args.known.now.state in
    record {
      ok = if_ok c.add_atom.result _ _ (λ e. e ∙ sym (with_one c.args.assn old c.in_default.not-Emp c.in_default.not-Star)) c.add_atom.ensures.ok;
      err = if_err c.add_atom.result _ _ (keeps_same old (context_of c.add_atom.new.known.state)) c.add_atom.ensures.err;
      memory = c.add_atom.ensures.memory;
    }
