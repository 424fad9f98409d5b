use Rattle.std.proofs.Common.{◌∙◌, ap}
use Rattle.std.specs.BTreeMap.{get_by_text}
use Rattle.tht_tree.proofs.Scopes.{same_locals}
use Rattle.tht_tree.proofs.state.State.copy.Goals as goal

pub returns : goal.returns
returns c =
    let same = same_locals c.args.self.now.scope c.in_ok-scope.scope c.in_ok-scope.ensures.cases in
    ap (λ f. record { scope = f; hyps = c.in_ok-hyps.hyps; atoms = c.in_ok-atoms.atoms.entries; made = c.args.self.now.made }) same
    ∙ ap (λ h. record { scope = get_by_text c.args.self.now.scope; hyps = h; atoms = c.in_ok-atoms.atoms.entries; made = c.args.self.now.made }) (c.in_ok-hyps.ensures ∙ c.as_slice.ensures)
    ∙ ap (λ a. record { scope = get_by_text c.args.self.now.scope; hyps = c.args.self.now.hyps; atoms = a; made = c.args.self.now.made }) c.in_ok-atoms.ensures
