use Rattle.std.proofs.Common.{◌≡◌, ◌∙◌, ap}
use Rattle.tht_tree.specs.declared.assn.Assn.TheVariants.{Own}
use Rattle.tht_tree.specs.Rules.Context.{with_atom}
use Rattle.assn_laws.proofs.AtomLists.{ascends_from, with_value}
use Rattle.assn_laws.proofs.Answers.{some_same}
use Rattle.hoare_rules.proofs.atoms.set_cell_value.Goals as goal

pub returns-in-Some : goal.returns-in-Some
returns-in-Some c =
    λ at was e.
    let atoms = c.args.atoms.now.entries in
    let found : c.in-Some.atom.now ≡ Own at was = some_same c.in-Some.atom.now (Own at was) (c.in-Some.ensures.value ∙ e) in
    let new : c.set_value.new.atom ≡ Own at c.args.value = c.set_value.ensures at was found in
    (c.get_mut.follows.holds c.set_value.new.atom).0
    ∙ with_value c.args.number c.set_value.new.atom (Own at was) atoms (ascends_from atoms c.in-Some.ensures.ordered) e
    ∙ ap (λ a. with_atom c.args.number a atoms) new
