use Rattle.std.proofs.Common.{◌∙◌, ap, sym}
use Rattle.std.specs.Map.{set_value}
use Rattle.std.specs.BTreeMap.{is_at}
use Rattle.std.specs.Ordering.{nat_cmp}
use Rattle.assn_laws.proofs.AtomLists.{ascends_from, with_value}
use Rattle.heap_rules.proofs.atoms.replace.Goals as goal

pub returns-in-Some : goal.returns-in-Some
returns-in-Some c =
    let atoms = c.args.atoms.now.entries in
    (c.get_mut.follows.holds c.replace.new.dest).0 ∙ ap (λ p. set_value (is_at (nat_cmp c.args.number)) atoms p) c.replace.ensures.after ∙ with_value c.args.number c.args.atom c.in-Some.held.now atoms (ascends_from atoms c.in-Some.ensures.ordered) (sym c.in-Some.ensures.value)
