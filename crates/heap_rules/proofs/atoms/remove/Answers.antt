use Rattle.std.proofs.Common.{suc, sym, arith}
use Rattle.assn_laws.proofs.AtomLists.{none_at, without_new}
use Rattle.heap_rules.proofs.atoms.remove.Goals as goal

pub returns-then-number-from-clause-atom : goal.returns-then-number-from-clause-atom
returns-then-number-from-clause-atom c =
    sym (none_at (suc c.args.made) c.args.number c.args.atoms.now.entries (λ k d l. let h = c.requires k d l in omega arith) (omega arith))

pub returns-then-number-from-clause-left : goal.returns-then-number-from-clause-left
returns-then-number-from-clause-left c = sym (without_new c.args.made c.args.number c.args.atoms.now.entries c.requires (omega arith))
