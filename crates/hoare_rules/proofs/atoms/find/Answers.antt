use Rattle.std.proofs.Common.{suc, sym, arith}
use Rattle.assn_laws.proofs.AtomLists.{none_at}
use Rattle.hoare_rules.proofs.atoms.find.Goals as goal

pub returns-then-number-from-clause-atom : goal.returns-then-number-from-clause-atom
returns-then-number-from-clause-atom c =
    sym (none_at (suc c.args.made) c.args.number c.args.atoms.now.entries (λ k d l. let h = c.requires k d l in omega arith) (omega arith))
