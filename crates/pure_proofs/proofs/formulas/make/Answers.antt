use Rattle.std.proofs.Common.{◌≡◌, IfOk, MatchOption, true, false, sym, subst}
use Rattle.tht_tree.specs.Rules.Sizes.{formula_fits as fits}
use Rattle.pure_proofs.specs.Formulas.{made_of}
use Rattle.pure_proofs.proofs.formulas.make.Goals as goal

pub returns-in-PutIn : goal.returns-in-PutIn
returns-in-PutIn c =
    subst (λ f. IfOk c.with_one.result (λ o. MatchOption o (fits (made_of f) ≡ false) (λ t. (t ≡ made_of f) × (fits (made_of f) ≡ true)))) (sym c.in-PutIn.is) c.with_one.ensures
