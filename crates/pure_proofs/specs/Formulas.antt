-- The formula that is made of parts.
use Rattle.std.specs.Prelude.{[], ◌∷◌}
use Rattle.tht_tree.specs.declared.term.Term.{Term}
use Rattle.tht_tree.specs.declared.term.Term.TheVariants as term
use Rattle.tht_tree.specs.Normal.Putting.{put_in}
use Rattle.pure_proofs.specs.declared.formulas.Formula.{Formula}
use Rattle.pure_proofs.specs.declared.formulas.Formula.TheVariants as form

abbrev pub made_of : Formula → Term
made_of (form.Given u) = u.now
made_of (form.Falsehood) = term.False
made_of (form.Equation a b) = term.Eq a.now b.now
made_of (form.AtMost a b) = term.Le a.now b.now
made_of (form.Conjunction a b) = term.And a.now b.now
made_of (form.Implication a b) = term.Imp a.now b.now
made_of (form.Negation a) = term.Not a.now
made_of (form.Conses x s y u) = term.Eq (term.Cons x.now s.now) (term.Cons y.now u.now)
made_of (form.PutIn x s u) = put_in ((x.now, s.now) ∷ []) u.now
