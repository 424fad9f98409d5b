-- The forms of two parts, by the operation on them.
use Rattle.std.specs.Prelude.{Ok, ◌∷◌, ◌++◌}
use Rattle.tht_tree.specs.declared.form.Form.{Form}
use Rattle.tht_tree.specs.declared.form.Form.TheVariants as form
use Rattle.tht_tree.specs.declared.form.Item.TheVariants.{One}
use Rattle.tht_tree.specs.Normal.Sums.{plus, minus}
use Rattle.tht_tree.specs.Normal.Forms.{Answer, sum_in, items_in, formula_in, within, product_within, truth, and_by, or_by, imp_by, equation, less, at_most}
use Rattle.pure_terms.specs.declared.normalize.Op.{Op}
use Rattle.pure_terms.specs.declared.normalize.Op.TheVariants as op

abbrev pub combined : Op → Form → Form → Answer
combined op.Mul m n = product_within (sum_in m) (sum_in n)
combined op.Add m n = within (plus (sum_in m) (sum_in n))
combined op.Sub m n = within (minus (sum_in m) (sum_in n))
combined op.Cons m n = Ok (form.Seq (One (sum_in m) ∷ items_in n))
combined op.Cat m n = Ok (form.Seq (items_in m ++ items_in n))
combined op.Eq m n = Ok (form.Bool (equation m n))
combined op.Lt m n = Ok (form.Bool (less (sum_in m) (sum_in n)))
combined op.Le m n = Ok (form.Bool (at_most (sum_in m) (sum_in n)))
combined op.And m n = Ok (form.Bool (and_by (truth (formula_in m)) (truth (formula_in n)) (formula_in m) (formula_in n)))
combined op.Or m n = Ok (form.Bool (or_by (truth (formula_in m)) (truth (formula_in n)) (formula_in m) (formula_in n)))
combined op.Imp m n = Ok (form.Bool (imp_by (truth (formula_in m)) (truth (formula_in n)) (formula_in m) (formula_in n)))
