-- What is answered of readings, by what is answered of their sides.
use Rattle.std.proofs.Common.{◌≡◌, inl, inr, Result, Ok, Err, refl, sym, ap, subst}
use Rattle.tht_tree.specs.declared.form.Form.{Form}
use Rattle.tht_tree.specs.declared.form.NormalEnd.{NormalEnd}
use Rattle.tht_tree.specs.declared.form.NormalEnd.TheVariants as end
use Rattle.tht_tree.specs.Normal.Forms.{Answer}
use Rattle.tht_tree.specs.Normal.Linear.{Inequality, Reading, with_form}
use Rattle.pure_terms.specs.Answers.{IsAnswer}
use Rattle.pure_terms.specs.Readings.{IsReading}

-- where memory is wanting, nothing is said
pub no_reading : (e : NormalEnd) (r : Reading) → e ≡ end.Memory → IsReading (Err e) r
no_reading e r h = subst (λ z. IsReading (Err z) r) (sym h) tt

-- an end is the reading that is said of it
own_end : (e : NormalEnd) → IsReading (Err e) (Err e)
own_end end.Large = refl
own_end end.Wide = refl
own_end end.Memory = tt

-- the end of a side is the end of the whole
pub side_end : (e : NormalEnd) (a : Answer) (make : Form → Reading) → IsAnswer (Err e) a → IsReading (Err e) (with_form a make)
side_end e a make (inl h) = no_reading e (with_form a make) h
side_end e a make (inr h) = subst (λ (z : Answer). IsReading (Err e) (with_form z make)) (sym h) (own_end e)

pub side_made : (r : Result Inequality NormalEnd) (m : Form) (a : Answer) (make : Form → Reading) → IsAnswer (Ok m) a → IsReading r (make m) → IsReading r (with_form a make)
side_made r m a make h k = subst (IsReading r) (sym (ap (λ z. with_form z make) h.0)) k
