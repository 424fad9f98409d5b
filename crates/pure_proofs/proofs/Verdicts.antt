-- What is refused of what has no normal form, or cannot be read.
use Rattle.std.proofs.Common.{◌≡◌, ℕ, List, Option, Result, Err, IfOk, inl, inr, sym, ◌∙◌, ap, subst}
use Rattle.std.proofs.lemmas.Result.{IfOk-weaker}
use Rattle.tht_tree.specs.declared.form.NormalEnd.{NormalEnd}
use Rattle.tht_tree.specs.declared.form.NormalEnd.TheVariants as end
use Rattle.tht_tree.specs.declared.plain.Memory.{Memory}
use Rattle.tht_tree.specs.declared.plain.Spot.{Spot}
use Rattle.tht_tree.specs.declared.rule.RuleRefusal.{RuleRefusal}
use Rattle.tht_tree.specs.declared.term.Term.{Term}
use Rattle.tht_tree.specs.Normal.Linear.{Reading}
use Rattle.tht_tree.specs.Rules.Certificates.{with_row, refused_if_read}
use Rattle.tht_tree.specs.Rules.Inequalities.{Row}
use Rattle.tht_tree.specs.Rules.Proofs.{needs_normal}
use Rattle.tht_tree.specs.Rules.Refusals.{refused_as}
use Rattle.pure_terms.specs.Answers.{IsTermAnswer}
use Rattle.pure_terms.specs.Readings.{IsReading}
use Rattle.pure_proofs.specs.Rows.{rows_before, AreRows}
use Rattle.pure_proofs.specs.Verdicts.{IsEndOf}

normal_ended : (d : NormalEnd) (spot : Spot) (n : Result Term NormalEnd) (go : Term → Option RuleRefusal) (r : Option RuleRefusal) → IsTermAnswer (Err d) n → IsEndOf d spot r
    → r ≡ needs_normal spot n go
normal_ended end.Large spot n go r (inl m) e = cc
normal_ended end.Large spot n go r (inr h) e = e ∙ sym (ap (λ z. needs_normal spot z go) h)
normal_ended end.Wide spot n go r (inl m) e = cc
normal_ended end.Wide spot n go r (inr h) e = e ∙ sym (ap (λ z. needs_normal spot z go) h)
normal_ended end.Memory spot n go r h e = absurd e

rows_ended : (d : NormalEnd) (spot : Spot) (w : Result (List Row) NormalEnd) (r : Option RuleRefusal) → AreRows (Err d) w → IsEndOf d spot r → r ≡ refused_as spot (refused_if_read w)
rows_ended end.Large spot w r h e = e ∙ sym (ap (λ z. refused_as spot (refused_if_read z)) h)
rows_ended end.Wide spot w r h e = e ∙ sym (ap (λ z. refused_as spot (refused_if_read z)) h)
rows_ended end.Memory spot w r h e = absurd e

-- the same of a verdict
abbrev Verdict : Type 0
Verdict = Result (Option RuleRefusal) Memory

pub normal_end : (v : Verdict) (d : NormalEnd) (spot : Spot) (n : Result Term NormalEnd) (go : Term → Option RuleRefusal) → IsTermAnswer (Err d) n → IfOk v (λ r. IsEndOf d spot r)
    → IfOk v (λ r. r ≡ needs_normal spot n go)
normal_end v d spot n go h = IfOk-weaker v (λ r. IsEndOf d spot r) (λ r. r ≡ needs_normal spot n go) (λ r e. normal_ended d spot n go r h e)

pub rows_end : (v : Verdict) (d : NormalEnd) (spot : Spot) (w : Result (List Row) NormalEnd) → AreRows (Err d) w → IfOk v (λ r. IsEndOf d spot r)
    → IfOk v (λ r. r ≡ refused_as spot (refused_if_read w))
rows_end v d spot w h = IfOk-weaker v (λ r. IsEndOf d spot r) (λ r. r ≡ refused_as spot (refused_if_read w)) (λ r e. rows_ended d spot w r h e)

-- the first that cannot be read counts
pub row_ended : (d : NormalEnd) (rs : List Row) (k : ℕ) (r : Reading) (rest : Result (List Row) NormalEnd) → IsReading (Err d) r → AreRows (Err d) (rows_before rs (with_row k r rest))
row_ended end.Large rs k r rest h = ap (λ z. rows_before rs (with_row k z rest)) h
row_ended end.Wide rs k r rest h = ap (λ z. rows_before rs (with_row k z rest)) h
row_ended end.Memory rs k r rest h = tt

pub first_ended : (d : NormalEnd) (k : ℕ) (r : Reading) (rest : Result (List Row) NormalEnd) → IsReading (Err d) r → AreRows (Err d) (with_row k r rest)
first_ended end.Large k r rest h = ap (λ z. with_row k z rest) h
first_ended end.Wide k r rest h = ap (λ z. with_row k z rest) h
first_ended end.Memory k r rest h = tt

-- want of memory
pub no_rows : (d : NormalEnd) (w : Result (List Row) NormalEnd) → d ≡ end.Memory → AreRows (Err d) w
no_rows d w e = subst (λ z. AreRows (Err z) w) (sym e) tt

pub no_reading : (d : NormalEnd) (r : Reading) → d ≡ end.Memory → IsReading (Err d) r
no_reading d r e = subst (λ z. IsReading (Err z) r) (sym e) tt
