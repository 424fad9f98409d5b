-- Linear certificates: the facts are added up with the negation of the goal, and must refute it.
use Rattle.std.specs.Prelude.{ℕ, List, [], ◌∷◌, map, Option, Some, None, Result, Ok, Err, is_some, if◌then◌else◌}
use Rattle.tht_tree.specs.declared.plain.Sort.TheVariants as sort
use Rattle.tht_tree.specs.declared.term.Term.{Term, out-Term}
use Rattle.tht_tree.specs.declared.term.Term.TheOpen as t
use Rattle.tht_tree.specs.Syntax.{Names}
use Rattle.tht_tree.specs.Rules.Context.{Scope}
use Rattle.tht_tree.specs.Rules.Scoping.{is_of, sort_of}
use Rattle.tht_tree.specs.declared.form.NormalEnd.{NormalEnd}
use Rattle.tht_tree.specs.declared.form.NormalEnd.TheVariants.{Wide}
use Rattle.tht_tree.specs.declared.form.Comparison.{Comparison}
use Rattle.tht_tree.specs.Normal.Linear.{at_most, below, comparison_of, Reading, reading}
use Rattle.tht_tree.specs.declared.rule.RuleCode.{RuleCode}
use Rattle.tht_tree.specs.declared.rule.RuleCode.TheVariants.{R7, R10}
use Rattle.tht_tree.specs.Rules.Shapes.{as_equation}
use Rattle.tht_tree.specs.Rules.Inequalities.{Row, refused_rows}

-- ---- goals

-- What is denied: a goal that is a comparison, by its negation; the goal `false` by nothing. An equation of numbers is proved as
-- two comparisons.
pub data Aim : Type 0 where
  denial : Option Comparison → Aim
  equal : Term → Term → Aim

abbrev pub aim_at : Names → Scope → t.Term-F Term → Option Aim
aim_at roots scope (t.Le a b) = Some (denial (Some (below b a)))
aim_at roots scope (t.Lt a b) = Some (denial (Some (at_most b a)))
aim_at roots scope t.False = Some (denial None)
aim_at roots scope (t.Eq a b) = if is_of sort.Nat (sort_of roots scope a) then Some (equal a b) else None
aim_at roots scope _ = None

abbrev pub aim_of : Names → Scope → Term → Option Aim
aim_of roots scope goal = aim_at roots scope (out-Term goal)

-- ---- facts

-- the comparison that a fact is read as; for a goal that is an equation it must be one too
abbrev pub fact_of : Names → Scope → Aim → Term → Option Comparison
fact_of roots scope (denial c) u = comparison_of roots scope u
fact_of roots scope (equal a b) u = if is_some (as_equation u) then comparison_of roots scope u else None

-- a fact with its multiplier
pub record Fact : Type 0 where
  pub by : ℕ
  pub comparison : Comparison

-- the two sides of an equation, turned round
abbrev pub turned : Fact → Fact
turned f = record f { comparison = at_most f.comparison.right f.comparison.left }

-- ---- certificates

-- a row before others; the first whose inequality cannot be made counts
abbrev pub with_row : ℕ → Reading → Result (List Row) NormalEnd → Result (List Row) NormalEnd
with_row k (Ok form) (Ok rows) = Ok (record { by = k; form = form } ∷ rows)
with_row k (Ok form) (Err e) = Err e
with_row k (Err e) rows = Err e

abbrev pub fact_rows : Scope → List Fact → Result (List Row) NormalEnd
fact_rows scope [] = Ok []
fact_rows scope (f ∷ fs) = with_row f.by (reading scope f.comparison) (fact_rows scope fs)

-- the form of what is denied: where nothing is, the one that is 0
abbrev pub denied : Scope → Option Comparison → Reading
denied scope None = Ok []
denied scope (Some c) = reading scope c

-- R10, R7: the code of a term that has no normal form, or of an inequality that cannot be made
abbrev pub end_code : NormalEnd → RuleCode
end_code Wide = R7
end_code _ = R10

abbrev pub refused_if_read : Result (List Row) NormalEnd → Option RuleCode
refused_if_read (Ok rows) = refused_rows rows
refused_if_read (Err e) = Some (end_code e)

-- what is refused of what is denied, with the multiplier k, and of the facts
abbrev pub refused_certificate : Scope → ℕ → Option Comparison → List Fact → Option RuleCode
refused_certificate scope k c facts = refused_if_read (with_row k (denied scope c) (fact_rows scope facts))
