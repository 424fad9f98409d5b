-- The answers of rules, one after another.
use Rattle.std.specs.Prelude.{Bool, Option, Some, None, Result, Ok, Err}
use Rattle.tht_tree.specs.declared.plain.Spot.{Spot}
use Rattle.tht_tree.specs.declared.rule.RuleCode.{RuleCode}
use Rattle.tht_tree.specs.declared.rule.RuleCode.TheVariants.{R10}
use Rattle.tht_tree.specs.declared.rule.RuleRefusal.{RuleRefusal}
use Rattle.tht_tree.specs.declared.form.PutEnd.{PutEnd}
use Rattle.tht_tree.specs.Rules.Context.{Context, context_fits}
use Rattle.tht_tree.specs.Rules.Refusals.{needs}

-- what a rule makes, or the first that it refuses
abbrev pub Checked : Type 0 → Type 0
Checked A = Result A RuleRefusal

abbrev pub reject : {A : Type 0} → Spot → RuleCode → Checked A
reject spot code = Err (record { spot = spot; code = code })

-- this answer, where nothing is refused before
abbrev pub unless_refused : {A : Type 0} → Option RuleRefusal → Checked A → Checked A
unless_refused None answer = answer
unless_refused (Some r) answer = Err r

-- goes on with what is there
abbrev pub on_some : {A B : Type 0} → Spot → RuleCode → Option A → (A → Checked B) → Checked B
on_some spot code None go = reject spot code
on_some spot code (Some x) go = go x

-- goes on with what is made
abbrev pub on_ok : {A B : Type 0} → Checked A → (A → Checked B) → Checked B
on_ok (Ok x) go = go x
on_ok (Err r) go = Err r

-- goes on where something holds
abbrev pub on_true : {A : Type 0} → Spot → RuleCode → Bool → Checked A → Checked A
on_true spot code holds answer = unless_refused (needs spot code holds) answer

-- what putting in makes, which is refused where it is too large
abbrev pub put_or_refused : {A : Type 0} → Spot → Result A PutEnd → Checked A
put_or_refused spot (Ok x) = Ok x
put_or_refused spot (Err e) = reject spot R10

-- what is known, if it is within the limits of a context
abbrev pub if_fits : Spot → Context → Checked Context
if_fits spot c = on_true spot R10 (context_fits c) (Ok c)

-- the first refusal of a check, or else of what goes on with what it makes
abbrev pub and_then : {A : Type 0} → Checked A → (A → Option RuleRefusal) → Option RuleRefusal
and_then (Ok x) go = go x
and_then (Err r) go = Some r
