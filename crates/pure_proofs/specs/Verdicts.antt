-- What is answered to a proof: what the rules say, unless memory was wanting.
use Rattle.std.specs.Prelude.{◌≡◌, Option, Some, None, Result, Ok, Err}
use Rattle.tht_tree.specs.declared.form.NormalEnd.{NormalEnd}
use Rattle.tht_tree.specs.declared.form.NormalEnd.TheVariants as end
use Rattle.tht_tree.specs.declared.plain.Spot.{Spot}
use Rattle.tht_tree.specs.declared.rule.RuleRefusal.{RuleRefusal}
use Rattle.tht_tree.specs.Syntax.{Names}
use Rattle.tht_tree.specs.Rules.Certificates.{end_code}
use Rattle.tht_tree.specs.Rules.Known.{Declared}
use Rattle.tht_tree.specs.Rules.Refusals.{refuse}
use Rattle.pure_proofs.specs.declared.refusal.Refusal.{Refusal}
use Rattle.pure_proofs.specs.declared.refusal.Refusal.TheVariants.{Rule, Memory}

-- refused for the reason that the rules have
abbrev pub IsStop : Refusal → Option RuleRefusal → Type 0
IsStop (Rule r) said = said ≡ Some r
IsStop Memory said = Unit {0}

-- refused exactly where the rules refuse
abbrev pub IsVerdict : {A : Type 0} → Result A Refusal → Option RuleRefusal → Type 0
IsVerdict (Ok x) said = said ≡ None
IsVerdict (Err e) said = IsStop e said

-- what is declared, where these are the roots: no lemma so far
abbrev pub without_lemmas : Names → Declared
without_lemmas roots = record { roots = roots; lemmas = λ l ts. None }

-- what is refused where a term has no normal form; for want of memory nothing is
abbrev pub IsEndOf : NormalEnd → Spot → Option RuleRefusal → Type 0
IsEndOf end.Memory spot r = ⊥
IsEndOf d spot r = r ≡ refuse spot (end_code d)
