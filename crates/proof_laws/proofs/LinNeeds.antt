-- What the case of `lin` needs of linear certificates: what is denied and the facts cannot all be true, where nothing is refused.
use Rattle.std.proofs.Common.{◌≡◌, ℕ, ◌<◌, ◌≤◌, Bool, true, false, List, [], ◌∷◌, Option, Some, None}
use Rattle.tht_tree.specs.declared.plain.Sort.TheVariants as sort
use Rattle.tht_tree.specs.Values.{Env, nat_of}
use Rattle.tht_tree.specs.Syntax.{Names}
use Rattle.tht_tree.specs.Rules.Context.{Scope}
use Rattle.tht_tree.specs.Terms.{value}
use Rattle.tht_tree.specs.Rules.Scoping.{sort_of}
use Rattle.tht_tree.specs.declared.form.Comparison.{Comparison}
use Rattle.normal_laws.proofs.NormalValues.{Fits}
use Rattle.tht_tree.specs.declared.rule.RuleCode.{RuleCode}
use Rattle.tht_tree.specs.Rules.Certificates.{Fact, refused_certificate}

-- both sides are numbers
pub record HasSides (roots : Names) (scope : Scope) (c : Comparison) : Type 0 where
  pub left : sort_of roots scope c.left ≡ Some sort.Nat
  pub right : sort_of roots scope c.right ≡ Some sort.Nat

abbrev pub Compares : Bool → ℕ → ℕ → Type 0
Compares true m n = m < n
Compares false m n = m ≤ n

-- the comparison is true
abbrev pub Says : Names → Env → Comparison → Type 0
Says roots env c = Compares c.strict (nat_of (value roots env c.left)) (nat_of (value roots env c.right))

-- of what is denied, if anything; and of each fact
abbrev pub OfDenied : (Comparison → Type 0) → Option Comparison → Type 0
OfDenied P None = Unit {0}
OfDenied P (Some c) = P c

abbrev pub OfFacts : (Comparison → Type 0) → List Fact → Type 0
OfFacts P [] = Unit {0}
OfFacts P (f ∷ fs) = P f.comparison × OfFacts P fs

abbrev pub no_code : Option RuleCode
no_code = None

-- A certificate in which nothing is refused, with the multiplier k for what is denied, is sound.
abbrev pub CertificatesAreSound : Type 0
CertificatesAreSound =
    (roots : Names) (scope : Scope) (env : Env) → Fits roots scope env →
    (k : ℕ) (c : Option Comparison) (facts : List Fact) → OfDenied (HasSides roots scope) c → OfFacts (HasSides roots scope) facts →
    refused_certificate scope k c facts ≡ no_code →
    OfDenied (Says roots env) c → OfFacts (Says roots env) facts → ⊥
