-- What follows where nothing is refused.
use Rattle.std.proofs.Common.{◌≡◌, Bool, true, false, ◌&&◌, Option, Some, None, refl}
use Rattle.tht_tree.specs.declared.plain.Spot.{Spot}
use Rattle.tht_tree.specs.declared.rule.RuleCode.{RuleCode}
use Rattle.tht_tree.specs.declared.rule.RuleRefusal.{RuleRefusal}
use Rattle.tht_tree.specs.Rules.Refusals.{refused_as, needs, needs_some, needs_two, ◌▸◌}

abbrev pub nothing : Option RuleRefusal
nothing = None

abbrev pub no_code : Option RuleCode
no_code = None

pub seq_none : (r s : Option RuleRefusal) → (r ▸ s) ≡ nothing → (r ≡ nothing) × (s ≡ nothing)
seq_none None s e = (refl, e)
seq_none (Some x) s e = cc

pub as_none : (spot : Spot) (c : Option RuleCode) → refused_as spot c ≡ nothing → c ≡ no_code
as_none spot None e = refl
as_none spot (Some c) e = cc

pub needs_none : (spot : Spot) (code : RuleCode) (b : Bool) → needs spot code b ≡ nothing → b ≡ true
needs_none spot code true e = refl
needs_none spot code false e = cc

pub some_none : {A : Type 0} (spot : Spot) (code : RuleCode) (o : Option A) (go : A → Option RuleRefusal) → needs_some spot code o go ≡ nothing → (x : A) × (o ≡ Some x) × (go x ≡ nothing)
some_none spot code None go e = cc
some_none spot code (Some x) go e = (x, refl, e)

pub two_none : {A B : Type 0} (spot : Spot) (code : RuleCode) (o : Option (A × B)) (go : A → B → Option RuleRefusal) → needs_two spot code o go ≡ nothing →
    (x : A × B) × (o ≡ Some x) × (go x.0 x.1 ≡ nothing)
two_none spot code o go e = some_none spot code o (λ p. go p.0 p.1) e

pub both_true : (a b : Bool) → (a && b) ≡ true → (a ≡ true) × (b ≡ true)
both_true true b e = (refl, e)
both_true false b e = cc
