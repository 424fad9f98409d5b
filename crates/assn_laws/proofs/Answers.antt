-- What it tells that an answer is Ok.
use Rattle.std.proofs.Common.{◌≡◌, Bool, true, false, Option, Some, None, Ok, Err, refl, ap}
use Rattle.std.specs.Prelude.{Result, if◌then◌else◌}
use Rattle.tht_tree.specs.declared.plain.Spot.{Spot}
use Rattle.tht_tree.specs.declared.rule.RuleCode.{RuleCode}
use Rattle.tht_tree.specs.declared.rule.RuleRefusal.{RuleRefusal}
use Rattle.tht_tree.specs.declared.form.PutEnd.TheVariants.{Large as TooLarge}
use Rattle.tht_tree.specs.declared.assn.Assn.{Assn}
use Rattle.tht_tree.specs.Rules.Sizes.{assn_fits}
use Rattle.tht_tree.specs.Rules.Refusals.{needs}
use Rattle.tht_tree.specs.Normal.Putting.{Puts}
use Rattle.tht_logic.specs.Rules.Checking.{Checked, unless_refused, on_some, on_ok, on_true, put_or_refused}
use Rattle.tht_logic.specs.Putting.{put_in_assn, put_assn_within}
use Rattle.tht_logic.specs.Rules.Definitions.{DefEnd, NoCase, Large, defined_or_refused}

pub some_same : {A : Type 0} (x y : A) → Some x ≡ Some y → x ≡ y
some_same x y e = cc

-- the answer is Ok
abbrev pub IsOk : {A : Type 0} → Checked A → A → Type 0
IsOk answer x = answer ≡ Ok x

pub ok_same : {A : Type 0} (x y : A) → IsOk (Ok x) y → x ≡ y
ok_same x y e = cc

pub from_some : {A B : Type 0} (spot : Spot) (code : RuleCode) (o : Option A) (go : A → Checked B) (y : B) → IsOk (on_some spot code o go) y → (x : A) × (o ≡ Some x) × IsOk (go x) y
from_some spot code None go y e = cc
from_some spot code (Some x) go y e = (x, refl, e)

pub from_ok : {A B : Type 0} (answer : Checked A) (go : A → Checked B) (y : B) → IsOk (on_ok answer go) y → (x : A) × (answer ≡ Ok x) × IsOk (go x) y
from_ok (Ok x) go y e = (x, refl, e)
from_ok (Err r) go y e = cc

pub from_unless : {A : Type 0} (o : Option RuleRefusal) (answer : Checked A) (y : A) → IsOk (unless_refused o answer) y → (o ≡ None) × IsOk answer y
from_unless None answer y e = (refl, e)
from_unless (Some r) answer y e = cc

needs_holds : (spot : Spot) (code : RuleCode) (b : Bool) → needs spot code b ≡ None → b ≡ true
needs_holds spot code true e = refl
needs_holds spot code false e = cc

pub from_true : {A : Type 0} (spot : Spot) (code : RuleCode) (b : Bool) (answer : Checked A) (y : A) → IsOk (on_true spot code b answer) y → (b ≡ true) × IsOk answer y
from_true spot code b answer y e = let w : (needs spot code b ≡ None) × IsOk answer y = from_unless (needs spot code b) answer y e in (needs_holds spot code b w.0, w.1)

pub from_put : (spot : Spot) (by : Puts) (p q : Assn) → IsOk (put_or_refused spot (put_assn_within by p)) q → put_in_assn by p ≡ q
from_put spot by p q e = pick (assn_fits (put_in_assn by p)) e
  where
    pick : (c : Bool) → IsOk (put_or_refused spot (if c then Ok (put_in_assn by p) else Err TooLarge)) q → put_in_assn by p ≡ q
    pick true g = ok_same (put_in_assn by p) q g
    pick false g = cc

pub from_defined : (spot : Spot) (r : Result Assn DefEnd) (q : Assn) → IsOk (defined_or_refused spot r) q → r ≡ Ok q
from_defined spot (Ok p) q e = ap Ok (ok_same p q e)
from_defined spot (Err NoCase) q e = cc
from_defined spot (Err Large) q e = cc
