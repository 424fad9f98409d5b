-- Answers one after the other: what is answered to the first, or else to what goes on with it.
use Rattle.std.proofs.Common.{◌≡◌, Bool, true, false, Option, Some, None, Result, Ok, Err, refl, sym, ◌∙◌, ap, subst}
use Rattle.std.specs.Borrow.{Bor}
use Rattle.std.specs.Prelude.{OnOk, IfErr}
use Rattle.tht_tree.specs.declared.plain.Spot.{Spot}
use Rattle.tht_tree.specs.declared.rule.RuleCode.{RuleCode}
use Rattle.tht_tree.specs.declared.rule.RuleCode.TheVariants.{R10}
use Rattle.tht_tree.specs.declared.rule.RuleRefusal.{RuleRefusal}
use Rattle.tht_tree.specs.Rules.Context.{Context, context_fits}
use Rattle.tht_logic.specs.Rules.Checking.{Checked, reject, unless_refused, on_some, on_ok, on_true, and_then, if_fits}
use Rattle.pure_proofs.specs.declared.refusal.Refusal.{Refusal}
use Rattle.pure_proofs.specs.declared.refusal.Refusal.TheVariants.{Rule, Memory}
use Rattle.pure_proofs.specs.Verdicts.{IsStop, IsVerdict}
use Rattle.heap_rules.specs.Changes.{Finds}
use Rattle.heap_rules.specs.Following.{Refuses, Makes, Stays, Follows}

-- ---- want of memory

pub memory_refuses : {A : Type 0} (e : Refusal) (said : Checked A) → e ≡ Memory → Refuses e said
memory_refuses Memory said is = tt
memory_refuses (Rule r) said is = cc

pub memory_stays : (e : Refusal) (said : Checked Context) (before now : Context) → e ≡ Memory → Stays e said before now
memory_stays Memory said before now is = tt
memory_stays (Rule r) said before now is = cc

-- ---- a refusal

pub rejects : {A : Type 0} (e : Refusal) (spot : Spot) (code : RuleCode) (said : Checked A) → e ≡ Rule (record { spot = spot; code = code }) → said ≡ reject spot code → Refuses e said
rejects {A} (Rule r) spot code said is same = same ∙ refused is
  where
    refused : Rule r ≡ Rule (record { spot = spot; code = code }) → ◌≡◌ {A = Checked A} (Err (record { spot = spot; code = code })) (Err r)
    refused g = cc
rejects Memory spot code said is same = cc

pub stays : (e : Refusal) (said : Checked Context) (before now : Context) → Refuses e said → now ≡ before → Stays e said before now
stays (Rule r) said before now h is = (h, is)
stays Memory said before now h is = tt

pub stays_refuses : (e : Refusal) (said : Checked Context) (before now : Context) → Stays e said before now → Refuses e said
stays_refuses (Rule r) said before now h = h.0
stays_refuses Memory said before now h = tt

-- ---- two stages

module _ {A B : Type 0} (said : Checked A) (go : A → Checked B) where
  pub first_refuses : (e : Refusal) → Refuses e said → Refuses e (on_ok said go)
  first_refuses (Rule r) h = ap (λ s. on_ok s go) h
  first_refuses Memory h = tt

  module _ (x : A) (is : said ≡ Ok x) where
    pub goes_on : on_ok said go ≡ go x
    goes_on = ap (λ s. on_ok s go) is

    pub then_refuses : (e : Refusal) → Refuses e (go x) → Refuses e (on_ok said go)
    then_refuses (Rule r) h = goes_on ∙ h
    then_refuses Memory h = tt

    pub then_makes : (r : Result B Refusal) → Makes r (go x) → Makes r (on_ok said go)
    then_makes (Ok y) h = goes_on ∙ h
    then_makes (Err e) h = then_refuses e h

    pub then_finds : (r : Result (Bor B) Refusal) → Finds r (go x) → Finds r (on_ok said go)
    then_finds (Ok y) h = goes_on ∙ h
    then_finds (Err e) h = then_refuses e h

module _ {A : Type 0} (said : Checked A) (go : A → Checked Context) (before now : Context) where
  pub first_stays : (e : Refusal) → Refuses e said → now ≡ before → Stays e (on_ok said go) before now
  first_stays e h is = stays e (on_ok said go) before now (first_refuses said go e h) is

  pub then_stays : (x : A) → said ≡ Ok x → (e : Refusal) → Stays e (go x) before now → Stays e (on_ok said go) before now
  then_stays x is (Rule r) h = (goes_on said go x is ∙ h.0, h.1)
  then_stays x is Memory h = tt

  pub then_follows : {T : Type 0} (x : A) → said ≡ Ok x → (r : Result T Refusal) → Follows r (go x) before now → Follows r (on_ok said go) before now
  then_follows x is (Ok y) h = goes_on said go x is ∙ h
  then_follows x is (Err e) h = then_stays x is e h

-- what was refused in the first stage is refused
pub still_stays : (said : Checked Context) (go : Context → Checked Context) (before now : Context) (e : Refusal) → Stays e said before now → Stays e (on_ok said go) before now
still_stays said go before now (Rule r) h = (ap (λ s. on_ok s go) h.0, h.1)
still_stays said go before now Memory h = tt

-- what the rules say is known then, unless memory was wanting
pub done : {T : Type 0} (r : Result T Refusal) (said : Checked Context) (next before now : Context) → said ≡ Ok next → OnOk r (now ≡ next) → IfErr r (λ e. e ≡ Memory) → Follows r said before now
done (Ok x) said next before now is h m = is ∙ ap Ok (sym h)
done (Err e) said next before now is h m = memory_stays e said before now m

pub follows_from : {T : Type 0} (r : Result T Refusal) (said real : Checked Context) (before now : Context) → said ≡ real → Follows r said before now → Follows r real before now
follows_from r said real before now is h = subst (λ z. Follows r z before now) is h

-- ---- verdicts

pub refuses_stops : {A : Type 0} (said : Checked A) (go : A → Option RuleRefusal) (e : Refusal) → Refuses e said → IsStop e (and_then said go)
refuses_stops said go (Rule r) h = ap (λ s. and_then s go) h
refuses_stops said go Memory h = tt

pub verdict : {T : Type 0} (r : Result T Refusal) (said : Option RuleRefusal) → OnOk r (said ≡ None) → ((q : RuleRefusal) → r ≡ Err (Rule q) → said ≡ Some q) → IsVerdict r said
verdict (Ok x) said ok stop = ok
verdict (Err (Rule q)) said ok stop = stop q refl
verdict (Err Memory) said ok stop = tt

pub verdict_from : {T : Type 0} (r : Result T Refusal) (said real : Option RuleRefusal) → said ≡ real → IsVerdict r said → IsVerdict r real
verdict_from r said real is h = subst (IsVerdict r) is h

pub stop_stays : (said : Option RuleRefusal) (behind : Checked Context) (before now : Context) (e : Refusal) → IsStop e said → now ≡ before → Stays e (unless_refused said behind) before now
stop_stays said behind before now (Rule r) h is = (ap (λ s. unless_refused s behind) h, is)
stop_stays said behind before now Memory h is = tt

pub stop_refuses : {A : Type 0} (said : Option RuleRefusal) (behind : Checked A) (e : Refusal) → IsStop e said → Refuses e (unless_refused said behind)
stop_refuses said behind (Rule r) h = ap (λ s. unless_refused s behind) h
stop_refuses said behind Memory h = tt

-- ---- what is too large

pub fits_is : (spot : Spot) (c : Context) (b : Bool) → context_fits c ≡ b → if_fits spot c ≡ on_true spot R10 b (Ok c)
fits_is spot c b e = ap (λ z. on_true spot R10 z (Ok c)) e

pub fitting : (spot : Spot) (c : Context) → context_fits c ≡ true → if_fits spot c ≡ Ok c
fitting spot c e = fits_is spot c true e

pub too_large : (spot : Spot) (c : Context) → context_fits c ≡ false → if_fits spot c ≡ reject spot R10
too_large spot c e = fits_is spot c false e

-- what was answered to if_fits is what fits
pub was_fitting : (spot : Spot) (c d : Context) → if_fits spot c ≡ Ok d → (context_fits c ≡ true) × (c ≡ d)
was_fitting spot c d e = pick (context_fits c) refl e
  where
    pick : (b : Bool) → context_fits c ≡ b → on_true spot R10 b (Ok c) ≡ Ok d → (context_fits c ≡ true) × (c ≡ d)
    pick true f g = (f, cc)
    pick false f g = cc

abbrev pub ok_context : Context → Checked Context
ok_context c = Ok c

-- ---- what is found

pub found_some : {A B : Type 0} (spot : Spot) (code : RuleCode) (o : Option A) (x : A) (go : A → Checked B) → o ≡ Some x → on_some spot code o go ≡ go x
found_some spot code o x go e = ap (λ z. on_some spot code z go) e

pub passed : {A : Type 0} (spot : Spot) (code : RuleCode) (b : Bool) (answer : Checked A) → b ≡ true → on_true spot code b answer ≡ answer
passed spot code b answer e = ap (λ z. on_true spot code z answer) e
