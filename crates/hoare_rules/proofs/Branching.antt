-- What is known at the start of a branch.
use Rattle.std.proofs.Common.{◌≡◌, ℕ, Bool, true, false, ◌&&◌, List, Option, Some, None, Result, Ok, Err, refl, sym, ◌∙◌, ap, subst}
use Rattle.tht_tree.specs.declared.assn.Assn.{Assn, out-Assn}
use Rattle.tht_tree.specs.declared.plain.Spot.{Spot}
use Rattle.tht_tree.specs.declared.rule.RuleCode.TheVariants.{R1, R2, R10, R11}
use Rattle.tht_tree.specs.declared.rule.RuleRefusal.{RuleRefusal}
use Rattle.tht_tree.specs.declared.state.Post.{Post}
use Rattle.tht_tree.specs.declared.term.Term.{Term}
use Rattle.tht_tree.specs.Rules.Sizes.{formula_fits}
use Rattle.tht_tree.specs.Rules.Context.{Context, atom_at, context_fits}
use Rattle.tht_tree.specs.Rules.Refusals.{needs, ◌▸◌}
use Rattle.tht_tree.specs.Rules.Known.{with_hyp, hyp_fits}
use Rattle.tht_logic.specs.Rules.Bodies.{assuming, sides, on_side, by_sides}
use Rattle.tht_logic.specs.Rules.Calls.{InBody}
use Rattle.tht_logic.specs.Rules.Checking.{Checked, reject, unless_refused, on_some, on_ok, and_then}
use Rattle.tht_logic.specs.Rules.Gives.{disjunction_at}
use Rattle.heap_rules.specs.Following.{Refuses, Makes, Follows}
use Rattle.heap_rules.specs.Stages.{atom_found, replaced_by}
use Rattle.pure_proofs.specs.declared.refusal.Refusal.{Refusal}
use Rattle.pure_proofs.specs.declared.refusal.Refusal.TheVariants.{Rule, Memory}
use Rattle.pure_proofs.specs.Verdicts.{IsStop, IsVerdict}
use Rattle.hoare_rules.specs.Cells.{Says}
use Rattle.hoare_rules.specs.declared.branches.Branch.TheVariants as branch
use Rattle.hoare_rules.specs.declared.branches.Side.{Side}
use Rattle.hoare_rules.specs.declared.branches.Side.TheVariants as side
use Rattle.hoare_rules.specs.Branches.{side_at, side_of, with_side, by_branches}

-- ---- hypotheses

-- the same formula
pub assuming_same : {A : Type 0} (result : Result A Refusal) (spot : Spot) (c : Context) (h : List ℕ) (t u : Term) (now : Context) → t ≡ u → Says result (assuming spot c h t) now → Says result (assuming spot c h u) now
assuming_same result spot c h t u now e said = subst (λ z. Says result (assuming spot c h z) now) e said

module _ (spot : Spot) (d : Context) where
  abbrev tested : Bool → Bool → Checked Context
  tested f g = unless_refused (needs spot R10 f) (unless_refused (needs spot R10 g) (Ok d))

  -- two limits are one
  two_limits : (f g : Bool) → tested f g ≡ unless_refused (needs spot R10 (f && g)) (Ok d)
  two_limits true g = refl
  two_limits false g = refl

module _ (spot : Spot) (c : Context) (h : List ℕ) (t : Term) where
  one_limit : assuming spot c h t ≡ unless_refused (needs spot R10 (hyp_fits c h t)) (Ok (with_hyp c h t))
  one_limit = two_limits spot (with_hyp c h t) (formula_fits t) (context_fits (with_hyp c h t))

  pub supposed : (now : Context) → needs spot R10 (hyp_fits c h t) ≡ None → now ≡ with_hyp c h t → assuming spot c h t ≡ Ok now
  supposed now fits is = one_limit ∙ ap (λ o. unless_refused o (Ok (with_hyp c h t))) fits ∙ ap Ok (sym is)

  pub not_supposed : (e : Refusal) → IsStop e (needs spot R10 (hyp_fits c h t)) → Refuses e (assuming spot c h t)
  not_supposed (Rule r) stop = one_limit ∙ ap (λ o. unless_refused o (Ok (with_hyp c h t))) stop
  not_supposed Memory stop = tt

-- ---- sides

-- the sides of an atom that is found
abbrev either_of : Spot → Assn → Checked (Assn × Assn)
either_of spot p = on_some spot R2 (disjunction_at (out-Assn p)) Ok

module _ (spot : Spot) (c : Context) (i : ℕ) where
  sides_is : sides spot c i ≡ on_ok (atom_found spot c i) (either_of spot)
  sides_is = by (atom_at i c.atoms)
    where
      by : (o : Option Assn) → on_some spot R1 o (either_of spot) ≡ on_ok (on_some spot R1 o Ok) (either_of spot)
      by None = refl
      by (Some p) = refl

  pub no_atom : (e : Refusal) → Refuses e (atom_found spot c i) → Refuses e (sides spot c i)
  no_atom (Rule r) h = sides_is ∙ ap (λ z. on_ok z (either_of spot)) h
  no_atom Memory h = tt

  pub both_sides : (p : Assn) (z : Assn × Assn) → atom_found spot c i ≡ Ok p → disjunction_at (out-Assn p) ≡ Some z → sides spot c i ≡ Ok z
  both_sides p z e f = sides_is ∙ ap (λ z. on_ok z (either_of spot)) e ∙ ap (λ o. on_some spot R2 o Ok) f

  pub no_sides : (p : Assn) → atom_found spot c i ≡ Ok p → disjunction_at (out-Assn p) ≡ None → sides spot c i ≡ reject spot R2
  no_sides p e f = sides_is ∙ ap (λ z. on_ok z (either_of spot)) e ∙ ap (λ o. on_some spot R2 o Ok) f

  module _ (s : Side) where
    pub no_side : (e : Refusal) → Refuses e (sides spot c i) → Refuses e (side_of spot c i s)
    no_side (Rule r) h = ap (λ z. on_ok z (λ p. Ok (side_at s p))) h
    no_side Memory h = tt

    pub side_found : (p : Assn × Assn) (q : Assn) → sides spot c i ≡ Ok p → q ≡ side_at s p → side_of spot c i s ≡ Ok q
    side_found p q e f = ap (λ z. on_ok z (λ p. Ok (side_at s p))) e ∙ ap Ok (sym f)

    -- the side, and then its atoms
    then_taken : with_side spot c i s ≡ on_ok (side_of spot c i s) (on_side spot c i)
    then_taken = by (sides spot c i)
      where
        by : (o : Checked (Assn × Assn)) → on_ok o (λ p. on_side spot c i (side_at s p)) ≡ on_ok (on_ok o (λ p. Ok (side_at s p))) (on_side spot c i)
        by (Ok p) = refl
        by (Err r) = refl

    pub side_refused : (e : Refusal) → Refuses e (side_of spot c i s) → Refuses e (with_side spot c i s)
    side_refused (Rule r) h = then_taken ∙ ap (λ z. on_ok z (on_side spot c i)) h
    side_refused Memory h = tt

    pub side_taken : {A : Type 0} (result : Result A Refusal) (p : Assn) (now : Context) → side_of spot c i s ≡ Ok p → Follows result (replaced_by spot c i p) c now → Says result (with_side spot c i s) now
    side_taken (Ok x) p now e h = then_taken ∙ ap (λ z. on_ok z (on_side spot c i)) e ∙ h
    side_taken (Err (Rule r)) p now e h = then_taken ∙ ap (λ z. on_ok z (on_side spot c i)) e ∙ h.0
    side_taken (Err Memory) p now e h = tt

-- ---- the case of an `either`

module _ (spot : Spot) (c : Context) (i : ℕ) (first : Option RuleRefusal) (body other : InBody) (post : Post) where
  abbrev case_refused : Option RuleRefusal
  case_refused = and_then (sides spot c i) (λ p. first ▸ by_sides spot c i body other p post)

  pub not_either : (e : Refusal) → Refuses e (sides spot c i) → IsStop e case_refused
  not_either (Rule r) h = ap (λ z. and_then z (λ p. first ▸ by_sides spot c i body other p post)) h
  not_either Memory h = tt

  -- its sides are its branches
  by_its_sides : (p : Assn × Assn) → sides spot c i ≡ Ok p → case_refused ≡ (first ▸ by_branches spot c (branch.Left i) (branch.Right i) body other post)
  by_its_sides p e =
      ap (λ z. and_then z (λ p. first ▸ by_sides spot c i body other p post)) e
      ∙ sym (ap (λ z. first ▸ (and_then (on_ok z (λ p. on_side spot c i p.0)) (body post) ▸ and_then (on_ok z (λ p. on_side spot c i p.1)) (other post))) e)

  pub either_checked : {A : Type 0} (result : Result A Refusal) (p : Assn × Assn) → sides spot c i ≡ Ok p
      → IsVerdict result (first ▸ by_branches spot c (branch.Left i) (branch.Right i) body other post) → IsVerdict result case_refused
  either_checked result p e h = subst (IsVerdict result) (sym (by_its_sides p e)) h

-- ---- one after another

-- what is refused first
pub first_stops : (e : Refusal) (x y : Option RuleRefusal) → IsStop e x → IsStop e (x ▸ y)
first_stops (Rule r) x y h = ap (λ z. z ▸ y) h
first_stops Memory x y h = tt

-- or else what stands behind it
pub then_checked : {A : Type 0} (result : Result A Refusal) (x y : Option RuleRefusal) → x ≡ None → IsVerdict result y → IsVerdict result (x ▸ y)
then_checked result x y e h = subst (λ z. IsVerdict result (z ▸ y)) (sym e) h

-- what is not made
pub not_entered : (e : Refusal) (said : Checked Context) (go : Context → Option RuleRefusal) → Refuses e said → IsStop e (and_then said go)
not_entered (Rule r) said go h = ap (λ z. and_then z go) h
not_entered Memory said go h = tt

-- and what is refused of what is made
pub entered_checked : {A : Type 0} (result : Result A Refusal) (said : Checked Context) (now : Context) (go : Context → Option RuleRefusal) → said ≡ Ok now → IsVerdict result (go now) → IsVerdict result (and_then said go)
entered_checked result said now go e h = subst (λ z. IsVerdict result (and_then z go)) (sym e) h
