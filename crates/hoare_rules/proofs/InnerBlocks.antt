-- What the rules say of `do`, stage by stage.
use Rattle.std.proofs.Common.{◌≡◌, ℕ, true, false, List, None, Result, Ok, Err, sym, ◌∙◌, ap, subst}
use Rattle.std.specs.Prelude.{IfOk, IfErr}
use Rattle.tht_tree.specs.declared.assn.Assn.{Assn}
use Rattle.tht_tree.specs.declared.plain.Sort.{Sort}
use Rattle.tht_tree.specs.declared.plain.Spot.{Spot}
use Rattle.tht_tree.specs.declared.rule.RuleCode.TheVariants.{R10}
use Rattle.tht_tree.specs.declared.state.Post.{Post}
use Rattle.tht_tree.specs.declared.state.State.{State}
use Rattle.tht_tree.specs.Rules.Sizes.{assn_fits}
use Rattle.tht_tree.specs.Rules.Context.{Context, context_of}
use Rattle.tht_logic.specs.Rules.Calls.{InBody, Dealt, dealt, after_do, with_result}
use Rattle.tht_logic.specs.Rules.Checking.{Checked, reject, unless_refused, on_ok, on_true}
use Rattle.heap_rules.specs.Following.{Refuses}
use Rattle.pure_proofs.specs.declared.known.Known.{Known}
use Rattle.pure_proofs.specs.declared.refusal.Refusal.{Refusal}
use Rattle.pure_proofs.specs.declared.refusal.Refusal.TheVariants.{Rule, Memory}
use Rattle.pure_proofs.specs.Verdicts.{IsStop}
use Rattle.shared_rules.specs.Dealing.{Deals}
use Rattle.hoare_rules.specs.Blocks.{IsDealt, IsSplit, Splits, after_block}
use Rattle.hoare_rules.specs.Cells.{Says}

-- ---- what is given and what is left

pub is_split : (result : Result State Refusal) (said : Checked Dealt) (before left : Context) → Deals result said left → IfOk result (λ s. context_of s ≡ record before { atoms = (context_of s).atoms })
    → left ≡ record before { atoms = left.atoms } → IsSplit result said before left
is_split (Ok s) said before left deals given frame = record { dealt = record { given = (context_of s).atoms; frame = left.atoms }; is = deals; given_is = given; left_is = frame }
is_split (Err (Rule r)) said before left deals given frame = deals
is_split (Err Memory) said before left deals given frame = tt

pub splits : (result : Result Known Refusal) (said : Checked Dealt) (before left : Context) (s : State) → IsDealt said before (context_of s) left → IfOk result (λ k. k.state ≡ s) → IfErr result (λ e. e ≡ Memory)
    → Splits result said before left
splits (Ok k) said before left s w ok err = subst (λ z. IsDealt said before (context_of z) left) (sym ok) w
splits (Err e) said before left s w ok err = subst (λ z. Refuses z said) (sym err) tt

-- ---- the block

module _ (spot : Spot) (c : Context) (x : List ℕ) (s : Sort) (ns : List ℕ) (body : InBody) (box : Assn) where
  abbrev post : Post
  post = record { result = x; sort = s; assn = box }

  abbrev behind : Dealt → Checked Context
  behind d = unless_refused (body post (record c { atoms = d.given })) (on_true spot R10 (assn_fits box) (with_result spot (record c { atoms = d.frame }) x s box))

  -- the atoms are not there
  pub not_dealt : (e : Refusal) → Refuses e (dealt spot ns c.atoms) → Refuses e (after_do spot c x s ns body box)
  not_dealt (Rule r) h = ap (λ z. on_ok z behind) h
  not_dealt Memory h = tt

  module _ (given left : Context) (w : IsDealt (dealt spot ns c.atoms) c given left) where
    in_parts : after_do spot c x s ns body box ≡ unless_refused (body post given) (after_block spot left x s box)
    in_parts =
        ap (λ z. on_ok z behind) w.is
        ∙ ap (λ k. unless_refused (body post k) (on_true spot R10 (assn_fits box) (with_result spot (record c { atoms = w.dealt.frame }) x s box))) (sym w.given_is)
        ∙ ap (λ k. unless_refused (body post given) (after_block spot k x s box)) (sym w.left_is)

    -- the body is refused
    pub not_kept : (q : Post) → q ≡ post → (e : Refusal) → IsStop e (body q given) → Refuses e (after_do spot c x s ns body box)
    not_kept q is (Rule r) h = in_parts ∙ ap (λ z. unless_refused z (after_block spot left x s box)) (ap (λ z. body z given) (sym is) ∙ h)
    not_kept q is Memory h = tt

    -- the body keeps its box
    pub kept : {A : Type 0} (q : Post) → q ≡ post → (result : Result A Refusal) (now : Context) → body q given ≡ None → Says result (after_block spot left x s box) now
        → Says result (after_do spot c x s ns body box) now
    kept q is result now none h =
        subst (λ z. Says result z now) (sym (in_parts ∙ ap (λ z. unless_refused z (after_block spot left x s box)) (ap (λ z. body z given) (sym is) ∙ none))) h

-- ---- the box

module _ (spot : Spot) (c : Context) (x : List ℕ) (s : Sort) (box : Assn) where
  pub box_large : false ≡ assn_fits box → after_block spot c x s box ≡ reject spot R10
  box_large e = ap (λ b. on_true spot R10 b (with_result spot c x s box)) (sym e)

  pub box_fits : {A : Type 0} (result : Result A Refusal) (p : Assn) (now : Context) → true ≡ assn_fits box → p ≡ box → Says result (with_result spot c x s p) now → Says result (after_block spot c x s box) now
  box_fits result p now e is h = subst (λ z. Says result z now) (ap (with_result spot c x s) is ∙ ap (λ b. on_true spot R10 b (with_result spot c x s box)) e) h
