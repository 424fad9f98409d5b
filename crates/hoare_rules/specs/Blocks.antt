-- Inner bodies: what they are given, and what is known behind them.
use Rattle.std.specs.Prelude.{◌≡◌, ℕ, List, Result, Ok, Err}
use Rattle.tht_tree.specs.declared.assn.Assn.{Assn}
use Rattle.tht_tree.specs.declared.plain.Spot.{Spot}
use Rattle.tht_tree.specs.declared.plain.Sort.{Sort}
use Rattle.tht_tree.specs.declared.rule.RuleCode.TheVariants.{R10}
use Rattle.tht_tree.specs.declared.state.State.{State}
use Rattle.tht_tree.specs.Rules.Sizes.{assn_fits}
use Rattle.tht_tree.specs.Rules.Context.{Context, context_of}
use Rattle.tht_logic.specs.Rules.Calls.{Dealt, with_result}
use Rattle.tht_logic.specs.Rules.Checking.{Checked, on_true}
use Rattle.heap_rules.specs.Following.{Refuses}
use Rattle.pure_proofs.specs.declared.known.Known.{Known}
use Rattle.pure_proofs.specs.declared.refusal.Refusal.{Refusal}

-- these are what is given and what is left, of what was known before
pub record IsDealt (said : Checked Dealt) (before given left : Context) : Type 0 where
  pub dealt : Dealt
  pub is : said ≡ Ok dealt
  pub given_is : given ≡ record before { atoms = dealt.given }
  pub left_is : left ≡ record before { atoms = dealt.frame }

-- a state that is given, or the rules refuse it
abbrev pub IsSplit : Result State Refusal → Checked Dealt → Context → Context → Type 0
IsSplit (Ok s) said before left = IsDealt said before (context_of s) left
IsSplit (Err e) said before left = Refuses e said

-- what is given, or the rules refuse it
abbrev pub Splits : Result Known Refusal → Checked Dealt → Context → Context → Type 0
Splits (Ok k) said before left = IsDealt said before (context_of k.state) left
Splits (Err e) said before left = Refuses e said

-- what is known once the body keeps its box
abbrev pub after_block : Spot → Context → List ℕ → Sort → Assn → Checked Context
after_block spot c x s box = on_true spot R10 (assn_fits box) (with_result spot c x s box)
