-- What is known after a step, a give or a statement.
use Rattle.std.proofs.Common.{◌≡◌, Result, Ok, Err, sym, ◌∙◌, ap, subst}
use Rattle.std.specs.Prelude.{OnOk, IfErr}
use Rattle.tht_tree.specs.Rules.Context.{Context}
use Rattle.tht_logic.specs.Rules.Checking.{Checked}
use Rattle.pure_proofs.specs.declared.refusal.Refusal.{Refusal}
use Rattle.pure_proofs.specs.declared.refusal.Refusal.TheVariants.{Rule, Memory}
use Rattle.heap_rules.specs.Following.{Refuses, Stays, Follows}
use Rattle.hoare_rules.specs.Cells.{Says}

pub follows_says : {A : Type 0} (result : Result A Refusal) (said : Checked Context) (before now : Context) → Follows result said before now → Says result said now
follows_says (Ok x) said before now h = h
follows_says (Err (Rule r)) said before now h = h.0
follows_says (Err Memory) said before now h = tt

-- what is made, but for want of memory
pub made_says : {A : Type 0} (result : Result A Refusal) (said : Checked Context) (next now : Context) → said ≡ Ok next → OnOk result (now ≡ next) → IfErr result (λ e. e ≡ Memory) → Says result said now
made_says (Ok x) said next now e ok err = e ∙ ap Ok (sym ok)
made_says (Err e) said next now is ok err = subst (λ z. Refuses z said) (sym err) tt

-- ---- a state that is changed

-- b is what was known in the copy, a in the state
module _ (after : Context → Checked Context) (a b : Context) (same : b ≡ a) where
  pub next_made : (now next : Context) → after b ≡ Ok now → now ≡ next → after a ≡ Ok next
  next_made now next e f = ap after (sym same) ∙ e ∙ ap Ok f

  pub not_next : (e : Refusal) → Refuses e (after b) → Refuses e (after a)
  not_next e h = subst (λ z. Refuses e (after z)) same h

pub changes_follow : (said : Checked Context) (next now : Context) → said ≡ Ok next → now ≡ next → said ≡ Ok now
changes_follow said next now e f = e ∙ ap Ok (sym f)

-- refused, and nothing has changed
pub refuses_stay : (e : Refusal) (said : Checked Context) (before now : Context) → Refuses e said → now ≡ before → Stays e said before now
refuses_stay (Rule r) said before now h is = (h, is)
refuses_stay Memory said before now h is = tt
