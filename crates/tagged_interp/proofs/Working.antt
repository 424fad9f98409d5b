-- A branch at work that goes past a plain statement is at work again.
use Rattle.std.proofs.Common.{◌≡◌, ◌∙◌, ◌+◌, Result, Ok, Err, OnOk, refl, sym, ap, subst}
use Rattle.tht_tree.specs.declared.plain.Place.{Place}
use Rattle.tht_logic.specs.Machine.{Prog, Ended, FrontBig, Plain, Block, Fork, Bodies}
use Rattle.code_form.specs.declared.branch.Mode.{Mode}
use Rattle.code_form.specs.declared.branch.Mode.TheVariants as mode
use Rattle.code_form.specs.declared.code.Code.{Code}
use Rattle.code_form.specs.declared.ways.Told.{Told}
use Rattle.code_form.specs.BranchValue.{BranchValue}
use Rattle.code_form.specs.Branches.{Standing, at_work, inside, waiting, standing_in, standing_of, program_of, ask_of, WorkTakes, Takes, work_after, after, new_cells, IsSameButMoved}
use Rattle.code_form.specs.Fronts.{front_ask, FrontTakes, front_after, front_cells}
use Rattle.code_form.specs.Stacks.{stack_prog}

abbrev prog_or : Prog → Standing → Prog
prog_or d (at_work p) = p
prog_or d (inside p rest) = d
prog_or d (waiting x y rest) = d

works_in : (m : Mode) (p q r : Prog) → standing_in m p q ≡ at_work r → p ≡ r
works_in mode.AtWork p q r e = ap (prog_or p) e
works_in mode.InBlock p q r e = absurd (cc)
works_in (mode.Waiting x y) p q r e = absurd (cc)

takes_plain : (p : Prog) (told : Told) → FrontTakes p told → WorkTakes p told
takes_plain (Ended w) told t = t
takes_plain FrontBig told t = t
takes_plain (Plain c rest) told t = t
takes_plain (Block p rest) told t = absurd t
takes_plain (Fork p q rest) told t = t

after_plain : (F : Bodies) (place : Place) (p : Prog) (told : Told) → FrontTakes p told → work_after F place p told ≡ at_work (front_after F place p told)
after_plain F place (Ended w) told t = refl
after_plain F place FrontBig told t = refl
after_plain F place (Plain c rest) told t = refl
after_plain F place (Block p rest) told t = absurd t
after_plain F place (Fork p q rest) told t = refl

on_ok : {T E A B : Type 0} (r : Result T E) → (A → B) → OnOk r A → OnOk r B
on_ok (Ok x) f a = f a
on_ok (Err e) f a = tt

module _ (code : Code) (s : BranchValue) (works : standing_of code s ≡ at_work (program_of code s)) where
  pub asks : ask_of (standing_of code s) ≡ front_ask (program_of code s)
  asks = ap ask_of works

  module _ (told : Told) (takes : FrontTakes (program_of code s) told) where
    pub can_tell : Takes (standing_of code s) told
    can_tell = subst (λ z. Takes z told) (sym works) (takes_plain (program_of code s) told takes)

    module _ {T E : Type 0} (F : Bodies) (place : Place) (t : BranchValue) (r : Result T E) where
      works_on : standing_of code t ≡ after F place (standing_of code s) told → standing_of code t ≡ at_work (front_after F place (program_of code s) told)
      works_on e = e ∙ ap (λ z. after F place z told) works ∙ after_plain F place (program_of code s) told takes

      gone_on : standing_of code t ≡ after F place (standing_of code s) told → program_of code t ≡ front_after F place (program_of code s) told
      gone_on e = works_in t.mode (stack_prog code t.body) (stack_prog code t.block) (front_after F place (program_of code s) told) (works_on e)

      pub program_after : OnOk r (standing_of code t ≡ after F place (standing_of code s) told) → OnOk r (program_of code t ≡ front_after F place (program_of code s) told)
      program_after h = on_ok r gone_on h

      pub still_works : OnOk r (standing_of code t ≡ after F place (standing_of code s) told) → OnOk r (standing_of code t ≡ at_work (program_of code t))
      still_works h = on_ok r (λ e. works_on e ∙ ap at_work (sym (gone_on e))) h

  pub has_moved : {T E : Type 0} (t : BranchValue) (r : Result T E) → OnOk r (IsSameButMoved s (s.next_index + new_cells (standing_of code s)) t) → OnOk r (IsSameButMoved s (s.next_index + front_cells (program_of code s)) t)
  has_moved t r h = on_ok r (λ e. subst (λ z. IsSameButMoved s (s.next_index + new_cells z) t) works e) h
