-- Gives and steps that the rules accept are sound.
use Rattle.std.proofs.Common.{Ok, Err}
use Rattle.std.specs.Prelude.{Result, OnOk}
use Rattle.tht_tree.specs.declared.assn.Assn.{Assn}
use Rattle.tht_tree.specs.declared.give.Give.{Give}
use Rattle.tht_tree.specs.declared.step.Step.{Step}
use Rattle.tht_tree.specs.Rules.Context.{Context}
use Rattle.tht_logic.specs.Rules.Definitions.{Declarations}
use Rattle.tht_logic.specs.Rules.Gives.{after_give}
use Rattle.tht_logic.specs.Rules.Steps.{after_step}
use Rattle.assn_laws.proofs.FileLaw.{file_gives_are_sound, file_steps_are_sound}
use Rattle.pure_proofs.specs.declared.refusal.Refusal.{Refusal}
use Rattle.heap_rules.specs.Following.{Follows}
use Rattle.heap_rules.specs.Sound.{SplitsHeaps, KeepsHeaps}

module _ (decl : Declarations) (c next : Context) where
  pub give_is_sound : (x : Give) (goal : Assn) (r : Result (Unit {0}) Refusal) → Follows r (after_give decl c x goal) c next → OnOk r (SplitsHeaps decl x goal c next)
  give_is_sound x goal (Ok u) said = λ file ready names env h is g a. file_gives_are_sound file decl ready names c next env h is x goal g a said
  give_is_sound x goal (Err e) said = tt

  pub step_is_sound : (x : Step) (r : Result (Unit {0}) Refusal) → Follows r (after_step decl c x) c next → OnOk r (KeepsHeaps decl x c next)
  step_is_sound x (Ok u) said = λ file ready names env h is g. file_steps_are_sound file decl ready names c next env h is x g said
  step_is_sound x (Err e) said = tt
