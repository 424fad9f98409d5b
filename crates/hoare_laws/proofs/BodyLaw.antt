-- The law of bodies, with the laws of assertions that it stands on.
use Rattle.std.proofs.Common.{ℕ, List, [], map, refl}
use Rattle.tht_tree.specs.declared.walk.Where.TheVariants.{Outside}
use Rattle.tht_tree.specs.Walk.Bodies.{frame}
use Rattle.tht_logic.specs.Satisfaction.{Meaning}
use Rattle.tht_logic.specs.Meanings.{meaning_in}
use Rattle.tht_logic.specs.Rules.Definitions.{Declarations}
use Rattle.tht_logic.specs.Rules.Scoped.{instance_fits}
use Rattle.assn_laws.specs.Walked.{any_fits}
use Rattle.assn_laws.specs.FileLaws.{proof_in}
use Rattle.assn_laws.proofs.CallLaw.{calls_are_sound}
use Rattle.assn_laws.proofs.CaseLaws.{formulas_are_true_or_false, assumptions_are_sound, sides_are_sound, sequences_are_nil_or_more, nothing_is_dead}
use Rattle.assn_laws.proofs.DealLaw.{deals_split_heaps}
use Rattle.assn_laws.proofs.ResultLaw.{results_are_sound}
use Rattle.hoare_laws.specs.Laws.{BodiesAreSound}
use Rattle.hoare_laws.proofs.BodySound.{bodies_sound}
use Rattle.hoare_laws.proofs.FileControl.{Control}
use Rattle.hoare_laws.proofs.Growing.{same_scope}
use Rattle.hoare_laws.proofs.Places.{Setting, Aim, IsAt}
use Rattle.hoare_laws.proofs.ProgramValues.{covering}

pub control : (decl : Declarations) (M : Meaning) → Control decl M
control decl M = record {
  calls = calls_are_sound decl (proof_in decl) (instance_fits decl) any_fits M;
  results = results_are_sound decl (proof_in decl) (instance_fits decl) any_fits M;
  deals = deals_split_heaps decl (proof_in decl) (instance_fits decl) any_fits M;
  assumptions = assumptions_are_sound decl (proof_in decl) (instance_fits decl) any_fits M;
  formulas = formulas_are_true_or_false decl (proof_in decl) (instance_fits decl) any_fits;
  sides = sides_are_sound decl (proof_in decl) (instance_fits decl) any_fits M;
  sequences = sequences_are_nil_or_more decl (proof_in decl) (instance_fits decl) any_fits M;
  dead = nothing_is_dead decl (proof_in decl) (instance_fits decl) any_fits M;
}

-- The law of bodies.
pub bodies_are_sound : BodiesAreSound
bodies_are_sound file decl ready names c body post order ok F k meet b above env xs h covers apart holds =
    let at : Setting = record { file = file; decl = decl; ready = ready; procs = order.procs; F = F; above = above; b = b } in
    let aim : Aim at = record {
      first = names;
      start = c.scope;
      old = env;
      post = post;
      matches = order.matches;
      knows = order.knows;
      new_result = order.new_result;
      post_walked = order.post_walked;
    } in
    let here : IsAt at aim names c env h xs (map env xs) = record {
      inside = record { matches = order.matches; knows = order.knows; state = record { formed = order.formed; satisfied = holds } };
      procs = order.knows_procs;
      values = covering decl.proofs.roots names c.scope env xs order.matches covers;
      grown = same_scope names;
      same = λ y r e. refl;
    } in
    bodies_sound at (control decl (meaning_in file)) body aim k meet names c env h xs (map env xs) here order.body_walked ok
