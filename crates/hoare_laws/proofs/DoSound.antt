-- A `do` that nothing refuses keeps to the aim, where what follows does: its body keeps to the box beside the frame, which stands as it was.
use Rattle.std.proofs.Common.{◌≡◌, ℕ, ◌<◌, ◌≤◌, arith, Bool, true, List, [], ◌∷◌, None, Some, Ok, refl, sym, ◌∙◌, ap, subst}
use Rattle.tht_tree.specs.declared.assn.Assn.{Assn}
use Rattle.tht_tree.specs.declared.body.EndKind.TheOpen as f
use Rattle.tht_tree.specs.declared.plain.Sort.{Sort}
use Rattle.tht_tree.specs.declared.plain.Spot.{Spot}
use Rattle.tht_tree.specs.declared.plain.Value.{Value}
use Rattle.tht_tree.specs.declared.rule.RuleCode.TheVariants.{R10}
use Rattle.tht_tree.specs.declared.state.Post.{Post}
use Rattle.tht_tree.specs.declared.walk.Class.TheVariants as class
use Rattle.tht_tree.specs.Values.{Val, is, Env, bind}
use Rattle.tht_tree.specs.Syntax.{Names}
use Rattle.tht_tree.specs.Heaps.{Heap}
use Rattle.tht_tree.specs.Rules.Context.{Context}
use Rattle.tht_tree.specs.Rules.Sizes.{assn_fits}
use Rattle.tht_tree.specs.Walk.Names as walk
use Rattle.tht_tree.specs.Walk.Bodies as w
use Rattle.tht_logic.specs.Programs.{Whole, stmt_at}
use Rattle.tht_logic.specs.Machine.{Prog, closed}
use Rattle.tht_logic.specs.Meanings.{meaning_in}
use Rattle.tht_logic.specs.Soundness.{no_invariant, post_of}
use Rattle.tht_logic.specs.Rules.Checking.{Checked, unless_refused, on_true}
use Rattle.tht_logic.specs.Rules.Calls.{InBody, Dealt, dealt, with_result, after_do}
use Rattle.tht_logic.specs.Rules.Bodies as rules
use Rattle.tht_logic.proofs.Sequence.{in_sequence}
use Rattle.assn_laws.proofs.Answers.{from_ok, from_unless, from_true}
use Rattle.hoare_laws.proofs.Growing.{same_scope, grows_with, same_values_bind, with_result_values}
use Rattle.hoare_laws.proofs.Places.{Setting, Aim, IsAt, Keeping, GoesOn, Meet, BodySound, StmtSound, moved}
use Rattle.hoare_laws.proofs.FileControl.{Control, dealt_in, result_in}
use Rattle.hoare_laws.proofs.WalkedStmts.{do_walked}
use Rattle.assn_laws.proofs.ProcNames.{procs_with_name}

module _ (at : Setting) (laws : Control at.decl (meaning_in at.file)) where
  abbrev roots : Names
  roots = at.decl.proofs.roots

  -- the procs meet their heads for all numbers of steps up to one for which they do
  pub meet_fewer : (j k : ℕ) → j ≤ k → Meet at k → Meet at j
  meet_fewer j k l meet n x e i m = meet n x e i (omega (arith, l, m))

  pub do_sound : (spot : Spot) (x : List ℕ) (r : Sort) (ns : List ℕ) (whole : Whole) (in_walk : w.InBody) (refused : InBody) (box : Assn) → BodySound at whole in_walk refused
      → StmtSound at (stmt_at roots (f.Do x r ns whole box)) (w.statement_at (f.Do x r ns in_walk box) spot) (λ c. after_do spot c x r ns refused box)
  do_sound spot x r ns whole in_walk refused box sound aim k meet names c next env h xs vs here e ok code goes_on =
      let walked = do_walked spot names aim.post.sort x r ns in_walk box e in
      let post : Post = record { result = x; sort = r; assn = box } in
      let last : Dealt → Checked Context = λ d. on_true spot R10 (assn_fits box) (with_result spot (record c { atoms = d.frame }) x r box) in
      let first = from_ok (dealt spot ns c.atoms) (λ d. unless_refused (refused post (record c { atoms = d.given })) (last d)) next ok in
      let d : Dealt = first.0 in
      let second = from_unless (refused post (record c { atoms = d.given })) (last d) next first.2 in
      let third = from_true spot R10 (assn_fits box) (with_result spot (record c { atoms = d.frame }) x r box) next second.1 in
      let split = dealt_in at laws names c env h here.inside spot ns d first.1 in
      let inner : Aim at = record {
        first = names;
        start = c.scope;
        old = env;
        post = post;
        matches = here.inside.matches;
        knows = here.inside.knows;
        new_result = walked.0.new;
        post_walked = walked.0.box;
      } in
      let place : IsAt at inner names (record c { atoms = d.given }) env split.0 xs vs = record {
        inside = split.3;
        procs = here.procs;
        values = here.values;
        grown = same_scope names;
        same = λ y s g. refl;
      } in
      let body = sound inner k meet names (record c { atoms = d.given }) env split.0 xs vs place walked.1 second.0 in
      in_sequence at.F no_invariant at.above at.b (λ v. closed (is v ∷ vs) (code (x ∷ xs))) split.1 (post_of (meaning_in at.file) roots env post) (post_of (meaning_in at.file) roots aim.old aim.post)
      k (closed vs (whole xs)) split.0 h split.2 body
      (λ j l v q i holds joins.
      goes_on j l (bind env x (is v)) i (x ∷ xs) (is v ∷ vs)
      (moved at aim names c env h xs vs here (walk.with_result names x r) next (bind env x (is v)) i (x ∷ xs) (is v ∷ vs)
      (result_in at laws names (record c { atoms = d.frame }) env split.1 split.4 next spot x r box walked.0.new walked.0.box third.1 v holds.0 q i holds.1 joins)
      (procs_with_name at.decl.procs names x (class.Program r) (λ o. tt) here.procs)
      (with_result_values roots names env xs vs here.values x r (is v))
      (grows_with names x (class.Program r) walked.0.new)
      (same_values_bind roots names c.scope here.inside.matches env x (is v) walked.0.new)))
