-- Atoms that are dealt split the heap.
use Rattle.std.proofs.Common.{◌≡◌, ℕ, List, Result, Ok, Err, sym, subst}
use Rattle.std.specs.Prelude.{IfOk}
use Rattle.tht_tree.specs.declared.file.Source1.{Source1}
use Rattle.tht_tree.specs.declared.plain.Spot.{Spot}
use Rattle.tht_tree.specs.declared.state.State.{State}
use Rattle.tht_tree.specs.Heaps.{Heap}
use Rattle.tht_tree.specs.Values.{Env}
use Rattle.tht_tree.specs.Rules.Context.{Context, context_of}
use Rattle.tht_tree.specs.Walk.Names as walk
use Rattle.tht_logic.specs.Meanings.{meaning_in}
use Rattle.tht_logic.specs.Rules.Calls.{Dealt, dealt}
use Rattle.tht_logic.specs.Rules.Definitions.{Declarations}
use Rattle.tht_logic.specs.Rules.Scoped.{instance_fits}
use Rattle.assn_laws.specs.FileLaws.{IsIn, proof_in}
use Rattle.assn_laws.specs.Laws.{IsModel}
use Rattle.assn_laws.specs.Walked.{any_fits}
use Rattle.assn_laws.proofs.DealLaw.{deals_split_heaps}
use Rattle.pure_proofs.specs.declared.refusal.Refusal.{Refusal}
use Rattle.shared_rules.specs.Dealing.{Deals}
use Rattle.shared_rules.specs.Splitting.{SplitsBetween}

module _ (c : Context) (file : Source1) (decl : Declarations) (names : walk.Scope) (env : Env) (h : Heap) (is : IsIn file decl names c env h) where
  -- a state that differs in its atoms alone
  with_atoms : (k : Context) → k ≡ record c { atoms = k.atoms } → (x : Heap)
      → IsModel decl (proof_in decl) (instance_fits decl) any_fits (meaning_in file) (record c { atoms = k.atoms }) env x → IsIn file decl names k env x
  with_atoms k e x m =
      let P : Context → Type 0 = λ z. IsIn file decl names z env x in
      subst P (sym e) (record { matches = is.matches; knows = is.knows; state = m })

module _ (c : Context) where
  between : (given frame : Context) (spot : Spot) (ns : List ℕ) → dealt spot ns c.atoms ≡ Ok (record { given = given.atoms; frame = frame.atoms }) → given ≡ record c { atoms = given.atoms }
      → frame ≡ record c { atoms = frame.atoms } → SplitsBetween c given frame
  between given frame spot ns said g f = λ file decl names env h is.
      let d : Dealt = record { given = given.atoms; frame = frame.atoms } in
      let s = deals_split_heaps decl (proof_in decl) (instance_fits decl) any_fits (meaning_in file) c env h is.state spot ns d said in
      (s.0, s.1, s.2, with_atoms c file decl names env h is given g s.0 s.3, with_atoms c file decl names env h is frame f s.1 s.4)

  pub deal_is_sound : (now : Context) (spot : Spot) (ns : List ℕ) (r : Result State Refusal) → Deals r (dealt spot ns c.atoms) now → IfOk r (λ s. context_of s ≡ record c { atoms = (context_of s).atoms })
      → now ≡ record c { atoms = now.atoms } → IfOk r (λ s. SplitsBetween c (context_of s) now)
  deal_is_sound now spot ns (Ok s) said given frame = between (context_of s) now spot ns said given frame
  deal_is_sound now spot ns (Err e) said given frame = tt
