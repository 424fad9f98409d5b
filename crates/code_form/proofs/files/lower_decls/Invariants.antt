use Rattle.std.proofs.Common.{◌≡◌, take, None}
use Rattle.tht_logic.specs.Procedures.{procedures_of}
use Rattle.code_form.specs.Files.{HasBodies}
use Rattle.code_form.proofs.files.lower_decls.Given as goal

abbrev pub invariant-loop-decl : goal.invariant-loop-decl
invariant-loop-decl l = record {
  procs : l.work.procs ≡ l.fn.work.procs;
  bodies : HasBodies l.fn.work l.fn.bodies (λ f. None) → HasBodies l.work l.bodies (procedures_of (take l.decl-index l.decls));
}
