use Rattle.std.proofs.Common.{◌≡◌, ◌∙◌, take}
use Rattle.tht_logic.specs.Procedures.{procedures_of}
use Rattle.code_form.proofs.FilesMade.{decls_turn}
use Rattle.code_form.proofs.files.lower_decls.Goals as goal

pub loop-decl-preserved : goal.loop-decl-preserved
loop-decl-preserved c = record {
  procs = c.in_ok-lower_decl.ensures.procs ∙ c.loop-decl.invariant.procs;
  bodies = λ h.
      decls_turn _ _ c.args.decls.now c.loop-decl.decl-index c.decl-item.result c.loop-decl-test.true c.decl-item.is
      (c.in_ok-lower_decl.ensures.bodies (procedures_of (take c.loop-decl.decl-index c.args.decls.now)) (c.loop-decl.invariant.bodies h));
}
