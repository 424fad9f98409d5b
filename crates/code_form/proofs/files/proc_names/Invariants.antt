use Rattle.std.proofs.Common.{◌≡◌, [], drop}
use Rattle.code_form.specs.Files.{with_proc_names}
use Rattle.code_form.proofs.files.proc_names.Given as goal

abbrev pub invariant-loop-decl : goal.invariant-loop-decl
invariant-loop-decl l = with_proc_names [] l.decls ≡ with_proc_names l.names (drop l.decl-index l.decls)
