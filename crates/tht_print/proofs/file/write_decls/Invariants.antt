use Rattle.std.proofs.Common.{◌≡◌, ◌++◌, drop, string_bytes}
use Rattle.tht_tree.specs.Layout.{decl_lines}
use Rattle.tht_print.proofs.file.write_decls.Given as goal

abbrev pub invariant-loop-d : goal.invariant-loop-d
invariant-loop-d l = string_bytes l.fn.text ++ decl_lines l.decls ≡ string_bytes l.text ++ decl_lines (drop l.d-index l.decls)
