use Rattle.std.proofs.Common.{◌≡◌, drop}
use Rattle.tht_tree.specs.Walk.Codes.{◌▸◌}
use Rattle.tht_tree.specs.Walk.Files.{decls, main, after_decls, first_refusal}
use Rattle.term_walk.specs.Scopes.{scope_of}
use Rattle.name_walk.specs.Known.{before_of}
use Rattle.name_walk.proofs.files.first_refusal.Given as goal

abbrev pub invariant-loop-decl : goal.invariant-loop-decl
invariant-loop-decl l =
    let rest = drop l.decl-index l.decls in
    let before = before_of l.seen (scope_of l.scope) in
    first_refusal l.file ≡ (decls l.with_invariant rest before ▸ main l.file.main (after_decls rest before))
