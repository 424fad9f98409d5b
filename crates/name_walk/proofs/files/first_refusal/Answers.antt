use Rattle.std.proofs.Common.{◌∙◌, ap}
use Rattle.tht_tree.specs.Walk.Decls.{after_decl}
use Rattle.term_walk.specs.Scopes.{scope_of}
use Rattle.name_walk.specs.Known.{before_of}
use Rattle.std.proofs.lemmas.Result.{IfOk-weaker}
use Rattle.name_walk.proofs.Declared.{decl_refused, decl_passed, decls_over}
use Rattle.name_walk.proofs.files.first_refusal.Goals as goal

pub returns-in-Some : goal.returns-in-Some
returns-in-Some c =
    decl_refused c.as_slice-decls.result.now c.loop-decl.decl-index c.decl-item.result c.loop-decl-test.true c.decl-item.is c.has_invariant-with_invariant.result c.args.file.now.main
    (before_of c.loop-decl.seen (scope_of c.loop-decl.scope)) c.in_ok-refusal.field-0 _ c.loop-decl.invariant c.in_ok-refusal.ensures.ok c.in-Some.refusal c.in-Some.is

pub loop-decl-preserved : goal.loop-decl-preserved
loop-decl-preserved c =
    decl_passed c.as_slice-decls.result.now c.loop-decl.decl-index c.decl-item.result c.loop-decl-test.true c.decl-item.is c.has_invariant-with_invariant.result c.args.file.now.main
    (before_of c.loop-decl.seen (scope_of c.loop-decl.scope)) c.in_ok-refusal.field-0 _ c.loop-decl.invariant c.in_ok-refusal.ensures.ok (before_of c.in_ok-seen.seen (scope_of c.declare.new.scope))
    (c.in_ok-seen.ensures ∙ ap (λ z. after_decl c.decl-item.result.kind (before_of c.loop-decl.seen z)) c.in_ok-refusal.ensures.same) c.in_default.is

pub returns : goal.returns
returns c =
    IfOk-weaker c.walk_main.result _ _ (λ r e. e ∙ decls_over c.as_slice-decls.result.now c.loop-decl.decl-index c.loop-decl-test.false c.has_invariant-with_invariant.result c.args.file.now.main
    (before_of c.loop-decl.seen (scope_of c.loop-decl.scope)) _ c.loop-decl.invariant) (c.walk_main.ensures.ok c.loop-decl.seen)
