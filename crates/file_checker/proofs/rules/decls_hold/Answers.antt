use Rattle.std.proofs.Common.{◌≡◌}
use Rattle.heap_rules.specs.Declarations.{declared_by}
use Rattle.file_checker.specs.Refusals.{decls_refused}
use Rattle.file_checker.proofs.Refused.{decl_passed, decls_over}
use Rattle.file_checker.proofs.rules.decls_hold.Goals as goal

pub loop-decl-preserved : goal.loop-decl-preserved
loop-decl-preserved c =
    decl_passed (declared_by c.args.predicates.now) c.args.decls.now c.loop-decl.decl-index c.decl-item.result c.loop-decl-test.true c.decl-item.is
    (decls_refused (declared_by c.args.predicates.now) c.args.decls.now) c.loop-decl.invariant c.in_ok-decl_holds.ensures

pub returns : goal.returns
returns c =
    decls_over (declared_by c.args.predicates.now) c.args.decls.now c.loop-decl.decl-index c.loop-decl-test.false
    (decls_refused (declared_by c.args.predicates.now) c.args.decls.now) c.loop-decl.invariant
