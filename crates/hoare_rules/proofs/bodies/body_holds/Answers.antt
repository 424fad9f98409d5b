use Rattle.std.proofs.Common.{◌≡◌, None, subst}
use Rattle.tht_tree.specs.Rules.Context.{context_of}
use Rattle.tht_logic.specs.Triples.{BodyKeeps}
use Rattle.tht_logic.specs.Meanings.{meaning_in}
use Rattle.tht_logic.specs.Rules.Bodies.{body_refused}
use Rattle.hoare_laws.proofs.BodyLaw.{bodies_are_sound}
use Rattle.heap_rules.specs.Declarations.{declared_by}
use Rattle.hoare_rules.proofs.BodyRefusals.{verdict_ok}
use Rattle.hoare_rules.proofs.bodies.body_holds.Goals as goal

pub returns-clause-sound : goal.returns-clause-sound
returns-clause-sound c = λ file names ready order.
    let decl = declared_by c.args.predicates.now in
    let body = c.args.body.now in
    let post = c.args.post.now in
    let start = context_of c.args.state in
    verdict_ok c.check_inner.result (body_refused decl body post (context_of c.in_ok-known.known.state)) (BodyKeeps (meaning_in file) decl.proofs.roots decl.procs start body post)
    (λ e. bodies_are_sound file decl ready names start body post order (subst (λ s. body_refused decl body post (context_of s) ≡ None) c.in_ok-known.ensures.ok e))
    c.check_inner.ensures
