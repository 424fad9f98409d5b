use Rattle.std.proofs.Common.{sym, ◌∙◌, ap}
use Rattle.tht_tree.specs.Rules.Context.{context_of}
use Rattle.tht_logic.specs.Rules.Checking.{unless_refused}
use Rattle.tht_logic.specs.Rules.Steps.{after_step_kind}
use Rattle.heap_rules.specs.Declarations.{declared_by}
use Rattle.heap_rules.specs.Stages.{had, opened_as_variable, not_equal, part_changed}
use Rattle.heap_rules.proofs.Answering.{follows_from}
use Rattle.heap_rules.proofs.Declared.{have_step, variable_step, rewrite_step}
use Rattle.heap_rules.proofs.steps.take_kind.Goals as goal

pub returns-in-Have-clause-follows : goal.returns-in-Have-clause-follows
returns-in-Have-clause-follows c =
    let p = c.args.predicates.now in
    let old = context_of c.args.known.now.state in
    let spot = c.args.spot in
    let x = c.in-Have in
    follows_from c.have.result (had spot old x.name c.get.result.now x.proof) (after_step_kind (declared_by p) spot old c.args.step.now) old (context_of c.have.new.known.state)
    (ap (λ t. had spot old x.name t x.proof) c.get.ensures ∙ sym (have_step p spot old x.name x.formula x.proof) ∙ ap (λ k. after_step_kind (declared_by p) spot old k) (sym x.is)) c.have.ensures.follows

pub returns-in-OpenVar-clause-follows : goal.returns-in-OpenVar-clause-follows
returns-in-OpenVar-clause-follows c =
    let p = c.args.predicates.now in
    let old = context_of c.args.known.now.state in
    let spot = c.args.spot in
    let x = c.in-OpenVar in
    follows_from c.open_as_variable.result (opened_as_variable spot old x.number x.name x.sort) (after_step_kind (declared_by p) spot old c.args.step.now) old (context_of c.open_as_variable.new.known.state)
    (sym (variable_step p spot old x.number x.name x.sort) ∙ ap (λ k. after_step_kind (declared_by p) spot old k) (sym x.is)) c.open_as_variable.ensures.follows

pub returns-in-Rewrite-clause-follows : goal.returns-in-Rewrite-clause-follows
returns-in-Rewrite-clause-follows c =
    let p = c.args.predicates.now in
    let old = context_of c.args.known.now.state in
    let spot = c.args.spot in
    let x = c.in-Rewrite in
    follows_from c.rewrite.result (unless_refused (not_equal spot old x.number x.part c.get-in-Rewrite.result.now x.proof) (part_changed spot old x.number x.part c.get-in-Rewrite.result.now))
    (after_step_kind (declared_by p) spot old c.args.step.now) old (context_of c.rewrite.new.known.state)
    (ap (λ t. unless_refused (not_equal spot old x.number x.part t x.proof) (part_changed spot old x.number x.part t)) c.get-in-Rewrite.ensures
    ∙ sym (rewrite_step p spot old x.number x.part x.term x.proof) ∙ ap (λ k. after_step_kind (declared_by p) spot old k) (sym x.is)) c.rewrite.ensures.follows
