use Rattle.std.proofs.Common.{◌∙◌, sym, subst, arith}
use Rattle.tagged_interp.specs.Steps.{SaysTheStep, IsUnchangedUnlessWent}
use Rattle.tht_front.proofs.Going.{begins, costs, went_on, spent_at, too_big_at, touch_at, wrong_at, done_at, no_end}
use Rattle.tht_front.proofs.run.run.Goals as goal

pub steps-init : goal.steps-init
steps-init c = begins c.args.file.now c.args.budget c.in-Ok.lab c.in-Ok.ensures.bodies c.in-Ok.ensures.start

pub overflow_sub-left : goal.overflow_sub-left
overflow_sub-left c =
    let one = costs c.args.file.now c.args.budget c.steps.lab c.steps.left c.steps.invariant c.in-Went.cost c.step.new.self (subst (λ s. SaysTheStep c.steps.lab 0 c.steps.left s c.step.new.self) c.in-Went.is c.in-Ok-step.ensures.says) in let cost = one.0 in let less = one.1 in omega arith

pub steps-smaller : goal.steps-smaller
steps-smaller c =
    let one = costs c.args.file.now c.args.budget c.steps.lab c.steps.left c.steps.invariant c.in-Went.cost c.step.new.self (subst (λ s. SaysTheStep c.steps.lab 0 c.steps.left s c.step.new.self) c.in-Went.is c.in-Ok-step.ensures.says) in let cost = one.0 in let less = one.1 in omega arith

pub steps-preserved : goal.steps-preserved
steps-preserved c =
    went_on c.args.file.now c.args.budget c.steps.lab c.steps.left c.steps.invariant c.in-Went.cost c.step.new.self (subst (λ s. SaysTheStep c.steps.lab 0 c.steps.left s c.step.new.self) c.in-Went.is c.in-Ok-step.ensures.says)
    (subst (λ s. IsUnchangedUnlessWent c.steps.lab s c.step.new.self) c.in-Went.is c.in-Ok-step.ensures.keeps)

pub returns-in-Some : goal.returns-in-Some
returns-in-Some c =
    done_at c.args.file.now c.args.budget c.steps.lab c.steps.left c.steps.invariant c.step.new.self c.in-Some.value (subst (λ s. SaysTheStep c.steps.lab 0 c.steps.left s c.step.new.self) c.in-Cannot.is c.in-Ok-step.ensures.says)
    (subst (λ s. IsUnchangedUnlessWent c.steps.lab s c.step.new.self) c.in-Cannot.is c.in-Ok-step.ensures.keeps) (λ m t stands. sym c.in-Some.is ∙ c.value.ensures m t stands)

pub unreachable-requires : goal.unreachable-requires
unreachable-requires c =
    no_end c.args.file.now c.args.budget c.steps.lab c.steps.left c.steps.invariant c.step.new.self (subst (λ s. SaysTheStep c.steps.lab 0 c.steps.left s c.step.new.self) c.in-Cannot.is c.in-Ok-step.ensures.says)
    (subst (λ s. IsUnchangedUnlessWent c.steps.lab s c.step.new.self) c.in-Cannot.is c.in-Ok-step.ensures.keeps) (λ m t stands. sym c.in-None.is ∙ c.value.ensures m t stands)

pub returns-in-Longer : goal.returns-in-Longer
returns-in-Longer c = spent_at c.args.file.now c.args.budget c.steps.lab c.steps.left c.steps.invariant c.step.new.self (subst (λ s. SaysTheStep c.steps.lab 0 c.steps.left s c.step.new.self) c.in-Longer.is c.in-Ok-step.ensures.says)

pub returns-in-Big : goal.returns-in-Big
returns-in-Big c = too_big_at c.args.file.now c.args.budget c.steps.lab c.steps.left c.steps.invariant c.step.new.self (subst (λ s. SaysTheStep c.steps.lab 0 c.steps.left s c.step.new.self) c.in-Big.is c.in-Ok-step.ensures.says)

pub returns-in-Touch : goal.returns-in-Touch
returns-in-Touch c = touch_at c.args.file.now c.args.budget c.steps.lab c.steps.left c.steps.invariant c.in-Touch.place c.step.new.self (subst (λ s. SaysTheStep c.steps.lab 0 c.steps.left s c.step.new.self) c.in-Touch.is c.in-Ok-step.ensures.says)

pub returns-in-Wrong : goal.returns-in-Wrong
returns-in-Wrong c = wrong_at c.args.file.now c.args.budget c.steps.lab c.steps.left c.steps.invariant c.step.new.self (subst (λ s. SaysTheStep c.steps.lab 0 c.steps.left s c.step.new.self) c.in-Wrong.is c.in-Ok-step.ensures.says)
