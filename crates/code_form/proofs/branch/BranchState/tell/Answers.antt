use Rattle.std.proofs.Common.{◌≡◌, ◌∙◌, sym, ap, subst, None, Some}
use Rattle.code_form.specs.declared.branch.Mode.TheVariants as mode
use Rattle.code_form.specs.BranchValue.{BranchValue}
use Rattle.code_form.specs.Stack.{IsAtEnd}
use Rattle.code_form.specs.Stacks.{stack_prog, ended_in}
use Rattle.code_form.specs.Codes.{bodies_of}
use Rattle.code_form.specs.Branches.{next_place}
use Rattle.code_form.proofs.Standings.{takes_in, blocks_on, passed_in_block, left_block, moved_out}
use Rattle.code_form.proofs.BlocksAhead.{not_ended, has_ended}
use Rattle.code_form.proofs.branch.BranchState.tell.Goals as goal

pub pass_in_block-requires-clause-takes : goal.pass_in_block-requires-clause-takes
pass_in_block-requires-clause-takes c =
    let s : BranchValue = c.args.self.now in
    let m : s.mode ≡ mode.InBlock = sym (ap (λ (z : BranchValue). z.mode) c.self.view_is) ∙ c.in-InBlock.is in
    let none : ended_in s.block.front ≡ None = ap (λ (z : BranchValue). ended_in z.block.front) (sym c.self.view_is) ∙ sym c.ended.ensures.value ∙ c.in-None-ended.is in
    blocks_on (stack_prog c.args.code.now s.block) c.args.told (not_ended c.args.code.now s.block c.requires.of_code.block none) (takes_in c.args.code.now s mode.InBlock c.args.told m c.requires.takes)

pub returns-in-Some-ended-clause-standing : goal.returns-in-Some-ended-clause-standing
returns-in-Some-ended-clause-standing c =
    let s : BranchValue = c.args.self.now in
    let m : s.mode ≡ mode.InBlock = sym (ap (λ (z : BranchValue). z.mode) c.self.view_is) ∙ c.in-InBlock.is in
    let at_end : IsAtEnd s.block.front s.block.frames = subst (λ (z : BranchValue). IsAtEnd z.block.front z.block.frames) c.self.view_is c.ended.ensures.at_end in
    let some : ended_in s.block.front ≡ Some c.in-Some-ended.v = ap (λ (z : BranchValue). ended_in z.block.front) (sym c.self.view_is) ∙ sym c.ended.ensures.value ∙ c.in-Some-ended.is in
    left_block c.args.code.now s c.leave_block.new.self (bodies_of c.args.code.now) (next_place s) c.args.told c.leave_block.result c.in-Some-ended.v m (has_ended c.args.code.now s.block c.in-Some-ended.v at_end some) c.leave_block.ensures.standing

pub returns-in-Some-ended-clause-same : goal.returns-in-Some-ended-clause-same
returns-in-Some-ended-clause-same c =
    let s : BranchValue = c.args.self.now in
    let m : s.mode ≡ mode.InBlock = sym (ap (λ (z : BranchValue). z.mode) c.self.view_is) ∙ c.in-InBlock.is in
    let at_end : IsAtEnd s.block.front s.block.frames = subst (λ (z : BranchValue). IsAtEnd z.block.front z.block.frames) c.self.view_is c.ended.ensures.at_end in
    let some : ended_in s.block.front ≡ Some c.in-Some-ended.v = ap (λ (z : BranchValue). ended_in z.block.front) (sym c.self.view_is) ∙ sym c.ended.ensures.value ∙ c.in-Some-ended.is in
    moved_out c.args.code.now s c.leave_block.new.self (bodies_of c.args.code.now) (next_place s) c.args.told c.leave_block.result c.in-Some-ended.v m (has_ended c.args.code.now s.block c.in-Some-ended.v at_end some) c.leave_block.ensures.same

pub returns-in-None-ended-clause-standing : goal.returns-in-None-ended-clause-standing
returns-in-None-ended-clause-standing c =
    let s : BranchValue = c.args.self.now in
    let m : s.mode ≡ mode.InBlock = sym (ap (λ (z : BranchValue). z.mode) c.self.view_is) ∙ c.in-InBlock.is in
    let none : ended_in s.block.front ≡ None = ap (λ (z : BranchValue). ended_in z.block.front) (sym c.self.view_is) ∙ sym c.ended.ensures.value ∙ c.in-None-ended.is in
    passed_in_block c.args.code.now s c.pass_in_block.new.self (bodies_of c.args.code.now) (next_place s) c.args.told c.pass_in_block.result m (not_ended c.args.code.now s.block c.requires.of_code.block none) c.pass_in_block.ensures.standing
