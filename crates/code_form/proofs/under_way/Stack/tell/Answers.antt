use Rattle.std.proofs.Common.{◌≡◌, ◌≤◌, [], ◌∷◌, ◌++◌, List, sym, ◌∙◌, ap, subst, OnOk, IfOk, Ok, Err, Result}
use Rattle.std.specs.Option.{option_copied}
use Rattle.tht_logic.specs.Machine.{and_then}
use Rattle.code_form.specs.declared.expr.Expr.{Expr}
use Rattle.code_form.specs.StackValue.{StackValue}
use Rattle.code_form.specs.Stacks.{env_of, behind_of, stack_prog}
use Rattle.code_form.specs.Statements.{HasFewCells}
use Rattle.code_form.specs.Codes.{means_of, body_at}
use Rattle.code_form.specs.Means.{cut}
use Rattle.code_form.specs.Stack.{arguments_of}
use Rattle.code_form.proofs.Passed.{GoesOn, goes_on, GoesIn, goes_in, nowhere}
use Rattle.code_form.proofs.under_way.Stack.tell.Goals as goal

on_ok_map : {T E A B : Type 0} (r : Result T E) → (A → B) → OnOk r A → OnOk r B
on_ok_map (Ok x) f a = f a
on_ok_map (Err e) f a = tt

if_ok_map : {T E : Type 0} {P Q : T → Type 0} (r : Result T E) → ((x : T) → P x → Q x) → IfOk r P → IfOk r Q
if_ok_map (Ok x) f a = f x a
if_ok_map (Err e) f a = tt

pub go_into-requires : goal.go_into-requires
go_into-requires c =
    let s : StackValue = c.args.self.now in
    (goes_in c.args.code.now c.args.place s c.in-At.at c.in-Some.node.now c.args.told c.in-In.into c.args.code.now.found (sym (ap (λ (z : StackValue). z.front) c.self.view_is) ∙ c.in-At.is)
    (sym c.get.ensures.value ∙ ap option_copied c.in-Some.is) (sym c.way_at.ensures.way ∙ c.in-In.is) c.requires.takes).less

pub unreachable-requires-in-Nowhere : goal.unreachable-requires-in-Nowhere
unreachable-requires-in-Nowhere c =
    let s : StackValue = c.args.self.now in
    nowhere c.args.code.now c.args.place s c.in-At.at c.in-Some.node.now c.args.told (sym (ap (λ (z : StackValue). z.front) c.self.view_is) ∙ c.in-At.is) (sym c.get.ensures.value ∙ ap option_copied c.in-Some.is) c.requires.of_code
    (sym c.way_at.ensures.way ∙ c.in-Nowhere.is) c.requires.takes

pub returns-in-On-clause-program : goal.returns-in-On-clause-program
returns-in-On-clause-program c =
    let s : StackValue = c.args.self.now in
    let g : GoesOn c.args.code.now c.args.place s c.in-At.at c.in-Some.node.now c.args.told c.in-On.after =
    goes_on c.args.code.now c.args.place s c.in-At.at c.in-Some.node.now c.args.told c.in-On.after (sym (ap (λ (z : StackValue). z.front) c.self.view_is) ∙ c.in-At.is) (sym c.get.ensures.value ∙ ap option_copied c.in-Some.is)
    (sym c.way_at.ensures.way ∙ c.in-On.is) c.requires.takes in
    on_ok_map c.go_past.result (λ e. e ∙ g.program) c.go_past.ensures.program

pub returns-in-On-clause-cells : goal.returns-in-On-clause-cells
returns-in-On-clause-cells c =
    let s : StackValue = c.args.self.now in
    let g : GoesOn c.args.code.now c.args.place s c.in-At.at c.in-Some.node.now c.args.told c.in-On.after =
    goes_on c.args.code.now c.args.place s c.in-At.at c.in-Some.node.now c.args.told c.in-On.after (sym (ap (λ (z : StackValue). z.front) c.self.view_is) ∙ c.in-At.is) (sym c.get.ensures.value ∙ ap option_copied c.in-Some.is)
    (sym c.way_at.ensures.way ∙ c.in-On.is) c.requires.takes in
    if_ok_map c.go_past.result (λ n e. e ∙ sym g.cells) c.go_past.ensures.cells

pub returns-in-On-clause-few : goal.returns-in-On-clause-few
returns-in-On-clause-few c =
    let few : c.in-On.after.cells ≤ 8 = subst HasFewCells c.in-On.is c.way_at.ensures.few in
    if_ok_map c.go_past.result (λ n e. subst (λ k. k ≤ 8) (sym e) few) c.go_past.ensures.cells

pub returns-in-In-clause-program : goal.returns-in-In-clause-program
returns-in-In-clause-program c =
    let s : StackValue = c.args.self.now in
    let g : GoesIn c.args.code.now c.args.place s c.in-At.at c.in-Some.node.now c.args.told c.in-In.into =
    goes_in c.args.code.now c.args.place s c.in-At.at c.in-Some.node.now c.args.told c.in-In.into c.args.code.now.found (sym (ap (λ (z : StackValue). z.front) c.self.view_is) ∙ c.in-At.is)
    (sym c.get.ensures.value ∙ ap option_copied c.in-Some.is) (sym c.way_at.ensures.way ∙ c.in-In.is) c.requires.takes in
    on_ok_map c.go_into.result (λ e. subst (λ (es : List Expr). stack_prog c.args.code.now c.go_into.new.self ≡ and_then (body_at c.args.code.now c.in-In.into.body (arguments_of (env_of s) es)) (λ v. and_then (cut c.in-At.at (means_of c.args.code.now) c.in-In.into.next (env_of s ++ v ∷ [])) (behind_of c.args.code.now s))) c.arguments.ensures e ∙ g.program) c.go_into.ensures.program

pub returns-in-In-clause-cells : goal.returns-in-In-clause-cells
returns-in-In-clause-cells c =
    let s : StackValue = c.args.self.now in
    let g : GoesIn c.args.code.now c.args.place s c.in-At.at c.in-Some.node.now c.args.told c.in-In.into =
    goes_in c.args.code.now c.args.place s c.in-At.at c.in-Some.node.now c.args.told c.in-In.into c.args.code.now.found (sym (ap (λ (z : StackValue). z.front) c.self.view_is) ∙ c.in-At.is)
    (sym c.get.ensures.value ∙ ap option_copied c.in-Some.is) (sym c.way_at.ensures.way ∙ c.in-In.is) c.requires.takes in
    if_ok_map c.go_into.result (λ n e. e ∙ sym g.cells) c.go_into.ensures.cells
