use Rattle.std.proofs.Common.{refl}
use Rattle.std.specs.String.{string_bytes}
use Rattle.program_forms.proofs.Leveled.{leveled_more, leveled_same, shadowed_more, shadowed_same, names_bound}
use Rattle.program_forms.proofs.levels.add.Goals as goal

pub returns-in_err-push-clause-leveled : goal.returns-in_err-push-clause-leveled
returns-in_err-push-clause-leveled c = λ e are. leveled_same c.args.levels.now c.args.levels.now c.args.bound.now c.push.new.self refl c.in_err-push.ensures.err are

pub returns-in_err-push-clause-shadowed : goal.returns-in_err-push-clause-shadowed
returns-in_err-push-clause-shadowed c = λ o are shadowed. shadowed_same c.args.bound.now c.push.new.self c.in_err-push.ensures.err shadowed

pub returns-in-Ok-clause-names : goal.returns-in-Ok-clause-names
returns-in-Ok-clause-names c = names_bound c.args.bound.now c.push.new.self c.args.shadow c.in_ok-push.ensures.ok

pub returns-in-Ok-clause-leveled : goal.returns-in-Ok-clause-leveled
returns-in-Ok-clause-leveled c = λ e are.
    leveled_more c.args.levels.now c.put.new.levels c.args.bound.now c.push.new.self c.args.shadow (string_bytes c.args.key) c.len-level.result c.in_ok-push.ensures.ok e c.len-level.ensures c.in-Ok.ensures.ok are

pub returns-in-Ok-clause-shadowed : goal.returns-in-Ok-clause-shadowed
returns-in-Ok-clause-shadowed c = λ o are shadowed. shadowed_more c.args.levels.now c.args.bound.now c.push.new.self c.args.shadow c.in_ok-push.ensures.ok o are shadowed

pub returns-in-Err-clause-leveled : goal.returns-in-Err-clause-leveled
returns-in-Err-clause-leveled c = λ e are.
    leveled_same c.args.levels.now c.put.new.levels c.args.bound.now c.drop_last.new.bound c.in-Err.ensures.err (c.drop_last.ensures c.args.bound.now c.args.shadow c.in_ok-push.ensures.ok) are

pub returns-in-Err-clause-shadowed : goal.returns-in-Err-clause-shadowed
returns-in-Err-clause-shadowed c = λ o are shadowed. shadowed_same c.args.bound.now c.drop_last.new.bound (c.drop_last.ensures c.args.bound.now c.args.shadow c.in_ok-push.ensures.ok) shadowed
