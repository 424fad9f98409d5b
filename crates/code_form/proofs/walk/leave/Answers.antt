use Rattle.std.proofs.Common.{◌≡◌, ◌≤◌, ap, sym, ◌∙◌, ◌+◌, ◌-◌, length, length-drop, drop, take, List, [], ◌∷◌, ◌++◌, arith}
use Rattle.tht_tree.specs.declared.plain.Value.{Value}
use Rattle.code_form.proofs.Lists.{leave_short}
use Rattle.code_form.proofs.walk.leave.Goals as goal

pub returns-clause-env : goal.returns-clause-env
returns-clause-env c =
    let xs : List Value = c.args.values.now.items in
    let keep : c.saturating_sub-keep.result ≡ length (drop c.args.base xs) - c.args.gone = omega (arith, c.saturating_sub-keep.ensures, c.len.ensures, c.args.values.now.ok, length-drop c.args.base xs) in
    ap (drop c.args.base) c.push_reserved.ensures.items ∙
    ap (λ (l : List Value). drop c.args.base (l ++ c.args.v ∷ [])) c.truncate.ensures.items ∙
    leave_short c.args.base c.saturating_sub-keep.result xs c.args.v (omega (arith, keep, c.requires.within, c.args.values.now.ok, length-drop c.args.base xs)) ∙
    ap (λ k. take k (drop c.args.base xs) ++ c.args.v ∷ []) keep
