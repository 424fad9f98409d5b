use Rattle.std.proofs.Common.{◌≡◌, ◌+◌, ◌-◌, ap, sym, ◌∙◌, arith, drop, take}
use Rattle.std.proofs.lemmas.List.{drop-take}
use Rattle.code_form.proofs.frames.env_to.Goals as goal

pub returns : goal.returns
returns c =
    let e : c.args.base + (c.args.len - c.args.base) ≡ c.args.len = omega (arith, c.requires.0) in
    sym (drop-take c.args.base (c.args.len - c.args.base) c.args.values.now) ∙ ap (λ n. drop c.args.base (take n c.args.values.now)) e
