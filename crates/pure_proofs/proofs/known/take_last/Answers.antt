use Rattle.std.proofs.Common.{◌≡◌, sym, ◌∙◌, ap}
use Rattle.tht_tree.specs.declared.state.Local.TheVariants.{Hypothesis}
use Rattle.tht_tree.specs.Rules.Context.{with_local}
use Rattle.pure_proofs.proofs.Assumed.{last_same}
use Rattle.pure_proofs.proofs.known.take_last.Goals as goal

pub returns-clause-back : goal.returns-clause-back
returns-clause-back c = λ was h u e f.
    let hyp = c.in_ok-hyp.hyp in
    let last = last_same c.pop.new.self was.hyps hyp (record { name = h; formula = u }) (sym c.in_ok-hyp.ensures ∙ ap (λ z. z.hyps) e) in
    let name : hyp.name ≡ h = ap (λ z. z.name) last.1 in
    let scope = c.put_back.ensures was.scope (ap (λ z. z.scope) e ∙ ap (λ n. with_local was.scope n Hypothesis) (sym name)) (ap was.scope name ∙ f) in
    λ i. record { scope = scope i; hyps = last.0 i; atoms = (e i).atoms; made = (e i).made }
