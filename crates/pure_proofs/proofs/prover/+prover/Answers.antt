use Rattle.std.proofs.Common.{◌≡◌, None, sym, ◌∙◌, ap}
use Rattle.std.proofs.lemmas.Result.{IfOk-weaker}
use Rattle.tht_tree.specs.declared.rule.RuleCode.TheVariants.{R5}
use Rattle.tht_tree.specs.declared.proof.LinEntry.{out-LinEntry}
use Rattle.tht_tree.specs.Rules.Proofs.{proves, needs_same_normal, entry_refused}
use Rattle.tht_tree.specs.Rules.Refusals.{needs, ◌▸◌}
use Rattle.pure_proofs.specs.Facts.{denied_by}
use Rattle.pure_proofs.specs.Said.{known_in, said, said_of_entry}
use Rattle.pure_proofs.specs.Verdicts.{without_lemmas}
use Rattle.pure_proofs.proofs.Assuming.{no_room, under}
use Rattle.pure_proofs.proofs.Entries.{entry_said, lin_is, monus_is, subst_is, stopped, passed}
use Rattle.pure_proofs.proofs.prover.+prover.Goals as goal

pub prove_facts-returns-in-Some-clause-verdict : goal.prove_facts-returns-in-Some-clause-verdict
prove_facts-returns-in-Some-clause-verdict t c =
    stopped c.args.setting.roots.now c.args.setting.spot (denied_by c.args.aim) c.args.entries.now c.loop-entry.entry-index c.entry-item.result (known_in c.args.known.now.state) (known_in c.loop-entry.known.state)
    c.in_ok-refusal.field-0 _ c.loop-entry-test.true c.entry-item.is c.loop-entry.invariant.left c.loop-entry.invariant.same c.in_ok-refusal.ensures.verdict c.in-Some.refusal c.in-Some.is

pub prove_facts-loop-entry-preserved : goal.prove_facts-loop-entry-preserved
prove_facts-loop-entry-preserved t c = record {
  left =
      passed c.args.setting.roots.now c.args.setting.spot (denied_by c.args.aim) c.args.entries.now c.loop-entry.entry-index c.entry-item.result (known_in c.args.known.now.state) (known_in c.loop-entry.known.state)
      c.in_ok-refusal.field-0 _ c.loop-entry-test.true c.entry-item.is c.loop-entry.invariant.left c.loop-entry.invariant.same c.in_ok-refusal.ensures.verdict c.in_default.is;
  same = c.in_ok-refusal.ensures.kept ∙ c.loop-entry.invariant.same;
}

pub prove_kind-returns-in-Lin-clause-verdict : goal.prove_kind-returns-in-Lin-clause-verdict
prove_kind-returns-in-Lin-clause-verdict t c = rw (c.in-Lin.is, lin_is, ← c.as_slice.ensures) c.by_lin.ensures.verdict

pub prove_under-returns-in-Ok-clause-verdict : goal.prove_under-returns-in-Ok-clause-verdict
unfolding known_in
prove_under-returns-in-Ok-clause-verdict t c =
    under c.args.setting.spot c.args.formula (said c.args.setting.roots.now c.args.q.now) (known_in c.args.known.now.state) c.args.goal.now c.prove_proof-verdict.result c.in_ok-name.name c.args.name.now
    (known_in c.assume.new.self.state) c.in_ok-name.ensures c.in-Ok.ensures.fits c.in-Ok.ensures.ok c.prove_proof-verdict.ensures.verdict

pub prove_under-returns-in-Ok-clause-kept : goal.prove_under-returns-in-Ok-clause-kept
unfolding known_in
prove_under-returns-in-Ok-clause-kept t c =
    c.forget.ensures (known_in c.args.known.now.state) c.in_ok-name.name c.args.formula (c.prove_proof-verdict.ensures.kept ∙ c.in-Ok.ensures.ok) (sym c.in-Ok.ensures.shadowed)

pub prove_under-returns-in-Err-Rule-clause-verdict : goal.prove_under-returns-in-Err-Rule-clause-verdict
unfolding known_in
prove_under-returns-in-Err-Rule-clause-verdict t c =
    no_room c.args.setting.spot c.args.formula (said c.args.setting.roots.now c.args.q.now) (known_in c.args.known.now.state) c.args.goal.now c.in_ok-name.name c.args.name.now c.in-Err-Rule.refusal c.in_ok-name.ensures
    (rw c.in-Err-Rule.field-0-is at c.in-Err-Rule.ensures.fits)

pub prove_fact-returns-clause-verdict : goal.prove_fact-returns-clause-verdict
prove_fact-returns-clause-verdict t c =
    let roots = c.args.setting.roots.now in
    let k = known_in c.args.known.now.state in
    let aim = denied_by c.args.aim in
    let e = c.args.entry.now in
    let inside = proves c.args.setting.spot (said roots (out-LinEntry e).proof) k (out-LinEntry e).fact in
    IfOk-weaker c.prove_given.result (λ r. r ≡ inside) (λ r. r ≡ entry_refused (without_lemmas roots) c.args.setting.spot k aim (said_of_entry roots e))
    (λ r h. h ∙ sym (ap (λ b. needs c.args.setting.spot R5 b ▸ inside) (sym c.if-not-is_fact.ensures)) ∙ sym (entry_said roots c.args.setting.spot k aim e))
    (rw (c.get.ensures, c.get-2.ensures) at c.prove_given.ensures.verdict)

pub prove_kind-returns-in-Monus-clause-verdict : goal.prove_kind-returns-in-Monus-clause-verdict
prove_kind-returns-in-Monus-clause-verdict t c = rw (c.in-Monus.is, monus_is, ← c.get-in-Monus.ensures) c.by_monus.ensures.verdict

pub prove_kind-returns-in-Subst-clause-verdict : goal.prove_kind-returns-in-Subst-clause-verdict
prove_kind-returns-in-Subst-clause-verdict t c =
    rw (c.in-Subst.is, subst_is, ← c.get-in-Subst.ensures, ← c.get-in-Subst-2.ensures, ← c.get-in-Subst-3.ensures, ← c.get-in-Subst-4.ensures, ← c.get-in-Subst-5.ensures) c.by_substitution.ensures.verdict

pub by_recast-returns-in-None-clause-verdict : goal.by_recast-returns-in-None-clause-verdict
by_recast-returns-in-None-clause-verdict t c =
    let k = known_in c.args.known.now.state in
    let was = c.args.t.now in
    let wanted = c.args.goal.now in
    let behind = needs_same_normal c.args.setting.spot k.scope was wanted in
    let first = proves c.args.setting.spot (said c.args.setting.roots.now c.args.q.now) k was in
    let none : None ≡ first = sym c.in-None.is ∙ c.in_ok-refusal.ensures.verdict in
    IfOk-weaker c.have_one_form.result (λ r. r ≡ needs_same_normal c.args.setting.spot (known_in c.prove_given.new.known.state).scope was wanted) (λ r. r ≡ first ▸ behind)
    (λ r h. h ∙ ap (λ z. needs_same_normal c.args.setting.spot z.scope was wanted) c.in_ok-refusal.ensures.kept ∙ ap (λ o. o ▸ behind) none)
    c.have_one_form.ensures
