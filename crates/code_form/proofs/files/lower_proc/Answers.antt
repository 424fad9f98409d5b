use Rattle.std.proofs.Common.{refl}
use Rattle.code_form.proofs.FilesMade.{on_ok, proc_made}
use Rattle.code_form.proofs.files.lower_proc.Goals as goal

pub returns-clause-bodies : goal.returns-clause-bodies
returns-clause-bodies c =
    on_ok c.set_start.result (λ set known h.
    proc_made c.args.work.now _ c.lower_body.new.work c.args.bodies.now c.set_start.new.bodies known (record { head = c.args.head.now; body = c.args.body.now }) c.as_slice.result.now c.in_ok-start.start refl refl
    c.in_ok-work.ensures c.as_slice.ensures c.in_ok-start.ensures set h)
    c.set_start.ensures
