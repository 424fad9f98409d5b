use Rattle.std.proofs.Common.{refl}
use Rattle.code_form.proofs.FilesMade.{on_in_ok, main_keeps}
use Rattle.code_form.proofs.files.lower_main.Goals as goal

pub returns-clause-bodies : goal.returns-clause-bodies
returns-clause-bodies c = on_in_ok c.lower_body.result (λ i low. main_keeps c.args.work.now _ c.lower_body.new.work c.args.body.now i refl refl low) c.lower_body.ensures
