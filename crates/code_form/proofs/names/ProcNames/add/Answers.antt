use Rattle.std.specs.String.{string_bytes}
use Rattle.code_form.proofs.ProcNames.{added_to}
use Rattle.code_form.proofs.names.ProcNames.add.Goals as goal
use Rattle.code_form.proofs.names.ProcNames.add.Goals.{in-Ok, in-Err}

pub returns : goal.returns
returns c = elim c.match-insert.branch [
  | in-Ok w ↦ rw w.result-is (added_to string_bytes c.self.inside.names.keys c.insert.new.self.keys c.in_ok-text.text c.args.self.now c.args.name.now w.in-Ok.ensures.keys c.in_ok-text.ensures c.self.view_is)
  | in-Err w ↦ rw w.result-is tt
]
