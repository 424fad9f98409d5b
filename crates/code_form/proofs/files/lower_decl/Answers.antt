use Rattle.code_form.proofs.files.lower_decl.Goals as goal

pub returns-in-Proc-clause-bodies : goal.returns-in-Proc-clause-bodies
returns-in-Proc-clause-bodies c = rw c.in-Proc.is (rw (c.get.ensures, c.get-in-Proc.ensures) at c.lower_proc.ensures.bodies)
