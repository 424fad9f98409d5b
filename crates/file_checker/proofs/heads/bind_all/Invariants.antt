use Rattle.std.proofs.Common.{◌≡◌, drop}
use Rattle.tht_tree.specs.Rules.Context.{context_of}
use Rattle.file_checker.specs.Starts.{with_bound}
use Rattle.file_checker.proofs.heads.bind_all.Given as goal

-- with the variables that are left it is what it will be
abbrev pub invariant-loop-param : goal.invariant-loop-param
invariant-loop-param l = with_bound (context_of l.initial.known.state) l.params ≡ with_bound (context_of l.known.state) (drop l.param-index l.params)
