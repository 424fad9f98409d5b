use Rattle.std.proofs.Common.{◌≡◌, ◌≤◌, ◌++◌, length, string_bytes}
use Rattle.tht_tree.specs.Texts.{order_text, run_lines, runs_of}
use Rattle.tht_front.proofs.report.write_order.Given as goal

abbrev pub invariant-loop-rest : goal.invariant-loop-rest
invariant-loop-rest l =
    (string_bytes l.text ++ run_lines l.place (runs_of l.rest) ≡ string_bytes l.fn.text ++ order_text l.order)
    × (l.place ≤ 15)

abbrev pub decreases-loop-rest : goal.decreases-loop-rest
decreases-loop-rest l = length l.rest
