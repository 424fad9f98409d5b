use Rattle.std.proofs.Common.{◌≡◌, ◌+◌, length, reverse}
use Rattle.tht_tree.specs.Syntax.{position}
use Rattle.code_form.proofs.terms.variable.Given as goal

abbrev pub invariant-loop-last : goal.invariant-loop-last
invariant-loop-last l = record {
  found : position l.further (reverse l.rest) l.name ≡ position 0 (reverse l.bound) l.name;
  count : l.further + length l.rest ≡ length l.bound;
}

abbrev pub decreases-loop-last : goal.decreases-loop-last
decreases-loop-last l = length l.rest
