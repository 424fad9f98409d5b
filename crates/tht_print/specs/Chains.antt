-- Chains of operators.
use Rattle.std.specs.Prelude.{◌≡◌, ℕ, ◌<◌, ◌==◌, ◌||◌, Bool}
use Rattle.tht_tree.specs.declared.term.Term.{Term, size-Term}
use Rattle.tht_tree.specs.Layout.{joined, shown_term}
use Rattle.tht_print.specs.declared.term.Link.{Link}

-- the ranks of `or`, `and`, sums and products
abbrev pub is_of_operators : ℕ → Bool
is_of_operators rank = (rank == 1) || (rank == 2) || (rank == 6) || (rank == 7)

-- the term is printed as a chain of these operands
pub record IsLink (t : Term) (link : Link) : Type 0 where
  pub shown : shown_term t ≡ joined link.rank link.op (shown_term link.left.now) (shown_term link.right.now)
  pub left_within : size-Term link.left.now < size-Term t
  pub right_within : size-Term link.right.now < size-Term t
