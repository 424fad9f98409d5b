-- Parts of the readers of statements, and the trees of those that differ in their first word alone.
use Rattle.std.specs.Prelude.{ℕ}
use Rattle.tht_tree.specs.declared.token.TokenKind.TheVariants as k
use Rattle.tht_tree.specs.declared.term.Term.{Term}
use Rattle.tht_tree.specs.declared.proof.Proof.{Proof}
use Rattle.tht_tree.specs.declared.body.StmtKind.{StmtKind}
use Rattle.tht_tree.specs.declared.body.StmtKind.TheVariants as c
use Rattle.tht_grammar.specs.Steps.{Reader, ◌>>◌, expect}
use Rattle.tht_grammar.specs.Reading.{number}
use Rattle.tht_parse.specs.declared.statements.OfCell.{OfCell}
use Rattle.tht_parse.specs.declared.statements.OfCell.TheVariants as w

abbrev pub of_cell : OfCell → Term → ℕ → Proof → StmtKind
of_cell w.Free = c.Free
of_cell w.Publish = c.Publish
of_cell w.Retract = c.Retract

-- "at" NUM
abbrev pub at_number : Reader ℕ
at_number = expect k.At >> number
