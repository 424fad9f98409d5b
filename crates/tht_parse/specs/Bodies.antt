-- Parts of the readers of statements.
use Rattle.tht_tree.specs.declared.body.StmtKind.{StmtKind}
use Rattle.tht_tree.specs.declared.body.StmtKind.TheVariants as c
use Rattle.tht_tree.specs.declared.decl.Param.{Param}
use Rattle.tht_tree.specs.Grammar.{Nested, Tree}
use Rattle.tht_grammar.specs.Steps.{Reader, ◌>>=◌, pure}
use Rattle.tht_grammar.specs.Reading.{block}

-- what follows "(" NAME ":" sort "," NAME ":" sort ")" "<-" "par": two blocks
unfoldable pub par_blocks : ((n : Nested) → Reader (Tree n)) → Param → Param → Reader StmtKind
par_blocks inner x y = block inner >>= (λ b. block inner >>= (λ b2.
    pure (c.Par x.name x.sort y.name y.sort b.0 b.1.0 b.1.1 b2.0 b2.1.0 b2.1.1)))
