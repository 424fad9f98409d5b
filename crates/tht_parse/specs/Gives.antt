-- Parts of the readers of gives.
use Rattle.tht_tree.specs.declared.token.TokenKind.TheVariants as k
use Rattle.tht_tree.specs.declared.give.GiveKind.{GiveKind}
use Rattle.tht_tree.specs.declared.give.GiveKind.TheVariants as g
use Rattle.tht_tree.specs.Grammar.{Nested, Tree, a_proof}
use Rattle.tht_grammar.specs.Steps.{Reader, ◌>>=◌, ◌>>◌, pure, expect}

-- what follows "[": proof "]"
abbrev pub give_fact : ((n : Nested) → Reader (Tree n)) → Reader GiveKind
give_fact inner = inner a_proof >>= (λ q. expect k.RBracket >> pure (g.Fact q))
