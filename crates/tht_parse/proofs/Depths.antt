-- A construct within those that are open.
use Rattle.std.proofs.Common.{◌≡◌, ℕ, suc, ◌-◌, ◌<◌, ap, arith, List}
use Rattle.tht_tree.specs.Tokens.{Tok}
use Rattle.tht_tree.specs.Grammar.{Nested}
use Rattle.tht_grammar.specs.Reading.{construct, nested}

pub deeper : (depth : ℕ) (n : Nested) (i : List Tok) → 0 < depth → nested depth n i ≡ construct (nested (depth - 1)) n i
unfolding nested
deeper depth n i some = let e : depth ≡ suc (depth - 1) = omega arith in ap (λ d. nested d n i) e
