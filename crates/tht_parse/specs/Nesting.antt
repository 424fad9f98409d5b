-- The constructs that count as open, as the grammar has them.
use Rattle.std.specs.Prelude.{◌≡◌, ℕ, ◌<◌, List, Result, Ok, Err}
use Rattle.tht_tree.specs.Tokens.{Tok}
use Rattle.tht_tree.specs.Grammar.{Nested, a_term, after_not, after_link, after_len, an_assn, after_either, a_proof, a_give, after_prefix, a_body}
use Rattle.tht_grammar.specs.Reading.{construct, nested}
use Rattle.tht_parse.specs.declared.nesting.Construct.{Construct}
use Rattle.tht_parse.specs.declared.nesting.Construct.TheVariants as c
use Rattle.tht_parse.specs.declared.stop.Stop.{Stop}
use Rattle.tht_parse.specs.Readings.{Stops}

abbrev pub nested_of : Construct → Nested
nested_of c.Term = a_term
nested_of c.Negated = after_not
nested_of c.Linked = after_link
nested_of c.Measured = after_len
nested_of c.Assn = an_assn
nested_of c.Alternative = after_either
nested_of c.Proof = a_proof
nested_of c.Give = a_give
nested_of c.Prefixed = after_prefix
nested_of c.Body = a_body

-- Inside the construct so many fewer may be open, or nothing is read.
abbrev pub Enters : (n : Nested) → ℕ → List Tok → Result ℕ Stop → Type 0
Enters n depth i (Ok less) = (less < depth) × (nested depth n i ≡ construct (nested less) n i)
Enters n depth i (Err stop) = Stops (nested depth n i) stop i
