-- What a function that reads ensures: the reader's outcome, unless memory runs out.
use Rattle.std.specs.Prelude.{◌≡◌, List, Result, Ok, Err}
use Rattle.tht_tree.specs.Tokens.{deep, many, version, Tok}
use Rattle.tht_tree.specs.Faults as grammar
use Rattle.tht_tree.specs.Faults.{unexpected, over}
use Rattle.tht_grammar.specs.Steps.{Outcome}
use Rattle.tht_parse.specs.declared.stop.Fault.{Fault}
use Rattle.tht_parse.specs.declared.stop.Fault.TheVariants as f
use Rattle.tht_parse.specs.declared.stop.Stop.{Stop}
use Rattle.tht_parse.specs.declared.stop.Stop.TheVariants as s

abbrev pub fault_of : Fault → grammar.Fault
fault_of f.Unexpected = unexpected
fault_of f.Deep = over deep
fault_of f.Many = over many
fault_of f.Version = over version

-- a fault is the reader's, which stands at the first of the tokens that are left; want of memory says nothing
abbrev pub Stops : {A : Type 0} → Outcome A → Stop → List Tok → Type 0
Stops outcome (s.Fault f) left = outcome ≡ Err (fault_of f, left)
Stops outcome s.Memory left = Unit {0}

-- the value and the tokens that are left are the reader's, or so it stops
abbrev pub Reads : {A : Type 0} → Outcome A → Result A Stop → List Tok → Type 0
Reads outcome (Ok a) left = outcome ≡ Ok (a, left)
Reads outcome (Err stop) left = Stops outcome stop left
