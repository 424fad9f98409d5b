-- What the predicates of a file declare.
use Rattle.std.specs.Prelude.{◌≡◌, []}
use Rattle.tht_logic.specs.Rules.Definitions.{Declarations}
use Rattle.tht_logic.specs.Rules.Files.{declared}
use Rattle.heap_rules.specs.declared.places.Predicates.{Predicates}

-- these predicates, where there are no roots and no lemma can be used
unfoldable pub declared_by : Predicates → Declarations
declared_by p = declared [] p.decls.now

pub declared_by_is : (p : Predicates) → declared_by p ≡ declared [] p.decls.now
unfolding declared_by
declared_by_is p = λ i. declared [] p.decls.now
