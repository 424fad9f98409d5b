-- What is put in inside binders, as one list.
use Rattle.std.specs.Prelude.{◌∷◌}
use Rattle.tht_tree.specs.declared.term.Term.TheVariants.{Var}
use Rattle.tht_tree.specs.Normal.Putting.{Puts}
use Rattle.pure_terms.specs.declared.puts.Inside.{Inside, fold-Inside}
use Rattle.pure_terms.specs.declared.puts.Inside.TheOpen as inside

abbrev pub puts_at : inside.Inside-F Puts → Puts
puts_at (inside.Terms by) = by.now
puts_at (inside.Renamed x y puts) = (x.now, Var y.now) ∷ puts.now

abbrev pub puts_of : Inside → Puts
puts_of = fold-Inside Puts puts_at
