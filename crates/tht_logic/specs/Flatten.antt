-- An assertion as the list of its atoms: what `*` joins, without `emp`. What stands inside an `exists`, an `either` or an
-- instance of a predicate is no part of the list.
use Rattle.std.specs.Prelude.{◌+◌, List, [], ◌∷◌, ◌++◌}
use Rattle.tht_tree.specs.declared.assn.Assn.{Assn, fold-Assn}
use Rattle.tht_tree.specs.declared.assn.Assn.TheVariants as assn
use Rattle.tht_tree.specs.declared.assn.Assn.TheOpen as a
use Rattle.tht_tree.specs.Rules.Context.{Context, with_atom}

-- an assertion and its list (a fold sees no parts of the tree, so it makes the tree again, for what stands whole in the list)
pub record Flat : Type 0 where
  pub whole : Assn
  pub atoms : List Assn

-- one that is an atom itself
abbrev pub an_atom : Assn → Flat
an_atom p = record { whole = p; atoms = p ∷ [] }

abbrev pub flatten_at : a.Assn-F Flat → Flat
flatten_at a.Emp = record { whole = assn.Emp; atoms = [] }
flatten_at (a.Star p q) = record { whole = assn.Star p.whole q.whole; atoms = p.atoms ++ q.atoms }
flatten_at (a.Fact t) = an_atom (assn.Fact t)
flatten_at (a.Own t u) = an_atom (assn.Own t u)
flatten_at (a.Shared t u) = an_atom (assn.Shared t u)
flatten_at (a.Inst p ts) = an_atom (assn.Inst p ts)
flatten_at (a.Exists x s p) = an_atom (assn.Exists x s p.whole)
flatten_at (a.Either p q) = an_atom (assn.Either p.whole q.whole)

abbrev pub flat_of : Assn → Flat
flat_of = fold-Assn Flat flatten_at

-- the atoms of an assertion, from left to right
abbrev pub flatten : Assn → List Assn
flatten p = (flat_of p).atoms

-- what is known with these atoms too, which take the next numbers in their order
abbrev pub with_atoms : List Assn → Context → Context
with_atoms [] c = c
with_atoms (p ∷ ps) c = with_atoms ps (record c { atoms = with_atom (c.made + 1) p c.atoms; made = c.made + 1 })

-- what is known with the atoms of an assertion too
abbrev pub with_assn : Assn → Context → Context
with_assn p c = with_atoms (flatten p) c
