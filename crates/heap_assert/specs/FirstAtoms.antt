-- What is left of a list to which not all could be added.
use Rattle.std.specs.Prelude.{◌≡◌, List, ◌++◌}
use Rattle.tht_tree.specs.declared.assn.Assn.{Assn}

-- the list of before, and behind it the first of these
pub record FirstAdded (before after all : List Assn) : Type 0 where
  pub added : List Assn
  pub missing : List Assn
  pub whole : all ≡ added ++ missing
  pub now : after ≡ before ++ added
