-- What a map of local names says.
use Rattle.std.specs.BTreeMap.{BTreeMap, get_by_text}
use Rattle.std.specs.declared.string.String.{String}
use Rattle.tht_tree.specs.declared.state.Local.{Local}
use Rattle.tht_tree.specs.Rules.Context.{Scope}

abbrev pub locals_of : {Y : Type 0} → BTreeMap (String Y) Local → Scope
locals_of m x = get_by_text m x
