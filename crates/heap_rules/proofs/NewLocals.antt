-- A map of local names once a name was put in.
use Rattle.std.proofs.Common.{◌≡◌, ℕ, List, Some, ◌∙◌, ap}
use mathlib.Core.Path.{fun_ext}
use Rattle.std.specs.BTreeMap.{BTreeMap, Updates}
use Rattle.std.specs.String.{string_cmp, string_bytes}
use Rattle.std.specs.declared.string.String.{String}
use Rattle.std.proofs.lemmas.Map.Text.{btree_map_updates_text}
use Rattle.tht_tree.specs.declared.state.Local.{Local}
use Rattle.tht_tree.specs.Rules.Context.{with_local}
use Rattle.pure_terms.specs.Locals.{locals_of}

pub locals_of-insert : {Y : Type 0} (key : String Y) (m n : BTreeMap (String Y) Local) (x : List ℕ) (l : Local) → Updates string_cmp m n key (Some l) → string_bytes key ≡ x → locals_of n ≡ with_local (locals_of m) x l
locals_of-insert key m n x l u e = fun_ext (btree_map_updates_text (string_bytes key) m n (Some l) u) ∙ ap (λ z. with_local (locals_of m) z l) e
