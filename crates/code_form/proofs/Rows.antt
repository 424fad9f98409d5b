-- Values in a row, one after another.
use Rattle.std.proofs.Common.{◌≡◌, List, [], ◌∷◌, ◌++◌, refl, ap, Option, Some, None}
use Rattle.std.proofs.lemmas.List.{append-nil, append_assoc}
use Rattle.tht_tree.specs.declared.plain.Value.{Value}
use Rattle.code_form.specs.Eval.{with_first}

-- these values, and then those that there are
abbrev pub in_front : List Value → Option (List Value) → Option (List Value)
in_front vs None = None
in_front vs (Some ws) = Some (vs ++ ws)

pub in_front_more : (vs : List Value) (v : Value) (o : Option (List Value)) → in_front (vs ++ v ∷ []) o ≡ in_front vs (with_first (Some v) o)
in_front_more vs v None = refl
in_front_more vs v (Some ws) = ap Some (append_assoc vs (v ∷ []) ws)

pub in_front_last : (vs : List Value) → in_front vs (Some []) ≡ Some vs
in_front_last vs = ap Some (append-nil vs)
