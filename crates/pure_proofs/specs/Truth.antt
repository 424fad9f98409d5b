-- What it is worth that a goal is proved.
use Rattle.std.specs.Prelude.{◌≡◌, true, Some}
use Rattle.tht_tree.specs.declared.plain.Sort.TheVariants as sort
use Rattle.tht_tree.specs.declared.proof.Proof.{Proof}
use Rattle.tht_tree.specs.declared.term.Term.{Term}
use Rattle.tht_tree.specs.Heaps.{Heap}
use Rattle.tht_tree.specs.Syntax.{Names}
use Rattle.tht_tree.specs.Values.{Env}
use Rattle.tht_tree.specs.Rules.Context.{Context}
use Rattle.tht_tree.specs.Rules.Scoping.{sort_of}
use Rattle.proof_laws.specs.Satisfied.{Satisfies, IsTrueIn}
use Rattle.proof_laws.specs.Scoped.{Signatures, is_scoped}

-- The goal is true in every environment and heap that satisfy what is known, if it is a formula there and the names and sorts
-- of its proof are in order.
abbrev pub IsTrueWhereKnown : Names → Proof → Context → Term → Type 0
IsTrueWhereKnown roots q c goal =
    (fits : Signatures) (env : Env) (h : Heap) → Satisfies roots env c h → is_scoped roots fits q c.scope ≡ true →
    sort_of roots c.scope goal ≡ Some sort.Bool → IsTrueIn roots env goal
