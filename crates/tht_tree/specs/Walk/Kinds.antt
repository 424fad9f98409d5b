-- Kinds of assertions: which cells one speaks of.
use Rattle.std.specs.Prelude.{Bool, true, false, Option, Some}
use Rattle.tht_tree.specs.declared.walk.Kind.{Kind}
use Rattle.tht_tree.specs.declared.walk.Kind.TheVariants.{Pure, Private, Shared, Mixed}
use Rattle.tht_tree.specs.declared.assn.Assn.{Assn, fold-Assn}
use Rattle.tht_tree.specs.declared.assn.Assn.TheOpen as a
use Rattle.tht_tree.specs.declared.decl.Access.{Access}
use Rattle.tht_tree.specs.declared.decl.Access.TheVariants as access
use Rattle.tht_tree.specs.declared.walk.WalkCode.{WalkCode}
use Rattle.tht_tree.specs.declared.walk.WalkCode.TheVariants.{S3}
use Rattle.tht_tree.specs.Walk.Codes.{unless}
use Rattle.tht_tree.specs.declared.walk.Class.{Class}
use Rattle.tht_tree.specs.declared.walk.Class.TheVariants.{Predicate}
use Rattle.tht_tree.specs.Walk.Names.{Scope}

abbrev pub both : Kind → Kind → Kind
both Pure k = k
both k Pure = k
both Private Private = Private
both Shared Shared = Shared
both _ _ = Mixed

abbrev pub access_kind : Access → Kind
access_kind access.Private = Private
access_kind access.Shared = Shared

abbrev pub instance_kind : Option Class → Kind
instance_kind (Some (Predicate who sorts naming)) = access_kind who
instance_kind _ = Pure

abbrev pub kind_at : Scope → a.Assn-F Kind → Kind
kind_at scope a.Emp = Pure
kind_at scope (a.Fact t) = Pure
kind_at scope (a.Own t u) = Private
kind_at scope (a.Shared t u) = Shared
kind_at scope (a.Star x y) = both x y
kind_at scope (a.Inst p ts) = instance_kind (scope p)
kind_at scope (a.Exists x s y) = y
kind_at scope (a.Either x y) = both x y

-- the kind of an assertion
unfoldable pub kind_of : Scope → Assn → Kind
kind_of scope = fold-Assn Kind (kind_at scope)

-- ---- which kinds are allowed

abbrev pub is_private : Kind → Bool
is_private Pure = true
is_private Private = true
is_private _ = false

abbrev pub is_shared : Kind → Bool
is_shared Pure = true
is_shared Shared = true
is_shared _ = false

-- S3: an assertion that speaks of private cells alone, of shared ones alone, and as a predicate says
abbrev pub private_only : Scope → Assn → Option WalkCode
private_only scope x = unless (is_private (kind_of scope x)) S3

abbrev pub shared_only : Scope → Assn → Option WalkCode
shared_only scope x = unless (is_shared (kind_of scope x)) S3

abbrev pub of_access : Access → Scope → Assn → Option WalkCode
of_access access.Private = private_only
of_access access.Shared = shared_only
