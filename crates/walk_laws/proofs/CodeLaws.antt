-- The first of several codes, however they are taken together.
use Rattle.std.proofs.Common.{◌≡◌, refl, Option, Some, None, arith, List, [], ◌∷◌}
use Rattle.std.proofs.lemmas.Bool.Decides.{nat_tests}
use Rattle.tht_tree.specs.declared.walk.WalkCode.{WalkCode}
use Rattle.tht_tree.specs.Walk.Codes.{first, first_of}

pub first-none : (c : Option WalkCode) → first c None ≡ c
first-none None = refl
first-none (Some c) = refl

pub first_of-cons : (c : Option WalkCode) (cs : List (Option WalkCode)) → first_of (c ∷ cs) ≡ first c (first_of cs)
first_of-cons None [] = refl
first_of-cons (Some c) [] = refl
first_of-cons c (d ∷ cs) = refl

pub first-assoc : (a b c : Option WalkCode) → first (first a b) c ≡ first a (first b c)
first-assoc None b c = refl
first-assoc (Some a) None c = refl
first-assoc (Some a) (Some b) None = first-none _
first-assoc (Some a) (Some b) (Some c) = grind (arith, nat_tests)
