-- What it tells that the walk over names and sorts refuses nothing.
use Rattle.std.proofs.Common.{◌≡◌, Bool, true, ◌&&◌, is_none, List, [], ◌∷◌, Option, Some, None, refl, sym, ◌∙◌, ap}
use Rattle.tht_tree.specs.declared.plain.Spot.{Spot}
use Rattle.tht_tree.specs.declared.plain.Sort.{Sort}
use Rattle.tht_tree.specs.declared.plain.Sort.TheVariants as sort
use Rattle.tht_tree.specs.declared.walk.Class.{Class}
use Rattle.tht_tree.specs.declared.walk.WalkCode.{WalkCode}
use Rattle.tht_tree.specs.declared.walk.WalkCode.TheVariants.{S1}
use Rattle.tht_tree.specs.declared.walk.WalkRefusal.{WalkRefusal}
use Rattle.tht_tree.specs.Values.{is_storable}
use Rattle.tht_tree.specs.Walk.Codes.{first_of, construct, ◌▸◌}
use Rattle.tht_tree.specs.Walk.Sorts.{same_sort, clash}
use Rattle.tht_tree.specs.Walk.Terms.{storable}
use Rattle.proof_laws.proofs.WalkedTerms.{no_walk_code, first_none, unless_none}

abbrev pub nothing : Option WalkRefusal
nothing = None

pub construct_none : (spot : Spot) (code : Option WalkCode) (inside : Option WalkRefusal) → construct spot code inside ≡ nothing → (code ≡ no_walk_code) × (inside ≡ nothing)
construct_none spot None inside e = (refl, e)
construct_none spot (Some code) inside e = cc

pub behind_none : (a b : Option WalkRefusal) → (a ▸ b) ≡ nothing → (a ≡ nothing) × (b ≡ nothing)
behind_none None b e = (refl, e)
behind_none (Some a) b e = cc

pub first_of_none : (x : Option WalkCode) (xs : List (Option WalkCode)) → first_of (x ∷ xs) ≡ no_walk_code → (x ≡ no_walk_code) × (first_of xs ≡ no_walk_code)
first_of_none x [] e = (e, refl)
first_of_none x (y ∷ ys) e = first_none x (first_of (y ∷ ys)) e

-- the sort of a cell is not seq
pub storable_none : (s : Sort) → storable s ≡ no_walk_code → is_storable s ≡ true
storable_none sort.Nat e = refl
storable_none sort.Bool e = refl
storable_none sort.Loc e = refl
storable_none sort.Unit e = refl
storable_none sort.Seq e = cc

pub same_itself : (s : Sort) → same_sort s s ≡ true
same_itself sort.Nat = refl
same_itself sort.Bool = refl
same_itself sort.Loc = refl
same_itself sort.Unit = refl
same_itself sort.Seq = refl

walk_same : (s r : Sort) → same_sort s r ≡ true → s ≡ r
walk_same sort.Nat sort.Nat e = refl
walk_same sort.Bool sort.Bool e = refl
walk_same sort.Loc sort.Loc e = refl
walk_same sort.Unit sort.Unit e = refl
walk_same sort.Seq sort.Seq e = refl
walk_same _ _ e = cc

pub clash_none : (s r : Sort) (o : Option Sort) → o ≡ Some r → clash s o ≡ no_walk_code → r ≡ s
clash_none s r o e g = sym (walk_same s r (unless_none (same_sort s r) S1 (sym (ap (clash s) e) ∙ g)))

pub no_class : (o : Option Class) → is_none o ≡ true → o ≡ None
no_class None e = refl
no_class (Some x) e = cc

pub both : (b c : Bool) → b ≡ true → c ≡ true → (b && c) ≡ true
both b c e f = λ i. e i && f i
