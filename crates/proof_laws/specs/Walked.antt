-- That the walk over names and sorts refuses nothing in a proof, and what is in scope there, in the words of the rules.
use Rattle.std.specs.Prelude.{◌≡◌, ℕ, true, List, Option, Some, None}
use Rattle.tht_tree.specs.declared.proof.Proof.{Proof}
use Rattle.tht_tree.specs.declared.state.Local.{Local}
use Rattle.tht_tree.specs.declared.state.Local.TheVariants as local
use Rattle.tht_tree.specs.declared.term.Term.{Term}
use Rattle.tht_tree.specs.declared.walk.Class.{Class}
use Rattle.tht_tree.specs.declared.walk.Class.TheVariants.{Root, Program, Logic, Hypothesis}
use Rattle.tht_tree.specs.Syntax.{Names, position}
use Rattle.tht_tree.specs.Rules.Context.{Scope}
use Rattle.tht_tree.specs.Walk.Names as walk
use Rattle.tht_tree.specs.Walk.Terms.{lemma}
use Rattle.tht_tree.specs.Walk.Proofs.{proof}
use Rattle.proof_laws.specs.Scoped.{Signatures, is_scoped}

-- what the walk and the rules have in scope under one name: a root has a number, and other declarations are no locals
abbrev pub MatchesAt : Option Class → Option Local → Option ℕ → Type 0
MatchesAt (Some (Program s)) l r = (l ≡ Some (local.Variable s)) × (r ≡ None)
MatchesAt (Some (Logic s)) l r = (l ≡ Some (local.Variable s)) × (r ≡ None)
MatchesAt (Some Hypothesis) l r = (l ≡ Some local.Hypothesis) × (r ≡ None)
MatchesAt (Some Root) l r = (l ≡ None) × ((n : ℕ) × (r ≡ Some n))
MatchesAt _ l r = (l ≡ None) × (r ≡ None)

abbrev pub Matches : Names → walk.Scope → Scope → Type 0
Matches roots names scope = (x : List ℕ) → MatchesAt (names x) (scope x) (position 0 roots x)

-- arguments in which the walk refuses nothing fit their lemma
abbrev pub ArgumentsFit : Names → Signatures → Type 0
ArgumentsFit roots fits = (names : walk.Scope) (scope : Scope) → Matches roots names scope → (l : List ℕ) (ts : List Term) → lemma names l ts ≡ None → fits scope l ts ≡ true

-- The law: a proof in which the walk refuses nothing is in order.
abbrev pub WalkedProofsAreScoped : Type 0
WalkedProofsAreScoped =
    (roots : Names) (fits : Signatures) → ArgumentsFit roots fits →
    (q : Proof) (names : walk.Scope) (scope : Scope) → Matches roots names scope → proof q names ≡ None → is_scoped roots fits q scope ≡ true
