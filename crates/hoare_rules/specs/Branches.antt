-- What is known at the start of each branch of a case, and the rules of cases by their branches.
use Rattle.std.specs.Prelude.{◌≡◌, ℕ, List, Option, Result, Ok, Err}
use Rattle.std.specs.Borrow.{Bor}
use Rattle.tht_tree.specs.declared.plain.Spot.{Spot}
use Rattle.tht_tree.specs.declared.plain.Sort.TheVariants as sort
use Rattle.tht_tree.specs.declared.assn.Assn.{Assn}
use Rattle.tht_tree.specs.declared.term.Term.TheVariants as term
use Rattle.tht_tree.specs.declared.rule.RuleRefusal.{RuleRefusal}
use Rattle.tht_tree.specs.declared.state.Local.TheVariants.{Variable}
use Rattle.tht_tree.specs.declared.state.Post.{Post}
use Rattle.tht_tree.specs.Rules.Context.{Context, with_local}
use Rattle.tht_tree.specs.Rules.Refusals.{◌▸◌}
use Rattle.tht_logic.specs.Rules.Bodies.{assuming, sides, on_side}
use Rattle.tht_logic.specs.Rules.Calls.{InBody}
use Rattle.tht_logic.specs.Rules.Checking.{Checked, on_ok, and_then}
use Rattle.heap_rules.specs.Following.{Refuses}
use Rattle.pure_proofs.specs.declared.refusal.Refusal.{Refusal}
use Rattle.hoare_rules.specs.declared.branches.Branch.{Branch}
use Rattle.hoare_rules.specs.declared.branches.Branch.TheVariants as branch
use Rattle.hoare_rules.specs.declared.branches.Side.{Side}
use Rattle.hoare_rules.specs.declared.branches.Side.TheVariants as side

-- with the names of a head and a tail
abbrev pub with_parts : Context → List ℕ → List ℕ → Context
with_parts c x s = record c { scope = with_local (with_local c.scope x (Variable sort.Nat)) s (Variable sort.Seq) }

abbrev pub side_at : Side → Assn × Assn → Assn
side_at side.Left p = p.0
side_at side.Right p = p.1

-- one side of atom i, an `either`
abbrev pub side_of : Spot → Context → ℕ → Side → Checked Assn
side_of spot c i s = on_ok (sides spot c i) (λ p. Ok (side_at s p))

-- the atoms of one side for atom i
abbrev pub with_side : Spot → Context → ℕ → Side → Checked Context
with_side spot c i s = on_ok (sides spot c i) (λ p. on_side spot c i (side_at s p))

-- the two sides are found, or the rules refuse the atom
abbrev pub FindsSides : Result (Bor Assn × Bor Assn) Refusal → Checked (Assn × Assn) → Type 0
FindsSides (Ok s) said = said ≡ Ok (s.0.now, s.1.now)
FindsSides (Err e) said = Refuses e said

-- what is known at the start of a branch
abbrev pub entered : Spot → Context → Branch → Checked Context
entered spot c (branch.Holds k) = assuming spot c k.hyp.now k.term.now
entered spot c (branch.Fails k) = assuming spot c k.hyp.now (term.Not k.term.now)
entered spot c (branch.Left i) = with_side spot c i side.Left
entered spot c (branch.Right i) = with_side spot c i side.Right
entered spot c (branch.Empty k) = assuming spot c k.hyp.now (term.Eq k.term.now term.Nil)
entered spot c (branch.Link k x s) =
    assuming spot (with_parts c x.now s.now) k.hyp.now (term.Eq k.term.now (term.Cons (term.Var x.now) (term.Var s.now)))

-- what is refused of a body at the start of a branch
abbrev pub in_branch : Spot → Context → Branch → InBody → Post → Option RuleRefusal
in_branch spot c b body post = and_then (entered spot c b) (body post)

-- one body for each of two branches
abbrev pub by_branches : Spot → Context → Branch → Branch → InBody → InBody → Post → Option RuleRefusal
by_branches spot c b d body other post = in_branch spot c b body post ▸ in_branch spot c d other post
