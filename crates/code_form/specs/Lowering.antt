-- What it is that a part of a file was made into nodes.
use Rattle.std.specs.Prelude.{◌≡◌, ℕ, ◌-◌, ◌<◌, ◌≤◌, is_some, unwrap_or, Bool, true, false, List, [], ◌∷◌, ◌++◌, length, map, reverse, take, Option, Some, None}
use Rattle.tht_tree.specs.declared.plain.Value.{Value}
use Rattle.tht_tree.specs.declared.plain.Value.TheVariants as v
use Rattle.tht_tree.specs.declared.plain.Place.TheVariants.{Null}
use Rattle.tht_tree.specs.declared.term.Term.{Term, fold-Term}
use Rattle.tht_tree.specs.declared.term.Term.TheOpen as t
use Rattle.tht_tree.specs.declared.body.Stmt.{Stmt}
use Rattle.tht_tree.specs.declared.body.StmtKind.{StmtKind, fold-StmtKind}
use Rattle.tht_tree.specs.declared.body.EndKind.TheOpen as b
use Rattle.tht_tree.specs.Syntax.{Names, position}
use Rattle.tht_tree.specs.Values.{is}
use Rattle.tht_logic.specs.Machine.{Prog, Ended, and_then, closed}
use Rattle.tht_logic.specs.Programs.{Code, Whole, Before, in_order, stmt_code}
use Rattle.tht_logic.specs.PlainPrograms.{is_plain_program}
use Rattle.code_form.specs.declared.code.Node.{Node}
use Rattle.code_form.specs.declared.code.Node.TheVariants as node
use Rattle.code_form.specs.declared.expr.Expr.{Expr}
use Rattle.code_form.specs.declared.expr.Expr.TheVariants as e
use Rattle.code_form.specs.declared.expr.Op.TheVariants as op
use Rattle.code_form.specs.declared.bodies.Behind.{Behind}
use Rattle.code_form.specs.declared.bodies.Behind.TheVariants.{Caller, Inside}
use Rattle.code_form.specs.declared.bodies.Work.{Work}
use Rattle.code_form.specs.Means.{Means, meaning}

-- ---- expressions

-- a bound variable by its position; no program has another name, which would count as ()
abbrev pub var_expr : Option ℕ → Expr
var_expr (Some k) = e.Var k
var_expr None = e.Lit v.Unit

-- no program has a term that makes a sequence
abbrev pub expr_at : Names → t.Term-F Expr → Expr
expr_at xs (t.Num n) = e.Lit (v.Nat n)
expr_at xs t.True = e.Lit (v.Bool true)
expr_at xs t.False = e.Lit (v.Bool false)
expr_at xs t.Null = e.Lit (v.Loc Null)
expr_at xs t.Nil = e.Lit v.Unit
expr_at xs t.Unit = e.Lit v.Unit
expr_at xs (t.Var x) = var_expr (position 0 xs x)
expr_at xs (t.Len a) = e.Len a
expr_at xs (t.Offset a k) = e.Offset a k
expr_at xs (t.Mul a b) = e.Both op.Mul a b
expr_at xs (t.Add a b) = e.Both op.Add a b
expr_at xs (t.Sub a b) = e.Both op.Sub a b
expr_at xs (t.Cons a b) = e.Lit v.Unit
expr_at xs (t.Cat a b) = e.Lit v.Unit
expr_at xs (t.Eq a b) = e.Both op.Eq a b
expr_at xs (t.Lt a b) = e.Both op.Lt a b
expr_at xs (t.Le a b) = e.Both op.Le a b
expr_at xs (t.Not a) = e.Not a
expr_at xs (t.And a b) = e.Both op.And a b
expr_at xs (t.Or a b) = e.Both op.Or a b
expr_at xs (t.Imp a b) = e.Both op.Imp a b

-- a term, where these names are bound, the innermost first
abbrev pub expr_of : Names → Term → Expr
expr_of xs = fold-Term Expr (expr_at xs)

-- ---- programs

-- no term of the program makes a sequence, and it calls these procs alone
abbrev pub is_plain_over : Names → Code → Bool
is_plain_over procs = is_plain_program (λ f. is_some (position 0 procs f))

-- ---- nodes

-- the number of the body of a proc
abbrev pub number_in : Names → List ℕ → ℕ
number_in procs f = unwrap_or (position 0 procs f) (length procs)

-- the end of a body with this value, where these names are bound
abbrev pub end_node : Names → Behind → Expr → Node
end_node bound Caller a = node.Ret a
end_node bound (Inside keep next) a = node.Leave a (length bound - keep) next

-- What follows the value of a body, where these names are bound: its caller, or the node behind an inner body, outside of which so many
-- variables are bound.
abbrev pub follows : (ℕ → Means) → Names → Behind → List Value → Value → Prog
follows go bound Caller env w = Ended w
follows go bound (Inside keep next) env w = go next (take (length env - (length bound - keep)) env ++ w ∷ [])

-- that node is there, and those variables are bound here too
abbrev pub IsBehind : List Node → Names → Behind → Type 0
IsBehind nodes bound Caller = Unit {0}
IsBehind nodes bound (Inside keep next) = (keep ≤ length bound) × (next < length nodes)

-- The node with this number stands for the program, in which these names are bound, with what follows its value.
abbrev pub Stands : Names → List Node → Behind → Names → ℕ → Whole → Type 0
Stands procs nodes behind bound i p = is_plain_over procs (p (reverse bound)) ≡ true → (env : List Value) →
    meaning procs nodes i env ≡ and_then (closed (map is (reverse env)) (p (reverse bound))) (follows (meaning procs nodes) bound behind env)

-- nodes were added, and nothing else was changed
pub record Added (old new : Work) : Type 0 where
  pub more : List Node
  pub nodes : new.nodes ≡ old.nodes ++ more
  pub bound : new.bound ≡ old.bound
  pub procs : new.procs ≡ old.procs

-- one node was added, which has this number
pub record Emitted (old new : Work) (n : Node) (i : ℕ) : Type 0 where
  pub nodes : new.nodes ≡ old.nodes ++ n ∷ []
  pub bound : new.bound ≡ old.bound
  pub procs : new.procs ≡ old.procs
  pub number : i ≡ length old.nodes

-- a program was made into nodes, which begin with this one
pub record Lowered (old new : Work) (behind : Behind) (p : Whole) (i : ℕ) : Type 0 where
  pub added : Added old new
  pub there : IsBehind old.nodes old.bound behind → i < length new.nodes
  pub stands : IsBehind old.nodes old.bound behind → Stands old.procs new.nodes behind old.bound i p

-- a statement was made into nodes, which begin with this one and go on with the next one, where these names are bound too
pub record StmtLowered (old new : Work) (names : Names) (next : ℕ) (s : Before) (i : ℕ) : Type 0 where
  pub added : Added old new
  pub there : next < length old.nodes → i < length new.nodes
  pub stands : (behind : Behind) (p : Whole) → IsBehind old.nodes old.bound behind → next < length old.nodes →
      Stands old.procs old.nodes behind (old.bound ++ names) next p → Stands old.procs new.nodes behind old.bound i (s p)

-- the names that a statement binds
abbrev pub bound_at : b.StmtKind-F Names Names Names Names Names → Names
bound_at (b.Read x r t i h q) = x ∷ []
bound_at (b.Alloc x ts) = x ∷ []
bound_at (b.Call x f ts us g) = x ∷ []
bound_at (b.Do x r ns body box) = x ∷ []
bound_at (b.Atomic x r ns body box) = x ∷ []
bound_at (b.Par x r y z ns left box ms right last) = x ∷ y ∷ []
bound_at _ = []

abbrev pub bound_by : StmtKind → Names
bound_by = fold-StmtKind Names Names Names Names Names (λ x. []) bound_at (λ x. []) (λ x. []) (λ x. [])

abbrev pub bound_in : List Stmt → Names
bound_in [] = []
bound_in (s ∷ ss) = bound_by s.kind ++ bound_in ss

-- these names were bound, the innermost last, and nothing else was changed
pub record Bound (old new : Work) (names : Names) : Type 0 where
  pub bound : new.bound ≡ old.bound ++ names
  pub nodes : new.nodes ≡ old.nodes
  pub procs : new.procs ≡ old.procs

-- Statements were made into nodes, which begin with this one and go on with the last one; what they bind, behind these names, was taken back.
pub record StmtsLowered (old new : Work) (outer : Names) (stmts : List Stmt) (last i : ℕ) : Type 0 where
  pub more : List Node
  pub nodes : new.nodes ≡ old.nodes ++ more
  pub bound : new.bound ≡ outer
  pub procs : new.procs ≡ old.procs
  pub there : last < length old.nodes → i < length new.nodes
  pub stands : (behind : Behind) (p : Whole) → IsBehind old.nodes outer behind → last < length old.nodes →
      Stands old.procs old.nodes behind (outer ++ bound_in stmts) last p → Stands old.procs new.nodes behind outer i (in_order (map (λ s. stmt_code [] s) stmts) p)

-- what was bound last was taken back, so that these names are bound, and nothing else was changed
pub record Unbound (old new : Work) (names : Names) : Type 0 where
  pub bound : new.bound ≡ names
  pub nodes : new.nodes ≡ old.nodes
  pub procs : new.procs ≡ old.procs
