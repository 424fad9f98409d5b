-- What a statement asks for, and where it goes on once it was carried out.
use Rattle.std.specs.Prelude.{ℕ, ◌≤◌, nat_lt, Bool, true, false, List, [], length, Option, Some, None}
use Rattle.tht_tree.specs.declared.plain.Value.{Value}
use Rattle.tht_tree.specs.declared.plain.Value.TheVariants as v
use Rattle.tht_tree.specs.declared.plain.Place.{Place}
use Rattle.tht_tree.specs.Values.{place_in}
use Rattle.code_form.specs.declared.expr.Expr.{Expr}
use Rattle.code_form.specs.declared.code.Node.{Node}
use Rattle.code_form.specs.declared.code.Node.TheVariants as node
use Rattle.code_form.specs.declared.ask.Ask.{Ask}
use Rattle.code_form.specs.declared.ask.Ask.TheVariants as ask
use Rattle.code_form.specs.declared.ways.Told.{Told}
use Rattle.code_form.specs.declared.ways.Told.TheVariants.{Went, Got}
use Rattle.code_form.specs.declared.ways.Way.{Way}
use Rattle.code_form.specs.declared.ways.Way.TheVariants.{On, In, Nowhere}
use Rattle.code_form.specs.declared.frames.Bound.TheVariants.{Nothing, One}
use Rattle.code_form.specs.Eval.{eval_of, all_of}

-- ---- asking

abbrev pub or_ask : Option Value → (Value → Ask) → Ask
or_ask None f = ask.TermBig
or_ask (Some w) f = f w

abbrev pub alloc_ask : Option (List Value) → Ask
alloc_ask None = ask.TermBig
alloc_ask (Some vs) = ask.Alloc vs

abbrev pub is_there : Option (List Value) → Bool
is_there None = false
is_there (Some vs) = true

abbrev pub call_ask : Bool → Option (List Value) → Ask
call_ask false vs = ask.FrontBig
call_ask true None = ask.TermBig
call_ask true (Some vs) = ask.Call

abbrev pub node_ask : ℕ → Node → List Value → Ask
node_ask bodies (node.Read s e next) env = or_ask (eval_of e env) (λ w. ask.Read (place_in w) s)
node_ask bodies (node.Write e f next) env = or_ask (eval_of e env) (λ w. or_ask (eval_of f env) (ask.Write (place_in w)))
node_ask bodies (node.Alloc es next) env = alloc_ask (all_of env es)
node_ask bodies (node.Free e next) env = or_ask (eval_of e env) (λ w. ask.Free (place_in w))
node_ask bodies (node.Publish e next) env = or_ask (eval_of e env) (λ w. ask.Publish (place_in w))
node_ask bodies (node.Retract e next) env = or_ask (eval_of e env) (λ w. ask.Retract (place_in w))
node_ask bodies (node.Call f es next) env = call_ask (nat_lt f bodies) (all_of env es)
node_ask bodies (node.Atomic p next) env = ask.Atomic
node_ask bodies (node.Fork p q next) env = ask.Fork
node_ask bodies _ env = ask.FrontBig

-- a value of a block's body is the end of the block
abbrev pub in_block : Ask → Ask
in_block (ask.Value w) = ask.BlockEnd
in_block a = a

-- ---- going on

abbrev pub way_in : Node → Told → Place → Way
way_in (node.Read s e next) (Got w) place = On (record { next = next; bound = One w; cells = 0 })
way_in (node.Write e f next) Went place = On (record { next = next; bound = Nothing; cells = 0 })
way_in (node.Alloc es next) Went place = On (record { next = next; bound = One (v.Loc place); cells = length es })
way_in (node.Free e next) Went place = On (record { next = next; bound = Nothing; cells = 0 })
way_in (node.Publish e next) Went place = On (record { next = next; bound = Nothing; cells = 0 })
way_in (node.Retract e next) Went place = On (record { next = next; bound = Nothing; cells = 0 })
way_in (node.Call f es next) Went place = In (record { body = f; next = next })
way_in _ _ place = Nowhere

-- no statement makes more than eight cells
abbrev pub HasFewCells : Way → Type 0
HasFewCells (On a) = a.cells ≤ 8
HasFewCells _ = Unit {0}

abbrev pub arguments_in : Node → List Expr
arguments_in (node.Call f es next) = es
arguments_in _ = []
