-- What the nodes of a code mean: from the values of the variables, in the order in which they were bound, to a program.
use Rattle.std.specs.Prelude.{◌≡◌, ℕ, zero, suc, List, [], ◌∷◌, ◌++◌, ◌-◌, length, take, ltb, bytes_eq, slice_get, map, Option, Some, None, if◌then◌else◌}
use Rattle.tht_tree.specs.declared.plain.Value.{Value}
use Rattle.tht_tree.specs.Syntax.{Names}
use Rattle.tht_tree.specs.Values.{bool_in, place_in}
use Rattle.tht_logic.specs.Machine.{Cmd, TermBig, Read, Write, Alloc, Free, Publish, Retract, Call, Prog, Ended, FrontBig, Plain, Block, Fork}
use Rattle.code_form.specs.declared.code.Node.{Node}
use Rattle.code_form.specs.declared.code.Node.TheVariants as node
use Rattle.code_form.specs.declared.code.Proc.{Proc}
use Rattle.code_form.specs.Eval.{eval_of, all_of}

abbrev pub Means : Type 0
Means = List Value → Prog

-- ---- bodies by their names

abbrev pub names_of : List Proc → Names
names_of = map (λ b. b.name)

-- the first body with a name
abbrev pub body_named : List Proc → List ℕ → Option Proc
body_named [] f = None
body_named (b ∷ bs) f = if bytes_eq b.name f then Some b else body_named bs f

-- each body is the one that its name finds: no two have one name
abbrev pub AreFound : List Proc → Type 0
AreFound bodies = (i : ℕ) (b : Proc) → slice_get bodies i ≡ Some b → body_named bodies b.name ≡ Some b

-- ---- nodes

abbrev pub or_big : Option Value → (Value → Prog) → Prog
or_big None f = FrontBig
or_big (Some v) f = f v

abbrev pub or_cmd : Option Value → (Value → Cmd) → Cmd
or_cmd None f = TermBig
or_cmd (Some v) f = f v

abbrev pub or_cmds : Option (List Value) → (List Value → Cmd) → Cmd
or_cmds None f = TermBig
or_cmds (Some vs) f = f vs

-- a call of a body, which the machine knows by its name
abbrev pub calling : Option (List ℕ) → Option (List Value) → (Value → Prog) → Prog
calling None vs rest = FrontBig
calling (Some f) vs rest = Plain (or_cmds vs (Call f)) rest

-- the meaning of a node, from those of the nodes that follow it, where the bodies have these names
abbrev pub means_at : Names → (ℕ → Means) → Node → Means
means_at names go (node.Ret e) env = or_big (eval_of e env) Ended
means_at names go (node.Leave e gone next) env = or_big (eval_of e env) (λ v. go next (take (length env - gone) env ++ v ∷ []))
means_at names go (node.If e p q) env = or_big (eval_of e env) (λ v. if bool_in v then go p env else go q env)
means_at names go (node.Read s e next) env = Plain (or_cmd (eval_of e env) (λ v. Read s (place_in v))) (λ v. go next (env ++ v ∷ []))
means_at names go (node.Write e f next) env = Plain (or_cmd (eval_of e env) (λ v. or_cmd (eval_of f env) (Write (place_in v)))) (λ v. go next env)
means_at names go (node.Alloc es next) env = Plain (or_cmds (all_of env es) Alloc) (λ v. go next (env ++ v ∷ []))
means_at names go (node.Free e next) env = Plain (or_cmd (eval_of e env) (λ v. Free (place_in v))) (λ v. go next env)
means_at names go (node.Publish e next) env = Plain (or_cmd (eval_of e env) (λ v. Publish (place_in v))) (λ v. go next env)
means_at names go (node.Retract e next) env = Plain (or_cmd (eval_of e env) (λ v. Retract (place_in v))) (λ v. go next env)
means_at names go (node.Call f es next) env = calling (slice_get names f) (all_of env es) (λ v. go next (env ++ v ∷ []))
means_at names go (node.Atomic p next) env = Block (go p env) (λ v. go next (env ++ v ∷ []))
means_at names go (node.Fork p q next) env = Fork (go p env) (go q env) (λ v w. go next (env ++ v ∷ w ∷ []))

-- the meaning of a node by its number; a number that is not there is too big
abbrev pub pick : List Means → ℕ → Means
pick [] k env = FrontBig
pick (m ∷ ms) zero env = m env
pick (m ∷ ms) (suc k) env = pick ms k env

-- the meanings of nodes, each from those before it
abbrev pub built : Names → List Means → List Node → List Means
built names done [] = done
built names done (n ∷ ns) = built names (done ++ means_at names (pick done) n ∷ []) ns

abbrev pub meaning : Names → List Node → ℕ → Means
meaning names nodes = pick (built names [] nodes)

-- the meanings of the nodes below i alone
abbrev pub cut : ℕ → (ℕ → Means) → ℕ → Means
cut i go j env = if ltb j i then go j env else FrontBig
