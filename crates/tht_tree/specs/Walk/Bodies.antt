-- The names and sorts of statements, ends and bodies, and where each statement may stand.
use Rattle.std.specs.Prelude.{ℕ, true, false, List, [], ◌∷◌, Option, Some, None}
use Rattle.tht_tree.specs.declared.walk.Where.{Where}
use Rattle.tht_tree.specs.declared.walk.Where.TheVariants.{Outside, Inside, InLemma}
use Rattle.tht_tree.specs.declared.walk.Frame.{Frame}
use Rattle.tht_tree.specs.declared.plain.Spot.{Spot}
use Rattle.tht_tree.specs.declared.plain.Sort.{Sort}
use Rattle.tht_tree.specs.declared.plain.Sort.TheVariants as sort
use Rattle.tht_tree.specs.declared.term.Term.{Term, out-Term}
use Rattle.tht_tree.specs.declared.assn.Assn.{Assn}
use Rattle.tht_tree.specs.declared.body.Body.{Body, fold-Body}
use Rattle.tht_tree.specs.declared.body.Stmt.{Stmt, fold-Stmt}
use Rattle.tht_tree.specs.declared.body.StmtKind.{StmtKind, fold-StmtKind}
use Rattle.tht_tree.specs.declared.body.End.{End, fold-End}
use Rattle.tht_tree.specs.declared.body.EndKind.{EndKind, fold-EndKind}
use Rattle.tht_tree.specs.declared.body.EndKind.TheOpen as b
use Rattle.tht_tree.specs.SameTree.{is_unit}
use Rattle.tht_tree.specs.declared.walk.WalkCode.{WalkCode}
use Rattle.tht_tree.specs.declared.walk.WalkCode.TheVariants.{N1, N3, S4}
use Rattle.tht_tree.specs.Walk.Codes.{first, first_of, unless, construct, ◌▸◌}
use Rattle.tht_tree.specs.declared.walk.Class.{Class}
use Rattle.tht_tree.specs.declared.walk.Class.TheVariants.{Txn, Proc}
use Rattle.tht_tree.specs.declared.walk.Signature.{Signature}
use Rattle.tht_tree.specs.Walk.Names.{Scope, Walk, with_result, with_hypothesis, with_parts, new_name, new_parts}
use Rattle.tht_tree.specs.Walk.Terms.{term_of, formula, any_terms, program_of, any_program, any_programs, storable, arguments}
use Rattle.tht_tree.specs.Walk.Kinds.{private_only}
use Rattle.tht_tree.specs.Walk.Assns.{assn}
use Rattle.tht_tree.specs.Walk.Proofs.{proof}
use Rattle.tht_tree.specs.Walk.Gives.{give}
use Rattle.tht_tree.specs.Walk.Steps.{step, after_step}

-- ---- placement

abbrev pub frame : Where → Sort → Frame
frame w s = record { place = w; result = s }

-- what is refused in a part of a body
abbrev pub InBody : Type 0
InBody = Frame → Walk

-- S4: no statement but a proof step, and no `if`, stands in a lemma
abbrev pub not_in_lemma : Where → Option WalkCode
not_in_lemma InLemma = Some S4
not_in_lemma _ = None

abbrev pub only_inside : Where → Option WalkCode
only_inside Inside = None
only_inside _ = Some S4

abbrev pub only_outside : Where → Option WalkCode
only_outside Outside = None
only_outside _ = Some S4

-- ---- statements

-- the term for the place of a cell
abbrev pub place_term : Scope → Term → Option WalkCode
place_term scope = program_of scope sort.Loc

-- the name of a result, and its sort
abbrev pub new_result : Scope → List ℕ → Sort → Option WalkCode
new_result scope x s = first (new_name scope x) (storable s)

-- a box, in which the result is known
abbrev pub result_box : Scope → List ℕ → Sort → Assn → Option WalkCode
result_box scope x s a = assn a (with_result scope x s)

-- a box of private cells alone
abbrev pub private_box : Scope → List ℕ → Sort → Assn → Option WalkCode
private_box scope x s a = first (result_box scope x s a) (private_only scope a)

-- the box of a `do` may be of any kind where it does not stand outside
abbrev pub do_box : Where → Scope → List ℕ → Sort → Assn → Option WalkCode
do_box Outside = private_box
do_box _ = result_box

-- the arguments of a call: in parentheses program terms, in brackets terms of the logic
abbrev pub call_arguments : Scope → Signature → List Term → List Term → Option WalkCode
call_arguments scope f ts us = first (arguments scope true f.params ts) (arguments scope false f.logic us)

-- a txn is called inside, a proc outside
abbrev pub as_command : Where → Scope → List Term → List Term → Option Class → Option WalkCode
as_command w scope ts us None = Some N1
as_command w scope ts us (Some (Txn f)) = first (call_arguments scope f ts us) (only_inside w)
as_command w scope ts us (Some (Proc f)) = first (call_arguments scope f ts us) (only_outside w)
as_command w scope ts us (Some _) = Some N3

abbrev pub command : Where → Scope → List ℕ → List Term → List Term → Option WalkCode
command w scope f ts us = first_of (any_programs scope ts ∷ any_terms scope us ∷ as_command w scope ts us (scope f) ∷ [])

-- the sort of a call's result
abbrev pub call_sort : Option Class → Sort
call_sort (Some (Txn f)) = f.result
call_sort (Some (Proc f)) = f.result
call_sort _ = sort.Unit

-- a statement: what is refused in it, and what is known after it
pub record Statement : Type 0 where
  pub walk : InBody
  pub after : Scope → Scope

-- A statement's results are not known in its own terms, proof, give and bodies.
abbrev pub stmt_at : b.StmtKind-F (Spot → InBody) (Spot → Statement) InBody InBody Statement → Spot → InBody
stmt_at (b.Read x s t n h q) spot f scope =
    let names = first (new_result scope x s) (new_name (with_result scope x s) h) in
    construct spot (first_of (names ∷ place_term scope t ∷ not_in_lemma f.place ∷ [])) (proof q scope)
stmt_at (b.Write t u n q) spot f scope =
    construct spot (first_of (place_term scope t ∷ any_program scope u ∷ not_in_lemma f.place ∷ [])) (proof q scope)
stmt_at (b.Alloc x ts) spot f scope =
    construct spot (first_of (new_name scope x ∷ any_programs scope ts ∷ not_in_lemma f.place ∷ [])) None
stmt_at (b.Free t n q) spot f scope = construct spot (first (place_term scope t) (not_in_lemma f.place)) (proof q scope)
stmt_at (b.Publish t n q) spot f scope = construct spot (first (place_term scope t) (only_inside f.place)) (proof q scope)
stmt_at (b.Retract t n q) spot f scope = construct spot (first (place_term scope t) (only_inside f.place)) (proof q scope)
stmt_at (b.Call x c ts us g) spot f scope = construct spot (first (new_name scope x) (command f.place scope c ts us)) (give g scope)
stmt_at (b.Do x s ns body a) spot f scope =
    let own = first_of (new_result scope x s ∷ do_box f.place scope x s a ∷ not_in_lemma f.place ∷ []) in
    construct spot own (body (frame f.place s) scope)
stmt_at (b.Atomic x s ns body a) spot f scope =
    let own = first_of (new_result scope x s ∷ private_box scope x s a ∷ only_outside f.place ∷ []) in
    construct spot own (body (frame Inside s) scope)
stmt_at (b.Par x s y r ns body a ms other c) spot f scope =
    let names = first (new_result scope x s) (new_result (with_result scope x s) y r) in
    let own = first_of (names ∷ private_box scope x s a ∷ private_box scope y r c ∷ only_outside f.place ∷ []) in
    construct spot own (body (frame f.place s) scope ▸ other (frame f.place r) scope)
stmt_at (b.Proof x) spot f scope = step x scope

-- what is known after a statement
abbrev pub after_at : {E S B D T : Type 0} → b.StmtKind-F E S B D T → Scope → Scope
after_at (b.Read x s t n h q) scope = with_hypothesis (with_result scope x s) h
after_at (b.Alloc x ts) scope = with_result scope x sort.Loc
after_at (b.Call x c ts us g) scope = with_result scope x (call_sort (scope c))
after_at (b.Do x s ns body a) scope = with_result scope x s
after_at (b.Atomic x s ns body a) scope = with_result scope x s
after_at (b.Par x s y r ns body a ms other c) scope = with_result (with_result scope x s) y r
after_at (b.Proof x) scope = after_step x.kind scope
after_at _ scope = scope

abbrev pub statement_at : b.StmtKind-F (Spot → InBody) (Spot → Statement) InBody InBody Statement → Spot → Statement
statement_at k spot = record { walk = stmt_at k spot; after = after_at k }

-- ---- ends

-- a body returns a program term of its sort, a lemma `()` alone
abbrev pub returned : Where → Sort → Scope → Term → Option WalkCode
returned InLemma s scope t = first (any_program scope t) (unless (is_unit (out-Term t)) S4)
returned _ s scope t = program_of scope s t

-- The hypothesis of an `if` or a `case` is known in both bodies, the head and the tail of a sequence in the second.
abbrev pub end_at : b.EndKind-F (Spot → InBody) (Spot → Statement) InBody InBody Statement → Spot → InBody
end_at (b.Ret t g) spot f scope = construct spot (returned f.place f.result scope t) (give g scope)
end_at (b.If t h body other) spot f scope =
    let own = first_of (program_of scope sort.Bool t ∷ new_name scope h ∷ not_in_lemma f.place ∷ []) in
    construct spot own (body f (with_hypothesis scope h) ▸ other f (with_hypothesis scope h))
end_at (b.CaseAtom n body other) spot f scope = body f scope ▸ other f scope
end_at (b.CaseBool t h body other) spot f scope =
    let own = first (formula scope t) (new_name scope h) in
    construct spot own (body f (with_hypothesis scope h) ▸ other f (with_hypothesis scope h))
end_at (b.CaseSeq t h body x s other) spot f scope =
    let inner = with_hypothesis scope h in
    let own = first_of (term_of scope sort.Seq t ∷ new_name scope h ∷ new_parts inner x s ∷ []) in
    construct spot own (body f inner ▸ other f (with_parts inner x s))
end_at (b.Dead q body) spot f scope = proof q scope ▸ body f scope

-- ---- bodies

-- statements one after another, and what stands behind them
abbrev pub statements : List Statement → InBody → InBody
statements [] last f scope = last f scope
statements (s ∷ ss) last f scope = s.walk f scope ▸ statements ss last f (s.after scope)

abbrev pub body_at : b.Body-F (Spot → InBody) (Spot → Statement) InBody InBody Statement → InBody
body_at x = statements x.stmts x.end

abbrev pub spotted_end : b.End-F (Spot → InBody) (Spot → Statement) InBody InBody Statement → InBody
spotted_end x = x.kind x.spot

abbrev pub spotted_stmt : b.Stmt-F (Spot → InBody) (Spot → Statement) InBody InBody Statement → Statement
spotted_stmt x = x.kind x.spot

-- what is refused in a body
unfoldable pub body : Body → InBody
body = fold-Body (Spot → InBody) (Spot → Statement) InBody InBody Statement end_at statement_at body_at spotted_end spotted_stmt

-- the same of the parts of a body
unfoldable pub stmt : Stmt → Statement
stmt = fold-Stmt (Spot → InBody) (Spot → Statement) InBody InBody Statement end_at statement_at body_at spotted_end spotted_stmt

unfoldable pub stmt_kind : StmtKind → Spot → Statement
stmt_kind = fold-StmtKind (Spot → InBody) (Spot → Statement) InBody InBody Statement end_at statement_at body_at spotted_end spotted_stmt

unfoldable pub end : End → InBody
end = fold-End (Spot → InBody) (Spot → Statement) InBody InBody Statement end_at statement_at body_at spotted_end spotted_stmt

unfoldable pub end_kind : EndKind → Spot → InBody
end_kind = fold-EndKind (Spot → InBody) (Spot → Statement) InBody InBody Statement end_at statement_at body_at spotted_end spotted_stmt
