-- Predicates, and what an instance of one is defined as.
use Rattle.std.specs.Prelude.{ℕ, bytes_eq, List, [], ◌∷◌, Option, Some, None, Result, Ok, Err, if◌then◌else◌}
use Rattle.tht_tree.specs.declared.plain.Spot.{Spot}
use Rattle.tht_tree.specs.declared.term.Term.{Term, out-Term}
use Rattle.tht_tree.specs.declared.term.Term.TheOpen as t
use Rattle.tht_tree.specs.declared.assn.Assn.{Assn}
use Rattle.tht_tree.specs.declared.decl.Param.{Param}
use Rattle.tht_tree.specs.declared.decl.Head.{Head}
use Rattle.tht_tree.specs.declared.decl.Decl.{Decl}
use Rattle.tht_tree.specs.declared.decl.DeclKind.{DeclKind}
use Rattle.tht_tree.specs.declared.decl.DeclKind.TheVariants as d
use Rattle.tht_tree.specs.declared.form.PutEnd.{PutEnd}
use Rattle.tht_tree.specs.declared.state.Local.TheVariants.{Variable}
use Rattle.tht_tree.specs.declared.rule.RuleCode.TheVariants.{R10, R13}
use Rattle.tht_tree.specs.Normal.Putting.{Puts, put_name}
use Rattle.tht_tree.specs.Rules.Known.{Declared}
use Rattle.tht_tree.specs.Rules.Context.{Scope, no_locals, with_local}
use Rattle.tht_logic.specs.Putting.{put_assn_within}
use Rattle.tht_logic.specs.Rules.Checking.{Checked, reject}

-- A definition by cases on a sequence: the parameter that is the sequence, the case for `nil`, and the case for a head and a tail, with
-- the names that it has for them.
pub record Cases : Type 0 where
  pub params : List Param
  pub on : List ℕ
  pub nil : Assn
  pub head : List ℕ
  pub tail : List ℕ
  pub cons : Assn

-- A predicate: its parameters and its definition, or a definition by cases.
pub data Predicate : Type 0 where
  one_case : List Param → Assn → Predicate
  two_cases : Cases → Predicate

-- a lemma for the step `use`: its parameters, its precondition and its postcondition
pub record Lemma : Type 0 where
  pub params : List Param
  pub pre : Assn
  pub post : Assn

-- with the variables that stand for parameters
abbrev pub with_params : Scope → List Param → Scope
with_params scope [] = scope
with_params scope (p ∷ ps) = with_params (with_local scope p.name (Variable p.sort)) ps

-- what is in scope in a proc: its parameters and its logical variables; the result is in its postcondition alone
abbrev pub head_scope : Head → Scope
head_scope x = with_params (with_params no_locals x.params) x.logic

-- What is declared: what proofs may use, and the predicates, lemmas and procs by their names.
pub record Declarations : Type 0 where
  pub proofs : Declared
  pub predicates : List ℕ → Option Predicate
  pub lemmas : List ℕ → Option Lemma
  pub procs : List ℕ → Option Head

-- why an instance has no definition: no case of its predicate is for it, or the definition would be too large
pub data DefEnd : Type 0 where
  NoCase : DefEnd
  Large : DefEnd

-- each parameter with its argument
abbrev pub arguments : List Param → List Term → Puts
arguments (p ∷ ps) (t ∷ ts) = (p.name, t) ∷ arguments ps ts
arguments _ _ = []

abbrev pub or_large : Result Assn PutEnd → Result Assn DefEnd
or_large (Ok p) = Ok p
or_large (Err e) = Err Large

-- the case for a sequence, with these arguments: `nil`, or a head and a tail
abbrev pub case_for : t.Term-F Term → Puts → Cases → Result Assn DefEnd
case_for t.Nil by k = or_large (put_assn_within by k.nil)
case_for (t.Cons u v) by k = or_large (put_assn_within ((k.head, u) ∷ (k.tail, v) ∷ by) k.cons)
case_for _ by k = Err NoCase

-- the definition of an instance with these arguments
abbrev pub definition : Predicate → List Term → Result Assn DefEnd
definition (one_case ps p) ts = or_large (put_assn_within (arguments ps ts) p)
definition (two_cases k) ts = case_for (out-Term (put_name (arguments k.params ts) k.on)) (arguments k.params ts) k

-- of no predicate there is none, which cannot come where names are in order
abbrev pub definition_of : Option Predicate → List Term → Result Assn DefEnd
definition_of (Some q) ts = definition q ts
definition_of None ts = Err NoCase

-- R13, R10: what an instance is defined as
abbrev pub defined_or_refused : Spot → Result Assn DefEnd → Checked Assn
defined_or_refused spot (Ok p) = Ok p
defined_or_refused spot (Err NoCase) = reject spot R13
defined_or_refused spot (Err Large) = reject spot R10

module _ (decl : Declarations) where
  abbrev pub defined : Spot → List ℕ → List Term → Checked Assn
  defined spot q ts = defined_or_refused spot (definition_of (decl.predicates q) ts)

-- ---- the predicates of a file

-- the names that stand in declarations
abbrev pub with_predicate : List ℕ → Predicate → (List ℕ → Option Predicate) → List ℕ → Option Predicate
with_predicate q x others y = if bytes_eq q y then Some x else others y

abbrev pub with_declaration : DeclKind → (List ℕ → Option Predicate) → List ℕ → Option Predicate
with_declaration (d.Pred access q ps p) others = with_predicate q (one_case ps p) others
with_declaration (d.PredOn access q ps x nil n s cons) others = with_predicate q (two_cases (record { params = ps; on = x; nil = nil; head = n; tail = s; cons = cons })) others
with_declaration _ others = others

-- with those of more declarations
abbrev pub with_predicates : (List ℕ → Option Predicate) → List Decl → List ℕ → Option Predicate
with_predicates known [] = known
with_predicates known (x ∷ xs) = with_predicates (with_declaration x.kind known) xs

-- the predicates by their names
abbrev pub predicates_of : List Decl → List ℕ → Option Predicate
predicates_of = with_predicates (λ q. None)
