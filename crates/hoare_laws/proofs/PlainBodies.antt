-- A body of which all forms are built and in which the walk over names and sorts refuses nothing is a plain program: the sort of each of its terms is one that a cell can hold, so no part of the term makes a
-- sequence; and each name that it calls is a proc's.
use Rattle.std.proofs.Common.{◌≡◌, ℕ, Bool, true, ◌&&◌, List, [], ◌∷◌, map, Option, Some, None, refl, sym, ◌∙◌, ap, subst}
use Rattle.std.specs.List.{list_all}
use mathlib.Core.Path.{fun_ext}
use Rattle.tht_tree.specs.declared.assn.Assn.{Assn}
use Rattle.tht_tree.specs.declared.body.Body.{Body, roll-Body, ind-Body}
use Rattle.tht_tree.specs.declared.body.End.{End, roll-End}
use Rattle.tht_tree.specs.declared.body.EndKind.{EndKind, roll-EndKind, map-EndKind}
use Rattle.tht_tree.specs.declared.body.EndKind.TheOpen as b
use Rattle.tht_tree.specs.declared.body.Stmt.{Stmt, roll-Stmt}
use Rattle.tht_tree.specs.declared.body.StmtKind.{StmtKind, roll-StmtKind, map-StmtKind}
use Rattle.tht_tree.specs.declared.decl.Head.{Head}
use Rattle.tht_tree.specs.declared.give.Give.{Give}
use Rattle.tht_tree.specs.declared.plain.Sort.{Sort}
use Rattle.tht_tree.specs.declared.plain.Sort.TheVariants as sort
use Rattle.tht_tree.specs.declared.plain.Spot.{Spot}
use Rattle.tht_tree.specs.declared.proof.Proof.{Proof}
use Rattle.tht_tree.specs.declared.state.Local.TheVariants.{Variable, Hypothesis}
use Rattle.tht_tree.specs.declared.step.Step.{Step}
use Rattle.tht_tree.specs.declared.term.Term.{Term, map-Term}
use Rattle.tht_tree.specs.declared.term.Term.TheOpen.{Term-F}
use Rattle.tht_tree.specs.declared.term.Term.TheOpen as term
use Rattle.tht_tree.specs.declared.walk.Class.TheVariants as class
use Rattle.tht_tree.specs.declared.walk.Where.TheVariants.{Outside}
use Rattle.tht_tree.specs.Syntax.{Names, position, root_or_free, named, Trm, trm, trm_at}
use Rattle.tht_tree.specs.Rules.Context.{Scope, with_local}
use Rattle.tht_tree.specs.Rules.Scoping.{sequence_free, sequence_free_at}
use Rattle.tht_tree.specs.Walk.Names as walk
use Rattle.tht_tree.specs.Walk.Names.{with_result, with_hypothesis, new_name}
use Rattle.tht_tree.specs.Walk.Terms.{program_of, any_program, any_programs}
use Rattle.tht_tree.specs.Walk.Steps as steps
use Rattle.tht_tree.specs.Walk.Bodies as w
use Rattle.tht_tree.specs.Walk.Bodies.{InBody, Statement, frame, new_result, private_box, place_term, only_inside, only_outside, call_sort}
use Rattle.tht_tree.proofs.TermInduction.{fold_level, OfParts, by_parts}
use Rattle.walk_laws.proofs.Levels as walked
use Rattle.proof_laws.specs.Walked.{Matches}
use Rattle.proof_laws.proofs.WalkedTerms.{no_walk_code}
use Rattle.tht_logic.specs.PlainPrograms.{no_sequence, no_sequences, is_plain_program}
use Rattle.tht_logic.specs.Programs as p
use Rattle.tht_logic.specs.Programs.{Whole, Before}
use Rattle.tht_logic.proofs.Levels as programs
use Rattle.assn_laws.specs.Walked.{KnowsProcs, scope_after}
use Rattle.assn_laws.proofs.FileLaw.{result_matches}
use Rattle.assn_laws.proofs.KnownNames.{both_true}
use Rattle.assn_laws.proofs.ProcNames.{procs_with_name, procs_after_step}
use Rattle.assn_laws.proofs.Refusing.{nothing, behind_none, first_of_none, both}
use Rattle.assn_laws.proofs.WalkedCalls.{walked_calls_are_in_order}
use Rattle.assn_laws.proofs.WalkedNames.{hypothesis_matches}
use Rattle.assn_laws.proofs.WalkedPrograms.{program_term, any_term}
use Rattle.assn_laws.proofs.WalkedSteps.{walked_steps_match}
use Rattle.tht_logic.specs.Built.{body, assn, stmt_at, end_at}
use Rattle.tht_logic.specs.Built.{proof as proof_built}
use Rattle.hoare_laws.proofs.BuiltBodies as built
use Rattle.hoare_laws.proofs.WalkedStmts.{read_walked, write_walked, alloc_walked, free_walked, call_walked, do_walked, ret_walked, if_walked, sides_walked, truth_walked, sequence_walked, dead_walked}

-- ---- terms

module _ (roots xs : Names) where
  abbrev meant : Term → Trm
  meant = trm roots xs

  abbrev IsPlain : Term → Type 0
  IsPlain u = sequence_free u ≡ true → no_sequence (meant u) ≡ true

  name_plain : (x : List ℕ) (o : Option ℕ) → no_sequence (named roots x o) ≡ true
  name_plain x (Some k) = refl
  name_plain x None = of_root (position 0 roots x)
    where
      of_root : (o : Option ℕ) → no_sequence (root_or_free x o) ≡ true
      of_root (Some r) = refl
      of_root None = refl

  two_plain : (a b : Term) → IsPlain a × IsPlain b → (sequence_free a && sequence_free b) ≡ true → (no_sequence (meant a) && no_sequence (meant b)) ≡ true
  two_plain a b h s =
      let parts = both_true (sequence_free a) (sequence_free b) s in
      both (no_sequence (meant a)) (no_sequence (meant b)) (h.0 parts.0) (h.1 parts.1)

  term_level : (x : Term-F Term) → OfParts IsPlain x → sequence_free_at (map-Term Term Bool sequence_free x) ≡ true → no_sequence (trm_at roots xs (map-Term Term Trm meant x)) ≡ true
  term_level (term.Num n) h s = refl
  term_level term.True h s = refl
  term_level term.False h s = refl
  term_level term.Null h s = refl
  term_level term.Nil h s = cc
  term_level term.Unit h s = refl
  term_level (term.Var x) h s = name_plain x (position 0 xs x)
  term_level (term.Len a) h s = h s
  term_level (term.Offset a k) h s = h s
  term_level (term.Not a) h s = h s
  term_level (term.Mul a b) h s = two_plain a b h s
  term_level (term.Add a b) h s = two_plain a b h s
  term_level (term.Sub a b) h s = two_plain a b h s
  term_level (term.Cons a b) h s = cc
  term_level (term.Cat a b) h s = cc
  term_level (term.Eq a b) h s = two_plain a b h s
  term_level (term.Lt a b) h s = two_plain a b h s
  term_level (term.Le a b) h s = two_plain a b h s
  term_level (term.And a b) h s = two_plain a b h s
  term_level (term.Or a b) h s = two_plain a b h s
  term_level (term.Imp a b) h s = two_plain a b h s

  -- what has no part that makes a sequence has none as a nameless term
  plain_term : (u : Term) → IsPlain u
  plain_term = by_parts IsPlain (λ x h s. ap no_sequence (fold_level (trm_at roots xs) x) ∙ term_level x h (sym (fold_level sequence_free_at x) ∙ s))

  -- terms of the program in which the walk refuses nothing
  module _ (names : walk.Scope) (scope : Scope) (matches : Matches roots names scope) where
    plain_of : (s : Sort) (u : Term) → program_of names s u ≡ no_walk_code → no_sequence (meant u) ≡ true
    plain_of s u e = plain_term u (program_term roots names scope matches s u e).plain

    plain_any : (u : Term) → any_program names u ≡ no_walk_code → no_sequence (meant u) ≡ true
    plain_any u e = plain_term u (any_term roots names scope matches u e).1.plain

    plain_all : (us : List Term) → any_programs names us ≡ no_walk_code → no_sequences (map meant us) ≡ true
    plain_all [] e = refl
    plain_all (u ∷ us) e =
        let parts = first_of_none (any_program names u) (map (any_program names) us) e in
        both (no_sequence (meant u)) (no_sequences (map meant us)) (plain_any u parts.0) (plain_all us parts.1)

-- ---- bodies

-- the procs that the rules know, and the names that a plain program may call
module _ (roots : Names) (procs : List ℕ → Option Head) (known : List ℕ → Bool) (tells : (f : List ℕ) (x : Head) → procs f ≡ Some x → known f ≡ true) where
  -- what is in scope at a place of a body: the same for the walk and the rules
  pub record IsAt (names : walk.Scope) : Type 0 where
    pub scope : Scope
    pub matches : Matches roots names scope
    pub knows : KnowsProcs procs names

  with_result_at : (names : walk.Scope) → IsAt names → (x : List ℕ) (r : Sort) → new_name names x ≡ no_walk_code → IsAt (with_result names x r)
  with_result_at names here x r new = record {
    scope = with_local here.scope x (Variable r);
    matches = result_matches roots x r names here.scope here.matches new;
    knows = procs_with_name procs names x (class.Program r) (λ o. tt) here.knows;
  }

  with_hypothesis_at : (names : walk.Scope) → IsAt names → (h : List ℕ) → new_name names h ≡ no_walk_code → IsAt (with_hypothesis names h)
  with_hypothesis_at names here h new = record {
    scope = with_local here.scope h Hypothesis;
    matches = hypothesis_matches roots names here.scope here.matches h new;
    knows = procs_with_name procs names h class.Hypothesis (λ o. tt) here.knows;
  }

  after_step_at : (names : walk.Scope) → IsAt names → (x : Step) → steps.step x names ≡ nothing → IsAt (steps.after_step x.kind names)
  after_step_at names here x e = record {
    scope = scope_after x.kind here.scope;
    matches = walked_steps_match roots names here.scope here.matches x e;
    knows = procs_after_step procs names x.kind here.knows;
  }

  abbrev plain : p.Code → Bool
  plain code = is_plain_program known code

  -- a body in which the walk refuses nothing is plain
  abbrev BodyPlain : Whole → InBody → Type 0
  BodyPlain whole in_walk = (r : Sort) (names : walk.Scope) (xs : Names) → IsAt names → in_walk (frame Outside r) names ≡ nothing → plain (whole xs) ≡ true

  -- such a statement is, where what follows is
  abbrev StmtPlain : Before → Statement → Type 0
  StmtPlain before in_walk =
      (r : Sort) (names : walk.Scope) (xs : Names) → IsAt names → in_walk.walk (frame Outside r) names ≡ nothing
      → (next : Whole) → ((ys : Names) → IsAt (in_walk.after names) → plain (next ys) ≡ true) → plain (before next xs) ≡ true

  -- ---- statements

  module _ (spot : Spot) where
    read_plain : (x : List ℕ) (s : Sort) (t : Term) (i : ℕ) (h : List ℕ) (q : Proof) → StmtPlain (p.stmt_at roots (b.Read x s t i h q)) (w.statement_at (b.Read x s t i h q) spot)
    read_plain x s t i h q r names xs here e next goes_on =
        let parts = read_walked spot names r x s t i h q e in
        let after = with_hypothesis_at (with_result names x s) (with_result_at names here x s parts.new) h parts.new_hyp in
        both (no_sequence (trm roots xs t)) (plain (next (x ∷ xs))) (plain_of roots xs names here.scope here.matches sort.Loc t parts.place) (goes_on (x ∷ xs) after)

    write_plain : (t u : Term) (i : ℕ) (q : Proof) → StmtPlain (p.stmt_at roots (b.Write t u i q)) (w.statement_at (b.Write t u i q) spot)
    write_plain t u i q r names xs here e next goes_on =
        let parts = write_walked spot names r t u i q e in
        let value : Bool = no_sequence (trm roots xs u) in
        both (no_sequence (trm roots xs t)) (value && plain (next xs)) (plain_of roots xs names here.scope here.matches sort.Loc t parts.place)
        (both value (plain (next xs)) (plain_any roots xs names here.scope here.matches u parts.value) (goes_on xs here))

    alloc_plain : (x : List ℕ) (ts : List Term) → StmtPlain (p.stmt_at roots (b.Alloc x ts)) (w.statement_at (b.Alloc x ts) spot)
    alloc_plain x ts r names xs here e next goes_on =
        let parts = alloc_walked spot names r x ts e in
        both (no_sequences (map (trm roots xs) ts)) (plain (next (x ∷ xs))) (plain_all roots xs names here.scope here.matches ts parts.values)
        (goes_on (x ∷ xs) (with_result_at names here x sort.Loc parts.new))

    free_plain : (t : Term) (i : ℕ) (q : Proof) → StmtPlain (p.stmt_at roots (b.Free t i q)) (w.statement_at (b.Free t i q) spot)
    free_plain t i q r names xs here e next goes_on =
        let parts = free_walked spot names r t i q e in
        both (no_sequence (trm roots xs t)) (plain (next xs)) (plain_of roots xs names here.scope here.matches sort.Loc t parts.place) (goes_on xs here)

    call_plain : (x f : List ℕ) (ts us : List Term) (g : Give) → StmtPlain (p.stmt_at roots (b.Call x f ts us g)) (w.statement_at (b.Call x f ts us g) spot)
    call_plain x f ts us g r names xs here e next goes_on =
        let parts = call_walked spot names r x f ts us g e in
        let order = walked_calls_are_in_order roots procs names here.scope here.matches here.knows f ts us parts.command in
        let arguments : Bool = no_sequences (map (trm roots xs) ts) in
        both (known f) (arguments && plain (next (x ∷ xs))) (tells f order.head order.declared)
        (both arguments (plain (next (x ∷ xs))) (plain_all roots xs names here.scope here.matches ts order.programs) (goes_on (x ∷ xs) (with_result_at names here x (call_sort (names f)) parts.new)))

    do_plain : (x : List ℕ) (s : Sort) (ns : List ℕ) (whole : Whole) (in_walk : InBody) (box : Assn) → BodyPlain whole in_walk
        → StmtPlain (p.stmt_at roots (b.Do x s ns whole box)) (w.statement_at (b.Do x s ns in_walk box) spot)
    do_plain x s ns whole in_walk box inner r names xs here e next goes_on =
        let parts = do_walked spot names r x s ns in_walk box e in
        both (plain (whole xs)) (plain (next (x ∷ xs))) (inner s names xs here parts.1) (goes_on (x ∷ xs) (with_result_at names here x s parts.0.new))

  -- ---- levels

  abbrev EndKindPlain : EndKind → Type 0
  EndKindPlain k = (spot : Spot) → built.end_kind_built k ≡ true → BodyPlain (p.end_kind_code roots k) (w.end_kind k spot)

  abbrev StmtKindPlain : StmtKind → Type 0
  StmtKindPlain k = (spot : Spot) → built.stmt_kind_built k ≡ true → StmtPlain (p.stmt_kind_code roots k) (w.stmt_kind k spot)

  abbrev WholePlain : Body → Type 0
  WholePlain x = body x ≡ true → BodyPlain (p.code roots x) (w.body x)

  abbrev EndPlain : End → Type 0
  EndPlain x = built.end_built x ≡ true → BodyPlain (p.end_code roots x) (w.end x)

  abbrev OnePlain : Stmt → Type 0
  OnePlain x = built.stmt_built x ≡ true → StmtPlain (p.stmt_code roots x) (w.stmt x)

  abbrev Ends : Type 0
  Ends = (k : EndKind) × EndKindPlain k

  abbrev Kinds : Type 0
  Kinds = (k : StmtKind) × StmtKindPlain k

  abbrev Wholes : Type 0
  Wholes = (x : Body) × WholePlain x

  abbrev Lasts : Type 0
  Lasts = (x : End) × EndPlain x

  abbrev Ones : Type 0
  Ones = (x : Stmt) × OnePlain x

  abbrev StmtLevel : b.StmtKind-F EndKind StmtKind Body End Stmt → Type 0
  StmtLevel x = (spot : Spot) → stmt_at (built.stmt_level x) ≡ true → StmtPlain (p.stmt_at roots (programs.stmt_level roots x)) (w.statement_at (walked.level x) spot)

  abbrev unpaired_stmt : b.StmtKind-F Ends Kinds Wholes Lasts Ones → b.StmtKind-F EndKind StmtKind Body End Stmt
  unpaired_stmt = map-StmtKind Ends Kinds Wholes Lasts Ones EndKind StmtKind Body End Stmt (λ z. z.0) (λ z. z.0) (λ z. z.0) (λ z. z.0) (λ z. z.0)

  stmt_level : (y : b.StmtKind-F Ends Kinds Wholes Lasts Ones) → StmtLevel (unpaired_stmt y)
  stmt_level (b.Read x s t i h q) spot ok = read_plain spot x s t i h q
  stmt_level (b.Write t u i q) spot ok = write_plain spot t u i q
  stmt_level (b.Alloc x ts) spot ok = alloc_plain spot x ts
  stmt_level (b.Free t i q) spot ok = free_plain spot t i q
  stmt_level (b.Call x f ts us g) spot ok = call_plain spot x f ts us g
  stmt_level (b.Do x s ns y box) spot ok = do_plain spot x s ns (p.code roots y.0) (w.body y.0) box (y.1 (both_true (body y.0) (assn box) ok).0)
  stmt_level (b.Proof x) spot ok = λ r names xs here e next goes_on. goes_on xs (after_step_at names here x e)
  stmt_level _ spot ok = cc

  abbrev walked_end : b.EndKind-F EndKind StmtKind Body End Stmt → b.EndKind-F (Spot → InBody) (Spot → Statement) InBody InBody Statement
  walked_end = map-EndKind EndKind StmtKind Body End Stmt (Spot → InBody) (Spot → Statement) InBody InBody Statement w.end_kind w.stmt_kind w.body w.end w.stmt

  abbrev EndLevel : b.EndKind-F EndKind StmtKind Body End Stmt → Type 0
  EndLevel x = (spot : Spot) → end_at (built.end_level x) ≡ true → BodyPlain (p.end_at roots (programs.end_level roots x)) (w.end_at (walked_end x) spot)

  abbrev unpaired_end : b.EndKind-F Ends Kinds Wholes Lasts Ones → b.EndKind-F EndKind StmtKind Body End Stmt
  unpaired_end = map-EndKind Ends Kinds Wholes Lasts Ones EndKind StmtKind Body End Stmt (λ z. z.0) (λ z. z.0) (λ z. z.0) (λ z. z.0) (λ z. z.0)

  -- the program of a `case` is its first body, and that of a `dead` its body
  end_level : (y : b.EndKind-F Ends Kinds Wholes Lasts Ones) → EndLevel (unpaired_end y)
  end_level (b.Ret t g) spot ok r names xs here e = plain_of roots xs names here.scope here.matches r t (ret_walked spot names r t g e).value
  end_level (b.If t h y z) spot ok r names xs here e =
      let parts_built = both_true (body y.0) (body z.0) ok in
      let parts = if_walked spot names r t h (w.body y.0) (w.body z.0) e in
      let inner = with_hypothesis_at names here h parts.1 in
      let one : Bool = plain (p.code roots y.0 xs) in
      let other : Bool = plain (p.code roots z.0 xs) in
      both (no_sequence (trm roots xs t)) (one && other) (plain_of roots xs names here.scope here.matches sort.Bool t parts.0)
      (both one other (y.1 parts_built.0 r (with_hypothesis names h) xs inner parts.2) (z.1 parts_built.1 r (with_hypothesis names h) xs inner parts.3))
  end_level (b.CaseAtom i y z) spot ok r names xs here e = y.1 (both_true (body y.0) (body z.0) ok).0 r names xs here (sides_walked spot names r i (w.body y.0) (w.body z.0) e).0
  end_level (b.CaseBool t h y z) spot ok r names xs here e =
      let parts = truth_walked spot names r t h (w.body y.0) (w.body z.0) e in
      y.1 (both_true (body y.0) (body z.0) ok).0 r (with_hypothesis names h) xs (with_hypothesis_at names here h parts.1) parts.2
  end_level (b.CaseSeq t h y x s z) spot ok r names xs here e =
      let parts = sequence_walked spot names r t h (w.body y.0) x s (w.body z.0) e in
      y.1 (both_true (body y.0) (body z.0) ok).0 r (with_hypothesis names h) xs (with_hypothesis_at names here h parts.1) parts.3
  end_level (b.Dead q y) spot ok r names xs here e = y.1 (both_true (proof_built q) (body y.0) ok).1 r names xs here (dead_walked spot names r q (w.body y.0) e).1

  -- ---- the induction

  carried_stmt : (left right : Before) (a z : Statement) → left ≡ right → a ≡ z → StmtPlain right z → StmtPlain left a
  carried_stmt left right a z e g h = subst (λ u. StmtPlain u a) (sym e) (subst (StmtPlain right) (sym g) h)

  carried_body : (left right : Whole) (a z : InBody) → left ≡ right → a ≡ z → BodyPlain right z → BodyPlain left a
  carried_body left right a z e g h = subst (λ u. BodyPlain u a) (sym e) (subst (BodyPlain right) (sym g) h)

  abbrev trees : List Ones → List Stmt
  trees ss = map (λ z. z.0) ss

  -- statements one after another, and an end
  all_plain : (ss : List Ones) (last : Lasts) → (list_all (λ z. z) (map built.stmt_built (trees ss)) && built.end_built last.0) ≡ true → BodyPlain (p.in_order (map (p.stmt_code roots) (trees ss)) (p.end_code roots last.0)) (w.statements (map w.stmt (trees ss)) (w.end last.0))
  all_plain [] last ok r names xs here e = last.1 ok r names xs here e
  all_plain (s ∷ ss) last ok r names xs here e =
      let later : Bool = list_all (λ z. z) (map built.stmt_built (trees ss)) in
      let own = both_true (built.stmt_built s.0 && later) (built.end_built last.0) ok in
      let front = both_true (built.stmt_built s.0) later own.0 in
      let after = (w.stmt s.0).after names in
      let parts = behind_none ((w.stmt s.0).walk (frame Outside r) names) (w.statements (map w.stmt (trees ss)) (w.end last.0) (frame Outside r) after) e in
      s.1 front.0 r names xs here parts.0 (p.in_order (map (p.stmt_code roots) (trees ss)) (p.end_code roots last.0)) (λ ys there. all_plain ss last (both later (built.end_built last.0) front.1 own.1) r after ys there parts.1)

  end_kind_step : (x : b.EndKind-F EndKind StmtKind Body End Stmt) → EndLevel x → EndKindPlain (roll-EndKind x)
  end_kind_step x h spot ok =
      carried_body (p.end_kind_code roots (roll-EndKind x)) (p.end_at roots (programs.end_level roots x)) (w.end_kind (roll-EndKind x) spot) (w.end_at (walked_end x) spot)
      (programs.end_kind_is roots x) (fun_ext (λ g. fun_ext (λ names. walked.end_kind_is x spot g names))) (h spot (sym (built.end_kind_is x) ∙ ok))

  stmt_kind_step : (x : b.StmtKind-F EndKind StmtKind Body End Stmt) → StmtLevel x → StmtKindPlain (roll-StmtKind x)
  stmt_kind_step x h spot ok =
      carried_stmt (p.stmt_kind_code roots (roll-StmtKind x)) (p.stmt_at roots (programs.stmt_level roots x)) (w.stmt_kind (roll-StmtKind x) spot) (w.statement_at (walked.level x) spot)
      (programs.stmt_kind_is roots x) (walked.stmt_kind_is x spot) (h spot (sym (built.stmt_kind_is x) ∙ ok))

  end_step : (x : End) → EndKindPlain x.kind → EndPlain x
  end_step x h ok =
      carried_body (p.end_code roots x) (p.end_kind_code roots x.kind) (w.end x) (w.end_kind x.kind x.spot)
      (programs.end_is roots x) (fun_ext (λ g. fun_ext (λ names. walked.end_is x.spot x.kind g names))) (h x.spot (sym (built.end_is x) ∙ ok))

  stmt_step : (x : Stmt) → StmtKindPlain x.kind → OnePlain x
  stmt_step x h ok =
      carried_stmt (p.stmt_code roots x) (p.stmt_kind_code roots x.kind) (w.stmt x) (w.stmt_kind x.kind x.spot) (programs.stmt_is roots x) (walked.stmt_is x.spot x.kind) (h x.spot (sym (built.stmt_is x) ∙ ok))

  abbrev BodyLevel : b.Body-F EndKind StmtKind Body End Stmt → Type 0
  BodyLevel x = (list_all (λ z. z) (map built.stmt_built x.stmts) && built.end_built x.end) ≡ true → BodyPlain (p.in_order (map (p.stmt_code roots) x.stmts) (p.end_code roots x.end)) (w.statements (map w.stmt x.stmts) (w.end x.end))

  body_step : (x : b.Body-F EndKind StmtKind Body End Stmt) → BodyLevel x → WholePlain (roll-Body x)
  body_step x h ok =
      carried_body (p.code roots (roll-Body x)) (p.in_order (map (p.stmt_code roots) x.stmts) (p.end_code roots x.end)) (w.body (roll-Body x)) (w.statements (map w.stmt x.stmts) (w.end x.end))
      (programs.rolled_code roots x) (fun_ext (λ g. fun_ext (λ names. walked.body_is x.stmts x.end g names))) (h (sym (built.rolled_built x) ∙ ok))

  -- every body
  pub bodies_plain : (x : Body) → WholePlain x
  bodies_plain =
      ind-Body EndKindPlain StmtKindPlain WholePlain EndPlain OnePlain
      (λ x y is. end_kind_step x (subst EndLevel is (end_level y)))
      (λ x y is. stmt_kind_step x (subst StmtLevel is (stmt_level y)))
      (λ x y is. body_step x (subst BodyLevel is (all_plain y.stmts y.end)))
      (λ x y is. end_step (roll-End x) (subst (λ (z : b.End-F EndKind StmtKind Body End Stmt). EndKindPlain z.kind) is y.kind.1))
      (λ x y is. stmt_step (roll-Stmt x) (subst (λ (z : b.Stmt-F EndKind StmtKind Body End Stmt). StmtKindPlain z.kind) is y.kind.1))
