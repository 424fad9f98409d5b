-- A body that nothing refuses keeps to the aim: by induction over bodies, statements and ends, form by form.
use Rattle.std.proofs.Common.{◌≡◌, ℕ, zero, suc, ◌≤◌, le_refl, arith, Bool, true, List, [], ◌∷◌, map, Option, None, Ok, Err, refl, sym, ◌∙◌, ap, subst}
use mathlib.Core.Path.{fun_ext}
use Rattle.tht_tree.specs.declared.assn.Assn.{Assn}
use Rattle.tht_tree.specs.declared.body.Body.{Body, out-Body, roll-Body, ind-Body}
use Rattle.tht_tree.specs.declared.body.End.{End, roll-End}
use Rattle.tht_tree.specs.declared.body.EndKind.{EndKind, roll-EndKind, map-EndKind}
use Rattle.tht_tree.specs.declared.body.EndKind.TheOpen as f
use Rattle.tht_tree.specs.declared.body.Stmt.{Stmt, roll-Stmt}
use Rattle.tht_tree.specs.declared.body.StmtKind.{StmtKind, roll-StmtKind, map-StmtKind}
use Rattle.tht_tree.specs.declared.give.Give.{Give}
use Rattle.tht_tree.specs.declared.plain.Spot.{Spot}
use Rattle.tht_tree.specs.declared.rule.RuleRefusal.{RuleRefusal}
use Rattle.tht_tree.specs.declared.state.Post.{Post}
use Rattle.tht_tree.specs.declared.term.Term.{Term}
use Rattle.tht_tree.specs.declared.walk.Where.TheVariants.{Outside}
use Rattle.tht_tree.specs.Values.{Val, Env}
use Rattle.tht_tree.specs.Syntax.{Names}
use Rattle.tht_tree.specs.Heaps.{Heap}
use Rattle.tht_tree.specs.Rules.Context.{Context}
use Rattle.tht_tree.specs.Walk.Names as walk
use Rattle.tht_tree.specs.Walk.Bodies as w
use Rattle.walk_laws.proofs.Levels as walked
use Rattle.tht_logic.specs.Programs as p
use Rattle.tht_logic.specs.Programs.{Whole, Before}
use Rattle.tht_logic.specs.Machine.{closed}
use Rattle.tht_logic.specs.Meanings.{meaning_in}
use Rattle.tht_logic.specs.SamePrograms.{same_program}
use Rattle.tht_logic.specs.Rules.Checking.{Checked, and_then}
use Rattle.tht_logic.specs.Rules.Calls.{InBody}
use Rattle.tht_logic.specs.Rules.Definitions.{Declarations}
use Rattle.tht_logic.specs.Rules.Bodies as rules
use Rattle.tht_logic.specs.Rules.Bodies.{Statement, body_refused, end_refused, end_kind_refused, after_stmt, after_stmt_kind}
use Rattle.tht_logic.proofs.Levels as programs
use Rattle.tht_logic.proofs.RuleLevels as levels
use Rattle.tht_logic.proofs.Closing.{same_program_is_one}
use Rattle.assn_laws.proofs.Refusing.{nothing, behind_none}
use Rattle.hoare_laws.proofs.Places.{Setting, Aim, IsAt, Keeping, GoesOn, Meet, BodySound, StmtSound}
use Rattle.hoare_laws.proofs.FileControl.{Control}
use Rattle.hoare_laws.proofs.StmtSound.{read_sound, write_sound, alloc_sound, free_sound, step_sound}
use Rattle.hoare_laws.proofs.CallSound.{call_sound}
use Rattle.hoare_laws.proofs.DoSound.{do_sound, meet_fewer}
use Rattle.hoare_laws.proofs.EndSound.{and_then_none, ret_sound, if_keeps, truth_keeps, sides_keep, sequence_keeps, dead_keeps}

module _ (at : Setting) (laws : Control at.decl (meaning_in at.file)) where
  abbrev decl : Declarations
  decl = at.decl

  abbrev roots : Names
  roots = decl.proofs.roots

  -- ---- what is sound of each part of a body

  abbrev EndKindSound : EndKind → Type 0
  EndKindSound k = (spot : Spot) → BodySound at (p.end_kind_code roots k) (w.end_kind k spot) (end_kind_refused decl k spot)

  abbrev StmtKindSound : StmtKind → Type 0
  StmtKindSound k = (spot : Spot) → StmtSound at (p.stmt_kind_code roots k) (w.stmt_kind k spot) (after_stmt_kind decl k spot)

  abbrev WholeSound : Body → Type 0
  WholeSound x = BodySound at (p.code roots x) (w.body x) (body_refused decl x)

  abbrev EndSound : End → Type 0
  EndSound x = BodySound at (p.end_code roots x) (w.end x) (end_refused decl x)

  abbrev OneSound : Stmt → Type 0
  OneSound x = StmtSound at (p.stmt_code roots x) (w.stmt x) (after_stmt decl x)

  abbrev Ends : Type 0
  Ends = (k : EndKind) × EndKindSound k

  abbrev Kinds : Type 0
  Kinds = (k : StmtKind) × StmtKindSound k

  abbrev Wholes : Type 0
  Wholes = (x : Body) × WholeSound x

  abbrev Lasts : Type 0
  Lasts = (x : End) × EndSound x

  abbrev Ones : Type 0
  Ones = (x : Stmt) × OneSound x

  -- ---- statements

  abbrev StmtLevel : f.StmtKind-F EndKind StmtKind Body End Stmt → Type 0
  StmtLevel x = (spot : Spot) → StmtSound at (p.stmt_at roots (programs.stmt_level roots x)) (w.statement_at (walked.level x) spot) (rules.stmt_at decl (levels.stmt_parts decl x) spot)

  abbrev unpaired_stmt : f.StmtKind-F Ends Kinds Wholes Lasts Ones → f.StmtKind-F EndKind StmtKind Body End Stmt
  unpaired_stmt = map-StmtKind Ends Kinds Wholes Lasts Ones EndKind StmtKind Body End Stmt (λ z. z.0) (λ z. z.0) (λ z. z.0) (λ z. z.0) (λ z. z.0)

  stmt_level : (y : f.StmtKind-F Ends Kinds Wholes Lasts Ones) → StmtLevel (unpaired_stmt y)
  stmt_level (f.Read x r t i n q) spot = read_sound at spot x r t i n q
  stmt_level (f.Write t u i q) spot = write_sound at spot t u i q
  stmt_level (f.Alloc x ts) spot = alloc_sound at spot x ts
  stmt_level (f.Free t i q) spot = free_sound at spot t i q
  stmt_level (f.Call x c ts us g) spot = call_sound at laws spot x c ts us g
  stmt_level (f.Do x r ns y box) spot = do_sound at laws spot x r ns (p.code roots y.0) (w.body y.0) (body_refused decl y.0) box y.1
  stmt_level (f.Proof x) spot = step_sound at spot x
  stmt_level _ spot = λ aim k meet names c next env h xs vs here e ok code goes_on. cc

  -- ---- ends

  abbrev walked_end : f.EndKind-F EndKind StmtKind Body End Stmt → f.EndKind-F (Spot → w.InBody) (Spot → w.Statement) w.InBody w.InBody w.Statement
  walked_end = map-EndKind EndKind StmtKind Body End Stmt (Spot → w.InBody) (Spot → w.Statement) w.InBody w.InBody w.Statement w.end_kind w.stmt_kind w.body w.end w.stmt

  abbrev EndLevel : f.EndKind-F EndKind StmtKind Body End Stmt → Type 0
  EndLevel x = (spot : Spot) → BodySound at (p.end_at roots (programs.end_level roots x)) (w.end_at (walked_end x) spot) (rules.end_at decl (levels.end_parts decl x) spot)

  abbrev unpaired_end : f.EndKind-F Ends Kinds Wholes Lasts Ones → f.EndKind-F EndKind StmtKind Body End Stmt
  unpaired_end = map-EndKind Ends Kinds Wholes Lasts Ones EndKind StmtKind Body End Stmt (λ z. z.0) (λ z. z.0) (λ z. z.0) (λ z. z.0) (λ z. z.0)

  -- two bodies that are one program
  one : (x y : Body) → same_program x y ≡ true → p.code roots x ≡ p.code roots y
  one x y e = fun_ext (same_program_is_one x y e roots)

  end_level : (y : f.EndKind-F Ends Kinds Wholes Lasts Ones) → EndLevel (unpaired_end y)
  end_level (f.Ret t g) spot aim k meet names c env h xs vs here e ok = ret_sound at laws spot t g aim k meet names c env h xs vs here e ok
  end_level (f.If t n y z) spot aim k meet names c env h xs vs here e ok =
      if_keeps at laws spot (p.code roots y.0) (p.code roots z.0) (w.body y.0) (w.body z.0) (body_refused decl y.0) (body_refused decl z.0) y.1 z.1 aim k meet names c env h xs vs here t n e ok
  end_level (f.CaseAtom i y z) spot aim k meet names c env h xs vs here e ok =
      sides_keep at laws spot (p.code roots y.0) (p.code roots z.0) (w.body y.0) (w.body z.0) (body_refused decl y.0) (body_refused decl z.0) y.1 z.1 aim k meet names c env h xs vs here
      (same_program y.0 z.0) (one y.0 z.0) i e ok
  end_level (f.CaseBool t n y z) spot aim k meet names c env h xs vs here e ok =
      truth_keeps at laws spot (p.code roots y.0) (p.code roots z.0) (w.body y.0) (w.body z.0) (body_refused decl y.0) (body_refused decl z.0) y.1 z.1 aim k meet names c env h xs vs here
      (same_program y.0 z.0) (one y.0 z.0) t n e ok
  end_level (f.CaseSeq t n y x s z) spot aim k meet names c env h xs vs here e ok =
      sequence_keeps at laws spot (p.code roots y.0) (p.code roots z.0) (w.body y.0) (w.body z.0) (body_refused decl y.0) (body_refused decl z.0) y.1 z.1 aim k meet names c env h xs vs here
      (same_program y.0 z.0) (one y.0 z.0) t n x s e ok
  end_level (f.Dead q y) spot aim k meet names c env h xs vs here e ok = dead_keeps at laws spot (p.code roots y.0) (w.body y.0) aim k names c env h xs vs here q e ok

  -- ---- bodies

  carried_stmt : (left right : Before) (a b : w.Statement) (s t : Statement) → left ≡ right → a ≡ b → s ≡ t → StmtSound at right b t → StmtSound at left a s
  carried_stmt left right a b s t e g i sound = subst (λ z. StmtSound at z a s) (sym e) (subst (λ z. StmtSound at right z s) (sym g) (subst (StmtSound at right b) (sym i) sound))

  carried_body : (left right : Whole) (a b : w.InBody) (s t : InBody) → left ≡ right → a ≡ b → s ≡ t → BodySound at right b t → BodySound at left a s
  carried_body left right a b s t e g i sound = subst (λ z. BodySound at z a s) (sym e) (subst (λ z. BodySound at right z s) (sym g) (subst (BodySound at right b) (sym i) sound))

  -- statements one after another, and an end
  abbrev trees : List Ones → List Stmt
  trees ss = map (λ z. z.0) ss

  all_sound : (ss : List Ones) (last : Lasts) → BodySound at (p.in_order (map (p.stmt_code roots) (trees ss)) (p.end_code roots last.0)) (w.statements (map w.stmt (trees ss)) (w.end last.0))
      (rules.statements decl (map (λ z. (z, after_stmt decl z)) (trees ss)) (end_refused decl last.0))
  all_sound [] last aim k meet names c env h xs vs here e ok = last.1 aim k meet names c env h xs vs here e ok
  all_sound (s ∷ ss) last aim k meet names c env h xs vs here e ok =
      let parts = behind_none ((w.stmt s.0).walk (w.frame Outside aim.post.sort) names) (w.statements (map w.stmt (trees ss)) (w.end last.0) (w.frame Outside aim.post.sort) ((w.stmt s.0).after names)) e in
      let next = and_then_none (after_stmt decl s.0 c) (rules.statements decl (map (λ z. (z, after_stmt decl z)) (trees ss)) (end_refused decl last.0) aim.post) ok in
      s.1 aim k meet names c next.0 env h xs vs here parts.0 next.1 (p.in_order (map (p.stmt_code roots) (trees ss)) (p.end_code roots last.0))
      (λ j l later q ys ws there. all_sound ss last aim j (meet_fewer at laws j k l meet) ((w.stmt s.0).after names) next.0 later q ys ws there parts.1 next.2)

  -- ---- the induction

  end_kind_step : (x : f.EndKind-F EndKind StmtKind Body End Stmt) → EndLevel x → EndKindSound (roll-EndKind x)
  end_kind_step x sound spot =
      carried_body (p.end_kind_code roots (roll-EndKind x)) (p.end_at roots (programs.end_level roots x)) (w.end_kind (roll-EndKind x) spot) (w.end_at (walked_end x) spot)
      (end_kind_refused decl (roll-EndKind x) spot) (rules.end_at decl (levels.end_parts decl x) spot)
      (programs.end_kind_is roots x) (fun_ext (λ g. fun_ext (λ names. walked.end_kind_is x spot g names))) (ap (λ g. g spot) (levels.end_kind_rule decl x)) (sound spot)

  stmt_kind_step : (x : f.StmtKind-F EndKind StmtKind Body End Stmt) → StmtLevel x → StmtKindSound (roll-StmtKind x)
  stmt_kind_step x sound spot =
      carried_stmt (p.stmt_kind_code roots (roll-StmtKind x)) (p.stmt_at roots (programs.stmt_level roots x)) (w.stmt_kind (roll-StmtKind x) spot) (w.statement_at (walked.level x) spot)
      (after_stmt_kind decl (roll-StmtKind x) spot) (rules.stmt_at decl (levels.stmt_parts decl x) spot)
      (programs.stmt_kind_is roots x) (walked.stmt_kind_is x spot) (ap (λ g. g spot) (levels.stmt_kind_rule decl x)) (sound spot)

  end_step : (x : End) → EndKindSound x.kind → EndSound x
  end_step x sound =
      carried_body (p.end_code roots x) (p.end_kind_code roots x.kind) (w.end x) (w.end_kind x.kind x.spot) (end_refused decl x) (end_kind_refused decl x.kind x.spot)
      (programs.end_is roots x) (fun_ext (λ g. fun_ext (λ names. walked.end_is x.spot x.kind g names))) (levels.end_rule decl x) (sound x.spot)

  stmt_step : (x : Stmt) → StmtKindSound x.kind → OneSound x
  stmt_step x sound =
      carried_stmt (p.stmt_code roots x) (p.stmt_kind_code roots x.kind) (w.stmt x) (w.stmt_kind x.kind x.spot) (after_stmt decl x) (after_stmt_kind decl x.kind x.spot)
      (programs.stmt_is roots x) (walked.stmt_is x.spot x.kind) (levels.stmt_rule decl x) (sound x.spot)

  abbrev BodyLevel : f.Body-F EndKind StmtKind Body End Stmt → Type 0
  BodyLevel x = BodySound at (p.in_order (map (p.stmt_code roots) x.stmts) (p.end_code roots x.end)) (w.statements (map w.stmt x.stmts) (w.end x.end))
      (rules.statements decl (map (λ z. (z, after_stmt decl z)) x.stmts) (end_refused decl x.end))

  body_step : (x : f.Body-F EndKind StmtKind Body End Stmt) → BodyLevel x → WholeSound (roll-Body x)
  body_step x sound =
      carried_body (p.code roots (roll-Body x)) (p.in_order (map (p.stmt_code roots) x.stmts) (p.end_code roots x.end)) (w.body (roll-Body x)) (w.statements (map w.stmt x.stmts) (w.end x.end))
      (body_refused decl (roll-Body x)) (rules.statements decl (map (λ z. (z, after_stmt decl z)) x.stmts) (end_refused decl x.end))
      (programs.rolled_code roots x) (fun_ext (λ g. fun_ext (λ names. walked.body_is x.stmts x.end g names))) (levels.rolled_body decl x) sound

  -- every body
  pub bodies_sound : (x : Body) → WholeSound x
  bodies_sound =
      ind-Body EndKindSound StmtKindSound WholeSound EndSound OneSound
      (λ x y is. end_kind_step x (subst EndLevel is (end_level y)))
      (λ x y is. stmt_kind_step x (subst StmtLevel is (stmt_level y)))
      (λ x y is. body_step x (subst BodyLevel is (all_sound y.stmts y.end)))
      (λ x y is. end_step (roll-End x) (subst (λ (z : f.End-F EndKind StmtKind Body End Stmt). EndKindSound z.kind) is y.kind.1))
      (λ x y is. stmt_step (roll-Stmt x) (subst (λ (z : f.Stmt-F EndKind StmtKind Body End Stmt). StmtKindSound z.kind) is y.kind.1))
