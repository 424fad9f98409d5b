-- What is refused in the statements of a body, one after another, and in its end.
use Rattle.std.proofs.Common.{◌≡◌, List, [], ◌∷◌, Option, Some, None, Result, Ok, Err, sym, ◌∙◌, ap, subst}
use Rattle.std.specs.Prelude.{OnOk}
use Rattle.tht_tree.specs.declared.assn.Assn.{Assn}
use Rattle.tht_tree.specs.declared.body.Body.{Body, out-Body}
use Rattle.tht_tree.specs.declared.body.Stmt.{Stmt}
use Rattle.tht_tree.specs.declared.plain.Spot.{Spot}
use Rattle.tht_tree.specs.declared.rule.RuleRefusal.{RuleRefusal}
use Rattle.tht_tree.specs.declared.state.Post.{Post}
use Rattle.tht_tree.specs.Normal.Putting.{Puts}
use Rattle.tht_tree.specs.Rules.Context.{Context}
use Rattle.tht_logic.specs.Putting.{put_assn_within}
use Rattle.tht_logic.specs.Rules.Bodies.{needs_none_left, statements, after_stmt, body_refused, end_refused}
use Rattle.tht_logic.specs.Rules.Calls.{InBody}
use Rattle.tht_logic.specs.Rules.Checking.{Checked, on_ok, and_then, put_or_refused}
use Rattle.tht_logic.specs.Rules.Definitions.{Declarations}
use Rattle.tht_logic.proofs.RuleLevels.{with_after, body_rule}
use Rattle.pure_proofs.specs.declared.refusal.Refusal.{Refusal}
use Rattle.pure_proofs.specs.declared.refusal.Refusal.TheVariants.{Rule, Memory}
use Rattle.pure_proofs.specs.Verdicts.{IsStop, IsVerdict}
use Rattle.heap_rules.specs.Following.{Refuses, Makes}

-- ---- one statement

module _ (decl : Declarations) (ss rest : List Stmt) (x : Stmt) (post : Post) (c : Context) (last : InBody) (is : ss ≡ x ∷ rest) where
  after_it : statements decl (with_after decl ss) last post c ≡ and_then (after_stmt decl x c) (statements decl (with_after decl rest) last post)
  after_it = ap (λ z. statements decl (with_after decl z) last post c) is

  pub refused_next : (d : Context) → after_stmt decl x c ≡ Ok d → statements decl (with_after decl ss) last post c ≡ statements decl (with_after decl rest) last post d
  refused_next d after = after_it ∙ ap (λ o. and_then o (statements decl (with_after decl rest) last post)) after

  refused_here : (r : RuleRefusal) → after_stmt decl x c ≡ Err r → statements decl (with_after decl ss) last post c ≡ Some r
  refused_here r after = after_it ∙ ap (λ o. and_then o (statements decl (with_after decl rest) last post)) after

  pub body_stops : (e : Refusal) (whole : Option RuleRefusal) → whole ≡ statements decl (with_after decl ss) last post c → Refuses e (after_stmt decl x c) → IsStop e whole
  body_stops (Rule r) whole left refused = left ∙ refused_here r refused
  body_stops Memory whole left refused = tt

-- ---- the end

pub body_starts : (decl : Declarations) (x : Body) (post : Post) (c : Context) → body_refused decl x post c ≡ statements decl (with_after decl (out-Body x).stmts) (end_refused decl (out-Body x).end) post c
body_starts decl x post c = ap (λ f. f post c) (body_rule decl x)

pub body_ends : {A : Type 0} (result : Result A Refusal) (decl : Declarations) (whole : Option RuleRefusal) (ss : List Stmt) (post : Post) (c : Context) (last : InBody) → ss ≡ []
    → whole ≡ statements decl (with_after decl ss) last post c → IsVerdict result (last post c) → IsVerdict result whole
body_ends result decl whole ss post c last is left h = subst (IsVerdict result) (sym (left ∙ ap (λ z. statements decl (with_after decl z) last post c) is)) h

-- the same put in
pub put_same : (result : Result Assn Refusal) (spot : Spot) (p : Assn) (by qs : Puts) → by ≡ qs → Makes result (put_or_refused spot (put_assn_within by p)) → Makes result (put_or_refused spot (put_assn_within qs p))
put_same result spot p by qs e h = subst (λ z. Makes result (put_or_refused spot (put_assn_within z p))) e h

-- the goal is not made
pub goal_stops : (e : Refusal) (spot : Spot) (goal : Checked Assn) (go : Assn → Checked Context) → Refuses e goal → IsStop e (needs_none_left spot (on_ok goal go))
goal_stops (Rule r) spot goal go h = ap (λ z. needs_none_left spot (on_ok z go)) h
goal_stops Memory spot goal go h = tt

-- the give does not prove it
pub give_stops : (e : Refusal) (spot : Spot) (goal : Checked Assn) (go : Assn → Checked Context) (p : Assn) → goal ≡ Ok p → Refuses e (go p) → IsStop e (needs_none_left spot (on_ok goal go))
give_stops (Rule r) spot goal go p is h = ap (λ z. needs_none_left spot (on_ok z go)) is ∙ ap (needs_none_left spot) h
give_stops Memory spot goal go p is h = tt

-- what is refused, once it has proved it
pub given : (spot : Spot) (goal : Checked Assn) (go : Assn → Checked Context) (p : Assn) (c : Context) → goal ≡ Ok p → go p ≡ Ok c → needs_none_left spot (on_ok goal go) ≡ needs_none_left spot (Ok c)
given spot goal go p c is h = ap (λ z. needs_none_left spot (on_ok z go)) is ∙ ap (needs_none_left spot) h

-- what holds where nothing is refused
pub verdict_ok : {A : Type 0} (result : Result A Refusal) (said : Option RuleRefusal) (P : Type 0) → (said ≡ None → P) → IsVerdict result said → OnOk result P
verdict_ok (Ok x) said P f h = f h
verdict_ok (Err e) said P f h = tt
