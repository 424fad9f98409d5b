-- Statements one after another, and bodies.
use Rattle.std.proofs.Common.{◌≡◌, ℕ, ◌+◌, ◌<◌, ◌≤◌, List, [], ◌∷◌, ◌++◌, length, map, take, get_or, refl, sym, ◌∙◌, ap, subst, Result, Ok, Err, IfOk}
use Rattle.std.proofs.lemmas.List.{append-nil, append_assoc, take_more, take_all}
use Rattle.tht_tree.specs.declared.body.Body.{Body, out-Body}
use Rattle.tht_tree.specs.declared.body.Stmt.{Stmt}
use Rattle.tht_tree.specs.declared.plain.Memory.{Memory}
use Rattle.tht_tree.specs.Syntax.{Names}
use Rattle.tht_logic.specs.Programs.{code, end_code, stmt_code, stmt_kind_code, in_order, Whole}
use Rattle.tht_logic.proofs.Levels.{code_is, stmt_is}
use Rattle.code_form.specs.declared.bodies.Behind.{Behind}
use Rattle.code_form.specs.declared.bodies.Work.{Work}
use Rattle.code_form.specs.Lowering.{Stands, IsBehind, Lowered, StmtLowered, StmtsLowered, Bound, Unbound, bound_by, bound_in}
use Rattle.code_form.proofs.Emitting.{behind_grown, behind_bound}

-- ---- names

pub bound_in_append : (xs ys : List Stmt) → bound_in (xs ++ ys) ≡ bound_in xs ++ bound_in ys
bound_in_append [] ys = refl
bound_in_append (x ∷ xs) ys = ap (λ z. bound_by x.kind ++ z) (bound_in_append xs ys) ∙ sym (append_assoc (bound_by x.kind) (bound_in xs) (bound_in ys))

pub bound_in_push : (xs : List Stmt) (x : Stmt) → bound_in (xs ++ x ∷ []) ≡ bound_in xs ++ bound_by x.kind
bound_in_push xs x = bound_in_append xs (x ∷ []) ∙ ap (λ z. bound_in xs ++ z) (append-nil (bound_by x.kind))

pub bound_more : (w0 w1 w2 : Work) (xs : List Stmt) (x : Stmt) → Bound w0 w1 (bound_in xs) → Bound w1 w2 (bound_by x.kind) → Bound w0 w2 (bound_in (xs ++ x ∷ []))
bound_more w0 w1 w2 xs x a b = record {
  bound = b.bound ∙ ap (λ z. z ++ bound_by x.kind) a.bound ∙ append_assoc w0.bound (bound_in xs) (bound_by x.kind) ∙ ap (λ z. w0.bound ++ z) (sym (bound_in_push xs x));
  nodes = b.nodes ∙ a.nodes;
  procs = b.procs ∙ a.procs;
}

-- one statement more is bound, of those that are gone through
pub bound_next : (w0 w1 w2 : Work) (xs : List Stmt) (i : ℕ) (x : Stmt) → i < length xs → x ≡ get_or xs i x → Bound w0 w1 (bound_in (take i xs)) → Bound w1 w2 (bound_by x.kind) → Bound w0 w2 (bound_in (take (i + 1) xs))
bound_next w0 w1 w2 xs i x l e a b =
    subst (λ z. Bound w0 w2 (bound_in z)) (sym (take_more xs i x l ∙ ap (λ y. take i xs ++ y ∷ []) (sym e))) (bound_more w0 w1 w2 (take i xs) x a b)

pub bound_to_end : (w0 w1 : Work) (xs : List Stmt) (i : ℕ) → length xs ≤ i → Bound w0 w1 (bound_in (take i xs)) → Bound w0 w1 (bound_in xs)
bound_to_end w0 w1 xs i l b = subst (λ z. Bound w0 w1 (bound_in z)) (take_all i xs l) b

-- ---- statements

-- no statement is left
pub none_lowered : (old : Work) (outer : Names) (last : ℕ) → old.bound ≡ outer → StmtsLowered old old outer [] last last
none_lowered old outer last e = record {
  more = [];
  nodes = sym (append-nil old.nodes);
  bound = e;
  procs = refl;
  there = λ l. l;
  stands = λ behind p ready l inner. subst (λ z. Stands old.procs old.nodes behind z last p) (append-nil outer) inner;
}

-- one statement before others: what it binds is taken back, and then it is made
pub one_more : (old mid cut new : Work) (outer : Names) (x : Stmt) (done : List Stmt) (last at i : ℕ) → StmtsLowered old mid (outer ++ bound_by x.kind) done last at → Unbound mid cut outer →
    StmtLowered cut new (bound_by x.kind) at (stmt_kind_code [] x.kind) i → StmtsLowered old new outer (x ∷ done) last i
one_more old mid cut new outer x done last at i before unbound e =
    let one : cut.bound ≡ outer = unbound.bound in
    let a = e.added in
    let nodes_is : cut.nodes ≡ old.nodes ++ before.more = unbound.nodes ∙ before.nodes in
    let procs_is : cut.procs ≡ old.procs = unbound.procs ∙ before.procs in
    record {
      more = before.more ++ a.more;
      nodes = a.nodes ∙ ap (λ z. z ++ a.more) nodes_is ∙ append_assoc old.nodes before.more a.more;
      bound = a.bound ∙ one;
      procs = a.procs ∙ procs_is;
      there = λ l. e.there (subst (λ z. at < length z) (sym unbound.nodes) (before.there l));
      stands = λ behind p ready l inner.
          let whole : Whole = in_order (map (λ s. stmt_code [] s) done) p in
          let names : outer ++ bound_in (x ∷ done) ≡ (outer ++ bound_by x.kind) ++ bound_in done = sym (append_assoc outer (bound_by x.kind) (bound_in done)) in
          let rest : Stands old.procs mid.nodes behind (outer ++ bound_by x.kind) at whole =
          before.stands behind p (behind_bound old.procs old.nodes [] behind outer (bound_by x.kind) behind ready) l (subst (λ z. Stands old.procs old.nodes behind z last p) names inner) in
          let ready_here : IsBehind cut.nodes cut.bound behind =
          subst (λ z. IsBehind cut.nodes z behind) (sym one) (subst (λ z. IsBehind z outer behind) (sym nodes_is) (behind_grown old.procs old.nodes before.more behind outer behind ready)) in
          let rest_here : Stands cut.procs cut.nodes behind (cut.bound ++ bound_by x.kind) at whole =
          subst (λ z. Stands z cut.nodes behind (cut.bound ++ bound_by x.kind) at whole) (sym procs_is)
          (subst (λ z. Stands old.procs z behind (cut.bound ++ bound_by x.kind) at whole) (sym unbound.nodes)
          (subst (λ z. Stands old.procs mid.nodes behind (z ++ bound_by x.kind) at whole) (sym one) rest)) in
          let made : Stands cut.procs new.nodes behind cut.bound i (stmt_kind_code [] x.kind whole) = e.stands behind whole ready_here (subst (λ z. at < length z) (sym unbound.nodes) (before.there l)) rest_here in
          subst (λ z. Stands old.procs new.nodes behind outer i (z whole)) (sym (stmt_is [] x))
          (subst (λ z. Stands z new.nodes behind outer i (stmt_kind_code [] x.kind whole)) procs_is
          (subst (λ z. Stands cut.procs new.nodes behind z i (stmt_kind_code [] x.kind whole)) one made));
    }

-- what is made so far of statements of which these are left
pub record MadeSoFar (old now : Work) (outer : Names) (stmts rest : List Stmt) (last at : ℕ) : Type 0 where
  pub done : List Stmt
  pub all : stmts ≡ rest ++ done
  pub lowered : StmtsLowered old now (outer ++ bound_in rest) done last at

pub made_first : (old : Work) (outer : Names) (stmts : List Stmt) (last : ℕ) → old.bound ≡ outer ++ bound_in stmts → MadeSoFar old old outer stmts stmts last last
made_first old outer stmts last e = record { done = []; all = sym (append-nil stmts); lowered = none_lowered old (outer ++ bound_in stmts) last e }

pub made_turn : (old mid cut new : Work) (outer : Names) (stmts rest front : List Stmt) (x : Stmt) (last at i : ℕ) → MadeSoFar old mid outer stmts rest last at → rest ≡ front ++ x ∷ [] →
    ((names : Names) → mid.bound ≡ names ++ bound_by x.kind → Unbound mid cut names) → StmtLowered cut new (bound_by x.kind) at (stmt_kind_code [] x.kind) i → MadeSoFar old new outer stmts front last i
made_turn old mid cut new outer stmts rest front x last at i m e unbind made =
    let names : outer ++ bound_in rest ≡ (outer ++ bound_in front) ++ bound_by x.kind =
    ap (λ z. outer ++ bound_in z) e ∙ ap (λ z. outer ++ z) (bound_in_push front x) ∙ sym (append_assoc outer (bound_in front) (bound_by x.kind)) in
    let l = m.lowered in
    record {
      done = x ∷ m.done;
      all = m.all ∙ ap (λ z. z ++ m.done) e ∙ append_assoc front (x ∷ []) m.done;
      lowered = one_more old mid cut new (outer ++ bound_in front) x m.done last at i (subst (λ z. StmtsLowered old mid z m.done last at) names m.lowered) (unbind (outer ++ bound_in front) (l.bound ∙ names)) made;
    }

pub made_all : (old new : Work) (outer : Names) (stmts rest : List Stmt) (last i : ℕ) → MadeSoFar old new outer stmts rest last i → rest ≡ [] → StmtsLowered old new outer stmts last i
made_all old new outer stmts rest last i m e =
    subst (λ z. StmtsLowered old new outer z last i) (sym (m.all ∙ ap (λ z. z ++ m.done) e))
    (subst (λ z. StmtsLowered old new z m.done last i) (ap (λ z. outer ++ bound_in z) e ∙ append-nil outer) m.lowered)

-- ---- bodies

pub body_lowered : (w0 w1 w2 w3 : Work) (body : Body) (behind : Behind) (last i : ℕ) → Bound w0 w1 (bound_in (out-Body body).stmts) → Lowered w1 w2 behind (end_code [] (out-Body body).end) last →
    ((outer : Names) → w2.bound ≡ outer ++ bound_in (out-Body body).stmts → StmtsLowered w2 w3 outer (out-Body body).stmts last i) → Lowered w0 w3 behind (code [] body) i
body_lowered w0 w1 w2 w3 body behind last i bound low made =
    let a = low.added in
    let nodes_is : w2.nodes ≡ w0.nodes ++ a.more = a.nodes ∙ ap (λ z. z ++ a.more) bound.nodes in
    let procs_is : w2.procs ≡ w0.procs = a.procs ∙ bound.procs in
    let names : w2.bound ≡ w0.bound ++ bound_in (out-Body body).stmts = a.bound ∙ bound.bound in
    let all : StmtsLowered w2 w3 w0.bound (out-Body body).stmts last i = made w0.bound names in
    let ready_end : IsBehind w0.nodes w0.bound behind → IsBehind w1.nodes w1.bound behind = λ ready.
    subst (λ z. IsBehind w1.nodes z behind) (sym bound.bound) (subst (λ z. IsBehind z (w0.bound ++ bound_in (out-Body body).stmts) behind) (sym bound.nodes) (behind_bound w0.procs w0.nodes [] behind w0.bound (bound_in (out-Body body).stmts) behind ready)) in
    record {
      added = record {
        more = a.more ++ all.more;
        nodes = all.nodes ∙ ap (λ z. z ++ all.more) nodes_is ∙ append_assoc w0.nodes a.more all.more;
        bound = all.bound;
        procs = all.procs ∙ procs_is;
      };
      there = λ ready. all.there (low.there (ready_end ready));
      stands = λ ready.
          let end : Whole = end_code [] (out-Body body).end in
          let ready_here : IsBehind w2.nodes w0.bound behind = subst (λ z. IsBehind z w0.bound behind) (sym nodes_is) (behind_grown w0.procs w0.nodes a.more behind w0.bound behind ready) in
          let inner : Stands w2.procs w2.nodes behind (w0.bound ++ bound_in (out-Body body).stmts) last end =
          subst (λ z. Stands z w2.nodes behind (w0.bound ++ bound_in (out-Body body).stmts) last end) (sym a.procs)
          (subst (λ z. Stands w1.procs w2.nodes behind z last end) bound.bound (low.stands (ready_end ready))) in
          subst (λ z. Stands w0.procs w3.nodes behind w0.bound i z) (sym (code_is [] body))
          (subst (λ z. Stands z w3.nodes behind w0.bound i (in_order (map (λ s. stmt_code [] s) (out-Body body).stmts) end)) procs_is
          (all.stands behind end ready_here (low.there (ready_end ready)) inner));
    }

-- a body whose statements are these
pub body_made : (w0 w1 w2 w3 : Work) (body : Body) (stmts : List Stmt) (behind : Behind) (last i : ℕ) → stmts ≡ (out-Body body).stmts → Bound w0 w1 (bound_in stmts) → Lowered w1 w2 behind (end_code [] (out-Body body).end) last →
    ((outer : Names) → w2.bound ≡ outer ++ bound_in stmts → StmtsLowered w2 w3 outer stmts last i) → Lowered w0 w3 behind (code [] body) i
body_made w0 w1 w2 w3 body stmts behind last i e bound low made =
    body_lowered w0 w1 w2 w3 body behind last i (subst (λ z. Bound w0 w1 (bound_in z)) e bound) low
    (subst (λ z. (outer : Names) → w2.bound ≡ outer ++ bound_in z → StmtsLowered w2 w3 outer z last i) e made)

pub body_made_in : (r : Result ℕ Memory) (w0 w1 w2 w3 : Work) (body : Body) (stmts : List Stmt) (behind : Behind) (last : ℕ) → stmts ≡ (out-Body body).stmts → Bound w0 w1 (bound_in stmts) →
    Lowered w1 w2 behind (end_code [] (out-Body body).end) last → IfOk r (λ i. (outer : Names) → w2.bound ≡ outer ++ bound_in stmts → StmtsLowered w2 w3 outer stmts last i) →
    IfOk r (λ i. Lowered w0 w3 behind (code [] body) i)
body_made_in (Ok i) w0 w1 w2 w3 body stmts behind last e bound low made = body_made w0 w1 w2 w3 body stmts behind last i e bound low made
body_made_in (Err x) w0 w1 w2 w3 body stmts behind last e bound low made = tt
