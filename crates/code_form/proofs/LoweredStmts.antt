-- Statements and ends as nodes, form by form.
use Rattle.std.proofs.Common.{◌≡◌, ℕ, ◌<◌, List, [], ◌∷◌, ◌++◌, length, length-append, map, reverse, refl, sym, ◌∙◌, ap, subst, arith, Result, Ok, Err, IfOk}
use Rattle.std.proofs.lemmas.List.{append-nil, append_assoc}
use Rattle.tht_tree.specs.declared.assn.Assn.{Assn}
use Rattle.tht_tree.specs.declared.body.Body.{Body, fold-Body}
use Rattle.tht_tree.specs.declared.body.EndKind.{EndKind, fold-EndKind}
use Rattle.tht_tree.specs.declared.body.EndKind.TheVariants as e
use Rattle.tht_tree.specs.declared.body.StmtKind.{StmtKind, roll-StmtKind, map-StmtKind, fold-roll-StmtKind}
use Rattle.tht_tree.specs.declared.body.EndKind.TheOpen as b
use Rattle.tht_tree.specs.declared.body.End.{End, fold-End}
use Rattle.tht_tree.specs.declared.body.Stmt.{Stmt, fold-Stmt}
use Rattle.tht_tree.specs.declared.body.StmtKind.TheVariants as s
use Rattle.tht_tree.specs.declared.give.Give.{Give}
use Rattle.tht_tree.specs.declared.proof.Proof.{Proof}
use Rattle.tht_tree.specs.declared.step.Step.{Step}
use Rattle.tht_tree.specs.declared.plain.Sort.{Sort}
use Rattle.tht_tree.specs.declared.term.Term.{Term}
use Rattle.tht_tree.specs.Syntax.{Names, trm}
use Rattle.tht_logic.specs.Programs.{code, stmt_kind_code, end_code, end_kind_code, Whole, Before}
use Rattle.tht_logic.specs.Programs as programs
use Rattle.tht_logic.proofs.Levels.{end_is, read_is, write_is, alloc_is, free_is, call_is, do_is, proof_is, publish_is, retract_is, atomic_is, par_is, ret_is, if_is, case_atom_is, case_bool_is, case_seq_is, dead_is}
use Rattle.code_form.specs.declared.code.Node.{Node}
use Rattle.code_form.specs.declared.code.Node.TheVariants as node
use Rattle.code_form.specs.declared.bodies.Behind.{Behind}
use Rattle.code_form.specs.declared.bodies.Behind.TheVariants.{Caller, Inside}
use Rattle.code_form.specs.declared.bodies.Work.{Work}
use Rattle.code_form.specs.Lowering.{expr_of, number_in, end_node, Stands, IsBehind, Added, Emitted, Lowered, StmtLowered, bound_at, bound_by}
use Rattle.code_form.proofs.Emitting.{read_stands, write_stands, alloc_stands, free_stands, publish_stands, retract_stands, call_stands, atomic_stands, fork_stands, ret_stands, test_stands, nest_stands, stands_grown, behind_grown, behind_bound}

pub in_ok : {T E : Type 0} {P Q : T → Type 0} (r : Result T E) → ((x : T) → P x → Q x) → IfOk r P → IfOk r Q
in_ok (Ok x) f h = f x h
in_ok (Err x) f h = tt

-- the names that a statement binds, by its level
bound_is : (x : b.StmtKind-F EndKind StmtKind Body End Stmt) → bound_by (roll-StmtKind x)
    ≡ bound_at (map-StmtKind EndKind StmtKind Body End Stmt Names Names Names Names Names (fold-EndKind Names Names Names Names Names (λ x. []) bound_at (λ x. []) (λ x. []) (λ x. [])) bound_by (fold-Body Names Names Names Names Names (λ x. []) bound_at (λ x. []) (λ x. []) (λ x. [])) (fold-End Names Names Names Names Names (λ x. []) bound_at (λ x. []) (λ x. []) (λ x. [])) (fold-Stmt Names Names Names Names Names (λ x. []) bound_at (λ x. []) (λ x. []) (λ x. [])) x)
bound_is x = fold-roll-StmtKind Names Names Names Names Names (λ x. []) bound_at (λ x. []) (λ x. []) (λ x. []) x

module _ (old new : Work) (i : ℕ) where
  -- one node is added
  added : (n : Node) → Emitted old new n i → Added old new
  added n h = record { more = n ∷ []; nodes = h.nodes; bound = h.bound; procs = h.procs }

  there : (n : Node) → Emitted old new n i → i < length new.nodes
  there n h = let l = ap length h.nodes in let k = h.number in omega (arith, l, k, length-append old.nodes (n ∷ []))

  -- a statement that is one node
  one_node : (n : Node) (names : Names) (next : ℕ) (before : Before) → Emitted old new n i →
      ((behind : Behind) (p : Whole) → IsBehind old.nodes old.bound behind → next < length old.nodes → Stands old.procs old.nodes behind (old.bound ++ names) next p →
      Stands old.procs (old.nodes ++ n ∷ []) behind old.bound (length old.nodes) (before p)) →
      StmtLowered old new names next before i
  one_node n names next before h stands = record {
    added = added n h;
    there = λ l. there n h;
    stands = λ behind p ready l inner.
        subst (λ k. Stands old.procs new.nodes behind old.bound k (before p)) (sym h.number)
        (subst (λ z. Stands old.procs z behind old.bound (length old.nodes) (before p)) (sym h.nodes) (stands behind p ready l inner));
  }

  pub read_lowered : (x : List ℕ) (r : Sort) (t : Term) (j : ℕ) (h : List ℕ) (q : Proof) (next : ℕ) → Emitted old new (node.Read r (expr_of (reverse old.bound) t) next) i →
      StmtLowered old new (bound_by (s.Read x r t j h q)) next (stmt_kind_code [] (s.Read x r t j h q)) i
  read_lowered x r t j h q next e =
      subst (λ n. StmtLowered old new n next (stmt_kind_code [] (s.Read x r t j h q)) i) (sym (ap bound_by (sym (s.rolls-Read x r t j h q)) ∙ bound_is (b.Read x r t j h q)))
      (subst (λ z. StmtLowered old new (x ∷ []) next z i) (sym (read_is [] x r t j h q))
      (one_node _ (x ∷ []) next (λ p ys. programs.read r (trm [] ys t) (p (x ∷ ys))) e (λ behind p ready l inner. read_stands old.procs old.nodes behind old.bound ready r t next x p inner)))

  pub write_lowered : (t u : Term) (j : ℕ) (q : Proof) (next : ℕ) → Emitted old new (node.Write (expr_of (reverse old.bound) t) (expr_of (reverse old.bound) u) next) i →
      StmtLowered old new (bound_by (s.Write t u j q)) next (stmt_kind_code [] (s.Write t u j q)) i
  write_lowered t u j q next e =
      subst (λ n. StmtLowered old new n next (stmt_kind_code [] (s.Write t u j q)) i) (sym (ap bound_by (sym (s.rolls-Write t u j q)) ∙ bound_is (b.Write t u j q)))
      (subst (λ z. StmtLowered old new [] next z i) (sym (write_is [] t u j q))
      (one_node _ [] next (λ p ys. programs.write (trm [] ys t) (trm [] ys u) (p ys)) e (λ behind p ready l inner. write_stands old.procs old.nodes behind old.bound ready t u next p inner)))

  pub alloc_lowered : (x : List ℕ) (ts : List Term) (next : ℕ) → Emitted old new (node.Alloc (map (expr_of (reverse old.bound)) ts) next) i →
      StmtLowered old new (bound_by (s.Alloc x ts)) next (stmt_kind_code [] (s.Alloc x ts)) i
  alloc_lowered x ts next e =
      subst (λ n. StmtLowered old new n next (stmt_kind_code [] (s.Alloc x ts)) i) (sym (ap bound_by (sym (s.rolls-Alloc x ts)) ∙ bound_is (b.Alloc x ts)))
      (subst (λ z. StmtLowered old new (x ∷ []) next z i) (sym (alloc_is [] x ts))
      (one_node _ (x ∷ []) next (λ p ys. programs.alloc (map (trm [] ys) ts) (p (x ∷ ys))) e (λ behind p ready l inner. alloc_stands old.procs old.nodes behind old.bound ready ts next x p inner)))

  pub free_lowered : (t : Term) (j : ℕ) (q : Proof) (next : ℕ) → Emitted old new (node.Free (expr_of (reverse old.bound) t) next) i →
      StmtLowered old new (bound_by (s.Free t j q)) next (stmt_kind_code [] (s.Free t j q)) i
  free_lowered t j q next e =
      subst (λ n. StmtLowered old new n next (stmt_kind_code [] (s.Free t j q)) i) (sym (ap bound_by (sym (s.rolls-Free t j q)) ∙ bound_is (b.Free t j q)))
      (subst (λ z. StmtLowered old new [] next z i) (sym (free_is [] t j q))
      (one_node _ [] next (λ p ys. programs.drop (trm [] ys t) (p ys)) e (λ behind p ready l inner. free_stands old.procs old.nodes behind old.bound ready t next p inner)))

  pub call_lowered : (x f : List ℕ) (ts us : List Term) (g : Give) (next : ℕ) → Emitted old new (node.Call (number_in old.procs f) (map (expr_of (reverse old.bound)) ts) next) i →
      StmtLowered old new (bound_by (s.Call x f ts us g)) next (stmt_kind_code [] (s.Call x f ts us g)) i
  call_lowered x f ts us g next e =
      subst (λ n. StmtLowered old new n next (stmt_kind_code [] (s.Call x f ts us g)) i) (sym (ap bound_by (sym (s.rolls-Call x f ts us g)) ∙ bound_is (b.Call x f ts us g)))
      (subst (λ z. StmtLowered old new (x ∷ []) next z i) (sym (call_is [] x f ts us g))
      (one_node _ (x ∷ []) next (λ p ys. programs.call f (map (trm [] ys) ts) (p (x ∷ ys))) e (λ behind p ready l inner. call_stands old.procs old.nodes behind old.bound ready f ts next x p inner)))

  -- an inner body
  pub do_lowered : (x : List ℕ) (r : Sort) (ns : List ℕ) (body : Body) (box : Assn) (next : ℕ) → Lowered old new (Inside (length old.bound) next) (code [] body) i →
      StmtLowered old new (bound_by (s.Do x r ns body box)) next (stmt_kind_code [] (s.Do x r ns body box)) i
  do_lowered x r ns body box next low =
      subst (λ n. StmtLowered old new n next (stmt_kind_code [] (s.Do x r ns body box)) i) (sym (ap bound_by (sym (s.rolls-Do x r ns body box)) ∙ bound_is (b.Do x r ns body box)))
      (subst (λ z. StmtLowered old new (x ∷ []) next z i) (sym (do_is [] x r ns body box)) (record {
        added = low.added;
        there = λ l. low.there (omega arith, l);
        stands = λ behind p ready l inner.
            let a = low.added in
            subst (λ z. Stands old.procs z behind old.bound i (λ ys. programs.nest r (code [] body ys) (p (x ∷ ys)))) (sym a.nodes)
            (nest_stands old.procs old.nodes a.more behind old.bound r x next i (code [] body) p ready l
            (subst (λ z. Stands old.procs z (Inside (length old.bound) next) old.bound i (code [] body)) a.nodes (low.stands (omega arith, l))) inner);
      }))

  pub publish_lowered : (t : Term) (j : ℕ) (q : Proof) (next : ℕ) → Emitted old new (node.Publish (expr_of (reverse old.bound) t) next) i →
      StmtLowered old new (bound_by (s.Publish t j q)) next (stmt_kind_code [] (s.Publish t j q)) i
  publish_lowered t j q next e =
      subst (λ n. StmtLowered old new n next (stmt_kind_code [] (s.Publish t j q)) i) (sym (ap bound_by (sym (s.rolls-Publish t j q)) ∙ bound_is (b.Publish t j q)))
      (subst (λ z. StmtLowered old new [] next z i) (sym (publish_is [] t j q))
      (one_node _ [] next (λ p ys. programs.publish (trm [] ys t) (p ys)) e (λ behind p ready l inner. publish_stands old.procs old.nodes behind old.bound ready t next p inner)))

  pub retract_lowered : (t : Term) (j : ℕ) (q : Proof) (next : ℕ) → Emitted old new (node.Retract (expr_of (reverse old.bound) t) next) i →
      StmtLowered old new (bound_by (s.Retract t j q)) next (stmt_kind_code [] (s.Retract t j q)) i
  retract_lowered t j q next e =
      subst (λ n. StmtLowered old new n next (stmt_kind_code [] (s.Retract t j q)) i) (sym (ap bound_by (sym (s.rolls-Retract t j q)) ∙ bound_is (b.Retract t j q)))
      (subst (λ z. StmtLowered old new [] next z i) (sym (retract_is [] t j q))
      (one_node _ [] next (λ p ys. programs.retract (trm [] ys t) (p ys)) e (λ behind p ready l inner. retract_stands old.procs old.nodes behind old.bound ready t next p inner)))

  -- a block, and a fork
  pub atomic_lowered : (x : List ℕ) (r : Sort) (ns : List ℕ) (body : Body) (box : Assn) (next : ℕ)
      → ((y : List ℕ) (z : Sort) → StmtLowered old new (y ∷ []) next (λ rest ys. programs.atomic z (code [] body ys) (rest (y ∷ ys))) i)
      → StmtLowered old new (bound_by (s.Atomic x r ns body box)) next (stmt_kind_code [] (s.Atomic x r ns body box)) i
  atomic_lowered x r ns body box next made =
      subst (λ n. StmtLowered old new n next (stmt_kind_code [] (s.Atomic x r ns body box)) i) (sym (ap bound_by (sym (s.rolls-Atomic x r ns body box)) ∙ bound_is (b.Atomic x r ns body box)))
      (subst (λ z. StmtLowered old new (x ∷ []) next z i) (sym (atomic_is [] x r ns body box)) (made x r))

  pub par_lowered : (x : List ℕ) (r : Sort) (y : List ℕ) (z : Sort) (ns : List ℕ) (left : Body) (box : Assn) (ms : List ℕ) (right : Body) (last : Assn) (next : ℕ)
      → ((a c : List ℕ) (d f : Sort) → StmtLowered old new (a ∷ c ∷ []) next (λ rest ys. programs.par d f (code [] left ys) (code [] right ys) (rest (c ∷ a ∷ ys))) i)
      → StmtLowered old new (bound_by (s.Par x r y z ns left box ms right last)) next (stmt_kind_code [] (s.Par x r y z ns left box ms right last)) i
  par_lowered x r y z ns left box ms right last next made =
      subst (λ n. StmtLowered old new n next (stmt_kind_code [] (s.Par x r y z ns left box ms right last)) i) (sym (ap bound_by (sym (s.rolls-Par x r y z ns left box ms right last)) ∙ bound_is (b.Par x r y z ns left box ms right last)))
      (subst (λ k. StmtLowered old new (x ∷ y ∷ []) next k i) (sym (par_is [] x r y z ns left box ms right last)) (made x y r z))

  -- ---- ends

  -- where an end stands does not matter
  pub end_lowered : (x : End) (kind : EndKind) (behind : Behind) → x.kind ≡ kind → Lowered old new behind (end_kind_code [] kind) i → Lowered old new behind (end_code [] x) i
  end_lowered x kind behind e low = subst (λ z. Lowered old new behind z i) (sym (end_is [] x ∙ ap (end_kind_code []) e)) low

  one_end : (n : Node) (behind : Behind) (p : Whole) → Emitted old new n i →
      (IsBehind old.nodes old.bound behind → Stands old.procs (old.nodes ++ n ∷ []) behind old.bound (length old.nodes) p) → Lowered old new behind p i
  one_end n behind p h stands = record {
    added = added n h;
    there = λ ready. there n h;
    stands = λ ready.
        subst (λ k. Stands old.procs new.nodes behind old.bound k p) (sym h.number)
        (subst (λ z. Stands old.procs z behind old.bound (length old.nodes) p) (sym h.nodes) (stands ready));
  }

  pub ret_lowered : (t : Term) (g : Give) (behind : Behind) → Emitted old new (end_node old.bound behind (expr_of (reverse old.bound) t)) i → Lowered old new behind (end_kind_code [] (e.Ret t g)) i
  ret_lowered t g behind h =
      subst (λ z. Lowered old new behind z i) (sym (ret_is [] t g))
      (one_end _ behind (λ ys. programs.ret (trm [] ys t)) h (λ ready. ret_stands old.procs old.nodes behind old.bound ready t))

  pub if_lowered : (t : Term) (h : List ℕ) (body other : Body) (behind : Behind) → Lowered old new behind (λ ys. programs.test (trm [] ys t) (code [] body ys) (code [] other ys)) i →
      Lowered old new behind (end_kind_code [] (e.If t h body other)) i
  if_lowered t h body other behind low = subst (λ z. Lowered old new behind z i) (sym (if_is [] t h body other)) low

  pub case_atom_lowered : (j : ℕ) (body other : Body) (behind : Behind) → Lowered old new behind (code [] body) i → Lowered old new behind (end_kind_code [] (e.CaseAtom j body other)) i
  case_atom_lowered j body other behind low = subst (λ z. Lowered old new behind z i) (sym (case_atom_is [] j body other)) low

  pub case_bool_lowered : (t : Term) (h : List ℕ) (body other : Body) (behind : Behind) → Lowered old new behind (code [] body) i → Lowered old new behind (end_kind_code [] (e.CaseBool t h body other)) i
  case_bool_lowered t h body other behind low = subst (λ z. Lowered old new behind z i) (sym (case_bool_is [] t h body other)) low

  pub case_seq_lowered : (t : Term) (h : List ℕ) (body : Body) (x y : List ℕ) (other : Body) (behind : Behind) → Lowered old new behind (code [] body) i →
      Lowered old new behind (end_kind_code [] (e.CaseSeq t h body x y other)) i
  case_seq_lowered t h body x y other behind low = subst (λ z. Lowered old new behind z i) (sym (case_seq_is [] t h body x y other)) low

  pub dead_lowered : (q : Proof) (body : Body) (behind : Behind) → Lowered old new behind (code [] body) i → Lowered old new behind (end_kind_code [] (e.Dead q body)) i
  dead_lowered q body behind low = subst (λ z. Lowered old new behind z i) (sym (dead_is [] q body)) low

-- a proof step is nothing
pub proof_lowered : (old : Work) (x : Step) (next : ℕ) → StmtLowered old old (bound_by (s.Proof x)) next (stmt_kind_code [] (s.Proof x)) next
proof_lowered old x next =
    subst (λ n. StmtLowered old old n next (stmt_kind_code [] (s.Proof x)) next) (sym (ap bound_by (sym (s.rolls-Proof x)) ∙ bound_is (b.Proof x)))
    (subst (λ z. StmtLowered old old [] next z next) (sym (proof_is [] x)) (record {
      added = record { more = []; nodes = sym (append-nil old.nodes); bound = refl; procs = refl };
      there = λ l. l;
      stands = λ behind p ready l inner. subst (λ z. Stands old.procs old.nodes behind z next p) (append-nil old.bound) inner;
    }))

-- a condition with the bodies of both its cases
pub both_lowered : (old one two new : Work) (t : Term) (body other : Body) (behind : Behind) (i j k : ℕ) → Lowered old one behind (code [] body) i → Lowered one two behind (code [] other) j →
    Emitted two new (node.If (expr_of (reverse two.bound) t) i j) k → Lowered old new behind (λ ys. programs.test (trm [] ys t) (code [] body ys) (code [] other ys)) k
both_lowered old one two new t body other behind i j k low high h =
    let a = low.added in
    let b = high.added in
    let bound_one : one.bound ≡ old.bound = a.bound in
    let bound_two : two.bound ≡ old.bound = b.bound ∙ a.bound in
    let procs_two : two.procs ≡ old.procs = b.procs ∙ a.procs in
    let nodes_one : one.nodes ≡ old.nodes ++ a.more = a.nodes in
    let ready_one : IsBehind old.nodes old.bound behind → IsBehind one.nodes one.bound behind = λ ready.
    subst (λ z. IsBehind one.nodes z behind) (sym bound_one) (subst (λ z. IsBehind z old.bound behind) (sym nodes_one) (behind_grown old.procs old.nodes a.more behind old.bound behind ready)) in
    let ready_two : IsBehind one.nodes one.bound behind → IsBehind two.nodes two.bound behind = λ ready.
    subst (λ z. IsBehind two.nodes z behind) (sym b.bound) (subst (λ z. IsBehind z one.bound behind) (sym b.nodes) (behind_grown one.procs one.nodes b.more behind one.bound behind ready)) in
    record {
      added = record {
        more = a.more ++ (b.more ++ node.If (expr_of (reverse two.bound) t) i j ∷ []);
        nodes =
            h.nodes ∙ ap (λ z. z ++ node.If (expr_of (reverse two.bound) t) i j ∷ []) (b.nodes ∙ ap (λ z. z ++ b.more) a.nodes) ∙
            append_assoc (old.nodes ++ a.more) b.more (node.If (expr_of (reverse two.bound) t) i j ∷ []) ∙
            append_assoc old.nodes a.more (b.more ++ node.If (expr_of (reverse two.bound) t) i j ∷ []);
        bound = h.bound ∙ bound_two;
        procs = h.procs ∙ procs_two;
      };
      there = λ ready. let l = ap length h.nodes in let n = h.number in omega (arith, l, n, length-append two.nodes (node.If (expr_of (reverse two.bound) t) i j ∷ []));
      stands = λ ready.
          let r1 = ready_one ready in
          let r2 = ready_two r1 in
          let left : Stands two.procs two.nodes behind two.bound i (code [] body) =
          subst (λ z. Stands z two.nodes behind two.bound i (code [] body)) (sym procs_two)
          (subst (λ z. Stands old.procs two.nodes behind z i (code [] body)) (sym bound_two)
          (subst (λ z. Stands old.procs z behind old.bound i (code [] body)) (sym b.nodes)
          (stands_grown old.procs one.nodes b.more behind old.bound i (code [] body) (subst (λ z. IsBehind one.nodes z behind) bound_one r1) (low.there ready) (low.stands ready)))) in
          let right : Stands two.procs two.nodes behind two.bound j (code [] other) =
          subst (λ z. Stands z two.nodes behind two.bound j (code [] other)) (sym b.procs)
          (subst (λ z. Stands one.procs two.nodes behind z j (code [] other)) (sym b.bound) (high.stands r1)) in
          let all : Stands two.procs (two.nodes ++ node.If (expr_of (reverse two.bound) t) i j ∷ []) behind two.bound (length two.nodes) (λ ys. programs.test (trm [] ys t) (code [] body ys) (code [] other ys)) =
          test_stands two.procs two.nodes behind two.bound r2 t i j (code [] body) (code [] other) left right in
          subst (λ z. Stands z new.nodes behind old.bound k (λ ys. programs.test (trm [] ys t) (code [] body ys) (code [] other ys))) procs_two
          (subst (λ z. Stands two.procs new.nodes behind z k (λ ys. programs.test (trm [] ys t) (code [] body ys) (code [] other ys))) bound_two
          (subst (λ z. Stands two.procs z behind two.bound k (λ ys. programs.test (trm [] ys t) (code [] body ys) (code [] other ys))) (sym h.nodes)
          (subst (λ z. Stands two.procs (two.nodes ++ node.If (expr_of (reverse two.bound) t) i j ∷ []) behind two.bound z (λ ys. programs.test (trm [] ys t) (code [] body ys) (code [] other ys))) (sym h.number) all)));
    }

-- ---- blocks and forks with their bodies

-- a node behind others, which were added to those that there were
module _ (old one new : Work) (n : Node) (i : ℕ) (a : Added old one) (h : Emitted one new n i) where
  added_more : Added old new
  added_more = record {
    more = a.more ++ n ∷ [];
    nodes = h.nodes ∙ ap (λ z. z ++ n ∷ []) a.nodes ∙ append_assoc old.nodes a.more (n ∷ []);
    bound = h.bound ∙ a.bound;
    procs = h.procs ∙ a.procs;
  }

  -- what stands behind, and the rest, among the nodes before it
  behind_before : (behind : Behind) → IsBehind old.nodes old.bound behind → IsBehind one.nodes old.bound behind
  behind_before behind ready = subst (λ z. IsBehind z old.bound behind) (sym a.nodes) (behind_grown old.procs old.nodes a.more behind old.bound behind ready)

  rest_before : (behind : Behind) (names : Names) (next : ℕ) (p : Whole) → IsBehind old.nodes old.bound behind → next < length old.nodes
      → Stands old.procs old.nodes behind (old.bound ++ names) next p → Stands old.procs one.nodes behind (old.bound ++ names) next p
  rest_before behind names next p ready l inner =
      subst (λ z. Stands old.procs z behind (old.bound ++ names) next p) (sym a.nodes)
      (stands_grown old.procs old.nodes a.more behind (old.bound ++ names) next p (behind_bound old.procs old.nodes [] behind old.bound names behind ready) l inner)

  stands_last : (behind : Behind) (q : Whole) → Stands old.procs (one.nodes ++ n ∷ []) behind old.bound (length one.nodes) q → Stands old.procs new.nodes behind old.bound i q
  stands_last behind q stands =
      subst (λ k. Stands old.procs new.nodes behind old.bound k q) (sym h.number)
      (subst (λ z. Stands old.procs z behind old.bound (length one.nodes) q) (sym h.nodes) stands)

  -- a statement that is this node
  last_lowered : (names : Names) (next : ℕ) (before : Before)
      → ((behind : Behind) (p : Whole) → IsBehind one.nodes old.bound behind → Stands old.procs one.nodes behind (old.bound ++ names) next p
      → Stands old.procs (one.nodes ++ n ∷ []) behind old.bound (length one.nodes) (before p))
      → StmtLowered old new names next before i
  last_lowered names next before stands = record {
    added = added_more;
    there = λ l. there one new i n h;
    stands = λ behind p ready l inner. stands_last behind (before p) (stands behind p (behind_before behind ready) (rest_before behind names next p ready l inner));
  }

pub atomic_made : (old one new : Work) (body : Body) (next first i : ℕ) → Lowered old one Caller (code [] body) first → Emitted one new (node.Atomic first next) i
    → (x : List ℕ) (r : Sort) → StmtLowered old new (x ∷ []) next (λ rest ys. programs.atomic r (code [] body ys) (rest (x ∷ ys))) i
atomic_made old one new body next first i low h x r =
    last_lowered old one new (node.Atomic first next) i low.added h (x ∷ []) next (λ rest ys. programs.atomic r (code [] body ys) (rest (x ∷ ys)))
    (λ behind p ready inner. atomic_stands old.procs one.nodes behind old.bound ready r first next x (code [] body) p (low.stands tt) inner)

pub par_made : (old one two new : Work) (left right : Body) (next j k i : ℕ) → Lowered old one Caller (code [] left) j → Lowered one two Caller (code [] right) k
    → Emitted two new (node.Fork j k next) i
    → (x y : List ℕ) (r z : Sort) → StmtLowered old new (x ∷ y ∷ []) next (λ rest ys. programs.par r z (code [] left ys) (code [] right ys) (rest (y ∷ x ∷ ys))) i
par_made old one two new left right next j k i low high h x y r z =
    let a = low.added in
    let b = high.added in
    let both : Added old two = record {
      more = a.more ++ b.more;
      nodes = b.nodes ∙ ap (λ w. w ++ b.more) a.nodes ∙ append_assoc old.nodes a.more b.more;
      bound = b.bound ∙ a.bound;
      procs = b.procs ∙ a.procs;
    } in
    let first : Stands old.procs two.nodes Caller old.bound j (code [] left) =
    subst (λ w. Stands old.procs w Caller old.bound j (code [] left)) (sym b.nodes) (stands_grown old.procs one.nodes b.more Caller old.bound j (code [] left) tt (low.there tt) (low.stands tt)) in
    let second : Stands old.procs two.nodes Caller old.bound k (code [] right) =
    subst (λ w. Stands w two.nodes Caller old.bound k (code [] right)) a.procs (subst (λ w. Stands one.procs two.nodes Caller w k (code [] right)) a.bound (high.stands tt)) in
    last_lowered old two new (node.Fork j k next) i both h (x ∷ y ∷ []) next (λ rest ys. programs.par r z (code [] left ys) (code [] right ys) (rest (y ∷ x ∷ ys)))
    (λ behind p ready inner. fork_stands old.procs two.nodes behind old.bound ready r z j k next x y (code [] left) (code [] right) p first second inner)
