-- Two bodies that are one program where no name is bound and no root declared are one whatever the roots and the bound names are: the program
-- there is made from the program without them.
use Rattle.std.proofs.Common.{◌≡◌, ◌∙◌, ℕ, suc, ◌+◌, Bool, true, false, arith, length, List, [], ◌∷◌, ◌++◌, map, Option, Some, None, refl, sym, ap, subst}
use Rattle.std.specs.Prelude.{bytes_eq, if◌then◌else◌}
use Rattle.tht_tree.specs.declared.term.Term.{Term}
use Rattle.tht_tree.specs.declared.body.Body.{Body, roll-Body, out-roll-Body, ind-Body}
use Rattle.tht_tree.specs.declared.body.End.{End, roll-End}
use Rattle.tht_tree.specs.declared.body.EndKind.{EndKind, roll-EndKind, map-EndKind}
use Rattle.tht_tree.specs.declared.body.EndKind.TheOpen as b
use Rattle.tht_tree.specs.declared.body.Stmt.{Stmt, roll-Stmt}
use Rattle.tht_tree.specs.declared.body.StmtKind.{StmtKind, roll-StmtKind, map-StmtKind}
use Rattle.tht_tree.specs.Syntax.{Names, position, Trm, lit, free, bound, len, off, neg, op, named, trm}
use Rattle.tht_tree.specs.Normal.Putting.{put}
use Rattle.tht_logic.specs.Programs.{Code, ret, test, read, write, alloc, drop, publish, retract, call, nest, atomic, par, Whole, Before, in_order, stmt_at, end_at, code, stmt_code, stmt_kind_code, end_code, end_kind_code}
use Rattle.tht_logic.specs.SamePrograms.{same_program}
use Rattle.tht_logic.proofs.NamesInTerms.{all_free, name_in, bind_names}
use Rattle.tht_logic.proofs.SameCodes.{same_code_exact}
use Rattle.tht_logic.proofs.Levels.{code_is, stmt_is, end_is, stmt_level, end_level, stmt_kind_is, end_kind_is}

-- ---- names

-- where a name stands in two lists, one behind the other, from k on: in the first, or else in the second
abbrev or_else : Option ℕ → Option ℕ → Option ℕ
or_else (Some k) o = Some k
or_else None o = o

position_in_both : (k : ℕ) (ys xs : Names) (x : List ℕ) → position k (ys ++ xs) x ≡ or_else (position k ys x) (position (k + length ys) xs x)
position_in_both k [] xs x = ap (λ n. position n xs x) (omega arith)
position_in_both k (y ∷ ys) xs x = pick (bytes_eq y x) (position_in_both (suc k) ys xs x)
  where
    pick : (c : Bool) → position (suc k) (ys ++ xs) x ≡ or_else (position (suc k) ys x) (position (suc k + length ys) xs x)
        → (if c then Some k else position (suc k) (ys ++ xs) x) ≡ or_else (if c then Some k else position (suc k) ys x) (position (k + suc (length ys)) xs x)
    pick true later = refl
    pick false later = later ∙ ap (λ n. or_else (position (suc k) ys x) (position n xs x)) (omega arith)

-- terms put in for names, and others for the names in what was put in
put_again : (f g h : List ℕ → Trm) → ((x : List ℕ) → f x ≡ put h (g x)) → (u : Trm) → put f u ≡ put h (put g u)
put_again f g h names (lit v) = refl
put_again f g h names (free x) = names x
put_again f g h names (bound k) = refl
put_again f g h names (len a) = ap len (put_again f g h names a)
put_again f g h names (off k a) = ap (off k) (put_again f g h names a)
put_again f g h names (neg a) = ap neg (put_again f g h names a)
put_again f g h names (op o a c) = λ i. op o (put_again f g h names a i) (put_again f g h names c i)

module _ (roots xs : Names) where
  -- what a free name is behind k binders, where these are the roots and the names xs are bound outside
  abbrev pub name_behind : ℕ → List ℕ → Trm
  name_behind k x = named roots x (position k xs x)

  -- a program that stands behind k binders, with its free names so read
  abbrev pub closing : ℕ → Code → Code
  closing k (ret t) = ret (put (name_behind k) t)
  closing k (test t p q) = test (put (name_behind k) t) (closing k p) (closing k q)
  closing k (read s t p) = read s (put (name_behind k) t) (closing (suc k) p)
  closing k (write t u p) = write (put (name_behind k) t) (put (name_behind k) u) (closing k p)
  closing k (alloc ts p) = alloc (map (put (name_behind k)) ts) (closing (suc k) p)
  closing k (drop t p) = drop (put (name_behind k) t) (closing k p)
  closing k (publish t p) = publish (put (name_behind k) t) (closing k p)
  closing k (retract t p) = retract (put (name_behind k) t) (closing k p)
  closing k (call f ts p) = call f (map (put (name_behind k)) ts) (closing (suc k) p)
  closing k (nest s p q) = nest s (closing k p) (closing (suc k) q)
  closing k (atomic s p q) = atomic s (closing k p) (closing (suc k) q)
  closing k (par s r p q rest) = par s r (closing k p) (closing k q) (closing (suc (suc k)) rest)

  -- ---- terms

  name_closed : (ys : Names) (x : List ℕ) → name_in roots (ys ++ xs) x ≡ put (name_behind (length ys)) (name_in [] ys x)
  name_closed ys x = ap (named roots x) (position_in_both 0 ys xs x) ∙ pick (position 0 ys x)
    where
      pick : (o : Option ℕ) → named roots x (or_else o (position (0 + length ys) xs x)) ≡ put (name_behind (length ys)) (named [] x o)
      pick (Some k) = refl
      pick None = ap (λ n. named roots x (position n xs x)) (omega arith)

  pub term_closed : (ys : Names) (t : Term) → trm roots (ys ++ xs) t ≡ put (name_behind (length ys)) (trm [] ys t)
  term_closed ys t =
      bind_names roots (ys ++ xs) t
      ∙ put_again (name_in roots (ys ++ xs)) (name_in [] ys) (name_behind (length ys)) (name_closed ys) (all_free t)
      ∙ ap (put (name_behind (length ys))) (sym (bind_names [] ys t))

  terms_closed : (ys : Names) (ts : List Term) → map (trm roots (ys ++ xs)) ts ≡ map (put (name_behind (length ys))) (map (trm [] ys) ts)
  terms_closed ys [] = refl
  terms_closed ys (t ∷ ts) = λ i. term_closed ys t i ∷ terms_closed ys ts i

  -- ---- what closing makes of the program without names outside is the program with them

  abbrev Closes : Whole → Whole → Type 0
  Closes f g = (ys : Names) → f (ys ++ xs) ≡ closing (length ys) (g ys)

  abbrev ClosesBefore : Before → Before → Type 0
  ClosesBefore s r = (f g : Whole) → Closes f g → Closes (s f) (r g)

  abbrev BodyCloses : Body → Type 0
  BodyCloses x = Closes (code roots x) (code [] x)

  abbrev EndCloses : End → Type 0
  EndCloses x = Closes (end_code roots x) (end_code [] x)

  abbrev EndKindCloses : EndKind → Type 0
  EndKindCloses x = Closes (end_kind_code roots x) (end_kind_code [] x)

  abbrev StmtCloses : Stmt → Type 0
  StmtCloses x = ClosesBefore (stmt_code roots x) (stmt_code [] x)

  abbrev StmtKindCloses : StmtKind → Type 0
  StmtKindCloses x = ClosesBefore (stmt_kind_code roots x) (stmt_kind_code [] x)

  abbrev EndKinds : Type 0
  EndKinds = (x : EndKind) × EndKindCloses x

  abbrev StmtKinds : Type 0
  StmtKinds = (x : StmtKind) × StmtKindCloses x

  abbrev Bodies : Type 0
  Bodies = (x : Body) × BodyCloses x

  abbrev Ends : Type 0
  Ends = (x : End) × EndCloses x

  abbrev Stmts : Type 0
  Stmts = (x : Stmt) × StmtCloses x

  -- ---- one level

  abbrev StmtLevel : b.StmtKind-F EndKind StmtKind Body End Stmt → Type 0
  StmtLevel x = ClosesBefore (stmt_at roots (stmt_level roots x)) (stmt_at [] (stmt_level [] x))

  abbrev EndLevel : b.EndKind-F EndKind StmtKind Body End Stmt → Type 0
  EndLevel x = Closes (end_at roots (end_level roots x)) (end_at [] (end_level [] x))

  stmt_closes : (y : b.StmtKind-F EndKinds StmtKinds Bodies Ends Stmts)
      → StmtLevel (map-StmtKind EndKinds StmtKinds Bodies Ends Stmts EndKind StmtKind Body End Stmt (λ x. x.0) (λ x. x.0) (λ x. x.0) (λ x. x.0) (λ x. x.0) y)
  stmt_closes (b.Read x s t n h q) f g c ys = λ i. read s (term_closed ys t i) (c (x ∷ ys) i)
  stmt_closes (b.Write t u n q) f g c ys = λ i. write (term_closed ys t i) (term_closed ys u i) (c ys i)
  stmt_closes (b.Alloc x ts) f g c ys = λ i. alloc (terms_closed ys ts i) (c (x ∷ ys) i)
  stmt_closes (b.Free t n q) f g c ys = λ i. drop (term_closed ys t i) (c ys i)
  stmt_closes (b.Publish t n q) f g c ys = λ i. publish (term_closed ys t i) (c ys i)
  stmt_closes (b.Retract t n q) f g c ys = λ i. retract (term_closed ys t i) (c ys i)
  stmt_closes (b.Call x n ts us z) f g c ys = λ i. call n (terms_closed ys ts i) (c (x ∷ ys) i)
  stmt_closes (b.Do x s ns body box) f g c ys = λ i. nest s (body.1 ys i) (c (x ∷ ys) i)
  stmt_closes (b.Atomic x s ns body box) f g c ys = λ i. atomic s (body.1 ys i) (c (x ∷ ys) i)
  stmt_closes (b.Par x s y r ns left box ms right last) f g c ys = λ i. par s r (left.1 ys i) (right.1 ys i) (c (y ∷ x ∷ ys) i)
  stmt_closes (b.Proof x) f g c ys = c ys

  end_closes : (y : b.EndKind-F EndKinds StmtKinds Bodies Ends Stmts)
      → EndLevel (map-EndKind EndKinds StmtKinds Bodies Ends Stmts EndKind StmtKind Body End Stmt (λ x. x.0) (λ x. x.0) (λ x. x.0) (λ x. x.0) (λ x. x.0) y)
  end_closes (b.Ret t g) ys = ap ret (term_closed ys t)
  end_closes (b.If t h body other) ys = λ i. test (term_closed ys t i) (body.1 ys i) (other.1 ys i)
  end_closes (b.CaseAtom n body other) ys = body.1 ys
  end_closes (b.CaseBool t h body other) ys = body.1 ys
  end_closes (b.CaseSeq t h body x s other) ys = body.1 ys
  end_closes (b.Dead q body) ys = body.1 ys

  stmts_close : (ss : List Stmts) (f g : Whole) → Closes f g
      → Closes (in_order (map (stmt_code roots) (map (λ x. x.0) ss)) f) (in_order (map (stmt_code []) (map (λ x. x.0) ss)) g)
  stmts_close [] f g c = c
  stmts_close (s ∷ ss) f g c = s.1 (in_order (map (stmt_code roots) (map (λ x. x.0) ss)) f) (in_order (map (stmt_code []) (map (λ x. x.0) ss)) g) (stmts_close ss f g c)

  abbrev BodyLevel : b.Body-F EndKind StmtKind Body End Stmt → Type 0
  BodyLevel x = Closes (in_order (map (stmt_code roots) x.stmts) (end_code roots x.end)) (in_order (map (stmt_code []) x.stmts) (end_code [] x.end))

  -- ---- the trees

  stmt_kind_step : (x : b.StmtKind-F EndKind StmtKind Body End Stmt) → StmtLevel x → StmtKindCloses (roll-StmtKind x)
  stmt_kind_step x level f g c ys =
      ap (λ s. s f (ys ++ xs)) (stmt_kind_is roots x) ∙ level f g c ys ∙ ap (λ s. closing (length ys) (s g ys)) (sym (stmt_kind_is [] x))

  end_kind_step : (x : b.EndKind-F EndKind StmtKind Body End Stmt) → EndLevel x → EndKindCloses (roll-EndKind x)
  end_kind_step x level ys = ap (λ s. s (ys ++ xs)) (end_kind_is roots x) ∙ level ys ∙ ap (λ s. closing (length ys) (s ys)) (sym (end_kind_is [] x))

  stmt_step : (x : Stmt) → StmtKindCloses x.kind → StmtCloses x
  stmt_step x kind f g c ys = ap (λ s. s f (ys ++ xs)) (stmt_is roots x) ∙ kind f g c ys ∙ ap (λ s. closing (length ys) (s g ys)) (sym (stmt_is [] x))

  end_step : (x : End) → EndKindCloses x.kind → EndCloses x
  end_step x kind ys = ap (λ s. s (ys ++ xs)) (end_is roots x) ∙ kind ys ∙ ap (λ s. closing (length ys) (s ys)) (sym (end_is [] x))

  rolled_code : (rs : Names) (x : b.Body-F EndKind StmtKind Body End Stmt) → code rs (roll-Body x) ≡ in_order (map (stmt_code rs) x.stmts) (end_code rs x.end)
  rolled_code rs x = code_is rs (roll-Body x) ∙ ap (λ (z : b.Body-F EndKind StmtKind Body End Stmt). in_order (map (stmt_code rs) z.stmts) (end_code rs z.end)) (out-roll-Body x)

  body_step : (x : b.Body-F EndKind StmtKind Body End Stmt) → BodyLevel x → BodyCloses (roll-Body x)
  body_step x level ys = ap (λ s. s (ys ++ xs)) (rolled_code roots x) ∙ level ys ∙ ap (λ s. closing (length ys) (s ys)) (sym (rolled_code [] x))

  -- the program of a body where the names ys are bound, and outside these the names xs, is the one without roots and outer names, closed
  pub code_closed : (x : Body) (ys : Names) → code roots x (ys ++ xs) ≡ closing (length ys) (code [] x ys)
  code_closed = ind-Body EndKindCloses StmtKindCloses BodyCloses EndCloses StmtCloses
      (λ x y same. end_kind_step x (subst EndLevel same (end_closes y)))
      (λ x y same. stmt_kind_step x (subst StmtLevel same (stmt_closes y)))
      (λ x y same. body_step x (subst BodyLevel same (stmts_close y.stmts (end_code roots y.end.0) (end_code [] y.end.0) y.end.1)))
      (λ x y same. end_step (roll-End x) (subst (λ (z : b.End-F EndKind StmtKind Body End Stmt). EndKindCloses z.kind) same y.kind.1))
      (λ x y same. stmt_step (roll-Stmt x) (subst (λ (z : b.Stmt-F EndKind StmtKind Body End Stmt). StmtKindCloses z.kind) same y.kind.1))

-- two bodies that are one program are one whatever the roots are and whatever names are bound
pub same_program_is_one : (x y : Body) → same_program x y ≡ true → (roots xs : Names) → code roots x xs ≡ code roots y xs
same_program_is_one x y same roots xs =
    code_closed roots xs x [] ∙ ap (closing roots xs 0) (same_code_exact (code [] x []) (code [] y []) same) ∙ sym (code_closed roots xs y [])
