-- A body that is plain by its parts is a plain program.
use Rattle.std.proofs.Common.{◌≡◌, ℕ, Bool, true, false, ◌&&◌, List, [], ◌∷◌, length, map, Option, Some, None, refl, sym, ◌∙◌, ap, subst, arith}
use Rattle.std.specs.List.{list_all}
use Rattle.tht_tree.specs.declared.body.Body.{Body, roll-Body, ind-Body, fold-roll-Body}
use Rattle.tht_tree.specs.declared.body.End.{End, roll-End, fold_out-End}
use Rattle.tht_tree.specs.declared.body.EndKind.{EndKind, roll-EndKind, map-EndKind, fold-roll-EndKind}
use Rattle.tht_tree.specs.declared.body.EndKind.TheOpen as b
use Rattle.tht_tree.specs.declared.body.Stmt.{Stmt, roll-Stmt, fold_out-Stmt}
use Rattle.tht_tree.specs.declared.body.StmtKind.{StmtKind, roll-StmtKind, map-StmtKind, fold-roll-StmtKind}
use Rattle.tht_tree.specs.declared.decl.Decl.{Decl}
use Rattle.tht_tree.specs.declared.file.Source1.{Source1}
use Rattle.tht_tree.specs.declared.term.Term.{Term, map-Term}
use Rattle.tht_tree.specs.declared.term.Term.TheOpen.{Term-F}
use Rattle.tht_tree.specs.declared.term.Term.TheOpen as term
use Rattle.tht_tree.specs.Syntax.{Names, position, root_or_free, named, Trm, trm, trm_at}
use Rattle.tht_tree.specs.Rules.Scoping.{sequence_free, sequence_free_at}
use Rattle.tht_tree.proofs.TermInduction.{fold_level, OfParts, by_parts}
use Rattle.tht_logic.specs.PlainPrograms.{no_sequence, no_sequences, is_plain_program, is_plain_body, is_plain_decl, is_plain_file}
use Rattle.tht_logic.specs.Procedures.{procedures_of}
use Rattle.tht_logic.specs.Programs as p
use Rattle.tht_logic.specs.Programs.{Whole, Before, root_names}
use Rattle.tht_logic.proofs.Levels as programs
use Rattle.test_code_form.specs.PlainParts.{stmt_at, end_at, body_at, spotted_end, spotted_stmt, body_plain, end_plain, end_kind_plain, stmt_plain, stmt_kind_plain}

-- ---- truths

both_true : (a c : Bool) → (a && c) ≡ true → (a ≡ true) × (c ≡ true)
both_true true c e = (refl, e)
both_true false c e = cc

both : (a c : Bool) → a ≡ true → c ≡ true → (a && c) ≡ true
both true c e h = h
both false c e h = cc

-- ---- terms

module _ (roots xs : Names) where
  abbrev meant : Term → Trm
  meant = trm roots xs

  abbrev IsPlain : Term → Type 0
  IsPlain u = sequence_free u ≡ true → no_sequence (meant u) ≡ true

  name_plain : (x : List ℕ) (o : Option ℕ) → no_sequence (named roots x o) ≡ true
  name_plain x (Some k) = refl
  name_plain x None = of_root (position 0 roots x)
    where
      of_root : (o : Option ℕ) → no_sequence (root_or_free x o) ≡ true
      of_root (Some r) = refl
      of_root None = refl

  two_plain : (a c : Term) → IsPlain a × IsPlain c → (sequence_free a && sequence_free c) ≡ true → (no_sequence (meant a) && no_sequence (meant c)) ≡ true
  two_plain a c h s =
      let parts = both_true (sequence_free a) (sequence_free c) s in
      both (no_sequence (meant a)) (no_sequence (meant c)) (h.0 parts.0) (h.1 parts.1)

  term_level : (x : Term-F Term) → OfParts IsPlain x → sequence_free_at (map-Term Term Bool sequence_free x) ≡ true → no_sequence (trm_at roots xs (map-Term Term Trm meant x)) ≡ true
  term_level (term.Num n) h s = refl
  term_level term.True h s = refl
  term_level term.False h s = refl
  term_level term.Null h s = refl
  term_level term.Nil h s = cc
  term_level term.Unit h s = refl
  term_level (term.Var x) h s = name_plain x (position 0 xs x)
  term_level (term.Len a) h s = h s
  term_level (term.Offset a k) h s = h s
  term_level (term.Not a) h s = h s
  term_level (term.Mul a c) h s = two_plain a c h s
  term_level (term.Add a c) h s = two_plain a c h s
  term_level (term.Sub a c) h s = two_plain a c h s
  term_level (term.Cons a c) h s = cc
  term_level (term.Cat a c) h s = cc
  term_level (term.Eq a c) h s = two_plain a c h s
  term_level (term.Lt a c) h s = two_plain a c h s
  term_level (term.Le a c) h s = two_plain a c h s
  term_level (term.And a c) h s = two_plain a c h s
  term_level (term.Or a c) h s = two_plain a c h s
  term_level (term.Imp a c) h s = two_plain a c h s

  plain_term : (u : Term) → IsPlain u
  plain_term = by_parts IsPlain (λ x h s. ap no_sequence (fold_level (trm_at roots xs) x) ∙ term_level x h (sym (fold_level sequence_free_at x) ∙ s))

  plain_terms : (us : List Term) → list_all sequence_free us ≡ true → no_sequences (map meant us) ≡ true
  plain_terms [] e = refl
  plain_terms (u ∷ us) e =
      let parts = both_true (sequence_free u) (list_all sequence_free us) e in
      both (no_sequence (meant u)) (no_sequences (map meant us)) (plain_term u parts.0) (plain_terms us parts.1)

-- ---- bodies

module _ (roots : Names) (known : List ℕ → Bool) where
  abbrev plain : p.Code → Bool
  plain code = is_plain_program known code

  abbrev BodyPlain : Whole → Type 0
  BodyPlain whole = (xs : Names) → plain (whole xs) ≡ true

  abbrev StmtPlain : Before → Type 0
  StmtPlain before = (next : Whole) → BodyPlain next → BodyPlain (before next)

  abbrev EndKindPlain : EndKind → Type 0
  EndKindPlain k = end_kind_plain k ≡ true → BodyPlain (p.end_kind_code roots k)

  abbrev StmtKindPlain : StmtKind → Type 0
  StmtKindPlain k = stmt_kind_plain k ≡ true → StmtPlain (p.stmt_kind_code roots k)

  abbrev WholePlain : Body → Type 0
  WholePlain x = body_plain x ≡ true → BodyPlain (p.code roots x)

  abbrev EndPlain : End → Type 0
  EndPlain x = end_plain x ≡ true → BodyPlain (p.end_code roots x)

  abbrev OnePlain : Stmt → Type 0
  OnePlain x = stmt_plain x ≡ true → StmtPlain (p.stmt_code roots x)

  abbrev Ends : Type 0
  Ends = (k : EndKind) × EndKindPlain k

  abbrev Kinds : Type 0
  Kinds = (k : StmtKind) × StmtKindPlain k

  abbrev Wholes : Type 0
  Wholes = (x : Body) × WholePlain x

  abbrev Lasts : Type 0
  Lasts = (x : End) × EndPlain x

  abbrev Ones : Type 0
  Ones = (x : Stmt) × OnePlain x

  abbrev tested_stmt : b.StmtKind-F EndKind StmtKind Body End Stmt → b.StmtKind-F Bool Bool Bool Bool Bool
  tested_stmt = map-StmtKind EndKind StmtKind Body End Stmt Bool Bool Bool Bool Bool end_kind_plain stmt_kind_plain body_plain end_plain stmt_plain

  abbrev tested_end : b.EndKind-F EndKind StmtKind Body End Stmt → b.EndKind-F Bool Bool Bool Bool Bool
  tested_end = map-EndKind EndKind StmtKind Body End Stmt Bool Bool Bool Bool Bool end_kind_plain stmt_kind_plain body_plain end_plain stmt_plain

  abbrev StmtLevel : b.StmtKind-F EndKind StmtKind Body End Stmt → Type 0
  StmtLevel x = stmt_at (tested_stmt x) ≡ true → StmtPlain (p.stmt_at roots (programs.stmt_level roots x))

  abbrev unpaired_stmt : b.StmtKind-F Ends Kinds Wholes Lasts Ones → b.StmtKind-F EndKind StmtKind Body End Stmt
  unpaired_stmt = map-StmtKind Ends Kinds Wholes Lasts Ones EndKind StmtKind Body End Stmt (λ z. z.0) (λ z. z.0) (λ z. z.0) (λ z. z.0) (λ z. z.0)

  one_term : (t : Term) (code : p.Code) (xs : Names) → sequence_free t ≡ true → plain code ≡ true → (no_sequence (trm roots xs t) && plain code) ≡ true
  one_term t code xs ok h = both (no_sequence (trm roots xs t)) (plain code) (plain_term roots xs t ok) h

  stmt_level : (y : b.StmtKind-F Ends Kinds Wholes Lasts Ones) → StmtLevel (unpaired_stmt y)
  stmt_level (b.Read x s t i h q) ok next goes xs = one_term t (next (x ∷ xs)) xs ok (goes (x ∷ xs))
  stmt_level (b.Write t u i q) ok next goes xs =
      let parts = both_true (sequence_free t) (sequence_free u) ok in
      both (no_sequence (trm roots xs t)) (no_sequence (trm roots xs u) && plain (next xs)) (plain_term roots xs t parts.0) (one_term u (next xs) xs parts.1 (goes xs))
  stmt_level (b.Alloc x ts) ok next goes xs = both (no_sequences (map (trm roots xs) ts)) (plain (next (x ∷ xs))) (plain_terms roots xs ts ok) (goes (x ∷ xs))
  stmt_level (b.Free t i q) ok next goes xs = one_term t (next xs) xs ok (goes xs)
  stmt_level (b.Publish t i q) ok next goes xs = one_term t (next xs) xs ok (goes xs)
  stmt_level (b.Retract t i q) ok next goes xs = one_term t (next xs) xs ok (goes xs)
  stmt_level (b.Call x f ts us g) ok next goes xs = cc
  stmt_level (b.Do x s ns y box) ok next goes xs = both (plain (p.code roots y.0 xs)) (plain (next (x ∷ xs))) (y.1 ok xs) (goes (x ∷ xs))
  stmt_level (b.Atomic x s ns y box) ok next goes xs = both (plain (p.code roots y.0 xs)) (plain (next (x ∷ xs))) (y.1 ok xs) (goes (x ∷ xs))
  stmt_level (b.Par x s z r ns y box ms other last) ok next goes xs =
      let parts = both_true (body_plain y.0) (body_plain other.0) ok in
      both (plain (p.code roots y.0 xs)) (plain (p.code roots other.0 xs) && plain (next (z ∷ x ∷ xs))) (y.1 parts.0 xs)
      (both (plain (p.code roots other.0 xs)) (plain (next (z ∷ x ∷ xs))) (other.1 parts.1 xs) (goes (z ∷ x ∷ xs)))
  stmt_level (b.Proof x) ok next goes xs = goes xs

  abbrev EndLevel : b.EndKind-F EndKind StmtKind Body End Stmt → Type 0
  EndLevel x = end_at (tested_end x) ≡ true → BodyPlain (p.end_at roots (programs.end_level roots x))

  abbrev unpaired_end : b.EndKind-F Ends Kinds Wholes Lasts Ones → b.EndKind-F EndKind StmtKind Body End Stmt
  unpaired_end = map-EndKind Ends Kinds Wholes Lasts Ones EndKind StmtKind Body End Stmt (λ z. z.0) (λ z. z.0) (λ z. z.0) (λ z. z.0) (λ z. z.0)

  end_level : (y : b.EndKind-F Ends Kinds Wholes Lasts Ones) → EndLevel (unpaired_end y)
  end_level (b.Ret t g) ok xs = plain_term roots xs t ok
  end_level (b.If t h y z) ok xs =
      let parts = both_true (sequence_free t && body_plain y.0) (body_plain z.0) ok in
      let front = both_true (sequence_free t) (body_plain y.0) parts.0 in
      let one : Bool = plain (p.code roots y.0 xs) in
      let other : Bool = plain (p.code roots z.0 xs) in
      both (no_sequence (trm roots xs t)) (one && other) (plain_term roots xs t front.0) (both one other (y.1 front.1 xs) (z.1 parts.1 xs))
  end_level (b.CaseAtom i y z) ok xs = y.1 ok xs
  end_level (b.CaseBool t h y z) ok xs = y.1 ok xs
  end_level (b.CaseSeq t h y x s z) ok xs = y.1 ok xs
  end_level (b.Dead q y) ok xs = y.1 ok xs

  -- ---- the induction

  abbrev trees : List Ones → List Stmt
  trees ss = map (λ z. z.0) ss

  all_plain : (ss : List Ones) (last : Lasts) → (list_all (λ z. z) (map stmt_plain (trees ss)) && end_plain last.0) ≡ true → BodyPlain (p.in_order (map (p.stmt_code roots) (trees ss)) (p.end_code roots last.0))
  all_plain [] last ok = last.1 ok
  all_plain (s ∷ ss) last ok =
      let later : Bool = list_all (λ z. z) (map stmt_plain (trees ss)) in
      let own = both_true (stmt_plain s.0 && later) (end_plain last.0) ok in
      let front = both_true (stmt_plain s.0) later own.0 in
      s.1 front.0 (p.in_order (map (p.stmt_code roots) (trees ss)) (p.end_code roots last.0)) (all_plain ss last (both later (end_plain last.0) front.1 own.1))

  end_kind_step : (x : b.EndKind-F EndKind StmtKind Body End Stmt) → EndLevel x → EndKindPlain (roll-EndKind x)
  end_kind_step x h ok = subst BodyPlain (sym (programs.end_kind_is roots x)) (h (sym (fold-roll-EndKind Bool Bool Bool Bool Bool end_at stmt_at body_at spotted_end spotted_stmt x) ∙ ok))

  stmt_kind_step : (x : b.StmtKind-F EndKind StmtKind Body End Stmt) → StmtLevel x → StmtKindPlain (roll-StmtKind x)
  stmt_kind_step x h ok = subst StmtPlain (sym (programs.stmt_kind_is roots x)) (h (sym (fold-roll-StmtKind Bool Bool Bool Bool Bool end_at stmt_at body_at spotted_end spotted_stmt x) ∙ ok))

  end_step : (x : End) → EndKindPlain x.kind → EndPlain x
  end_step x h ok = subst BodyPlain (sym (programs.end_is roots x)) (h (sym (fold_out-End Bool Bool Bool Bool Bool end_at stmt_at body_at spotted_end spotted_stmt x) ∙ ok))

  stmt_step : (x : Stmt) → StmtKindPlain x.kind → OnePlain x
  stmt_step x h ok = subst StmtPlain (sym (programs.stmt_is roots x)) (h (sym (fold_out-Stmt Bool Bool Bool Bool Bool end_at stmt_at body_at spotted_end spotted_stmt x) ∙ ok))

  abbrev BodyLevel : b.Body-F EndKind StmtKind Body End Stmt → Type 0
  BodyLevel x = (list_all (λ z. z) (map stmt_plain x.stmts) && end_plain x.end) ≡ true → BodyPlain (p.in_order (map (p.stmt_code roots) x.stmts) (p.end_code roots x.end))

  body_step : (x : b.Body-F EndKind StmtKind Body End Stmt) → BodyLevel x → WholePlain (roll-Body x)
  body_step x h ok = subst BodyPlain (sym (programs.rolled_code roots x)) (h (sym (fold-roll-Body Bool Bool Bool Bool Bool end_at stmt_at body_at spotted_end spotted_stmt x) ∙ ok))

  bodies_plain : (x : Body) → WholePlain x
  bodies_plain =
      ind-Body EndKindPlain StmtKindPlain WholePlain EndPlain OnePlain
      (λ x y is. end_kind_step x (subst EndLevel is (end_level y)))
      (λ x y is. stmt_kind_step x (subst StmtLevel is (stmt_level y)))
      (λ x y is. body_step x (subst BodyLevel is (all_plain y.stmts y.end)))
      (λ x y is. end_step (roll-End x) (subst (λ (z : b.End-F EndKind StmtKind Body End Stmt). EndKindPlain z.kind) is y.kind.1))
      (λ x y is. stmt_step (roll-Stmt x) (subst (λ (z : b.Stmt-F EndKind StmtKind Body End Stmt). StmtKindPlain z.kind) is y.kind.1))

no_decls : (ds : List Decl) (f : Decl → Bool) → length ds ≡ 0 → list_all f ds ≡ true
no_decls [] f e = refl
no_decls (d ∷ ds) f e = absurd (omega (arith, e))

-- a file without declarations
pub plain_file : (file : Source1) → length file.decls ≡ 0 → body_plain file.main.body ≡ true → is_plain_file file ≡ true
unfolding is_plain_file
plain_file file none ok =
    both (list_all (λ z. is_plain_decl (root_names file) (procedures_of file.decls) z.kind) file.decls) (is_plain_body (root_names file) (procedures_of file.decls) [] file.main.body)
    (no_decls file.decls _ none) (bodies_plain (root_names file) _ file.main.body ok [])
