-- The predicates of declarations that stand in turn mean their definitions: each body names earlier predicates, parameters and roots alone.
use Rattle.std.proofs.Common.{◌≡◌, ◌↔◌, ℕ, Bool, true, false, is_some, List, [], ◌∷◌, map, Option, Some, None, Ok, refl, sym, ◌∙◌, ap, subst, inl, inr}
use Rattle.std.specs.Prelude.{bytes_eq, option_map, if◌then◌else◌}
use Rattle.tht_tree.specs.declared.plain.Sort.{Sort}
use Rattle.tht_tree.specs.declared.state.Local.TheVariants.{Variable}
use Rattle.tht_tree.specs.declared.term.Term.{Term}
use Rattle.tht_tree.specs.declared.assn.Assn.{Assn}
use Rattle.tht_tree.specs.declared.assn.Assn.TheVariants as a
use Rattle.tht_tree.specs.declared.decl.Param.{Param}
use Rattle.tht_tree.specs.declared.decl.Decl.{Decl}
use Rattle.tht_tree.specs.declared.decl.DeclKind.{DeclKind}
use Rattle.tht_tree.specs.declared.decl.DeclKind.TheVariants as d
use Rattle.tht_tree.specs.Values.{Env}
use Rattle.tht_tree.specs.Syntax.{Names, position}
use Rattle.tht_tree.specs.Terms.{value}
use Rattle.tht_tree.specs.Heaps.{Heap}
use Rattle.tht_logic.specs.Machine.{no_env}
use Rattle.tht_tree.specs.Rules.Context.{Scope, no_locals, with_local}
use Rattle.tht_tree.specs.Rules.Scoping.{variable_sort, name_sort}
use Rattle.tht_tree.proofs.SameTerm.{bytes_eq-true}
use Rattle.tht_logic.specs.Assertions.{asn}
use Rattle.tht_logic.specs.Satisfaction.{Meaning}
use Rattle.tht_logic.specs.Rules.Definitions.{Predicate, one_case, two_cases, Declarations, definition, definition_of, with_predicate, with_declaration, with_predicates, predicates_of}
use Rattle.tht_logic.specs.Meanings.{Relation, chosen, where_name, names_of, meaning, no_meaning}
use Rattle.tht_logic.specs.Meanings as m
use Rattle.tht_logic.specs.Rules.Scoped.{Signatures, Table, fits_in, fit, fit_some, params_of, instance_fits}
use Rattle.tht_logic.specs.Rules.Scoped as scoped
use Rattle.assn_laws.specs.AssertionLaws.{Holds}
use Rattle.assn_laws.specs.Laws.{IsScope, InstancesMeanDefinitions}
use Rattle.assn_laws.proofs.AssnLevels.{Star, Exists, Either, Star-is, Exists-is, Either-is}
use Rattle.assn_laws.proofs.Nameless.{asn-Emp, asn-Fact, asn-Own, asn-Shared, asn-Star, asn-Inst, asn-Exists, asn-Either}
use Rattle.assn_laws.proofs.ScopedLevels.{scoped-Star, scoped-Inst, scoped-Exists, scoped-Either}
use Rattle.assn_laws.proofs.KnownNames.{both_true, IsKnown, free_told}
use Rattle.assn_laws.proofs.NewVariable.{bytes_eq-refl}
use Rattle.assn_laws.proofs.Fitting.{fits_sorted}
use Rattle.assn_laws.proofs.OneCase.{EachNamed, same_table, is_param, InBody, one_case_means}

-- the parameters as variables
abbrev pub param_scope : List Param → Scope
param_scope [] = no_locals
param_scope (p ∷ ps) = with_local (param_scope ps) p.name (Variable p.sort)

module _ (roots : Names) where
  -- a declaration of a predicate stands in turn behind these: its name is new, and its body is in order with its parameters
  abbrev pub IsDefinedByEarlier : Table → DeclKind → Type 0
  IsDefinedByEarlier known (d.Pred access q ps p) = (known q ≡ None) × (scoped.assn roots (fits_in roots known) p (param_scope ps) ≡ true)
  IsDefinedByEarlier known (d.PredOn access q ps x nil n s cons) = ⊥
  IsDefinedByEarlier known _ = Unit {0}

  abbrev pub AreDefinedByEarlier : Table → List Decl → Type 0
  AreDefinedByEarlier known [] = Unit {0}
  AreDefinedByEarlier known (x ∷ xs) = IsDefinedByEarlier known x.kind × AreDefinedByEarlier (with_declaration x.kind known) xs

  -- ---- what a body names

  is_known : Table → List ℕ → Type 0
  is_known known n = is_some (known n) ≡ true

  module _ (instance : Signatures) (P : List ℕ → Type 0) (tells : (scope : Scope) (n : List ℕ) (us : List Term) → instance scope n us ≡ true → P n) where
    abbrev Named : Assn → Type 0
    Named p = (scope : Scope) (xs : Names) → scoped.assn roots instance p scope ≡ true → EachNamed P (asn roots xs p)

    named_star : (p q : Assn) → Named p → Named q → Named (a.Star p q)
    named_star p q f g scope xs e =
        let b = both_true (scoped.assn roots instance p scope) (scoped.assn roots instance q scope) (sym (scoped-Star roots instance p q scope) ∙ e) in
        subst (EachNamed P) (sym (asn-Star roots xs p q)) (f scope xs b.0, g scope xs b.1)

    named_either : (p q : Assn) → Named p → Named q → Named (a.Either p q)
    named_either p q f g scope xs e =
        let b = both_true (scoped.assn roots instance p scope) (scoped.assn roots instance q scope) (sym (scoped-Either roots instance p q scope) ∙ e) in
        subst (EachNamed P) (sym (asn-Either roots xs p q)) (f scope xs b.0, g scope xs b.1)

    named_exists : (x : List ℕ) (r : Sort) (p : Assn) → Named p → Named (a.Exists x r p)
    named_exists x r p f scope xs e = subst (EachNamed P) (sym (asn-Exists roots xs x r p)) (f (with_local scope x (Variable r)) (x ∷ xs) (sym (scoped-Exists roots instance x r p scope) ∙ e))

    pub names_told : (p : Assn) → Named p
    names_told a.Emp = λ scope xs e. subst (EachNamed P) (sym (asn-Emp roots xs)) tt
    names_told (a.Fact u) = λ scope xs e. subst (EachNamed P) (sym (asn-Fact roots xs u)) tt
    names_told (a.Own u w) = λ scope xs e. subst (EachNamed P) (sym (asn-Own roots xs u w)) tt
    names_told (a.Shared u w) = λ scope xs e. subst (EachNamed P) (sym (asn-Shared roots xs u w)) tt
    names_told (Star p q) = subst Named (Star-is p q) (named_star p q (names_told p) (names_told q))
    names_told (a.Inst n us) = λ scope xs e. subst (EachNamed P) (sym (asn-Inst roots xs n us)) (tells scope n us (sym (scoped-Inst roots instance n us scope) ∙ e))
    names_told (Exists x r p) = subst Named (Exists-is x r p) (named_exists x r p (names_told p))
    names_told (Either p q) = subst Named (Either-is p q) (named_either p q (names_told p) (names_told q))

  pub fits_known : (known : Table) (scope : Scope) (n : List ℕ) (us : List Term) → fits_in roots known scope n us ≡ true → is_some (known n) ≡ true
  fits_known known scope n us e = from (known n) e
    where
      from : (o : Option Predicate) → fit_some roots scope (option_map params_of o) us ≡ true → is_some o ≡ true
      from None g = cc
      from (Some x) g = refl

  -- a variable among the parameters is one of them
  param_told : (ps : List Param) (y : List ℕ) (s : Sort) → variable_sort (param_scope ps y) ≡ Some s → is_param ps y ≡ true
  param_told [] y s e = cc
  param_told (p ∷ ps) y s e = pick (bytes_eq p.name y) e (λ k. param_told ps y s k)
    where
      pick : (c : Bool) → variable_sort (if c then Some (Variable p.sort) else param_scope ps y) ≡ Some s → (variable_sort (param_scope ps y) ≡ Some s → is_param ps y ≡ true) → (if c then true else is_param ps y) ≡ true
      pick true k more = refl
      pick false k more = more k

  body_name : (ps : List Param) (y : List ℕ) → IsKnown roots (param_scope ps) y → InBody roots ps y
  body_name ps y k = from (position 0 roots y) refl (variable_sort (param_scope ps y)) refl k.1
    where
      from : (o : Option ℕ) → position 0 roots y ≡ o → (v : Option Sort) → variable_sort (param_scope ps y) ≡ v → name_sort v o ≡ Some k.0 → InBody roots ps y
      from (Some r) e v g h = inr (r, e)
      from None e (Some s) g h = inl (param_told ps y s g)
      from None e None g h = cc

  -- ---- the table and its meaning

  -- a predicate with one case: its meaning, and its body by an earlier table
  pub record Meant (M : Meaning) (known : Table) (q : List ℕ) (ps : List Param) (p : Assn) : Type 1 where
    pub means : M q ≡ (λ vs h. m.holds roots M (names_of ps) vs p h)
    pub earlier : Table
    pub stays : (n : List ℕ) → is_some (earlier n) ≡ true → earlier n ≡ known n
    pub body : scoped.assn roots (fits_in roots earlier) p (param_scope ps) ≡ true

  abbrev pub HasOneCase : Predicate → Type 0
  HasOneCase (one_case ps p) = Unit {0}
  HasOneCase (two_cases k) = ⊥

  pub record AllMeant (M : Meaning) (known : Table) : Type 1 where
    pub meant : (q : List ℕ) (ps : List Param) (p : Assn) → known q ≡ Some (one_case ps p) → Meant M known q ps p
    pub one : (q : List ℕ) (x : Predicate) → known q ≡ Some x → HasOneCase x

  -- what a body holds of, with these parameters
  abbrev held_by : Meaning → List Param → Assn → Relation
  held_by M zs b vs h = m.holds roots M (names_of zs) vs b h

  -- ---- one more predicate

  abbrev body_of : Predicate → Assn
  body_of (one_case ps p) = p
  body_of (two_cases k) = k.nil

  inside : (x y : Predicate) → Some x ≡ Some y → x ≡ y
  inside x y e = cc

  module _ (M : Meaning) (known : Table) (q : List ℕ) (ps : List Param) (p : Assn) (new : known q ≡ None) (body : scoped.assn roots (fits_in roots known) p (param_scope ps) ≡ true)
      (all : AllMeant M known) where
    abbrev next : Meaning
    next = where_name q (λ vs h. m.holds roots M (names_of ps) vs p h) M

    abbrev wider : Table
    wider = with_predicate q (one_case ps p) known

    other : (n : List ℕ) → is_some (known n) ≡ true → bytes_eq q n ≡ false
    other n k = pick (bytes_eq q n) refl
      where
        pick : (c : Bool) → bytes_eq q n ≡ c → c ≡ false
        pick true e = let nothing : is_some (known n) ≡ false = ap (λ z. is_some z) (ap known (sym (bytes_eq-true q n e)) ∙ new) in let both : true ≡ false = sym k ∙ nothing in cc
        pick false e = refl

    old_meaning : (n : List ℕ) → is_some (known n) ≡ true → next n ≡ M n
    old_meaning n k = ap (λ c. chosen c (λ vs h. m.holds roots M (names_of ps) vs p h) (M n)) (other n k)

    old_known : (n : List ℕ) → is_some (known n) ≡ true → known n ≡ wider n
    old_known n k = sym (ap (λ c. if c then Some (one_case ps p) else known n) (other n k))

    -- a body by an earlier table holds of the same heaps
    body_same : (earlier : Table) → ((n : List ℕ) → is_some (earlier n) ≡ true → is_some (known n) ≡ true) → (zs : List Param) (b : Assn) → scoped.assn roots (fits_in roots earlier) b (param_scope zs) ≡ true
        → held_by M zs b ≡ held_by next zs b
    body_same earlier f zs b e = λ i vs h.
        sym (same_table (λ n. is_some (earlier n) ≡ true) next M (λ n k. old_meaning n (f n k)) no_env vs (asn roots (names_of zs) b) (names_told (fits_in roots earlier) (λ n. is_some (earlier n) ≡ true) (fits_known earlier) b (param_scope zs) (names_of zs) e)) i h

    known_of : (earlier : Table) → ((n : List ℕ) → is_some (earlier n) ≡ true → earlier n ≡ known n) → (n : List ℕ) → is_some (earlier n) ≡ true → is_some (known n) ≡ true
    known_of earlier f n k = ap (λ z. is_some z) (sym (f n k)) ∙ k

    new_meant : Meant next wider q ps p
    new_meant = record {
      means = ap (λ c. chosen c (λ vs h. m.holds roots M (names_of ps) vs p h) (M q)) (bytes_eq-refl q) ∙ body_same known (λ n k. k) ps p body;
      earlier = known;
      stays = old_known;
      body = body;
    }

    old_meant : (n : List ℕ) (zs : List Param) (b : Assn) → known n ≡ Some (one_case zs b) → Meant next wider n zs b
    old_meant n zs b e =
        let x : Meant M known n zs b = all.meant n zs b e in
        let there : is_some (known n) ≡ true = ap (λ z. is_some z) e in
        record {
          means = old_meaning n there ∙ x.means ∙ body_same x.earlier (known_of x.earlier x.stays) zs b x.body;
          earlier = x.earlier;
          stays = λ k g. x.stays k g ∙ old_known k (known_of x.earlier x.stays k g);
          body = x.body;
        }

    moved_meant : (n : List ℕ) (zs : List Param) (b : Assn) → q ≡ n → ps ≡ zs → p ≡ b → Meant next wider n zs b
    moved_meant n zs b e f g = subst (λ z. Meant next wider n zs z) g (subst (λ z. Meant next wider n z p) f (subst (λ z. Meant next wider z ps p) e new_meant))

    meant_now : (n : List ℕ) (zs : List Param) (b : Assn) → wider n ≡ Some (one_case zs b) → Meant next wider n zs b
    meant_now n zs b e = pick (bytes_eq q n) refl e
      where
        pick : (c : Bool) → bytes_eq q n ≡ c → (if c then Some (one_case ps p) else known n) ≡ Some (one_case zs b) → Meant next wider n zs b
        pick true g k = let same = inside (one_case ps p) (one_case zs b) k in moved_meant n zs b (bytes_eq-true q n g) (ap params_of same) (ap body_of same)
        pick false g k = old_meant n zs b k

    one_now : (n : List ℕ) (x : Predicate) → wider n ≡ Some x → HasOneCase x
    one_now n x e = pick (bytes_eq q n) e
      where
        pick : (c : Bool) → (if c then Some (one_case ps p) else known n) ≡ Some x → HasOneCase x
        pick true k = subst HasOneCase (inside (one_case ps p) x k) tt
        pick false k = all.one n x k

    pub one_more : AllMeant next wider
    one_more = record { meant = meant_now; one = one_now }

  kind_step : (M : Meaning) (known : Table) (k : DeclKind) → IsDefinedByEarlier known k → AllMeant M known → AllMeant (m.with_meaning_of roots M k) (with_declaration k known)
  kind_step M known (d.Pred access q ps p) t all = one_more M known q ps p t.0 t.1 all
  kind_step M known (d.PredOn access q ps x nil n s cons) t all = absurd t
  kind_step M known (d.Root x s v) t all = all
  kind_step M known (d.Invariant p g) t all = all
  kind_step M known (d.Lemma x) t all = all
  kind_step M known (d.Txn x b) t all = all
  kind_step M known (d.Proc x b) t all = all

  pub all_meant : (decls : List Decl) (M : Meaning) (known : Table) → AreDefinedByEarlier known decls → AllMeant M known → AllMeant (m.with_meanings_of roots M decls) (with_predicates known decls)
  all_meant [] M known t all = all
  all_meant (x ∷ xs) M known t all = all_meant xs (m.with_meaning_of roots M x.kind) (with_declaration x.kind known) t.1 (kind_step M known x.kind t.0 all)

  nothing_meant : AllMeant no_meaning (λ q. None)
  nothing_meant = record { meant = λ q ps p e. cc; one = λ q x e. cc }

  pub predicates_meant : (decls : List Decl) → AreDefinedByEarlier (λ q. None) decls → AllMeant (meaning roots decls) (predicates_of decls)
  predicates_meant decls t = all_meant decls no_meaning (λ q. None) t nothing_meant

module _ (decl : Declarations) (decls : List Decl) (same : (q : List ℕ) → decl.predicates q ≡ predicates_of decls q) (turn : AreDefinedByEarlier decl.proofs.roots (λ q. None) decls) where
  abbrev roots_of : Names
  roots_of = decl.proofs.roots

  abbrev M : Meaning
  M = meaning roots_of decls

  meant_of : (q : List ℕ) (ps : List Param) (b : Assn) → decl.predicates q ≡ Some (one_case ps b) → Meant roots_of M (predicates_of decls) q ps b
  meant_of q ps b e = (predicates_meant roots_of decls turn).meant q ps b (sym (same q) ∙ e)

  one_means : (q : List ℕ) (ps : List Param) (b : Assn) → decl.predicates q ≡ Some (one_case ps b) → (scope : Scope) (env : Env) → IsScope roots_of scope env → (ts : List Term) (p : Assn) (h : Heap)
      → instance_fits decl scope q ts ≡ true → definition (one_case ps b) ts ≡ Ok p → M q (map (value roots_of env) ts) h ↔ Holds M roots_of env p h
  one_means q ps b e scope env is ts p h fits defines =
      let x : Meant roots_of M (predicates_of decls) q ps b = meant_of q ps b e in
      let named = names_told roots_of (fits_in roots_of x.earlier) (λ n. is_some (x.earlier n) ≡ true) (fits_known roots_of x.earlier) b (param_scope ps) (names_of ps) x.body in
      let free = free_told roots_of (fits_in roots_of x.earlier) (InBody roots_of ps) (λ z n us k. fits_sorted roots_of z (option_map params_of (x.earlier n)) us k) b (param_scope ps) [] (λ y g k. body_name roots_of ps y k) x.body in
      let here : fit roots_of scope ps ts ≡ true = subst (λ o. fit_some roots_of scope (option_map params_of o) ts ≡ true) e fits in
      one_case_means roots_of M M q ps b (λ n. is_some (x.earlier n) ≡ true) (λ n k. refl) x.means named free scope env ts here p h defines

  some_means : (o : Option Predicate) (q : List ℕ) → decl.predicates q ≡ o → (scope : Scope) (env : Env) → IsScope roots_of scope env → (ts : List Term) (p : Assn) (h : Heap)
      → instance_fits decl scope q ts ≡ true → definition_of o ts ≡ Ok p → M q (map (value roots_of env) ts) h ↔ Holds M roots_of env p h
  some_means None q e scope env is ts p h fits defines = cc
  some_means (Some (one_case ps b)) q e scope env is ts p h fits defines = one_means q ps b e scope env is ts p h fits defines
  some_means (Some (two_cases k)) q e scope env is ts p h fits defines =
      absurd ((predicates_meant roots_of decls turn).one q (two_cases k) (sym (same q) ∙ e))

  -- The law, for declarations that stand in turn.
  pub instances_mean_definitions : InstancesMeanDefinitions decl (instance_fits decl) M
  instances_mean_definitions scope env is q ts p h fits defines = some_means (decl.predicates q) q refl scope env is ts p h fits defines
