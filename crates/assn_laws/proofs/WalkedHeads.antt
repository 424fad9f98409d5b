-- The head of a proc in which the walk over names and sorts refuses nothing is in order: its names differ, and its boxes speak of what is in scope.
use Rattle.std.proofs.Common.{◌≡◌, ℕ, Bool, true, false, not, is_some, List, [], ◌∷◌, ◌++◌, Option, Some, None, refl, sym, ◌∙◌, ap, subst}
use Rattle.std.proofs.lemmas.List.{append_assoc}
use Rattle.std.proofs.lemmas.List.Folds.{list_all-append}
use Rattle.std.specs.Prelude.{bytes_eq, option_map, if◌then◌else◌}
use Rattle.std.specs.List.{list_all}
use Rattle.tht_tree.specs.declared.plain.Sort.{Sort}
use Rattle.tht_tree.specs.declared.decl.Head.{Head}
use Rattle.tht_tree.specs.declared.decl.Param.{Param}
use Rattle.tht_tree.specs.declared.state.Local.{Local}
use Rattle.tht_tree.specs.declared.state.Local.TheVariants.{Variable}
use Rattle.tht_tree.specs.declared.walk.Class.{Class}
use Rattle.tht_tree.specs.declared.walk.Class.TheVariants as c
use Rattle.tht_tree.specs.declared.walk.Where.TheVariants.{Outside}
use Rattle.tht_tree.specs.Syntax.{Names, position}
use Rattle.tht_tree.specs.Rules.Context.{Scope, no_locals, with_local}
use Rattle.tht_tree.specs.Rules.Scoping.{is_storable_sort, variable_sort}
use Rattle.tht_tree.specs.Walk.Codes.{first, first_of}
use Rattle.tht_tree.specs.Walk.Names as walk
use Rattle.tht_tree.specs.Walk.Names.{with_name, with_result, new_name, new_params}
use Rattle.tht_tree.specs.Walk.Terms.{storable}
use Rattle.tht_tree.specs.Walk.Kinds.{private_only}
use Rattle.tht_tree.specs.Walk.Assns as w
use Rattle.tht_tree.specs.Walk.Bodies.{frame, new_result, result_box, private_box, body}
use Rattle.tht_tree.specs.Walk.Decls.{Before, with_proc, in_command, all_storable, head_code, proc_code, decl_kind, after_decl}
use Rattle.tht_tree.specs.Walk.Files.{has_invariant, at_start, decls, after_decls}
use Rattle.tht_tree.proofs.SameTerm.{bytes_eq-true}
use Rattle.proof_laws.specs.Walked.{MatchesAt, Matches}
use Rattle.proof_laws.proofs.WalkedTerms.{no_walk_code, first_none}
use Rattle.tht_logic.specs.Procedures.{Procedure, procedures_of}
use Rattle.tht_logic.specs.Meanings.{names_of}
use Rattle.tht_logic.specs.Programs.{root_names}
use Rattle.tht_logic.specs.Rules.Definitions.{with_params, head_scope, predicates_of}
use Rattle.tht_logic.specs.Rules.Files.{declared_in}
use Rattle.tht_logic.specs.Rules.Scoped.{HideNoRoot, Table, fits_in, instance_fits}
use Rattle.assn_laws.specs.ControlLaws.{are_distinct, head_names, post_scope, HeadIsInOrder}
use Rattle.assn_laws.specs.Walked.{KnowsAt, Knows, KnowsProcAt, KnowsProcs}
use Rattle.assn_laws.specs.FileLaws.{ProcsBegin, ProcsAreInOrder}
use Rattle.assn_laws.proofs.Answers.{some_same}
use Rattle.assn_laws.proofs.DefinedByEarlier.{new_to_walk}
use Rattle.assn_laws.proofs.FileLaw.{result_matches}
use Rattle.assn_laws.proofs.HeadScopes.{others}
use Rattle.assn_laws.proofs.KnownDecls.{walk_parts, after_parts, decls_walked, declarations_begin, procedures_stand}
use Rattle.assn_laws.proofs.KnownNames.{both_true}
use Rattle.assn_laws.proofs.NewVariable.{bytes_eq-refl}
use Rattle.assn_laws.proofs.Refusing.{nothing, construct_none, behind_none, first_of_none, storable_none, both}
use Rattle.assn_laws.proofs.Scopes.{knows_with}
use Rattle.assn_laws.proofs.WalkedAssns.{walked_assertions_are_in_order}
use Rattle.assn_laws.proofs.ProcNames.{procs_with_name}
use Rattle.assn_laws.proofs.WalkedNames.{variable_matches}

-- ---- names that differ

all_of : (f g : List ℕ → Bool) → ((x : List ℕ) → f x ≡ true → g x ≡ true) → (xs : Names) → list_all f xs ≡ true → list_all g xs ≡ true
all_of f g h [] e = refl
all_of f g h (x ∷ xs) e =
    let b = both_true (f x) (list_all f xs) e in
    both (g x) (list_all g xs) (h x b.0) (all_of f g h xs b.1)

distinct_joined : (xs ys : Names) → are_distinct xs ≡ true → are_distinct ys ≡ true → list_all (λ x. list_all (others x) ys) xs ≡ true → are_distinct (xs ++ ys) ≡ true
distinct_joined [] ys e f g = f
distinct_joined (x ∷ xs) ys e f g =
    let b = both_true (list_all (others x) xs) (are_distinct xs) e in
    let k = both_true (list_all (others x) ys) (list_all (λ z. list_all (others z) ys) xs) g in
    both (list_all (others x) (xs ++ ys)) (are_distinct (xs ++ ys)) (list_all-append (others x) xs ys ∙ both (list_all (others x) xs) (list_all (others x) ys) b.0 k.0) (distinct_joined xs ys b.1 f k.1)

-- a name that is known to the walk
abbrev taken : walk.Scope → List ℕ → Bool
taken names x = is_some (names x)

-- a new name differs from each that is known
new_differs : (names : walk.Scope) (x y : List ℕ) → taken names x ≡ true → new_name names y ≡ no_walk_code → others x y ≡ true
new_differs names x y e new = pick (bytes_eq x y) refl
  where
    pick : (t : Bool) → bytes_eq x y ≡ t → not t ≡ true
    pick true g =
        let gone : is_some (names x) ≡ false = ap is_some (ap names (bytes_eq-true x y g) ∙ new_to_walk names y new) in
        let never : true ≡ false = sym e ∙ gone in
        cc
    pick false g = refl

module _ (class : Sort → Class) where
  abbrev behind : walk.Scope → Param → walk.Scope
  behind names p = with_name names p.name (class p.sort)

  still_taken : (ps : List Param) (names : walk.Scope) (x : List ℕ) → taken names x ≡ true → taken (walk.with_params class names ps) x ≡ true
  still_taken [] names x e = e
  still_taken (p ∷ ps) names x e = still_taken ps (behind names p) x (pick (bytes_eq p.name x))
    where
      pick : (t : Bool) → is_some (if t then Some (class p.sort) else names x) ≡ true
      pick true = refl
      pick false = e

  taken_behind : (names : walk.Scope) (p : Param) → taken (behind names p) p.name ≡ true
  taken_behind names p = ap (λ t. is_some (if t then Some (class p.sort) else names p.name)) (bytes_eq-refl p.name)

  each_taken : (ps : List Param) (names : walk.Scope) → list_all (taken (walk.with_params class names ps)) (names_of ps) ≡ true
  each_taken [] names = refl
  each_taken (p ∷ ps) names =
      let all : walk.Scope = walk.with_params class (behind names p) ps in
      both (taken all p.name) (list_all (taken all) (names_of ps)) (still_taken ps (behind names p) p.name (taken_behind names p)) (each_taken ps (behind names p))

  params_differ_from : (ps : List Param) (names : walk.Scope) (x : List ℕ) → taken names x ≡ true → new_params class names ps ≡ no_walk_code → list_all (others x) (names_of ps) ≡ true
  params_differ_from [] names x e new = refl
  params_differ_from (p ∷ ps) names x e new =
      let parts = first_none (new_name names p.name) (new_params class (behind names p) ps) new in
      both (others x p.name) (list_all (others x) (names_of ps)) (new_differs names x p.name e parts.0) (params_differ_from ps (behind names p) x (still_taken (p ∷ []) names x e) parts.1)

  params_differ : (ps : List Param) (names : walk.Scope) → new_params class names ps ≡ no_walk_code → are_distinct (names_of ps) ≡ true
  params_differ [] names new = refl
  params_differ (p ∷ ps) names new =
      let parts = first_none (new_name names p.name) (new_params class (behind names p) ps) new in
      both (list_all (others p.name) (names_of ps)) (are_distinct (names_of ps)) (params_differ_from ps (behind names p) p.name (taken_behind names p) parts.1) (params_differ ps (behind names p) parts.1)

  -- ---- parameters in scope

  -- one more variable of this class matches
  abbrev OneMatches : Names → Type 0
  OneMatches roots =
      (names : walk.Scope) (scope : Scope) → Matches roots names scope → (x : List ℕ) (s : Sort) → new_name names x ≡ no_walk_code
      → Matches roots (with_name names x (class s)) (with_local scope x (Variable s))

  module _ (roots : Names) (one : OneMatches roots) where
    params_match : (ps : List Param) (names : walk.Scope) (scope : Scope) → Matches roots names scope → new_params class names ps ≡ no_walk_code
        → Matches roots (walk.with_params class names ps) (with_params scope ps)
    params_match [] names scope m new = m
    params_match (p ∷ ps) names scope m new =
        let parts = first_none (new_name names p.name) (new_params class (behind names p) ps) new in
        params_match ps (behind names p) (with_local scope p.name (Variable p.sort)) (one names scope m p.name p.sort parts.0) parts.1

  params_known : (known : Table) → ((s : Sort) (o : _) → KnowsAt (Some (class s)) o) → (ps : List Param) (names : walk.Scope) → Knows known names → Knows known (walk.with_params class names ps)
  params_known known f [] names knows = knows
  params_known known f (p ∷ ps) names knows = params_known known f ps (behind names p) (knows_with known names p.name (class p.sort) (f p.sort) knows)

  params_procs : (procs : List ℕ → Option Head) → ((s : Sort) (o : _) → KnowsProcAt (Some (class s)) o) → (ps : List Param) (names : walk.Scope) → KnowsProcs procs names
      → KnowsProcs procs (walk.with_params class names ps)
  params_procs procs f [] names knows = knows
  params_procs procs f (p ∷ ps) names knows = params_procs procs f ps (behind names p) (procs_with_name procs names p.name (class p.sort) (f p.sort) knows)

all_stored : (ps : List Param) → all_storable ps ≡ no_walk_code → list_all (λ p. is_storable_sort (Some p.sort)) ps ≡ true
all_stored [] e = refl
all_stored (p ∷ ps) e =
    let parts = first_none (storable p.sort) (all_storable ps) e in
    both (is_storable_sort (Some p.sort)) (list_all (λ z. is_storable_sort (Some z.sort)) ps) (storable_none p.sort parts.0) (all_stored ps parts.1)

-- where the walk and the rules have the same in scope no variable has the name of a root
pub no_root_is_hidden : (roots : Names) (names : walk.Scope) (scope : Scope) → Matches roots names scope → HideNoRoot roots scope
no_root_is_hidden roots names scope m y r e = from (names y) (scope y) (position 0 roots y) (m y) e
  where
    from : (k : Option Class) (l : Option Local) (o : Option ℕ) → MatchesAt k l o → o ≡ Some r → variable_sort l ≡ None
    from None l o n f = ap variable_sort n.0
    from (Some (c.Program s)) l o n f = let never : None ≡ Some r = sym n.1 ∙ f in cc
    from (Some (c.Logic s)) l o n f = let never : None ≡ Some r = sym n.1 ∙ f in cc
    from (Some c.Hypothesis) l o n f = ap variable_sort n.0
    from (Some c.Root) l o n f = ap variable_sort n.0
    from (Some _) l o n f = ap variable_sort n.0

-- ---- heads

-- in a head, where its own name is known
module _ (roots : Names) (known : Table) (procs : List ℕ → Option Head) (self : walk.Scope) (x : Head) (matches : Matches roots self no_locals) (knows : Knows known self) (in_table : KnowsProcs procs self)
    (code : head_code x self ≡ no_walk_code) (boxes : private_box (in_command x self) x.result x.sort x.post ≡ no_walk_code) where
  abbrev pub outer : walk.Scope
  outer = walk.with_params c.Program self x.params

  abbrev pub inner : walk.Scope
  inner = in_command x self

  -- what the walk refuses nothing in
  pub record Parts : Type 0 where
    pub params : new_params c.Program self x.params ≡ no_walk_code
    pub stored : all_storable x.params ≡ no_walk_code
    pub logic : new_params c.Logic outer x.logic ≡ no_walk_code
    pub pre : w.assn x.pre inner ≡ no_walk_code
    pub result : new_name inner x.result ≡ no_walk_code
    pub result_stored : storable x.sort ≡ no_walk_code
    pub post : w.assn x.post (with_result inner x.result x.sort) ≡ no_walk_code

  pub parts : Parts
  parts =
      let own = first_of (new_params c.Program self x.params ∷ all_storable x.params ∷ new_params c.Logic outer x.logic ∷ []) in
      let one = first_of_none own (w.assn x.pre inner ∷ new_result inner x.result x.sort ∷ []) code in
      let two = first_of_none (w.assn x.pre inner) (new_result inner x.result x.sort ∷ []) one.1 in
      let names = first_of_none (new_params c.Program self x.params) (all_storable x.params ∷ new_params c.Logic outer x.logic ∷ []) one.0 in
      let more = first_of_none (all_storable x.params) (new_params c.Logic outer x.logic ∷ []) names.1 in
      let last = first_none (new_name inner x.result) (storable x.sort) two.1 in
      record {
        params = names.0;
        stored = more.0;
        logic = more.1;
        pre = two.0;
        result = last.0;
        result_stored = last.1;
        post = (first_none (result_box inner x.result x.sort x.post) (private_only inner x.post) boxes).0;
      }

  pub inner_matches : Matches roots inner (head_scope x)
  inner_matches =
      params_match c.Logic roots (λ names scope m y s e. variable_matches roots names scope m y s e) x.logic outer (with_params no_locals x.params)
      (params_match c.Program roots (λ names scope m y s e. result_matches roots y s names scope m e) x.params self no_locals matches parts.params) parts.logic

  pub inner_knows : Knows known inner
  inner_knows = params_known c.Logic known (λ s o. tt) x.logic outer (params_known c.Program known (λ s o. tt) x.params self knows)

  pub inner_procs : KnowsProcs procs inner
  inner_procs = params_procs c.Logic procs (λ s o. tt) x.logic outer (params_procs c.Program procs (λ s o. tt) x.params self in_table)

  names_differ : are_distinct (head_names x) ≡ true
  names_differ =
      let ps : Names = names_of x.params in
      let qs : Names = names_of x.logic in
      let first_taken : list_all (taken outer) ps ≡ true = each_taken c.Program x.params self in
      let apart : list_all (λ y. list_all (others y) qs) ps ≡ true
      = all_of (taken outer) (λ y. list_all (others y) qs) (λ y e. params_differ_from c.Logic x.logic outer y e parts.logic) ps first_taken in
      let both_differ : are_distinct (ps ++ qs) ≡ true = distinct_joined ps qs (params_differ c.Program x.params self parts.params) (params_differ c.Logic x.logic outer parts.logic) apart in
      let all_taken : list_all (taken inner) (ps ++ qs) ≡ true
      = list_all-append (taken inner) ps qs
      ∙ both (list_all (taken inner) ps) (list_all (taken inner) qs) (all_of (taken outer) (taken inner) (still_taken c.Logic x.logic outer) ps first_taken)
      (each_taken c.Logic x.logic outer) in
      distinct_joined (ps ++ qs) (x.result ∷ []) both_differ refl
      (all_of (taken inner) (λ y. list_all (others y) (x.result ∷ [])) (λ y e. both (others y x.result) true (new_differs inner y x.result e parts.result) refl) (ps ++ qs) all_taken)

  post_matches : Matches roots (with_result inner x.result x.sort) (post_scope x)
  post_matches = result_matches roots x.result x.sort inner (head_scope x) inner_matches parts.result

  pub head_in_order : HeadIsInOrder roots (fits_in roots known) x
  head_in_order = record {
    distinct = names_differ;
    no_root_hidden = no_root_is_hidden roots (with_result inner x.result x.sort) (post_scope x) post_matches;
    pre = walked_assertions_are_in_order roots known inner (head_scope x) inner_matches inner_knows x.pre parts.pre;
    post = walked_assertions_are_in_order roots known (with_result inner x.result x.sort) (post_scope x) post_matches
        (knows_with known inner x.result (c.Program x.sort) (λ o. tt) inner_knows) x.post parts.post;
    params = all_stored x.params parts.stored;
    result = storable_none x.sort parts.result_stored;
  }

-- ---- the laws

-- What stands before the body of a proc.
pub procs_begin : ProcsBegin
procs_begin file sorted simple before after z all x y is =
    let i = has_invariant file.decls in
    let b : Before = after_decls before at_start in
    let self : walk.Scope = with_proc b.scope x in
    let walks = walk_parts i before (z ∷ after) at_start (subst (λ q. decls i q at_start ≡ nothing) all (decls_walked file sorted)) in
    let own = (behind_none (decl_kind i z.kind z.spot b) (decls i after (after_decl z.kind b)) walks.1).0 in
    let code = construct_none z.spot (proc_code x b.scope) (body y (frame Outside x.sort) (in_command x self)) (ap (λ k. decl_kind i k z.spot b) (sym is) ∙ own) in
    let boxes = first (private_only self x.pre) (private_box (in_command x self) x.result x.sort x.post) in
    let rest = first_of_none (walk.new_name b.scope x.name) (head_code x self ∷ boxes ∷ []) code.0 in
    let head = first_of_none (head_code x self) (boxes ∷ []) rest.1 in
    let post = (first_none (private_only self x.pre) (private_box (in_command x self) x.result x.sort x.post) head.1).1 in
    let begun = declarations_begin file sorted simple (before ++ z ∷ []) after (all ∙ sym (append_assoc before (z ∷ []) after)) in
    let there : (after_decls (before ++ z ∷ []) at_start).scope ≡ self = ap (λ q. q.scope) (after_parts before (z ∷ []) at_start) ∙ ap (λ k. (after_decl k b).scope) is in
    let matches = subst (λ q. Matches (root_names file) q no_locals) there begun.0 in
    let knows = subst (Knows (predicates_of file.decls)) there begun.1 in
    let procs = subst (KnowsProcs (declared_in file).procs) there begun.2 in
    let it = parts (root_names file) (predicates_of file.decls) (declared_in file).procs self x matches knows procs head.0 post in
    record {
      matches = inner_matches (root_names file) (predicates_of file.decls) (declared_in file).procs self x matches knows procs head.0 post;
      knows = inner_knows (root_names file) (predicates_of file.decls) (declared_in file).procs self x matches knows procs head.0 post;
      procs = inner_procs (root_names file) (predicates_of file.decls) (declared_in file).procs self x matches knows procs head.0 post;
      body_walked = code.1;
      pre_walked = it.pre;
      new_result = it.result;
      post_walked = it.post;
      order = head_in_order (root_names file) (predicates_of file.decls) (declared_in file).procs self x matches knows procs head.0 post;
    }

-- The heads of procs are in order.
pub procs_are_in_order : ProcsAreInOrder
procs_are_in_order file sorted simple f x e = from (procedures_of file.decls f) refl e
  where
    from : (o : Option Procedure) → procedures_of file.decls f ≡ o → option_map (λ z. z.head) o ≡ Some x → HeadIsInOrder (root_names file) (instance_fits (declared_in file)) x
    from None g k = cc
    from (Some z) g k =
        let s = procedures_stand file.decls f z g in
        subst (HeadIsInOrder (root_names file) (instance_fits (declared_in file))) (some_same z.head x k)
        (procs_begin file sorted simple s.before s.after s.at s.all z.head z.body s.is).order
