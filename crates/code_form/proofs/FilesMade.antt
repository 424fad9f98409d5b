-- The code of a file, from the bodies of its procs and main's.
use Rattle.std.proofs.Common.{◌≡◌, ℕ, ◌+◌, ◌<◌, ◌≤◌, Bool, true, false, cond, List, [], ◌∷◌, ◌++◌, length, length-append, map, reverse, take, get_or, refl, sym, ◌∙◌, ap, subst, Option, Some, None, Result, Ok, Err, IfOk, OnOk, arith}
use Rattle.std.specs.Prelude.{is_some, bytes_eq}
use Rattle.std.specs.List.{list_all}
use Rattle.std.proofs.lemmas.List.{map-append, reverse-append, take_more, take_all}
use Rattle.std.proofs.lemmas.Slice.Eq.{bytes_eq-Decides}
use mathlib.Core.Path.{fun_ext}
use Rattle.tht_tree.specs.declared.plain.Value.{Value}
use Rattle.tht_tree.specs.declared.plain.Memory.{Memory}
use Rattle.tht_tree.specs.declared.body.Body.{Body}
use Rattle.tht_tree.specs.declared.decl.Decl.{Decl}
use Rattle.tht_tree.specs.declared.decl.Param.{Param}
use Rattle.tht_tree.specs.declared.decl.DeclKind.{DeclKind}
use Rattle.tht_tree.specs.declared.decl.DeclKind.TheVariants as d
use Rattle.tht_tree.specs.declared.file.Source1.{Source1}
use Rattle.tht_tree.specs.Syntax.{Names, position}
use Rattle.tht_tree.specs.Values.{is}
use Rattle.tht_logic.specs.Machine.{closed}
use Rattle.tht_logic.specs.Programs.{code as program, root_names}
use Rattle.tht_logic.specs.Procedures.{Procedure, Procedures, with_procedure, with_declared_procedure, with_procedures, procedures_of, bound_names, body_with, bodies_in}
use Rattle.tht_logic.specs.PlainPrograms.{is_plain_program, is_plain_body, is_plain_decl, is_plain_file}
use Rattle.code_form.specs.declared.code.Code.{Code}
use Rattle.code_form.specs.declared.code.Node.{Node}
use Rattle.code_form.specs.declared.code.Proc.{Proc}
use Rattle.code_form.specs.declared.bodies.Behind.TheVariants.{Caller}
use Rattle.code_form.specs.declared.bodies.Work.{Work}
use Rattle.code_form.specs.Codes.{means_of, at_body, bodies_of}
use Rattle.code_form.specs.Means.{names_of, body_named, meaning, AreFound}
use Rattle.code_form.specs.Files.{with_proc_names, unmade, with_start, IsStart, HasBodies}
use Rattle.code_form.specs.Lowering.{Stands, Lowered, is_plain_over}
use Rattle.code_form.proofs.Started.{and_then_ended}
use Rattle.code_form.proofs.Emitting.{stands_grown}
use Rattle.code_form.proofs.Evaluating.{both_true}
use Rattle.code_form.proofs.FoundBodies.{found_all, found_is, names_kept, started, others, unmade_names, named_procedures, names_apart}
use Rattle.code_form.proofs.ProcNames.{has, has_is, Apart}

abbrev procedure_or : Procedure → Option Procedure → Procedure
procedure_or x None = x
procedure_or x (Some y) = y

-- ---- nodes that are added

start_grown : (procs : Names) (nodes more : List Node) (x : Procedure) (s : ℕ) → IsStart procs nodes x s → IsStart procs (nodes ++ more) x s
start_grown procs nodes more x s h = record {
  there = let l = h.there in omega (arith, l, length-append nodes more);
  stands = stands_grown procs nodes more Caller (map (λ p. p.name) x.head.params) s (program [] x.body) tt h.there h.stands;
}

-- the bodies that were made stay so, where nodes are added
pub bodies_kept : (old new : Work) (more : List Node) (bodies : List Proc) (known : Procedures) → new.nodes ≡ old.nodes ++ more → new.procs ≡ old.procs → HasBodies old bodies known → HasBodies new bodies known
bodies_kept old new more bodies known nodes procs h = record {
  names = h.names ∙ sym procs;
  made = λ f x b e g.
      subst (λ z. IsStart z new.nodes x b.start) (sym procs)
      (subst (λ z. IsStart old.procs z x b.start) (sym nodes) (start_grown old.procs old.nodes more x b.start (h.made f x b e g)));
}

-- ---- one more body

-- what a body that was made stands for
pub body_start : (old new : Work) (x : Procedure) (s : ℕ) → old.bound ≡ map (λ p. p.name) x.head.params → Lowered old new Caller (program [] x.body) s → IsStart new.procs new.nodes x s
body_start old new x s bound low =
    let a = low.added in
    record {
      there = low.there tt;
      stands =
          subst (λ z. Stands z new.nodes Caller (map (λ p. p.name) x.head.params) s (program [] x.body)) (sym a.procs)
          (subst (λ z. Stands old.procs new.nodes Caller z s (program [] x.body)) bound (low.stands tt));
    }

one_made : (work : Work) (bodies : List Proc) (known : Procedures) (x : Procedure) (s : ℕ) → HasBodies work bodies known → IsStart work.procs work.nodes x s
    → HasBodies work (with_start x.head.name s bodies) (with_procedure x known)
one_made work bodies known x s h start = record {
  names = names_kept x.head.name s bodies ∙ h.names;
  made = λ f y b e g. by f y b (bytes_eq x.head.name f) refl e g;
}
  where
    by : (f : List ℕ) (y : Procedure) (b : Proc) (c : Bool) → bytes_eq x.head.name f ≡ c → cond c (Some x) (known f) ≡ Some y → body_named (with_start x.head.name s bodies) f ≡ Some b
        → IsStart work.procs work.nodes y b.start
    by f y b true k e g =
        let same : x.head.name ≡ f = (bytes_eq-Decides x.head.name f).0 k in
        let here : b.start ≡ s = started x.head.name s bodies b (ap (body_named (with_start x.head.name s bodies)) same ∙ g) in
        subst (λ z. IsStart work.procs work.nodes z b.start) (ap (procedure_or x) e) (subst (IsStart work.procs work.nodes x) (sym here) start)
    by f y b false k e g = h.made f y b e (sym (others x.head.name s f bodies k) ∙ g)

-- the body of a proc was made, and begins there
pub proc_made : (old bare new : Work) (bodies after : List Proc) (known : Procedures) (x : Procedure) (params : List Param) (s : ℕ) → bare.nodes ≡ old.nodes → bare.procs ≡ old.procs →
    bare.bound ≡ map (λ p. p.name) params → params ≡ x.head.params → Lowered bare new Caller (program [] x.body) s → (names_of bodies ≡ new.procs → after ≡ with_start x.head.name s bodies) →
    HasBodies old bodies known → HasBodies new after (with_procedure x known)
proc_made old bare new bodies after known x params s nodes procs bound of_head low set h =
    let a = low.added in
    let kept : HasBodies new bodies known = bodies_kept old new a.more bodies known (a.nodes ∙ ap (λ z. z ++ a.more) nodes) (a.procs ∙ procs) h in
    subst (λ z. HasBodies new z (with_procedure x known)) (sym (set kept.names)) (one_made new bodies known x s kept (body_start bare new x s (bound ∙ ap (map (λ p. p.name)) of_head) low))

-- no body is made yet
pub none_made : (work : Work) (names : Names) (bodies : List Proc) → work.procs ≡ names → bodies ≡ unmade names → HasBodies work bodies (λ f. None)
none_made work names bodies procs e = record {
  names = ap names_of e ∙ unmade_names names ∙ sym procs;
  made = λ f x b g k. cc g;
}

-- ---- declarations one after another

pub with_procedures_append : (known : Procedures) (xs ys : List Decl) → with_procedures known (xs ++ ys) ≡ with_procedures (with_procedures known xs) ys
with_procedures_append known [] ys = refl
with_procedures_append known (x ∷ xs) ys = with_procedures_append (with_declared_procedure x.kind known) xs ys

procedures_next : (xs : List Decl) (i : ℕ) (x : Decl) → i < length xs → x ≡ get_or xs i x → procedures_of (take (i + 1) xs) ≡ with_declared_procedure x.kind (procedures_of (take i xs))
procedures_next xs i x l e =
    ap procedures_of (take_more xs i x l ∙ ap (λ y. take i xs ++ y ∷ []) (sym e)) ∙ with_procedures_append (λ f. None) (take i xs) (x ∷ [])

-- one declaration more, of those that are gone through
pub decls_turn : (work : Work) (bodies : List Proc) (xs : List Decl) (i : ℕ) (x : Decl) → i < length xs → x ≡ get_or xs i x → HasBodies work bodies (with_declared_procedure x.kind (procedures_of (take i xs)))
    → HasBodies work bodies (procedures_of (take (i + 1) xs))
decls_turn work bodies xs i x l e h = subst (HasBodies work bodies) (sym (procedures_next xs i x l e)) h

pub decls_end : (work : Work) (bodies : List Proc) (xs : List Decl) (i : ℕ) → length xs ≤ i → HasBodies work bodies (procedures_of (take i xs)) → HasBodies work bodies (procedures_of xs)
decls_end work bodies xs i l h = subst (HasBodies work bodies) (ap procedures_of (take_all i xs l)) h

-- ---- main

pub main_stands : (bare new : Work) (body : Body) (i : ℕ) → bare.bound ≡ [] → Lowered bare new Caller (program [] body) i → Stands new.procs new.nodes Caller [] i (program [] body)
main_stands bare new body i bound low =
    let a = low.added in
    subst (λ z. Stands z new.nodes Caller [] i (program [] body)) (sym a.procs) (subst (λ z. Stands bare.procs new.nodes Caller z i (program [] body)) bound (low.stands tt))

pub main_keeps : (old bare new : Work) (body : Body) (i : ℕ) → bare.nodes ≡ old.nodes → bare.procs ≡ old.procs → Lowered bare new Caller (program [] body) i →
    (bodies : List Proc) (known : Procedures) → HasBodies old bodies known → HasBodies new bodies known
main_keeps old bare new body i nodes procs low bodies known h =
    let a = low.added in bodies_kept old new a.more bodies known (a.nodes ∙ ap (λ z. z ++ a.more) nodes) (a.procs ∙ procs) h

-- ---- results

pub on_ok : {T E P Q : Type 0} (r : Result T E) → (P → Q) → OnOk r P → OnOk r Q
on_ok (Ok x) f h = f h
on_ok (Err x) f h = tt

pub in_any : {T E Q : Type 0} (r : Result T E) → Q → OnOk r Q
in_any (Ok x) h = h
in_any (Err x) h = tt

pub on_in_ok : {T E Q : Type 0} {P : T → Type 0} (r : Result T E) → ((x : T) → P x → Q) → IfOk r P → OnOk r Q
on_in_ok (Ok x) f h = f x h
on_in_ok (Err x) f h = tt

-- ---- plain bodies

module _ (procs : Procedures) where
  -- the bodies of procedures are plain
  abbrev ArePlain : Procedures → Type 0
  ArePlain known = (f : List ℕ) (x : Procedure) → known f ≡ Some x → is_plain_body [] procs (bound_names x.head.params) x.body ≡ true

  one_plain : (kind : DeclKind) (known : Procedures) → ArePlain known → is_plain_decl [] procs kind ≡ true
      → (f : List ℕ) (x : Procedure) → with_declared_procedure kind known f ≡ Some x → is_plain_body [] procs (bound_names x.head.params) x.body ≡ true
  one_plain (d.Proc head body) known h k f x e = by (bytes_eq head.name f) e
    where
      by : (b : Bool) → cond b (Some (record { head = head; body = body })) (known f) ≡ Some x → is_plain_body [] procs (bound_names x.head.params) x.body ≡ true
      by true g = subst (λ (z : Procedure). is_plain_body [] procs (bound_names z.head.params) z.body ≡ true) (ap (procedure_or x) g) k
      by false g = h f x g
  one_plain (d.Pred a q ps p) known h k f x e = h f x e
  one_plain (d.PredOn a q ps y nil n s cons) known h k f x e = h f x e
  one_plain (d.Root y s v) known h k f x e = h f x e
  one_plain (d.Invariant a y) known h k f x e = h f x e
  one_plain (d.Lemma l) known h k f x e = h f x e
  one_plain (d.Txn a b) known h k f x e = h f x e

  all_plain : (xs : List Decl) (known : Procedures) → ArePlain known → list_all (λ x. is_plain_decl [] procs x.kind) xs ≡ true → ArePlain (with_procedures known xs)
  all_plain [] known h k = h
  all_plain (x ∷ xs) known h k =
      let parts = both_true (is_plain_decl [] procs x.kind) (list_all (λ y. is_plain_decl [] procs y.kind) xs) k in
      all_plain xs (with_declared_procedure x.kind known) (one_plain x.kind known h parts.0) parts.1

-- what a plain file says of main and of each proc
pub plain_parts : (file : Source1) → is_plain_file file ≡ true
    → (is_plain_body [] (procedures_of file.decls) [] file.main.body ≡ true) × ((f : List ℕ) (x : Procedure) → procedures_of file.decls f ≡ Some x → is_plain_body [] (procedures_of file.decls) (bound_names x.head.params) x.body ≡ true)
unfolding is_plain_file
plain_parts file h =
    let procs : Procedures = procedures_of file.decls in
    let parts = both_true (list_all (λ x. is_plain_decl [] procs x.kind) file.decls) (is_plain_body [] procs [] file.main.body) h in
    (parts.1, all_plain procs file.decls (λ f. None) (λ f x e. cc e) parts.0)

-- the names that are called are the same
known_same : (decls : List Decl) → ◌≡◌ {A = List ℕ → Bool} (λ f. is_some (procedures_of decls f)) (λ f. is_some (position 0 (with_proc_names [] decls) f))
known_same decls = fun_ext (λ f. sym (has_is 0 (with_proc_names [] decls) f ∙ named_procedures decls [] (λ g. None) (λ g. refl) f))

plain_over : (decls : List Decl) (x : Body) (xs : Names) → is_plain_body [] (procedures_of decls) xs x ≡ true → is_plain_over (with_proc_names [] decls) (program [] x xs) ≡ true
plain_over decls x xs h = sym (ap (λ z. is_plain_program z (program [] x xs)) (known_same decls)) ∙ h

-- ---- the whole code

map_reversed : (vs : List Value) → map is (reverse vs) ≡ reverse (map is vs)
map_reversed [] = refl
map_reversed (v ∷ vs) =
    ap (map is) (reverse-append (v ∷ []) vs) ∙ map-append is (reverse vs) (v ∷ []) ∙ ap (λ z. z ++ is v ∷ []) (map_reversed vs) ∙ sym (reverse-append (is v ∷ []) (map is vs))

-- the names of the procs of a file, and its bodies
pub record IsMade (file : Source1) (work : Work) (bodies : List Proc) : Type 0 where
  pub names : work.procs ≡ with_proc_names [] file.decls
  pub made : HasBodies work bodies (procedures_of file.decls)

pub is_made : (file : Source1) (decls : List Decl) (first now last : Work) (unmade_ones bodies : List Proc) → decls ≡ file.decls → first.procs ≡ with_proc_names [] decls → unmade_ones ≡ unmade first.procs →
    now.procs ≡ first.procs → (HasBodies first unmade_ones (λ f. None) → HasBodies now bodies (procedures_of decls)) → last.procs ≡ now.procs →
    ((bs : List Proc) (known : Procedures) → HasBodies now bs known → HasBodies last bs known) → IsMade file last bodies
is_made file decls first now last unmade_ones bodies e names none same making kept keeps = record {
  names = kept ∙ same ∙ names ∙ ap (with_proc_names []) e;
  made = subst (λ z. HasBodies last bodies (procedures_of z)) e (keeps bodies (procedures_of decls) (making (none_made first first.procs unmade_ones refl none)));
}

module _ (file : Source1) (work : Work) (bodies : List Proc) (plain : is_plain_file file ≡ true) (all : IsMade file work bodies) where
  names : work.procs ≡ with_proc_names [] file.decls
  names = all.names

  made : HasBodies work bodies (procedures_of file.decls)
  made = all.made

  -- the names of the procs are each the name of one body
  pub all_found : AreFound bodies
  all_found = found_all bodies (subst Apart (sym (made.names ∙ names)) (names_apart file.decls [] tt))

  -- main
  pub main_is : (i : ℕ) → Stands work.procs work.nodes Caller [] i (program [] file.main.body) → meaning work.procs work.nodes i [] ≡ closed [] (program [] file.main.body [])
  main_is i stands =
      let parts = plain_parts file plain in
      stands (ap (λ z. is_plain_over z (program [] file.main.body [])) names ∙ plain_over file.decls file.main.body [] parts.0) [] ∙ and_then_ended (closed [] (program [] file.main.body []))

  body_is : (f : List ℕ) (x : Procedure) (b : Proc) (vs : List Value) → procedures_of file.decls f ≡ Some x → body_named bodies f ≡ Some b
      → meaning work.procs work.nodes b.start vs ≡ body_with [] (Some x) vs
  body_is f x b vs e g =
      let parts = plain_parts file plain in
      let start = made.made f x b e g in
      let p = program [] x.body (bound_names x.head.params) in
      start.stands (ap (λ z. is_plain_over z p) names ∙ plain_over file.decls x.body (bound_names x.head.params) (parts.1 f x e)) vs ∙
      and_then_ended (closed (map is (reverse vs)) p) ∙ ap (λ z. closed z p) (map_reversed vs)

  found_there : (f : List ℕ) → is_some (body_named bodies f) ≡ is_some (procedures_of file.decls f)
  found_there f = found_is bodies f ∙ ap (λ z. has z f) (made.names ∙ names) ∙ named_procedures file.decls [] (λ g. None) (λ g. refl) f

  bodies_are : (f : List ℕ) (vs : List Value) → at_body (meaning work.procs work.nodes) (body_named bodies f) vs ≡ body_with [] (procedures_of file.decls f) vs
  bodies_are f vs = by (body_named bodies f) (procedures_of file.decls f) refl refl (found_there f)
    where
      by : (o : Option Proc) (p : Option Procedure) → body_named bodies f ≡ o → procedures_of file.decls f ≡ p → is_some o ≡ is_some p → at_body (meaning work.procs work.nodes) o vs ≡ body_with [] p vs
      by None None g e h = refl
      by None (Some x) g e h = cc
      by (Some b) None g e h = cc
      by (Some b) (Some x) g e h = body_is f x b vs e g

  -- a code of these nodes and bodies stands for the file
  module _ (code : Code) (nodes : code.nodes ≡ work.nodes) (of_code : code.bodies ≡ bodies) where
    same_go : means_of code ≡ meaning work.procs work.nodes
    same_go = ap (λ z. meaning (names_of z) code.nodes) of_code ∙ ap (λ z. meaning z code.nodes) made.names ∙ ap (meaning work.procs) nodes

    pub means_main : (i : ℕ) → code.main ≡ i → Stands work.procs work.nodes Caller [] i (program [] file.main.body) → means_of code code.main [] ≡ closed [] (program (root_names file) file.main.body [])
    means_main i main stands = ap (λ z. z code.main []) same_go ∙ ap (λ z. meaning work.procs work.nodes z []) main ∙ main_is i stands

    pub means_bodies : bodies_of code ≡ bodies_in file
    means_bodies = fun_ext (λ f. fun_ext (λ vs.
        ap (λ z. at_body z (body_named code.bodies f) vs) same_go ∙ ap (λ z. at_body (meaning work.procs work.nodes) (body_named z f) vs) of_code ∙ bodies_are f vs))

  pub main_in : (r : Result Code Memory) (nodes : List Node) (i : ℕ) (x : Body) → nodes ≡ work.nodes → IfOk r (λ c. c.nodes ≡ nodes) → IfOk r (λ c. c.bodies ≡ bodies) → IfOk r (λ c. c.main ≡ i) →
      x ≡ file.main.body → Stands work.procs work.nodes Caller [] i (program [] x) → IfOk r (λ c. means_of c c.main [] ≡ closed [] (program (root_names file) file.main.body []))
  main_in (Ok c) nodes i x same of_nodes of_code main is_main stands =
      means_main c (of_nodes ∙ same) of_code i main (subst (λ z. Stands work.procs work.nodes Caller [] i (program [] z)) is_main stands)
  main_in (Err e) nodes i x same of_nodes of_code main is_main stands = tt

  pub bodies_are_in : (r : Result Code Memory) (nodes : List Node) → nodes ≡ work.nodes → IfOk r (λ c. c.nodes ≡ nodes) → IfOk r (λ c. c.bodies ≡ bodies) → IfOk r (λ c. bodies_of c ≡ bodies_in file)
  bodies_are_in (Ok c) nodes same of_nodes of_code = means_bodies c (of_nodes ∙ same) of_code
  bodies_are_in (Err e) nodes same of_nodes of_code = tt
