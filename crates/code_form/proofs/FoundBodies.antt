-- The bodies of procs by their names.
use Rattle.std.proofs.Common.{◌≡◌, ℕ, zero, suc, ◌+◌, ◌<◌, ◌≤◌, Bool, true, false, cond, ◌||◌, List, [], ◌∷◌, ◌++◌, length, map, take, slice_get, refl, sym, ◌∙◌, ap, subst, Option, Some, None, arith}
use Rattle.std.specs.Prelude.{is_some, bytes_eq, slice_set, unwrap_or}
use Rattle.std.proofs.lemmas.List.{length-map, take_all}
use Rattle.std.proofs.lemmas.Slice.Eq.{bytes_eq-Decides}
use Rattle.tht_tree.specs.declared.decl.Decl.{Decl}
use Rattle.tht_tree.specs.declared.decl.DeclKind.{DeclKind}
use Rattle.tht_tree.specs.declared.decl.DeclKind.TheVariants as d
use Rattle.tht_tree.specs.Syntax.{Names, position}
use Rattle.tht_logic.specs.Procedures.{Procedure, Procedures, with_declared_procedure, with_procedures}
use Rattle.code_form.specs.declared.code.Proc.{Proc}
use Rattle.code_form.specs.Means.{names_of, body_named}
use Rattle.code_form.specs.Files.{with_proc_name, with_proc_names, unmade_proc, unmade, with_start}
use Rattle.code_form.specs.Lowering.{number_in}
use Rattle.code_form.proofs.Emitting.{some_or, found_at}
use Rattle.code_form.proofs.ProcNames.{has, has_is, has_with_name, same_name, Apart, apart_more}

-- ---- each body is the one that its name finds

abbrev body_or : Proc → Option Proc → Proc
body_or d None = d
body_or d (Some b) = b

there : (bs : List Proc) (i : ℕ) (b : Proc) → slice_get bs i ≡ Some b → has (names_of bs) b.name ≡ true
there [] i b e = cc
there (c ∷ bs) zero b e = let n : c.name ≡ b.name = ap (λ o. (body_or c o).name) e in ap (λ z. z || has (names_of bs) b.name) (ap (λ z. bytes_eq z b.name) n ∙ same_name b.name)
there (c ∷ bs) (suc i) b e = by (bytes_eq c.name b.name) (there bs i b e)
  where
    by : (x : Bool) → has (names_of bs) b.name ≡ true → (x || has (names_of bs) b.name) ≡ true
    by true h = refl
    by false h = h

pub found_all : (bs : List Proc) → Apart (names_of bs) → (i : ℕ) (b : Proc) → slice_get bs i ≡ Some b → body_named bs b.name ≡ Some b
found_all [] a i b e = cc
found_all (c ∷ bs) a zero b e =
    let n : c.name ≡ b.name = ap (λ o. (body_or c o).name) e in
    ap (λ z. cond z (Some c) (body_named bs b.name)) (ap (λ z. bytes_eq z b.name) n ∙ same_name b.name) ∙ e
found_all (c ∷ bs) a (suc i) b e = by (bytes_eq c.name b.name) refl (found_all bs a.1 i b e)
  where
    by : (x : Bool) → bytes_eq c.name b.name ≡ x → body_named bs b.name ≡ Some b → cond x (Some c) (body_named bs b.name) ≡ Some b
    by true h rest = let k : true ≡ false = sym (there bs i b e) ∙ ap (has (names_of bs)) (sym ((bytes_eq-Decides c.name b.name).0 h)) ∙ a.0 in cc
    by false h rest = rest

-- a body that a name finds is there where the name is
pub found_is : (bs : List Proc) (f : List ℕ) → is_some (body_named bs f) ≡ has (names_of bs) f
found_is [] f = refl
found_is (b ∷ bs) f = by (bytes_eq b.name f) (found_is bs f)
  where
    by : (x : Bool) → is_some (body_named bs f) ≡ has (names_of bs) f → is_some (cond x (Some b) (body_named bs f)) ≡ (x || has (names_of bs) f)
    by true ih = refl
    by false ih = ih

-- ---- bodies that are not made yet

pub unmade_names : (xs : Names) → names_of (unmade xs) ≡ xs
unmade_names [] = refl
unmade_names (x ∷ xs) = ap (λ z. x ∷ z) (unmade_names xs)

unmade_map : {X : Type 0} (bytes : X → List ℕ) (texts : List X) → map (λ t. unmade_proc (bytes t)) texts ≡ unmade (map bytes texts)
unmade_map bytes [] = refl
unmade_map bytes (t ∷ texts) = ap (λ z. unmade_proc (bytes t) ∷ z) (unmade_map bytes texts)

-- a body for each of the texts that are gone through
pub unmade_all : {X : Type 0} (bytes : X → List ℕ) (texts : List X) (i : ℕ) (names : Names) (bodies : List Proc) → length texts ≤ i → map bytes texts ≡ names
    → bodies ≡ map (λ t. unmade_proc (bytes t)) (take i texts) → bodies ≡ unmade names
unmade_all bytes texts i names bodies l n e = e ∙ ap (map (λ t. unmade_proc (bytes t))) (take_all i texts l) ∙ unmade_map bytes texts ∙ ap unmade n

within : (xs : Names) (i : ℕ) (f : List ℕ) → slice_get xs i ≡ Some f → i < length xs
within [] i f e = cc
within (x ∷ xs) zero f e = omega arith
within (x ∷ xs) (suc i) f e = let l = within xs i f e in omega (arith, l)

-- ---- one more body is made

module _ (f : List ℕ) (s : ℕ) where
  pub names_kept : (bs : List Proc) → names_of (with_start f s bs) ≡ names_of bs
  names_kept [] = refl
  names_kept (b ∷ bs) = by (bytes_eq b.name f) (names_kept bs)
    where
      by : (x : Bool) → names_of (with_start f s bs) ≡ names_of bs → names_of (cond x (record b { start = s } ∷ bs) (b ∷ with_start f s bs)) ≡ b.name ∷ names_of bs
      by true ih = refl
      by false ih = ap (λ z. b.name ∷ z) ih

  abbrev start_or : Option Proc → ℕ
  start_or None = 0
  start_or (Some b) = b.start

  pub started : (bs : List Proc) (b : Proc) → body_named (with_start f s bs) f ≡ Some b → b.start ≡ s
  started [] b e = cc
  started (c ∷ bs) b e = by (bytes_eq c.name f) refl (started bs b) e
    where
      by : (x : Bool) → bytes_eq c.name f ≡ x → (body_named (with_start f s bs) f ≡ Some b → b.start ≡ s) → body_named (cond x (record c { start = s } ∷ bs) (c ∷ with_start f s bs)) f ≡ Some b → b.start ≡ s
      by true h ih g = sym (ap start_or (sym (ap (λ z. cond z (Some (record c { start = s })) (body_named bs f)) h) ∙ g))
      by false h ih g = ih (sym (ap (λ z. cond z (Some c) (body_named (with_start f s bs) f)) h) ∙ g)

  pub others : (g : List ℕ) (bs : List Proc) → bytes_eq f g ≡ false → body_named (with_start f s bs) g ≡ body_named bs g
  others g [] other = refl
  others g (c ∷ bs) other = by (bytes_eq c.name f) refl (others g bs other)
    where
      by : (x : Bool) → bytes_eq c.name f ≡ x → body_named (with_start f s bs) g ≡ body_named bs g → body_named (cond x (record c { start = s } ∷ bs) (c ∷ with_start f s bs)) g ≡ cond (bytes_eq c.name g) (Some c) (body_named bs g)
      by true h ih =
          let k : bytes_eq c.name g ≡ false = ap (λ z. bytes_eq z g) ((bytes_eq-Decides c.name f).0 h) ∙ other in
          ap (λ z. cond z (Some (record c { start = s })) (body_named bs g)) k ∙ sym (ap (λ z. cond z (Some c) (body_named bs g)) k)
      by false h ih = ap (cond (bytes_eq c.name g) (Some c)) ih

  abbrev pub begun : List ℕ → Proc
  begun g = record { name = g; start = s }

  -- the body whose place the name has begins here
  set_at : (bs : List Proc) (k j : ℕ) → position k (names_of bs) f ≡ Some (k + j) → slice_set bs j (begun f) ≡ with_start f s bs
  set_at [] k j e = cc
  set_at (b ∷ bs) k j e = by (bytes_eq b.name f) refl (λ i g. set_at bs (suc k) i g) e
    where
      by : (x : Bool) → bytes_eq b.name f ≡ x → ((i : ℕ) → position (suc k) (names_of bs) f ≡ Some (suc k + i) → slice_set bs i (begun f) ≡ with_start f s bs)
          → cond x (Some k) (position (suc k) (names_of bs) f) ≡ Some (k + j)
          → slice_set (b ∷ bs) j (begun f) ≡ cond x (record b { start = s } ∷ bs) (b ∷ with_start f s bs)
      by true h rest g =
          let here : j ≡ 0 = let l : k ≡ k + j = ap (some_or k) g in omega (arith, l) in
          ap (λ z. slice_set (b ∷ bs) z (begun f)) here ∙ ap (λ z. begun z ∷ bs) (sym ((bytes_eq-Decides b.name f).0 h))
      by false h rest g =
          let r = found_at (names_of bs) f (suc k) (k + j) g in
          let further : j ≡ suc r.0 = let l = r.1.0 in omega (arith, l) in
          ap (λ z. slice_set (b ∷ bs) z (begun f)) further ∙ ap (λ z. b ∷ z) (rest r.0 (g ∙ ap Some r.1.0))

  -- no body has the name
  none_set : (bs : List Proc) (k : ℕ) → position k (names_of bs) f ≡ None → with_start f s bs ≡ bs
  none_set [] k e = refl
  none_set (b ∷ bs) k e = by (bytes_eq b.name f) (none_set bs (suc k)) e
    where
      by : (x : Bool) → (position (suc k) (names_of bs) f ≡ None → with_start f s bs ≡ bs) → cond x (Some k) (position (suc k) (names_of bs) f) ≡ None → cond x (record b { start = s } ∷ bs) (b ∷ with_start f s bs) ≡ b ∷ bs
      by true rest g = cc
      by false rest g = ap (λ z. b ∷ z) (rest g)

  -- the body with the number that the name has begins here
  pub set_named : (procs : Names) (bs : List Proc) → names_of bs ≡ procs → number_in procs f < length bs → slice_set bs (number_in procs f) (begun f) ≡ with_start f s bs
  set_named procs bs is_it h = by (position 0 procs f) refl h
    where
      by : (o : Option ℕ) → position 0 procs f ≡ o → unwrap_or o (length procs) < length bs → slice_set bs (unwrap_or o (length procs)) (begun f) ≡ with_start f s bs
      by None e l = let n = ap length is_it in absurd (omega (arith, l, n, length-map bs (λ (b : Proc). b.name)))
      by (Some i) e l = set_at bs 0 i (ap (λ z. position 0 z f) is_it ∙ e ∙ ap Some (omega arith))

  pub not_set : (procs : Names) (bs : List Proc) → names_of bs ≡ procs → length bs ≤ number_in procs f → with_start f s bs ≡ bs
  not_set procs bs is_it h = by (position 0 procs f) refl h
    where
      by : (o : Option ℕ) → position 0 procs f ≡ o → length bs ≤ unwrap_or o (length procs) → with_start f s bs ≡ bs
      by None e l = none_set bs 0 (ap (λ z. position 0 z f) is_it ∙ e)
      by (Some i) e l =
          let r = found_at procs f 0 i e in
          let n = ap length is_it in
          let at = r.1.0 in
          let inside : r.0 < length procs = within procs r.0 f r.1.1 in
          absurd (omega (arith, l, n, at, inside, length-map bs (λ (b : Proc). b.name)))

  -- the same with the number and the name that code has
  pub set_found : (procs : Names) (bs : List Proc) (number : ℕ) (g : List ℕ) → number ≡ number_in procs f → g ≡ f → names_of bs ≡ procs → number < length bs → slice_set bs number (begun g) ≡ with_start f s bs
  set_found procs bs number g n e is_it h =
      ap (λ z. slice_set bs z (begun g)) n ∙ ap (λ z. slice_set bs (number_in procs f) (begun z)) e ∙ set_named procs bs is_it (subst (λ z. z < length bs) n h)

  pub none_found : (procs : Names) (bs : List Proc) (number : ℕ) → number ≡ number_in procs f → names_of bs ≡ procs → length bs ≤ number → with_start f s bs ≡ bs
  none_found procs bs number n is_it h = not_set procs bs is_it (subst (λ z. length bs ≤ z) n h)

-- ---- the names of procs and the procedures

one_more : (kind : DeclKind) (known : Names) (procedures : Procedures) (f : List ℕ) → has known f ≡ is_some (procedures f) → has (with_proc_name kind known) f ≡ is_some (with_declared_procedure kind procedures f)
one_more (d.Proc head body) known procedures f h = has_with_name known head.name f ∙ by (bytes_eq head.name f)
  where
    by : (b : Bool) → (b || has known f) ≡ is_some (cond b (Some (record { head = head; body = body })) (procedures f))
    by true = refl
    by false = h
one_more (d.Pred a q ps p) known procedures f h = h
one_more (d.PredOn a q ps x nil n s cons) known procedures f h = h
one_more (d.Root x s v) known procedures f h = h
one_more (d.Invariant a x) known procedures f h = h
one_more (d.Lemma l) known procedures f h = h
one_more (d.Txn a b) known procedures f h = h

-- the procs' names are those that find a procedure
pub named_procedures : (xs : List Decl) (known : Names) (procedures : Procedures) → ((f : List ℕ) → has known f ≡ is_some (procedures f))
    → (f : List ℕ) → has (with_proc_names known xs) f ≡ is_some (with_procedures procedures xs f)
named_procedures [] known procedures h f = h f
named_procedures (x ∷ xs) known procedures h f =
    named_procedures xs (with_proc_name x.kind known) (with_declared_procedure x.kind procedures) (λ g. one_more x.kind known procedures g (h g)) f

one_apart : (kind : DeclKind) (known : Names) → Apart known → Apart (with_proc_name kind known)
one_apart (d.Proc head body) known a = apart_more known head.name a
one_apart (d.Pred x q ps p) known a = a
one_apart (d.PredOn x q ps y nil n s cons) known a = a
one_apart (d.Root x s v) known a = a
one_apart (d.Invariant p x) known a = a
one_apart (d.Lemma l) known a = a
one_apart (d.Txn p b) known a = a

pub names_apart : (xs : List Decl) (known : Names) → Apart known → Apart (with_proc_names known xs)
names_apart [] known a = a
names_apart (x ∷ xs) known a = names_apart xs (with_proc_name x.kind known) (one_apart x.kind known a)
