-- Nodes stand for the statements that they were made of.
use Rattle.std.proofs.Common.{◌≡◌, ℕ, suc, ◌+◌, ◌-◌, ◌<◌, Bool, true, false, cond, ◌&&◌, List, [], ◌∷◌, ◌++◌, length, length-append, map, reverse, take, slice_get, refl, sym, ◌∙◌, ap, subst, Option, Some, None, arith}
use Rattle.std.specs.Prelude.{is_some, bytes_eq, unwrap_or}
use Rattle.std.proofs.lemmas.List.{append-nil, reverse-append, take_all}
use Rattle.std.proofs.lemmas.Slice.Eq.{bytes_eq-Decides}
use mathlib.Core.Path.{fun_ext}
use Rattle.tht_tree.specs.declared.plain.Sort.{Sort}
use Rattle.tht_tree.specs.declared.plain.Value.{Value}
use Rattle.tht_tree.specs.declared.term.Term.{Term}
use Rattle.tht_tree.specs.Syntax.{Names, Trm, trm, position}
use Rattle.tht_tree.specs.Values.{Val, is, place_in, bool_in}
use Rattle.tht_tree.specs.Terms.{fits}
use Rattle.tht_logic.specs.Machine as machine
use Rattle.tht_logic.specs.Machine.{Cmd, TermBig, Prog, Ended, FrontBig, Plain, Block, Fork, and_then, closed, no_env, value, all_fit, if_fit}
use Rattle.tht_logic.specs.Programs.{Code, ret, test, read, write, alloc, drop, publish, retract, call, nest, atomic, par, Whole}
use Rattle.code_form.specs.declared.code.Node.{Node}
use Rattle.code_form.specs.declared.code.Node.TheVariants as node
use Rattle.code_form.specs.declared.bodies.Behind.{Behind}
use Rattle.code_form.specs.declared.bodies.Behind.TheVariants.{Caller, Inside}
use Rattle.code_form.specs.Eval.{eval_of, all_of}
use Rattle.code_form.specs.Means.{Means, means_at, meaning, or_big, or_cmd, or_cmds, calling}
use Rattle.tht_logic.specs.PlainPrograms.{no_sequence, no_sequences}
use Rattle.code_form.specs.Lowering.{expr_of, is_plain_over, follows, IsBehind, Stands, number_in, end_node}
use Rattle.code_form.proofs.Evaluating.{both_true, if_fits, means, all_means}
use Rattle.code_form.proofs.Growing.{meaning_grown, meaning_last, follows_same, follows_bound}
use Rattle.code_form.proofs.Started.{and_then_ended}

abbrev pub some_or : ℕ → Option ℕ → ℕ
some_or d None = d
some_or d (Some i) = i

-- ---- programs one after another

pub and_then_and_then : (p : Prog) (f g : Value → Prog) → and_then (and_then p f) g ≡ and_then p (λ w. and_then (f w) g)
and_then_and_then (Ended w) f g = refl
and_then_and_then FrontBig f g = refl
and_then_and_then (Plain c next) f g = λ i. Plain c (λ w. and_then_and_then (next w) f g i)
and_then_and_then (Block p next) f g = λ i. Block p (λ w. and_then_and_then (next w) f g i)
and_then_and_then (Fork p q next) f g = λ i. Fork p q (λ w u. and_then_and_then (next w u) f g i)

-- ---- commands

one_fits : (b : Bool) (w : Value) (f : Value → Cmd) → or_cmd (if_fits b w) f ≡ cond (b && true) (f w) TermBig
one_fits true w f = refl
one_fits false w f = refl

two_fit : (b c : Bool) (w u : Value) (f : Value → Value → Cmd) → or_cmd (if_fits b w) (λ x. or_cmd (if_fits c u) (f x)) ≡ cond (b && (c && true)) (f w u) TermBig
two_fit true true w u f = refl
two_fit true false w u f = refl
two_fit false c w u f = refl

all_fitting : (b : Bool) (vs : List Value) (f : List Value → Cmd) → or_cmds (cond b (Some vs) None) f ≡ cond b (f vs) TermBig
all_fitting true vs f = refl
all_fitting false vs f = refl

big_fits : (b : Bool) (w : Value) (f : Value → Prog) → or_big (if_fits b w) f ≡ cond b (f w) FrontBig
big_fits true w f = refl
big_fits false w f = refl

-- ---- what goes on

module _ (procs : Names) (old more : List Node) (behind : Behind) (bound : Names) (ready : IsBehind old bound behind) (env : List Value) where
  abbrev values : List Val
  values = map is (reverse env)

  -- what follows this body's value, with the nodes that were added
  abbrev after_it : Value → Prog
  after_it = follows (meaning procs (old ++ more)) bound behind env

  -- with a value bound to a name
  pub goes_on : (next : ℕ) (x : List ℕ) (p : Whole) → Stands procs old behind (bound ++ x ∷ []) next p → is_plain_over procs (p (x ∷ reverse bound)) ≡ true → (w : Value) →
      meaning procs old next (env ++ w ∷ []) ≡ and_then (closed (is w ∷ values) (p (x ∷ reverse bound))) after_it
  goes_on next x p stands plain w =
      let names : reverse (bound ++ x ∷ []) ≡ x ∷ reverse bound = reverse-append bound (x ∷ []) in
      let is_it : map is (reverse (env ++ w ∷ [])) ≡ is w ∷ values = ap (map is) (reverse-append env (w ∷ [])) in
      let behind_it : follows (meaning procs old) (bound ++ x ∷ []) behind (env ++ w ∷ []) ≡ after_it =
      follows_bound procs (meaning procs old) old bound (x ∷ []) behind env (w ∷ []) ready refl ∙ sym (follows_same procs old more bound behind env ready) in
      stands (ap (λ z. is_plain_over procs (p z)) names ∙ plain) (env ++ w ∷ []) ∙
      ap (λ z. and_then (closed z (p (reverse (bound ++ x ∷ [])))) (follows (meaning procs old) (bound ++ x ∷ []) behind (env ++ w ∷ []))) is_it ∙
      ap (λ z. and_then (closed (is w ∷ values) (p z)) (follows (meaning procs old) (bound ++ x ∷ []) behind (env ++ w ∷ []))) names ∙
      ap (and_then (closed (is w ∷ values) (p (x ∷ reverse bound)))) behind_it

  -- with two values bound
  pub goes_on_two : (next : ℕ) (x y : List ℕ) (p : Whole) → Stands procs old behind (bound ++ x ∷ y ∷ []) next p → is_plain_over procs (p (y ∷ x ∷ reverse bound)) ≡ true → (w u : Value) →
      meaning procs old next (env ++ w ∷ u ∷ []) ≡ and_then (closed (is u ∷ is w ∷ values) (p (y ∷ x ∷ reverse bound))) after_it
  goes_on_two next x y p stands plain w u =
      let names : reverse (bound ++ x ∷ y ∷ []) ≡ y ∷ x ∷ reverse bound = reverse-append bound (x ∷ y ∷ []) in
      let is_it : map is (reverse (env ++ w ∷ u ∷ [])) ≡ is u ∷ is w ∷ values = ap (map is) (reverse-append env (w ∷ u ∷ [])) in
      let behind_it : follows (meaning procs old) (bound ++ x ∷ y ∷ []) behind (env ++ w ∷ u ∷ []) ≡ after_it =
      follows_bound procs (meaning procs old) old bound (x ∷ y ∷ []) behind env (w ∷ u ∷ []) ready refl ∙ sym (follows_same procs old more bound behind env ready) in
      stands (ap (λ z. is_plain_over procs (p z)) names ∙ plain) (env ++ w ∷ u ∷ []) ∙
      ap (λ z. and_then (closed z (p (reverse (bound ++ x ∷ y ∷ [])))) (follows (meaning procs old) (bound ++ x ∷ y ∷ []) behind (env ++ w ∷ u ∷ []))) is_it ∙
      ap (λ z. and_then (closed (is u ∷ is w ∷ values) (p z)) (follows (meaning procs old) (bound ++ x ∷ y ∷ []) behind (env ++ w ∷ u ∷ []))) names ∙
      ap (and_then (closed (is u ∷ is w ∷ values) (p (y ∷ x ∷ reverse bound)))) behind_it

  -- with no value bound
  pub goes_on_bare : (next : ℕ) (p : Whole) → Stands procs old behind (bound ++ []) next p → is_plain_over procs (p (reverse bound)) ≡ true →
      meaning procs old next env ≡ and_then (closed values (p (reverse bound))) after_it
  goes_on_bare next p stands plain =
      let s : Stands procs old behind bound next p = subst (λ z. Stands procs old behind z next p) (append-nil bound) stands in
      s plain env ∙ ap (and_then (closed values (p (reverse bound)))) (sym (follows_same procs old more bound behind env ready))

-- ---- names

-- the name that a position finds stands there
pub found_at : (ys : Names) (f : List ℕ) (k i : ℕ) → position k ys f ≡ Some i → (j : ℕ) × ((i ≡ k + j) × (slice_get ys j ≡ Some f))
found_at [] f k i e = cc
found_at (y ∷ ys) f k i e = by (bytes_eq y f) refl (found_at ys f (suc k) i) e
  where
    by : (b : Bool) → bytes_eq y f ≡ b → (position (suc k) ys f ≡ Some i → (j : ℕ) × ((i ≡ (suc k) + j) × (slice_get ys j ≡ Some f))) → cond b (Some k) (position (suc k) ys f) ≡ Some i
        → (j : ℕ) × ((i ≡ k + j) × (slice_get (y ∷ ys) j ≡ Some f))
    by true h rest g = let same : k ≡ i = ap (some_or k) g in (0, (omega (arith, same), ap Some ((bytes_eq-Decides y f).0 h)))
    by false h rest g = let r = rest g in let l = r.1.0 in (suc r.0, (omega (arith, l), r.1.1))

pub named_at : (procs : Names) (f : List ℕ) → is_some (position 0 procs f) ≡ true → slice_get procs (number_in procs f) ≡ Some f
named_at procs f h = by (position 0 procs f) refl h
  where
    by : (o : Option ℕ) → position 0 procs f ≡ o → is_some o ≡ true → slice_get procs (unwrap_or o (length procs)) ≡ Some f
    by None e g = cc
    by (Some i) e g = let r = found_at procs f 0 i e in let same : i ≡ r.0 = let l = r.1.0 in omega (arith, l) in subst (λ z. slice_get procs z ≡ Some f) (sym same) r.1.1

-- ---- statements

module _ (procs : Names) (old : List Node) (behind : Behind) (bound : Names) (ready : IsBehind old bound behind) where
  abbrev xs : Names
  xs = reverse bound

  -- a statement that binds a value
  binding : (n : Node) (next : ℕ) (x : List ℕ) (p : Whole) (q : Names → Code) (c : List Value → Cmd) (d : List Value → Cmd) →
      ((env : List Value) → means_at procs (meaning procs old) n env ≡ Plain (c env) (λ w. meaning procs old next (env ++ w ∷ []))) →
      ((env : List Value) → closed (map is (reverse env)) (q xs) ≡ Plain (d env) (λ w. closed (is w ∷ map is (reverse env)) (p (x ∷ xs)))) →
      (is_plain_over procs (q xs) ≡ true → is_plain_over procs (p (x ∷ xs)) ≡ true) →
      (is_plain_over procs (q xs) ≡ true → (env : List Value) → c env ≡ d env) →
      Stands procs old behind (bound ++ x ∷ []) next p → Stands procs (old ++ n ∷ []) behind bound (length old) q
  binding n next x p q c d node code plain same stands ok env =
      meaning_last procs old n env ∙ node env ∙
      ap (λ z. Plain z (λ w. meaning procs old next (env ++ w ∷ []))) (same ok env) ∙
      ap (Plain (d env)) (fun_ext (goes_on procs old (n ∷ []) behind bound ready env next x p stands (plain ok))) ∙
      ap (λ z. and_then z (follows (meaning procs (old ++ n ∷ [])) bound behind env)) (sym (code env))

  -- a statement that binds none
  passing : (n : Node) (next : ℕ) (p : Whole) (q : Names → Code) (c : List Value → Cmd) (d : List Value → Cmd) →
      ((env : List Value) → means_at procs (meaning procs old) n env ≡ Plain (c env) (λ w. meaning procs old next env)) →
      ((env : List Value) → closed (map is (reverse env)) (q xs) ≡ Plain (d env) (λ w. closed (map is (reverse env)) (p xs))) →
      (is_plain_over procs (q xs) ≡ true → is_plain_over procs (p xs) ≡ true) →
      (is_plain_over procs (q xs) ≡ true → (env : List Value) → c env ≡ d env) →
      Stands procs old behind (bound ++ []) next p → Stands procs (old ++ n ∷ []) behind bound (length old) q
  passing n next p q c d node code plain same stands ok env =
      meaning_last procs old n env ∙ node env ∙
      ap (λ z. Plain z (λ w. meaning procs old next env)) (same ok env) ∙
      ap (Plain (d env)) (fun_ext (λ w. goes_on_bare procs old (n ∷ []) behind bound ready env next p stands (plain ok))) ∙
      ap (λ z. and_then z (follows (meaning procs (old ++ n ∷ [])) bound behind env)) (sym (code env))

  term : Term → Trm
  term t = trm [] xs t

  pub read_stands : (s : Sort) (t : Term) (next : ℕ) (x : List ℕ) (p : Whole) → Stands procs old behind (bound ++ x ∷ []) next p →
      Stands procs (old ++ node.Read s (expr_of xs t) next ∷ []) behind bound (length old) (λ ys. read s (trm [] ys t) (p (x ∷ ys)))
  read_stands s t next x p stands =
      binding (node.Read s (expr_of xs t) next) next x p (λ ys. read s (trm [] ys t) (p (x ∷ ys)))
      (λ env. or_cmd (eval_of (expr_of xs t) env) (λ w. machine.Read s (place_in w)))
      (λ env. if_fit (map is (reverse env)) (trm [] xs t ∷ []) (machine.Read s (place_in (value (map is (reverse env)) (trm [] xs t)))))
      (λ env. refl) (λ env. refl)
      (λ ok. (both_true (no_sequence (trm [] xs t)) (is_plain_over procs (p (x ∷ xs))) ok).1)
      (λ ok env.
      ap (λ z. or_cmd z (λ w. machine.Read s (place_in w))) (means env xs t (both_true (no_sequence (trm [] xs t)) (is_plain_over procs (p (x ∷ xs))) ok).0).answer ∙
      one_fits (fits no_env (map is (reverse env)) (trm [] xs t)) (value (map is (reverse env)) (trm [] xs t)) (λ w. machine.Read s (place_in w)))
      stands

  pub free_stands : (t : Term) (next : ℕ) (p : Whole) → Stands procs old behind (bound ++ []) next p →
      Stands procs (old ++ node.Free (expr_of xs t) next ∷ []) behind bound (length old) (λ ys. drop (trm [] ys t) (p ys))
  free_stands t next p stands =
      passing (node.Free (expr_of xs t) next) next p (λ ys. drop (trm [] ys t) (p ys))
      (λ env. or_cmd (eval_of (expr_of xs t) env) (λ w. machine.Free (place_in w)))
      (λ env. if_fit (map is (reverse env)) (trm [] xs t ∷ []) (machine.Free (place_in (value (map is (reverse env)) (trm [] xs t)))))
      (λ env. refl) (λ env. refl)
      (λ ok. (both_true (no_sequence (trm [] xs t)) (is_plain_over procs (p xs)) ok).1)
      (λ ok env.
      ap (λ z. or_cmd z (λ w. machine.Free (place_in w))) (means env xs t (both_true (no_sequence (trm [] xs t)) (is_plain_over procs (p xs)) ok).0).answer ∙
      one_fits (fits no_env (map is (reverse env)) (trm [] xs t)) (value (map is (reverse env)) (trm [] xs t)) (λ w. machine.Free (place_in w)))
      stands

  pub publish_stands : (t : Term) (next : ℕ) (p : Whole) → Stands procs old behind (bound ++ []) next p →
      Stands procs (old ++ node.Publish (expr_of xs t) next ∷ []) behind bound (length old) (λ ys. publish (trm [] ys t) (p ys))
  publish_stands t next p stands =
      passing (node.Publish (expr_of xs t) next) next p (λ ys. publish (trm [] ys t) (p ys))
      (λ env. or_cmd (eval_of (expr_of xs t) env) (λ w. machine.Publish (place_in w)))
      (λ env. if_fit (map is (reverse env)) (trm [] xs t ∷ []) (machine.Publish (place_in (value (map is (reverse env)) (trm [] xs t)))))
      (λ env. refl) (λ env. refl)
      (λ ok. (both_true (no_sequence (trm [] xs t)) (is_plain_over procs (p xs)) ok).1)
      (λ ok env.
      ap (λ z. or_cmd z (λ w. machine.Publish (place_in w))) (means env xs t (both_true (no_sequence (trm [] xs t)) (is_plain_over procs (p xs)) ok).0).answer ∙
      one_fits (fits no_env (map is (reverse env)) (trm [] xs t)) (value (map is (reverse env)) (trm [] xs t)) (λ w. machine.Publish (place_in w)))
      stands

  pub retract_stands : (t : Term) (next : ℕ) (p : Whole) → Stands procs old behind (bound ++ []) next p →
      Stands procs (old ++ node.Retract (expr_of xs t) next ∷ []) behind bound (length old) (λ ys. retract (trm [] ys t) (p ys))
  retract_stands t next p stands =
      passing (node.Retract (expr_of xs t) next) next p (λ ys. retract (trm [] ys t) (p ys))
      (λ env. or_cmd (eval_of (expr_of xs t) env) (λ w. machine.Retract (place_in w)))
      (λ env. if_fit (map is (reverse env)) (trm [] xs t ∷ []) (machine.Retract (place_in (value (map is (reverse env)) (trm [] xs t)))))
      (λ env. refl) (λ env. refl)
      (λ ok. (both_true (no_sequence (trm [] xs t)) (is_plain_over procs (p xs)) ok).1)
      (λ ok env.
      ap (λ z. or_cmd z (λ w. machine.Retract (place_in w))) (means env xs t (both_true (no_sequence (trm [] xs t)) (is_plain_over procs (p xs)) ok).0).answer ∙
      one_fits (fits no_env (map is (reverse env)) (trm [] xs t)) (value (map is (reverse env)) (trm [] xs t)) (λ w. machine.Retract (place_in w)))
      stands

  pub write_stands : (t u : Term) (next : ℕ) (p : Whole) → Stands procs old behind (bound ++ []) next p →
      Stands procs (old ++ node.Write (expr_of xs t) (expr_of xs u) next ∷ []) behind bound (length old) (λ ys. write (trm [] ys t) (trm [] ys u) (p ys))
  write_stands t u next p stands =
      passing (node.Write (expr_of xs t) (expr_of xs u) next) next p (λ ys. write (trm [] ys t) (trm [] ys u) (p ys))
      (λ env. or_cmd (eval_of (expr_of xs t) env) (λ w. or_cmd (eval_of (expr_of xs u) env) (machine.Write (place_in w))))
      (λ env. if_fit (map is (reverse env)) (trm [] xs t ∷ trm [] xs u ∷ []) (machine.Write (place_in (value (map is (reverse env)) (trm [] xs t))) (value (map is (reverse env)) (trm [] xs u))))
      (λ env. refl) (λ env. refl)
      (λ ok. (both_true (no_sequence (trm [] xs u)) (is_plain_over procs (p xs)) (both_true (no_sequence (trm [] xs t)) (no_sequence (trm [] xs u) && is_plain_over procs (p xs)) ok).1).1)
      (λ ok env.
      let first = both_true (no_sequence (trm [] xs t)) (no_sequence (trm [] xs u) && is_plain_over procs (p xs)) ok in
      let second = both_true (no_sequence (trm [] xs u)) (is_plain_over procs (p xs)) first.1 in
      ap (λ z. or_cmd z (λ w. or_cmd (eval_of (expr_of xs u) env) (machine.Write (place_in w)))) (means env xs t first.0).answer ∙
      ap (λ z. or_cmd (if_fits (fits no_env (map is (reverse env)) (trm [] xs t)) (value (map is (reverse env)) (trm [] xs t))) (λ w. or_cmd z (machine.Write (place_in w)))) (means env xs u second.0).answer ∙
      two_fit (fits no_env (map is (reverse env)) (trm [] xs t)) (fits no_env (map is (reverse env)) (trm [] xs u)) (value (map is (reverse env)) (trm [] xs t)) (value (map is (reverse env)) (trm [] xs u)) (λ w. machine.Write (place_in w)))
      stands

  pub alloc_stands : (ts : List Term) (next : ℕ) (x : List ℕ) (p : Whole) → Stands procs old behind (bound ++ x ∷ []) next p →
      Stands procs (old ++ node.Alloc (map (expr_of xs) ts) next ∷ []) behind bound (length old) (λ ys. alloc (map (trm [] ys) ts) (p (x ∷ ys)))
  alloc_stands ts next x p stands =
      binding (node.Alloc (map (expr_of xs) ts) next) next x p (λ ys. alloc (map (trm [] ys) ts) (p (x ∷ ys)))
      (λ env. or_cmds (all_of env (map (expr_of xs) ts)) machine.Alloc)
      (λ env. if_fit (map is (reverse env)) (map (trm [] xs) ts) (machine.Alloc (map (value (map is (reverse env))) (map (trm [] xs) ts))))
      (λ env. refl) (λ env. refl)
      (λ ok. (both_true (no_sequences (map (trm [] xs) ts)) (is_plain_over procs (p (x ∷ xs))) ok).1)
      (λ ok env.
      ap (λ z. or_cmds z machine.Alloc) (all_means env xs ts (both_true (no_sequences (map (trm [] xs) ts)) (is_plain_over procs (p (x ∷ xs))) ok).0) ∙
      all_fitting (all_fit (map is (reverse env)) (map (trm [] xs) ts)) (map (value (map is (reverse env))) (map (trm [] xs) ts)) machine.Alloc)
      stands

  -- a call: the name of its callee is the one with this number
  pub call_stands : (f : List ℕ) (ts : List Term) (next : ℕ) (x : List ℕ) (p : Whole) → Stands procs old behind (bound ++ x ∷ []) next p →
      Stands procs (old ++ node.Call (number_in procs f) (map (expr_of xs) ts) next ∷ []) behind bound (length old) (λ ys. call f (map (trm [] ys) ts) (p (x ∷ ys)))
  call_stands f ts next x p stands ok env =
      let parts = both_true (is_some (position 0 procs f)) (no_sequences (map (trm [] xs) ts) && is_plain_over procs (p (x ∷ xs))) ok in
      let inner = both_true (no_sequences (map (trm [] xs) ts)) (is_plain_over procs (p (x ∷ xs))) parts.1 in
      let n : Node = node.Call (number_in procs f) (map (expr_of xs) ts) next in
      let vs : List Val = map is (reverse env) in
      let c : Cmd = or_cmds (all_of env (map (expr_of xs) ts)) (machine.Call f) in
      let d : Cmd = if_fit vs (map (trm [] xs) ts) (machine.Call f (map (value vs) (map (trm [] xs) ts))) in
      let same : c ≡ d = ap (λ z. or_cmds z (machine.Call f)) (all_means env xs ts inner.0) ∙ all_fitting (all_fit vs (map (trm [] xs) ts)) (map (value vs) (map (trm [] xs) ts)) (machine.Call f) in
      meaning_last procs old n env ∙
      ap (λ z. calling z (all_of env (map (expr_of xs) ts)) (λ w. meaning procs old next (env ++ w ∷ []))) (named_at procs f parts.0) ∙
      ap (λ z. Plain z (λ w. meaning procs old next (env ++ w ∷ []))) same ∙
      ap (Plain d) (fun_ext (goes_on procs old (n ∷ []) behind bound ready env next x p stands inner.1))

  -- a body whose value goes to its caller
  alone : (i : ℕ) (q : Whole) → Stands procs old Caller bound i q → is_plain_over procs (q xs) ≡ true → (env : List Value) → meaning procs old i env ≡ closed (map is (reverse env)) (q xs)
  alone i q stands ok env = stands ok env ∙ and_then_ended (closed (map is (reverse env)) (q xs))

  -- an atomic block, where its body stands
  pub atomic_stands : (s : Sort) (first next : ℕ) (x : List ℕ) (q p : Whole) → Stands procs old Caller bound first q → Stands procs old behind (bound ++ x ∷ []) next p →
      Stands procs (old ++ node.Atomic first next ∷ []) behind bound (length old) (λ ys. atomic s (q ys) (p (x ∷ ys)))
  atomic_stands s first next x q p body stands ok env =
      let parts = both_true (is_plain_over procs (q xs)) (is_plain_over procs (p (x ∷ xs))) ok in
      let n : Node = node.Atomic first next in
      meaning_last procs old n env ∙
      ap (λ z. Block z (λ w. meaning procs old next (env ++ w ∷ []))) (alone first q body parts.0 env) ∙
      ap (Block (closed (map is (reverse env)) (q xs))) (fun_ext (goes_on procs old (n ∷ []) behind bound ready env next x p stands parts.1))

  -- a fork, where its bodies stand
  pub fork_stands : (s r : Sort) (one other next : ℕ) (x y : List ℕ) (q u p : Whole) → Stands procs old Caller bound one q → Stands procs old Caller bound other u →
      Stands procs old behind (bound ++ x ∷ y ∷ []) next p →
      Stands procs (old ++ node.Fork one other next ∷ []) behind bound (length old) (λ ys. par s r (q ys) (u ys) (p (y ∷ x ∷ ys)))
  fork_stands s r one other next x y q u p left right stands ok env =
      let parts = both_true (is_plain_over procs (q xs)) (is_plain_over procs (u xs) && is_plain_over procs (p (y ∷ x ∷ xs))) ok in
      let later = both_true (is_plain_over procs (u xs)) (is_plain_over procs (p (y ∷ x ∷ xs))) parts.1 in
      let n : Node = node.Fork one other next in
      let vs : List Val = map is (reverse env) in
      meaning_last procs old n env ∙
      ap (λ z. Fork z (meaning procs old other env) (λ w k. meaning procs old next (env ++ w ∷ k ∷ []))) (alone one q left parts.0 env) ∙
      ap (λ z. Fork (closed vs (q xs)) z (λ w k. meaning procs old next (env ++ w ∷ k ∷ []))) (alone other u right later.0 env) ∙
      ap (Fork (closed vs (q xs)) (closed vs (u xs))) (fun_ext (λ w. fun_ext (goes_on_two procs old (n ∷ []) behind bound ready env next x y p stands later.1 w)))

  -- ---- ends

  big_then : (b : Bool) (w : Value) (f g : Value → Prog) → f w ≡ g w → or_big (if_fits b w) f ≡ and_then (cond b (Ended w) FrontBig) g
  big_then true w f g h = h
  big_then false w f g h = refl

  end_means : (go : ℕ → Means) (env : List Value) (t : Term) → means_at procs go (end_node bound behind (expr_of xs t)) env ≡ or_big (eval_of (expr_of xs t) env) (follows go bound behind env)
  end_means go env t = at behind
    where
      at : (k : Behind) → means_at procs go (end_node bound k (expr_of xs t)) env ≡ or_big (eval_of (expr_of xs t) env) (follows go bound k env)
      at Caller = refl
      at (Inside keep next) = refl

  pub ret_stands : (t : Term) → Stands procs (old ++ end_node bound behind (expr_of xs t) ∷ []) behind bound (length old) (λ ys. ret (trm [] ys t))
  ret_stands t ok env =
      let n : Node = end_node bound behind (expr_of xs t) in
      let vs : List Val = map is (reverse env) in
      meaning_last procs old n env ∙ end_means (meaning procs old) env t ∙
      ap (λ z. or_big z (follows (meaning procs old) bound behind env)) (means env xs t ok).answer ∙
      big_then (fits no_env vs (trm [] xs t)) (value vs (trm [] xs t)) (follows (meaning procs old) bound behind env) (follows (meaning procs (old ++ n ∷ [])) bound behind env)
      (ap (λ g. g (value vs (trm [] xs t))) (sym (follows_same procs old (n ∷ []) bound behind env ready)))

  either : (b : Bool) (w : Bool) (v : Value) (f : Value → Prog) (p q : Prog) (g : Value → Prog) → bool_in v ≡ w → f v ≡ cond w (and_then p g) (and_then q g) →
      or_big (if_fits b v) f ≡ and_then (cond b (cond w p q) FrontBig) g
  either true true v f p q g e h = h
  either true false v f p q g e h = h
  either false w v f p q g e h = refl

  pub test_stands : (t : Term) (i j : ℕ) (p q : Whole) → Stands procs old behind bound i p → Stands procs old behind bound j q →
      Stands procs (old ++ node.If (expr_of xs t) i j ∷ []) behind bound (length old) (λ ys. test (trm [] ys t) (p ys) (q ys))
  test_stands t i j p q stands_p stands_q ok env =
      let parts = both_true (no_sequence (trm [] xs t)) (is_plain_over procs (p xs) && is_plain_over procs (q xs)) ok in
      let inner = both_true (is_plain_over procs (p xs)) (is_plain_over procs (q xs)) parts.1 in
      let n : Node = node.If (expr_of xs t) i j in
      let vs : List Val = map is (reverse env) in
      let go : ℕ → Means = meaning procs old in
      let new : Value → Prog = follows (meaning procs (old ++ n ∷ [])) bound behind env in
      let same = follows_same procs old (n ∷ []) bound behind env ready in
      let left : go i env ≡ and_then (closed vs (p xs)) new = stands_p inner.0 env ∙ ap (and_then (closed vs (p xs))) (sym same) in
      let right : go j env ≡ and_then (closed vs (q xs)) new = stands_q inner.1 env ∙ ap (and_then (closed vs (q xs))) (sym same) in
      let w : Bool = bool_in (value vs (trm [] xs t)) in
      meaning_last procs old n env ∙
      ap (λ z. or_big z (λ x. cond (bool_in x) (go i env) (go j env))) (means env xs t parts.0).answer ∙
      either (fits no_env vs (trm [] xs t)) w (value vs (trm [] xs t)) (λ x. cond (bool_in x) (go i env) (go j env)) (closed vs (p xs)) (closed vs (q xs)) new refl
      (ap (λ z. cond w z (go j env)) left ∙ ap (cond w (and_then (closed vs (p xs)) new)) right)

-- ---- nodes that are added

module _ (procs : Names) (old more : List Node) (behind : Behind) (bound : Names) where
  pub behind_grown : (k : Behind) → IsBehind old bound k → IsBehind (old ++ more) bound k
  behind_grown Caller h = tt
  behind_grown (Inside keep next) h = (h.0, let n = h.1 in omega (arith, n, length-append old more))

  -- what stands behind a body stands so where more is bound
  pub behind_bound : (ns : Names) (k : Behind) → IsBehind old bound k → IsBehind old (bound ++ ns) k
  behind_bound ns Caller h = tt
  behind_bound ns (Inside keep next) h = (let k = h.0 in omega (arith, k, length-append bound ns), h.1)

  pub stands_grown : (i : ℕ) (p : Whole) → IsBehind old bound behind → i < length old → Stands procs old behind bound i p → Stands procs (old ++ more) behind bound i p
  stands_grown i p ready there stands ok env =
      meaning_grown procs old more i there env ∙ stands ok env ∙
      ap (and_then (closed (map is (reverse env)) (p (reverse bound)))) (sym (follows_same procs old more bound behind env ready))

  -- an inner body, and what stands behind it
  pub nest_stands : (s : Sort) (x : List ℕ) (next i : ℕ) (q p : Whole) → IsBehind old bound behind → next < length old → Stands procs (old ++ more) (Inside (length bound) next) bound i q →
      Stands procs old behind (bound ++ x ∷ []) next p → Stands procs (old ++ more) behind bound i (λ ys. nest s (q ys) (p (x ∷ ys)))
  nest_stands s x next i q p ready there inner stands ok env =
      let xs : Names = reverse bound in
      let vs : List Val = map is (reverse env) in
      let parts = both_true (is_plain_over procs (q xs)) (is_plain_over procs (p (x ∷ xs))) ok in
      let after_it : Value → Prog = follows (meaning procs (old ++ more)) bound behind env in
      let on : follows (meaning procs (old ++ more)) bound (Inside (length bound) next) env ≡ (λ w. and_then (closed (is w ∷ vs) (p (x ∷ xs))) after_it) = fun_ext (λ w.
      meaning_grown procs old more next there (take (length env - (length bound - length bound)) env ++ w ∷ []) ∙
      ap (λ (z : List Value). meaning procs old next (z ++ w ∷ [])) (take_all (length env - (length bound - length bound)) env (omega arith)) ∙
      goes_on procs old more behind bound ready env next x p stands parts.1 w) in
      inner parts.0 env ∙ ap (and_then (closed vs (q xs))) on ∙ sym (and_then_and_then (closed vs (q xs)) (λ w. closed (is w ∷ vs) (p (x ∷ xs))) after_it)
