-- The names of terms and assertions that are in order: each free one is a variable in scope, or a root's.
use Rattle.std.proofs.Common.{◌≡◌, ℕ, suc, Bool, true, false, ◌&&◌, is_some, All, List, [], ◌∷◌, map, Option, Some, None, refl, sym, ◌∙◌, subst}
use Rattle.std.proofs.lemmas.List.Elements.{All-head, All-tail, All-cons, All-nil}
use Rattle.std.specs.Prelude.{bytes_eq, if◌then◌else◌, option_map}
use Rattle.tht_tree.specs.declared.plain.Sort.{Sort}
use Rattle.tht_tree.specs.declared.plain.Sort.TheVariants as sort
use Rattle.tht_tree.specs.declared.state.Local.TheVariants.{Variable}
use Rattle.tht_tree.specs.declared.term.Term.{Term, roll-Term}
use Rattle.tht_tree.specs.declared.term.Term.TheOpen.{Term-F}
use Rattle.tht_tree.specs.declared.term.Term.TheOpen as f
use Rattle.tht_tree.specs.declared.assn.Assn.{Assn}
use Rattle.tht_tree.specs.declared.assn.Assn.TheVariants as a
use Rattle.tht_tree.specs.Syntax.{Names, position, Trm, lit, free, bound, len, off, neg, op, named, trm_at, trm}
use Rattle.tht_tree.specs.Normal.Putting.{put}
use Rattle.tht_tree.specs.Rules.Context.{Scope, with_local}
use Rattle.tht_tree.specs.Rules.Scoping.{is_of, is_storable_sort, variable_sort, name_sort, both_of, equation_sort, cons_sort, len_sort, offset_sort, not_sort, sort_at, sort_of}
use Rattle.tht_tree.proofs.TermInduction.{fold_level, OfParts, by_parts}
use Rattle.tht_logic.specs.Assertions.{asn}
use Rattle.assn_laws.specs.AssertionLaws.{EachName, EachFree}
use Rattle.tht_logic.specs.Rules.Scoped.{Signatures}
use Rattle.tht_logic.specs.Rules.Scoped as scoped
use Rattle.assn_laws.proofs.AssnLevels.{Star, Exists, Either, Star-is, Exists-is, Either-is}
use Rattle.assn_laws.proofs.Nameless.{asn-Emp, asn-Fact, asn-Own, asn-Shared, asn-Star, asn-Inst, asn-Exists, asn-Either}
use Rattle.tht_logic.proofs.NamesInTerms.{all_free, name_in, bind_names}
use Rattle.assn_laws.proofs.PuttingNames.{position_behind}
use Rattle.assn_laws.proofs.ScopedLevels.{scoped-Fact, scoped-Own, scoped-Shared, scoped-Star, scoped-Inst, scoped-Exists, scoped-Either}

pub both_true : (b c : Bool) → (b && c) ≡ true → (b ≡ true) × (c ≡ true)
both_true true c e = (refl, e)
both_true false c e = cc

-- a sort that is there
abbrev pub Sorted : Option Sort → Type 0
Sorted o = (s : Sort) × (o ≡ Some s)

pub of_is : (r : Sort) (o : Option Sort) → is_of r o ≡ true → Sorted o
of_is r None e = cc
of_is r (Some s) e = (s, refl)

pub storable_is : (o : Option Sort) → is_storable_sort o ≡ true → Sorted o
storable_is None e = cc
storable_is (Some s) e = (s, refl)

pub some_is : (o : Option Sort) → is_some o ≡ true → Sorted o
some_is None e = cc
some_is (Some s) e = (s, refl)

pub both_sorted : (r : Sort) (x y : Option Sort) (q z : Sort) → both_of r x y q ≡ Some z → Sorted x × Sorted y
both_sorted r (Some s) (Some u) q z e = ((s, refl), (u, refl))
both_sorted r (Some s) None q z e = cc
both_sorted r None y q z e = cc

pub equation_sorted : (x y : Option Sort) (z : Sort) → equation_sort x y ≡ Some z → Sorted x × Sorted y
equation_sorted (Some s) (Some u) z e = ((s, refl), (u, refl))
equation_sorted (Some s) None z e = cc
equation_sorted None y z e = cc

pub cons_sorted : (x y : Option Sort) (z : Sort) → cons_sort x y ≡ Some z → Sorted x × Sorted y
cons_sorted (Some sort.Nat) (Some sort.Seq) z e = ((sort.Nat, refl), (sort.Seq, refl))
cons_sorted _ _ z e = cc

pub len_sorted : (x : Option Sort) (z : Sort) → len_sort x ≡ Some z → Sorted x
len_sorted (Some sort.Seq) z e = (sort.Seq, refl)
len_sorted _ z e = cc

pub offset_sorted : (x : Option Sort) (z : Sort) → offset_sort x ≡ Some z → Sorted x
offset_sorted (Some sort.Loc) z e = (sort.Loc, refl)
offset_sorted _ z e = cc

pub not_sorted : (x : Option Sort) (z : Sort) → not_sort x ≡ Some z → Sorted x
not_sorted (Some sort.Bool) z e = (sort.Bool, refl)
not_sorted _ z e = cc

-- ---- terms

module _ (roots : Names) (scope : Scope) where
  -- a name that has a sort
  abbrev pub IsKnown : List ℕ → Type 0
  IsKnown x = Sorted (name_sort (variable_sort (scope x)) (position 0 roots x))

  abbrev Known : Term → Type 0
  Known u = Sorted (sort_of roots scope u) → EachName IsKnown (all_free u)

  known_step : (x : Term-F Term) → OfParts Known x → Known (roll-Term x)
  known_step (f.Num n) q k = subst (EachName IsKnown) (sym (fold_level (trm_at [] []) (f.Num n))) tt
  known_step f.True q k = subst (EachName IsKnown) (sym (fold_level (trm_at [] []) f.True)) tt
  known_step f.False q k = subst (EachName IsKnown) (sym (fold_level (trm_at [] []) f.False)) tt
  known_step f.Null q k = subst (EachName IsKnown) (sym (fold_level (trm_at [] []) f.Null)) tt
  known_step f.Nil q k = subst (EachName IsKnown) (sym (fold_level (trm_at [] []) f.Nil)) tt
  known_step f.Unit q k = subst (EachName IsKnown) (sym (fold_level (trm_at [] []) f.Unit)) tt
  known_step (f.Var y) q k = subst (EachName IsKnown) (sym (fold_level (trm_at [] []) (f.Var y))) (k.0, sym (fold_level (sort_at roots scope) (f.Var y)) ∙ k.1)
  known_step (f.Len a) q k = subst (EachName IsKnown) (sym (fold_level (trm_at [] []) (f.Len a))) (q (len_sorted (sort_of roots scope a) k.0 (sym (fold_level (sort_at roots scope) (f.Len a)) ∙ k.1)))
  known_step (f.Offset a j) q k = subst (EachName IsKnown) (sym (fold_level (trm_at [] []) (f.Offset a j))) (q (offset_sorted (sort_of roots scope a) k.0 (sym (fold_level (sort_at roots scope) (f.Offset a j)) ∙ k.1)))
  known_step (f.Not a) q k = subst (EachName IsKnown) (sym (fold_level (trm_at [] []) (f.Not a))) (q (not_sorted (sort_of roots scope a) k.0 (sym (fold_level (sort_at roots scope) (f.Not a)) ∙ k.1)))
  known_step (f.Mul a b) q k =
      let s : Sorted (sort_of roots scope a) × Sorted (sort_of roots scope b) = both_sorted sort.Nat (sort_of roots scope a) (sort_of roots scope b) sort.Nat k.0 (sym (fold_level (sort_at roots scope) (f.Mul a b)) ∙ k.1) in
      subst (EachName IsKnown) (sym (fold_level (trm_at [] []) (f.Mul a b))) (q.0 s.0, q.1 s.1)
  known_step (f.Add a b) q k =
      let s : Sorted (sort_of roots scope a) × Sorted (sort_of roots scope b) = both_sorted sort.Nat (sort_of roots scope a) (sort_of roots scope b) sort.Nat k.0 (sym (fold_level (sort_at roots scope) (f.Add a b)) ∙ k.1) in
      subst (EachName IsKnown) (sym (fold_level (trm_at [] []) (f.Add a b))) (q.0 s.0, q.1 s.1)
  known_step (f.Sub a b) q k =
      let s : Sorted (sort_of roots scope a) × Sorted (sort_of roots scope b) = both_sorted sort.Nat (sort_of roots scope a) (sort_of roots scope b) sort.Nat k.0 (sym (fold_level (sort_at roots scope) (f.Sub a b)) ∙ k.1) in
      subst (EachName IsKnown) (sym (fold_level (trm_at [] []) (f.Sub a b))) (q.0 s.0, q.1 s.1)
  known_step (f.Cat a b) q k =
      let s : Sorted (sort_of roots scope a) × Sorted (sort_of roots scope b) = both_sorted sort.Seq (sort_of roots scope a) (sort_of roots scope b) sort.Seq k.0 (sym (fold_level (sort_at roots scope) (f.Cat a b)) ∙ k.1) in
      subst (EachName IsKnown) (sym (fold_level (trm_at [] []) (f.Cat a b))) (q.0 s.0, q.1 s.1)
  known_step (f.Lt a b) q k =
      let s : Sorted (sort_of roots scope a) × Sorted (sort_of roots scope b) = both_sorted sort.Nat (sort_of roots scope a) (sort_of roots scope b) sort.Bool k.0 (sym (fold_level (sort_at roots scope) (f.Lt a b)) ∙ k.1) in
      subst (EachName IsKnown) (sym (fold_level (trm_at [] []) (f.Lt a b))) (q.0 s.0, q.1 s.1)
  known_step (f.Le a b) q k =
      let s : Sorted (sort_of roots scope a) × Sorted (sort_of roots scope b) = both_sorted sort.Nat (sort_of roots scope a) (sort_of roots scope b) sort.Bool k.0 (sym (fold_level (sort_at roots scope) (f.Le a b)) ∙ k.1) in
      subst (EachName IsKnown) (sym (fold_level (trm_at [] []) (f.Le a b))) (q.0 s.0, q.1 s.1)
  known_step (f.And a b) q k =
      let s : Sorted (sort_of roots scope a) × Sorted (sort_of roots scope b) = both_sorted sort.Bool (sort_of roots scope a) (sort_of roots scope b) sort.Bool k.0 (sym (fold_level (sort_at roots scope) (f.And a b)) ∙ k.1) in
      subst (EachName IsKnown) (sym (fold_level (trm_at [] []) (f.And a b))) (q.0 s.0, q.1 s.1)
  known_step (f.Or a b) q k =
      let s : Sorted (sort_of roots scope a) × Sorted (sort_of roots scope b) = both_sorted sort.Bool (sort_of roots scope a) (sort_of roots scope b) sort.Bool k.0 (sym (fold_level (sort_at roots scope) (f.Or a b)) ∙ k.1) in
      subst (EachName IsKnown) (sym (fold_level (trm_at [] []) (f.Or a b))) (q.0 s.0, q.1 s.1)
  known_step (f.Imp a b) q k =
      let s : Sorted (sort_of roots scope a) × Sorted (sort_of roots scope b) = both_sorted sort.Bool (sort_of roots scope a) (sort_of roots scope b) sort.Bool k.0 (sym (fold_level (sort_at roots scope) (f.Imp a b)) ∙ k.1) in
      subst (EachName IsKnown) (sym (fold_level (trm_at [] []) (f.Imp a b))) (q.0 s.0, q.1 s.1)
  known_step (f.Cons a b) q k =
      let s : Sorted (sort_of roots scope a) × Sorted (sort_of roots scope b) = cons_sorted (sort_of roots scope a) (sort_of roots scope b) k.0 (sym (fold_level (sort_at roots scope) (f.Cons a b)) ∙ k.1) in
      subst (EachName IsKnown) (sym (fold_level (trm_at [] []) (f.Cons a b))) (q.0 s.0, q.1 s.1)
  known_step (f.Eq a b) q k =
      let s : Sorted (sort_of roots scope a) × Sorted (sort_of roots scope b) = equation_sorted (sort_of roots scope a) (sort_of roots scope b) k.0 (sym (fold_level (sort_at roots scope) (f.Eq a b)) ∙ k.1) in
      subst (EachName IsKnown) (sym (fold_level (trm_at [] []) (f.Eq a b))) (q.0 s.0, q.1 s.1)

  -- each name of a term that has a sort has one
  pub known_names : (u : Term) → Sorted (sort_of roots scope u) → EachName IsKnown (all_free u)
  known_names = by_parts Known known_step

-- what is known of the names of a term, of what stands for them
module _ (K R : List ℕ → Type 0) (by : List ℕ → Trm) (names : (x : List ℕ) → K x → EachName R (by x)) where
  pub put_known : (u : Trm) → EachName K u → EachName R (put by u)
  put_known (lit v) k = tt
  put_known (free x) k = names x k
  put_known (bound j) k = tt
  put_known (len b) k = put_known b k
  put_known (off j b) k = put_known b k
  put_known (neg b) k = put_known b k
  put_known (op o b c) k = (put_known b k.0, put_known c k.1)

-- ---- assertions

module _ (roots : Names) (instance : Signatures) (R : List ℕ → Type 0) (typed : (scope : Scope) (n : List ℕ) (us : List Term) → instance scope n us ≡ true → All (λ u. is_some (sort_of roots scope u) ≡ true) us) where
  -- R holds of what is in scope and not bound here
  abbrev pub Tells : Scope → Names → Type 0
  Tells scope xs = (x : List ℕ) → position 0 xs x ≡ None → IsKnown roots scope x → R x

  name_told : (scope : Scope) (xs : Names) → Tells scope xs → (x : List ℕ) (o : Option ℕ) → position 0 xs x ≡ o → IsKnown roots scope x → EachName R (named [] x o)
  name_told scope xs tells x (Some j) e k = tt
  name_told scope xs tells x None e k = tells x e k

  pub term_told : (scope : Scope) (xs : Names) → Tells scope xs → (u : Term) → Sorted (sort_of roots scope u) → EachName R (trm [] xs u)
  term_told scope xs tells u s =
      subst (EachName R) (sym (bind_names [] xs u))
      (put_known (IsKnown roots scope) R (name_in [] xs) (λ x k. name_told scope xs tells x (position 0 xs x) refl k) (all_free u) (known_names roots scope u s))

  terms_told : (scope : Scope) (xs : Names) → Tells scope xs → (us : List Term) → All (λ u. is_some (sort_of roots scope u) ≡ true) us → All (EachName R) (map (trm [] xs) us)
  terms_told scope xs tells [] s = All-nil (EachName R)
  terms_told scope xs tells (u ∷ us) s =
      All-cons (EachName R) (trm [] xs u) (map (trm [] xs) us)
      (term_told scope xs tells u (some_is (sort_of roots scope u) (All-head (λ z. is_some (sort_of roots scope z) ≡ true) u us s)))
      (terms_told scope xs tells us (All-tail (λ z. is_some (sort_of roots scope z) ≡ true) u us s))

  -- behind one binder more
  pub tells_deeper : (scope : Scope) (xs : Names) → Tells scope xs → (x : List ℕ) (r : Sort) → Tells (with_local scope x (Variable r)) (x ∷ xs)
  tells_deeper scope xs tells x r y = pick (bytes_eq x y)
    where
      none_before : (o : Option ℕ) → option_map suc o ≡ None → o ≡ None
      none_before None e = refl
      none_before (Some j) e = cc

      pick : (c : Bool) → (if c then Some 0 else position 1 xs y) ≡ None
          → Sorted (name_sort (variable_sort (if c then Some (Variable r) else scope y)) (position 0 roots y)) → R y
      pick true e k = cc
      pick false e k = tells y (none_before (position 0 xs y) (sym (position_behind 0 xs y) ∙ e)) k

  abbrev pub Told : Assn → Type 0
  Told p = (scope : Scope) (xs : Names) → Tells scope xs → scoped.assn roots instance p scope ≡ true → EachFree R (asn [] xs p)

  cell_told : (scope : Scope) (xs : Names) → Tells scope xs → (t u : Term) → scoped.is_cell roots scope t u ≡ true → EachName R (trm [] xs t) × EachName R (trm [] xs u)
  cell_told scope xs tells t u e =
      let b : (is_of sort.Loc (sort_of roots scope t) ≡ true) × (is_storable_sort (sort_of roots scope u) ≡ true) = both_true (is_of sort.Loc (sort_of roots scope t)) (is_storable_sort (sort_of roots scope u)) e in
      (term_told scope xs tells t (of_is sort.Loc (sort_of roots scope t) b.0), term_told scope xs tells u (storable_is (sort_of roots scope u) b.1))

  of_emp : Told a.Emp
  of_emp scope xs tells e = subst (EachFree R) (sym (asn-Emp [] xs)) tt

  of_fact : (u : Term) → Told (a.Fact u)
  of_fact u scope xs tells e =
      subst (EachFree R) (sym (asn-Fact [] xs u)) (term_told scope xs tells u (of_is sort.Bool (sort_of roots scope u) (sym (scoped-Fact roots instance u scope) ∙ e)))

  of_own : (t u : Term) → Told (a.Own t u)
  of_own t u scope xs tells e = subst (EachFree R) (sym (asn-Own [] xs t u)) (cell_told scope xs tells t u (sym (scoped-Own roots instance t u scope) ∙ e))

  of_shared : (t u : Term) → Told (a.Shared t u)
  of_shared t u scope xs tells e = subst (EachFree R) (sym (asn-Shared [] xs t u)) (cell_told scope xs tells t u (sym (scoped-Shared roots instance t u scope) ∙ e))

  of_inst : (n : List ℕ) (us : List Term) → Told (a.Inst n us)
  of_inst n us scope xs tells e =
      subst (EachFree R) (sym (asn-Inst [] xs n us)) (terms_told scope xs tells us (typed scope n us (sym (scoped-Inst roots instance n us scope) ∙ e)))

  of_star : (p q : Assn) → Told p → Told q → Told (a.Star p q)
  of_star p q f g scope xs tells e =
      let b : (scoped.assn roots instance p scope ≡ true) × (scoped.assn roots instance q scope ≡ true)
      = both_true (scoped.assn roots instance p scope) (scoped.assn roots instance q scope) (sym (scoped-Star roots instance p q scope) ∙ e) in
      subst (EachFree R) (sym (asn-Star [] xs p q)) (f scope xs tells b.0, g scope xs tells b.1)

  of_either : (p q : Assn) → Told p → Told q → Told (a.Either p q)
  of_either p q f g scope xs tells e =
      let b : (scoped.assn roots instance p scope ≡ true) × (scoped.assn roots instance q scope ≡ true)
      = both_true (scoped.assn roots instance p scope) (scoped.assn roots instance q scope) (sym (scoped-Either roots instance p q scope) ∙ e) in
      subst (EachFree R) (sym (asn-Either [] xs p q)) (f scope xs tells b.0, g scope xs tells b.1)

  of_exists : (x : List ℕ) (r : Sort) (p : Assn) → Told p → Told (a.Exists x r p)
  of_exists x r p f scope xs tells e =
      subst (EachFree R) (sym (asn-Exists [] xs x r p))
      (f (with_local scope x (Variable r)) (x ∷ xs) (tells_deeper scope xs tells x r) (sym (scoped-Exists roots instance x r p scope) ∙ e))

  -- of each free name of an assertion in order R holds, where it holds of what is in scope
  pub free_told : (p : Assn) → Told p
  free_told a.Emp = of_emp
  free_told (a.Fact u) = of_fact u
  free_told (a.Own t u) = of_own t u
  free_told (a.Shared t u) = of_shared t u
  free_told (Star p q) = subst Told (Star-is p q) (of_star p q (free_told p) (free_told q))
  free_told (a.Inst n us) = of_inst n us
  free_told (Exists x r p) = subst Told (Exists-is x r p) (of_exists x r p (free_told p))
  free_told (Either p q) = subst Told (Either-is p q) (of_either p q (free_told p) (free_told q))
