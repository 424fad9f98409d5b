-- What is in order stays in order where terms of the same sorts are put in.
use Rattle.std.proofs.Common.{◌≡◌, ℕ, suc, ◌≤◌, le_trans, le_of_eq, Bool, true, false, ◌&&◌, arith, All, List, [], ◌∷◌, map, Option, Some, None, refl, sym, ◌∙◌, ap, subst}
use Rattle.std.proofs.lemmas.List.Elements.{All-head, All-tail}
use Rattle.std.specs.Prelude.{bytes_eq, option_map, if◌then◌else◌}
use Rattle.tht_tree.specs.declared.plain.Sort.{Sort}
use Rattle.tht_tree.specs.declared.plain.Sort.TheVariants as sort
use Rattle.tht_tree.specs.declared.state.Local.TheVariants.{Variable}
use Rattle.tht_tree.specs.declared.term.Term.{Term}
use Rattle.tht_tree.specs.declared.term.Term.TheVariants as t
use Rattle.tht_tree.specs.declared.assn.Assn.{Assn}
use Rattle.tht_tree.specs.declared.assn.Assn.TheVariants as a
use Rattle.tht_tree.specs.Syntax.{Names, position, Trm, named, trm_at, trm}
use Rattle.tht_tree.specs.Normal.Putting.{Puts, put_name, put_in}
use Rattle.tht_tree.specs.Rules.Context.{Scope, with_local}
use Rattle.tht_tree.specs.Rules.Scoping.{is_of, is_storable_sort, variable_sort, name_sort, sort_at, sort_of}
use Rattle.tht_tree.proofs.TermFolds.{at-Var}
use Rattle.tht_logic.specs.Assertions.{asn}
use Rattle.tht_logic.specs.Putting.{bound_name, zeros, zeros_made, renaming, put_inside, put_in_assn}
use Rattle.tht_logic.specs.Rules.Scoped.{Signatures, HaveTheSorts}
use Rattle.tht_logic.specs.Rules.Scoped as scoped
use Rattle.assn_laws.specs.AssertionLaws.{EachName, EachFree}
use Rattle.assn_laws.proofs.AssnLevels.{Star, Exists, Either, Star-is, Exists-is, Either-is}
use Rattle.assn_laws.proofs.Nameless.{asn-Fact, asn-Own, asn-Shared, asn-Star, asn-Inst, asn-Exists, asn-Either, put-Emp, put-Fact, put-Own, put-Shared, put-Star, put-Inst, put-Exists, put-Either, put_whole}
use Rattle.tht_logic.proofs.NamesInTerms.{all_free, name_in, bind_names}
use Rattle.assn_laws.proofs.FreeNames.{each_name_map, names_put, Clean, all_clean}
use Rattle.assn_laws.proofs.BoundNames.{same_itself, zeros_of_bound, fewer_zeros}
use Rattle.assn_laws.proofs.PuttingNames.{position_behind}
use Rattle.assn_laws.proofs.ScopedLevels.{scoped-Emp, scoped-Fact, scoped-Own, scoped-Shared, scoped-Star, scoped-Inst, scoped-Exists, scoped-Either}
use Rattle.assn_laws.proofs.KnownNames.{both_true}
use Rattle.assn_laws.proofs.SortsByNames.{sort_named, put_sorted, sort_stays}

pub both_hold : (b c : Bool) → b ≡ true → c ≡ true → (b && c) ≡ true
both_hold b c e f = (λ i. e i && f i)

-- each name that has a sort stands for a term of that sort
abbrev pub Keep : Names → Puts → Scope → Scope → Type 0
Keep roots by old new = (x : List ℕ) (s : Sort) → sort_named roots old x ≡ Some s → sort_of roots new (put_name by x) ≡ Some s

module _ (roots : Names) (K : List ℕ → Type 0) where
  -- K holds of a name, if it is not bound here
  abbrev pub Free : Names → List ℕ → Type 0
  Free xs x = EachName K (name_in [] xs x)

  -- Inside binders of the names xs: each name stands for a term of its sort, in which no name has more than d zeros.
  pub record Fit (d : ℕ) (by : Puts) (old new : Scope) (xs : Names) : Type 0 where
    pub keep : (x : List ℕ) → Free xs x → (s : Sort) → sort_named roots old x ≡ Some s → sort_of roots new (put_name by x) ≡ Some s
    pub below : (x : List ℕ) → Free xs x → EachName (λ y. zeros y ≤ d) (all_free (put_name by x))

  variable_is : (r s : Sort) (o : Option ℕ) → name_sort (Some r) o ≡ Some s → Some r ≡ Some s
  variable_is r s o e = e

  module _ (d : ℕ) (by : Puts) (old new : Scope) (xs : Names) (fit : Fit d by old new xs) (x : List ℕ) (r : Sort) where
    abbrev old_in : Scope
    old_in = with_local old x (Variable r)

    abbrev new_in : Scope
    new_in = with_local new (bound_name d) (Variable r)

    known_before : (y : List ℕ) → EachName K (named [] y (position 1 xs y)) → Free xs y
    known_before y k = from (position 0 xs y) (subst (λ o. EachName K (named [] y o)) (position_behind 0 xs y) k)
      where
        from : (o : Option ℕ) → EachName K (named [] y (option_map suc o)) → EachName K (named [] y o)
        from (Some j) q = tt
        from None q = q

    -- a name of fewer zeros is not hidden
    in_sight : (z : List ℕ) → zeros z ≤ d → (s : Sort) → sort_named roots new z ≡ Some s → sort_named roots new_in z ≡ Some s
    in_sight z l s e = ap (λ c. name_sort (variable_sort (if c then Some (Variable r) else new z)) (position 0 roots z)) (fewer_zeros d z l) ∙ e

    itself : sort_of roots new_in (t.Var (bound_name d)) ≡ Some r
    itself =
        at-Var (Option Sort) (sort_at roots new_in) (bound_name d)
        ∙ ap (λ c. name_sort (variable_sort (if c then Some (Variable r) else new (bound_name d))) (position 0 roots (bound_name d))) (same_itself d)

    keep_in : (y : List ℕ) → Free (x ∷ xs) y → (s : Sort) → sort_named roots old_in y ≡ Some s → sort_of roots new_in (put_name (renaming x d by) y) ≡ Some s
    keep_in y k s e = pick (bytes_eq x y) k e
      where
        pick : (c : Bool) → EachName K (named [] y (if c then Some 0 else position 1 xs y)) → name_sort (variable_sort (if c then Some (Variable r) else old y)) (position 0 roots y) ≡ Some s
            → sort_of roots new_in (if c then t.Var (bound_name d) else put_name by y) ≡ Some s
        pick true q g = itself ∙ variable_is r s (position 0 roots y) g
        pick false q g =
            let free : Free xs y = known_before y q in
            sort_stays roots new new_in (λ z. zeros z ≤ d) in_sight (put_name by y) (fit.below y free) s (fit.keep y free s g)

    below_in : (y : List ℕ) → Free (x ∷ xs) y → EachName (λ z. zeros z ≤ suc d) (all_free (put_name (renaming x d by) y))
    below_in y k = pick (bytes_eq x y) k
      where
        pick : (c : Bool) → EachName K (named [] y (if c then Some 0 else position 1 xs y)) → EachName (λ z. zeros z ≤ suc d) (all_free (if c then t.Var (bound_name d) else put_name by y))
        pick true q = subst (EachName (λ z. zeros z ≤ suc d)) (sym (at-Var Trm (trm_at [] []) (bound_name d))) (le_of_eq (zeros_of_bound d))
        pick false q = each_name_map (λ z. zeros z ≤ d) (λ z. zeros z ≤ suc d) (λ z l. le_trans l (omega arith)) (all_free (put_name by y)) (fit.below y (known_before y q))

    pub fit_in : Fit (suc d) (renaming x d by) old_in new_in (x ∷ xs)
    fit_in = record { keep = keep_in; below = below_in }

  module _ (d : ℕ) (by : Puts) (old new : Scope) (xs : Names) (fit : Fit d by old new xs) where
    pub put_sort : (u : Term) → EachName K (trm [] xs u) → (s : Sort) → sort_of roots old u ≡ Some s → sort_of roots new (put_in by u) ≡ Some s
    put_sort u k s e = put_sorted roots old new (Free xs) by fit.keep u (names_put K (name_in [] xs) (all_free u) (subst (EachName K) (bind_names [] xs u) k)) s e

    sort_kept : (r : Sort) (u : Term) → EachName K (trm [] xs u) → is_of r (sort_of roots old u) ≡ true → is_of r (sort_of roots new (put_in by u)) ≡ true
    sort_kept r u k e = from (sort_of roots old u) refl e
      where
        from : (o : Option Sort) → sort_of roots old u ≡ o → is_of r o ≡ true → is_of r (sort_of roots new (put_in by u)) ≡ true
        from None g q = cc
        from (Some s) g q = ap (is_of r) (put_sort u k s g) ∙ q

    storable_kept : (u : Term) → EachName K (trm [] xs u) → is_storable_sort (sort_of roots old u) ≡ true → is_storable_sort (sort_of roots new (put_in by u)) ≡ true
    storable_kept u k e = from (sort_of roots old u) refl e
      where
        from : (o : Option Sort) → sort_of roots old u ≡ o → is_storable_sort o ≡ true → is_storable_sort (sort_of roots new (put_in by u)) ≡ true
        from None g q = cc
        from (Some s) g q = ap is_storable_sort (put_sort u k s g) ∙ q

    cell_kept : (u v : Term) → EachName K (trm [] xs u) × EachName K (trm [] xs v) → scoped.is_cell roots old u v ≡ true → scoped.is_cell roots new (put_in by u) (put_in by v) ≡ true
    cell_kept u v k e =
        let b : (is_of sort.Loc (sort_of roots old u) ≡ true) × (is_storable_sort (sort_of roots old v) ≡ true) = both_true (is_of sort.Loc (sort_of roots old u)) (is_storable_sort (sort_of roots old v)) e in
        both_hold (is_of sort.Loc (sort_of roots new (put_in by u))) (is_storable_sort (sort_of roots new (put_in by v))) (sort_kept sort.Loc u k.0 b.0) (storable_kept v k.1 b.1)

    sorts_kept : (us : List Term) → All (EachName K) (map (trm [] xs) us) → HaveTheSorts roots old new us (map (put_in by) us)
    sorts_kept [] k = tt
    sorts_kept (u ∷ us) k =
        (put_sort u (All-head (EachName K) (trm [] xs u) (map (trm [] xs) us) k), sorts_kept us (All-tail (EachName K) (trm [] xs u) (map (trm [] xs) us) k))

  module _ (instance wide : Signatures) (by_sorts : (old new : Scope) (n : List ℕ) (us vs : List Term) → HaveTheSorts roots old new us vs → instance old n us ≡ true → wide new n vs ≡ true) where
    abbrev pub InOrder : Assn → Type 0
    InOrder p =
        (d : ℕ) (by : Puts) (old new : Scope) (xs : Names) → Fit d by old new xs → EachFree K (asn [] xs p) → scoped.assn roots instance p old ≡ true → scoped.assn roots wide (put_inside d by p) new ≡ true

    moved : (z w : Assn) (scope : Scope) (b : Bool) → z ≡ w → scoped.assn roots wide w scope ≡ b → b ≡ true → scoped.assn roots wide z scope ≡ true
    moved z w scope b e g k = ap (λ y. scoped.assn roots wide y scope) e ∙ g ∙ k

    of_emp : InOrder a.Emp
    of_emp d by old new xs fit k e = moved (put_inside d by a.Emp) a.Emp new true (put-Emp d by) (scoped-Emp roots wide new) refl

    of_fact : (u : Term) → InOrder (a.Fact u)
    of_fact u d by old new xs fit k e =
        moved (put_inside d by (a.Fact u)) (a.Fact (put_in by u)) new (scoped.is_formula roots new (put_in by u)) (put-Fact d by u) (scoped-Fact roots wide (put_in by u) new)
        (sort_kept d by old new xs fit sort.Bool u (subst (EachFree K) (asn-Fact [] xs u) k) (sym (scoped-Fact roots instance u old) ∙ e))

    of_own : (u v : Term) → InOrder (a.Own u v)
    of_own u v d by old new xs fit k e =
        moved (put_inside d by (a.Own u v)) (a.Own (put_in by u) (put_in by v)) new (scoped.is_cell roots new (put_in by u) (put_in by v)) (put-Own d by u v) (scoped-Own roots wide (put_in by u) (put_in by v) new)
        (cell_kept d by old new xs fit u v (subst (EachFree K) (asn-Own [] xs u v) k) (sym (scoped-Own roots instance u v old) ∙ e))

    of_shared : (u v : Term) → InOrder (a.Shared u v)
    of_shared u v d by old new xs fit k e =
        moved (put_inside d by (a.Shared u v)) (a.Shared (put_in by u) (put_in by v)) new (scoped.is_cell roots new (put_in by u) (put_in by v)) (put-Shared d by u v) (scoped-Shared roots wide (put_in by u) (put_in by v) new)
        (cell_kept d by old new xs fit u v (subst (EachFree K) (asn-Shared [] xs u v) k) (sym (scoped-Shared roots instance u v old) ∙ e))

    of_inst : (n : List ℕ) (us : List Term) → InOrder (a.Inst n us)
    of_inst n us d by old new xs fit k e =
        moved (put_inside d by (a.Inst n us)) (a.Inst n (map (put_in by) us)) new (wide new n (map (put_in by) us)) (put-Inst d by n us) (scoped-Inst roots wide n (map (put_in by) us) new)
        (by_sorts old new n us (map (put_in by) us) (sorts_kept d by old new xs fit us (subst (EachFree K) (asn-Inst [] xs n us) k)) (sym (scoped-Inst roots instance n us old) ∙ e))

    abbrev Scoped : Assn → Scope → Bool
    Scoped = scoped.assn roots instance

    abbrev Made : Assn → Scope → Bool
    Made = scoped.assn roots wide

    of_star : (p q : Assn) → InOrder p → InOrder q → InOrder (a.Star p q)
    of_star p q g h d by old new xs fit k e =
        let z : EachFree K (asn [] xs p) × EachFree K (asn [] xs q) = subst (EachFree K) (asn-Star [] xs p q) k in
        let b : (Scoped p old ≡ true) × (Scoped q old ≡ true) = both_true (Scoped p old) (Scoped q old) (sym (scoped-Star roots instance p q old) ∙ e) in
        moved (put_inside d by (a.Star p q)) (a.Star (put_inside d by p) (put_inside d by q)) new (Made (put_inside d by p) new && Made (put_inside d by q) new) (put-Star d by p q)
        (scoped-Star roots wide (put_inside d by p) (put_inside d by q) new)
        (both_hold (Made (put_inside d by p) new) (Made (put_inside d by q) new) (g d by old new xs fit z.0 b.0) (h d by old new xs fit z.1 b.1))

    of_either : (p q : Assn) → InOrder p → InOrder q → InOrder (a.Either p q)
    of_either p q g h d by old new xs fit k e =
        let z : EachFree K (asn [] xs p) × EachFree K (asn [] xs q) = subst (EachFree K) (asn-Either [] xs p q) k in
        let b : (Scoped p old ≡ true) × (Scoped q old ≡ true) = both_true (Scoped p old) (Scoped q old) (sym (scoped-Either roots instance p q old) ∙ e) in
        moved (put_inside d by (a.Either p q)) (a.Either (put_inside d by p) (put_inside d by q)) new (Made (put_inside d by p) new && Made (put_inside d by q) new) (put-Either d by p q)
        (scoped-Either roots wide (put_inside d by p) (put_inside d by q) new)
        (both_hold (Made (put_inside d by p) new) (Made (put_inside d by q) new) (g d by old new xs fit z.0 b.0) (h d by old new xs fit z.1 b.1))

    of_exists : (x : List ℕ) (r : Sort) (p : Assn) → InOrder p → InOrder (a.Exists x r p)
    of_exists x r p g d by old new xs fit k e =
        let q : Assn = put_inside (suc d) (renaming x d by) p in
        let inner : Scope = with_local new (bound_name d) (Variable r) in
        moved (put_inside d by (a.Exists x r p)) (a.Exists (bound_name d) r q) new (Made q inner) (put-Exists d by x r p) (scoped-Exists roots wide (bound_name d) r q new)
        (g (suc d) (renaming x d by) (with_local old x (Variable r)) inner (x ∷ xs) (fit_in d by old new xs fit x r) (subst (EachFree K) (asn-Exists [] xs x r p) k)
        (sym (scoped-Exists roots instance x r p old) ∙ e))

    pub inside_in_order : (p : Assn) → InOrder p
    inside_in_order a.Emp = of_emp
    inside_in_order (a.Fact u) = of_fact u
    inside_in_order (a.Own u v) = of_own u v
    inside_in_order (a.Shared u v) = of_shared u v
    inside_in_order (Star p q) = subst InOrder (Star-is p q) (of_star p q (inside_in_order p) (inside_in_order q))
    inside_in_order (a.Inst n us) = of_inst n us
    inside_in_order (Exists x r p) = subst InOrder (Exists-is x r p) (of_exists x r p (inside_in_order p))
    inside_in_order (Either p q) = subst InOrder (Either-is p q) (of_either p q (inside_in_order p) (inside_in_order q))

-- where each name that has a sort stands for a term of that sort
pub put_in_order : (roots : Names) (instance wide : Signatures) → ((old new : Scope) (n : List ℕ) (us vs : List Term) → HaveTheSorts roots old new us vs → instance old n us ≡ true → wide new n vs ≡ true)
    → (p : Assn) (by : Puts) (old new : Scope) → Keep roots by old new → scoped.assn roots instance p old ≡ true → scoped.assn roots wide (put_in_assn by p) new ≡ true
put_in_order roots instance wide by_sorts p by old new keep e =
    let n : ℕ = zeros_made by p in
    let fit : Fit roots (Clean by n) n by old new [] = record { keep = λ x k s g. keep x s g; below = λ x k. k } in
    ap (λ q. scoped.assn roots wide q new) (put_whole by p) ∙ inside_in_order roots (Clean by n) instance wide by_sorts p n by old new [] fit (all_clean by p) e
