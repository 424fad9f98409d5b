-- The law of putting in: it captures nothing.
use Rattle.std.proofs.Common.{◌≡◌, ℕ, suc, ◌<◌, ◌≤◌, le_trans, Bool, true, false, arith, All, List, [], ◌∷◌, map, Option, Some, None, refl, sym, ◌∙◌, ap, subst}
use Rattle.std.proofs.lemmas.List.Elements.{All-head, All-tail}
use Rattle.std.specs.Prelude.{bytes_eq, if◌then◌else◌, option_map}
use Rattle.tht_tree.specs.declared.plain.Sort.{Sort}
use Rattle.tht_tree.specs.declared.term.Term.{Term}
use Rattle.tht_tree.specs.declared.term.Term.TheVariants as t
use Rattle.tht_tree.specs.declared.assn.Assn.{Assn}
use Rattle.tht_tree.specs.declared.assn.Assn.TheVariants as a
use Rattle.tht_tree.specs.Syntax.{Names, position, Trm, bound, named, trm_at, trm}
use Rattle.tht_tree.specs.Normal.Putting.{Puts, put_name, put_in, put}
use Rattle.tht_tree.proofs.TermFolds.{at-Var}
use Rattle.tht_logic.specs.Assertions.{fact, own, shared, star, inst, exist, either, asn}
use Rattle.tht_logic.specs.Putting.{bound_name, zeros, zeros_made, renaming, put_inside, put_asn}
use Rattle.assn_laws.specs.AssertionLaws.{EachName, EachFree, PuttingNeverCaptures}
use Rattle.assn_laws.proofs.AssnLevels.{Star, Exists, Either, Star-is, Exists-is, Either-is}
use Rattle.assn_laws.proofs.Nameless.{asn-Emp, asn-Fact, asn-Own, asn-Shared, asn-Star, asn-Inst, asn-Exists, asn-Either, put-Emp, put-Fact, put-Own, put-Shared, put-Star, put-Inst, put-Exists, put-Either, put_whole}
use Rattle.tht_logic.proofs.NamesInTerms.{all_free, name_in, bind_names, put_for, put_names}
use Rattle.assn_laws.proofs.FreeNames.{Clean, all_clean}
use Rattle.assn_laws.proofs.BoundNames.{same_itself, later_is_other, fewer_zeros, put_after, put_same}

-- where a name stands among the names behind others
pub position_behind : (k : ℕ) (xs : Names) (x : List ℕ) → position (suc k) xs x ≡ option_map suc (position k xs x)
position_behind k [] x = refl
position_behind k (y ∷ ys) x = pick (bytes_eq y x) (position_behind (suc k) ys x)
  where
    pick : (c : Bool) → position (suc (suc k)) ys x ≡ option_map suc (position (suc k) ys x)
        → (if c then Some (suc k) else position (suc (suc k)) ys x) ≡ option_map suc (if c then Some k else position (suc k) ys x)
    pick true behind = refl
    pick false behind = behind

module _ (roots : Names) (pairs : Puts) (n : ℕ) where
  -- what stands for a name
  abbrev pub base : List ℕ → Trm
  base x = trm roots [] (put_name pairs x)

  -- what stands for a free name has names of at most n zeros
  abbrev pub Cleans : List ℕ → Type 0
  Cleans = Clean pairs n

  -- the bound variable that was number k has one of the names zs, which have less than d zeros
  abbrev pub Renamed : ℕ → Names → Puts → List ℕ → ℕ → Type 0
  Renamed d zs by x k = (e : ℕ) × (e < d) × (put_name by x ≡ t.Var (bound_name e)) × (position 0 zs (bound_name e) ≡ Some k)

  -- Inside binders of the names xs, which become zs, where d is the next number: what is put in there renames these, and else puts in what is
  -- put in outside.
  pub record Inside (d : ℕ) (by : Puts) (xs zs : Names) : Type 0 where
    pub above : n ≤ d
    pub bound_are : (x : List ℕ) (k : ℕ) → position 0 xs x ≡ Some k → Renamed d zs by x k
    pub free_are : (x : List ℕ) → position 0 xs x ≡ None → put_name by x ≡ put_name pairs x
    pub clear : (x : List ℕ) → zeros x ≤ n → position 0 zs x ≡ None

  outside : Inside n pairs [] []
  outside = record { above = omega arith; bound_are = λ x k e. cc; free_are = λ x e. refl; clear = λ x l. refl }

  module _ (d : ℕ) (by : Puts) (xs zs : Names) (inside : Inside d by xs zs) where
    -- names of at most n zeros are no bound variables'
    unbound : (u : Term) → EachName (λ y. zeros y ≤ n) (all_free u) → trm roots zs u ≡ trm roots [] u
    unbound u o =
        bind_names roots zs u
        ∙ put_same (λ y. zeros y ≤ n) (name_in roots zs) (name_in roots []) (λ x l. ap (named roots x) (inside.clear x l)) (all_free u) o
        ∙ sym (bind_names roots [] u)

    bound_name_is : (x : List ℕ) (k : ℕ) → Renamed d zs by x k → trm roots zs (put_name by x) ≡ bound k
    bound_name_is x k r =
        ap (trm roots zs) r.2 ∙ at-Var Trm (trm_at roots zs) (bound_name r.0) ∙ ap (named roots (bound_name r.0)) r.3

    a_name : (x : List ℕ) (k : Option ℕ) → position 0 xs x ≡ k → EachName Cleans (named [] x k) → put_for roots zs by x ≡ put base (named [] x k)
    a_name x (Some k) e o = bound_name_is x k (inside.bound_are x k e)
    a_name x None e o = ap (trm roots zs) (inside.free_are x e) ∙ unbound (put_name pairs x) o

    pub in_term : (u : Term) → EachName Cleans (trm [] xs u) → trm roots zs (put_in by u) ≡ put base (trm [] xs u)
    in_term u o =
        put_names roots zs by u
        ∙ put_after Cleans (put_for roots zs by) (name_in [] xs) (name_in [] xs) base (λ x p. a_name x (position 0 xs x) refl p) (all_free u)
        (subst (EachName Cleans) (bind_names [] xs u) o)
        ∙ ap (put base) (sym (bind_names [] xs u))

    pub in_terms : (us : List Term) → All (EachName Cleans) (map (trm [] xs) us) → map (trm roots zs) (map (put_in by) us) ≡ map (put base) (map (trm [] xs) us)
    in_terms [] o = refl
    in_terms (u ∷ us) o = λ i.
        in_term u (All-head (EachName Cleans) (trm [] xs u) (map (trm [] xs) us) o) i ∷ in_terms us (All-tail (EachName Cleans) (trm [] xs u) (map (trm [] xs) us) o) i

    -- inside one binder more
    bound_deeper : (x y : List ℕ) (k : ℕ) (c : Bool) → bytes_eq x y ≡ c → (if c then Some 0 else position 1 xs y) ≡ Some k → Renamed (suc d) (bound_name d ∷ zs) (renaming x d by) y k
    bound_deeper x y k true e f =
        (d, omega arith, ap (λ c. if c then t.Var (bound_name d) else put_name by y) e, ap (λ c. if c then Some 0 else position 1 zs (bound_name d)) (same_itself d) ∙ f)
    bound_deeper x y k false e f = earlier (position 0 xs y) refl (sym (position_behind 0 xs y) ∙ f)
      where
        put_earlier : (j : ℕ) → Some (suc j) ≡ Some k → Renamed d zs by y j → Renamed (suc d) (bound_name d ∷ zs) (renaming x d by) y k
        put_earlier j is r = (
          r.0,
          omega (arith, r.1),
          ap (λ c. if c then t.Var (bound_name d) else put_name by y) e ∙ r.2,
          ap (λ c. if c then Some 0 else position 1 zs (bound_name r.0)) (later_is_other d r.0 r.1) ∙ position_behind 0 zs (bound_name r.0) ∙ ap (option_map suc) r.3 ∙ is,
        )

        earlier : (o : Option ℕ) → position 0 xs y ≡ o → option_map suc o ≡ Some k → Renamed (suc d) (bound_name d ∷ zs) (renaming x d by) y k
        earlier None g is = cc
        earlier (Some j) g is = put_earlier j is (inside.bound_are y j g)

    none_before : (o : Option ℕ) → option_map suc o ≡ None → o ≡ None
    none_before None g = refl
    none_before (Some j) g = cc

    free_deeper : (x y : List ℕ) (c : Bool) → bytes_eq x y ≡ c → (if c then Some 0 else position 1 xs y) ≡ None → put_name (renaming x d by) y ≡ put_name pairs y
    free_deeper x y true e f = cc
    free_deeper x y false e f =
        ap (λ c. if c then t.Var (bound_name d) else put_name by y) e ∙ inside.free_are y (none_before (position 0 xs y) (sym (position_behind 0 xs y) ∙ f))

    clear_deeper : (y : List ℕ) → zeros y ≤ n → position 0 (bound_name d ∷ zs) y ≡ None
    clear_deeper y l =
        ap (λ c. if c then Some 0 else position 1 zs y) (fewer_zeros d y (le_trans l inside.above)) ∙ position_behind 0 zs y ∙ ap (option_map suc) (inside.clear y l)

    pub deeper : (x : List ℕ) → Inside (suc d) (renaming x d by) (x ∷ xs) (bound_name d ∷ zs)
    deeper x = record {
      above = le_trans inside.above (omega arith);
      bound_are = λ y k e. bound_deeper x y k (bytes_eq x y) refl e;
      free_are = λ y e. free_deeper x y (bytes_eq x y) refl e;
      clear = clear_deeper;
    }

  -- ---- assertions

  abbrev pub Law : Assn → Type 0
  Law p = (d : ℕ) (by : Puts) (xs zs : Names) → Inside d by xs zs → EachFree Cleans (asn [] xs p) → asn roots zs (put_inside d by p) ≡ put_asn base (asn [] xs p)

  of_emp : Law a.Emp
  of_emp d by xs zs w o = ap (asn roots zs) (put-Emp d by) ∙ asn-Emp roots zs ∙ ap (put_asn base) (sym (asn-Emp [] xs))

  of_fact : (u : Term) → Law (a.Fact u)
  of_fact u d by xs zs w o =
      let q : EachName Cleans (trm [] xs u) = subst (EachFree Cleans) (asn-Fact [] xs u) o in
      ap (asn roots zs) (put-Fact d by u) ∙ asn-Fact roots zs (put_in by u) ∙ ap fact (in_term d by xs zs w u q) ∙ ap (put_asn base) (sym (asn-Fact [] xs u))

  of_own : (u v : Term) → Law (a.Own u v)
  of_own u v d by xs zs w o =
      let q : EachName Cleans (trm [] xs u) × EachName Cleans (trm [] xs v) = subst (EachFree Cleans) (asn-Own [] xs u v) o in
      ap (asn roots zs) (put-Own d by u v) ∙ asn-Own roots zs (put_in by u) (put_in by v)
      ∙ (λ i. own (in_term d by xs zs w u q.0 i) (in_term d by xs zs w v q.1 i)) ∙ ap (put_asn base) (sym (asn-Own [] xs u v))

  of_shared : (u v : Term) → Law (a.Shared u v)
  of_shared u v d by xs zs w o =
      let q : EachName Cleans (trm [] xs u) × EachName Cleans (trm [] xs v) = subst (EachFree Cleans) (asn-Shared [] xs u v) o in
      ap (asn roots zs) (put-Shared d by u v) ∙ asn-Shared roots zs (put_in by u) (put_in by v)
      ∙ (λ i. shared (in_term d by xs zs w u q.0 i) (in_term d by xs zs w v q.1 i)) ∙ ap (put_asn base) (sym (asn-Shared [] xs u v))

  of_inst : (n : List ℕ) (us : List Term) → Law (a.Inst n us)
  of_inst n us d by xs zs w o =
      let q : All (EachName Cleans) (map (trm [] xs) us) = subst (EachFree Cleans) (asn-Inst [] xs n us) o in
      ap (asn roots zs) (put-Inst d by n us) ∙ asn-Inst roots zs n (map (put_in by) us) ∙ ap (inst n) (in_terms d by xs zs w us q) ∙ ap (put_asn base) (sym (asn-Inst [] xs n us))

  of_star : (p q : Assn) → Law p → Law q → Law (a.Star p q)
  of_star p q f g d by xs zs w o =
      let z : EachFree Cleans (asn [] xs p) × EachFree Cleans (asn [] xs q) = subst (EachFree Cleans) (asn-Star [] xs p q) o in
      ap (asn roots zs) (put-Star d by p q) ∙ asn-Star roots zs (put_inside d by p) (put_inside d by q)
      ∙ (λ i. star (f d by xs zs w z.0 i) (g d by xs zs w z.1 i)) ∙ ap (put_asn base) (sym (asn-Star [] xs p q))

  of_either : (p q : Assn) → Law p → Law q → Law (a.Either p q)
  of_either p q f g d by xs zs w o =
      let z : EachFree Cleans (asn [] xs p) × EachFree Cleans (asn [] xs q) = subst (EachFree Cleans) (asn-Either [] xs p q) o in
      ap (asn roots zs) (put-Either d by p q) ∙ asn-Either roots zs (put_inside d by p) (put_inside d by q)
      ∙ (λ i. either (f d by xs zs w z.0 i) (g d by xs zs w z.1 i)) ∙ ap (put_asn base) (sym (asn-Either [] xs p q))

  of_exists : (x : List ℕ) (s : Sort) (p : Assn) → Law p → Law (a.Exists x s p)
  of_exists x s p f d by xs zs w o =
      let z : EachFree Cleans (asn [] (x ∷ xs) p) = subst (EachFree Cleans) (asn-Exists [] xs x s p) o in
      ap (asn roots zs) (put-Exists d by x s p) ∙ asn-Exists roots zs (bound_name d) s (put_inside (suc d) (renaming x d by) p)
      ∙ ap (exist s) (f (suc d) (renaming x d by) (x ∷ xs) (bound_name d ∷ zs) (deeper d by xs zs w x) z) ∙ ap (put_asn base) (sym (asn-Exists [] xs x s p))

  pub puts_inside : (p : Assn) → Law p
  puts_inside a.Emp = of_emp
  puts_inside (a.Fact u) = of_fact u
  puts_inside (a.Own u v) = of_own u v
  puts_inside (a.Shared u v) = of_shared u v
  puts_inside (Star p q) = subst Law (Star-is p q) (of_star p q (puts_inside p) (puts_inside q))
  puts_inside (a.Inst n us) = of_inst n us
  puts_inside (Exists x s p) = subst Law (Exists-is x s p) (of_exists x s p (puts_inside p))
  puts_inside (Either p q) = subst Law (Either-is p q) (of_either p q (puts_inside p) (puts_inside q))

  pub never_captured : (p : Assn) → EachFree (Clean pairs n) (asn [] [] p) → asn roots [] (put_inside n pairs p) ≡ put_asn base (asn [] [] p)
  never_captured p o = puts_inside p n pairs [] [] outside o

pub putting_never_captures : PuttingNeverCaptures
putting_never_captures roots by p = ap (asn roots []) (put_whole by p) ∙ never_captured roots by (zeros_made by p) p (all_clean by p)
