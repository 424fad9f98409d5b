-- Assertions that are alike become one tree where terms are put in: what is made is read off from the nameless tree.
use Rattle.std.proofs.Common.{◌≡◌, ℕ, zero, suc, Bool, true, false, List, [], ◌∷◌, map, Option, Some, None, refl, sym, ◌∙◌, ap, subst}
use Rattle.std.specs.Prelude.{bytes_eq, option_map, if◌then◌else◌}
use Rattle.tht_tree.specs.declared.plain.Sort.{Sort}
use Rattle.tht_tree.specs.declared.plain.Value.TheVariants as v
use Rattle.tht_tree.specs.declared.term.Term.{Term, roll-Term}
use Rattle.tht_tree.specs.declared.term.Term.TheVariants as t
use Rattle.tht_tree.specs.declared.term.Term.TheOpen.{Term-F}
use Rattle.tht_tree.specs.declared.term.Term.TheOpen as f
use Rattle.tht_tree.specs.declared.assn.Assn.{Assn}
use Rattle.tht_tree.specs.declared.assn.Assn.TheVariants as a
use Rattle.tht_tree.specs.Values.{Val, is, seq}
use Rattle.tht_tree.specs.Syntax.{Names, position, Op, add, sub, mul, cons, cat, eq, lt, le, conj, disj, imp, Trm, lit, free, bound, len, off, neg, op, named, trm_at, trm}
use Rattle.tht_tree.specs.Normal.Putting.{Puts, put_name, put_at, put_in}
use Rattle.tht_tree.proofs.TermInduction.{fold_level, OfParts, by_parts}
use Rattle.tht_logic.specs.Assertions.{Asn, emp, fact, own, shared, star, inst, exist, either, asn}
use Rattle.tht_logic.specs.Putting.{bound_name, greatest, zeros_in, renaming, put_inside, put_in_assn}
use Rattle.assn_laws.specs.AssertionLaws.{AlikeBecomeOne}
use Rattle.assn_laws.proofs.AssnLevels.{Star, Exists, Either, Star-is, Exists-is, Either-is}
use Rattle.assn_laws.proofs.Nameless.{asn-Emp, asn-Fact, asn-Own, asn-Shared, asn-Star, asn-Inst, asn-Exists, asn-Either, put-Emp, put-Fact, put-Own, put-Shared, put-Star, put-Inst, put-Exists, put-Either, put_whole}
use Rattle.tht_logic.proofs.NamesInTerms.{name_in}
use Rattle.assn_laws.proofs.PuttingNames.{position_behind}
use Rattle.assn_laws.proofs.AlikeHeaps.{same_asn-true}

-- ---- trees of sources from nameless ones

abbrev back_val : Val → Term
back_val (is (v.Nat n)) = t.Num n
back_val (is (v.Bool true)) = t.True
back_val (is (v.Bool false)) = t.False
back_val (is (v.Loc p)) = t.Null
back_val (is v.Unit) = t.Unit
back_val (seq xs) = t.Nil

abbrev back_op : Op → Term → Term → Term
back_op mul a b = t.Mul a b
back_op add a b = t.Add a b
back_op sub a b = t.Sub a b
back_op cons a b = t.Cons a b
back_op cat a b = t.Cat a b
back_op eq a b = t.Eq a b
back_op lt a b = t.Lt a b
back_op le a b = t.Le a b
back_op conj a b = t.And a b
back_op disj a b = t.Or a b
back_op imp a b = t.Imp a b

abbrev name_at : Names → ℕ → List ℕ
name_at [] k = []
name_at (z ∷ zs) zero = z
name_at (z ∷ zs) (suc k) = name_at zs k

module _ (pairs : Puts) where
  -- with these names for bound variables, and terms put in for free ones
  abbrev back : Names → Trm → Term
  back zs (lit w) = back_val w
  back zs (free x) = put_name pairs x
  back zs (bound k) = t.Var (name_at zs k)
  back zs (len b) = t.Len (back zs b)
  back zs (off j b) = t.Offset (back zs b) j
  back zs (neg b) = t.Not (back zs b)
  back zs (op o b c) = back_op o (back zs b) (back zs c)

  abbrev back_asn : ℕ → Names → Asn → Assn
  back_asn d zs emp = a.Emp
  back_asn d zs (fact u) = a.Fact (back zs u)
  back_asn d zs (own u w) = a.Own (back zs u) (back zs w)
  back_asn d zs (shared u w) = a.Shared (back zs u) (back zs w)
  back_asn d zs (star p q) = a.Star (back_asn d zs p) (back_asn d zs q)
  back_asn d zs (inst n us) = a.Inst n (map (back zs) us)
  back_asn d zs (exist s p) = a.Exists (bound_name d) s (back_asn (suc d) (bound_name d ∷ zs) p)
  back_asn d zs (either p q) = a.Either (back_asn d zs p) (back_asn d zs q)

  -- what stands for a name is what is read off from it, where the names xs are bound and become zs
  abbrev Reads : Puts → Names → Names → Type 0
  Reads by xs zs = (x : List ℕ) → put_name by x ≡ back zs (name_in [] xs x)

  module _ (by : Puts) (xs zs : Names) (reads : Reads by xs zs) where
    abbrev Read : Term → Type 0
    Read u = put_in by u ≡ back zs (trm [] xs u)

    read_step : (x : Term-F Term) → OfParts Read x → Read (roll-Term x)
    read_step (f.Num n) q = fold_level (put_at by) (f.Num n) ∙ ap (back zs) (sym (fold_level (trm_at [] xs) (f.Num n)))
    read_step f.True q = fold_level (put_at by) f.True ∙ ap (back zs) (sym (fold_level (trm_at [] xs) f.True))
    read_step f.False q = fold_level (put_at by) f.False ∙ ap (back zs) (sym (fold_level (trm_at [] xs) f.False))
    read_step f.Null q = fold_level (put_at by) f.Null ∙ ap (back zs) (sym (fold_level (trm_at [] xs) f.Null))
    read_step f.Nil q = fold_level (put_at by) f.Nil ∙ ap (back zs) (sym (fold_level (trm_at [] xs) f.Nil))
    read_step f.Unit q = fold_level (put_at by) f.Unit ∙ ap (back zs) (sym (fold_level (trm_at [] xs) f.Unit))
    read_step (f.Var x) q = fold_level (put_at by) (f.Var x) ∙ reads x ∙ ap (back zs) (sym (fold_level (trm_at [] xs) (f.Var x)))
    read_step (f.Len b) q = fold_level (put_at by) (f.Len b) ∙ ap t.Len q ∙ ap (back zs) (sym (fold_level (trm_at [] xs) (f.Len b)))
    read_step (f.Offset b k) q = fold_level (put_at by) (f.Offset b k) ∙ ap (λ z. t.Offset z k) q ∙ ap (back zs) (sym (fold_level (trm_at [] xs) (f.Offset b k)))
    read_step (f.Not b) q = fold_level (put_at by) (f.Not b) ∙ ap t.Not q ∙ ap (back zs) (sym (fold_level (trm_at [] xs) (f.Not b)))
    read_step (f.Mul b c) q = fold_level (put_at by) (f.Mul b c) ∙ (λ i. t.Mul (q.0 i) (q.1 i)) ∙ ap (back zs) (sym (fold_level (trm_at [] xs) (f.Mul b c)))
    read_step (f.Add b c) q = fold_level (put_at by) (f.Add b c) ∙ (λ i. t.Add (q.0 i) (q.1 i)) ∙ ap (back zs) (sym (fold_level (trm_at [] xs) (f.Add b c)))
    read_step (f.Sub b c) q = fold_level (put_at by) (f.Sub b c) ∙ (λ i. t.Sub (q.0 i) (q.1 i)) ∙ ap (back zs) (sym (fold_level (trm_at [] xs) (f.Sub b c)))
    read_step (f.Cons b c) q = fold_level (put_at by) (f.Cons b c) ∙ (λ i. t.Cons (q.0 i) (q.1 i)) ∙ ap (back zs) (sym (fold_level (trm_at [] xs) (f.Cons b c)))
    read_step (f.Cat b c) q = fold_level (put_at by) (f.Cat b c) ∙ (λ i. t.Cat (q.0 i) (q.1 i)) ∙ ap (back zs) (sym (fold_level (trm_at [] xs) (f.Cat b c)))
    read_step (f.Eq b c) q = fold_level (put_at by) (f.Eq b c) ∙ (λ i. t.Eq (q.0 i) (q.1 i)) ∙ ap (back zs) (sym (fold_level (trm_at [] xs) (f.Eq b c)))
    read_step (f.Lt b c) q = fold_level (put_at by) (f.Lt b c) ∙ (λ i. t.Lt (q.0 i) (q.1 i)) ∙ ap (back zs) (sym (fold_level (trm_at [] xs) (f.Lt b c)))
    read_step (f.Le b c) q = fold_level (put_at by) (f.Le b c) ∙ (λ i. t.Le (q.0 i) (q.1 i)) ∙ ap (back zs) (sym (fold_level (trm_at [] xs) (f.Le b c)))
    read_step (f.And b c) q = fold_level (put_at by) (f.And b c) ∙ (λ i. t.And (q.0 i) (q.1 i)) ∙ ap (back zs) (sym (fold_level (trm_at [] xs) (f.And b c)))
    read_step (f.Or b c) q = fold_level (put_at by) (f.Or b c) ∙ (λ i. t.Or (q.0 i) (q.1 i)) ∙ ap (back zs) (sym (fold_level (trm_at [] xs) (f.Or b c)))
    read_step (f.Imp b c) q = fold_level (put_at by) (f.Imp b c) ∙ (λ i. t.Imp (q.0 i) (q.1 i)) ∙ ap (back zs) (sym (fold_level (trm_at [] xs) (f.Imp b c)))

    read : (u : Term) → put_in by u ≡ back zs (trm [] xs u)
    read = by_parts Read read_step

    read_all : (us : List Term) → map (put_in by) us ≡ map (back zs) (map (trm [] xs) us)
    read_all [] = refl
    read_all (u ∷ us) = λ i. read u i ∷ read_all us i

    -- behind one binder more
    deeper : (x : List ℕ) (d : ℕ) → Reads (renaming x d by) (x ∷ xs) (bound_name d ∷ zs)
    deeper x d y = pick (bytes_eq x y)
      where
        behind : (o : Option ℕ) → back (bound_name d ∷ zs) (named [] y (option_map suc o)) ≡ back zs (named [] y o)
        behind (Some k) = refl
        behind None = refl

        pick : (c : Bool) → (if c then t.Var (bound_name d) else put_name by y) ≡ back (bound_name d ∷ zs) (named [] y (if c then Some 0 else position 1 xs y))
        pick true = refl
        pick false = reads y ∙ sym (behind (position 0 xs y)) ∙ ap (λ o. back (bound_name d ∷ zs) (named [] y o)) (sym (position_behind 0 xs y))

  -- ---- assertions

  abbrev Law : Assn → Type 0
  Law p = (d : ℕ) (by : Puts) (xs zs : Names) → Reads by xs zs → put_inside d by p ≡ back_asn d zs (asn [] xs p)

  of_emp : Law a.Emp
  of_emp d by xs zs r = put-Emp d by ∙ ap (back_asn d zs) (sym (asn-Emp [] xs))

  of_fact : (u : Term) → Law (a.Fact u)
  of_fact u d by xs zs r = put-Fact d by u ∙ ap a.Fact (read by xs zs r u) ∙ ap (back_asn d zs) (sym (asn-Fact [] xs u))

  of_own : (u w : Term) → Law (a.Own u w)
  of_own u w d by xs zs r = put-Own d by u w ∙ (λ i. a.Own (read by xs zs r u i) (read by xs zs r w i)) ∙ ap (back_asn d zs) (sym (asn-Own [] xs u w))

  of_shared : (u w : Term) → Law (a.Shared u w)
  of_shared u w d by xs zs r = put-Shared d by u w ∙ (λ i. a.Shared (read by xs zs r u i) (read by xs zs r w i)) ∙ ap (back_asn d zs) (sym (asn-Shared [] xs u w))

  of_inst : (n : List ℕ) (us : List Term) → Law (a.Inst n us)
  of_inst n us d by xs zs r = put-Inst d by n us ∙ ap (a.Inst n) (read_all by xs zs r us) ∙ ap (back_asn d zs) (sym (asn-Inst [] xs n us))

  of_star : (p q : Assn) → Law p → Law q → Law (a.Star p q)
  of_star p q g h d by xs zs r = put-Star d by p q ∙ (λ i. a.Star (g d by xs zs r i) (h d by xs zs r i)) ∙ ap (back_asn d zs) (sym (asn-Star [] xs p q))

  of_either : (p q : Assn) → Law p → Law q → Law (a.Either p q)
  of_either p q g h d by xs zs r = put-Either d by p q ∙ (λ i. a.Either (g d by xs zs r i) (h d by xs zs r i)) ∙ ap (back_asn d zs) (sym (asn-Either [] xs p q))

  of_exists : (x : List ℕ) (s : Sort) (p : Assn) → Law p → Law (a.Exists x s p)
  of_exists x s p g d by xs zs r =
      put-Exists d by x s p ∙ ap (a.Exists (bound_name d) s) (g (suc d) (renaming x d by) (x ∷ xs) (bound_name d ∷ zs) (deeper by xs zs r x d))
      ∙ ap (back_asn d zs) (sym (asn-Exists [] xs x s p))

  reads_off : (p : Assn) → Law p
  reads_off a.Emp = of_emp
  reads_off (a.Fact u) = of_fact u
  reads_off (a.Own u w) = of_own u w
  reads_off (a.Shared u w) = of_shared u w
  reads_off (Star p q) = subst Law (Star-is p q) (of_star p q (reads_off p) (reads_off q))
  reads_off (a.Inst n us) = of_inst n us
  reads_off (Exists x s p) = subst Law (Exists-is x s p) (of_exists x s p (reads_off p))
  reads_off (Either p q) = subst Law (Either-is p q) (of_either p q (reads_off p) (reads_off q))

  -- what putting in makes of a nameless tree
  abbrev made_of : Asn → Assn
  made_of p = back_asn (greatest (λ x. zeros_in (put_name pairs x)) p) [] p

  made : (p : Assn) → put_in_assn pairs p ≡ made_of (asn [] [] p)
  made p = put_whole pairs p ∙ reads_off p (greatest (λ x. zeros_in (put_name pairs x)) (asn [] [] p)) pairs [] [] (λ x. refl)

pub alike_become_one : AlikeBecomeOne
alike_become_one by p q e = made by p ∙ ap (made_of by) (same_asn-true (asn [] [] p) (asn [] [] q) e) ∙ sym (made by q)
