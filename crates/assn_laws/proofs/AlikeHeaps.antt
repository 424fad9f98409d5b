-- The law of assertions that are alike: they hold of the same heaps.
use Rattle.std.proofs.Common.{◌≡◌, ℕ, true, List, [], ◌∷◌, map, Option, Some, None, refl, sym, ◌∙◌, ap, subst}
use Rattle.std.specs.Prelude.{bytes_eq}
use Rattle.tht_tree.specs.declared.plain.Sort.{Sort}
use Rattle.tht_tree.specs.declared.term.Term.{Term}
use Rattle.tht_tree.specs.declared.assn.Assn.{Assn}
use Rattle.tht_tree.specs.declared.assn.Assn.TheVariants as a
use Rattle.tht_tree.specs.Syntax.{Names, position, Trm, lit, free, bound, len, off, neg, op, root_or_free, named, trm}
use Rattle.tht_tree.specs.Normal.Putting.{put}
use Rattle.tht_tree.specs.Rules.Scoping.{same_sort}
use Rattle.tht_tree.proofs.SameTerm.{bytes_eq-true}
use Rattle.tht_tree.proofs.TermValues.{same_sort-true}
use Rattle.tht_logic.specs.Assertions.{Asn, emp, fact, own, shared, star, inst, exist, either, asn}
use Rattle.tht_logic.specs.Satisfaction.{Meaning, Satisfies}
use Rattle.tht_logic.specs.Putting.{put_asn}
use Rattle.tht_logic.specs.Alike.{same_trm, same_trms, same_asn, alike}
use Rattle.assn_laws.specs.AssertionLaws.{EachName, AlikeHaveTheSameHeaps}
use Rattle.assn_laws.proofs.AssnLevels.{Star, Exists, Either, Star-is, Exists-is, Either-is}
use Rattle.assn_laws.proofs.Nameless.{asn-Emp, asn-Fact, asn-Own, asn-Shared, asn-Star, asn-Inst, asn-Exists, asn-Either}
use Rattle.tht_logic.proofs.NamesInTerms.{all_free, name_in, bind_names}
use Rattle.tht_logic.proofs.SameTrms.{same_trm-true, same_trms-true}
use Rattle.assn_laws.proofs.BoundNames.{put_after}
use Rattle.assn_laws.proofs.KnownNames.{both_true}

-- ---- what the tests tell

pub same_asn-true : (p q : Asn) → same_asn p q ≡ true → p ≡ q
same_asn-true emp emp e = refl
same_asn-true (fact t) (fact u) e = ap fact (same_trm-true t u e)
same_asn-true (own t w) (own u z) e =
    let b : (same_trm t u ≡ true) × (same_trm w z ≡ true) = both_true (same_trm t u) (same_trm w z) e in
    λ i. own (same_trm-true t u b.0 i) (same_trm-true w z b.1 i)
same_asn-true (shared t w) (shared u z) e =
    let b : (same_trm t u ≡ true) × (same_trm w z ≡ true) = both_true (same_trm t u) (same_trm w z) e in
    λ i. shared (same_trm-true t u b.0 i) (same_trm-true w z b.1 i)
same_asn-true (star p r) (star q s) e =
    let b : (same_asn p q ≡ true) × (same_asn r s ≡ true) = both_true (same_asn p q) (same_asn r s) e in
    λ i. star (same_asn-true p q b.0 i) (same_asn-true r s b.1 i)
same_asn-true (inst n ts) (inst m us) e =
    let b : (bytes_eq n m ≡ true) × (same_trms ts us ≡ true) = both_true (bytes_eq n m) (same_trms ts us) e in
    λ i. inst (bytes_eq-true n m b.0 i) (same_trms-true ts us b.1 i)
same_asn-true (exist s p) (exist r q) e =
    let b : (same_sort s r ≡ true) × (same_asn p q ≡ true) = both_true (same_sort s r) (same_asn p q) e in
    λ i. exist (same_sort-true s r b.0 i) (same_asn-true p q b.1 i)
same_asn-true (either p r) (either q s) e =
    let b : (same_asn p q ≡ true) × (same_asn r s ≡ true) = both_true (same_asn p q) (same_asn r s) e in
    λ i. either (same_asn-true p q b.0 i) (same_asn-true r s b.1 i)
same_asn-true _ _ e = cc

-- ---- the roots, named after all else

each_any : (u : Trm) → EachName (λ x. Unit {0}) u
each_any (lit x) = tt
each_any (free x) = tt
each_any (bound k) = tt
each_any (len t) = each_any t
each_any (off k t) = each_any t
each_any (neg t) = each_any t
each_any (op o t u) = (each_any t, each_any u)

module _ (roots : Names) where
  abbrev root_name : List ℕ → Trm
  root_name x = root_or_free x (position 0 roots x)

  a_name : (x : List ℕ) (o : Option ℕ) → named roots x o ≡ put root_name (named [] x o)
  a_name x (Some k) = refl
  a_name x None = refl

  term_roots : (xs : Names) (u : Term) → trm roots xs u ≡ put root_name (trm [] xs u)
  term_roots xs u =
      bind_names roots xs u
      ∙ put_after (λ x. Unit {0}) (name_in roots xs) (name_in [] xs) (name_in [] xs) root_name (λ x k. a_name x (position 0 xs x)) (all_free u) (each_any (put (name_in [] xs) (all_free u)))
      ∙ ap (put root_name) (sym (bind_names [] xs u))

  terms_roots : (xs : Names) (us : List Term) → map (trm roots xs) us ≡ map (put root_name) (map (trm [] xs) us)
  terms_roots xs [] = refl
  terms_roots xs (u ∷ us) = λ i. term_roots xs u i ∷ terms_roots xs us i

  abbrev Law : Assn → Type 0
  Law p = (xs : Names) → asn roots xs p ≡ put_asn root_name (asn [] xs p)

  of_star : (p q : Assn) → Law p → Law q → Law (a.Star p q)
  of_star p q f g xs = asn-Star roots xs p q ∙ (λ i. star (f xs i) (g xs i)) ∙ ap (put_asn root_name) (sym (asn-Star [] xs p q))

  of_either : (p q : Assn) → Law p → Law q → Law (a.Either p q)
  of_either p q f g xs = asn-Either roots xs p q ∙ (λ i. either (f xs i) (g xs i)) ∙ ap (put_asn root_name) (sym (asn-Either [] xs p q))

  of_exists : (x : List ℕ) (s : Sort) (p : Assn) → Law p → Law (a.Exists x s p)
  of_exists x s p f xs = asn-Exists roots xs x s p ∙ ap (exist s) (f (x ∷ xs)) ∙ ap (put_asn root_name) (sym (asn-Exists [] xs x s p))

  pub assertion_roots : (p : Assn) → Law p
  assertion_roots a.Emp = λ xs. asn-Emp roots xs ∙ ap (put_asn root_name) (sym (asn-Emp [] xs))
  assertion_roots (a.Fact u) = λ xs. asn-Fact roots xs u ∙ ap fact (term_roots xs u) ∙ ap (put_asn root_name) (sym (asn-Fact [] xs u))
  assertion_roots (a.Own t u) = λ xs. asn-Own roots xs t u ∙ (λ i. own (term_roots xs t i) (term_roots xs u i)) ∙ ap (put_asn root_name) (sym (asn-Own [] xs t u))
  assertion_roots (a.Shared t u) = λ xs. asn-Shared roots xs t u ∙ (λ i. shared (term_roots xs t i) (term_roots xs u i)) ∙ ap (put_asn root_name) (sym (asn-Shared [] xs t u))
  assertion_roots (Star p q) = subst Law (Star-is p q) (of_star p q (assertion_roots p) (assertion_roots q))
  assertion_roots (a.Inst n us) = λ xs. asn-Inst roots xs n us ∙ ap (inst n) (terms_roots xs us) ∙ ap (put_asn root_name) (sym (asn-Inst [] xs n us))
  assertion_roots (Exists x s p) = subst Law (Exists-is x s p) (of_exists x s p (assertion_roots p))
  assertion_roots (Either p q) = subst Law (Either-is p q) (of_either p q (assertion_roots p) (assertion_roots q))

  -- assertions that are alike are one without names
  pub alike_same : (p q : Assn) → alike p q ≡ true → asn roots [] p ≡ asn roots [] q
  alike_same p q e = assertion_roots p [] ∙ ap (put_asn root_name) (same_asn-true (asn [] [] p) (asn [] [] q) e) ∙ sym (assertion_roots q [])

pub alike_have_the_same_heaps : (M : Meaning) → AlikeHaveTheSameHeaps M
alike_have_the_same_heaps M roots env p q h e holds = subst (λ z. Satisfies M env [] z h) (alike_same roots p q e) holds
