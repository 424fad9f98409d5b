-- Assertions that are like one another are one tree without the names of bound variables.
use Rattle.std.proofs.Common.{◌≡◌, ℕ, Bool, ◌&&◌, List, [], ◌∷◌, map, refl, sym, ◌∙◌, ap}
use Rattle.std.specs.Prelude.{bytes_eq}
use Rattle.tht_tree.specs.declared.plain.Sort.{Sort}
use Rattle.tht_tree.specs.declared.term.Term.{Term}
use Rattle.tht_tree.specs.declared.assn.Assn.{Assn, out-Assn, map-Assn, roll-Assn, fold-roll-Assn, fold_out-Assn}
use Rattle.tht_tree.specs.declared.assn.Assn.TheOpen.{Assn-F}
use Rattle.tht_tree.specs.declared.assn.Assn.TheOpen as f
use Rattle.tht_tree.specs.Syntax.{Names, Trm, trm}
use Rattle.tht_tree.specs.Rules.Scoping.{same_sort}
use Rattle.tht_logic.specs.Assertions.{Asn, emp, fact, own, shared, star, inst, exist, either, asn_at, asn}
use Rattle.tht_logic.specs.Alike.{same_asn, alike}
use Rattle.assn_laws.proofs.AssnInduction.{OfParts, by_parts}
use Rattle.heap_assert.specs.SideBySide.{Pairs, of_one, of_other, like_terms, like_lists, is_emp, is_fact, is_own, is_shared, is_star, is_inst, is_exists, is_either, like_assns_at, like_assns}
use Rattle.heap_assert.proofs.LikeTerms.{terms_are, lists_are}

abbrev LikeIs : Assn → Type 0
LikeIs p = (ps : Pairs) (q : Assn) → like_assns ps p q ≡ same_asn (asn [] (of_one ps) p) (asn [] (of_other ps) q)

-- an assertion where it stands, before its bound names are known
abbrev unbound : Assn → Names → Asn
unbound p xs = asn [] xs p

module _ (ps : Pairs) where
  -- the other assertion, from its outermost level
  abbrev other : Assn-F Assn → Asn
  other w = asn_at [] (map-Assn Assn (Names → Asn) unbound w) (of_other ps)

  abbrev one_trm : Term → Trm
  one_trm = trm [] (of_one ps)

  abbrev one_asn : Assn → Asn
  one_asn = asn [] (of_one ps)

  emp_level : (w : Assn-F Assn) → is_emp w ≡ same_asn emp (other w)
  emp_level f.Emp = refl
  emp_level _ = refl

  fact_level : (t : Term) (w : Assn-F Assn) → is_fact (like_terms ps t) w ≡ same_asn (fact (one_trm t)) (other w)
  fact_level t (f.Fact u) = terms_are ps t u
  fact_level t _ = refl

  own_level : (t u : Term) (w : Assn-F Assn) → is_own (like_terms ps t) (like_terms ps u) w ≡ same_asn (own (one_trm t) (one_trm u)) (other w)
  own_level t u (f.Own c d) = λ i. terms_are ps t c i && terms_are ps u d i
  own_level t u _ = refl

  shared_level : (t u : Term) (w : Assn-F Assn) → is_shared (like_terms ps t) (like_terms ps u) w ≡ same_asn (shared (one_trm t) (one_trm u)) (other w)
  shared_level t u (f.Shared c d) = λ i. terms_are ps t c i && terms_are ps u d i
  shared_level t u _ = refl

  inst_level : (n : List ℕ) (ts : List Term) (w : Assn-F Assn) → is_inst n (like_lists ps ts) w ≡ same_asn (inst n (map one_trm ts)) (other w)
  inst_level n ts (f.Inst m us) = ap (λ b. bytes_eq n m && b) (lists_are ps ts us)
  inst_level n ts _ = refl

  module _ (p : Assn) (left : LikeIs p) where
    exists_level : (x : List ℕ) (s : Sort) (w : Assn-F Assn) → is_exists s (λ y. like_assns ((x, y) ∷ ps) p) w ≡ same_asn (exist s (asn [] (x ∷ of_one ps) p)) (other w)
    exists_level x s (f.Exists y r q) = ap (λ b. same_sort s r && b) (left ((x, y) ∷ ps) q)
    exists_level x s _ = refl

    module _ (q : Assn) (right : LikeIs q) where
      star_level : (w : Assn-F Assn) → is_star (like_assns ps p) (like_assns ps q) w ≡ same_asn (star (one_asn p) (one_asn q)) (other w)
      star_level (f.Star c d) = λ i. left ps c i && right ps d i
      star_level _ = refl

      either_level : (w : Assn-F Assn) → is_either (like_assns ps p) (like_assns ps q) w ≡ same_asn (either (one_asn p) (one_asn q)) (other w)
      either_level (f.Either c d) = λ i. left ps c i && right ps d i
      either_level _ = refl

abbrev like_from : Assn → Pairs → Assn → Bool
like_from p ps q = like_assns ps p q

level : (x : Assn-F Assn) → OfParts LikeIs x → (ps : Pairs) (q : Assn) →
    like_assns_at (map-Assn Assn (Pairs → Assn → Bool) like_from x) ps q ≡ same_asn (asn_at [] (map-Assn Assn (Names → Asn) unbound x) (of_one ps)) (other ps (out-Assn q))
level f.Emp h ps q = emp_level ps (out-Assn q)
level (f.Fact t) h ps q = fact_level ps t (out-Assn q)
level (f.Own t u) h ps q = own_level ps t u (out-Assn q)
level (f.Shared t u) h ps q = shared_level ps t u (out-Assn q)
level (f.Star p r) h ps q = star_level ps p h.0 r h.1 (out-Assn q)
level (f.Inst n ts) h ps q = inst_level ps n ts (out-Assn q)
level (f.Exists x s p) h ps q = exists_level ps p h x s (out-Assn q)
level (f.Either p r) h ps q = either_level ps p h.0 r h.1 (out-Assn q)

at_level : (x : Assn-F Assn) → OfParts LikeIs x → LikeIs (roll-Assn x)
at_level x h ps q =
    ap (λ g. g ps q) (fold-roll-Assn (Pairs → Assn → Bool) like_assns_at x) ∙ level x h ps q
    ∙ sym (λ i. same_asn (fold-roll-Assn (Names → Asn) (asn_at []) x i (of_one ps)) (fold_out-Assn (Names → Asn) (asn_at []) q i (of_other ps)))

pub assns_are : (p : Assn) → LikeIs p
assns_are = by_parts LikeIs at_level

-- where nothing is bound
pub alike_is : (ps : Pairs) (p q : Assn) → ps ≡ [] → like_assns ps p q ≡ alike p q
alike_is ps p q e = ap (λ (qs : Pairs). like_assns qs p q) e ∙ assns_are p [] q
