-- Assertions are alike exactly where they are one without the names of bound variables.
use Rattle.std.proofs.Common.{◌≡◌, ◌↔◌, true, [], refl, sym, ◌∙◌, ap}
use Rattle.std.specs.Prelude.{bytes_eq}
use Rattle.tht_tree.specs.declared.assn.Assn.{Assn}
use Rattle.tht_tree.specs.Rules.Scoping.{same_sort}
use Rattle.tht_logic.specs.Assertions.{Asn, emp, fact, own, shared, star, inst, exist, either, asn}
use Rattle.tht_logic.specs.Alike.{same_trm, same_trms, same_asn, alike}
use Rattle.tht_logic.proofs.SameTrms.{name_itself, sort_itself, term_itself, terms_itself}
use Rattle.assn_laws.proofs.AlikeHeaps.{same_asn-true}
use Rattle.assn_laws.proofs.PutScoped.{both_hold}

pub itself : (p : Asn) → same_asn p p ≡ true
itself emp = refl
itself (fact u) = term_itself u
itself (own u w) = both_hold (same_trm u u) (same_trm w w) (term_itself u) (term_itself w)
itself (shared u w) = both_hold (same_trm u u) (same_trm w w) (term_itself u) (term_itself w)
itself (star p q) = both_hold (same_asn p p) (same_asn q q) (itself p) (itself q)
itself (inst n us) = both_hold (bytes_eq n n) (same_trms us us) (name_itself n) (terms_itself us)
itself (exist s p) = both_hold (same_sort s s) (same_asn p p) (sort_itself s) (itself p)
itself (either p q) = both_hold (same_asn p p) (same_asn q q) (itself p) (itself q)

pub alike_exact : (p q : Assn) → (alike p q ≡ true) ↔ (asn [] [] p ≡ asn [] [] q)
alike_exact p q = (same_asn-true (asn [] [] p) (asn [] [] q), λ e. ap (same_asn (asn [] [] p)) (sym e) ∙ itself (asn [] [] p))
