-- Programs pass the test of sameness exactly where they are one.
use Rattle.std.proofs.Common.{◌≡◌, ◌↔◌, ◌∙◌, Bool, true, ◌&&◌, [], sym, ap}
use Rattle.std.specs.Prelude.{bytes_eq}
use Rattle.tht_tree.specs.declared.body.Body.{Body}
use Rattle.tht_tree.specs.Rules.Scoping.{same_sort}
use Rattle.tht_tree.proofs.SameTerm.{bytes_eq-true}
use Rattle.tht_tree.proofs.TermValues.{same_sort-true}
use Rattle.tht_logic.specs.Programs.{Code, ret, test, read, write, alloc, drop, publish, retract, call, nest, atomic, par, code}
use Rattle.tht_logic.specs.Alike.{same_trm, same_trms}
use Rattle.tht_logic.specs.SamePrograms.{same_code, same_program}
use Rattle.tht_logic.proofs.SameTrms.{and_both, both_pass, same_trm-true, same_trms-true, name_itself, sort_itself, term_itself, terms_itself}

-- programs that pass the test are one
pub same_code_exact : (p q : Code) → same_code p q ≡ true → p ≡ q
same_code_exact (ret t) (ret u) e = ap ret (same_trm-true t u e)
same_code_exact (test t p q) (test u r s) e =
    let b : ((same_trm t u && same_code p r) ≡ true) × (same_code q s ≡ true) = and_both (same_trm t u && same_code p r) (same_code q s) e in
    let c : (same_trm t u ≡ true) × (same_code p r ≡ true) = and_both (same_trm t u) (same_code p r) b.0 in
    λ i. test (same_trm-true t u c.0 i) (same_code_exact p r c.1 i) (same_code_exact q s b.1 i)
same_code_exact (read x t p) (read y u q) e =
    let b : ((same_sort x y && same_trm t u) ≡ true) × (same_code p q ≡ true) = and_both (same_sort x y && same_trm t u) (same_code p q) e in
    let c : (same_sort x y ≡ true) × (same_trm t u ≡ true) = and_both (same_sort x y) (same_trm t u) b.0 in
    λ i. read (same_sort-true x y c.0 i) (same_trm-true t u c.1 i) (same_code_exact p q b.1 i)
same_code_exact (write t v p) (write u w q) e =
    let b : ((same_trm t u && same_trm v w) ≡ true) × (same_code p q ≡ true) = and_both (same_trm t u && same_trm v w) (same_code p q) e in
    let c : (same_trm t u ≡ true) × (same_trm v w ≡ true) = and_both (same_trm t u) (same_trm v w) b.0 in
    λ i. write (same_trm-true t u c.0 i) (same_trm-true v w c.1 i) (same_code_exact p q b.1 i)
same_code_exact (alloc ts p) (alloc us q) e =
    let b : (same_trms ts us ≡ true) × (same_code p q ≡ true) = and_both (same_trms ts us) (same_code p q) e in
    λ i. alloc (same_trms-true ts us b.0 i) (same_code_exact p q b.1 i)
same_code_exact (drop t p) (drop u q) e =
    let b : (same_trm t u ≡ true) × (same_code p q ≡ true) = and_both (same_trm t u) (same_code p q) e in
    λ i. drop (same_trm-true t u b.0 i) (same_code_exact p q b.1 i)
same_code_exact (publish t p) (publish u q) e =
    let b : (same_trm t u ≡ true) × (same_code p q ≡ true) = and_both (same_trm t u) (same_code p q) e in
    λ i. publish (same_trm-true t u b.0 i) (same_code_exact p q b.1 i)
same_code_exact (retract t p) (retract u q) e =
    let b : (same_trm t u ≡ true) × (same_code p q ≡ true) = and_both (same_trm t u) (same_code p q) e in
    λ i. retract (same_trm-true t u b.0 i) (same_code_exact p q b.1 i)
same_code_exact (call f ts p) (call g us q) e =
    let b : ((bytes_eq f g && same_trms ts us) ≡ true) × (same_code p q ≡ true) = and_both (bytes_eq f g && same_trms ts us) (same_code p q) e in
    let c : (bytes_eq f g ≡ true) × (same_trms ts us ≡ true) = and_both (bytes_eq f g) (same_trms ts us) b.0 in
    λ i. call (bytes_eq-true f g c.0 i) (same_trms-true ts us c.1 i) (same_code_exact p q b.1 i)
same_code_exact (nest x p q) (nest y r s) e =
    let b : ((same_sort x y && same_code p r) ≡ true) × (same_code q s ≡ true) = and_both (same_sort x y && same_code p r) (same_code q s) e in
    let c : (same_sort x y ≡ true) × (same_code p r ≡ true) = and_both (same_sort x y) (same_code p r) b.0 in
    λ i. nest (same_sort-true x y c.0 i) (same_code_exact p r c.1 i) (same_code_exact q s b.1 i)
same_code_exact (atomic x p q) (atomic y r s) e =
    let b : ((same_sort x y && same_code p r) ≡ true) × (same_code q s ≡ true) = and_both (same_sort x y && same_code p r) (same_code q s) e in
    let c : (same_sort x y ≡ true) × (same_code p r ≡ true) = and_both (same_sort x y) (same_code p r) b.0 in
    λ i. atomic (same_sort-true x y c.0 i) (same_code_exact p r c.1 i) (same_code_exact q s b.1 i)
same_code_exact (par w x p q k) (par y z r s l) e =
    let sorts : Bool = same_sort w y && same_sort x z in
    let b : ((sorts && same_code p r && same_code q s) ≡ true) × (same_code k l ≡ true) = and_both (sorts && same_code p r && same_code q s) (same_code k l) e in
    let c : ((sorts && same_code p r) ≡ true) × (same_code q s ≡ true) = and_both (sorts && same_code p r) (same_code q s) b.0 in
    let d : (sorts ≡ true) × (same_code p r ≡ true) = and_both sorts (same_code p r) c.0 in
    let f : (same_sort w y ≡ true) × (same_sort x z ≡ true) = and_both (same_sort w y) (same_sort x z) d.0 in
    λ i. par (same_sort-true w y f.0 i) (same_sort-true x z f.1 i) (same_code_exact p r d.1 i) (same_code_exact q s c.1 i) (same_code_exact k l b.1 i)
same_code_exact _ _ e = cc

-- each program passes it with itself
pub same_code_same : (p : Code) → same_code p p ≡ true
same_code_same (ret t) = term_itself t
same_code_same (test t p q) =
    both_pass (same_trm t t && same_code p p) (same_code q q) (both_pass (same_trm t t) (same_code p p) (term_itself t) (same_code_same p)) (same_code_same q)
same_code_same (read x t p) =
    both_pass (same_sort x x && same_trm t t) (same_code p p) (both_pass (same_sort x x) (same_trm t t) (sort_itself x) (term_itself t)) (same_code_same p)
same_code_same (write t u p) =
    both_pass (same_trm t t && same_trm u u) (same_code p p) (both_pass (same_trm t t) (same_trm u u) (term_itself t) (term_itself u)) (same_code_same p)
same_code_same (alloc ts p) = both_pass (same_trms ts ts) (same_code p p) (terms_itself ts) (same_code_same p)
same_code_same (drop t p) = both_pass (same_trm t t) (same_code p p) (term_itself t) (same_code_same p)
same_code_same (publish t p) = both_pass (same_trm t t) (same_code p p) (term_itself t) (same_code_same p)
same_code_same (retract t p) = both_pass (same_trm t t) (same_code p p) (term_itself t) (same_code_same p)
same_code_same (call f ts p) =
    both_pass (bytes_eq f f && same_trms ts ts) (same_code p p) (both_pass (bytes_eq f f) (same_trms ts ts) (name_itself f) (terms_itself ts)) (same_code_same p)
same_code_same (nest x p q) =
    both_pass (same_sort x x && same_code p p) (same_code q q) (both_pass (same_sort x x) (same_code p p) (sort_itself x) (same_code_same p)) (same_code_same q)
same_code_same (atomic x p q) =
    both_pass (same_sort x x && same_code p p) (same_code q q) (both_pass (same_sort x x) (same_code p p) (sort_itself x) (same_code_same p)) (same_code_same q)
same_code_same (par x y p q k) =
    let sorts : Bool = same_sort x x && same_sort y y in
    let first : (sorts && same_code p p) ≡ true = both_pass sorts (same_code p p) (both_pass (same_sort x x) (same_sort y y) (sort_itself x) (sort_itself y)) (same_code_same p) in
    both_pass (sorts && same_code p p && same_code q q) (same_code k k) (both_pass (sorts && same_code p p) (same_code q q) first (same_code_same q)) (same_code_same k)

-- the test of bodies tells whether their programs are one, where no root is declared and no name is bound
pub same_program_exact : (x y : Body) → (same_program x y ≡ true) ↔ (code [] x [] ≡ code [] y [])
same_program_exact x y = (same_code_exact (code [] x []) (code [] y []), λ e. ap (same_code (code [] x [])) (sym e) ∙ same_code_same (code [] x []))
