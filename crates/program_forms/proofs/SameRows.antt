-- The rows of two programs are one exactly where the programs are.
use Rattle.std.proofs.Common.{◌≡◌, ◌==◌, ◌↔◌, IsTrue, Bool, true, false, ◌&&◌, List, [], ◌∷◌, refl, ap, ◌∙◌}
use Rattle.std.specs.Prelude.{bytes_eq}
use denote.Enum.Bare.{sameb}
use Rattle.tht_tree.specs.Syntax.{Op, add, sub, mul, cons, cat, eq, lt, le, conj, disj, imp, Trm, lit, free, bound, len, off, neg, op}
use Rattle.tht_tree.specs.Rules.Scoping.{same_sort}
use Rattle.tht_logic.specs.Programs.{Code, ret, test, read, write, alloc, drop, publish, retract, call, nest, atomic, par}
use Rattle.tht_logic.specs.Alike.{same_op, same_trm, same_trms}
use Rattle.tht_logic.specs.SamePrograms.{same_code}
use Rattle.program_forms.specs.contracts.row.Op.{the_type as the_ops}
use Rattle.program_forms.specs.Marks.{Mark, same_row}
use Rattle.program_forms.specs.Rows.{operation, trm_row, trms_row, code_row}

three : (a b c : Bool) → (a && (b && c)) ≡ ((a && b) && c)
three true b c = refl
three false b c = refl

four : (a b c d : Bool) → (a && (b && (c && d))) ≡ (((a && b) && c) && d)
four true b c d = three b c d
four false b c d = refl

six : (a b c d e f : Bool) → (a && (b && (c && (d && (e && f))))) ≡ (((((a && b) && c) && d) && e) && f)
six true true c d e f = four c d e f
six true false c d e f = refl
six false b c d e f = refl

alone : (a : Bool) → (a && true) ≡ a
alone true = refl
alone false = refl

same_ops : (p q : Op) → sameb the_ops (operation p) (operation q) ≡ same_op p q
same_ops add add = refl
same_ops sub sub = refl
same_ops mul mul = refl
same_ops cons cons = refl
same_ops cat cat = refl
same_ops eq eq = refl
same_ops lt lt = refl
same_ops le le = refl
same_ops conj conj = refl
same_ops disj disj = refl
same_ops imp imp = refl
same_ops _ _ = refl

trm_rows : (t u : Trm) (r s : List Mark) → same_row (trm_row t r) (trm_row u s) ≡ (same_trm t u && same_row r s)
trm_rows (lit x) (lit y) r s = refl
trm_rows (free x) (free y) r s = refl
trm_rows (bound k) (bound l) r s = refl
trm_rows (len a) (len b) r s = trm_rows a b r s
trm_rows (off k a) (off l b) r s = ap (λ c. (k == l) && c) (trm_rows a b r s) ∙ three (k == l) (same_trm a b) (same_row r s)
trm_rows (neg a) (neg b) r s = trm_rows a b r s
trm_rows (op p a c) (op q b d) r s =
    (λ i. same_ops p q i && trm_rows a b (trm_row c r) (trm_row d s) i)
    ∙ ap (λ z. same_op p q && (same_trm a b && z)) (trm_rows c d r s)
    ∙ four (same_op p q) (same_trm a b) (same_trm c d) (same_row r s)
trm_rows _ _ r s = refl

trms_rows : (ts us : List Trm) (r s : List Mark) → same_row (trms_row ts r) (trms_row us s) ≡ (same_trms ts us && same_row r s)
trms_rows [] [] r s = refl
trms_rows (t ∷ ts) (u ∷ us) r s =
    trm_rows t u (trms_row ts r) (trms_row us s) ∙ ap (λ z. same_trm t u && z) (trms_rows ts us r s) ∙ three (same_trm t u) (same_trms ts us) (same_row r s)
trms_rows [] (u ∷ us) r s = refl
trms_rows (t ∷ ts) [] r s = refl

code_rows : (p q : Code) (r s : List Mark) → same_row (code_row p r) (code_row q s) ≡ (same_code p q && same_row r s)
code_rows (ret t) (ret u) r s = trm_rows t u r s
code_rows (test t a b) (test u c d) r s =
    trm_rows t u (code_row a (code_row b r)) (code_row c (code_row d s))
    ∙ ap (λ z. same_trm t u && z) (code_rows a c (code_row b r) (code_row d s) ∙ ap (λ z. same_code a c && z) (code_rows b d r s))
    ∙ four (same_trm t u) (same_code a c) (same_code b d) (same_row r s)
code_rows (read x t p) (read y u q) r s =
    ap (λ z. same_sort x y && z) (trm_rows t u (code_row p r) (code_row q s) ∙ ap (λ z. same_trm t u && z) (code_rows p q r s))
    ∙ four (same_sort x y) (same_trm t u) (same_code p q) (same_row r s)
code_rows (write t a p) (write u b q) r s =
    trm_rows t u (trm_row a (code_row p r)) (trm_row b (code_row q s))
    ∙ ap (λ z. same_trm t u && z) (trm_rows a b (code_row p r) (code_row q s) ∙ ap (λ z. same_trm a b && z) (code_rows p q r s))
    ∙ four (same_trm t u) (same_trm a b) (same_code p q) (same_row r s)
code_rows (alloc ts p) (alloc us q) r s =
    trms_rows ts us (code_row p r) (code_row q s) ∙ ap (λ z. same_trms ts us && z) (code_rows p q r s) ∙ three (same_trms ts us) (same_code p q) (same_row r s)
code_rows (drop t p) (drop u q) r s =
    trm_rows t u (code_row p r) (code_row q s) ∙ ap (λ z. same_trm t u && z) (code_rows p q r s) ∙ three (same_trm t u) (same_code p q) (same_row r s)
code_rows (publish t p) (publish u q) r s =
    trm_rows t u (code_row p r) (code_row q s) ∙ ap (λ z. same_trm t u && z) (code_rows p q r s) ∙ three (same_trm t u) (same_code p q) (same_row r s)
code_rows (retract t p) (retract u q) r s =
    trm_rows t u (code_row p r) (code_row q s) ∙ ap (λ z. same_trm t u && z) (code_rows p q r s) ∙ three (same_trm t u) (same_code p q) (same_row r s)
code_rows (call f ts p) (call g us q) r s =
    ap (λ z. bytes_eq f g && z) (trms_rows ts us (code_row p r) (code_row q s) ∙ ap (λ z. same_trms ts us && z) (code_rows p q r s))
    ∙ four (bytes_eq f g) (same_trms ts us) (same_code p q) (same_row r s)
code_rows (nest x a p) (nest y b q) r s =
    ap (λ z. same_sort x y && z) (code_rows a b (code_row p r) (code_row q s) ∙ ap (λ z. same_code a b && z) (code_rows p q r s))
    ∙ four (same_sort x y) (same_code a b) (same_code p q) (same_row r s)
code_rows (atomic x a p) (atomic y b q) r s =
    ap (λ z. same_sort x y && z) (code_rows a b (code_row p r) (code_row q s) ∙ ap (λ z. same_code a b && z) (code_rows p q r s))
    ∙ four (same_sort x y) (same_code a b) (same_code p q) (same_row r s)
code_rows (par w x a c p) (par y z b d q) r s =
    ap (λ k. same_sort w y && (same_sort x z && k))
    (code_rows a b (code_row c (code_row p r)) (code_row d (code_row q s))
    ∙ ap (λ k. same_code a b && k) (code_rows c d (code_row p r) (code_row q s) ∙ ap (λ k. same_code c d && k) (code_rows p q r s)))
    ∙ six (same_sort w y) (same_sort x z) (same_code a b) (same_code c d) (same_code p q) (same_row r s)
code_rows _ _ r s = refl

-- two programs are one exactly where their rows are
pub rows_decide : (p q : Code) → same_row (code_row p []) (code_row q []) ≡ same_code p q
rows_decide p q = code_rows p q [] [] ∙ alone (same_code p q)

-- where the one row is at its end, the other has to be
pub ended : (b : Bool) (ms : List Mark) → IsTrue b ↔ (ms ≡ []) → b ≡ same_row [] ms
ended true [] e = refl
ended false [] e = let z : IsTrue false = e.1 refl in cc
ended true (m ∷ ms) e = let z : (m ∷ ms) ≡ [] = e.0 refl in cc
ended false (m ∷ ms) e = refl
