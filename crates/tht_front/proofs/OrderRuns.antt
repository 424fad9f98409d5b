-- The first of the runs of an order.
use Rattle.std.proofs.Common.{◌≡◌, ℕ, ◌+◌, ◌==◌, inl, inr, true, false, List, [], ◌∷◌, ◌++◌, length, drop, refl, sym, ◌∙◌, ap, subst, arith, add-zero, append_assoc, get_or, ◌≤◌}
use Rattle.std.specs.List.{prefix_len}
use Rattle.std.proofs.lemmas.Bool.Decides.{eqb_tells}
use Rattle.tht_tree.specs.Lists.{is_nil}
use Rattle.tht_tree.specs.Texts.{joined, runs_of, run_text, run_lines, run_end, next_place}

-- how many entries at the front are this branch
abbrev pub leading : ℕ → List ℕ → ℕ
leading branch order = prefix_len (λ entry. entry == branch) order

drop-suc : (m c : ℕ) (order : List ℕ) → drop (1 + m) (c ∷ order) ≡ drop m order
drop-suc m c order = grind arith

-- a branch goes together with its entries at the front
pub joined_front : (b k : ℕ) (order : List ℕ) → joined b k (runs_of order) ≡ (b, k + leading b order) ∷ runs_of (drop (leading b order) order)
joined_front b k [] = grind arith
joined_front b k (c ∷ order) =
    let rest : runs_of (c ∷ order) ≡ (c, 1 + leading c order) ∷ runs_of (drop (leading c order) order) = joined_front c 1 order in
    elim (eqb_tells c b) [
      | inl t ↦ rw (rest, t.0) (subst (λ x. ((b, k + (1 + leading x order)) ∷ runs_of (drop (leading x order) order)) ≡ ((b, k + (1 + leading b order)) ∷ runs_of (drop (1 + leading b order) (c ∷ order)))) (sym t.1) (rw drop-suc refl))
      | inr t ↦ rw (rest, t.0) (rw add-zero (ap (λ r. (b, k) ∷ r) (sym rest)))
    ]

-- the text goes on with a run and what ends it
pub wrote_run : (old mid new run end tail whole : List ℕ) → mid ≡ old ++ run → new ≡ mid ++ end → old ++ (run ++ (end ++ tail)) ≡ whole → new ++ tail ≡ whole
wrote_run old mid new run end tail whole p q w = rw (q, p) (simp append_assoc w)

joined_some : (b k : ℕ) (runs : List (ℕ × ℕ)) → is_nil (joined b k runs) ≡ false
joined_some b k [] = refl
joined_some b k (run ∷ runs) =
    elim (eqb_tells run.0 b) [ inl t ↦ rw t.0 refl | inr t ↦ rw t.0 refl ]

-- an order is empty where it has no runs
pub none_left : (order : List ℕ) → (length order == 0) ≡ is_nil (runs_of order)
none_left [] = refl
none_left (b ∷ order) = grind (arith, joined_some b 1 (runs_of order))

same_test : (b : ℕ) → (b == b) ≡ true
same_test b = elim (eqb_tells b b) [ inl t ↦ t.0 | inr t ↦ absurd (t.1 refl) ]

first_line_of : (place b n : ℕ) (order : List ℕ) → n ≡ 1 + leading b order
    → run_lines place (joined b 1 (runs_of order))
    ≡ run_text (b, n) ++ (run_end place (length (drop n (b ∷ order)) == 0) ++ run_lines (next_place place) (runs_of (drop n (b ∷ order))))
first_line_of place b n order e = rw (e, drop-suc, joined_front b 1 order, none_left (drop (leading b order) order)) refl

-- the lines of an order are its first run, what ends it, and the lines of the rest
pub first_line : (place b n : ℕ) (order after : List ℕ) → 1 ≤ length order → b ≡ get_or order 0 0 → n ≡ leading b order → after ≡ drop n order
    → run_lines place (runs_of order) ≡ run_text (b, n) ++ (run_end place (length after == 0) ++ run_lines (next_place place) (runs_of after))
first_line place b n [] after some head count rest = absurd (omega arith)
first_line place b n (c ∷ order) after some head count rest =
    let same : b ≡ c = head in
    let counted : n ≡ leading c (c ∷ order) = subst (λ x. n ≡ leading x (c ∷ order)) same count in
    let more : n ≡ 1 + leading c order = counted ∙ rw (same_test c) refl in
    rw rest (rw same (first_line_of place c n order more))

-- the text goes on with a run, and the lines of the rest are still to come
pub goes_on : (old mid new whole : List ℕ) (place next b n : ℕ) (order after : List ℕ)
    → 1 ≤ length order → b ≡ get_or order 0 0 → n ≡ leading b order → after ≡ drop n order
    → mid ≡ old ++ run_text (b, n) → new ≡ mid ++ run_end place (length after == 0) → next ≡ next_place place
    → old ++ run_lines place (runs_of order) ≡ whole → new ++ run_lines next (runs_of after) ≡ whole
goes_on old mid new whole place next b n order after some head count rest run end step so_far =
    let line = first_line place b n order after some head count rest in
    rw step (wrote_run old mid new (run_text (b, n)) (run_end place (length after == 0)) (run_lines (next_place place) (runs_of after)) whole run end
    (ap (λ l. old ++ l) (sym line) ∙ so_far))
