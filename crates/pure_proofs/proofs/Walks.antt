-- Lists that are gone through from their first item.
use Rattle.std.proofs.Common.{◌≡◌, ℕ, suc, ◌+◌, ◌<◌, List, [], ◌∷◌, ◌++◌, length, get_or, drop, drop-cons, add-one, refl, sym, ◌∙◌, ap, arith}
use Rattle.tht_tree.specs.Normal.Linear.{Inequality}
use Rattle.pure_proofs.specs.Rows.{in_rows}

-- what is left from the place i on, where x stands there
pub now_at : {A : Type 0} (xs : List A) (i : ℕ) (x : A) → i < length xs → x ≡ get_or xs i x → drop i xs ≡ x ∷ drop (i + 1) xs
now_at xs i x h e = drop-cons xs i x h ∙ ap (λ z. z ∷ drop (suc i) xs) (sym e) ∙ ap (λ k. x ∷ drop k xs) (sym (add-one i))

-- one more inequality with its multiplier
pub in_rows-push : (xs : List Inequality) (ks : List ℕ) (x : Inequality) (k : ℕ) → length xs ≡ length ks → in_rows (xs ++ x ∷ []) (ks ++ k ∷ []) ≡ in_rows xs ks ++ record { by = k; form = x } ∷ []
in_rows-push [] [] x k e = refl
in_rows-push [] (l ∷ ks) x k e = absurd (omega arith)
in_rows-push (y ∷ xs) [] x k e = absurd (omega arith)
in_rows-push (y ∷ xs) (l ∷ ks) x k e = ap (λ rs. record { by = l; form = y } ∷ rs) (in_rows-push xs ks x k (omega arith))
