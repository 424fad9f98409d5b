-- The names of procs, which a set of texts keeps in order.
use Rattle.std.proofs.Common.{◌≡◌, ℕ, suc, ◌+◌, Bool, true, false, cond, ◌||◌, List, [], ◌∷◌, ◌++◌, length, map, slice_get, refl, sym, ◌∙◌, ap, Option, Some, None, arith}
use Rattle.std.specs.Prelude.{is_some, bytes_eq, unwrap_or, position as index_of}
use Rattle.std.specs.List.{list_any, position_from}
use Rattle.std.specs.Cmp.Lexicographic.{nat_list_eq_equiv}
use Rattle.std.proofs.lemmas.List.{map-append, length-map}
use Rattle.std.proofs.lemmas.Iterator.Adapters.{position_from-zero}
use Rattle.std.proofs.lemmas.Slice.Eq.{bytes_eq-Decides}
use Rattle.tht_tree.specs.Syntax.{Names, position}
use Rattle.code_form.specs.Files.{with_name}
use Rattle.code_form.specs.Lowering.{number_in}

pub turned : (x y : List ℕ) (b : Bool) → bytes_eq x y ≡ b → bytes_eq y x ≡ b
turned x y b e = sym (nat_list_eq_equiv.symm x y) ∙ e

-- ---- a set of texts

module _ {X : Type 0} (bytes : X → List ℕ) where
  index_is : (k : ℕ) (keys : List X) (f : List ℕ) → position k (map bytes keys) f ≡ position_from (λ x. bytes_eq f (bytes x)) k keys
  index_is k [] f = refl
  index_is k (x ∷ keys) f =
      ap (λ b. cond b (Some k) (position (suc k) (map bytes keys) f)) (turned f (bytes x) (bytes_eq f (bytes x)) refl) ∙
      ap (cond (bytes_eq f (bytes x)) (Some k)) (index_is (suc k) keys f ∙ ap (λ j. position_from (λ y. bytes_eq f (bytes y)) j keys) (omega arith))

  -- the number of a name is the place of its text
  pub number_is : (keys : List X) (f : List ℕ) → number_in (map bytes keys) f ≡ unwrap_or (index_of (λ x. bytes_eq f (bytes x)) keys) (length keys)
  number_is keys f =
      ap (λ o. unwrap_or o (length (map bytes keys))) (index_is 0 keys f ∙ sym (position_from-zero (λ x. bytes_eq f (bytes x)) keys)) ∙
      ap (unwrap_or (index_of (λ x. bytes_eq f (bytes x)) keys)) (length-map keys bytes)

  pub number_found : (keys : List X) (xs : Names) (f g : List ℕ) (o : Option ℕ) → o ≡ index_of (λ x. bytes_eq g (bytes x)) keys → g ≡ f → map bytes keys ≡ xs → unwrap_or o (length keys) ≡ number_in xs f
  number_found keys xs f g o e h n = ap (λ z. unwrap_or z (length keys)) e ∙ sym (number_is keys g) ∙ ap (number_in (map bytes keys)) h ∙ ap (λ z. number_in z f) n

  any_is : (k : ℕ) (keys : List X) (f : List ℕ) → is_some (position k (map bytes keys) f) ≡ list_any (λ x. bytes_eq f (bytes x)) keys
  any_is k [] f = refl
  any_is k (x ∷ keys) f =
      ap (λ b. is_some (cond b (Some k) (position (suc k) (map bytes keys) f))) (turned f (bytes x) (bytes_eq f (bytes x)) refl) ∙ by (bytes_eq f (bytes x)) (any_is (suc k) keys f)
    where
      by : (b : Bool) → is_some (position (suc k) (map bytes keys) f) ≡ list_any (λ y. bytes_eq f (bytes y)) keys
          → is_some (cond b (Some k) (position (suc k) (map bytes keys) f)) ≡ (b || list_any (λ y. bytes_eq f (bytes y)) keys)
      by true ih = refl
      by false ih = ih

  -- a text goes behind the others, unless it is there
  pub added_is : (keys : List X) (x : X) → map bytes (cond (list_any (λ y. bytes_eq (bytes x) (bytes y)) keys) keys (keys ++ x ∷ [])) ≡ with_name (map bytes keys) (bytes x)
  added_is keys x =
      by (list_any (λ y. bytes_eq (bytes x) (bytes y)) keys) ∙
      ap (λ b. cond b (map bytes keys) (map bytes keys ++ bytes x ∷ [])) (sym (any_is 0 keys (bytes x)))
    where
      by : (b : Bool) → map bytes (cond b keys (keys ++ x ∷ [])) ≡ cond b (map bytes keys) (map bytes keys ++ bytes x ∷ [])
      by true = refl
      by false = map-append bytes keys (x ∷ [])

  pub added_to : (keys now : List X) (x : X) (xs : Names) (f : List ℕ) → now ≡ cond (list_any (λ y. bytes_eq (bytes x) (bytes y)) keys) keys (keys ++ x ∷ []) → bytes x ≡ f → map bytes keys ≡ xs → map bytes now ≡ with_name xs f
  added_to keys now x xs f e h g = ap (map bytes) e ∙ added_is keys x ∙ ap (with_name (map bytes keys)) h ∙ ap (λ z. with_name z f) g

-- ---- which names there are

-- whether a name is in a list
abbrev pub has : Names → List ℕ → Bool
has [] f = false
has (x ∷ xs) f = bytes_eq x f || has xs f

pub has_is : (k : ℕ) (xs : Names) (f : List ℕ) → is_some (position k xs f) ≡ has xs f
has_is k [] f = refl
has_is k (x ∷ xs) f = by (bytes_eq x f) (has_is (suc k) xs f)
  where
    by : (b : Bool) → is_some (position (suc k) xs f) ≡ has xs f → is_some (cond b (Some k) (position (suc k) xs f)) ≡ (b || has xs f)
    by true ih = refl
    by false ih = ih

pub same_name : (f : List ℕ) → bytes_eq f f ≡ true
same_name f = (bytes_eq-Decides f f).1 refl

has_append : (xs : Names) (g f : List ℕ) → has (xs ++ g ∷ []) f ≡ (bytes_eq g f || has xs f)
has_append [] g f = refl
has_append (x ∷ xs) g f = ap (λ b. bytes_eq x f || b) (has_append xs g f) ∙ by (bytes_eq x f) (bytes_eq g f) (has xs f)
  where
    by : (a b c : Bool) → (a || (b || c)) ≡ (b || (a || c))
    by true true c = refl
    by true false c = refl
    by false b c = refl

pub has_with_name : (xs : Names) (g f : List ℕ) → has (with_name xs g) f ≡ (bytes_eq g f || has xs f)
has_with_name xs g f = by (is_some (position 0 xs g)) refl
  where
    known : (b : Bool) → bytes_eq g f ≡ b → has xs g ≡ true → has xs f ≡ (b || has xs f)
    known true e h = ap (has xs) (sym ((bytes_eq-Decides g f).0 e)) ∙ h
    known false e h = refl

    by : (b : Bool) → is_some (position 0 xs g) ≡ b → has (cond b xs (xs ++ g ∷ [])) f ≡ (bytes_eq g f || has xs f)
    by true e = known (bytes_eq g f) refl (sym (has_is 0 xs g) ∙ e)
    by false e = has_append xs g f

-- ---- each once

-- no name stands twice
abbrev pub Apart : Names → Type 0
Apart [] = Unit {0}
Apart (x ∷ xs) = (has xs x ≡ false) × Apart xs

apart_last : (xs : Names) (g : List ℕ) → Apart xs → has xs g ≡ false → Apart (xs ++ g ∷ [])
apart_last [] g a h = (refl, tt)
apart_last (x ∷ xs) g a h = by (bytes_eq x g) refl (apart_last xs g a.1) h
  where
    by : (b : Bool) → bytes_eq x g ≡ b → (has xs g ≡ false → Apart (xs ++ g ∷ [])) → (b || has xs g) ≡ false → Apart (x ∷ (xs ++ g ∷ []))
    by true e rest k = cc
    by false e rest k = (has_append xs g x ∙ ap (λ z. z || has xs x) (turned x g false e) ∙ a.0, rest k)

pub apart_more : (xs : Names) (g : List ℕ) → Apart xs → Apart (with_name xs g)
apart_more xs g a = by (is_some (position 0 xs g)) refl
  where
    by : (b : Bool) → is_some (position 0 xs g) ≡ b → Apart (cond b xs (xs ++ g ∷ []))
    by true e = a
    by false e = apart_last xs g a (sym (has_is 0 xs g) ∙ e)
