-- What is printed spells what it was printed from: one lemma for each relation that the productions are made of.
use Rattle.std.proofs.Common.{◌≡◌, ℕ, suc, ◌+◌, ◌≤◌, ◌<◌, ap, sym, subst, ◌∙◌, refl, arith, Bool, true, false, List, [], ◌∷◌, ◌++◌, length, map, Some}
use Rattle.tht_tree.specs.declared.plain.Spot.{Spot}
use Rattle.tht_tree.specs.declared.plain.Sort.{Sort}
use Rattle.tht_tree.specs.declared.plain.Sort.TheVariants as sorts
use Rattle.tht_tree.specs.declared.token.TokenKind.{TokenKind}
use Rattle.tht_tree.specs.declared.token.TokenKind.TheVariants as k
use Rattle.tht_tree.specs.Values.{number_limit}
use Rattle.tht_tree.specs.Tokens.{counts, Info, Tok, tok}
use Rattle.tht_tree.specs.Splitting.{letter, class_of, in_word, word_kind}
use Rattle.tht_tree.specs.Productions.{Rel, Room, RoomAt, Gives, gives, word as a_word, ◌▸◌, Named, named, Numbered, numbered, Sorted, sorted, sort_of, Part, part, Spotted, spotted, Operators, Chain, chain_more, Optional, with_last, Entries, last_entry, more_entries, Listed, no_entries, entries, Many, none, some}
use Rattle.tht_tree.specs.Layout.{Shape, word, name, number, Printed, sort_word, starts_with_star, commas, ended}

-- ---- printed tokens

abbrev pub is_word : TokenKind → Bool
is_word k.Name = false
is_word k.Num = false
is_word _ = true

abbrev pub AllInWord : List ℕ → Type 0
AllInWord [] = Unit {0}
AllInWord (b ∷ bs) = (in_word b ≡ true) × AllInWord bs

-- a text that is one name
pub record IsName (x : List ℕ) : Type 0 where
  pub first : ℕ
  pub others : List ℕ
  pub is : x ≡ first ∷ others
  pub starts : class_of first ≡ letter
  pub goes_on : AllInWord others
  pub short : length (first ∷ others) ≤ 64
  pub free : word_kind (first ∷ others) ≡ k.Name

-- a shape that is one token
abbrev pub IsProper : Shape → Type 0
IsProper (word q) = is_word q ≡ true
IsProper (name x) = IsName x
IsProper (number n) = n < number_limit

abbrev pub AllProper : List Shape → Type 0
AllProper [] = Unit {0}
AllProper (x ∷ xs) = IsProper x × AllProper xs

-- tokens of these shapes, at which all limits count
pub data Shows : List Tok → List Shape → Type 0 where
  shows_end : Shows [] []
  shows_word : {q : TokenKind} {w : Info} {ts : List Tok} {xs : List Shape} → w.mark ≡ counts → Shows ts xs → Shows (tok q w ∷ ts) (word q ∷ xs)
  shows_name : {x : List ℕ} {w : Info} {ts : List Tok} {xs : List Shape} → w.mark ≡ counts → w.text ≡ x → Shows ts xs
      → Shows (tok k.Name w ∷ ts) (name x ∷ xs)
  shows_number : {n : ℕ} {w : Info} {ts : List Tok} {xs : List Shape} → w.mark ≡ counts → w.value ≡ n → Shows ts xs
      → Shows (tok k.Num w ∷ ts) (number n ∷ xs)

-- ---- printing

-- Tokens at hand spell by R what x is, as e sees it, up to tokens of the shapes that follow.
pub record Put {A B : Type 0} (e : A → B) (R : Rel A) (x : A) (rest : List Shape) (ts : List Tok) : Type 0 where
  pub left : List Tok
  pub shown : Shows left rest
  pub value : A
  pub same : e value ≡ e x
  pub spelled : R ts value left

-- what p prints before these shapes spells x by R
pub record Prints {A B : Type 0} (e : A → B) (R : Rel A) (p : Printed) (x : A) (rest : List Shape) : Type 0 where
  pub proper : AllProper rest → AllProper (p rest)
  -- what follows stays behind it
  pub extends : (more : List Shape) → starts_with_star more ≡ false → p (rest ++ more) ≡ p rest ++ more
  pub spells : (ts : List Tok) → Shows ts (p rest) → Put e R x rest ts

-- what one relation spells the other does
pub prints_by : {A B : Type 0} {e : A → B} {R S : Rel A} {p : Printed} {x : A} {rest : List Shape}
    → ((i j : List Tok) (y : A) → R i y j → S i y j) → Prints e R p x rest → Prints e S p x rest
prints_by {e = e} {R = R} {S = S} {p = p} {x = x} {rest = rest} f h = record { proper = h.proper; extends = h.extends; spells = go }
  where
    go : (ts : List Tok) → Shows ts (p rest) → Put e S x rest ts
    go ts s = let g = h.spells ts s in record { left = g.left; shown = g.shown; value = g.value; same = g.same; spelled = f ts g.left g.value g.spelled }

-- the same where what is printed is equal
pub prints_as : {A B : Type 0} {e : A → B} {R : Rel A} {p q : Printed} {x : A} {rest : List Shape} → ((r : List Shape) → q r ≡ p r)
    → Prints e R p x rest → Prints e R q x rest
prints_as {p = p} {q = q} {rest = rest} same h =
    record {
      proper = λ g. let P : List Shape → Type 0 = AllProper in subst P (sym (same rest)) (h.proper g);
      extends = λ more s. same (rest ++ more) ∙ (h.extends more s ∙ sym (ap (λ (xs : List Shape). xs ++ more) (same rest)));
      spells = λ ts s. h.spells ts (let P : List Shape → Type 0 = Shows ts in subst P (same rest) s);
    }

pub prints_gives : {A B : Type 0} {e : A → B} {a x : A} {rest : List Shape} → e a ≡ e x → Prints e (Gives a) (λ after. after) x rest
prints_gives {a = a} same = record { proper = λ g. g; extends = λ more s. refl; spells = λ ts s. record { left = ts; shown = s; value = a; same = same; spelled = gives } }

pub prints_word : {A B : Type 0} {e : A → B} {R : Rel A} {p : Printed} {x : A} {rest : List Shape} (q : TokenKind) → is_word q ≡ true
    → Prints e R p x rest → Prints e (q ▸ R) (λ after. word q ∷ p after) x rest
prints_word {e = e} {R = R} {p = p} {x = x} {rest = rest} q w h = record {
  proper = λ g. (w, h.proper g);
  extends = λ more s. ap
      (λ (xs : List Shape). word q ∷ xs) (h.extends more s);
  spells = go;
}
  where
    go : (ts : List Tok) → Shows ts (word q ∷ p rest) → Put e (q ▸ R) x rest ts
    go _ (shows_word {ts = ts} m s) =
        let g = h.spells ts s in record { left = g.left; shown = g.shown; value = g.value; same = g.same; spelled = a_word g.spelled }

pub prints_name : {A B : Type 0} {e : A → B} {R : List ℕ → Rel A} {p : Printed} {x : A} {rest : List Shape} (n : List ℕ) → IsName n
    → Prints e (R n) p x rest → Prints e (Named R) (λ after. name n ∷ p after) x rest
prints_name {e = e} {R = R} {p = p} {x = x} {rest = rest} n ok h =
    record { proper = λ g. (ok, h.proper g); extends = λ more s. ap (λ (xs : List Shape). name n ∷ xs) (h.extends more s); spells = go }
  where
    go : (ts : List Tok) → Shows ts (name n ∷ p rest) → Put e (Named R) x rest ts
    go _ (shows_name {ts = ts} m is s) =
        let g = h.spells ts s in
        let P : List ℕ → Type 0 = λ y. R y ts g.value g.left in
        record { left = g.left; shown = g.shown; value = g.value; same = g.same; spelled = named (subst P (sym is) g.spelled) }

pub prints_number : {A B : Type 0} {e : A → B} {R : ℕ → Rel A} {p : Printed} {x : A} {rest : List Shape} (n : ℕ) → n < number_limit
    → Prints e (R n) p x rest → Prints e (Numbered R) (λ after. number n ∷ p after) x rest
prints_number {e = e} {R = R} {p = p} {x = x} {rest = rest} n ok h =
    record { proper = λ g. (ok, h.proper g); extends = λ more s. ap (λ (xs : List Shape). number n ∷ xs) (h.extends more s); spells = go }
  where
    go : (ts : List Tok) → Shows ts (number n ∷ p rest) → Put e (Numbered R) x rest ts
    go _ (shows_number {ts = ts} m is s) =
        let g = h.spells ts s in
        let P : ℕ → Type 0 = λ y. R y ts g.value g.left in
        record { left = g.left; shown = g.shown; value = g.value; same = g.same; spelled = numbered (subst P (sym is) g.spelled) }

sort_is_word : (z : Sort) → is_word (sort_word z) ≡ true
sort_is_word sorts.Nat = refl
sort_is_word sorts.Bool = refl
sort_is_word sorts.Loc = refl
sort_is_word sorts.Unit = refl
sort_is_word sorts.Seq = refl

sort_reads : (z : Sort) → sort_of (sort_word z) ≡ Some z
sort_reads sorts.Nat = refl
sort_reads sorts.Bool = refl
sort_reads sorts.Loc = refl
sort_reads sorts.Unit = refl
sort_reads sorts.Seq = refl

pub prints_sort : {A B : Type 0} {e : A → B} {R : Sort → Rel A} {p : Printed} {x : A} {rest : List Shape} (z : Sort)
    → Prints e (R z) p x rest → Prints e (Sorted R) (λ after. word (sort_word z) ∷ p after) x rest
prints_sort {e = e} {R = R} {p = p} {x = x} {rest = rest} z h =
    record {
      proper = λ g. (sort_is_word z, h.proper g);
      extends = λ more s. ap (λ (xs : List Shape). word (sort_word z) ∷ xs)
          (h.extends more s);
      spells = go;
    }
  where
    go : (ts : List Tok) → Shows ts (word (sort_word z) ∷ p rest) → Put e (Sorted R) x rest ts
    go _ (shows_word {ts = ts} m s) =
        let g = h.spells ts s in record {
          left = g.left;
          shown = g.shown;
          value = g.value;
          same = g.same;
          spelled = sorted
              (sort_reads z) g.spelled;
        }

-- a part, then what comes behind it for anything that is the same part
pub prints_part : {A B C D : Type 0} {d : C → D} {e : A → B} {P : Rel C} {R : C → Rel A} {p q : Printed} {y : C} {x : A} {rest : List Shape}
    → Prints d P p y (q rest) → ((z : C) → d z ≡ d y → Prints e (R z) q x rest) → Prints e (Part P R) (λ after. p (q after)) x rest
prints_part {d = d} {e = e} {P = P} {R = R} {p = p} {q = q} {y = y} {x = x} {rest = rest} h f =
    record { proper = λ g. h.proper ((f y refl).proper g); extends = λ more s. ap p ((f y refl).extends more s) ∙ h.extends more s; spells = go }
  where
    go : (ts : List Tok) → Shows ts (p (q rest)) → Put e (Part P R) x rest ts
    go ts s =
        let g = h.spells ts s in
        let u = (f g.value g.same).spells g.left g.shown in
        record { left = u.left; shown = u.shown; value = u.value; same = u.same; spelled = part g.spelled u.spelled }

-- where some token comes first, its spot
pub prints_spotted : {A B : Type 0} {e : A → B} {R : Spot → Rel A} {p : Printed} {x : A} {rest : List Shape}
    → ((spot : Spot) → Prints e (R spot) p x rest) → ((spot : Spot) (y : A) (j : List Tok) → R spot [] y j → ⊥) → Prints e (Spotted R) p x rest
prints_spotted {e = e} {R = R} {p = p} {x = x} {rest = rest} h never = record {
  proper = (h at_start).proper;
  extends =
      (h at_start).extends;
  spells = go;
}
  where
    at_start : Spot
    at_start = record { line = 0; column = 0 }

    go : (ts : List Tok) → Shows ts (p rest) → Put e (Spotted R) x rest ts
    go [] s = let g = (h at_start).spells [] s in absurd (never at_start g.value g.left g.spelled)
    go (tok q w ∷ ts) s =
        let g = (h w.spot).spells (tok q w ∷ ts) s in
        record { left = g.left; shown = g.shown; value = g.value; same = g.same; spelled = spotted g.spelled }

-- ---- operators

room_within : (limit n : ℕ) (w : Info) → n < limit → Room limit n w.mark
room_within limit n w h = λ _. h

-- a chain of at most so many operators
abbrev pub Few : {A C : Type 0} → ℕ → Operators A C → Rel A → Rel C → Rel A
Few c joins F I i x j = (n : ℕ) × (n ≤ c) × Chain joins F I n i x j

pub prints_link : {A B C D : Type 0} {e : A → B} {d : C
    → D} {joins : Operators A C} {F : Rel A} {I : Rel C} {p q : Printed} {x : A} {y : C} {rest : List Shape}
    (c : ℕ) (op : TokenKind) (node : A → C → A) → c < 64 → is_word op ≡ true → joins (Some op) ≡ Some node
    → ((x' : A) (y' : C) → e x' ≡ e x → d y' ≡ d y → e (node x' y') ≡ e (node x y))
    → Prints e (Few c joins F I) p x (word op ∷ q rest) → Prints d I q y rest
    → Prints e (Few (suc c) joins F I) (λ after. p (word op ∷ q after)) (node x y) rest
prints_link {A = A} {C = C} {e = e} {d = d} {joins = joins} {F = F} {I = I} {p = p} {q = q} {x = x} {y = y} {rest = rest} c op node few w is same h g =
    record {
      proper = λ ok. h.proper (w, g.proper ok);
      extends = λ more s. ap (λ (xs : List Shape). p (word op ∷ xs)) (g.extends more s)
          ∙ h.extends more s;
      spells = go;
    }
  where
    last : (ts ls : List Tok) (v : A) → e v ≡ e x → Few c joins F I ts v ls → Shows ls (word op ∷ q rest)
        → Put e (Few (suc c) joins F I) (node x y) rest ts
    last ts _ v one chain (shows_word {w = info} {ts = ls} m s) =
        let u = g.spells ls s in
        record {
          left = u.left;
          shown = u.shown;
          value = node v u.value;
          same = same v u.value one u.same;
          spelled = (suc chain.0, (omega arith), chain_more chain.2 is (room_within 64 chain.0 info (omega arith)) u.spelled);
        }

    go : (ts : List Tok) → Shows ts (p (word op ∷ q rest)) → Put e (Few (suc c) joins F I) (node x y) rest ts
    go ts s = let u = h.spells ts s in last ts u.left u.value u.same u.spelled u.shown

pub prints_pair : {A B C D : Type 0} {e : A → B} {d : C
    → D} {joins : Operators A C} {F : Rel A} {I : Rel C} {p q : Printed} {x : A} {y : C} {rest : List Shape}
    (op : TokenKind) (node : A → C → A) → is_word op ≡ true → joins (Some op) ≡ Some node
    → ((x' : A) (y' : C) → e x' ≡ e x → d y' ≡ d y → e (node x' y') ≡ e (node x y))
    → Prints e F p x (word op ∷ q rest) → Prints d I q y rest → Prints e (Optional joins F I) (λ after. p (word op ∷ q after)) (node x y) rest
prints_pair {A = A} {C = C} {e = e} {d = d} {joins = joins} {F = F} {I = I} {p = p} {q = q} {x = x} {y = y} {rest = rest} op node w is same h g =
    record {
      proper = λ ok. h.proper (w, g.proper ok);
      extends = λ more s. ap (λ (xs : List Shape). p (word op ∷ xs)) (g.extends more s)
          ∙ h.extends more s;
      spells = go;
    }
  where
    last : (ts ls : List Tok) (v : A) → e v ≡ e x → F ts v ls → Shows ls (word op ∷ q rest) → Put e (Optional joins F I) (node x y) rest ts
    last ts _ v one first (shows_word {ts = ls} m s) =
        let u = g.spells ls s in
        record { left = u.left; shown = u.shown; value = node v u.value; same = same v u.value one u.same; spelled = with_last first is u.spelled }

    go : (ts : List Tok) → Shows ts (p (word op ∷ q rest)) → Put e (Optional joins F I) (node x y) rest ts
    go ts s = let u = h.spells ts s in last ts u.left u.value u.same u.spelled u.shown

-- ---- repetitions

-- each item is printed, whatever follows it
pub data AllPrint {A B : Type 0} (e : A → B) (I : Rel A) (p : A → Printed) : List A → Type 0 where
  no_items : AllPrint e I p []
  one_more : {x : A} {xs : List A} → ((rest : List Shape) → Prints e I (p x) x rest) → AllPrint e I p xs → AllPrint e I p (x ∷ xs)

room_at : (limit n : ℕ) (i : List Tok) → n < limit → RoomAt limit n i
room_at limit n [] h = tt
room_at limit n (t ∷ ts) h = λ _. h

both : {B : Type 0} {x y : B} {xs ys : List B} → x ≡ y → xs ≡ ys → x ∷ xs ≡ y ∷ ys
both p q = cc

module _ {A B : Type 0} (e : A → B) (I : Rel A) (p : A → Printed) (limit : ℕ) where
  prints_entry : (n : ℕ) (x : A) (xs : List A) (q : Printed) (rest : List Shape) → n < limit → Prints e I (p x) x (word k.Comma ∷ q rest)
      → Prints (map e) (Entries limit I (suc n)) q xs rest → Prints (map e) (Entries limit I n) (λ after. p x (word k.Comma ∷ q after))
      (x ∷ xs) rest
  prints_entry n x xs q rest few first more =
      record {
        proper = λ ok. first.proper (refl, more.proper ok);
        extends = λ after s. ap (λ (ys : List Shape). p x (word k.Comma ∷ ys)) (more.extends after s) ∙ first.extends after s;
        spells = go;
      }
    where
      last : (ts ls : List Tok) (v : A) → e v ≡ e x → I ts v ls → Shows ls (word k.Comma ∷ q rest)
          → Put (map e) (Entries limit I n) (x ∷ xs) rest ts
      last ts _ v one item (shows_word {ts = ls} m s) =
          let u = more.spells ls s in
          record {
            left = u.left;
            shown = u.shown;
            value = v ∷ u.value;
            same = both one u.same;
            spelled = more_entries
                (room_at limit n ts few) item u.spelled;
          }

      go : (ts : List Tok) → Shows ts (p x (word k.Comma ∷ q rest)) → Put (map e) (Entries limit I n) (x ∷ xs) rest ts
      go ts s = let u = first.spells ts s in last ts u.left u.value u.same u.spelled u.shown

  pub prints_entries : (n : ℕ) (x : A) (xs : List A) (rest : List Shape) → n + suc (length xs) ≤ limit → AllPrint e I p (x ∷ xs)
      → Prints (map e) (Entries limit I n) (commas (map p (x ∷ xs))) (x ∷ xs) rest
  prints_entries n x [] rest few (one_more h hs) = record { proper = (h rest).proper; extends = (h rest).extends; spells = go }
    where
      go : (ts : List Tok) → Shows ts (p x rest) → Put (map e) (Entries limit I n) (x ∷ []) rest ts
      go ts s =
          let u = (h rest).spells ts s in
          record {
            left = u.left;
            shown = u.shown;
            value = u.value ∷ [];
            same = both u.same refl;
            spelled = last_entry
                (room_at limit n ts (omega arith)) u.spelled;
          }
  prints_entries n x (y ∷ ys) rest few (one_more h hs) =
      prints_entry n x (y ∷ ys) (commas (map p (y ∷ ys))) rest (omega arith) (h (word k.Comma ∷ commas (map p (y ∷ ys)) rest))
      (prints_entries (suc n) y ys rest (omega arith) hs)

  pub prints_listed : (xs : List A) (rest : List Shape) → length xs ≤ limit → AllPrint e I p xs
      → Prints (map e) (Listed limit I) (commas (map p xs)) xs rest
  prints_listed [] rest few h = record { proper = λ ok. ok; extends = λ more s. refl; spells = λ ts s. record { left = ts; shown = s; value = []; same = refl; spelled = no_entries } }
  prints_listed (x ∷ xs) rest few h = prints_by (λ i j y r. entries r) (prints_entries 0 x xs rest (omega arith) h)

-- items that each end with a `;`
abbrev pub Ended : {A : Type 0} → Rel A → Rel A
Ended I = Part I (λ x. k.Semicolon ▸ Gives x)

module _ {A B : Type 0} (e : A → B) (I : Rel A) (p : A → Printed) where
  prints_some : (x : A) (xs : List A) (q : Printed) (rest : List Shape) → Prints e (Ended I) (λ after. p x (word k.Semicolon ∷ after)) x (q rest)
      → Prints (map e) (Many (Ended I)) q xs rest → Prints (map e) (Many (Ended I)) (λ after. p x (word k.Semicolon ∷ q after)) (x ∷ xs) rest
  prints_some x xs q rest first more =
      record {
        proper = λ ok. first.proper (more.proper ok);
        extends = λ after s. ap (λ (ys : List Shape). p x (word k.Semicolon ∷ ys)) (more.extends after s) ∙ first.extends after s;
        spells = go;
      }
    where
      go : (ts : List Tok) → Shows ts (p x (word k.Semicolon ∷ q rest)) → Put (map e) (Many (Ended I)) (x ∷ xs) rest ts
      go ts s =
          let u = first.spells ts s in
          let v = more.spells u.left u.shown in
          record { left = v.left; shown = v.shown; value = u.value ∷ v.value; same = both u.same v.same; spelled = some u.spelled v.spelled }

  pub prints_many : (xs : List A) (rest : List Shape) → AllPrint e I p xs → Prints (map e) (Many (Ended I)) (ended (map p xs)) xs rest
  prints_many [] rest h = record { proper = λ ok. ok; extends = λ more s. refl; spells = λ ts s. record { left = ts; shown = s; value = []; same = refl; spelled = none } }
  prints_many (x ∷ xs) rest (one_more h hs) =
      prints_some x xs (ended (map p xs)) rest (prints_part (h (word k.Semicolon ∷ ended (map p xs) rest))
      (λ z same. prints_word k.Semicolon refl (prints_gives same)))
      (prints_many xs rest hs)
