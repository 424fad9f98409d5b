-- Lists, names with their sorts, and numbers: what is printed of them spells them.
use Rattle.std.proofs.Common.{◌≡◌, ℕ, suc, ◌+◌, ◌≤◌, ◌<◌, ap, sym, ◌∙◌, refl, arith, List, [], ◌∷◌, length, map, Some}
use Rattle.tht_tree.specs.declared.plain.Sort.{Sort}
use Rattle.tht_tree.specs.declared.plain.Sort.TheVariants as sorts
use Rattle.tht_tree.specs.declared.token.TokenKind.{TokenKind}
use Rattle.tht_tree.specs.declared.token.TokenKind.TheVariants as k
use Rattle.tht_tree.specs.declared.term.Term.{Term}
use Rattle.tht_tree.specs.declared.decl.Param.{Param}
use Rattle.tht_tree.specs.Values.{number_limit}
use Rattle.tht_tree.specs.Tokens.{Tok}
use Rattle.tht_tree.specs.Productions.{Rel, word as a_word, named, numbered, sorted, sort_of, part, gives, RoomAt, Entries, last_entry, more_entries, Listed, no_entries, entries}
use Rattle.tht_tree.specs.Grammar as g
use Rattle.tht_tree.specs.Grammar.{Nested, Tree, a_term}
use Rattle.tht_tree.specs.Layout.{Shape, word, Printed, sort_word, commas, term, arguments, param, numbers, one_number}
use Rattle.tht_layout.proofs.Prints.{IsName, Prints, prints_word, prints_name, prints_number, prints_sort, prints_part, prints_gives, AllPrint, no_items, one_more, prints_listed, prints_entries}
use Rattle.tht_layout.proofs.Good.{AllGood, Told, room_is}
use Rattle.tht_layout.proofs.TermRules.{inner_at, prints_inside, whole}
use Rattle.tht_layout.proofs.Terms.{TermAt, TermsInside, prints_term, few_open}

-- ---- items that were written

-- each item of a list was written so
pub data Each {A : Type 0} (Q : A → Type 0) : List A → Type 0 where
  none : Each Q []
  more : {x : A} {xs : List A} → Q x → Each Q xs → Each Q (x ∷ xs)

pub all_print : {A B : Type 0} {e : A → B} {I : Rel A} {p : A → Printed} {Q : A → Type 0} {xs : List A}
    → ((x : A) (rest : List Shape) → Q x → Prints e I (p x) x rest)
    → Each Q xs → AllPrint e I p xs
all_print f none = no_items
all_print f (more {x = x} q qs) = one_more (λ rest. f x rest q) (all_print f qs)

module _ {A : Type 0} (limit : ℕ) (I : Rel A) (Q : A → Type 0) (told : (i j : List Tok) (x : A) → AllGood i → I i x j → Told (Q x) j)
    (never : (j : List Tok) (x : A) → I [] x j → ⊥) where
  room_of : (n : ℕ) (i j : List Tok) (x : A) → AllGood i → RoomAt limit n i → I i x j → n < limit
  room_of n [] j x good room h = absurd (never j x h)
  room_of n (t ∷ ts) j x good room h = room_is t good.0 room

  pub entries_told : {n : ℕ} {i j : List Tok} {xs : List A} → AllGood i → Entries limit I n i xs j → Told (Each Q xs × (n + length xs ≤ limit)) j
  entries_told good (last_entry {n = n} {i = i} {j = j} {x = x} room h) =
      let few : n < limit = room_of n i j x good room h in
      let u = told _ _ _ good h in
      record { it = (more u.it none, (omega arith)); rest = u.rest }
  entries_told good (more_entries {n = n} {i = i} {x = x} {xs = xs} room h hs) =
      let u = told _ _ _ good h in
      let v = entries_told u.rest.1 hs in
      let few : suc n + length xs ≤ limit = v.it.1 in
      record { it = (more u.it v.it.0, (omega arith)); rest = v.rest }

  pub listed_told : {i j : List Tok} {xs : List A} → AllGood i → Listed limit I i xs j → Told (Each Q xs × (length xs ≤ limit)) j
  listed_told good no_entries = record { it = (none, (omega arith)); rest = good }
  listed_told good (entries {xs = xs} h) =
      let u = entries_told good h in
      let few : 0 + length xs ≤ limit = u.it.1 in
      record { it = (u.it.0, (omega arith)); rest = u.rest }

-- ---- names with their sorts

pub sort_from : (q : TokenKind) (z : Sort) → sort_of q ≡ Some z → q ≡ sort_word z
sort_from k.Nat z e = ap sort_word (some_sort e)
  where
    some_sort : {x y : Sort} → Some x ≡ Some y → x ≡ y
    some_sort h = cc
sort_from k.Bool z e = let s : sorts.Bool ≡ z = cc in ap sort_word s
sort_from k.Loc z e = let s : sorts.Loc ≡ z = cc in ap sort_word s
sort_from k.Unit z e = let s : sorts.Unit ≡ z = cc in ap sort_word s
sort_from k.Seq z e = let s : sorts.Seq ≡ z = cc in ap sort_word s
sort_from _ z e = cc

abbrev pub WellNamed : Param → Type 0
WellNamed x = IsName x.name

param_told : (i j : List Tok) (x : Param) → AllGood i → g.param i x j → Told (WellNamed x) j
param_told _ j _ good (named (a_word (sorted e gives))) = record { it = good.0.is_name refl; rest = good.1.1.1 }

never_param : (j : List Tok) (x : Param) → g.param [] x j → ⊥
never_param j x h = elim h [ ]

prints_param : (x : Param) (rest : List Shape) → WellNamed x → Prints (λ (y : Param). y) g.param (param x) x rest
prints_param x rest ok = prints_name x.name ok (prints_word k.Colon refl (prints_sort x.sort (prints_gives refl)))

pub params_told : (i j : List Tok) (xs : List Param) → AllGood i → Listed 16 g.param i xs j → Told (Each WellNamed xs × (length xs ≤ 16)) j
params_told i j xs good h = listed_told 16 g.param WellNamed param_told never_param good h

pub prints_params : (xs : List Param) (rest : List Shape) → Each WellNamed xs × (length xs ≤ 16)
    → Prints (map (λ (y : Param). y)) (Listed 16 g.param) (commas (map param xs)) xs rest
prints_params xs rest h = prints_listed (λ (y : Param). y) g.param param 16 xs rest h.1 (all_print prints_param h.0)

-- ---- numbers

abbrev pub Small : ℕ → Type 0
Small n = n < number_limit

number_told : (i j : List Tok) (n : ℕ) → AllGood i → g.number i n j → Told (Small n) j
number_told _ j _ good (numbered gives) = record { it = good.0.is_small refl; rest = good.1 }

never_number : (j : List Tok) (n : ℕ) → g.number [] n j → ⊥
never_number j n h = elim h [ ]

prints_one : (n : ℕ) (rest : List Shape) → Small n → Prints (λ (m : ℕ). m) g.number (one_number n) n rest
prints_one n rest ok = prints_number n ok (prints_gives refl)

pub map_same : {A : Type 0} (xs : List A) → map (λ (x : A). x) xs ≡ xs
map_same [] = refl
map_same (x ∷ xs) = ap (λ ys. x ∷ ys) (map_same xs)

pub nums_told : (i j : List Tok) (ns : List ℕ) → AllGood i → g.nums i ns j → Told (Each Small ns × (length ns ≤ 64)) j
nums_told _ j ns good (a_word (part h (a_word gives))) =
    let u = listed_told 64 g.number Small number_told never_number good.1 h in record { it = u.it; rest = u.rest.1 }

pub prints_nums : (ns : List ℕ) (rest : List Shape) → Each Small ns × (length ns ≤ 64) → Prints (λ (x : List ℕ). x) g.nums (numbers ns) ns rest
prints_nums ns rest h =
    prints_word k.LParen refl (prints_part (prints_listed (λ (m : ℕ). m) g.number one_number 64 ns (word k.RParen ∷ rest) h.1
    (all_print prints_one h.0))
    (λ z same. prints_word k.RParen refl (prints_gives (sym (map_same z) ∙ (same ∙ map_same ns)))))

-- ---- terms

-- a term that was written inside, where e constructs are open around it
abbrev pub Inner : ℕ → Term → Type 0
Inner e x = TermAt 0 (suc e) x

pub prints_inner : {e : ℕ} (x : Term) → Inner e x → (d : ℕ) (rest : List Shape) → d ≤ e → Prints whole (inner_at d a_term) (term x) x rest
prints_inner {e = e} x h d rest below =
    let few : suc e ≤ 100 = few_open 0 (suc e) x h in
    prints_inside a_term d (omega arith) (prints_term h (suc d) 0 rest (omega arith) (omega arith) (omega arith))

module _ (e : ℕ) (I : (n : Nested) → Rel (Tree n)) (inside : TermsInside e I) (never : (j : List Tok) (x : Term) → I a_term [] x j → ⊥) where
  pub terms_told : (limit : ℕ) (i j : List Tok) (ts : List Term) → AllGood i → Listed limit (I a_term) i ts j
      → Told (Each (Inner e) ts × (length ts ≤ limit)) j
  terms_told limit i j ts good h = listed_told limit (I a_term) (Inner e) inside.term never good h

  pub arguments_told : (i j : List Tok) (ts : List Term) → AllGood i → g.arguments I i ts j → Told (Each (Inner e) ts × (length ts ≤ 64)) j
  arguments_told _ j ts good (a_word (part h (a_word gives))) = let u = terms_told 64 _ _ _ good.1 h in record { it = u.it; rest = u.rest.1 }

pub prints_terms : {e : ℕ} (limit : ℕ) (ts : List Term) → Each (Inner e) ts × (length ts ≤ limit) → (d : ℕ) (rest : List Shape) → d ≤ e
    → Prints (map whole) (Listed limit (inner_at d a_term)) (commas (map term ts)) ts rest
prints_terms limit ts h d rest below = prints_listed whole (inner_at d a_term) term limit ts rest h.1
    (all_print (λ x more q. prints_inner x q d more below) h.0)

pub prints_arguments : {e : ℕ} (ts : List Term) → Each (Inner e) ts × (length ts ≤ 64) → (d : ℕ) (rest : List Shape) → d ≤ e
    → Prints (λ (x : List Term). x) (g.arguments (inner_at d)) (arguments ts) ts rest
prints_arguments ts h d rest below =
    prints_word k.LParen refl (prints_part (prints_terms 64 ts h d (word k.RParen ∷ rest) below)
    (λ z same. prints_word k.RParen refl (prints_gives (sym (map_same z) ∙ (same ∙ map_same ts)))))

-- the cells of an allocation: at least one
pub data Cells (e : ℕ) : List Term → Type 0 where
  cells : {x : Term} {xs : List Term} → Each (Inner e) (x ∷ xs) → length (x ∷ xs) ≤ 8 → Cells e (x ∷ xs)

cells_of : (e : ℕ) {I : Rel Term} {i j : List Tok} {ts : List Term} → Entries 8 I 0 i ts j → Each (Inner e) ts × (0 + length ts ≤ 8) → Cells e ts
cells_of e (last_entry room h) q = cells q.0 (let few : 0 + 1 ≤ 8 = q.1 in omega arith)
cells_of e (more_entries {xs = xs} room h hs) q = cells q.0 (let few : 0 + suc (length xs) ≤ 8 = q.1 in omega arith)

pub cells_told : (e : ℕ) (I : (n : Nested) → Rel (Tree n)) → TermsInside e I → ((j : List Tok) (x : Term) → I a_term [] x j → ⊥)
    → (i j : List Tok) (ts : List Term) → AllGood i
    → Entries 8 (I a_term) 0 i ts j → Told (Cells e ts) j
cells_told e I inside never i j ts good h =
    let u = entries_told 8 (I a_term) (Inner e) inside.term never good h in record { it = cells_of e h u.it; rest = u.rest }

pub prints_cells : {e : ℕ} (ts : List Term) → Cells e ts → (d : ℕ) (rest : List Shape) → d ≤ e
    → Prints (map whole) (Entries 8 (inner_at d a_term) 0) (commas (map term ts)) ts rest
prints_cells _ (cells {x = x} {xs = xs} h few) d rest below =
    prints_entries whole (inner_at d a_term) term 8 0 x xs rest (omega arith) (all_print (λ y more q. prints_inner y q d more below) h)

pub maps_same : (ts us : List Term) → map whole ts ≡ map whole us → ts ≡ us
maps_same ts us same = sym (map_same ts) ∙ (same ∙ map_same us)
