-- What the productions of the grammar are made of. Each part is a relation between the tokens at hand, what they spell,
-- and the tokens that are left.
use Rattle.std.specs.Prelude.{◌≡◌, ℕ, suc, ◌≤◌, ◌<◌, true, List, [], ◌∷◌, Option, Some, None}
use Rattle.tht_tree.specs.declared.plain.Spot.{Spot}
use Rattle.tht_tree.specs.declared.plain.Sort.{Sort}
use Rattle.tht_tree.specs.declared.plain.Sort.TheVariants as sorts
use Rattle.tht_tree.specs.declared.token.TokenKind.{TokenKind}
use Rattle.tht_tree.specs.declared.token.TokenKind.TheVariants as k
use Rattle.tht_tree.specs.Tokens.{counts_at, deep, many, Mark, Info, Tok, tok, mark_of}

abbrev pub Rel : Type 0 → Type 1
Rel A = List Tok → A → List Tok → Type 0

-- ---- limits

-- At most 100 constructs are open at the first of these tokens, where that limit counts.
abbrev pub Within : ℕ → List Tok → Type 0
Within d [] = Unit {0}
Within d (t ∷ ts) = counts_at (mark_of t) deep ≡ true → d ≤ 100

-- There is room for one more after n, where the limit counts: what comes next begins with a token of this mark.
abbrev pub Room : ℕ → ℕ → Mark → Type 0
Room limit n m = counts_at m many ≡ true → n < limit

-- There is room for what begins with the first of these tokens.
abbrev pub RoomAt : ℕ → ℕ → List Tok → Type 0
RoomAt limit n [] = Unit {0}
RoomAt limit n (t ∷ ts) = Room limit n (mark_of t)

-- ---- sequences

-- no token, which spells a
pub data Gives {A : Type 0} (a : A) : List Tok → A → List Tok → Type 0 where
  gives : {i : List Tok} → Gives a i a i

-- a token of this kind, then R
pub data Word {A : Type 0} (q : TokenKind) (R : Rel A) : List Tok → A → List Tok → Type 0 where
  word : {w : Info} {i j : List Tok} {x : A} → R i x j → Word q R (tok q w ∷ i) x j

infixr 5 ◌▸◌
abbrev pub ◌▸◌ : {A : Type 0} → TokenKind → Rel A → Rel A
q ▸ R = Word q R

-- NAME, then R of its text
pub data Named {A : Type 0} (R : List ℕ → Rel A) : List Tok → A → List Tok → Type 0 where
  named : {w : Info} {i j : List Tok} {x : A} → R w.text i x j → Named R (tok k.Name w ∷ i) x j

-- NUM, then R of its value
pub data Numbered {A : Type 0} (R : ℕ → Rel A) : List Tok → A → List Tok → Type 0 where
  numbered : {w : Info} {i j : List Tok} {x : A} → R w.value i x j → Numbered R (tok k.Num w ∷ i) x j

-- sort = "nat" | "bool" | "loc" | "unit" | "seq"
abbrev pub sort_of : TokenKind → Option Sort
sort_of k.Nat = Some sorts.Nat
sort_of k.Bool = Some sorts.Bool
sort_of k.Loc = Some sorts.Loc
sort_of k.Unit = Some sorts.Unit
sort_of k.Seq = Some sorts.Seq
sort_of _ = None

-- a sort, then R of it
pub data Sorted {A : Type 0} (R : Sort → Rel A) : List Tok → A → List Tok → Type 0 where
  sorted : {q : TokenKind} {z : Sort} {w : Info} {i j : List Tok} {x : A} → sort_of q ≡ Some z → R z i x j → Sorted R (tok q w ∷ i) x j

-- P, then R of what it spells
pub data Part {A B : Type 0} (P : Rel A) (R : A → Rel B) : List Tok → B → List Tok → Type 0 where
  part : {i j l : List Tok} {x : A} {y : B} → P i x j → R x j y l → Part P R i y l

-- R of the spot of the next token
pub data Spotted {A : Type 0} (R : Spot → Rel A) : List Tok → A → List Tok → Type 0 where
  spotted : {q : TokenKind} {w : Info} {i j : List Tok} {x : A} → R w.spot (tok q w ∷ i) x j → Spotted R (tok q w ∷ i) x j

-- ---- operators

-- the trees of a table's operators, by their tokens
abbrev pub Operators : Type 0 → Type 0 → Type 0
Operators A B = Option TokenKind → Option (A → B → A)

-- first { operator item }*, which leans to the left, with so many operators
pub data Chain {A B : Type 0} (joins : Operators A B) (F : Rel A) (I : Rel B) : ℕ → List Tok → A → List Tok → Type 0 where
  chain_first : {i j : List Tok} {x : A} → F i x j → Chain joins F I 0 i x j
  chain_more : {n : ℕ} {q : TokenKind} {w : Info} {i j l : List Tok} {x : A} {y : B} {node : A → B → A} → Chain joins F I n i x (tok q w ∷ j)
      → joins (Some q) ≡ Some node → Room 64 n w.mark → I j y l → Chain joins F I (suc n) i (node x y) l

-- first (operator last)?
pub data Optional {A B : Type 0} (joins : Operators A B) (F : Rel A) (L : Rel B) : List Tok → A → List Tok → Type 0 where
  without : {i j : List Tok} {x : A} → F i x j → Optional joins F L i x j
  with_last : {q : TokenKind} {w : Info} {i j l : List Tok} {x : A} {y : B} {node : A → B → A} → F i x (tok q w ∷ j) → joins (Some q) ≡ Some node → L j y l
      → Optional joins F L i (node x y) l

-- ---- repetitions

-- item { "," item }*, after n entries of a list that may have so many
pub data Entries {A : Type 0} (limit : ℕ) (I : Rel A) : ℕ → List Tok → List A → List Tok → Type 0 where
  last_entry : {n : ℕ} {i j : List Tok} {x : A} → RoomAt limit n i → I i x j → Entries limit I n i (x ∷ []) j
  more_entries : {n : ℕ} {w : Info} {i j l : List Tok} {x : A} {xs : List A} → RoomAt limit n i → I i x (tok k.Comma w ∷ j) → Entries limit I (suc n) j xs l
      → Entries limit I n i (x ∷ xs) l

-- list(item), of at most so many entries
pub data Listed {A : Type 0} (limit : ℕ) (I : Rel A) : List Tok → List A → List Tok → Type 0 where
  no_entries : {i : List Tok} → Listed limit I i [] i
  entries : {i j : List Tok} {xs : List A} → Entries limit I 0 i xs j → Listed limit I i xs j

-- { item }*
pub data Many {A : Type 0} (I : Rel A) : List Tok → List A → List Tok → Type 0 where
  none : {i : List Tok} → Many I i [] i
  some : {i j l : List Tok} {x : A} {xs : List A} → I i x j → Many I j xs l → Many I i (x ∷ xs) l
