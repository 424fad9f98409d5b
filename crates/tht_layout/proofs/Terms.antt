-- What is printed of a term spells it, at any place where the term was written.
use Rattle.std.proofs.Common.{◌≡◌, ℕ, zero, suc, ◌+◌, ◌≤◌, ◌<◌, ap, subst, refl, arith, true, false, ◌⊎◌, inl, inr, List, [], ◌∷◌, Some, None, lit≤, lit<}
use Rattle.tht_tree.specs.declared.token.TokenKind.{TokenKind}
use Rattle.tht_tree.specs.declared.token.TokenKind.TheVariants as k
use Rattle.tht_tree.specs.declared.term.Term.{Term}
use Rattle.tht_tree.specs.declared.term.Term.TheVariants as t
use Rattle.tht_tree.specs.Values.{number_limit}
use Rattle.tht_tree.specs.Tokens.{Tok, tok}
use Rattle.tht_tree.specs.Productions.{Rel, Within, word as a_word, named, numbered, part, Gives, gives, Operators, Chain, chain_first, chain_more, Optional, without, with_last}
use Rattle.tht_tree.specs.Grammar as g
use Rattle.tht_tree.specs.Grammar.{Nested, Tree, a_term, after_not, after_link, after_len, an_assn, after_either, a_proof, a_give, after_prefix, a_body, an_offset, PrimForm, prim_num, prim_true, prim_false, prim_null, prim_nil, prim_name, prim_unit, prim_paren, prim_len, neg_not, neg_cmp, implies, ors, ands, compares, links, adds, muls, dots}
use Rattle.tht_tree.specs.Layout.{Shape, word, name, number, Printed, single, at, joined, pair, off, shown_term}
use Rattle.tht_grammar.specs.Words.{begins}
use Rattle.tht_grammar.proofs.Beginnings.{spells_some, production_begins}
use Rattle.tht_layout.proofs.Prints.{is_word, Prints, Put, Shows, shows_number, prints_by, prints_word, prints_name, prints_number, prints_part, prints_gives, prints_pair, Few}
use Rattle.tht_layout.proofs.Printing as show
use Rattle.tht_layout.proofs.Written.{Written, Chained, chained_written, written_chained, in_parens, operand, written_node, chained_link}
use Rattle.tht_layout.proofs.Good.{AllGood, Told, room_is, depth_is}
use Rattle.tht_layout.proofs.TermRules.{inner_at, prints_inside, whole, rule, down, lower, wrap}

-- ---- operators by their tables

pub some_same : {A : Type 0} {x y : A} → Some x ≡ Some y → x ≡ y
some_same h = cc

pub dots_only : (P : TokenKind → (Term → ℕ → Term) → Type 0) → P k.Dot t.Offset → (q : TokenKind) (node : Term → ℕ → Term)
    → dots (Some q) ≡ Some node → P q node
dots_only P h k.Dot node e = subst (P k.Dot) (some_same e) h
dots_only P h _ node e = cc

muls_only : (P : TokenKind → (Term → Term → Term) → Type 0) → P k.Star t.Mul → (q : TokenKind) (node : Term → Term → Term)
    → muls (Some q) ≡ Some node → P q node
muls_only P h k.Star node e = subst (P k.Star) (some_same e) h
muls_only P h _ node e = cc

ands_only : (P : TokenKind → (Term → Term → Term) → Type 0) → P k.And t.And → (q : TokenKind) (node : Term → Term → Term)
    → ands (Some q) ≡ Some node → P q node
ands_only P h k.And node e = subst (P k.And) (some_same e) h
ands_only P h _ node e = cc

ors_only : (P : TokenKind → (Term → Term → Term) → Type 0) → P k.Or t.Or → (q : TokenKind) (node : Term → Term → Term) → ors (Some q) ≡ Some node
    → P q node
ors_only P h k.Or node e = subst (P k.Or) (some_same e) h
ors_only P h _ node e = cc

implies_only : (P : TokenKind → (Term → Term → Term) → Type 0) → P k.Imp t.Imp → (q : TokenKind) (node : Term → Term → Term)
    → implies (Some q) ≡ Some node → P q node
implies_only P h k.Imp node e = subst (P k.Imp) (some_same e) h
implies_only P h _ node e = cc

adds_only : (P : TokenKind → (Term → Term → Term) → Type 0) → P k.Plus t.Add → P k.Minus t.Sub → (q : TokenKind) (node : Term → Term → Term)
    → adds (Some q) ≡ Some node
    → P q node
adds_only P h i k.Plus node e = subst (P k.Plus) (some_same e) h
adds_only P h i k.Minus node e = subst (P k.Minus) (some_same e) i
adds_only P h i _ node e = cc

links_only : (P : TokenKind → (Term → Term → Term) → Type 0) → P k.Link t.Cons → P k.Join t.Cat → (q : TokenKind) (node : Term → Term → Term)
    → links (Some q) ≡ Some node
    → P q node
links_only P h i k.Link node e = subst (P k.Link) (some_same e) h
links_only P h i k.Join node e = subst (P k.Join) (some_same e) i
links_only P h i _ node e = cc

compares_only : (P : TokenKind → (Term → Term → Term) → Type 0) → P k.Equal t.Eq → P k.Less t.Lt → P k.LessEqual t.Le
    → (q : TokenKind) (node : Term → Term → Term)
    → compares (Some q) ≡ Some node → P q node
compares_only P h i l k.Equal node e = subst (P k.Equal) (some_same e) h
compares_only P h i l k.Less node e = subst (P k.Less) (some_same e) i
compares_only P h i l k.LessEqual node e = subst (P k.LessEqual) (some_same e) l
compares_only P h i l _ node e = cc

le_same : (n : ℕ) → n ≤ n
le_same n = omega arith

pub by_gives : {A : Type 0} {a : A} {i j : List Tok} {x : A} (P : A → List Tok → Type 0) → Gives a i x j → P a i → P x j
by_gives P gives p = p

-- ---- what was written

-- a term that was written at a place of this rank, and as a chain of this rank
abbrev pub TermAt : ℕ → ℕ → Term → Type 0
TermAt rank depth x = Written whole shown_term rule rank depth true x

abbrev pub TermChain : ℕ → ℕ → ℕ → Term → Type 0
TermChain rank depth n x = Chained whole shown_term rule rank depth n true x

-- a looser place
loosen : (rank less depth : ℕ) (x : Term) → less ≤ rank → TermAt rank depth x → TermAt less depth x
loosen rank less depth x le h =
    record { inner = h.inner; within = h.within; count = h.count; few = h.few; ends = h.ends; fits = h.fits; stood = go h.stood }
  where
    go : ((h.inner ≡ depth) × (rank ≤ (shown_term x).rank) × (h.ends ≡ true)) ⊎ (suc depth ≤ h.inner)
        → ((h.inner ≡ depth) × (less ≤ (shown_term x).rank) × (h.ends ≡ true)) ⊎ (suc depth ≤ h.inner)
    go (inl p) = inl (p.0, (omega arith), p.2)
    go (inr p) = inr p

pub few_open : (rank depth : ℕ) (x : Term) → TermAt rank depth x → depth ≤ 100
few_open rank depth x h = go h.stood
  where
    go : ((h.inner ≡ depth) × (rank ≤ (shown_term x).rank) × (h.ends ≡ true)) ⊎ (suc depth ≤ h.inner) → depth ≤ 100
    go (inl p) = let fits : h.inner ≤ 100 = h.within in omega arith
    go (inr p) = let fits : h.inner ≤ 100 = h.within in omega arith

-- what is printed of it at a place of its rank or a lower one
pub prints_term : {rank depth : ℕ} {x : Term} → TermAt rank depth x → (d less : ℕ) (rest : List Shape) → less ≤ 9 → d ≤ depth → less ≤ rank
    → Prints whole (rule d less 64) (at less (shown_term x)) x rest
prints_term h d less rest high below le = operand whole shown_term rule 9 wrap h d less rest high below le (inr (inl refl))

-- a place of a cell, or what one holds
pub prints_off : {e : ℕ} (x : Term) → TermAt 8 e x → (d : ℕ) (rest : List Shape) → d ≤ e → Prints whole (g.off (inner_at d)) (off x) x rest
prints_off x h d rest below = prints_by (λ i j z r. (r.0, r.2)) (prints_term h d 8 rest (lit≤ tt) below (lit≤ tt))

pub prints_offset : (n : ℕ) (rest : List Shape) → n ≤ 7 → Prints (λ (m : ℕ). m) g.Offset (λ after. number n ∷ after) n rest
prints_offset n rest small = record { proper = λ ok. ((omega arith), ok); extends = λ more s. refl; spells = go }
  where
    go : (ts : List Tok) → Shows ts (number n ∷ rest) → Put (λ (m : ℕ). m) g.Offset n rest ts
    go _ (shows_number {w = w} {ts = ts} m is s) =
        let low : w.value ≤ 7 = rw is small in record { left = ts; shown = s; value = w.value; same = is; spelled = an_offset low }

-- what the constructs inside were told of, where e constructs are open around them
pub record TermsInside (e : ℕ) (I : (n : Nested) → Rel (Tree n)) : Type 0 where
  pub term : (i j : List Tok) (x : Term) → AllGood i → I a_term i x j → Told (TermAt 0 (suc e) x) j
  pub neg : (i j : List Tok) (x : Term) → AllGood i → I after_not i x j → Told (TermAt 3 (suc e) x) j
  pub app : (i j : List Tok) (x : Term) → AllGood i → I after_link i x j → Told (TermAt 5 (suc e) x) j
  pub prim : (i j : List Tok) (x : Term) → AllGood i → I after_len i x j → Told (TermAt 9 (suc e) x) j

module _ (e : ℕ) (within : e ≤ 100) (I : (n : Nested) → Rel (Tree n)) (inside : TermsInside e I) where
  -- a node that is no chain
  node : (x : Term) (rank : ℕ) (p : Printed) → shown_term x ≡ single rank p → rank ≤ 9
      → ((d room : ℕ) (rest : List Shape) → d ≤ e → Prints whole (rule d rank room) p x rest) → TermAt rank e x
  node x rank p is high h =
      written_node whole shown_term rule 9 wrap lower x (single rank p) is high e 0 true
      (λ d room rest below some few fit follow. h d room rest below) within (omega arith)

  prim_told : (f : PrimForm) (i j : List Tok) (x : Term) → AllGood i → g.prim_form I f i x j → Told (TermAt 9 e x) j
  prim_told prim_num _ j _ good (numbered {w = w} gives) =
      let small : w.value < number_limit = good.0.is_small refl in
      record {
        it = node (t.Num w.value) 9 (λ rest. number w.value ∷ rest) (show.shown_Num w.value) (lit≤ tt)
            (λ d room rest below. prints_by (λ i j y r. (prim_num, r)) (prints_number w.value small (prints_gives refl)));
        rest = good.1;
      }
  prim_told prim_true _ j _ good (a_word gives) =
      record {
        it = node t.True 9 (λ rest. word k.True ∷ rest) show.shown_True (lit≤ tt)
            (λ d room rest below. prints_by (λ i j y r. (prim_true, r)) (prints_word k.True refl (prints_gives refl)));
        rest = good.1;
      }
  prim_told prim_false _ j _ good (a_word gives) =
      record {
        it = node t.False 9 (λ rest. word k.False ∷ rest) show.shown_False (lit≤ tt)
            (λ d room rest below. prints_by (λ i j y r. (prim_false, r)) (prints_word k.False refl (prints_gives refl)));
        rest = good.1;
      }
  prim_told prim_null _ j _ good (a_word gives) =
      record {
        it = node t.Null 9 (λ rest. word k.Null ∷ rest) show.shown_Null (lit≤ tt)
            (λ d room rest below. prints_by (λ i j y r. (prim_null, r)) (prints_word k.Null refl (prints_gives refl)));
        rest = good.1;
      }
  prim_told prim_nil _ j _ good (a_word gives) =
      record {
        it = node t.Nil 9 (λ rest. word k.Nil ∷ rest) show.shown_Nil (lit≤ tt)
            (λ d room rest below. prints_by (λ i j y r. (prim_nil, r)) (prints_word k.Nil refl (prints_gives refl)));
        rest = good.1;
      }
  prim_told prim_name _ j _ good (named {w = w} gives) =
      record {
        it = node (t.Var w.text) 9 (λ rest. name w.text ∷ rest) (show.shown_Var w.text) (lit≤ tt)
            (λ d room rest below. prints_by (λ i j y r. (prim_name, r)) (prints_name w.text (good.0.is_name refl) (prints_gives refl)));
        rest = good.1;
      }
  prim_told prim_unit _ j _ good (a_word (a_word gives)) =
      record {
        it = node t.Unit 9 (λ rest. word k.LParen ∷ word k.RParen ∷ rest) show.shown_Unit (lit≤ tt)
            (λ d room rest below. prints_by (λ i j y r. (prim_unit, r))
            (prints_word k.LParen refl (prints_word k.RParen refl (prints_gives refl))));
        rest = good.1.1;
      }
  prim_told prim_paren _ j x good (a_word (part h (a_word gives))) =
      let u = inside.term _ _ _ good.1 h in record { it = in_parens whole shown_term rule 9 true u.it; rest = u.rest.1 }
  prim_told prim_len _ j x good (a_word (part {x = y} h r)) =
      let u = inside.prim _ _ _ good.1 h in
      let few : suc e ≤ 100 = few_open 9 (suc e) y u.it in
      by_gives (λ z l. Told (TermAt 9 e z) l) r
      (record {
        it = node (t.Len y) 9 (λ rest. word k.Len ∷ at 9 (shown_term y) rest) (show.shown_Len y) (lit≤ tt)
            (λ d room rest below. prints_by (λ i j z r. (prim_len, r))
            (prints_word k.Len refl (prints_part (prints_inside after_len d (omega arith)
            (prints_term u.it (suc d) 9 rest (lit≤ tt) (omega arith) (lit≤ tt)))
            (λ z same. prints_gives (ap t.Len same)))));
        rest = u.rest;
      })

  -- a chain of one rank: its parts are written one rank higher, and each of its operators makes a longer chain
  module _ {C : Type 0} (rank : ℕ) (joins : Operators Term C) (F : Rel Term) (J : Rel C) (Item : C → Type 0)
      (first : (i j : List Tok) (x : Term) → AllGood i → F i x j → Told (TermAt (suc rank) e x) j)
      (item : (i j : List Tok) (y : C) → AllGood i → J i y j → Told (Item y) j)
      (link : (q : TokenKind) (made : Term → C → Term) → joins (Some q) ≡ Some made → (x : Term) (y : C) (n : ℕ) → suc n ≤ 64
      → TermChain rank e n x → Item y
      → TermChain rank e (suc n) (made x y)) where
    chain_told : {n : ℕ} {i j : List Tok} {x : Term} → AllGood i → Chain joins F J n i x j → Told ((n ≤ 64) × TermChain rank e n x) j
    chain_told good (chain_first h) =
        let u = first _ _ _ good h in record { it = ((lit≤ tt), written_chained whole shown_term rule u.it); rest = u.rest }
    chain_told good (chain_more {n = n} {q = q} {w = w} {x = x} {y = y} {node = made} h is room r) =
        let u = chain_told good h in
        let few : n < 64 = room_is (tok q w) u.rest.0 room in
        let v = item _ _ _ u.rest.1 r in
        record { it = ((omega arith), link q made is x y n (omega arith) u.it.1 v.it); rest = v.rest }

    -- a chain of some length, as it was written
    chains_told : (i j : List Tok) (x : Term) → AllGood i → ((n : ℕ) × Chain joins F J n i x j) → Told (TermAt rank e x) j
    chains_told i j x good h = let u = chain_told good h.1 in record { it = chained_written whole shown_term rule u.it.1; rest = u.rest }

  prims_told : (i j : List Tok) (x : Term) → AllGood i → g.prim I i x j → Told (TermAt 9 e x) j
  prims_told i j x good h = prim_told h.0 i j x good h.1

  -- ---- offsets

  pub offset_told : (i j : List Tok) (n : ℕ) → AllGood i → g.Offset i n j → Told (n ≤ 7) j
  offset_told _ j _ good (an_offset small) = record { it = small; rest = good.1 }

  offset_link : (q : TokenKind) (made : Term → ℕ → Term) → dots (Some q) ≡ Some made → (x : Term) (y n : ℕ) → suc n ≤ 64 → TermChain 8 e n x → y ≤ 7
      → TermChain 8 e (suc n) (made x y)
  offset_link q made is x y n few h small =
      dots_only (λ op m. TermChain 8 e (suc n) (m x y))
      (chained_link whole shown_term rule 9 wrap lower (λ (m : ℕ). m) dots (λ d. g.prim (inner_at d)) (λ d. g.Offset) 8 (lit≤ tt)
      (λ d room i j z r. down 8 d 64 room i j z (lit< tt) r) (λ d room i j z r. r) (λ d room i j z r. r)
      k.Dot t.Offset x y (λ after. number y ∷ after) e n true refl refl (λ x' y' p r. cc) (show.shown_Offset x y) within few h
      (λ d rest below follow. prints_offset y rest small))
      q made is

  pub off_told : (i j : List Tok) (x : Term) → AllGood i → g.off I i x j → Told (TermAt 8 e x) j
  off_told = chains_told 8 dots (g.prim I) g.Offset (λ n. n ≤ 7) prims_told offset_told offset_link

  -- ---- chains of operators

  module _ (rank : ℕ) (high : rank + 1 ≤ 9) (joins : Operators Term Term) (F : ℕ → Rel Term)
      (first : (d room : ℕ) (i j : List Tok) (y : Term) → rule d (rank + 1) 64 i y j → rule d rank room i y j)
      (into : (d room : ℕ) (i j : List Tok) (y : Term) → Few room joins (F d) (F d) i y j → rule d rank room i y j)
      (out : (d room : ℕ) (i j : List Tok) (y : Term) → rule d rank room i y j → Few room joins (F d) (F d) i y j)
      (whole_part : (d : ℕ) (i j : List Tok) (y : Term) → rule d (rank + 1) 64 i y j → F d i y j) where
    op_link : (op : TokenKind) (made : Term → Term → Term) → is_word op ≡ true → joins (Some op) ≡ Some made
        → ((x y : Term) → shown_term (made x y) ≡ joined rank op (shown_term x) (shown_term y))
        → (x y : Term) (n : ℕ) → suc n ≤ 64 → TermChain rank e n x → TermAt (rank + 1) e y → TermChain rank e (suc n) (made x y)
    op_link op made w is shows x y n few h v =
        chained_link whole shown_term rule 9 wrap lower whole joins F F rank high first into out op made x y
        (at (rank + 1) (shown_term y)) e n true w is
        (λ x' y' p r. cc) (shows x y) within few h
        (λ d rest below follow. prints_by (whole_part d) (prints_term v d (rank + 1) rest high below (omega arith)))

  prod_link : (q : TokenKind) (made : Term → Term → Term) → muls (Some q) ≡ Some made → (x y : Term) (n : ℕ) → suc n ≤ 64 → TermChain 7 e n x
      → TermAt 8 e y
      → TermChain 7 e (suc n) (made x y)
  prod_link q made is x y n few h v =
      muls_only (λ op m. TermChain 7 e (suc n) (m x y))
      (op_link 7 (lit≤ tt) muls (λ d. g.off (inner_at d)) (λ d room i j z r. down 7 d 64 room i j z (lit< tt) r) (λ d room i j z r. r)
      (λ d room i j z r. r)
      (λ d i j z r. (r.0, r.2)) k.Star t.Mul refl refl show.shown_Mul x y n few h v)
      q made is

  prod_told : (i j : List Tok) (x : Term) → AllGood i → g.prod I i x j → Told (TermAt 7 e x) j
  prod_told = chains_told 7 muls (g.off I) (g.off I) (TermAt 8 e) off_told off_told prod_link

  sum_op : (op : TokenKind) (made : Term → Term → Term) → is_word op ≡ true → adds (Some op) ≡ Some made
      → ((x y : Term) → shown_term (made x y) ≡ joined 6 op (shown_term x) (shown_term y))
      → (x y : Term) (n : ℕ) → suc n ≤ 64 → TermChain 6 e n x → TermAt 7 e y → TermChain 6 e (suc n) (made x y)
  sum_op =
      op_link 6 (lit≤ tt) adds (λ d. g.prod (inner_at d)) (λ d room i j z r. down 6 d 64 room i j z (lit< tt) r) (λ d room i j z r. r)
      (λ d room i j z r. r)
      (λ d i j z r. (r.0, r.2))

  sum_link : (q : TokenKind) (made : Term → Term → Term) → adds (Some q) ≡ Some made → (x y : Term) (n : ℕ) → suc n ≤ 64 → TermChain 6 e n x
      → TermAt 7 e y
      → TermChain 6 e (suc n) (made x y)
  sum_link q made is x y n few h v =
      adds_only (λ op m. TermChain 6 e (suc n) (m x y)) (sum_op k.Plus t.Add refl refl show.shown_Add x y n few h v)
      (sum_op k.Minus t.Sub refl refl show.shown_Sub x y n few h v) q made is

  sum_told : (i j : List Tok) (x : Term) → AllGood i → g.sum I i x j → Told (TermAt 6 e x) j
  sum_told = chains_told 6 adds (g.prod I) (g.prod I) (TermAt 7 e) prod_told prod_told sum_link

  -- ---- pairs, whose second operand may stand inside

  pair_at : (rank first last depth : ℕ) (op : TokenKind) (made : Term → Term → Term) (joins : Operators Term Term) (F J : ℕ → Rel Term)
      → rank ≤ 9 → first ≤ 9 → is_word op ≡ true → joins (Some op) ≡ Some made
      → ((x y : Term) → shown_term (made x y) ≡ pair rank op first last (shown_term x) (shown_term y))
      → ((d room : ℕ) (i j : List Tok) (z : Term) → Optional joins (F d) (J d) i z j → rule d rank room i z j)
      → ((d : ℕ) (i j : List Tok) (z : Term) → rule d first 64 i z j → F d i z j)
      → (x y : Term) → TermAt first e x → ((d : ℕ) (rest : List Shape) → d ≤ e → Prints whole (J d) (at last (shown_term y)) y rest)
      → TermAt rank e (made x y)
  pair_at rank first last depth op made joins F J high low w is shows into part_of x y h last_prints =
      node (made x y) rank (λ rest. at first (shown_term x) (word op ∷ at last (shown_term y) rest)) (shows x y) high
      (λ d room rest below. prints_by (into d room)
      (prints_pair op made w is (λ x' y' p r. cc)
      (prints_by (part_of d) (prints_term h d first (word op ∷ at last (shown_term y) rest) low below (le_same first)))
      (last_prints d rest below)))

  link_made : (q : TokenKind) (made : Term → Term → Term) → links (Some q) ≡ Some made → (x y : Term) → TermAt 6 e x → TermAt 5 (suc e) y
      → TermAt 5 e (made x y)
  link_made q made is x y h v =
      links_only (λ op m. TermAt 5 e (m x y)) (made_by k.Link t.Cons refl refl show.shown_Cons)
      (made_by k.Join t.Cat refl refl show.shown_Cat) q made is
    where
      few : suc e ≤ 100
      few = few_open 5 (suc e) y v

      made_by : (op : TokenKind) (m : Term → Term → Term) → is_word op ≡ true → links (Some op) ≡ Some m
          → ((a b : Term) → shown_term (m a b) ≡ pair 5 op 6 5 (shown_term a) (shown_term b)) → TermAt 5 e (m x y)
      made_by op m w is' shows =
          pair_at 5 6 5 e op m links (λ d. g.sum (inner_at d)) (λ d. inner_at d after_link) (lit≤ tt) (lit≤ tt) w is' shows (λ d room i j z r. r)
          (λ d i j z r. (r.0, r.2)) x y h
          (λ d rest below. prints_inside after_link d (omega arith) (prints_term v (suc d) 5 rest (lit≤ tt) (omega arith) (lit≤ tt)))

  app_told : (i j : List Tok) (x : Term) → AllGood i → g.app I i x j → Told (TermAt 5 e x) j
  app_told i j x good (without h) = let u = sum_told i j x good h in record { it = loosen 6 5 e x (lit≤ tt) u.it; rest = u.rest }
  app_told i j _ good (with_last {x = x} {y = y} {node = made} h is r) =
      let u = sum_told _ _ _ good h in
      let v = inside.app _ _ _ u.rest.1 r in
      record { it = link_made _ made is x y u.it v.it; rest = v.rest }

  compare_made : (q : TokenKind) (made : Term → Term → Term) → compares (Some q) ≡ Some made → (x y : Term) → TermAt 5 e x → TermAt 5 e y
      → TermAt 4 e (made x y)
  compare_made q made is x y h v =
      compares_only (λ op m. TermAt 4 e (m x y)) (made_by k.Equal t.Eq refl refl show.shown_Eq) (made_by k.Less t.Lt refl refl show.shown_Lt)
      (made_by k.LessEqual t.Le refl refl show.shown_Le) q made is
    where
      made_by : (op : TokenKind) (m : Term → Term → Term) → is_word op ≡ true → compares (Some op) ≡ Some m
          → ((a b : Term) → shown_term (m a b) ≡ pair 4 op 5 5 (shown_term a) (shown_term b)) → TermAt 4 e (m x y)
      made_by op m w is' shows =
          pair_at 4 5 5 e op m compares (λ d. g.app (inner_at d)) (λ d. g.app (inner_at d)) (lit≤ tt) (lit≤ tt) w is' shows (λ d room i j z r. r)
          (λ d i j z r. r) x y h
          (λ d rest below. prints_term v d 5 rest (lit≤ tt) below (lit≤ tt))

  cmp_told : (i j : List Tok) (x : Term) → AllGood i → g.cmp I i x j → Told (TermAt 4 e x) j
  cmp_told i j x good (without h) = let u = app_told i j x good h in record { it = loosen 5 4 e x (lit≤ tt) u.it; rest = u.rest }
  cmp_told i j _ good (with_last {x = x} {y = y} {node = made} h is r) =
      let u = app_told _ _ _ good h in
      let v = app_told _ _ _ u.rest.1 r in
      record { it = compare_made _ made is x y u.it v.it; rest = v.rest }

  neg_form_told : (f : g.NegForm) (i j : List Tok) (x : Term) → AllGood i → g.neg_form I f i x j → Told (TermAt 3 e x) j
  neg_form_told neg_not _ j x good (a_word (part {x = y} h r)) =
      let u = inside.neg _ _ _ good.1 h in
      let few : suc e ≤ 100 = few_open 3 (suc e) y u.it in
      by_gives (λ z l. Told (TermAt 3 e z) l) r
      (record {
        it = node (t.Not y) 3 (λ rest. word k.Not ∷ at 3 (shown_term y) rest) (show.shown_Not y) (lit≤ tt)
            (λ d room rest below. prints_by (λ i j z s. (neg_not, s))
            (prints_word k.Not refl (prints_part (prints_inside after_not d (omega arith)
            (prints_term u.it (suc d) 3 rest (lit≤ tt) (omega arith) (lit≤ tt)))
            (λ z same. prints_gives (ap t.Not same)))));
        rest = u.rest;
      })
  neg_form_told neg_cmp i j x good h = let u = cmp_told i j x good h in record { it = loosen 4 3 e x (lit≤ tt) u.it; rest = u.rest }

  neg_told : (i j : List Tok) (x : Term) → AllGood i → g.neg I i x j → Told (TermAt 3 e x) j
  neg_told i j x good h = neg_form_told h.0 i j x good h.1

  conj_link : (q : TokenKind) (made : Term → Term → Term) → ands (Some q) ≡ Some made → (x y : Term) (n : ℕ) → suc n ≤ 64 → TermChain 2 e n x
      → TermAt 3 e y
      → TermChain 2 e (suc n) (made x y)
  conj_link q made is x y n few h v =
      ands_only (λ op m. TermChain 2 e (suc n) (m x y))
      (op_link 2 (lit≤ tt) ands (λ d. g.neg (inner_at d)) (λ d room i j z r. down 2 d 64 room i j z (lit< tt) r) (λ d room i j z r. r)
      (λ d room i j z r. r)
      (λ d i j z r. r) k.And t.And refl refl show.shown_And x y n few h v)
      q made is

  conj_told : (i j : List Tok) (x : Term) → AllGood i → g.conj I i x j → Told (TermAt 2 e x) j
  conj_told = chains_told 2 ands (g.neg I) (g.neg I) (TermAt 3 e) neg_told neg_told conj_link

  disj_link : (q : TokenKind) (made : Term → Term → Term) → ors (Some q) ≡ Some made → (x y : Term) (n : ℕ) → suc n ≤ 64 → TermChain 1 e n x
      → TermAt 2 e y
      → TermChain 1 e (suc n) (made x y)
  disj_link q made is x y n few h v =
      ors_only (λ op m. TermChain 1 e (suc n) (m x y))
      (op_link 1 (lit≤ tt) ors (λ d. g.conj (inner_at d)) (λ d room i j z r. down 1 d 64 room i j z (lit< tt) r) (λ d room i j z r. r)
      (λ d room i j z r. r)
      (λ d i j z r. (r.0, r.2)) k.Or t.Or refl refl show.shown_Or x y n few h v)
      q made is

  disj_told : (i j : List Tok) (x : Term) → AllGood i → g.disj I i x j → Told (TermAt 1 e x) j
  disj_told = chains_told 1 ors (g.conj I) (g.conj I) (TermAt 2 e) conj_told conj_told disj_link

  imp_made : (q : TokenKind) (made : Term → Term → Term) → implies (Some q) ≡ Some made → (x y : Term) → TermAt 1 e x → TermAt 0 (suc e) y
      → TermAt 0 e (made x y)
  imp_made q made is x y h v =
      implies_only (λ op m. TermAt 0 e (m x y))
      (pair_at 0 1 0 e k.Imp t.Imp implies (λ d. g.disj (inner_at d)) (λ d. inner_at d a_term) (lit≤ tt) (lit≤ tt) refl refl show.shown_Imp
      (λ d room i j z r. r) (λ d i j z r. (r.0, r.2)) x y h
      (λ d rest below. prints_inside a_term d (omega arith) (prints_term v (suc d) 0 rest (lit≤ tt) (omega arith) (lit≤ tt))))
      q made is
    where
      few : suc e ≤ 100
      few = few_open 0 (suc e) y v

  term_told : (i j : List Tok) (x : Term) → AllGood i → g.term I i x j → Told (TermAt 0 e x) j
  term_told i j x good (without h) = let u = disj_told i j x good h in record { it = loosen 1 0 e x (lit≤ tt) u.it; rest = u.rest }
  term_told i j _ good (with_last {x = x} {y = y} {node = made} h is r) =
      let u = disj_told _ _ _ good h in
      let v = inside.term _ _ _ u.rest.1 r in
      record { it = imp_made _ made is x y u.it v.it; rest = v.rest }

-- ---- at every depth

none_begins : (n : Nested) → begins n None ≡ false
none_begins a_term = refl
none_begins after_not = refl
none_begins after_link = refl
none_begins after_len = refl
none_begins an_assn = refl
none_begins after_either = refl
none_begins a_proof = refl
none_begins a_give = refl
none_begins after_prefix = refl
none_begins a_body = refl

-- where a construct was written, at most 100 are open
pub open_within : (n : Nested) (d : ℕ) (I : (m : Nested) → Rel (Tree m)) (i j : List Tok) (x : Tree n) → AllGood i → Within d i
    → g.production I n i x j → d ≤ 100
open_within n d I [] j x good within h = absurd (spells_some (production_begins I n) (none_begins n) j x h)
open_within n d I (t ∷ ts) j x good within h = depth_is t ts good.0 within

pub terms_inside : (more d : ℕ) → TermsInside d (g.spells more d)
terms_inside zero d = record { term = λ i j x good h. absurd h; neg = λ i j x good h. absurd h; app = λ i j x good h. absurd h; prim = λ i j x good h. absurd h }
terms_inside (suc more) d =
    let I : (n : Nested) → Rel (Tree n) = g.spells more (suc d) in
    let below : TermsInside (suc d) I = terms_inside more (suc d) in
    record {
      term = λ i j x good h. term_told (suc d) (open_within a_term (suc d) I i j x good h.0 h.1) I below i j x good h.1;
      neg = λ i j x good h. neg_told (suc d) (open_within after_not (suc d) I i j x good h.0 h.1) I below i j x good h.1;
      app = λ i j x good h. app_told (suc d) (open_within after_link (suc d) I i j x good h.0 h.1) I below i j x good h.1;
      prim = λ i j x good h. prims_told (suc d) (open_within after_len (suc d) I i j x good h.0 h.1) I below i j x good h.1;
    }

-- no tokens spell nothing
pub never_spells : (more d : ℕ) (n : Nested) (j : List Tok) (x : Tree n) → g.spells more d n [] x j → ⊥
never_spells zero d n j x h = absurd h
never_spells (suc more) d n j x h = spells_some (production_begins (g.spells more (suc d)) n) (none_begins n) j x h.1
