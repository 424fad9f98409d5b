-- The rules of terms by their ranks, and what is printed of a term at a place of each rank.
use Rattle.std.proofs.Common.{◌≡◌, ℕ, zero, suc, ◌-◌, ◌≤◌, ◌<◌, sym, subst, refl, arith, Bool, true, false, nat_le, List, [], ◌∷◌, lit≤}
use Rattle.std.proofs.lemmas.Bool.Decides.{nat_tests}
use Rattle.tht_tree.specs.declared.token.TokenKind.TheVariants as k
use Rattle.tht_tree.specs.declared.term.Term.{Term}
use Rattle.tht_tree.specs.Tokens.{Tok}
use Rattle.tht_tree.specs.Productions.{Rel, Within, chain_first, without}
use Rattle.tht_tree.specs.Grammar as g
use Rattle.tht_tree.specs.Grammar.{Nested, Tree, a_term, after_not, after_link, after_len, prim_paren, neg_cmp, ors, ands, adds, muls, dots}
use Rattle.tht_tree.specs.Layout.{Shape, word, Printed, parens}
use Rattle.tht_layout.proofs.Prints.{Prints, prints_by, prints_word, prints_part, prints_gives, Few}

-- what may stand inside where d constructs are open
abbrev pub inner_at : ℕ → (n : Nested) → Rel (Tree n)
inner_at d = g.spells (101 - d) d

within_all : (d : ℕ) (i : List Tok) → d ≤ 100 → Within d i
within_all d [] h = tt
within_all d (t ∷ i) h = λ _. h

-- one more construct is open
pub inside : (n : Nested) (d : ℕ) (i j : List Tok) (x : Tree n) → suc d ≤ 100 → g.production (inner_at (suc d)) n i x j → inner_at d n i x j
inside n d i j x few h =
    let same : 101 - d ≡ suc (101 - suc d) = omega arith in
    let P : ℕ → Type 0 = λ m. g.spells m d n i x j in
    subst P (sym same) (within_all (suc d) i few, h)

pub prints_inside : {B : Type 0} {p : Printed} {rest : List Shape} (n : Nested) {e : Tree n → B} {x : Tree n} (d : ℕ) → suc d ≤ 100
    → Prints e (g.production (inner_at (suc d)) n) p x rest → Prints e (inner_at d n) p x rest
prints_inside n d few h = prints_by (λ i j y r. inside n d i j y few r) h

-- a term counts whole
abbrev pub whole : Term → Term
whole x = x

-- 0 for `imp`, 1 `or`, 2 `and`, 3 `not`, 4 comparisons, 5 `::` and `++`, 6 sums, 7 products, 8 offsets, 9 the rest
abbrev pub rule : ℕ → ℕ → ℕ → Rel Term
rule d zero room = g.term (inner_at d)
rule d (suc zero) room = Few room ors (g.conj (inner_at d)) (g.conj (inner_at d))
rule d (suc (suc zero)) room = Few room ands (g.neg (inner_at d)) (g.neg (inner_at d))
rule d (suc (suc (suc zero))) room = g.neg (inner_at d)
rule d (suc (suc (suc (suc zero)))) room = g.cmp (inner_at d)
rule d (suc (suc (suc (suc (suc zero))))) room = g.app (inner_at d)
rule d (suc (suc (suc (suc (suc (suc zero)))))) room = Few room adds (g.prod (inner_at d)) (g.prod (inner_at d))
rule d (suc (suc (suc (suc (suc (suc (suc zero))))))) room = Few room muls (g.off (inner_at d)) (g.off (inner_at d))
rule d (suc (suc (suc (suc (suc (suc (suc (suc zero)))))))) room = Few room dots (g.prim (inner_at d)) g.Offset
rule d _ room = g.prim (inner_at d)

-- what is spelled at a rank is spelled at the rank below
pub down : (v d room other : ℕ) (i j : List Tok) (x : Term) → v < 9 → rule d (suc v) room i x j → rule d v other i x j
down zero d room other i j x few h = without (h.0, h.2)
down (suc zero) d room other i j x few h = (0, (omega arith), chain_first (h.0, h.2))
down (suc (suc zero)) d room other i j x few h = (0, (omega arith), chain_first h)
down (suc (suc (suc zero))) d room other i j x few h = (neg_cmp, h)
down (suc (suc (suc (suc zero)))) d room other i j x few h = without h
down (suc (suc (suc (suc (suc zero))))) d room other i j x few h = without (h.0, h.2)
down (suc (suc (suc (suc (suc (suc zero)))))) d room other i j x few h = (0, (omega arith), chain_first (h.0, h.2))
down (suc (suc (suc (suc (suc (suc (suc zero))))))) d room other i j x few h = (0, (omega arith), chain_first (h.0, h.2))
down (suc (suc (suc (suc (suc (suc (suc (suc zero)))))))) d room other i j x few h = (0, (omega arith), chain_first h)
down (suc (suc (suc (suc (suc (suc (suc (suc (suc v))))))))) d room other i j x few h = absurd (omega arith)

-- and at any lower rank
lower_by : (u v d room : ℕ) (i j : List Tok) (x : Term) → (v ≤ u → rule d v room i x j) → v ≤ suc u → rule d (suc u) room i x j → (b : Bool)
    → nat_le v u ≡ b
    → rule d v room i x j
lower_by u v d room i j x below le h true test = below (grind (arith, nat_tests))
lower_by u v d room i j x below le h false test =
    let same : suc u ≡ v = grind (arith, nat_tests) in
    let P : ℕ → Type 0 = λ m. rule d m room i x j in
    subst P same h

pub lower : (u v d room : ℕ) (i j : List Tok) (x : Term) → v ≤ u → u ≤ 9 → rule d u room i x j → rule d v room i x j
lower zero v d room i j x below high h =
    let same : v ≡ 0 = omega arith in
    let P : ℕ → Type 0 = λ m. rule d m room i x j in
    subst P (sym same) h
lower (suc u) v d room i j x below high h =
    lower_by u v d room i j x (λ le. lower u v d room i j x le (omega arith) (down u d room room i j x (omega arith) h)) below h (nat_le v u) refl

pub wrap : (d rank room : ℕ) (p : Printed) (x : Term) (rest : List Shape) → suc d ≤ 100 → rank ≤ 9
    → Prints whole (rule (suc d) 0 64) p x (word k.RParen ∷ rest) → Prints whole (rule d rank room) (parens p) x rest
wrap d rank room p x rest few high h =
    prints_by (λ i j y r. lower 9 rank d room i j y high (lit≤ tt) (prim_paren, r))
    (prints_word k.LParen refl (prints_part (prints_inside a_term d few h) (λ z same. prints_word k.RParen refl (prints_gives same))))
