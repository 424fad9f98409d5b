-- The rules of assertions by their ranks.
use Rattle.std.proofs.Common.{◌≡◌, ℕ, zero, suc, ◌≤◌, refl, arith, false, List, [], ◌∷◌, lit≤}
use Rattle.tht_tree.specs.declared.token.TokenKind.{TokenKind}
use Rattle.tht_tree.specs.declared.token.TokenKind.TheVariants as k
use Rattle.tht_tree.specs.declared.assn.Assn.{Assn}
use Rattle.tht_tree.specs.Tokens.{Info, Tok, tok}
use Rattle.tht_tree.specs.Productions.{Rel, chain_first}
use Rattle.tht_tree.specs.Grammar as g
use Rattle.tht_tree.specs.Grammar.{Nested, Tree, an_assn, apr_paren, stars, goes_on}
use Rattle.tht_tree.specs.Layout.{Shape, word, Printed, parens, starts_with_star}
use Rattle.tht_layout.proofs.Prints.{Prints, Put, Shows, shows_end, shows_word, shows_name, shows_number, prints_by, prints_word, prints_part, prints_gives, Few}
use Rattle.tht_layout.proofs.TermRules.{inner_at, inside}

-- an assertion counts whole
abbrev pub entire : Assn → Assn
entire x = x

-- 0 for chains of `*`, wherever they end, and 1 for all else
abbrev pub rule : ℕ → ℕ → ℕ → Rel Assn
rule d zero room = Few room stars (g.apr (inner_at d)) (g.apr (inner_at d))
rule d _ room = g.apr (inner_at d)

pub lower : (u v d room : ℕ) (i j : List Tok) (x : Assn) → v ≤ u → u ≤ 1 → rule d u room i x j → rule d v room i x j
lower zero zero d room i j x below high h = h
lower zero (suc v) d room i j x below high h = absurd (omega arith)
lower (suc u) zero d room i j x below high h = (0, (omega arith), chain_first h)
lower (suc u) (suc v) d room i j x below high h = h

-- where no `*` is printed next, none comes next
not_star : (q : TokenKind) → starts_with_star (word q ∷ []) ≡ false → (w : Info) (i : List Tok) → goes_on (tok q w ∷ i) ≡ false
not_star k.Star e w i = cc
not_star _ e w i = refl

pub stops : (ts : List Tok) (rest : List Shape) → Shows ts rest → starts_with_star rest ≡ false → goes_on ts ≡ false
stops _ _ shows_end e = refl
stops _ _ (shows_word {q = q} {w = w} {ts = ts} m s) e = not_star q e w ts
stops _ _ (shows_name m is s) e = refl
stops _ _ (shows_number m is s) e = refl

-- a chain that ends where no `*` comes next is an assertion
pub prints_whole : (d : ℕ) (p : Printed) (x : Assn) (rest : List Shape) → starts_with_star rest ≡ false → Prints entire (rule d 0 64) p x rest
    → Prints entire (g.assn (inner_at d)) p x rest
prints_whole d p x rest no_star h = record { proper = h.proper; extends = h.extends; spells = go }
  where
    go : (ts : List Tok) → Shows ts (p rest) → Put entire (g.assn (inner_at d)) x rest ts
    go ts s =
        let u = h.spells ts s in
        record {
          left = u.left;
          shown = u.shown;
          value = u.value;
          same = u.same;
          spelled =
              ((u.spelled.0, u.spelled.2), stops u.left rest u.shown no_star);
        }

pub prints_in : (d : ℕ) (p : Printed) (x : Assn) (rest : List Shape) → suc d ≤ 100 → starts_with_star rest ≡ false
    → Prints entire (rule (suc d) 0 64) p x rest
    → Prints entire (inner_at d an_assn) p x rest
prints_in d p x rest few no_star h = prints_by (λ i j y r. inside an_assn d i j y few r) (prints_whole (suc d) p x rest no_star h)

pub wrap : (d rank room : ℕ) (p : Printed) (x : Assn) (rest : List Shape) → suc d ≤ 100 → rank ≤ 1
    → Prints entire (rule (suc d) 0 64) p x (word k.RParen ∷ rest) → Prints entire (rule d rank room) (parens p) x rest
wrap d rank room p x rest few high h =
    prints_by (λ i j y r. lower 1 rank d room i j y high (lit≤ tt) (apr_paren, r))
    (prints_word k.LParen refl (prints_part (prints_in d p x (word k.RParen ∷ rest) few refl h)
    (λ z same. prints_word k.RParen refl (prints_gives same))))
