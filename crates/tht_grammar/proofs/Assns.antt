-- The readers of assertions are exact, where those of the constructs inside are.
use Rattle.std.proofs.Common.{◌≡◌, ℕ, refl, Bool, true, false, ◌&&◌, inl, List, [], ◌∷◌, Some, None, Ok}
use Rattle.tht_tree.specs.declared.token.TokenKind.{TokenKind}
use Rattle.tht_tree.specs.declared.token.TokenKind.TheVariants as k
use Rattle.tht_tree.specs.declared.term.Term.{Term}
use Rattle.tht_tree.specs.declared.term.Term.TheVariants as t
use Rattle.tht_tree.specs.declared.assn.Assn.{Assn}
use Rattle.tht_tree.specs.declared.assn.Assn.TheVariants as a
use Rattle.tht_tree.specs.Tokens.{Info, Tok, tok, first_kind}
use Rattle.tht_tree.specs.Productions.{Rel, Gives, gives, word, named, Part, part, Chain, chain_first, ◌▸◌}
use Rattle.tht_tree.specs.Grammar as g
use Rattle.tht_tree.specs.Grammar.{Nested, Tree, a_term, an_assn, after_either, Offset, PlaceForm, place_name, place_null, AprForm, apr_emp, apr_fact, apr_paren, apr_own, apr_shared, apr_inst, apr_exists, apr_either, dots, stars, goes_on}
use Rattle.tht_grammar.specs.Steps.{Outcome, Reader, ◌>>=◌, ◌>>◌, pure, same_kind, is, look, rest, first_text, expect}
use Rattle.tht_grammar.specs.Reading as r
use Rattle.tht_grammar.proofs.Exact.{NoStar, Sound, Sample, blank, Reaches, Exact, anywhere, exact_part, exact_pure, sample_by, sound_refuse}
use Rattle.tht_grammar.proofs.Sequences.{sound_next, sound_one, exact_word, exact_named, exact_sorted, exact_until, exact_map}
use Rattle.tht_grammar.proofs.Choices.{OneOf, sound_form, in_form, sound_word}
use Rattle.tht_grammar.proofs.Chains.{none, both_true, StopsAt, Tail, tail_end, tail_more, tail_chain, chain_tail, exact_tail, exact_chain, exact_closed, chain_ends}
use Rattle.tht_grammar.proofs.NameLists.{exact_offset}
use Rattle.tht_grammar.proofs.Constructs.{Constructs, stops_off}
use Rattle.tht_grammar.proofs.Terms.{off_exact, arguments_exact, exact_bracketed}

stars_stop : StopsAt stops_off stars
stars_stop (Some k.Star) node h = refl
stars_stop _ node h = cc

no_star_none : (i : List Tok) → NoStar i → none (stars (first_kind i)) ≡ true
no_star_none [] h = refl
no_star_none (tok k.Star w ∷ i) h = cc
no_star_none (tok _ w ∷ i) h = refl

none_no_star : (i : List Tok) → stars (first_kind i) ≡ None → NoStar i
none_no_star [] h = refl
none_no_star (tok k.Star w ∷ i) h = cc
none_no_star (tok _ w ∷ i) h = refl

-- ---- cells

-- what follows the place of a cell: "->" off or "=>" off
data HeldForm : Type 0 where
  owned : HeldForm
  shared : HeldForm

abbrev held_form : ((n : Nested) → Rel (Tree n)) → Term → HeldForm → Rel Assn
held_form inner x owned = k.Arrow ▸ Part (g.off inner) (λ y. Gives (a.Own x y))
held_form inner x shared = k.FatArrow ▸ Part (g.off inner) (λ y. Gives (a.Shared x y))

abbrev Held : ((n : Nested) → Rel (Tree n)) → Term → Rel Assn
Held inner x = OneOf (held_form inner x)

-- what follows the first token of a cell, which spells x
abbrev Cell : ((n : Nested) → Rel (Tree n)) → Term → Rel Assn
Cell inner x = Part (Tail dots Offset 0 x) (Held inner)

held_stop : (inner : (n : Nested) → Rel (Tree n)) (x : Term) (f : HeldForm) (i j : List Tok) (y : Assn) → held_form inner x f i y j
    → stops_off (first_kind i) ≡ true
held_stop inner x owned _ j y (word h) = refl
held_stop inner x shared _ j y (word h) = refl

-- it begins with no opening parenthesis
held_first : (inner : (n : Nested) → Rel (Tree n)) (x : Term) (f : HeldForm) (i j : List Tok) (y : Assn) → held_form inner x f i y j
    → is k.LParen (first_kind i) ≡ false
unfolding same_kind
held_first inner x owned _ j y (word h) = refl
held_first inner x shared _ j y (word h) = refl

dot_only : (q : TokenKind) (node : Term → ℕ → Term) → dots (Some q) ≡ Some node → is k.LParen (Some q) ≡ false
unfolding same_kind
dot_only k.Dot node h = refl
dot_only _ node h = cc

tail_first : {n : ℕ} {x y : Term} {i j : List Tok} → Tail dots Offset n x i y j → is k.LParen (first_kind j) ≡ false
    → is k.LParen (first_kind i) ≡ false
tail_first tail_end h = h
tail_first (tail_more {q = q} {node = node} e room b more) h = dot_only q node e

cell_first : (inner : (n : Nested) → Rel (Tree n)) {x : Term} {i j : List Tok} {y : Assn} → Cell inner x i y j → is k.LParen (first_kind i) ≡ false
cell_first inner (part {j = j} {x = x} b h) = tail_first b (held_first inner x h.0 j _ _ h.1)

-- a cell by its first token
module _ (inner : (n : Nested) → Rel (Tree n)) where
  cell_held : {i j l : List Tok} {x : Term} {y : Assn} (f : HeldForm) → g.place inner i x j → held_form inner x f j y l → g.apr inner i y l
  cell_held owned p (word h) = (apr_own, part p (word h))
  cell_held shared p (word h) = (apr_shared, part p (word h))

  cell_in : {i j l : List Tok} {x : Term} {y : Assn} → Chain dots (g.place_start inner) Offset 0 i x j → Cell inner x j y l → g.apr inner i y l
  cell_in p (part b h) = cell_held h.0 (tail_chain p b) h.1

  cell_name : (w : Info) {i j : List Tok} {y : Assn} → Cell inner (t.Var w.text) i y j → g.apr inner (tok k.Name w ∷ i) y j
  cell_name w h = cell_in (chain_first (place_name, named gives)) h

  cell_null : (w : Info) {i j : List Tok} {y : Assn} → Cell inner t.Null i y j → g.apr inner (tok k.Null w ∷ i) y j
  cell_null w h = cell_in (chain_first (place_null, word gives)) h

module _ {inner inner' : (n : Nested) → Rel (Tree n)} {readers : (n : Nested) → Reader (Tree n)} (c : Constructs inner inner' readers) where
  own_exact : (x : Term) → Exact (Part (g.off inner) (λ y. Gives (a.Own x y))) (Part (g.off inner') (λ y. Gives (a.Own x y))) stops_off
      (r.off readers >>= (λ y. pure (a.Own x y)))
  own_exact x = exact_map (a.Own x) (off_exact c)

  shared_exact : (x : Term) → Exact (Part (g.off inner) (λ y. Gives (a.Shared x y))) (Part (g.off inner') (λ y. Gives (a.Shared x y))) stops_off
      (r.off readers >>= (λ y. pure (a.Shared x y)))
  shared_exact x = exact_map (a.Shared x) (off_exact c)

  held_sample : (x : Term) → Sample (Held inner x)
  held_sample x = sample_by (in_form (held_form inner x) owned) (exact_word {q = k.Arrow} refl (own_exact x)).sample

  held_sound : (x : Term) (i : List Tok) → Sound (Held inner x) i (look (r.cell_by readers x) i)
  unfolding rest
  held_sound x [] = sound_refuse [] (held_sample x)
  held_sound x (tok k.Arrow w ∷ i) = sound_word k.Arrow (own_exact x) (in_form (held_form inner x) owned) w i
  held_sound x (tok k.FatArrow w ∷ i) = sound_word k.FatArrow (shared_exact x) (in_form (held_form inner x) shared) w i
  held_sound x (tok _ w ∷ i) = sound_refuse _ (held_sample x)

  held_reaches : (x : Term) (f : HeldForm) (i j : List Tok) (y : Assn) → held_form inner' x f i y j → stops_off (first_kind j) ≡ true
      → Reaches y j (look (r.cell_by readers x) i)
  unfolding rest
  held_reaches x owned _ j y (word {i = i} h) stop = (own_exact x).complete i j y h stop
  held_reaches x shared _ j y (word {i = i} h) stop = (shared_exact x).complete i j y h stop

  held_exact : (x : Term) → Exact (Held inner x) (Held inner' x) stops_off (look (r.cell_by readers x))
  held_exact x = record { sound = held_sound x; complete = λ i j y h stop. held_reaches x h.0 i j y h.1 stop; sample = held_sample x }

  cell_exact : (x : Term) → Exact (Cell inner x) (Cell inner' x) stops_off (r.cell readers x)
  unfolding r.cell
  cell_exact x = exact_part (exact_tail refl (λ o node h. refl) exact_offset x) held_exact (λ i j l x y b h stop. held_stop inner' x h.0 j l y h.1)

  inst_exact : (w : List ℕ) → Exact (Part (g.arguments inner) (λ ts. Gives (a.Inst w ts)))
      (Part (g.arguments inner') (λ ts. Gives (a.Inst w ts))) anywhere
      (r.arguments readers >>= (λ ts. pure (a.Inst w ts)))
  inst_exact w = exact_map (a.Inst w) (arguments_exact c)

  -- ---- apr

  fact_exact : Exact (g.apr_form inner apr_fact) (g.apr_form inner' apr_fact) anywhere (r.bracketed readers >>= (λ x. pure (a.Fact x)))
  fact_exact = exact_bracketed c (λ x. exact_pure (a.Fact x))

  paren_exact : Exact (Part (inner an_assn) (λ x. k.RParen ▸ Gives x)) (Part (inner' an_assn) (λ x. k.RParen ▸ Gives x)) anywhere
      (readers an_assn >>= (λ x. expect k.RParen >> pure x))
  paren_exact = exact_until refl refl (c.exact an_assn) (λ x. exact_pure x)

  exists_exact : Exact (g.apr_form inner apr_exists) (g.apr_form inner' apr_exists) stops_off (r.exists readers)
  unfolding r.exists
  exists_exact = exact_word refl
      (exact_named (λ x. exact_word refl (exact_sorted (λ z. exact_word refl (exact_map (a.Exists x z) (c.exact an_assn))))))

  either_exact : Exact (g.apr_form inner apr_either) (g.apr_form inner' apr_either) stops_off (r.either readers)
  unfolding r.either
  either_exact = exact_word refl (exact_until refl refl (c.exact after_either) (λ x. exact_map (a.Either x) (c.exact after_either)))

  apr_sample : Sample (g.apr inner)
  apr_sample = record { more = tok k.Emp blank ∷ []; value = a.Emp; blanks = (refl, tt); begins = λ l n. refl; spells = λ l n. (apr_emp, word gives) }

  by_apr : (f : AprForm) (i : List Tok) (o : Outcome Assn) → Sound (g.apr_form inner f) i o → Sound (g.apr inner) i o
  by_apr f i o s = sound_form (g.apr_form inner) f i o s

  -- what begins with a name
  name_at : (w : Info) (i : List Tok) (b : Bool) → Sound (g.apr inner) (tok k.Name w ∷ i) (r.instance_by readers w.text b i)
  name_at w i true = sound_next (g.apr inner) (tok k.Name w) i _ (λ i j y h. (apr_inst, named h)) ((inst_exact w.text).sound i)
  name_at w i false = sound_next (g.apr inner) (tok k.Name w) i _ (λ i j y h. cell_name inner w h) ((cell_exact (t.Var w.text)).sound i)

  apr_sound : (i : List Tok) → Sound (g.apr inner) i (r.apr readers i)
  unfolding r.apr r.named r.name same_kind rest first_text
  apr_sound [] = sound_refuse [] apr_sample
  apr_sound (tok k.Emp w ∷ i) = sound_one (tok k.Emp w) i a.Emp (λ l. (apr_emp, word gives))
  apr_sound (tok k.LBracket w ∷ i) = by_apr apr_fact (tok k.LBracket w ∷ i) _ (fact_exact.sound (tok k.LBracket w ∷ i))
  apr_sound (tok k.LParen w ∷ i) = sound_word k.LParen paren_exact (in_form (g.apr_form inner) apr_paren) w i
  apr_sound (tok k.Name w ∷ i) = name_at w i (is k.LParen (first_kind i))
  apr_sound (tok k.Null w ∷ i) = sound_next (g.apr inner) (tok k.Null w) i _ (λ i j y h. cell_null inner w h) ((cell_exact t.Null).sound i)
  apr_sound (tok k.Exists w ∷ i) = by_apr apr_exists (tok k.Exists w ∷ i) _ (exists_exact.sound (tok k.Exists w ∷ i))
  apr_sound (tok k.Either w ∷ i) = by_apr apr_either (tok k.Either w ∷ i) _ (either_exact.sound (tok k.Either w ∷ i))
  apr_sound (tok _ w ∷ i) = sound_refuse _ apr_sample

  -- a cell from its first token on
  start_reaches : (f : PlaceForm) (i l j : List Tok) (x : Term) (y : Assn) → g.place_form inner' f i x l → Cell inner' x l y j
      → stops_off (first_kind j) ≡ true → Reaches y j (r.apr readers i)
  unfolding r.apr r.named r.name same_kind rest first_text
  start_reaches place_name _ l j _ y (named {w = w} gives) h stop = rw (cell_first inner' h) ((cell_exact (t.Var w.text)).complete l j y h stop)
  start_reaches place_null _ l j _ y (word gives) h stop = (cell_exact t.Null).complete l j y h stop

  cell_reaches : {i j l : List Tok} {x : Term} {y : Assn} (f : HeldForm) → Part (g.place_start inner') (Tail dots Offset 0) i x j
      → held_form inner' x f j y l → stops_off (first_kind l) ≡ true
      → Reaches y l (r.apr readers i)
  cell_reaches {l = l} {y = y} f (part {i = i} {j = j} {x = x} p b) h stop = start_reaches p.0 i j l x y p.1 (part b (f, h)) stop

  place_reaches : {i j l : List Tok} {x : Term} {y : Assn} (f : HeldForm) → g.place inner' i x j → held_form inner' x f j y l
      → stops_off (first_kind l) ≡ true → Reaches y l (r.apr readers i)
  place_reaches f p h stop = cell_reaches f (chain_tail p.1 tail_end) h stop

  inst_first : {w : List ℕ} {i j : List Tok} {y : Assn} → Part (g.arguments inner') (λ ts. Gives (a.Inst w ts)) i y j
      → is k.LParen (first_kind i) ≡ true
  unfolding same_kind
  inst_first (part (word h) s) = refl

  apr_reaches : (f : AprForm) (i j : List Tok) (y : Assn) → g.apr_form inner' f i y j → stops_off (first_kind j) ≡ true
      → Reaches y j (r.apr readers i)
  unfolding r.apr r.named r.name same_kind rest first_text
  apr_reaches apr_emp _ _ _ (word gives) stop = inl refl
  apr_reaches apr_fact _ j y (word {w = w} {i = i} h) stop = fact_exact.complete (tok k.LBracket w ∷ i) j y (word h) refl
  apr_reaches apr_paren _ j y (word {i = i} h) stop = paren_exact.complete i j y h refl
  apr_reaches apr_own _ _ _ (part p h) stop = place_reaches owned p h stop
  apr_reaches apr_shared _ _ _ (part p h) stop = place_reaches shared p h stop
  apr_reaches apr_inst _ j y (named {w = w} {i = i} h) stop = rw (inst_first h) ((inst_exact w.text).complete i j y h refl)
  apr_reaches apr_exists _ j y (word {w = w} {i = i} h) stop = exists_exact.complete (tok k.Exists w ∷ i) j y (word h) stop
  apr_reaches apr_either _ j y (word {w = w} {i = i} h) stop = either_exact.complete (tok k.Either w ∷ i) j y (word h) stop

  pub apr_exact : Exact (g.apr inner) (g.apr inner') stops_off (r.apr readers)
  apr_exact = record { sound = apr_sound; complete = λ i j y h stop. apr_reaches h.0 i j y h.1 stop; sample = apr_sample }

  -- ---- assn and box

  chain_exact : Exact (λ i x j. (n : ℕ) × Chain stars (g.apr inner) (g.apr inner) n i x j)
      (λ i x j. (n : ℕ) × Chain stars (g.apr inner') (g.apr inner') n i x j)
      (λ o. stops_off o && none (stars o)) (r.assn readers)
  unfolding r.assn
  chain_exact = exact_chain refl stars_stop apr_exact apr_exact

  assn_ends : (i j : List Tok) (x : Assn) → r.assn readers i ≡ Ok (x, j) → NoStar j
  unfolding r.assn
  assn_ends i j x h = none_no_star j (chain_ends stars (r.apr readers) 64 (r.apr readers i) j x h)

  pub assn_exact : Exact (g.assn inner) (g.assn inner') stops_off (r.assn readers)
  assn_exact = exact_closed assn_ends (λ i stop n. both_true (stops_off (first_kind i)) _ stop (no_star_none i n)) chain_exact

  pub box_exact : Exact (g.box inner) (g.box inner') anywhere (r.box readers)
  unfolding r.box
  box_exact = exact_word refl (exact_until refl refl (c.exact an_assn) (λ x. exact_pure x))
