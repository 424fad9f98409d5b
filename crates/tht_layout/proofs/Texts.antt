-- The text of printed tokens splits into such tokens, and the tokens of a text are good.
use Rattle.std.proofs.Common.{◌≡◌, ℕ, ◌≤◌, ◌<◌, ap, sym, subst, refl, Bool, true, false, ◌⊎◌, inl, inr, if◌then◌else◌, bytes_eq, List, [], ◌∷◌, ◌++◌, append_assoc, append-nil, length, Some, None, Ok, Err, lit<}
use Rattle.tht_tree.specs.declared.plain.Spot.{Spot}
use Rattle.tht_tree.specs.declared.token.TokenKind.{TokenKind}
use Rattle.tht_tree.specs.declared.token.TokenKind.TheVariants as k
use Rattle.tht_tree.specs.declared.decl.Decl.{Decl}
use Rattle.tht_tree.specs.declared.file.Source1.{Source1}
use Rattle.tht_tree.specs.WithoutSpots.{without_spots}
use Rattle.tht_tree.specs.Values.{number_limit}
use Rattle.tht_tree.specs.Tokens.{Tok}
use Rattle.tht_tree.specs.Splitting.{blank, letter, class_of, in_word, in_number, number_of, word_kind, pair_at, kind_in, two_byte_symbols, one_byte_symbols, after, start_spot, Run, run_end, run_more, Split, prepend, token_at, Splits, no_bytes, a_blank, a_comment, a_word, too_long, a_number, too_big, a_pair, a_single, a_bad}
use Rattle.tht_tree.specs.Spelling.{IsSpelled}
use Rattle.tht_tree.specs.Layout.{Shape, word, name, number, starts_with_star, word_text, shape_text, gap, lines, decl, main, decl_lines, layout}
use Rattle.tht_layout.proofs.Prints.{is_word, AllInWord, IsName, IsProper, AllProper, Shows, shows_end, shows_word, shows_name, shows_number}
use Rattle.tht_layout.proofs.WordTexts.{WordForm, as_word, as_pair, as_single, word_form}
use Rattle.tht_layout.proofs.Numbers.{AllInNumber, digits_of, decimal_value}
use Rattle.tht_layout.proofs.Good.{Good, AllGood}
use Rattle.tht_layout.proofs.Files.{decls, decl_no_star, DeclsAt, none_left, one_more, FileAt, file_tokens, file_told, spelled_again}

-- ---- the tokens of a text

run_word : {p q : Spot} {i j w : List ℕ} → Run in_word p i w q j → AllInWord w
run_word (run_end h) = tt
run_word (run_more h r) = (h, run_word r)

AllWords : List (List ℕ × TokenKind) → Type 0
AllWords [] = Unit {0}
AllWords (row ∷ rows) = (is_word row.1 ≡ true) × AllWords rows

kind_is_word : (rows : List (List ℕ × TokenKind)) (w : List ℕ) (q : TokenKind) → AllWords rows → kind_in rows w ≡ Some q → is_word q ≡ true
unfolding AllWords
kind_is_word [] w q all h = cc
kind_is_word (row ∷ rows) w q all h = by_test (bytes_eq row.0 w) h (λ e. kind_is_word rows w q all.1 e)
  where
    found : Some row.1 ≡ Some q → is_word q ≡ true
    found e = let same : row.1 ≡ q = cc in subst (λ (r : TokenKind). is_word r ≡ true) same all.0

    by_test : (b : Bool) → (if b then Some row.1 else kind_in rows w) ≡ Some q → (kind_in rows w ≡ Some q → is_word q ≡ true) → is_word q ≡ true
    by_test true e later = found e
    by_test false e later = later e

pairs_are_words : AllWords two_byte_symbols
unfolding AllWords two_byte_symbols
pairs_are_words = (refl, (refl, (refl, (refl, (refl, (refl, (refl, tt)))))))

singles_are_words : AllWords one_byte_symbols
unfolding AllWords one_byte_symbols
singles_are_words = (
  refl,
  (
    refl,
    (
      refl,
      (
        refl,
        (
          refl,
          (
            refl,
            (
              refl,
              (refl, (refl, (refl, (refl, (refl, (refl, (refl, (refl, (refl, tt))))))))),
            ),
          ),
        ),
      ),
    ),
  ),
)

word_good : (q : TokenKind) (p : Spot) (w : List ℕ) → is_word q ≡ true → Good (token_at q p w 0)
word_good q p w h =
    record {
      marked = refl;
      is_name = λ e. let no_word : is_word q ≡ false = ap is_word e in cc;
      is_small = λ e. let no_word : is_word q ≡ false = ap is_word e in cc;
    }

text_good : (p : Spot) (b : ℕ) (w : List ℕ) → class_of b ≡ letter → AllInWord w → length (b ∷ w) ≤ 64
    → Good (token_at (word_kind (b ∷ w)) p (b ∷ w) 0)
text_good p b w c all short =
    record {
      marked = refl;
      is_name = λ e. record { first = b; others = w; is = refl; starts = c; goes_on = all; short = short; free = e };
      is_small = λ e. lit< tt;
    }

AllGoodIn : Split → Type 0
AllGoodIn (Ok ts) = AllGood ts
AllGoodIn (Err e) = Unit {0}

good_first : (t : Tok) (s : Split) → Good t → AllGoodIn s → AllGoodIn (prepend t s)
unfolding AllGoodIn
good_first t (Ok ts) g h = (g, h)
good_first t (Err e) g h = tt

good_split : {p : Spot} {i : List ℕ} {s : Split} → Splits p i s → AllGoodIn s
unfolding AllGoodIn
good_split no_bytes = tt
good_split (a_blank c r) = good_split r
good_split (a_comment c w r) = good_split r
good_split (a_word {p = p} {b = b} {w = w} {s = s} c run short r) = good_first _ s (text_good p b w c (run_word run) short) (good_split r)
good_split (too_long c run long) = tt
good_split (a_number {p = p} {b = b} {w = w} {s = s} c run small r) =
    good_first _ s (record { marked = refl; is_name = λ e. cc; is_small = λ e. small }) (good_split r)
good_split (too_big c run big) = tt
good_split (a_pair {p = p} {b = b} {c = c} {s = s} {kind = kind} o is r) =
    good_first _ s (word_good kind p (b ∷ c ∷ []) (kind_is_word two_byte_symbols (b ∷ c ∷ []) kind pairs_are_words is)) (good_split r)
good_split (a_single {p = p} {b = b} {s = s} {kind = kind} o none is r) =
    good_first _ s (word_good kind p (b ∷ []) (kind_is_word one_byte_symbols (b ∷ []) kind singles_are_words is)) (good_split r)
good_split (a_bad o none is) = tt

good_tokens : (ts : List Tok) (bytes : List ℕ) → Splits start_spot bytes (Ok ts) → AllGood ts
unfolding AllGoodIn
good_tokens ts bytes split = good_split split

-- ---- the text of tokens

-- from any spot on, these bytes split into tokens of these shapes
pub record SplitInto (i : List ℕ) (xs : List Shape) (p : Spot) : Type 0 where
  pub tokens : List Tok
  pub split : Splits p i (Ok tokens)
  pub shown : Shows tokens xs

abbrev SplitsTo : List ℕ → List Shape → Type 0
SplitsTo i xs = (p : Spot) → SplitInto i xs p

-- what may stand behind a token
abbrev Gap : ℕ → Type 0
Gap g = (g ≡ 32) ⊎ (g ≡ 10)

gap_blank : (g : ℕ) → Gap g → class_of g ≡ blank
unfolding class_of
gap_blank g (inl e) = rw e refl
gap_blank g (inr e) = rw e refl

gap_no_word : (g : ℕ) → Gap g → in_word g ≡ false
unfolding in_word
gap_no_word g h = rw (gap_blank g h) refl

gap_no_number : (g : ℕ) → Gap g → in_number g ≡ false
unfolding in_number
gap_no_number g h = rw (gap_blank g h) refl

record Ran (ok : ℕ → Bool) (p : Spot) (w j : List ℕ) : Type 0 where
  at : Spot
  run : Run ok p (w ++ j) w at j

runs_word : (w : List ℕ) (g : ℕ) (i : List ℕ) (p : Spot) → AllInWord w → Gap g → Ran in_word p w (g ∷ i)
runs_word [] g i p all h = record { at = p; run = run_end (let e : in_word g ≡ false = gap_no_word g h in rw e refl) }
runs_word (b ∷ w) g i p all h = let u = runs_word w g i (after p b) all.1 h in record { at = u.at; run = run_more all.0 u.run }

runs_number : (w : List ℕ) (g : ℕ) (i : List ℕ) (p : Spot) → AllInNumber w → Gap g → Ran in_number p w (g ∷ i)
runs_number [] g i p all h = record { at = p; run = run_end (let e : in_number g ≡ false = gap_no_number g h in rw e refl) }
runs_number (b ∷ w) g i p all h = let u = runs_number w g i (after p b) all.1 h in record { at = u.at; run = run_more all.0 u.run }

-- a token and the blank behind it
module _ (g : ℕ) (h : Gap g) (i : List ℕ) (xs : List Shape) (more : SplitsTo i xs) where
  behind : (p : Spot) → SplitInto (g ∷ i) xs p
  behind p = let u = more (after p g) in record { tokens = u.tokens; split = a_blank (gap_blank g h) u.split; shown = u.shown }

  word_split : (q : TokenKind) (b : ℕ) (w : List ℕ) (x : Shape) (p : Spot) → class_of b ≡ letter → AllInWord w → length (b ∷ w) ≤ 64
      → word_kind (b ∷ w) ≡ q
      → ((ts : List Tok) → Shows ts xs → Shows (token_at q p (b ∷ w) 0 ∷ ts) (x ∷ xs)) → SplitInto (b ∷ (w ++ g ∷ i)) (x ∷ xs) p
  word_split q b w x p c all short is shows =
      let run = runs_word w g i (after p b) all h in
      let u = behind run.at in
      let P : TokenKind → Type 0 = λ r. Splits p (b ∷ (w ++ g ∷ i)) (Ok (token_at r p (b ∷ w) 0 ∷ u.tokens)) in
      record { tokens = token_at q p (b ∷ w) 0 ∷ u.tokens; split = subst P is (a_word c run.run short u.split); shown = shows u.tokens u.shown }

  name_split : (x : List ℕ) → IsName x → SplitsTo (x ++ g ∷ i) (name x ∷ xs)
  name_split x n p =
      let P : List ℕ → Type 0 = λ y. SplitInto (y ++ g ∷ i) (name y ∷ xs) p in
      subst P (sym n.is) (word_split k.Name n.first n.others (name (n.first ∷ n.others)) p n.starts n.goes_on n.short n.free
      (λ ts s. shows_name refl refl s))

  number_split : (n : ℕ) → n < number_limit → SplitsTo (shape_text (number n) ++ g ∷ i) (number n ∷ xs)
  number_split n small p =
      let d = digits_of n in
      let run = runs_number d.others g i (after p d.first) d.goes_on h in
      let u = behind run.at in
      let P : List ℕ → Type 0 = λ y. number_of y ≡ n in
      let value : number_of (d.first ∷ d.others) ≡ n = subst P d.is (decimal_value n small) in
      let fits : number_of (d.first ∷ d.others) < number_limit = subst (λ (m : ℕ). m < number_limit) (sym value) small in
      let Q : List ℕ → Type 0 = λ y. SplitInto (y ++ g ∷ i) (number n ∷ xs) p in
      subst Q (sym d.is)
      (record {
        tokens = token_at k.Num p (d.first ∷ d.others) (number_of (d.first ∷ d.others)) ∷ u.tokens;
        split = a_number d.starts run.run fits u.split;
        shown = shows_number refl value u.shown;
      })

  no_pair : (b : ℕ) → pair_at b (32 ∷ []) ≡ None → pair_at b (10 ∷ []) ≡ None → pair_at b (g ∷ i) ≡ None
  no_pair b s l = by_gap h
    where
      by_gap : Gap g → pair_at b (g ∷ i) ≡ None
      by_gap (inl e) = subst (λ (c : ℕ). pair_at b (c ∷ []) ≡ None) (sym e) s
      by_gap (inr e) = subst (λ (c : ℕ). pair_at b (c ∷ []) ≡ None) (sym e) l

  symbol_split : (q : TokenKind) → WordForm q → SplitsTo (word_text q ++ g ∷ i) (word q ∷ xs)
  symbol_split q (as_word b w is c all short kind) p =
      let Q : List ℕ → Type 0 = λ y. SplitInto (y ++ g ∷ i) (word q ∷ xs) p in
      subst Q (sym is) (word_split q b w (word q) p c all short kind (λ ts s. shows_word refl s))
  symbol_split q (as_pair b c is o pair) p =
      let u = behind (after (after p b) c) in
      let Q : List ℕ → Type 0 = λ y. SplitInto (y ++ g ∷ i) (word q ∷ xs) p in
      subst Q (sym is) (record { tokens = token_at q p (b ∷ c ∷ []) 0 ∷ u.tokens; split = a_pair o pair u.split; shown = shows_word refl u.shown })
  symbol_split q (as_single b is o single s l) p =
      let u = behind (after p b) in
      let Q : List ℕ → Type 0 = λ y. SplitInto (y ++ g ∷ i) (word q ∷ xs) p in
      subst Q (sym is) (record {
        tokens = token_at q p (b ∷ []) 0 ∷ u.tokens;
        split = a_single o
            (no_pair b s l) single u.split;
        shown = shows_word refl u.shown;
      })

  shape_split : (x : Shape) → IsProper x → SplitsTo (shape_text x ++ g ∷ i) (x ∷ xs)
  shape_split (word q) h' = symbol_split q (word_form q h')
  shape_split (name x) h' = name_split x h'
  shape_split (number n) h' = number_split n h'

-- ---- lines

gap_is : (x : Shape) → Gap (gap x)
gap_is (name x) = inl refl
gap_is (number n) = inl refl
gap_is (word k.Semicolon) = inr refl
gap_is (word _) = inl refl

lines_split : (xs : List Shape) (i : List ℕ) (ys : List Shape) → AllProper xs → SplitsTo i ys → SplitsTo (lines xs ++ i) (xs ++ ys)
lines_split [] i ys ok more p = more p
lines_split (x ∷ []) i ys ok more p =
    let P : List ℕ → Type 0 = λ t. SplitInto t (x ∷ ys) p in
    subst P (sym (append_assoc (shape_text x) (10 ∷ []) i)) (shape_split 10 (inr refl) i ys more x ok.0 p)
lines_split (x ∷ y ∷ xs) i ys ok more p =
    let P : List ℕ → Type 0 = λ t. SplitInto t (x ∷ (y ∷ xs) ++ ys) p in
    subst P (sym (append_assoc (shape_text x) (gap x ∷ lines (y ∷ xs)) i))
    (shape_split (gap x) (gap_is x) (lines (y ∷ xs) ++ i) ((y ∷ xs) ++ ys) (lines_split (y ∷ xs) i ys ok.1 more) x ok.0 p)

decls_no_star : (xs : List Decl) (ys : List Shape) → starts_with_star ys ≡ false → starts_with_star (decls xs ys) ≡ false
decls_no_star [] ys h = h
decls_no_star (x ∷ xs) ys h = decl_no_star x.kind (decls xs ys)

decls_split : {m n : ℕ} (xs : List Decl) (i : List ℕ) (ys : List Shape) → DeclsAt m n xs → starts_with_star ys ≡ false → SplitsTo i ys
    → SplitsTo (decl_lines xs ++ i) (decls xs ys)
decls_split _ i ys none_left no_star more p = more p
decls_split _ i ys (one_more {x = x} {xs = xs} few left h hs) no_star more p =
    let first = h [] start_spot in
    let whole : decl x.kind (decls xs ys) ≡ decl x.kind [] ++ decls xs ys = first.extends (decls xs ys) (decls_no_star xs ys no_star) in
    let u = lines_split (decl x.kind []) (decl_lines xs ++ i) (decls xs ys) (first.proper tt) (decls_split xs i ys hs no_star more) p in
    let P : List ℕ → Type 0 = λ t. SplitInto t (decl x.kind [] ++ decls xs ys) p in
    let Q : List Shape → Type 0 = λ s. SplitInto (decl_lines (x ∷ xs) ++ i) s p in
    subst Q (sym whole) (subst P (sym (append_assoc (lines (decl x.kind [])) (decl_lines xs) i)) u)

none_split : SplitsTo [] []
none_split p = record { tokens = []; split = no_bytes; shown = shows_end }

last_split : (xs : List Shape) → AllProper xs → SplitsTo (lines xs) xs
last_split xs ok p =
    let P : List ℕ → Type 0 = λ t. SplitInto t xs p in
    let Q : List Shape → Type 0 = λ s. SplitInto (lines xs ++ []) s p in
    subst P (append-nil (lines xs)) (subst Q (append-nil xs) (lines_split xs [] [] ok none_split p))

-- the layout of a file splits into tokens of the shapes that are printed
pub layout_split : (x : Source1) → FileAt x → SplitInto (layout x) (file_tokens x []) start_spot
layout_split x h =
    let ending = h.main_at [] in
    let first : List Shape = word k.Tht ∷ number x.version ∷ [] in
    let u = lines_split first (decl_lines x.decls ++ lines (main x.main [])) (decls x.decls (main x.main [])) (refl, (h.small, tt))
    (decls_split x.decls (lines (main x.main [])) (main x.main []) h.decls_at refl (last_split (main x.main []) (ending.proper tt))) start_spot in
    let P : List ℕ → Type 0 = λ t. SplitInto t (file_tokens x []) start_spot in
    subst P (sym (append_assoc (lines first) (decl_lines x.decls) (lines (main x.main [])))) u

-- the layout of a file that some bytes spell spells it, but for its spots
pub layout_spells : (file : Source1) (bytes : List ℕ) → IsSpelled file bytes
    → (again : Source1) × IsSpelled again (layout file) × (without_spots again ≡ without_spots file)
layout_spells file bytes h =
    let good : AllGood h.tokens = good_tokens h.tokens bytes h.split in
    let at : FileAt file = file_told h.tokens file good h.spelled in
    let s = layout_split file at in
    let u = spelled_again file s.tokens at s.shown in
    (u.0, record { tokens = s.tokens; split = s.split; spelled = u.2 }, u.1)
