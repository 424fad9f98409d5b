-- A reader looks no further than the first token that it does not take, and at no mark.
use Rattle.std.proofs.Common.{◌≡◌, ℕ, zero, suc, ◌+◌, ◌≤◌, ◌<◌, ap, sym, subst, refl, arith, Bool, true, false, ◌⊎◌, inl, inr, List, [], ◌∷◌, ◌++◌, length, Option, Some, None, Ok, Err}
use Rattle.tht_tree.specs.declared.plain.Spot.{Spot}
use Rattle.tht_tree.specs.declared.token.TokenKind.{TokenKind}
use Rattle.tht_tree.specs.declared.token.TokenKind.TheVariants as k
use Rattle.tht_tree.specs.Tokens.{Limit, deep, many, Info, Tok, tok, first_kind}
use Rattle.tht_tree.specs.Productions.{Operators}
use Rattle.tht_tree.specs.Faults.{Fault, unexpected, over}
use Rattle.tht_grammar.specs.Steps.{Outcome, Reader, and_then, ◌>>=◌, pure, refuse, exceed, is, rest, first_spot, first_text, first_value, look, next, spotted, spelled, valued, expect_by, expect, exceed_by, too_deep, chain, optional_by, optional, entries_by, entries, listed_by, listed, repeat_by, repeat}

-- the same spot, value and text, whatever the marks
pub data LikeInfo : Info → Info → Type 0 where
  like : {v w : Info} → v.spot ≡ w.spot → v.value ≡ w.value → v.text ≡ w.text → LikeInfo v w

-- the same first token, but for marks
pub data SameHead : List Tok → List Tok → Type 0 where
  no_head : SameHead [] []
  one_head : {q : TokenKind} {v w : Info} {a b : List Tok} → LikeInfo v w → SameHead (tok q v ∷ a) (tok q w ∷ b)

-- the tokens that an outcome leaves
abbrev pub left_of : {A : Type 0} → Outcome A → List Tok
left_of (Ok p) = p.1
left_of (Err p) = p.1

module _ (j l : List Tok) (head : SameHead j l) where
  -- the same tokens before j and l
  pub data Near : List Tok → List Tok → Type 0 where
    here : Near j l
    before : {t : Tok} {a b : List Tok} → Near a b → Near (t ∷ a) (t ∷ b)

  -- the two go alike, or the first goes past the first token of j
  abbrev pub Alike : {A : Type 0} → Outcome A → Outcome A → Type 0
  Alike (Ok p) (Ok q) = ((p.0 ≡ q.0) × Near p.1 q.1) ⊎ (length p.1 < length j)
  Alike (Err p) (Err q) = ((p.0 ≡ q.0) × Near p.1 q.1) ⊎ (length p.1 < length j)
  Alike (Ok p) (Err q) = length p.1 < length j
  Alike (Err p) (Ok q) = length p.1 < length j

  past : {A : Type 0} (o u : Outcome A) → length (left_of o) < length j → Alike o u
  past (Ok p) (Ok q) h = inr h
  past (Ok p) (Err q) h = h
  past (Err p) (Ok q) h = h
  past (Err p) (Err q) h = inr h

  pub record Local {A : Type 0} (p : Reader A) : Type 0 where
    pub shrinks : (i : List Tok) → length (left_of (p i)) ≤ length i
    pub alike : (a b : List Tok) → Near a b → Alike (p a) (p b)

-- It does so wherever two texts part.
abbrev pub IsLocal : {A : Type 0} → Reader A → Type 0
IsLocal p = (j l : List Tok) (head : SameHead j l) → Local j l head p

-- it leaves no more than there was
pub shrinks_of : {A : Type 0} {p : Reader A} → IsLocal p → (i : List Tok) → length (left_of (p i)) ≤ length i
shrinks_of h = (h [] [] no_head).shrinks

-- what it reads has a token at least
abbrev pub TakesOne : {A : Type 0} → Reader A → Type 0
TakesOne {A = A} p = (i j : List Tok) (x : A) → p i ≡ Ok (x, j) → length j < length i

-- ---- no token

pub local_pure : {A : Type 0} (x : A) → IsLocal (pure x)
local_pure x j l head = record { shrinks = λ i. omega arith; alike = λ a b n. inl (refl, n) }

pub local_err : {A : Type 0} (f : Fault) → IsLocal {A = A} (λ i. Err (f, i))
local_err f j l head = record { shrinks = λ i. omega arith; alike = λ a b n. inl (refl, n) }

pub local_refuse : {A : Type 0} → IsLocal {A = A} refuse
local_refuse = local_err unexpected

pub local_exceed : {A : Type 0} (l : Limit) → IsLocal {A = A} (exceed l)
local_exceed l = local_err (over l)

-- ---- the first token

head_kind : {a b : List Tok} → SameHead a b → first_kind a ≡ first_kind b
head_kind no_head = refl
head_kind (one_head h) = refl

near_kind : {j l : List Tok} {head : SameHead j l} {a b : List Tok} → Near j l head a b → first_kind a ≡ first_kind b
near_kind {head = head} here = head_kind head
near_kind (before n) = refl

like_spot : {v w : Info} → LikeInfo v w → v.spot ≡ w.spot
like_spot (like p q r) = p

like_value : {v w : Info} → LikeInfo v w → v.value ≡ w.value
like_value (like p q r) = q

like_text : {v w : Info} → LikeInfo v w → v.text ≡ w.text
like_text (like p q r) = r

head_spot : {a b : List Tok} → SameHead a b → first_spot a ≡ first_spot b
unfolding first_spot
head_spot no_head = refl
head_spot (one_head h) = like_spot h

near_spot : {j l : List Tok} {head : SameHead j l} {a b : List Tok} → Near j l head a b → first_spot a ≡ first_spot b
unfolding first_spot
near_spot {head = head} here = head_spot head
near_spot (before n) = refl

head_value : {a b : List Tok} → SameHead a b → first_value a ≡ first_value b
unfolding first_value
head_value no_head = refl
head_value (one_head h) = like_value h

near_value : {j l : List Tok} {head : SameHead j l} {a b : List Tok} → Near j l head a b → first_value a ≡ first_value b
unfolding first_value
near_value {head = head} here = head_value head
near_value (before n) = refl

head_text : {a b : List Tok} → SameHead a b → first_text a ≡ first_text b
unfolding first_text
head_text no_head = refl
head_text (one_head h) = like_text h

near_text : {j l : List Tok} {head : SameHead j l} {a b : List Tok} → Near j l head a b → first_text a ≡ first_text b
unfolding first_text
near_text {head = head} here = head_text head
near_text (before n) = refl

pub local_look : {A : Type 0} {f : Option TokenKind → Reader A} → ((o : Option TokenKind) → IsLocal (f o)) → IsLocal (look f)
local_look {f = f} h j l head = record {
  shrinks = λ i. (h (first_kind i) j l head).shrinks i;
  alike = λ a b n. subst (λ o. Alike j l head (f (first_kind a) a) (f o b)) (near_kind n) ((h (first_kind a) j l head).alike a b n);
}

pub local_spotted : {A : Type 0} {f : Spot → Reader A} → ((s : Spot) → IsLocal (f s)) → IsLocal (spotted f)
local_spotted {f = f} h j l head = record {
  shrinks = λ i. (h (first_spot i) j l head).shrinks i;
  alike = λ a b n. subst (λ o. Alike j l head (f (first_spot a) a) (f o b)) (near_spot n) ((h (first_spot a) j l head).alike a b n);
}

pub local_valued : {A : Type 0} {f : ℕ → Reader A} → ((n : ℕ) → IsLocal (f n)) → IsLocal (valued f)
local_valued {f = f} h j l head = record {
  shrinks = λ i. (h (first_value i) j l head).shrinks i;
  alike = λ a b n. subst (λ o. Alike j l head (f (first_value a) a) (f o b)) (near_value n) ((h (first_value a) j l head).alike a b n);
}

pub local_spelled : {A : Type 0} {f : List ℕ → Reader A} → ((w : List ℕ) → IsLocal (f w)) → IsLocal (spelled f)
local_spelled {f = f} h j l head = record {
  shrinks = λ i. (h (first_text i) j l head).shrinks i;
  alike = λ a b n. subst (λ o. Alike j l head (f (first_text a) a) (f o b)) (near_text n) ((h (first_text a) j l head).alike a b n);
}

-- ---- past the first token

rest_shorter : (i : List Tok) → length (rest i) ≤ length i
unfolding rest
rest_shorter [] = omega arith
rest_shorter (t ∷ i) = omega arith

next_here : {A : Type 0} {p : Reader A} {j l : List Tok} (head : SameHead j l) → Local j l head p → Alike j l head (p (rest j)) (p (rest l))
unfolding rest
next_here no_head h = h.alike [] [] here
next_here {p = p} (one_head {q = q} {v = v} {w = w} {a = a} {b = b} s) h =
    past (tok q v ∷ a) (tok q w ∷ b) (one_head s) (p a) (p b) (let n : length (left_of (p a)) ≤ length a = h.shrinks a in omega arith)

next_near : {A : Type 0} {p : Reader A} {j l : List Tok} {head : SameHead j l} → Local j l head p → {a b : List Tok} → Near j l head a b
    → Alike j l head (p (rest a)) (p (rest b))
unfolding rest
next_near {head = head} h here = next_here head h
next_near h (before {a = a} {b = b} n) = h.alike a b n

pub local_next : {A : Type 0} {p : Reader A} → IsLocal p → IsLocal (next p)
local_next h j l head = record {
  shrinks = λ i. let s = (h j l head).shrinks (rest i) in let u = rest_shorter i in omega arith;
  alike = λ a b n. next_near (h j l head) n;
}

-- ---- one reader after another

module _ {A B : Type 0} {p : Reader A} {g : A → Reader B} (h : IsLocal p) (more : (x : A) → IsLocal (g x)) where
  shrinks_at : (i : List Tok) (o : Outcome A) → length (left_of o) ≤ length i → length (left_of (and_then o g)) ≤ length i
  shrinks_at i (Ok q) s = let u = shrinks_of (more q.0) q.1 in omega arith
  shrinks_at i (Err q) s = s

  module _ (j l : List Tok) (head : SameHead j l) where
    and_past : (o : Outcome A) (u : Outcome B) → length (left_of o) < length j → Alike j l head (and_then o g) u
    and_past (Ok q) u s = past j l head (g q.0 q.1) u (let v = shrinks_of (more q.0) q.1 in omega arith)
    and_past (Err q) u s = past j l head (Err q) u s

    alike_at : (o u : Outcome A) → Alike j l head o u → Alike j l head (and_then o g) (and_then u g)
    alike_at (Ok o) (Ok u) (inl s) = subst (λ z. Alike j l head (g o.0 o.1) (g z u.1)) s.0 ((more o.0 j l head).alike o.1 u.1 s.1)
    alike_at (Ok o) (Ok u) (inr s) = and_past (Ok o) (and_then (Ok u) g) s
    alike_at (Ok o) (Err u) s = and_past (Ok o) (Err u) s
    alike_at (Err o) (Ok u) s = past j l head (Err o) (g u.0 u.1) s
    alike_at (Err o) (Err u) s = s

  pub local_then : IsLocal (p >>= g)
  local_then j l head = record {
    shrinks = λ i. shrinks_at i (p i) (shrinks_of h i);
    alike = λ a b n. alike_at j l head (p a) (p b)
        ((h j l head).alike a b n);
  }

local_expect_by : (b : Bool) → IsLocal (expect_by b)
local_expect_by true = local_next (local_pure tt)
local_expect_by false = local_refuse

pub local_expect : (q : TokenKind) → IsLocal (expect q)
unfolding expect
local_expect q = local_look (λ o. local_expect_by (is q o))

-- a part and a value
pub local_map : {A B : Type 0} {p : Reader A} (f : A → B) → IsLocal p → IsLocal (p >>= (λ x. pure (f x)))
local_map f h = local_then h (λ x. local_pure (f x))

-- a token, and then a part
pub local_after : {A : Type 0} {p : Reader A} (q : TokenKind) → IsLocal p → IsLocal (expect q >>= (λ _. p))
local_after q h = local_then (local_expect q) (λ _. h)

-- a token, and a value
pub local_close : {A : Type 0} (q : TokenKind) (x : A) → IsLocal (expect q >>= (λ _. pure x))
local_close q x = local_after q (local_pure x)

local_exceed_by : {A : Type 0} (l : Limit) (b : Bool) → IsLocal {A = A} (exceed_by l b)
local_exceed_by l true = local_exceed l
local_exceed_by l false = local_refuse

pub local_deep : {A : Type 0} (begins : Option TokenKind → Bool) → IsLocal {A = A} (too_deep begins)
local_deep begins = local_look (λ o. local_exceed_by deep (begins o))

-- ---- operators

module _ {A B : Type 0} (joins : Operators A B) {item : Reader B} (h : IsLocal item) where
  local_option : (x : A) (n : Option (A → B → A)) → IsLocal (optional_by item x n)
  local_option x None = local_pure x
  local_option x (Some node) = local_next (local_map (node x) h)

  pub local_optional : (x : A) → IsLocal (optional joins item x)
  local_optional x = local_look (λ o. local_option x (joins o))

  pub local_chain : (n : ℕ) (x : A) → IsLocal (chain joins item n x)
  unfolding chain
  local_chain zero x = local_look (λ o. at (joins o))
    where
      at : (q : Option (A → B → A)) → IsLocal (elim q [ None ↦ pure x | Some node ↦ exceed many ])
      at None = local_pure x
      at (Some node) = local_exceed many
  local_chain (suc n) x = local_look (λ o. at (local_chain n) (joins o))
    where
      at : ((y : A) → IsLocal (chain joins item n y)) → (q : Option (A → B → A))
          → IsLocal (elim q [ None ↦ pure x | Some node ↦ next (item >>= (λ right. chain joins item n (node x right))) ])
      at more None = local_pure x
      at more (Some node) = local_next (local_then h (λ y. more (node x y)))

-- ---- lists

module _ {A : Type 0} (begins : Option TokenKind → Bool) {item : Reader A} (h : IsLocal item) where
  local_entries_by : {more : List A → Reader (List A)} (found : List A) → ((y : List A) → IsLocal (more y)) → (b : Bool)
      → IsLocal (entries_by more found b)
  local_entries_by found more true = local_next (more found)
  local_entries_by found more false = local_pure found

  pub local_entries : (n : ℕ) (found : List A) → IsLocal (entries begins item n found)
  unfolding entries
  local_entries zero found = local_look (λ o. local_exceed_by many (begins o))
  local_entries (suc n) found = local_then h (λ x. local_look (λ o. local_entries_by (found ++ x ∷ []) (local_entries n) (is k.Comma o)))

  local_listed_by : {some : Reader (List A)} → IsLocal some → (b : Bool) → IsLocal (listed_by some b)
  local_listed_by some true = some
  local_listed_by some false = local_pure []

  pub local_listed : (limit : ℕ) → IsLocal (listed begins item limit)
  unfolding listed
  local_listed limit = local_look (λ o. local_listed_by (local_entries limit []) (begins o))

  -- ---- repetitions, where the count of tokens is enough

  local_repeat_by : {more : Reader (List A)} (found : List A) → IsLocal more → (b : Bool) → IsLocal (repeat_by more found b)
  local_repeat_by found more true = more
  local_repeat_by found more false = local_pure found

  local_turns : (n : ℕ) (found : List A) → IsLocal (repeat begins item n found)
  unfolding repeat
  local_turns zero found = local_pure found
  local_turns (suc n) found = local_look (λ o. local_repeat_by found (local_then h (λ x. local_turns n (found ++ x ∷ []))) (begins o))

  module _ (none : begins None ≡ false) (takes : TakesOne item) where
    repeat_end : (n : ℕ) (found : List A) → repeat begins item n found [] ≡ Ok (found, [])
    unfolding repeat
    repeat_end zero found = refl
    repeat_end (suc n) found = rw none refl

    enough_at : (n m : ℕ) (found : List A) (i : List Tok) (o : Outcome A) → item i ≡ o
        → ((x : A) (j : List Tok) → length j < length i → repeat begins item n (found ++ x ∷ []) j ≡ repeat begins item m (found ++ x ∷ []) j)
        → and_then o (λ x. repeat begins item n (found ++ x ∷ [])) ≡ and_then o (λ x. repeat begins item m (found ++ x ∷ []))
    enough_at n m found i (Ok q) e more = more q.0 q.1 (takes i q.1 q.0 e)
    enough_at n m found i (Err q) e more = refl

    enough_if : (n m : ℕ) (found : List A) (i : List Tok) (b : Bool)
        → and_then (item i) (λ x. repeat begins item n (found ++ x ∷ [])) ≡ and_then (item i) (λ x. repeat begins item m (found ++ x ∷ []))
        → repeat_by (item >>= (λ x. repeat begins item n (found ++ x ∷ []))) found b i
        ≡ repeat_by (item >>= (λ x. repeat begins item m (found ++ x ∷ []))) found b i
    enough_if n m found i true e = e
    enough_if n m found i false e = refl

    -- two numbers of turns give the same if the tokens are no more than either
    pub repeat_enough : (n m : ℕ) (found : List A) (i : List Tok) → length i ≤ n → length i ≤ m
        → repeat begins item n found i ≡ repeat begins item m found i
    unfolding repeat
    repeat_enough zero m found [] p q = sym (repeat_end m found)
    repeat_enough zero m found (t ∷ i) p q = absurd (omega arith)
    repeat_enough (suc n) zero found [] p q = repeat_end (suc n) found
    repeat_enough (suc n) zero found (t ∷ i) p q = absurd (omega arith)
    repeat_enough (suc n) (suc m) found i p q = enough_if n m found i (begins (first_kind i))
        (enough_at n m found i (item i) refl (λ x j s. repeat_enough n m (found ++ x ∷ []) j (omega arith) (omega arith)))

    pub local_repeat : (found : List A) → IsLocal (λ i. repeat begins item (length i) found i)
    local_repeat found j l head = record {
      shrinks = λ i. shrinks_of (local_turns (length i) found) i;
      alike = λ a b n. let both : ℕ = length a + length b in
          rw (repeat_enough (length a) both found a (omega arith) (omega arith), repeat_enough (length b) both found b (omega arith) (omega arith))
          ((local_turns both found j l head).alike a b n);
    }

-- ---- readers that take a token at least

pub takes_expect : (q : TokenKind) → TakesOne (expect q)
unfolding expect rest
takes_expect q [] j x e = cc
takes_expect q (t ∷ i) j x e = at (is q (first_kind (t ∷ i))) e
  where
    at : (b : Bool) → expect_by b (t ∷ i) ≡ Ok (x, j) → length j < length (t ∷ i)
    at true f = let pair : ◌≡◌ {A = Unit {0} × List Tok} (tt, i) (x, j) = cc in let same : i ≡ j = ap (λ (p : Unit {0} × List Tok). p.1) pair in
        let P : List Tok → Type 0 = λ j. length j < length (t ∷ i) in subst P same (omega arith)
    at false f = cc

-- if the first part takes one
pub takes_first : {A B : Type 0} {p : Reader A} {g : A → Reader B} → TakesOne p → ((x : A) → IsLocal (g x)) → TakesOne (p >>= g)
takes_first {A = A} {B = B} {p = p} {g = g} takes more i j y e = at (p i) refl e
  where
    at : (o : Outcome A) → p i ≡ o → and_then o g ≡ Ok (y, j) → length j < length i
    at (Ok q) f e = let one : length q.1 < length i = takes i q.1 q.0 f in let s = shrinks_of (more q.0) q.1 in
        let P : Outcome B → Type 0 = λ o. length (left_of o) ≤ length q.1 in let t : length j ≤ length q.1 = subst P e s in omega arith
    at (Err q) f e = cc

-- if what follows the first part takes one
pub takes_last : {A B : Type 0} {p : Reader A} {g : A → Reader B} → IsLocal p → ((x : A) → TakesOne (g x)) → TakesOne (p >>= g)
takes_last {A = A} {B = B} {p = p} {g = g} h takes i j y e = at (p i) (shrinks_of h i) e
  where
    at : (o : Outcome A) → length (left_of o) ≤ length i → and_then o g ≡ Ok (y, j) → length j < length i
    at (Ok q) s e = let one : length j < length q.1 = takes q.0 q.1 j y e in omega arith
    at (Err q) s e = cc

pub takes_spotted : {A : Type 0} {f : Spot → Reader A} → ((s : Spot) → TakesOne (f s)) → TakesOne (spotted f)
takes_spotted h i j x e = h (first_spot i) i j x e
