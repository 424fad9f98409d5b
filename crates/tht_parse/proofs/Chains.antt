-- One turn of a chain or a list, beside a loop that counts up.
use Rattle.std.proofs.Common.{◌≡◌, ℕ, zero, suc, ◌+◌, ◌-◌, ◌<◌, ◌≤◌, ap, ◌∙◌, refl, arith, List, true, false, Option, Some, None, Ok, Err}
use Rattle.tht_tree.specs.declared.token.TokenKind.{TokenKind}
use Rattle.tht_tree.specs.declared.token.TokenKind.TheVariants as k
use Rattle.tht_tree.specs.declared.plain.Spot.{Spot}
use Rattle.tht_tree.specs.declared.term.Term.{Term}
use Rattle.tht_tree.specs.declared.term.Term.TheVariants as t
use Rattle.tht_tree.specs.declared.assn.Assn.{Assn}
use Rattle.tht_tree.specs.declared.assn.Assn.TheVariants as a
use Rattle.tht_tree.specs.declared.give.Give.{Give}
use Rattle.tht_tree.specs.Tokens.{Tok, many, first_kind}
use Rattle.tht_tree.specs.Productions.{Operators}
use Rattle.tht_tree.specs.Faults.{Fault, over}
use Rattle.tht_tree.specs.Grammar.{Nested, Tree, dots, stars, joint, joins}
use Rattle.tht_grammar.specs.Steps.{Reader, same_kind, is, rest, first_spot, chain}
use Rattle.tht_grammar.specs.Reading.{gpr, give}

-- ---- chains

module _ {A B : Type 0} (joins : Operators A B) (item : Reader B) where
  stays : (n : ℕ) (l : A) (i : List Tok) → joins (first_kind i) ≡ None → chain joins item n l i ≡ Ok (l, i)
  unfolding chain
  stays zero l i e = rw e refl
  stays (suc n) l i e = rw e refl

  is_full : (l : A) (i : List Tok) (node : A → B → A) → joins (first_kind i) ≡ Some node → chain joins item 0 l i ≡ Err (over many, i)
  unfolding chain
  is_full l i node e = rw e refl

  goes_on : (n : ℕ) (l : A) (i : List Tok) (node : A → B → A) (r : B) (j : List Tok) → joins (first_kind i) ≡ Some node
      → item (rest i) ≡ Ok (r, j) → chain joins item (suc n) l i ≡ chain joins item n (node l r) j
  unfolding chain
  goes_on n l i node r j e f = rw (e, f) refl

  is_stuck : (n : ℕ) (l : A) (i : List Tok) (node : A → B → A) (f : Fault × List Tok) → joins (first_kind i) ≡ Some node
      → item (rest i) ≡ Err f → chain joins item (suc n) l i ≡ Err f
  unfolding chain
  is_stuck n l i node f e g = rw (e, g) refl

pub chain_none : {A B : Type 0} (joins : Operators A B) (item : Reader B) (n : ℕ) (l : A) (i : List Tok) → joins (first_kind i) ≡ None → chain joins item n l i ≡ Ok (l, i)
chain_none joins item n l i e = stays joins item n l i e

pub chain_many : {A B : Type 0} (joins : Operators A B) (item : Reader B) (n at : ℕ) (l : A) (i : List Tok) (node : A → B → A)
    → joins (first_kind i) ≡ Some node → n ≤ at → chain joins item (n - at) l i ≡ Err (over many, i)
chain_many joins item n at l i node e past = let none : n - at ≡ 0 = omega arith in ap (λ c. chain joins item c l i) none ∙ is_full joins item l i node e

pub chain_step : {A B : Type 0} (joins : Operators A B) (item : Reader B) (n at : ℕ) (l : A) (i : List Tok) (node : A → B → A) (r : B) (j : List Tok)
    → joins (first_kind i) ≡ Some node → at < n → item (rest i) ≡ Ok (r, j) → chain joins item (n - at) l i ≡ chain joins item (n - (at + 1)) (node l r) j
chain_step joins item n at l i node r j e below f =
    let turn : n - at ≡ suc (n - (at + 1)) = omega arith in
    ap (λ c. chain joins item c l i) turn ∙ goes_on joins item (n - (at + 1)) l i node r j e f

pub chain_err : {A B : Type 0} (joins : Operators A B) (item : Reader B) (n at : ℕ) (l : A) (i : List Tok) (node : A → B → A) (f : Fault × List Tok)
    → joins (first_kind i) ≡ Some node → at < n → item (rest i) ≡ Err f → chain joins item (n - at) l i ≡ Err f
chain_err joins item n at l i node f e below g =
    let turn : n - at ≡ suc (n - (at + 1)) = omega arith in
    ap (λ c. chain joins item c l i) turn ∙ is_stuck joins item (n - (at + 1)) l i node f e g

-- ---- chains with one operator

-- the table has this operator alone
record OneOperator {A B : Type 0} (q : TokenKind) (node : A → B → A) (table : Operators A B) : Type 0 where
  here : (o : Option TokenKind) → is q o ≡ true → table o ≡ Some node
  elsewhere : (o : Option TokenKind) → is q o ≡ false → table o ≡ None

module _ {A B : Type 0} (q : TokenKind) (node : A → B → A) (table : Operators A B) (one : OneOperator q node table) (item : Reader B) (l : A) (i : List Tok) where
  one_none : (n : ℕ) → is q (first_kind i) ≡ false → chain table item n l i ≡ Ok (l, i)
  one_none n e = chain_none table item n l i (one.elsewhere (first_kind i) e)

  one_many : (n at : ℕ) → is q (first_kind i) ≡ true → n ≤ at → chain table item (n - at) l i ≡ Err (over many, i)
  one_many n at e past = chain_many table item n at l i node (one.here (first_kind i) e) past

  one_step : (n at : ℕ) (r : B) (j : List Tok) → is q (first_kind i) ≡ true → at < n → item (rest i) ≡ Ok (r, j)
      → chain table item (n - at) l i ≡ chain table item (n - (at + 1)) (node l r) j
  one_step n at r j e below f = chain_step table item n at l i node r j (one.here (first_kind i) e) below f

  one_err : (n at : ℕ) (f : Fault × List Tok) → is q (first_kind i) ≡ true → at < n → item (rest i) ≡ Err f → chain table item (n - at) l i ≡ Err f
  one_err n at f e below g = chain_err table item n at l i node f (one.here (first_kind i) e) below g

-- ---- offsets

one_dots : OneOperator k.Dot t.Offset dots
unfolding same_kind
one_dots = record { here = here; elsewhere = elsewhere }
  where
    here : (o : Option TokenKind) → is k.Dot o ≡ true → dots o ≡ Some t.Offset
    here None e = cc
    here (Some k.Dot) e = refl
    here (Some _) e = cc

    elsewhere : (o : Option TokenKind) → is k.Dot o ≡ false → dots o ≡ None
    elsewhere None e = refl
    elsewhere (Some k.Dot) e = cc
    elsewhere (Some _) e = refl

module _ (item : Reader ℕ) (l : Term) (i : List Tok) where
  pub dots_none : (n : ℕ) → is k.Dot (first_kind i) ≡ false → chain dots item n l i ≡ Ok (l, i)
  dots_none n e = one_none k.Dot t.Offset dots (one_dots) item l i n e

  pub dots_many : (n at : ℕ) → is k.Dot (first_kind i) ≡ true → n ≤ at → chain dots item (n - at) l i ≡ Err (over many, i)
  dots_many n at e past = one_many k.Dot t.Offset dots (one_dots) item l i n at e past

  pub dots_step : (n at : ℕ) (r : ℕ) (j : List Tok) → is k.Dot (first_kind i) ≡ true → at < n → item (rest i) ≡ Ok (r, j)
      → chain dots item (n - at) l i ≡ chain dots item (n - (at + 1)) (t.Offset l r) j
  dots_step n at r j e below f = one_step k.Dot t.Offset dots (one_dots) item l i n at r j e below f

  pub dots_err : (n at : ℕ) (f : Fault × List Tok) → is k.Dot (first_kind i) ≡ true → at < n → item (rest i) ≡ Err f → chain dots item (n - at) l i ≡ Err f
  dots_err n at f e below g = one_err k.Dot t.Offset dots (one_dots) item l i n at f e below g

-- ---- assertions

one_stars : OneOperator k.Star a.Star stars
unfolding same_kind
one_stars = record { here = here; elsewhere = elsewhere }
  where
    here : (o : Option TokenKind) → is k.Star o ≡ true → stars o ≡ Some a.Star
    here None e = cc
    here (Some k.Star) e = refl
    here (Some _) e = cc

    elsewhere : (o : Option TokenKind) → is k.Star o ≡ false → stars o ≡ None
    elsewhere None e = refl
    elsewhere (Some k.Star) e = cc
    elsewhere (Some _) e = refl

module _ (item : Reader Assn) (l : Assn) (i : List Tok) where
  pub stars_none : (n : ℕ) → is k.Star (first_kind i) ≡ false → chain stars item n l i ≡ Ok (l, i)
  stars_none n e = one_none k.Star a.Star stars (one_stars) item l i n e

  pub stars_many : (n at : ℕ) → is k.Star (first_kind i) ≡ true → n ≤ at → chain stars item (n - at) l i ≡ Err (over many, i)
  stars_many n at e past = one_many k.Star a.Star stars (one_stars) item l i n at e past

  pub stars_step : (n at : ℕ) (r : Assn) (j : List Tok) → is k.Star (first_kind i) ≡ true → at < n → item (rest i) ≡ Ok (r, j)
      → chain stars item (n - at) l i ≡ chain stars item (n - (at + 1)) (a.Star l r) j
  stars_step n at r j e below f = one_step k.Star a.Star stars (one_stars) item l i n at r j e below f

  pub stars_err : (n at : ℕ) (f : Fault × List Tok) → is k.Star (first_kind i) ≡ true → at < n → item (rest i) ≡ Err f → chain stars item (n - at) l i ≡ Err f
  stars_err n at f e below g = one_err k.Star a.Star stars (one_stars) item l i n at f e below g

-- ---- gives

one_joins : (spot : Spot) → OneOperator k.Star (joint spot) (joins spot)
unfolding same_kind
one_joins spot = record { here = here; elsewhere = elsewhere }
  where
    here : (o : Option TokenKind) → is k.Star o ≡ true → joins spot o ≡ Some (joint spot)
    here None e = cc
    here (Some k.Star) e = refl
    here (Some _) e = cc

    elsewhere : (o : Option TokenKind) → is k.Star o ≡ false → joins spot o ≡ None
    elsewhere None e = refl
    elsewhere (Some k.Star) e = cc
    elsewhere (Some _) e = refl

-- a chain of gives that begins at this spot, with room for so many operators
pub gives : Spot → Reader Give → ℕ → Give → Reader Give
gives spot item n left = chain (joins spot) item n left

module _ (spot : Spot) (item : Reader Give) (l : Give) (i : List Tok) where
  pub gives_none : (n : ℕ) → is k.Star (first_kind i) ≡ false → gives spot item n l i ≡ Ok (l, i)
  unfolding gives
  gives_none n e = one_none k.Star (joint spot) (joins spot) (one_joins spot) item l i n e

  pub gives_many : (n at : ℕ) → is k.Star (first_kind i) ≡ true → n ≤ at → gives spot item (n - at) l i ≡ Err (over many, i)
  unfolding gives
  gives_many n at e past = one_many k.Star (joint spot) (joins spot) (one_joins spot) item l i n at e past

  pub gives_step : (n at : ℕ) (r : Give) (j : List Tok) → is k.Star (first_kind i) ≡ true → at < n → item (rest i) ≡ Ok (r, j)
      → gives spot item (n - at) l i ≡ gives spot item (n - (at + 1)) (joint spot l r) j
  unfolding gives
  gives_step n at r j e below f = one_step k.Star (joint spot) (joins spot) (one_joins spot) item l i n at r j e below f

  pub gives_err : (n at : ℕ) (f : Fault × List Tok) → is k.Star (first_kind i) ≡ true → at < n → item (rest i) ≡ Err f → gives spot item (n - at) l i ≡ Err f
  unfolding gives
  gives_err n at f e below g = one_err k.Star (joint spot) (joins spot) (one_joins spot) item l i n at f e below g

-- the whole chain, by its first part
module _ (inner : (n : Nested) → Reader (Tree n)) (i : List Tok) where
  pub give_first : (x : Give) (j : List Tok) → gpr inner i ≡ Ok (x, j) → give inner i ≡ gives (first_spot i) (gpr inner) 64 x j
  unfolding gives give
  give_first x j e = rw e refl

  pub give_err : (f : Fault × List Tok) → gpr inner i ≡ Err f → give inner i ≡ Err f
  unfolding give
  give_err f e = rw e refl
