-- What a reader of tokens answers, and the steps that every reader is made of.
use Rattle.std.specs.Prelude.{ℕ, zero, suc, Bool, true, false, List, [], ◌∷◌, ◌++◌, Option, Some, None, Result, Ok, Err}
use denote.Enum.Bare.{sameb}
use Rattle.tht_tree.specs.declared.plain.Spot.{Spot}
use Rattle.tht_tree.specs.declared.token.TokenKind.{TokenKind}
use Rattle.tht_tree.specs.declared.token.TokenKind.TheVariants as k
use Rattle.tht_tree.specs.contracts.token.TokenKind.{the_type}
use Rattle.tht_tree.specs.Tokens.{Limit, deep, many, Tok, info_of, first_kind}
use Rattle.tht_tree.specs.Productions.{Operators}
use Rattle.tht_tree.specs.Faults.{Fault, unexpected, over}

-- a value and the tokens after it, or a fault and the tokens from it on
abbrev pub Outcome : Type 0 → Type 0
Outcome A = Result (A × List Tok) (Fault × List Tok)

abbrev pub Reader : Type 0 → Type 0
Reader A = List Tok → Outcome A

abbrev pub and_then : {A B : Type 0} → Outcome A → (A → Reader B) → Outcome B
and_then (Ok p) f = f p.0 p.1
and_then (Err e) f = Err e

infixl 10 ◌>>=◌
abbrev pub ◌>>=◌ : {A B : Type 0} → Reader A → (A → Reader B) → Reader B
p >>= f = λ i. and_then (p i) f

infixl 10 ◌>>◌
abbrev pub ◌>>◌ : {A B : Type 0} → Reader A → Reader B → Reader B
p >> q = p >>= (λ _. q)

abbrev pub pure : {A : Type 0} → A → Reader A
pure a = λ i. Ok (a, i)

-- the next token cannot stand there
abbrev pub refuse : {A : Type 0} → Reader A
refuse = λ i. Err (unexpected, i)

-- at the next token a limit is passed
abbrev pub exceed : {A : Type 0} → Limit → Reader A
exceed l = λ i. Err (over l, i)

-- ---- the next token

unfoldable pub same_kind : TokenKind → TokenKind → Bool
same_kind = sameb the_type

abbrev pub is : TokenKind → Option TokenKind → Bool
is q None = false
is q (Some r) = same_kind r q

unfoldable pub rest : List Tok → List Tok
rest [] = []
rest (t ∷ ts) = ts

abbrev pub nowhere : Spot
nowhere = record { line = 0; column = 0 }

unfoldable pub first_spot : List Tok → Spot
first_spot [] = nowhere
first_spot (t ∷ ts) = (info_of t).spot

unfoldable pub first_text : List Tok → List ℕ
first_text [] = []
first_text (t ∷ ts) = (info_of t).text

unfoldable pub first_value : List Tok → ℕ
first_value [] = 0
first_value (t ∷ ts) = (info_of t).value

-- goes on by the kind of the next token
abbrev pub look : {A : Type 0} → (Option TokenKind → Reader A) → Reader A
look f = λ i. f (first_kind i) i

-- goes on past the next token
abbrev pub next : {A : Type 0} → Reader A → Reader A
next p = λ i. p (rest i)

-- goes on with the next token's spot, text or value
abbrev pub spotted : {A : Type 0} → (Spot → Reader A) → Reader A
spotted f = λ i. f (first_spot i) i

abbrev pub spelled : {A : Type 0} → (List ℕ → Reader A) → Reader A
spelled f = λ i. f (first_text i) i

abbrev pub valued : {A : Type 0} → (ℕ → Reader A) → Reader A
valued f = λ i. f (first_value i) i

abbrev pub expect_by : Bool → Reader (Unit {0})
expect_by true = next (pure tt)
expect_by false = refuse

-- a token of this kind
unfoldable pub expect : TokenKind → Reader (Unit {0})
expect q = look (λ o. expect_by (is q o))

-- a limit is passed where such a token comes next; any other cannot stand there
abbrev pub exceed_by : {A : Type 0} → Limit → Bool → Reader A
exceed_by l true = exceed l
exceed_by l false = refuse

-- a construct for which no more may be open
abbrev pub too_deep : {A : Type 0} → (Option TokenKind → Bool) → Reader A
too_deep begins = look (λ o. exceed_by deep (begins o))

-- ---- operators

-- a chain that goes on from its left part, with room for so many operators
unfoldable pub chain : {A B : Type 0} → Operators A B → Reader B → ℕ → A → Reader A
chain joins item zero left = look (λ o. elim (joins o) [ None ↦ pure left | Some node ↦ exceed many ])
chain joins item (suc n) left = look (λ o. elim (joins o) [ None ↦ pure left | Some node ↦ next (item >>= (λ right. chain joins item n (node left right))) ])

abbrev pub optional_by : {A B : Type 0} → Reader B → A → Option (A → B → A) → Reader A
optional_by item left None = pure left
optional_by item left (Some node) = next (item >>= (λ right. pure (node left right)))

-- an operator and its right part, if such an operator comes next
abbrev pub optional : {A B : Type 0} → Operators A B → Reader B → A → Reader A
optional joins item left = look (λ o. optional_by item left (joins o))

-- ---- repetitions

-- after an entry: a comma and more, or nothing more
abbrev pub entries_by : {A : Type 0} → (List A → Reader (List A)) → List A → Bool → Reader (List A)
entries_by more found true = next (more found)
entries_by more found false = pure found

-- Entries with commas between them, after those that were found, with room for so many more. Such tokens begin an entry.
unfoldable pub entries : {A : Type 0} → (Option TokenKind → Bool) → Reader A → ℕ → List A → Reader (List A)
entries begins item zero found = look (λ o. exceed_by many (begins o))
entries begins item (suc n) found = item >>= (λ x. look (λ o. entries_by (entries begins item n) (found ++ x ∷ []) (is k.Comma o)))

abbrev pub listed_by : {A : Type 0} → Reader (List A) → Bool → Reader (List A)
listed_by some true = some
listed_by some false = pure []

-- so many entries at most, or none
unfoldable pub listed : {A : Type 0} → (Option TokenKind → Bool) → Reader A → ℕ → Reader (List A)
listed begins item limit = look (λ o. listed_by (entries begins item limit []) (begins o))

-- goes on where another item begins, and gives what was found where none does
abbrev pub repeat_by : {A : Type 0} → Reader (List A) → List A → Bool → Reader (List A)
repeat_by more found true = more
repeat_by more found false = pure found

-- Items as long as such tokens begin one, after those that were found. The number bounds the turns: each takes a token at
-- least, so the count of tokens is enough.
unfoldable pub repeat : {A : Type 0} → (Option TokenKind → Bool) → Reader A → ℕ → List A → Reader (List A)
repeat begins item zero found = pure found
repeat begins item (suc n) found = look (λ o. repeat_by (item >>= (λ x. repeat begins item n (found ++ x ∷ []))) found (begins o))
