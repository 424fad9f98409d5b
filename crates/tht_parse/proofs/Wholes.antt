-- What whole texts come to, by what the reader of files says.
use Rattle.std.proofs.Common.{◌≡◌, ap, sym, subst, ◌∙◌, refl, ℕ, List, [], ◌∷◌, Some, None, Result, Ok, Err}
use Rattle.std.specs.Result.{IsErrAnd}
use Rattle.tht_tree.specs.declared.token.TokenKind.{TokenKind}
use Rattle.tht_tree.specs.declared.file.Source1.{Source1}
use Rattle.tht_tree.specs.Tokens.{Tok, first_kind}
use Rattle.tht_tree.specs.Splitting.{Splits, start_spot}
use Rattle.tht_tree.specs.Faults.{Fault, unexpected}
use Rattle.tht_tree.specs.Spelling.{IsSpelled}
use Rattle.tht_grammar.specs.Steps.{Outcome}
use Rattle.tht_grammar.specs.Reading.{file, nested, whole, finish}
use Rattle.tht_grammar.proofs.Splits.{split_complete}
use Rattle.tht_grammar.proofs.Texts.{text_ok, text_complete, text_fault}
use Rattle.tht_grammar.proofs.TextFaults.{no_file_split}
use Rattle.tht_lex.specs.declared.end.LexEnd.{LexEnd}
use Rattle.tht_lex.specs.declared.end.LexEnd.TheVariants as l
use Rattle.tht_lex.specs.Tokens.{IsFirstFault as IsFirstLexFault}
use Rattle.tht_parse.specs.declared.end.ParseEnd.{ParseEnd}
use Rattle.tht_parse.specs.declared.stop.Fault.TheVariants as f
use Rattle.tht_parse.specs.declared.stop.Stop.{Stop}
use Rattle.tht_parse.specs.declared.stop.Stop.TheVariants as s
use Rattle.tht_parse.specs.Readings.{fault_of, Stops}
use Rattle.tht_parse.specs.Ends.{IsFirstFault, IsOkOrMemory}
use Rattle.tht_parse.specs.Lexed.{lexed}
use Rattle.tht_parse.specs.Stopping.{end_of}

-- ---- from files to whole texts

module _ (i : List Tok) (x : Source1) where
  none_finish : (j : List Tok) → first_kind j ≡ None → ◌≡◌ {A = Outcome Source1} (finish (Ok (x, j))) (Ok (x, j))
  none_finish [] e = refl
  none_finish (t ∷ j) e = cc

  some_finish : (j : List Tok) (q : TokenKind) → first_kind j ≡ Some q → ◌≡◌ {A = Outcome Source1} (finish (Ok (x, j))) (Err (unexpected, j))
  some_finish [] q e = cc
  some_finish (t ∷ j) q e = refl

  pub none_left : (j : List Tok) → file (nested 100) i ≡ Ok (x, j) → first_kind j ≡ None → whole i ≡ Ok (x, j)
  unfolding whole
  none_left j e end = ap finish e ∙ none_finish j end

  pub some_left : (j : List Tok) (q : TokenKind) → file (nested 100) i ≡ Ok (x, j) → first_kind j ≡ Some q → whole i ≡ Err (unexpected, j)
  unfolding whole
  some_left j q e end = ap finish e ∙ some_finish j q end

pub not_read : (i : List Tok) (f : Fault × List Tok) → file (nested 100) i ≡ Err f → whole i ≡ Err f
unfolding whole
not_read i f e = ap finish e

-- nothing is left of a text that is read
all_read : (i : List Tok) (x : Source1) (j : List Tok) → whole i ≡ Ok (x, j) → j ≡ []
unfolding whole
all_read i x j e = go (file (nested 100) i) e
  where
    go : (o : Outcome Source1) → finish o ≡ Ok (x, j) → j ≡ []
    go (Ok (y, [])) h = let pair : ◌≡◌ {A = Source1 × List Tok} (y, []) (x, j) = cc in sym (ap (λ (p : Source1 × List Tok). p.1) pair)
    go (Ok (y, (t ∷ ts))) h = cc
    go (Err f) h = cc

-- ---- from tokens to bytes

same_file : {a b : Source1} {j l : List Tok} → ◌≡◌ {A = Outcome Source1} (Ok (a, j)) (Ok (b, l)) → a ≡ b
same_file {a = a} {b = b} {j = j} {l = l} e =
    let pair : ◌≡◌ {A = Source1 × List Tok} (a, j) (b, l) = cc in ap (λ (p : Source1 × List Tok). p.0) pair

module _ (bytes : List ℕ) (ts : List Tok) (split : Splits start_spot bytes (Ok ts)) where
  found_all : (x : Source1) (j : List Tok) → whole ts ≡ Ok (x, j) → whole ts ≡ Ok (x, [])
  found_all x j e = subst (λ l. whole ts ≡ Ok (x, l)) (all_read ts x j e) e

  pub found_ok : (x : Source1) (j : List Tok) → whole ts ≡ Ok (x, j) → IsSpelled x bytes
  found_ok x j e = text_ok bytes ts x (split_complete split) (found_all x j e)

  pub found_only : (x : Source1) (j : List Tok) → whole ts ≡ Ok (x, j) → (y : Source1) → IsSpelled y bytes → x ≡ y
  found_only x j e y h = same_file (sym e ∙ text_complete bytes ts y (split_complete split) h)

  pub stop_fault : (stop : Stop) (j : List Tok) → Stops (whole ts) stop j → IsFirstFault bytes (end_of bytes j stop)
  stop_fault (s.Fault f.Unexpected) j e = text_fault bytes ts (fault_of f.Unexpected) j (split_complete split) e
  stop_fault (s.Fault f.Deep) j e = (first_kind j, text_fault bytes ts (fault_of f.Deep) j (split_complete split) e)
  stop_fault (s.Fault f.Many) j e = (first_kind j, text_fault bytes ts (fault_of f.Many) j (split_complete split) e)
  stop_fault (s.Fault f.Version) j e = (first_kind j, text_fault bytes ts (fault_of f.Version) j (split_complete split) e)
  stop_fault s.Memory j e = tt

  none_spelled : (f : Fault) (j : List Tok) → whole ts ≡ Err (f, j) → (y : Source1) → IsSpelled y bytes → ⊥
  none_spelled f j e y h = let read = text_complete bytes ts y (split_complete split) h in cc

  pub stop_only : (stop : Stop) (j : List Tok) → Stops (whole ts) stop j → (y : Source1) → IsSpelled y bytes → IsOkOrMemory (Err (end_of bytes j stop)) y
  stop_only (s.Fault f.Unexpected) j e y h = none_spelled (fault_of f.Unexpected) j e y h
  stop_only (s.Fault f.Deep) j e y h = none_spelled (fault_of f.Deep) j e y h
  stop_only (s.Fault f.Many) j e y h = none_spelled (fault_of f.Many) j e y h
  stop_only (s.Fault f.Version) j e y h = none_spelled (fault_of f.Version) j e y h
  stop_only s.Memory j e y h = tt

-- ---- from bytes that do not split

spells_none : (bytes : List ℕ) (end : LexEnd) → IsFirstLexFault bytes end → (y : Source1) → IsSpelled y bytes → IsOkOrMemory (Err (lexed end)) y
spells_none bytes (l.BadByte spot) h y s = no_file_split bytes _ spot h y s
spells_none bytes (l.LongName spot) h y s = no_file_split bytes _ spot h y s
spells_none bytes (l.BigNumber spot) h y s = no_file_split bytes _ spot h y s
spells_none bytes l.Memory h y s = tt

pub lex_only : (bytes : List ℕ) (end : LexEnd) → IsFirstLexFault bytes end → (r : Result Source1 ParseEnd) → IsErrAnd r (λ e. e ≡ lexed end)
    → (y : Source1) → IsSpelled y bytes → IsOkOrMemory r y
lex_only bytes end h (Ok x) told y s = absurd told
lex_only bytes end h (Err e) told y s = subst (λ (e : ParseEnd). IsOkOrMemory (Err e) y) (sym told) (spells_none bytes end h y s)
