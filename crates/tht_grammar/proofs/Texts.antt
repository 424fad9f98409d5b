-- What the reader of whole files says, and what bytes spell.
use Rattle.std.proofs.Common.{◌≡◌, ℕ, ap, sym, subst, ◌∙◌, refl, arith, List, [], ◌∷◌, Ok, Err}
use Rattle.tht_tree.specs.declared.plain.Spot.{Spot}
use Rattle.tht_tree.specs.declared.file.Source1.{Source1}
use Rattle.tht_tree.specs.Tokens.{Tok, first_kind}
use Rattle.tht_tree.specs.Splitting.{Split, Splits, LexFault, start_spot}
use Rattle.tht_tree.specs.Productions.{Rel}
use Rattle.tht_tree.specs.Grammar as g
use Rattle.tht_tree.specs.Grammar.{Nested, Tree, spells, SpellsFile}
use Rattle.tht_tree.specs.Faults.{Fault, IsFault, spot_in}
use Rattle.tht_tree.specs.Spelling.{IsSpelled, FaultsInSplitting, FaultsInSpelling}
use Rattle.tht_grammar.specs.Steps.{Outcome}
use Rattle.tht_grammar.specs.Pieces.{split_from}
use Rattle.tht_grammar.specs.Reading as r
use Rattle.tht_grammar.specs.Reading.{nested, whole}
use Rattle.tht_grammar.proofs.FirstFault.{AllCount}
use Rattle.tht_grammar.proofs.LocalRules.{file_is_local}
use Rattle.tht_grammar.proofs.Splits.{split_complete, split_exact}
use Rattle.tht_grammar.proofs.TextFaults.{tokens_count}
use Rattle.tht_grammar.proofs.Exact.{Exact, anywhere}
use Rattle.tht_grammar.proofs.Depth.{nested_exact}
use Rattle.tht_grammar.proofs.Files.{file_exact}
use Rattle.tht_grammar.proofs.Judge.{judge_ok, judge_complete, judge_fault}

-- a file with at most so many constructs inside one another
abbrev FileWithin : ℕ → Rel Source1
FileWithin n = g.file (spells n 0)

same_tokens : {ts us : List Tok} → ◌≡◌ {A = Split} (Ok ts) (Ok us) → ts ≡ us
same_tokens e = cc

same_file : {a b : Source1} {j l : List Tok} → ◌≡◌ {A = Outcome Source1} (Ok (a, j)) (Ok (b, l)) → a ≡ b
same_file {a = a} {b = b} {j = j} {l = l} e =
    let pair : ◌≡◌ {A = Source1 × List Tok} (a, j) (b, l) = cc in ap (λ (p : Source1 × List Tok). p.0) pair

-- the empty text spells no file
pub empty_text_spells_none : (x : Source1) → IsSpelled x [] → ⊥
unfolding split_from
empty_text_spells_none x h = go h.tokens (split_complete h.split) h.spelled
  where
    go : (ts : List Tok) → split_from 0 start_spot [] ≡ Ok ts → SpellsFile ts x [] → ⊥
    go [] e (n, s) = elim s [ ]
    go (t ∷ ts) e s = let same : [] ≡ t ∷ ts = same_tokens e in cc

-- Up to a hundred constructs may be open. Three more leave room for what could stand where a fault is found.
exact_at : (n : ℕ) → Exact (FileWithin 103) (FileWithin n) anywhere (r.file (nested 100))
exact_at n = file_exact (nested_exact 100 0 (omega arith) 100 n (omega arith))

-- what is read is spelled by all of the tokens
pub whole_ok : (i : List Tok) (x : Source1) → whole i ≡ Ok (x, []) → SpellsFile i x []
unfolding whole
whole_ok i x h = judge_ok FileWithin 103 (r.file (nested 100)) exact_at refl (file_is_local 100) i x h

-- what all of the tokens spell is read, where all limits count
pub whole_complete : (i : List Tok) → AllCount i → (x : Source1) → SpellsFile i x [] → whole i ≡ Ok (x, [])
unfolding whole
whole_complete i all x h = judge_complete FileWithin 103 (r.file (nested 100)) exact_at refl (file_is_local 100) i all x h

-- a fault is the first one of the tokens
pub whole_fault : (i : List Tok) (f : Fault) (j : List Tok) → whole i ≡ Err (f, j) → IsFault SpellsFile i f j
unfolding whole
whole_fault i f j h = judge_fault FileWithin 103 (r.file (nested 100)) exact_at refl (file_is_local 100) i (f, j) h

-- ---- bytes

module _ (bytes : List ℕ) where
  -- what is read of their tokens is spelled by the bytes
  pub text_ok : (ts : List Tok) (x : Source1) → split_from 0 start_spot bytes ≡ Ok ts → whole ts ≡ Ok (x, []) → IsSpelled x bytes
  text_ok ts x e h = record {
    tokens = ts;
    split = let P : Split → Type 0 = Splits start_spot bytes in subst P e (split_exact start_spot bytes);
    spelled = whole_ok ts x h;
  }

  -- what the bytes spell is read of their tokens
  pub text_complete : (ts : List Tok) (x : Source1) → split_from 0 start_spot bytes ≡ Ok ts → IsSpelled x bytes → whole ts ≡ Ok (x, [])
  text_complete ts x e h =
      let same : h.tokens ≡ ts = same_tokens (sym (split_complete h.split) ∙ e) in
      ap whole (sym same) ∙ whole_complete h.tokens (tokens_count h.split) x h.spelled

  -- where they are at fault
  pub text_fault : (ts : List Tok) (f : Fault) (j : List Tok) → split_from 0 start_spot bytes ≡ Ok ts → whole ts ≡ Err (f, j)
      → FaultsInSpelling bytes f (spot_in bytes j) (first_kind j)
  text_fault ts f j e h = record {
    tokens = ts;
    left = j;
    split = let P : Split → Type 0 = Splits start_spot bytes in subst P e (split_exact start_spot bytes);
    fault = whole_fault ts f j h;
    spot_is = refl;
    found_is = refl;
  }

  -- where they do not split
  pub text_split_fault : (f : LexFault) (spot : Spot) → split_from 0 start_spot bytes ≡ Err (f, spot) → FaultsInSplitting bytes f spot
  text_split_fault f spot e = let P : Split → Type 0 = Splits start_spot bytes in subst P e (split_exact start_spot bytes)

-- bytes spell one file at most
pub one_file : (a b : Source1) (bytes : List ℕ) → IsSpelled a bytes → IsSpelled b bytes → a ≡ b
one_file a b bytes h s =
    let e : split_from 0 start_spot bytes ≡ Ok h.tokens = split_complete h.split in
    same_file (sym (text_complete bytes h.tokens a e h) ∙ text_complete bytes h.tokens b e s)
