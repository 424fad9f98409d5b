-- Bytes have one first fault at most, and none where they spell a file.
use Rattle.std.proofs.Common.{◌≡◌, ap, sym, subst, ◌∙◌, refl, ℕ, List, [], Option, Ok, Err}
use Rattle.tht_tree.specs.declared.plain.Spot.{Spot}
use Rattle.tht_tree.specs.declared.token.TokenKind.{TokenKind}
use Rattle.tht_tree.specs.declared.file.Source1.{Source1}
use Rattle.tht_tree.specs.Tokens.{Tok, first_kind}
use Rattle.tht_tree.specs.Splitting.{Split, Splits, LexFault, no_bytes, a_blank, a_comment, a_word, too_long, a_number, too_big, a_pair, a_single, a_bad}
use Rattle.tht_tree.specs.Grammar.{SpellsFile}
use Rattle.tht_tree.specs.Faults.{Fault, IsFault, spot_in}
use Rattle.tht_tree.specs.Spelling.{IsSpelled, FaultsInSplitting, FaultsInSpelling}
use Rattle.tht_grammar.proofs.Splits.{split_once}
use Rattle.tht_grammar.proofs.FirstFault.{AllCount, no_fault, one_fault}

abbrev CountsIn : Split → Type 0
CountsIn (Ok ts) = AllCount ts
CountsIn (Err e) = Unit {0}

-- all limits count at the tokens of a text
splits_count : {p : Spot} {i : List ℕ} {s : Split} → Splits p i s → CountsIn s
splits_count no_bytes = tt
splits_count (a_blank c h) = splits_count h
splits_count (a_comment c r h) = splits_count h
splits_count (a_word {s = Ok ts} c r l h) = (refl, splits_count h)
splits_count (a_word {s = Err e} c r l h) = tt
splits_count (too_long c r l) = tt
splits_count (a_number {s = Ok ts} c r l h) = (refl, splits_count h)
splits_count (a_number {s = Err e} c r l h) = tt
splits_count (too_big c r l) = tt
splits_count (a_pair {s = Ok ts} c k h) = (refl, splits_count h)
splits_count (a_pair {s = Err e} c k h) = tt
splits_count (a_single {s = Ok ts} c n k h) = (refl, splits_count h)
splits_count (a_single {s = Err e} c n k h) = tt
splits_count (a_bad c n k) = tt

pub tokens_count : {p : Spot} {i : List ℕ} {ts : List Tok} → Splits p i (Ok ts) → AllCount ts
tokens_count h = splits_count h

same_tokens : {ts us : List Tok} → ◌≡◌ {A = Split} (Ok ts) (Ok us) → ts ≡ us
same_tokens e = cc

same_lex_fault : {a b : LexFault} {p q : Spot} → ◌≡◌ {A = Split} (Err (a, p)) (Err (b, q)) → (a ≡ b) × (p ≡ q)
same_lex_fault {a = a} {b = b} {p = p} {q = q} e = let pair : ◌≡◌ {A = LexFault × Spot} (a, p) (b, q) = cc in (ap (λ (x : LexFault × Spot). x.0) pair, ap (λ (x : LexFault × Spot). x.1) pair)

-- ---- no file

pub no_file_split : (bytes : List ℕ) (f : LexFault) (spot : Spot) → FaultsInSplitting bytes f spot → (x : Source1) → IsSpelled x bytes → ⊥
no_file_split bytes f spot h x s = let e = split_once h s.split in cc

pub no_file_spelled : (bytes : List ℕ) (f : Fault) (spot : Spot) (found : Option TokenKind) → FaultsInSpelling bytes f spot found → (x : Source1) → IsSpelled x bytes → ⊥
no_file_spelled bytes f spot found h x s =
    let same : s.tokens ≡ h.tokens = same_tokens (split_once s.split h.split) in
    no_fault SpellsFile h.tokens (tokens_count h.split) f h.left h.fault x (subst (λ ts. SpellsFile ts x []) same s.spelled)

-- ---- one fault

pub one_split_fault : (bytes : List ℕ) (f g : LexFault) (p q : Spot) → FaultsInSplitting bytes f p → FaultsInSplitting bytes g q → (f ≡ g) × (p ≡ q)
one_split_fault bytes f g p q a b = same_lex_fault (split_once a b)

pub not_both : (bytes : List ℕ) (f : LexFault) (g : Fault) (p q : Spot) (found : Option TokenKind) → FaultsInSplitting bytes f p → FaultsInSpelling bytes g q found → ⊥
not_both bytes f g p q found a b = let e = split_once a b.split in cc

pub one_spelling_fault : (bytes : List ℕ) (f g : Fault) (p q : Spot) (a b : Option TokenKind) → FaultsInSpelling bytes f p a → FaultsInSpelling bytes g q b → (f ≡ g) × (p ≡ q) × (a ≡ b)
one_spelling_fault bytes f g p q a b h k =
    let same : h.tokens ≡ k.tokens = same_tokens (split_once h.split k.split) in
    let here : IsFault SpellsFile h.tokens g k.left = subst (λ ts. IsFault SpellsFile ts g k.left) (sym same) k.fault in
    let both = one_fault SpellsFile h.tokens (tokens_count h.split) f g h.left k.left h.fault here in
    (both.0, h.spot_is ∙ ap (spot_in bytes) both.1 ∙ sym k.spot_is, h.found_is ∙ ap first_kind both.1 ∙ sym k.found_is)
