-- The piece at the front, where it begins with a letter.
use Rattle.std.proofs.Common.{◌≡◌, ℕ, suc, ◌≤◌, subst, refl, arith, nat_le, List, [], ◌∷◌, length, take, drop, get_or, Result}
use Rattle.std.specs.List.{prefix_len}
use Rattle.tht_tree.specs.declared.plain.Spot.{Spot}
use Rattle.tht_tree.specs.Splitting.{letter, class_of, in_word, word_kind}
use Rattle.tht_grammar.specs.Pieces.{Piece, piece, word_run, word_by}
use Rattle.tht_lex.specs.declared.pieces.Piece.{Piece as CodePiece}
use Rattle.tht_lex.specs.declared.end.LexEnd.{LexEnd}
use Rattle.tht_lex.specs.Pieces.{answer_of}

pub letter_piece : (bytes : List ℕ) (n : ℕ) (spot : Spot) (r : Result CodePiece LexEnd)
    → 1 ≤ length bytes → letter ≡ class_of (get_or bytes 0 0) → n ≡ prefix_len in_word (drop 1 bytes)
    → r ≡ answer_of (word_by (word_kind (take (suc n) bytes)) n (nat_le (suc n) 64)) spot → r ≡ answer_of (piece bytes) spot
unfolding piece word_run
letter_piece [] n spot r h e k g = absurd (omega arith)
letter_piece (b ∷ i) n spot r h e k g =
    let P : Piece → Type 0 = λ q. r ≡ answer_of q spot in
    let same : word_by (word_kind (take (suc n) (b ∷ i))) n (nat_le (suc n) 64) ≡ piece (b ∷ i) = rw (← e, k) refl in subst P same g
