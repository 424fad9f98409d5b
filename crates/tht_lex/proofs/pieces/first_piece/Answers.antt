use Rattle.std.proofs.Common.{◌∙◌, ap}
use Rattle.std.specs.List.{prefix_len}
use Rattle.std.proofs.lemmas.List.{take_rest}
use Rattle.tht_tree.specs.Splitting.{in_word}
use Rattle.tht_lex.proofs.FirstPieces.{letter_piece}
use Rattle.tht_lex.proofs.pieces.first_piece.Goals as goal

pub returns-in-Letter : goal.returns-in-Letter
returns-in-Letter c =
    let bytes = c.args.bytes.now in
    letter_piece bytes c.run_length-in-Letter.result c.args.spot c.word.result c.in-len1-up.len_at_least c.in-Letter.ensures
    (c.run_length-in-Letter.ensures.value ∙ ap (prefix_len in_word) (take_rest bytes 1)) c.word.ensures
