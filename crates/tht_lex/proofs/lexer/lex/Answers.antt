use Rattle.std.proofs.Common.{◌∙◌, sym, subst, refl, arith, map, All}
use Rattle.std.specs.List.{AllPairs}
use Rattle.std.proofs.lemmas.List.{take_rest, length-take, length-drop}
use Rattle.std.proofs.lemmas.Grind.{common_steps}
use Rattle.tht_lex.specs.Tokens.{seen, IsTokenOf, Precedes}
use Rattle.tht_lex.specs.Pieces.{size_of}
use Rattle.tht_lex.proofs.Lexing.{piece_within, turn_split, turn_ranges, turn_order, turn_before, after_more, ends_split, faults_split}
use Rattle.tht_lex.proofs.lexer.lex.Goals as goal

pub returns-in_err-piece-clause-fault : goal.returns-in_err-piece-clause-fault
returns-in_err-piece-clause-fault c =
    let bytes = c.args.bytes.now in
    let ts = map (seen bytes) c.loop-at.tokens.items in
    let told = rw take_rest at c.in_err-piece.ensures in
    let fault = faults_split bytes c.loop-at.at c.loop-at.spot ts c.in_err-piece.field-0.0 c.loop-at.invariant.so_far c.loop-at-test.true told in
    grind (arith, common_steps, fault, c.from_residual.ensures.1)

pub len-taken-requires : goal.len-taken-requires
len-taken-requires c =
    let found = rw take_rest at c.in_ok-piece.ensures in
    let within = piece_within c.args.bytes.now c.loop-at.at c.loop-at.spot c.loop-at.invariant.placed c.in_ok-piece.piece c.loop-at-test.true found in
    omega (arith, c.requires)

pub keep-requires : goal.keep-requires
keep-requires c =
    let found = rw take_rest at c.in_ok-piece.ensures in
    let within = piece_within c.args.bytes.now c.loop-at.at c.loop-at.spot c.loop-at.invariant.placed c.in_ok-piece.piece c.loop-at-test.true found in
    omega (arith, c.requires)

pub slice_bounds-spot_after-end : goal.slice_bounds-spot_after-end
slice_bounds-spot_after-end c =
    let found = rw take_rest at c.in_ok-piece.ensures in
    let within = piece_within c.args.bytes.now c.loop-at.at c.loop-at.spot c.loop-at.invariant.placed c.in_ok-piece.piece c.loop-at-test.true found in
    let len = c.len-taken.ensures in grind (arith, common_steps, take_rest, length-take, length-drop, within, len)

pub overflow_add-at : goal.overflow_add-at
overflow_add-at c =
    let found = rw take_rest at c.in_ok-piece.ensures in
    let within = piece_within c.args.bytes.now c.loop-at.at c.loop-at.spot c.loop-at.invariant.placed c.in_ok-piece.piece c.loop-at-test.true found in
    let len = c.len-taken.ensures in omega (arith, c.requires)

pub loop-at-preserved : goal.loop-at-preserved
loop-at-preserved c =
    let bytes = c.args.bytes.now in
    let at = c.loop-at.at in
    let spot = c.loop-at.spot in
    let placed = c.loop-at.invariant.placed in
    let ts = c.loop-at.tokens.items in
    let piece = c.in_ok-piece.piece in
    let some = c.loop-at-test.true in
    let found = rw take_rest at c.in_ok-piece.ensures in
    let within = piece_within bytes at spot placed piece some found in
    let next = turn_split bytes at spot placed piece some found ts in
    let kept = c.in_ok-keep.ensures in
    let len = c.len-taken.ensures in
    let so_far = c.loop-at.invariant.so_far in
    let after = c.spot_after-spot.ensures.value in
    let text = rw take_rest at after in
    let items = sym kept in
    let order = turn_order bytes at spot placed piece some found ts c.loop-at.invariant.before c.loop-at.invariant.in_order in
    record {
      so_far = so_far ∙ (next ∙ rw (kept, text, len) refl);
      ranges = subst (All (IsTokenOf bytes)) items (turn_ranges bytes at spot placed piece some found ts c.loop-at.invariant.ranges);
      in_order = subst (AllPairs Precedes) items order;
      before = rw (kept, len) (turn_before bytes at spot placed piece some found ts c.loop-at.invariant.before);
      placed = rw len (text ∙ (rw len refl ∙ after_more bytes at (size_of piece) spot placed));
      within = omega arith;
      line = let moved = rw (take_rest, length-take) at c.spot_after-spot.ensures.line in let line = c.loop-at.invariant.line in omega arith;
      column = let moved = rw (take_rest, length-take) at c.spot_after-spot.ensures.column in let column = c.loop-at.invariant.column in omega arith;
    }

pub returns-clause-tokens : goal.returns-clause-tokens
returns-clause-tokens c =
    let bytes = c.args.bytes.now in
    ends_split bytes c.loop-at.at c.loop-at.spot (map (seen bytes) c.loop-at.tokens.items) c.loop-at.invariant.so_far c.loop-at-test.false
