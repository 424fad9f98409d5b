use Rattle.std.proofs.Common.{◌≡◌, ◌<◌, suc, nat_le, true, refl, arith, add-one}
use Rattle.std.proofs.lemmas.Bool.Decides.{nat_tests}
use Rattle.tht_lex.proofs.pieces.word.Goals as goal

pub returns : goal.returns
returns c =
    let few : c.args.more < 64 = omega arith in
    let short : nat_le (suc c.args.more) 64 ≡ true = grind (arith, nat_tests, few) in
    rw (short, c.word_kind.ensures, add-one) refl
