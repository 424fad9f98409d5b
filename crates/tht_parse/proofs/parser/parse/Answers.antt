use Rattle.std.proofs.Common.{◌≡◌, map, Ok, Err, subst, sym, List}
use Rattle.tht_tree.specs.Tokens.{Tok}
use Rattle.tht_lex.specs.Tokens.{seen}
use Rattle.tht_grammar.specs.Reading.{whole}
use Rattle.tht_parse.specs.Readings.{Stops}
use Rattle.tht_parse.specs.Ends.{IsFirstFault, IsOkOrMemory}
use Rattle.tht_parse.proofs.Wholes.{found_ok, found_only, stop_fault, stop_only, lex_only}
use Rattle.tht_parse.proofs.parser.parse.Goals as goal

pub returns-in_err-found-clause-only : goal.returns-in_err-found-clause-only
returns-in_err-found-clause-only c file h =
    lex_only c.args.bytes.now c.in_err-found.field-0.0 c.in_err-found.ensures.fault c.from_residual.result c.from_residual.ensures.1 file h

pub returns-in-Ok-clause-ok : goal.returns-in-Ok-clause-ok
returns-in-Ok-clause-ok c =
    let e : whole (map (seen c.args.bytes.now) c.in_ok-found.found.items) ≡ Ok (c.into_inner.result, c.whole.new.tokens) =
    cc (c.new-tokens.ensures, c.deref.ensures.value, c.in-Ok.ensures, c.into_inner.ensures) in
    found_ok c.args.bytes.now _ c.in_ok-found.ensures.tokens c.into_inner.result c.whole.new.tokens e

pub returns-in-Ok-clause-only : goal.returns-in-Ok-clause-only
returns-in-Ok-clause-only c file h =
    let e : whole (map (seen c.args.bytes.now) c.in_ok-found.found.items) ≡ Ok (c.into_inner.result, c.whole.new.tokens) =
    cc (c.new-tokens.ensures, c.deref.ensures.value, c.in-Ok.ensures, c.into_inner.ensures) in
    found_only c.args.bytes.now _ c.in_ok-found.ensures.tokens c.into_inner.result c.whole.new.tokens e file h

pub returns-clause-only : goal.returns-clause-only
returns-clause-only c file h =
    let same : c.new-tokens.result ≡ map (seen c.args.bytes.now) c.in_ok-found.found.items = cc (c.new-tokens.ensures, c.deref.ensures.value) in
    let told : Stops (whole (map (seen c.args.bytes.now) c.in_ok-found.found.items)) c.in-Err.stop c.whole.new.tokens =
    subst (λ (ts : List Tok). Stops (whole ts) c.in-Err.stop c.whole.new.tokens) same c.in-Err.ensures in
    subst (λ end. IsOkOrMemory (Err end) file) (sym c.stopped.ensures)
    (stop_only c.args.bytes.now _ c.in_ok-found.ensures.tokens c.in-Err.stop c.whole.new.tokens told file h)

pub returns-clause-fault : goal.returns-clause-fault
returns-clause-fault c =
    let same : c.new-tokens.result ≡ map (seen c.args.bytes.now) c.in_ok-found.found.items = cc (c.new-tokens.ensures, c.deref.ensures.value) in
    let told : Stops (whole (map (seen c.args.bytes.now) c.in_ok-found.found.items)) c.in-Err.stop c.whole.new.tokens =
    subst (λ (ts : List Tok). Stops (whole ts) c.in-Err.stop c.whole.new.tokens) same c.in-Err.ensures in
    subst (λ end. IsFirstFault c.args.bytes.now end) (sym c.stopped.ensures)
    (stop_fault c.args.bytes.now _ c.in_ok-found.ensures.tokens c.in-Err.stop c.whole.new.tokens told)
