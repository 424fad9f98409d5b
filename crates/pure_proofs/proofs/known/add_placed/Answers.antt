use Rattle.std.proofs.Common.{sym, ap}
use Rattle.tht_tree.specs.Rules.Context.{context_of}
use Rattle.pure_proofs.proofs.FirstPlaces.{places_same}
use Rattle.pure_proofs.proofs.known.add_placed.Goals as goal

pub returns-in-Err-clause-err : goal.returns-in-Err-clause-err
returns-in-Err-clause-err c = c.take_back.ensures (context_of c.args.state.now) c.args.hyp.name c.args.hyp.formula c.in_ok-shadowed.ensures.ok (sym c.in_ok-shadowed.ensures.shadowed)

pub returns-in-Err-clause-placed : goal.returns-in-Err-clause-placed
returns-in-Err-clause-placed c =
    let back = c.take_back.ensures (context_of c.args.state.now) c.args.hyp.name c.args.hyp.formula c.in_ok-shadowed.ensures.ok (sym c.in_ok-shadowed.ensures.shadowed) in
    places_same c.args.places.now c.add_place.new.places c.args.state.now.hyps c.take_back.new.state.hyps c.in-Err.ensures.err (ap (λ z. z.hyps) back)
