use Rattle.std.proofs.Common.{◌≡◌, ◌-◌, []}
use Rattle.tht_grammar.specs.Reading as spec
use Rattle.tht_parse.proofs.decls.decls.Given as goal

abbrev pub invariant-loop-turn : goal.invariant-loop-turn
invariant-loop-turn l =
    spec.decls (spec.nested l.depth) 2000 256 [] l.fn.tokens
    ≡ spec.decls (spec.nested l.depth) (2000 - l._turn) l.room l.found l.tokens
