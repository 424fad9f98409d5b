use Rattle.std.proofs.Common.{◌≡◌, ◌≤◌, ap, sym, ◌∙◌, subst, arith, length, take, drop, List, [], ◌∷◌, ◌++◌}
use Rattle.tht_tree.specs.declared.plain.Value.{Value}
use Rattle.tht_logic.specs.Machine.{Prog, Ended, and_then}
use Rattle.code_form.specs.Codes.{means_of}
use Rattle.code_form.specs.Stack.{Chain, rests}
use Rattle.code_form.specs.declared.frames.Frame.{Frame}
use Rattle.code_form.proofs.Returns.{chain_pop, chain_low, came_back, walked, low_same, low_back}
use Rattle.code_form.proofs.frames.resolve.Goals as goal

pub returns-in-Stands-clause-same : goal.returns-in-Stands-clause-same
returns-in-Stands-clause-same c =
    walked (means_of c.args.code.now) c.loop-i.frames.items 0 c.loop-i.base c.walk.new.values.items c.loop-i.values.items _ _ c.loop-i.invariant.chain c.walk.ensures.rest c.in-Stands.ensures.same ∙ c.loop-i.invariant.same

pub come_back-requires-clause-within : goal.come_back-requires-clause-within
come_back-requires-clause-within c =
    let chain : Chain 0 (c.pop.new.self.items ++ c.in-Some.frame ∷ []) c.loop-i.base = subst (λ (l : List Frame). Chain 0 l c.loop-i.base) c.in-Some.ensures.items c.loop-i.invariant.chain in
    (chain_pop 0 c.loop-i.base c.pop.new.self.items c.in-Some.frame chain).1

pub come_back-requires-clause-len : goal.come_back-requires-clause-len
come_back-requires-clause-len c =
    let chain : Chain 0 (c.pop.new.self.items ++ c.in-Some.frame ∷ []) c.loop-i.base = subst (λ (l : List Frame). Chain 0 l c.loop-i.base) c.in-Some.ensures.items c.loop-i.invariant.chain in
    let le = (chain_pop 0 c.loop-i.base c.pop.new.self.items c.in-Some.frame chain).2 in
    omega (arith, le, c.walk.ensures.within)

pub come_back-requires-clause-room : goal.come_back-requires-clause-room
come_back-requires-clause-room c =
    let chain : Chain 0 (c.pop.new.self.items ++ c.in-Some.frame ∷ []) c.loop-i.base = subst (λ (l : List Frame). Chain 0 l c.loop-i.base) c.in-Some.ensures.items c.loop-i.invariant.chain in
    let le = (chain_pop 0 c.loop-i.base c.pop.new.self.items c.in-Some.frame chain).2 in
    omega (arith, le, c.loop-i.invariant.less, c.requires.within, c.requires.room, c.walk.ensures.capacity, c.loop-i.invariant.capacity)

pub loop-i-preserved : goal.loop-i-preserved
loop-i-preserved c =
    let chain : Chain 0 (c.pop.new.self.items ++ c.in-Some.frame ∷ []) c.loop-i.base = subst (λ (l : List Frame). Chain 0 l c.loop-i.base) c.in-Some.ensures.items c.loop-i.invariant.chain in
    let r = chain_pop 0 c.loop-i.base c.pop.new.self.items c.in-Some.frame chain in
    let within : c.loop-i.base ≤ length c.walk.new.values.items = omega (arith, c.walk.ensures.within, c.walk.new.values.ok) in
    record {
      same =
          ap (λ (z : List Value). and_then (means_of c.args.code.now c.in-Some.frame.next (drop c.in-Some.frame.base z)) (rests (means_of c.args.code.now) z c.pop.new.self.items Ended)) c.come_back.ensures.items ∙
          came_back (means_of c.args.code.now) c.pop.new.self.items c.in-Some.frame 0 c.loop-i.base c.walk.new.values.items c.in-Gives.v chain within ∙
          ap (λ (l : List Frame). rests (means_of c.args.code.now) c.walk.new.values.items l Ended c.in-Gives.v) (sym c.in-Some.ensures.items) ∙
          walked (means_of c.args.code.now) c.loop-i.frames.items 0 c.loop-i.base c.walk.new.values.items c.loop-i.values.items (Ended c.in-Gives.v) _ c.loop-i.invariant.chain c.walk.ensures.rest c.in-Gives.ensures.same ∙
          c.loop-i.invariant.same;
      chain = r.0;
      within = omega (arith, r.1, c.come_back.ensures.len);
      less = omega (arith, r.1, r.2, c.loop-i.invariant.less);
      room = omega (arith, r.2, c.come_back.ensures.len, c.loop-i.invariant.less, c.requires.within);
      capacity = c.come_back.ensures.capacity ∙ c.walk.ensures.capacity ∙ c.loop-i.invariant.capacity;
    }
