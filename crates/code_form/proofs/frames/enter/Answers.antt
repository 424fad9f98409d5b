use Rattle.std.proofs.Common.{◌≡◌, ◌≤◌, ap, sym, ◌∙◌, subst, ◌++◌, ◌∷◌, [], List, arith, length, take, drop}
use Rattle.std.proofs.lemmas.List.{take-append-le}
use Rattle.tht_tree.specs.declared.plain.Value.{Value}
use Rattle.tht_logic.specs.Machine.{Ended, and_then}
use Rattle.code_form.specs.Codes.{means_of}
use Rattle.code_form.specs.Stack.{Chain, rests, arguments_of}
use Rattle.code_form.specs.declared.frames.Frame.{Frame}
use Rattle.code_form.proofs.Returns.{entered, chain_low, chain_push}
use Rattle.code_form.proofs.frames.enter.Goals as goal

pub resolve-requires-clause-chain : goal.resolve-requires-clause-chain
resolve-requires-clause-chain c =
    let f : Frame = record { next = c.args.next; base = c.args.base; len = c.len-len.result } in
    let all : Chain 0 (c.args.frames.now.items ++ f ∷ []) c.len-len.result = chain_push 0 c.len-len.result c.args.frames.now.items f c.requires.chain (omega (arith, c.len-len.ensures, c.requires.within)) (omega arith) in
    subst (λ (l : List Frame). Chain 0 l c.len-len.result) (sym (c.push_reserved.ensures.items ∙ ap (λ l. l ++ f ∷ []) c.in_ok-reserve-2.ensures.items)) all

pub returns-clause-same : goal.returns-clause-same
returns-clause-same c =
    let f : Frame = record { next = c.args.next; base = c.args.base; len = c.len-len.result } in
    let frames : c.push_reserved.new.self.items ≡ c.args.frames.now.items ++ f ∷ [] = c.push_reserved.ensures.items ∙ ap (λ l. l ++ f ∷ []) c.in_ok-reserve-2.ensures.items in
    let values : c.push_values.new.values.items ≡ c.args.values.now.items ++ arguments_of (drop c.args.base c.args.values.now.items) c.args.es.now =
    c.push_values.ensures.items ∙ ap (λ (l : List Value). l ++ arguments_of (drop c.args.base l) c.args.es.now) c.in_ok-reserve.ensures.items in
    c.resolve.ensures.same ∙
    ap (λ (l : List Frame). and_then (means_of c.args.code.now c.args.body (drop c.len-len.result c.push_values.new.values.items)) (rests (means_of c.args.code.now) c.push_values.new.values.items l Ended)) frames ∙
    entered (means_of c.args.code.now) c.args.frames.now.items 0 f c.args.values.now.items (arguments_of (drop c.args.base c.args.values.now.items) c.args.es.now) c.push_values.new.values.items (means_of c.args.code.now c.args.body) c.requires.chain (omega (arith, c.requires.within, c.args.values.now.ok)) (omega (arith, c.len-len.ensures, c.args.values.now.ok)) values
