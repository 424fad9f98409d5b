use Rattle.std.proofs.Common.{◌≡◌, ◌∷◌, ◌++◌, [], refl, sym, ◌∙◌}
use Rattle.std.specs.String.{string_bytes}
use Rattle.program_forms.proofs.Leveled.{leveled_less, leveled_same, shadowed_less, names_outside, none_outside}
use Rattle.program_forms.proofs.levels.take_out.Goals as goal

pub returns-in-None-clause-names : goal.returns-in-None-clause-names
returns-in-None-clause-names c = none_outside c.args.bound.now c.as_slice.result.now c.as_slice.ensures c.in-None.ensures.cases

pub returns-in_err-put_back-in-Some-clause-leveled : goal.returns-in_err-put_back-in-Some-clause-leveled
returns-in_err-put_back-in-Some-clause-leveled c = λ are shadowed. leveled_same c.args.levels.now c.put_back.new.levels c.args.bound.now c.args.bound.now c.in_err-put_back-in-Some.ensures.err refl are

pub returns-in_ok-put_back-in-Some-clause-names : goal.returns-in_ok-put_back-in-Some-clause-names
returns-in_ok-put_back-in-Some-clause-names c =
    let s = c.in-Some.shadow.now in
    let front = c.in-Some._front.now in
    let whole : c.args.bound.now ≡ front ++ s ∷ [] = sym c.as_slice.ensures ∙ c.in-Some.ensures.cases.0 in
    names_outside front c.args.bound.now c.drop_last.new.bound s whole (c.drop_last.ensures front s whole)

pub returns-in_ok-put_back-in-Some-clause-leveled : goal.returns-in_ok-put_back-in-Some-clause-leveled
returns-in_ok-put_back-in-Some-clause-leveled c = λ are shadowed.
    let s = c.in-Some.shadow.now in
    let front = c.in-Some._front.now in
    let whole : c.args.bound.now ≡ front ++ s ∷ [] = sym c.as_slice.ensures ∙ c.in-Some.ensures.cases.0 in
    leveled_less c.args.levels.now c.put_back.new.levels front c.args.bound.now c.drop_last.new.bound s (string_bytes c.in_ok-key-in-Some.key) s.outer whole (c.drop_last.ensures front s whole) c.in_ok-key-in-Some.ensures refl
    c.in_ok-put_back-in-Some.ensures.ok are shadowed

pub returns-in_ok-put_back-in-Some-clause-shadowed : goal.returns-in_ok-put_back-in-Some-clause-shadowed
returns-in_ok-put_back-in-Some-clause-shadowed c = λ shadowed.
    let s = c.in-Some.shadow.now in
    let front = c.in-Some._front.now in
    let whole : c.args.bound.now ≡ front ++ s ∷ [] = sym c.as_slice.ensures ∙ c.in-Some.ensures.cases.0 in
    shadowed_less front c.args.bound.now c.drop_last.new.bound s whole (c.drop_last.ensures front s whole) shadowed
