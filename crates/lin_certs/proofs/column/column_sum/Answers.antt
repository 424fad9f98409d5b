use Rattle.std.proofs.Common.{◌≡◌, ◌<◌, ℕ, ◌+◌, length, [], ◌∷◌, ◌++◌, ◌∙◌, ap, arith, sym, rules, subst, pos, ◌+ℤ◌, ◌*ℤ◌, FitsSigned, slice_index_or, ℤ, to_z, of_z, length-append}
use Rattle.std.specs.Int.{w128}
use Rattle.std.specs.Slice.Iter.{iter_rest}
use Rattle.std.specs.Iterator.Adapters.{zip_first, zip_second}
use Rattle.std.proofs.lemmas.Int.{to_z-of_z}
use Rattle.std.proofs.lemmas.Slice.Zip.{zip_turn, zip_end}
use Rattle.lin_certs.specs.Columns.{entry}
use Rattle.lin_certs.proofs.Columns.{from_stays, further, SumsTo, summed}
use Rattle.lin_certs.proofs.column.column_sum.Goals as goal

-- the form and the multiplier of a turn
record Turn (c : goal.After-entry) : Type 0 where
  within : length c.loop-form.yielded < length c.args.forms.now
  multiplier : to_z w128 (of_z w128 c.from.result) ≡ pos (slice_index_or c.args.by.now (length c.loop-form.yielded) 0)
  entry_is : to_z w128 (of_z w128 c.entry.result) ≡ entry c.args.variable (slice_index_or c.args.forms.now (length c.loop-form.yielded) c.in-Some.form.now)

turn : (c : goal.After-entry) → Turn c
turn c =
    let first : iter_rest (zip_first c.into_iter-form-iterator.result) ≡ c.args.forms.now = search rules in
    let second : iter_rest (zip_second c.into_iter-form-iterator.result) ≡ c.args.by.now = search rules in
    let t = zip_turn c.args.forms.now c.args.by.now c.loop-form.yielded c.into_iter-form-iterator.result c.loop-form.form-iterator c.next.new.self c.next.result first second c.loop-form.yielded_by (c.in-Some.form, c.in-Some.multiplier) c.in-Some.is c.next.ensures.steps in
    record {
      within = t.0;
      multiplier = to_z-of_z w128 c.from.result (record { sfits = c.from.type_inv }) ∙ c.from.ensures ∙ ap pos (t.3 0);
      entry_is = to_z-of_z w128 c.entry.result (record { sfits = c.entry.type_inv }) ∙ c.entry.ensures ∙ ap (entry c.args.variable) (t.2 c.in-Some.form.now);
    }

fits : (c : goal.After-entry) → let p = to_z w128 (of_z w128 c.from.result) *ℤ to_z w128 (of_z w128 c.entry.result) in
    FitsSigned w128 p × FitsSigned w128 (to_z w128 c.loop-form.sum-bits +ℤ p)
fits c =
    let t = turn c in
    from_stays c.args.variable c.args.forms.now c.args.by.now (length c.loop-form.yielded) _ _ _ c.in-Some.form.now c.requires.paired t.within t.multiplier t.entry_is c.loop-form.invariant.0 (c.requires.narrow _ t.within)

pub overflow_mul-sum : goal.overflow_mul-sum
overflow_mul-sum c = (fits c).0

pub overflow_add-sum : goal.overflow_add-sum
overflow_add-sum c = rw (to_z-of_z w128 _ (fits c).0) (fits c).1

pub loop-form-preserved : goal.loop-form-preserved
loop-form-preserved c =
    let t = turn c in
    let f = fits c in
    let p : ℤ = to_z w128 (of_z w128 c.from.result) *ℤ to_z w128 (of_z w128 c.entry.result) in
    let s : ℤ = to_z w128 c.loop-form.sum-bits in
    let e : to_z w128 (of_z w128 (s +ℤ to_z w128 (of_z w128 p))) ≡ s +ℤ p = ap (λ x. to_z w128 (of_z w128 (s +ℤ x))) (to_z-of_z w128 p f.0) ∙ to_z-of_z w128 (s +ℤ p) f.1 in
    let n : length c.loop-form.yielded + 1 ≡ length (c.loop-form.yielded ++ (c.in-Some.form, c.in-Some.multiplier) ∷ []) = sym (length-append c.loop-form.yielded ((c.in-Some.form, c.in-Some.multiplier) ∷ [])) in
    let next = further c.args.variable c.args.forms.now c.args.by.now (length c.loop-form.yielded) _ _ _ c.in-Some.form.now c.requires.paired t.within t.multiplier t.entry_is c.loop-form.invariant.0 _ (f, e) in
    (subst (λ (k : ℕ). SumsTo c.args.variable c.args.forms.now c.args.by.now k (to_z w128 (of_z w128 (s +ℤ to_z w128 (of_z w128 p))))) n next, (tt, tt), tt)

pub returns : goal.returns
returns c =
    let first : iter_rest (zip_first c.into_iter-form-iterator.result) ≡ c.args.forms.now = search rules in
    let second : iter_rest (zip_second c.into_iter-form-iterator.result) ≡ c.args.by.now = search rules in
    let n = zip_end c.args.forms.now c.args.by.now c.loop-form.yielded c.into_iter-form-iterator.result c.loop-form.form-iterator c.next.new.self c.next.result first second c.loop-form.yielded_by c.in-None.is c.next.ensures.steps in
    summed c.args.variable c.args.forms.now c.args.by.now (length c.loop-form.yielded) _ c.requires.paired (let e = c.requires.paired in omega (arith, n)) c.loop-form.invariant.0
