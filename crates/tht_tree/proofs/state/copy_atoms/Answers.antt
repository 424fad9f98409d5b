use Rattle.std.proofs.Common.{◌≡◌, [], ◌∷◌, ◌++◌, map, sym, ◌∙◌, ap, subst}
use Rattle.std.proofs.lemmas.Cmp.{nat_cmp_total}
use Rattle.std.proofs.lemmas.List.{map-append}
use Rattle.std.proofs.lemmas.Map.Iter.{rest_more, rest_so_far}
use Rattle.std.specs.BTreeMap.{insert_entry}
use Rattle.std.specs.List.Sorted.{IsStrictlySortedBy}
use Rattle.std.specs.Map.{keys_of}
use Rattle.std.specs.Map.Iter.{deref_pair}
use Rattle.std.specs.Ordering.{nat_cmp}
use Rattle.tht_tree.proofs.Entered.{goes_to_end}
use Rattle.tht_tree.proofs.state.copy_atoms.Goals as goal

pub loop-number-preserved : goal.loop-number-preserved
loop-number-preserved c =
    let n = c.in-Some.number.now in
    let a = c.in-Some.atom.now in
    let seen = map deref_pair c.loop-number.yielded in
    let begun = rest_so_far deref_pair c.loop-number.yielded c.into_iter-number-iterator.result c.loop-number.number-iterator c.loop-number.yielded_by in
    let more = rest_more deref_pair c.loop-number.number-iterator c.next.new.self c.next.result (c.in-Some.number, c.in-Some.atom) c.in-Some.is c.next.ensures.steps in
    let whole : c.args.atoms.now.entries ≡ seen ++ (n, a) ∷ c.next.new.self = sym c.iter-number-items.ensures.rest ∙ sym c.into_iter-number-iterator.ensures.into_iter_gives ∙ begun ∙ ap (λ l. seen ++ l) more in
    let ascend = subst (λ es. IsStrictlySortedBy nat_cmp (keys_of es)) whole c.iter-number-items.ensures.ordered in
    c.in_ok-add_copy.ensures
    ∙ ap (λ es. insert_entry nat_cmp es n a) c.loop-number.invariant
    ∙ goes_to_end nat_cmp nat_cmp_total seen c.next.new.self n a ascend
    ∙ sym (map-append deref_pair c.loop-number.yielded ((c.in-Some.number, c.in-Some.atom) ∷ []))
