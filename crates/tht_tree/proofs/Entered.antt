-- An entry whose key is above all others goes to the end of a map.
use Rattle.std.proofs.Common.{Ordering, Less, Greater, ◌≡◌, refl, ◌∙◌, ap, List, [], ◌∷◌, ◌++◌}
use Rattle.std.specs.List.{AllByRecursion}
use Rattle.std.specs.List.Sorted.{IsStrictlySortedBy}
use Rattle.std.specs.Map.{keys_of}
use Rattle.std.specs.BTreeMap.{insert_entry}
use Rattle.std.specs.Ordering.{ordering_reverse, match_ordering}
use Rattle.std.specs.Cmp.{IsTotalOrder}

module _ {K X : Type 0} where
  -- what holds of each key holds of one in the middle
  at_key : (P : K → Type 0) (es rest : List (K × X)) (k : K) (x : X) → AllByRecursion P (keys_of (es ++ (k, x) ∷ rest)) → P k
  at_key P [] rest k x all = all.0
  at_key P (e ∷ es) rest k x all = at_key P es rest k x all.1

  module _ (cmp : K → K → Ordering) (total : IsTotalOrder cmp) where
    pub goes_to_end : (es rest : List (K × X)) (k : K) (x : X) → IsStrictlySortedBy cmp (keys_of (es ++ (k, x) ∷ rest)) → insert_entry cmp es k x ≡ es ++ (k, x) ∷ []
    unfolding IsStrictlySortedBy
    goes_to_end [] rest k x ascend = refl
    goes_to_end (e ∷ es) rest k x ascend =
        let above : cmp k e.0 ≡ Greater = total.antisymm k e.0 ∙ ap ordering_reverse (at_key (λ y. cmp e.0 y ≡ Less) es rest k x ascend.0) in
        ap (λ r. match_ordering r ((k, x) ∷ e ∷ es) ((e.0, x) ∷ es) (e ∷ insert_entry cmp es k x)) above ∙ ap (λ l. e ∷ l) (goes_to_end es rest k x ascend.1)
