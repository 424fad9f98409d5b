-- Names in terms: a term with names bound, and one with terms put in, from the term in which all names are free.
use Rattle.std.proofs.Common.{◌≡◌, ℕ, List, [], sym, ◌∙◌, ap}
use Rattle.tht_tree.specs.declared.term.Term.{Term, roll-Term}
use Rattle.tht_tree.specs.declared.term.Term.TheOpen.{Term-F}
use Rattle.tht_tree.specs.declared.term.Term.TheOpen as f
use Rattle.tht_tree.specs.Syntax.{Names, position, Trm, len, off, neg, op, mul, add, sub, cons, cat, eq, lt, le, conj, disj, imp, named, trm_at, trm}
use Rattle.tht_tree.specs.Normal.Putting.{Puts, put_name, put_at, put_in, put}
use Rattle.tht_tree.proofs.TermFolds.{at-Num, at-True, at-False, at-Null, at-Nil, at-Unit, at-Len, at-Offset, at-Mul, at-Add, at-Sub, at-Cons, at-Cat, at-Eq, at-Lt, at-Le, at-Not, at-And, at-Or, at-Imp}
use Rattle.tht_tree.proofs.TermInduction.{fold_level, OfParts, by_parts}

-- the term in which all names are free
abbrev pub all_free : Term → Trm
all_free = trm [] []

module _ (roots xs : Names) where
  -- what a name is where these are bound
  abbrev pub name_in : List ℕ → Trm
  name_in x = named roots x (position 0 xs x)

  abbrev Binds : Term → Type 0
  Binds u = trm roots xs u ≡ put name_in (all_free u)

  bind_step : (x : Term-F Term) → OfParts Binds x → Binds (roll-Term x)
  bind_step (f.Num n) q = fold_level (trm_at roots xs) (f.Num n) ∙ ap (put name_in) (sym (fold_level (trm_at [] []) (f.Num n)))
  bind_step f.True q = fold_level (trm_at roots xs) f.True ∙ ap (put name_in) (sym (fold_level (trm_at [] []) f.True))
  bind_step f.False q = fold_level (trm_at roots xs) f.False ∙ ap (put name_in) (sym (fold_level (trm_at [] []) f.False))
  bind_step f.Null q = fold_level (trm_at roots xs) f.Null ∙ ap (put name_in) (sym (fold_level (trm_at [] []) f.Null))
  bind_step f.Nil q = fold_level (trm_at roots xs) f.Nil ∙ ap (put name_in) (sym (fold_level (trm_at [] []) f.Nil))
  bind_step f.Unit q = fold_level (trm_at roots xs) f.Unit ∙ ap (put name_in) (sym (fold_level (trm_at [] []) f.Unit))
  bind_step (f.Var x) q = fold_level (trm_at roots xs) (f.Var x) ∙ ap (put name_in) (sym (fold_level (trm_at [] []) (f.Var x)))
  bind_step (f.Len a) q = fold_level (trm_at roots xs) (f.Len a) ∙ ap len q ∙ ap (put name_in) (sym (fold_level (trm_at [] []) (f.Len a)))
  bind_step (f.Offset a k) q = fold_level (trm_at roots xs) (f.Offset a k) ∙ ap (off k) q ∙ ap (put name_in) (sym (fold_level (trm_at [] []) (f.Offset a k)))
  bind_step (f.Not a) q = fold_level (trm_at roots xs) (f.Not a) ∙ ap neg q ∙ ap (put name_in) (sym (fold_level (trm_at [] []) (f.Not a)))
  bind_step (f.Mul a b) q = fold_level (trm_at roots xs) (f.Mul a b) ∙ (λ i. op mul (q.0 i) (q.1 i)) ∙ ap (put name_in) (sym (fold_level (trm_at [] []) (f.Mul a b)))
  bind_step (f.Add a b) q = fold_level (trm_at roots xs) (f.Add a b) ∙ (λ i. op add (q.0 i) (q.1 i)) ∙ ap (put name_in) (sym (fold_level (trm_at [] []) (f.Add a b)))
  bind_step (f.Sub a b) q = fold_level (trm_at roots xs) (f.Sub a b) ∙ (λ i. op sub (q.0 i) (q.1 i)) ∙ ap (put name_in) (sym (fold_level (trm_at [] []) (f.Sub a b)))
  bind_step (f.Cons a b) q = fold_level (trm_at roots xs) (f.Cons a b) ∙ (λ i. op cons (q.0 i) (q.1 i)) ∙ ap (put name_in) (sym (fold_level (trm_at [] []) (f.Cons a b)))
  bind_step (f.Cat a b) q = fold_level (trm_at roots xs) (f.Cat a b) ∙ (λ i. op cat (q.0 i) (q.1 i)) ∙ ap (put name_in) (sym (fold_level (trm_at [] []) (f.Cat a b)))
  bind_step (f.Eq a b) q = fold_level (trm_at roots xs) (f.Eq a b) ∙ (λ i. op eq (q.0 i) (q.1 i)) ∙ ap (put name_in) (sym (fold_level (trm_at [] []) (f.Eq a b)))
  bind_step (f.Lt a b) q = fold_level (trm_at roots xs) (f.Lt a b) ∙ (λ i. op lt (q.0 i) (q.1 i)) ∙ ap (put name_in) (sym (fold_level (trm_at [] []) (f.Lt a b)))
  bind_step (f.Le a b) q = fold_level (trm_at roots xs) (f.Le a b) ∙ (λ i. op le (q.0 i) (q.1 i)) ∙ ap (put name_in) (sym (fold_level (trm_at [] []) (f.Le a b)))
  bind_step (f.And a b) q = fold_level (trm_at roots xs) (f.And a b) ∙ (λ i. op conj (q.0 i) (q.1 i)) ∙ ap (put name_in) (sym (fold_level (trm_at [] []) (f.And a b)))
  bind_step (f.Or a b) q = fold_level (trm_at roots xs) (f.Or a b) ∙ (λ i. op disj (q.0 i) (q.1 i)) ∙ ap (put name_in) (sym (fold_level (trm_at [] []) (f.Or a b)))
  bind_step (f.Imp a b) q = fold_level (trm_at roots xs) (f.Imp a b) ∙ (λ i. op imp (q.0 i) (q.1 i)) ∙ ap (put name_in) (sym (fold_level (trm_at [] []) (f.Imp a b)))

  pub bind_names : (u : Term) → trm roots xs u ≡ put name_in (all_free u)
  bind_names = by_parts Binds bind_step

module _ (roots ys : Names) (pairs : Puts) where
  -- what stands for a name, where these are bound
  abbrev pub put_for : List ℕ → Trm
  put_for x = trm roots ys (put_name pairs x)

  abbrev made : Term → Term
  made = put_in pairs

  abbrev Puts_in : Term → Type 0
  Puts_in u = trm roots ys (made u) ≡ put put_for (all_free u)

  put_step : (x : Term-F Term) → OfParts Puts_in x → Puts_in (roll-Term x)
  put_step (f.Num n) q = ap (trm roots ys) (fold_level (put_at pairs) (f.Num n)) ∙ at-Num Trm (trm_at roots ys) n ∙ ap (put put_for) (sym (fold_level (trm_at [] []) (f.Num n)))
  put_step f.True q = ap (trm roots ys) (fold_level (put_at pairs) f.True) ∙ at-True Trm (trm_at roots ys) ∙ ap (put put_for) (sym (fold_level (trm_at [] []) f.True))
  put_step f.False q = ap (trm roots ys) (fold_level (put_at pairs) f.False) ∙ at-False Trm (trm_at roots ys) ∙ ap (put put_for) (sym (fold_level (trm_at [] []) f.False))
  put_step f.Null q = ap (trm roots ys) (fold_level (put_at pairs) f.Null) ∙ at-Null Trm (trm_at roots ys) ∙ ap (put put_for) (sym (fold_level (trm_at [] []) f.Null))
  put_step f.Nil q = ap (trm roots ys) (fold_level (put_at pairs) f.Nil) ∙ at-Nil Trm (trm_at roots ys) ∙ ap (put put_for) (sym (fold_level (trm_at [] []) f.Nil))
  put_step f.Unit q = ap (trm roots ys) (fold_level (put_at pairs) f.Unit) ∙ at-Unit Trm (trm_at roots ys) ∙ ap (put put_for) (sym (fold_level (trm_at [] []) f.Unit))
  put_step (f.Var x) q = ap (trm roots ys) (fold_level (put_at pairs) (f.Var x)) ∙ ap (put put_for) (sym (fold_level (trm_at [] []) (f.Var x)))
  put_step (f.Len a) q = ap (trm roots ys) (fold_level (put_at pairs) (f.Len a)) ∙ at-Len Trm (trm_at roots ys) (made a) ∙ ap len q ∙ ap (put put_for) (sym (fold_level (trm_at [] []) (f.Len a)))
  put_step (f.Offset a k) q = ap (trm roots ys) (fold_level (put_at pairs) (f.Offset a k)) ∙ at-Offset Trm (trm_at roots ys) (made a) k ∙ ap (off k) q ∙ ap (put put_for) (sym (fold_level (trm_at [] []) (f.Offset a k)))
  put_step (f.Not a) q = ap (trm roots ys) (fold_level (put_at pairs) (f.Not a)) ∙ at-Not Trm (trm_at roots ys) (made a) ∙ ap neg q ∙ ap (put put_for) (sym (fold_level (trm_at [] []) (f.Not a)))
  put_step (f.Mul a b) q =
      ap (trm roots ys) (fold_level (put_at pairs) (f.Mul a b)) ∙ at-Mul Trm (trm_at roots ys) (made a) (made b) ∙ (λ i. op mul (q.0 i) (q.1 i))
      ∙ ap (put put_for) (sym (fold_level (trm_at [] []) (f.Mul a b)))
  put_step (f.Add a b) q =
      ap (trm roots ys) (fold_level (put_at pairs) (f.Add a b)) ∙ at-Add Trm (trm_at roots ys) (made a) (made b) ∙ (λ i. op add (q.0 i) (q.1 i))
      ∙ ap (put put_for) (sym (fold_level (trm_at [] []) (f.Add a b)))
  put_step (f.Sub a b) q =
      ap (trm roots ys) (fold_level (put_at pairs) (f.Sub a b)) ∙ at-Sub Trm (trm_at roots ys) (made a) (made b) ∙ (λ i. op sub (q.0 i) (q.1 i))
      ∙ ap (put put_for) (sym (fold_level (trm_at [] []) (f.Sub a b)))
  put_step (f.Cons a b) q =
      ap (trm roots ys) (fold_level (put_at pairs) (f.Cons a b)) ∙ at-Cons Trm (trm_at roots ys) (made a) (made b) ∙ (λ i. op cons (q.0 i) (q.1 i))
      ∙ ap (put put_for) (sym (fold_level (trm_at [] []) (f.Cons a b)))
  put_step (f.Cat a b) q =
      ap (trm roots ys) (fold_level (put_at pairs) (f.Cat a b)) ∙ at-Cat Trm (trm_at roots ys) (made a) (made b) ∙ (λ i. op cat (q.0 i) (q.1 i))
      ∙ ap (put put_for) (sym (fold_level (trm_at [] []) (f.Cat a b)))
  put_step (f.Eq a b) q =
      ap (trm roots ys) (fold_level (put_at pairs) (f.Eq a b)) ∙ at-Eq Trm (trm_at roots ys) (made a) (made b) ∙ (λ i. op eq (q.0 i) (q.1 i))
      ∙ ap (put put_for) (sym (fold_level (trm_at [] []) (f.Eq a b)))
  put_step (f.Lt a b) q =
      ap (trm roots ys) (fold_level (put_at pairs) (f.Lt a b)) ∙ at-Lt Trm (trm_at roots ys) (made a) (made b) ∙ (λ i. op lt (q.0 i) (q.1 i))
      ∙ ap (put put_for) (sym (fold_level (trm_at [] []) (f.Lt a b)))
  put_step (f.Le a b) q =
      ap (trm roots ys) (fold_level (put_at pairs) (f.Le a b)) ∙ at-Le Trm (trm_at roots ys) (made a) (made b) ∙ (λ i. op le (q.0 i) (q.1 i))
      ∙ ap (put put_for) (sym (fold_level (trm_at [] []) (f.Le a b)))
  put_step (f.And a b) q =
      ap (trm roots ys) (fold_level (put_at pairs) (f.And a b)) ∙ at-And Trm (trm_at roots ys) (made a) (made b) ∙ (λ i. op conj (q.0 i) (q.1 i))
      ∙ ap (put put_for) (sym (fold_level (trm_at [] []) (f.And a b)))
  put_step (f.Or a b) q =
      ap (trm roots ys) (fold_level (put_at pairs) (f.Or a b)) ∙ at-Or Trm (trm_at roots ys) (made a) (made b) ∙ (λ i. op disj (q.0 i) (q.1 i))
      ∙ ap (put put_for) (sym (fold_level (trm_at [] []) (f.Or a b)))
  put_step (f.Imp a b) q =
      ap (trm roots ys) (fold_level (put_at pairs) (f.Imp a b)) ∙ at-Imp Trm (trm_at roots ys) (made a) (made b) ∙ (λ i. op imp (q.0 i) (q.1 i))
      ∙ ap (put put_for) (sym (fold_level (trm_at [] []) (f.Imp a b)))

  pub put_names : (u : Term) → trm roots ys (put_in pairs u) ≡ put put_for (all_free u)
  put_names = by_parts Puts_in put_step
