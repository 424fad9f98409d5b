-- Two trees side by side, where some names are bound in both: whether they are one but for the names of bound variables.
use Rattle.std.specs.Prelude.{ℕ, Bool, true, false, ◌&&◌, bytes_eq, List, [], ◌∷◌, map, if◌then◌else◌}
use Rattle.tht_tree.specs.declared.plain.Sort.{Sort}
use Rattle.tht_tree.specs.declared.term.Term.{Term, fold-Term, out-Term}
use Rattle.tht_tree.specs.declared.term.Term.TheOpen as t
use Rattle.tht_tree.specs.declared.assn.Assn.{Assn, fold-Assn, out-Assn}
use Rattle.tht_tree.specs.declared.assn.Assn.TheOpen as a
use Rattle.tht_tree.specs.SameTree.{same_at}
use Rattle.tht_tree.specs.Syntax.{Names}
use Rattle.tht_tree.specs.Rules.Scoping.{same_sort}
use Rattle.heap_assert.specs.declared.binders.Binders.{Binders, fold-Binders}
use Rattle.heap_assert.specs.declared.binders.Binders.TheOpen as b

-- the names that are bound in the one and in the other, in pairs, the innermost first
abbrev pub Pairs : Type 0
Pairs = List (List ℕ × List ℕ)

abbrev pub pairs_at : b.Binders-F Pairs → Pairs
pairs_at b.None = []
pairs_at (b.Pair x y ps) = (x.now, y.now) ∷ ps.now

abbrev pub pairs_of : Binders → Pairs
pairs_of = fold-Binders Pairs pairs_at

abbrev pub of_one : Pairs → Names
of_one ps = map (λ p. p.0) ps

abbrev pub of_other : Pairs → Names
of_other ps = map (λ p. p.1) ps

-- both names are bound at one place, or both are free and the same
abbrev pub same_names : Pairs → List ℕ → List ℕ → Bool
same_names [] x y = bytes_eq x y
same_names (p ∷ ps) x y = if bytes_eq p.0 x then bytes_eq p.1 y else (if bytes_eq p.1 y then false else same_names ps x y)

-- ---- terms

abbrev pub is_name_like : Pairs → List ℕ → t.Term-F Term → Bool
is_name_like ps x (t.Var y) = same_names ps x y
is_name_like ps x _ = false

abbrev pub like_at : Pairs → t.Term-F (Term → Bool) → Term → Bool
like_at ps (t.Var x) u = is_name_like ps x (out-Term u)
like_at ps f u = same_at f u

abbrev pub like_terms : Pairs → Term → Term → Bool
like_terms ps = fold-Term (Term → Bool) (like_at ps)

abbrev pub like_lists : Pairs → List Term → List Term → Bool
like_lists ps [] [] = true
like_lists ps (t ∷ ts) (u ∷ us) = like_terms ps t u && like_lists ps ts us
like_lists ps _ _ = false

-- ---- assertions

abbrev pub is_emp : a.Assn-F Assn → Bool
is_emp a.Emp = true
is_emp _ = false

abbrev pub is_fact : (Term → Bool) → a.Assn-F Assn → Bool
is_fact f (a.Fact t) = f t
is_fact f _ = false

abbrev pub is_own : (Term → Bool) → (Term → Bool) → a.Assn-F Assn → Bool
is_own f g (a.Own t u) = f t && g u
is_own f g _ = false

abbrev pub is_shared : (Term → Bool) → (Term → Bool) → a.Assn-F Assn → Bool
is_shared f g (a.Shared t u) = f t && g u
is_shared f g _ = false

abbrev pub is_star : (Assn → Bool) → (Assn → Bool) → a.Assn-F Assn → Bool
is_star f g (a.Star p q) = f p && g q
is_star f g _ = false

abbrev pub is_inst : List ℕ → (List Term → Bool) → a.Assn-F Assn → Bool
is_inst n f (a.Inst m ts) = bytes_eq n m && f ts
is_inst n f _ = false

abbrev pub is_exists : Sort → (List ℕ → Assn → Bool) → a.Assn-F Assn → Bool
is_exists s f (a.Exists y r p) = same_sort s r && f y p
is_exists s f _ = false

abbrev pub is_either : (Assn → Bool) → (Assn → Bool) → a.Assn-F Assn → Bool
is_either f g (a.Either p q) = f p && g q
is_either f g _ = false

abbrev pub like_assns_at : a.Assn-F (Pairs → Assn → Bool) → Pairs → Assn → Bool
like_assns_at a.Emp ps q = is_emp (out-Assn q)
like_assns_at (a.Fact t) ps q = is_fact (like_terms ps t) (out-Assn q)
like_assns_at (a.Own t u) ps q = is_own (like_terms ps t) (like_terms ps u) (out-Assn q)
like_assns_at (a.Shared t u) ps q = is_shared (like_terms ps t) (like_terms ps u) (out-Assn q)
like_assns_at (a.Star f g) ps q = is_star (f ps) (g ps) (out-Assn q)
like_assns_at (a.Inst n ts) ps q = is_inst n (like_lists ps ts) (out-Assn q)
like_assns_at (a.Exists x s f) ps q = is_exists s (λ y. f ((x, y) ∷ ps)) (out-Assn q)
like_assns_at (a.Either f g) ps q = is_either (f ps) (g ps) (out-Assn q)

abbrev pub like_assns : Pairs → Assn → Assn → Bool
like_assns ps p q = fold-Assn (Pairs → Assn → Bool) like_assns_at p ps q
