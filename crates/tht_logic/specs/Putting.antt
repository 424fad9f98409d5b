-- Terms put in for the free names of an assertion, all at once: capture-avoiding substitution. Bound variables are renamed on the way,
-- each by the number of binders that it stands in, to names of zeros that are longer than each name of zeros that is free in what is made.
use Rattle.std.specs.Prelude.{ℕ, zero, suc, ◌+◌, ◌==◌, Bool, true, ◌&&◌, max, sum_by, List, [], ◌∷◌, map, length, Result, Ok, Err, if◌then◌else◌}
use Rattle.tht_tree.specs.declared.term.Term.{Term}
use Rattle.tht_tree.specs.declared.term.Term.TheVariants.{Var}
use Rattle.tht_tree.specs.declared.assn.Assn.{Assn, fold-Assn}
use Rattle.tht_tree.specs.declared.assn.Assn.TheVariants as assn
use Rattle.tht_tree.specs.declared.assn.Assn.TheOpen as a
use Rattle.tht_tree.specs.declared.form.PutEnd.{PutEnd}
use Rattle.tht_tree.specs.declared.form.PutEnd.TheVariants.{Large}
use Rattle.tht_tree.specs.Syntax.{Trm, lit, free, bound, len, off, neg, op, trm}
use Rattle.tht_tree.specs.Normal.Putting.{Puts, put_name, put_in, put_nodes, put_levels, put}
use Rattle.tht_tree.specs.Rules.Sizes.{max_by, assn_fits}
use Rattle.tht_logic.specs.Assertions.{Asn, emp, fact, own, shared, star, inst, exist, either, asn}

-- ---- names for bound variables

-- bound variable number d: 0, 00, 000 and so on, which no source can spell
abbrev pub bound_name : ℕ → List ℕ
bound_name zero = 48 ∷ []
bound_name (suc d) = 48 ∷ bound_name d

abbrev pub only_zeros : List ℕ → Bool
only_zeros [] = true
only_zeros (c ∷ x) = (c == 48) && only_zeros x

-- of how many zeros a name consists, and 0 for a name with another letter
abbrev pub zeros : List ℕ → ℕ
zeros x = if only_zeros x then length x else 0

-- the greatest number that a free name of a term has, and one of an assertion
abbrev pub greatest_in : (List ℕ → ℕ) → Trm → ℕ
greatest_in w (lit v) = 0
greatest_in w (free x) = w x
greatest_in w (bound k) = 0
greatest_in w (len a) = greatest_in w a
greatest_in w (off k a) = greatest_in w a
greatest_in w (neg a) = greatest_in w a
greatest_in w (op o a b) = max (greatest_in w a) (greatest_in w b)

abbrev pub greatest : (List ℕ → ℕ) → Asn → ℕ
greatest w emp = 0
greatest w (fact t) = greatest_in w t
greatest w (own t u) = max (greatest_in w t) (greatest_in w u)
greatest w (shared t u) = max (greatest_in w t) (greatest_in w u)
greatest w (star p q) = max (greatest w p) (greatest w q)
greatest w (inst p ts) = max_by (greatest_in w) ts
greatest w (exist s p) = greatest w p
greatest w (either p q) = max (greatest w p) (greatest w q)

-- how long the longest name of zeros is that is free in a term
abbrev pub zeros_in : Term → ℕ
zeros_in t = greatest_in zeros (trm [] [] t)

-- the same of what putting in makes of an assertion: a name that is free there is one of a term that stands for a free name
abbrev pub zeros_made : Puts → Assn → ℕ
zeros_made by p = greatest (λ x. zeros_in (put_name by x)) (asn [] [] p)

-- ---- putting in

-- what is put in behind the binder of x: bound variable d for x too
abbrev pub renaming : List ℕ → ℕ → Puts → Puts
renaming x d by = (x, Var (bound_name d)) ∷ by

abbrev pub put_assn_at : a.Assn-F (ℕ → Puts → Assn) → ℕ → Puts → Assn
put_assn_at a.Emp d by = assn.Emp
put_assn_at (a.Fact t) d by = assn.Fact (put_in by t)
put_assn_at (a.Own t u) d by = assn.Own (put_in by t) (put_in by u)
put_assn_at (a.Shared t u) d by = assn.Shared (put_in by t) (put_in by u)
put_assn_at (a.Star p q) d by = assn.Star (p d by) (q d by)
put_assn_at (a.Inst p ts) d by = assn.Inst p (map (put_in by) ts)
put_assn_at (a.Exists x s p) d by = assn.Exists (bound_name d) s (p (suc d) (renaming x d by))
put_assn_at (a.Either p q) d by = assn.Either (p d by) (q d by)

-- the same where the first bound variable is number d
abbrev pub put_inside : ℕ → Puts → Assn → Assn
put_inside d by p = fold-Assn (ℕ → Puts → Assn) put_assn_at p d by

-- the assertion with these put in
unfoldable pub put_in_assn : Puts → Assn → Assn
put_in_assn by p = put_inside (zeros_made by p) by p

-- refused where what it makes passes the limits of an assertion, which counts whole
abbrev pub put_assn_within : Puts → Assn → Result Assn PutEnd
put_assn_within by p = if assn_fits (put_in_assn by p) then Ok (put_in_assn by p) else Err Large

-- ---- its size, which is known before it is made: how bound variables are named is no matter

abbrev pub put_assn_nodes_at : a.Assn-F (ℕ → Puts → ℕ) → ℕ → Puts → ℕ
put_assn_nodes_at a.Emp d by = 1
put_assn_nodes_at (a.Fact t) d by = put_nodes by t + 1
put_assn_nodes_at (a.Own t u) d by = put_nodes by t + put_nodes by u + 1
put_assn_nodes_at (a.Shared t u) d by = put_nodes by t + put_nodes by u + 1
put_assn_nodes_at (a.Star p q) d by = p d by + q d by + 1
put_assn_nodes_at (a.Inst p ts) d by = sum_by (put_nodes by) ts + 1
put_assn_nodes_at (a.Exists x s p) d by = p (suc d) (renaming x d by) + 1
put_assn_nodes_at (a.Either p q) d by = p d by + q d by + 1

abbrev pub put_assn_nodes : Puts → Assn → ℕ
put_assn_nodes by p = fold-Assn (ℕ → Puts → ℕ) put_assn_nodes_at p 0 by

abbrev pub put_assn_levels_at : a.Assn-F (ℕ → Puts → ℕ) → ℕ → Puts → ℕ
put_assn_levels_at a.Emp d by = 1
put_assn_levels_at (a.Fact t) d by = put_levels by t + 1
put_assn_levels_at (a.Own t u) d by = max (put_levels by t) (put_levels by u) + 1
put_assn_levels_at (a.Shared t u) d by = max (put_levels by t) (put_levels by u) + 1
put_assn_levels_at (a.Star p q) d by = max (p d by) (q d by) + 1
put_assn_levels_at (a.Inst p ts) d by = max_by (put_levels by) ts + 1
put_assn_levels_at (a.Exists x s p) d by = p (suc d) (renaming x d by) + 1
put_assn_levels_at (a.Either p q) d by = max (p d by) (q d by) + 1

abbrev pub put_assn_levels : Puts → Assn → ℕ
put_assn_levels by p = fold-Assn (ℕ → Puts → ℕ) put_assn_levels_at p 0 by

-- ---- in nameless assertions, where no name is bound

abbrev pub put_asn : (List ℕ → Trm) → Asn → Asn
put_asn by emp = emp
put_asn by (fact t) = fact (put by t)
put_asn by (own t u) = own (put by t) (put by u)
put_asn by (shared t u) = shared (put by t) (put by u)
put_asn by (star p q) = star (put_asn by p) (put_asn by q)
put_asn by (inst p ts) = inst p (map (put by) ts)
put_asn by (exist s p) = exist s (put_asn by p)
put_asn by (either p q) = either (put_asn by p) (put_asn by q)
