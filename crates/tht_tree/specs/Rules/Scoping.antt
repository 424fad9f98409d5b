-- The sorts of terms, as the rules see them: a term has one where its names are known and its parts have the sorts that they must
-- have. Why a term has none the walk over names and sorts says.
use Rattle.std.specs.Prelude.{ℕ, Bool, true, false, ◌&&◌, Option, Some, None, if◌then◌else◌}
use Rattle.tht_tree.specs.declared.plain.Sort.{Sort}
use Rattle.tht_tree.specs.declared.plain.Sort.TheVariants as sort
use Rattle.tht_tree.specs.declared.term.Term.{Term, fold-Term}
use Rattle.tht_tree.specs.declared.term.Term.TheOpen as t
use Rattle.tht_tree.specs.declared.state.Local.{Local}
use Rattle.tht_tree.specs.declared.state.Local.TheVariants.{Variable}
use Rattle.tht_tree.specs.Values.{is_storable}
use Rattle.tht_tree.specs.Syntax.{Names, position}
use Rattle.tht_tree.specs.Rules.Context.{Scope}

abbrev pub same_sort : Sort → Sort → Bool
same_sort sort.Nat sort.Nat = true
same_sort sort.Bool sort.Bool = true
same_sort sort.Loc sort.Loc = true
same_sort sort.Unit sort.Unit = true
same_sort sort.Seq sort.Seq = true
same_sort _ _ = false

-- a term has this sort
abbrev pub is_of : Sort → Option Sort → Bool
is_of s None = false
is_of s (Some r) = same_sort s r

-- a term has a sort whose values a cell can hold
abbrev pub is_storable_sort : Option Sort → Bool
is_storable_sort None = false
is_storable_sort (Some s) = is_storable s

abbrev pub variable_sort : Option Local → Option Sort
variable_sort (Some (Variable s)) = Some s
variable_sort _ = None

-- a variable's sort, else the sort loc where the name is a root's
abbrev pub name_sort : Option Sort → Option ℕ → Option Sort
name_sort (Some s) root = Some s
name_sort None (Some r) = Some sort.Loc
name_sort None None = None

-- both parts have the sort r, and the whole has q
abbrev pub both_of : Sort → Option Sort → Option Sort → Sort → Option Sort
both_of r (Some a) (Some b) q = if same_sort r a && same_sort r b then Some q else None
both_of r _ _ q = None

abbrev pub equation_sort : Option Sort → Option Sort → Option Sort
equation_sort (Some s) (Some r) = if same_sort s r then Some sort.Bool else None
equation_sort _ _ = None

abbrev pub cons_sort : Option Sort → Option Sort → Option Sort
cons_sort (Some sort.Nat) (Some sort.Seq) = Some sort.Seq
cons_sort _ _ = None

abbrev pub len_sort : Option Sort → Option Sort
len_sort (Some sort.Seq) = Some sort.Nat
len_sort _ = None

abbrev pub offset_sort : Option Sort → Option Sort
offset_sort (Some sort.Loc) = Some sort.Loc
offset_sort _ = None

abbrev pub not_sort : Option Sort → Option Sort
not_sort (Some sort.Bool) = Some sort.Bool
not_sort _ = None

abbrev pub sort_at : Names → Scope → t.Term-F (Option Sort) → Option Sort
sort_at roots scope (t.Num n) = Some sort.Nat
sort_at roots scope t.True = Some sort.Bool
sort_at roots scope t.False = Some sort.Bool
sort_at roots scope t.Null = Some sort.Loc
sort_at roots scope t.Nil = Some sort.Seq
sort_at roots scope t.Unit = Some sort.Unit
sort_at roots scope (t.Var x) = name_sort (variable_sort (scope x)) (position 0 roots x)
sort_at roots scope (t.Len a) = len_sort a
sort_at roots scope (t.Offset a k) = offset_sort a
sort_at roots scope (t.Mul a b) = both_of sort.Nat a b sort.Nat
sort_at roots scope (t.Add a b) = both_of sort.Nat a b sort.Nat
sort_at roots scope (t.Sub a b) = both_of sort.Nat a b sort.Nat
sort_at roots scope (t.Cons a b) = cons_sort a b
sort_at roots scope (t.Cat a b) = both_of sort.Seq a b sort.Seq
sort_at roots scope (t.Eq a b) = equation_sort a b
sort_at roots scope (t.Lt a b) = both_of sort.Nat a b sort.Bool
sort_at roots scope (t.Le a b) = both_of sort.Nat a b sort.Bool
sort_at roots scope (t.Not a) = not_sort a
sort_at roots scope (t.And a b) = both_of sort.Bool a b sort.Bool
sort_at roots scope (t.Or a b) = both_of sort.Bool a b sort.Bool
sort_at roots scope (t.Imp a b) = both_of sort.Bool a b sort.Bool

-- the sort of a term, where these are the roots: its names are known, and its parts have the sorts that they must have
abbrev pub sort_of : Names → Scope → Term → Option Sort
sort_of roots scope = fold-Term (Option Sort) (sort_at roots scope)

abbrev pub sequence_free_at : t.Term-F Bool → Bool
sequence_free_at t.Nil = false
sequence_free_at (t.Cons a b) = false
sequence_free_at (t.Cat a b) = false
sequence_free_at (t.Len a) = a
sequence_free_at (t.Offset a k) = a
sequence_free_at (t.Mul a b) = a && b
sequence_free_at (t.Add a b) = a && b
sequence_free_at (t.Sub a b) = a && b
sequence_free_at (t.Eq a b) = a && b
sequence_free_at (t.Lt a b) = a && b
sequence_free_at (t.Le a b) = a && b
sequence_free_at (t.Not a) = a
sequence_free_at (t.And a b) = a && b
sequence_free_at (t.Or a b) = a && b
sequence_free_at (t.Imp a b) = a && b
sequence_free_at _ = true

-- no part of the term makes a sequence
abbrev pub sequence_free : Term → Bool
sequence_free = fold-Term Bool sequence_free_at
