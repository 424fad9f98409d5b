-- The sorts of terms.
use Rattle.std.specs.Prelude.{Bool, true, false, not, ◌&&◌, List, [], ◌∷◌, ◌++◌, map, ℕ, Option, Some, None, Result, Ok, Err, if◌then◌else◌}
use Rattle.tht_tree.specs.declared.walk.Found.{Found}
use Rattle.tht_tree.specs.declared.walk.SortEnd.{SortEnd}
use Rattle.tht_tree.specs.declared.walk.SortEnd.TheVariants.{Unknown, Clash, LogicOnly}
use Rattle.tht_tree.specs.declared.plain.Sort.{Sort}
use Rattle.tht_tree.specs.declared.plain.Sort.TheVariants as sort
use Rattle.tht_tree.specs.declared.term.Term.{Term, fold-Term}
use Rattle.tht_tree.specs.declared.term.Term.TheOpen as t
use Rattle.tht_tree.specs.declared.walk.WalkCode.{WalkCode}
use Rattle.tht_tree.specs.declared.walk.WalkCode.TheVariants.{N1, N3, S1, S2}
use Rattle.tht_tree.specs.Walk.Codes.{first, first_of, unless}
use Rattle.tht_tree.specs.declared.walk.Class.{Class}
use Rattle.tht_tree.specs.declared.walk.Class.TheVariants.{Root, Program, Logic}
use Rattle.tht_tree.specs.Walk.Names.{Scope}

abbrev pub same_sort : Sort → Sort → Bool
same_sort sort.Nat sort.Nat = true
same_sort sort.Bool sort.Bool = true
same_sort sort.Loc sort.Loc = true
same_sort sort.Unit sort.Unit = true
same_sort sort.Seq sort.Seq = true
same_sort _ _ = false

-- ---- the sorts of operators

-- A term makes a value of a sort from parts of given sorts; or it is an equation between two parts of one sort; or it is a name.
pub data Rule (A : Type 0) : Type 0 where
  makes : Sort → List (Sort × A) → Rule A
  compares : A → A → Rule A
  names : List ℕ → Rule A

abbrev pub rule : {A : Type 0} → t.Term-F A → Rule A
rule (t.Num n) = makes sort.Nat []
rule t.True = makes sort.Bool []
rule t.False = makes sort.Bool []
rule t.Null = makes sort.Loc []
rule t.Nil = makes sort.Seq []
rule t.Unit = makes sort.Unit []
rule (t.Var x) = names x
rule (t.Len a) = makes sort.Nat ((sort.Seq, a) ∷ [])
rule (t.Offset a n) = makes sort.Loc ((sort.Loc, a) ∷ [])
rule (t.Mul a b) = makes sort.Nat ((sort.Nat, a) ∷ (sort.Nat, b) ∷ [])
rule (t.Add a b) = makes sort.Nat ((sort.Nat, a) ∷ (sort.Nat, b) ∷ [])
rule (t.Sub a b) = makes sort.Nat ((sort.Nat, a) ∷ (sort.Nat, b) ∷ [])
rule (t.Cons a b) = makes sort.Seq ((sort.Nat, a) ∷ (sort.Seq, b) ∷ [])
rule (t.Cat a b) = makes sort.Seq ((sort.Seq, a) ∷ (sort.Seq, b) ∷ [])
rule (t.Eq a b) = compares a b
rule (t.Lt a b) = makes sort.Bool ((sort.Nat, a) ∷ (sort.Nat, b) ∷ [])
rule (t.Le a b) = makes sort.Bool ((sort.Nat, a) ∷ (sort.Nat, b) ∷ [])
rule (t.Not a) = makes sort.Bool ((sort.Bool, a) ∷ [])
rule (t.And a b) = makes sort.Bool ((sort.Bool, a) ∷ (sort.Bool, b) ∷ [])
rule (t.Or a b) = makes sort.Bool ((sort.Bool, a) ∷ (sort.Bool, b) ∷ [])
rule (t.Imp a b) = makes sort.Bool ((sort.Bool, a) ∷ (sort.Bool, b) ∷ [])

-- this item, for the sort seq alone
abbrev pub where_seq : {A : Type 0} → A → Sort → List A
where_seq x sort.Seq = x ∷ []
where_seq x _ = []

-- ---- the sort of a term

-- a part that must have this sort
abbrev pub part : Sort → Result Sort SortEnd → Option SortEnd
part s (Err e) = Some e
part s (Ok r) = if same_sort s r then None else Some (Clash s r)

-- two parts of one sort
abbrev pub parts : Result Sort SortEnd → Result Sort SortEnd → Option SortEnd
parts (Err e) y = Some e
parts (Ok s) y = part s y

abbrev pub logic_only : Bool → Option SortEnd
logic_only true = Some LogicOnly
logic_only false = None

-- this sort, but for the first of these ends
abbrev pub of_sort : Sort → List (Option SortEnd) → Result Sort SortEnd
of_sort s [] = Ok s
of_sort s (None ∷ ends) = of_sort s ends
of_sort s (Some e ∷ ends) = Err e

-- a sequence is of the logic alone, also where a variable of the program stands for it
abbrev pub name_sort : Bool → List ℕ → Option Class → Result Sort SortEnd
name_sort program x (Some Root) = Ok sort.Loc
name_sort program x (Some (Program s)) = of_sort s (logic_only (program && same_sort s sort.Seq) ∷ [])
name_sort program x (Some (Logic s)) = of_sort s (logic_only program ∷ [])
name_sort program x _ = Err (Unknown x)

abbrev pub sort_by : Scope → Bool → Rule (Result Sort SortEnd) → Result Sort SortEnd
sort_by scope program (makes s xs) = of_sort s (map (λ x. part x.0 x.1) xs ++ where_seq (logic_only program) s)
sort_by scope program (compares a b) = of_sort sort.Bool (parts a b ∷ [])
sort_by scope program (names x) = name_sort program x (scope x)

abbrev pub sort_at : Scope → Bool → t.Term-F (Result Sort SortEnd) → Result Sort SortEnd
sort_at scope program x = sort_by scope program (rule x)

-- the sort of a term, which may be one of the program, or why it has none: its parts from left to right, and then the whole
unfoldable pub sort_of : Scope → Bool → Term → Result Sort SortEnd
sort_of scope program = fold-Term (Result Sort SortEnd) (sort_at scope program)

-- ---- what is refused in a term of a construct

abbrev pub found_of : Sort → Option WalkCode → Found
found_of s code = record { code = code; sort = Some s }

-- S1: this sort is wanted
abbrev pub clash : Sort → Option Sort → Option WalkCode
clash s None = None
clash s (Some r) = unless (same_sort s r) S1

abbrev pub wants : Sort → Found → Option WalkCode
wants s x = first x.code (clash s x.sort)

-- two parts of one sort
abbrev pub agree : Option Sort → Option Sort → Option WalkCode
agree None r = None
agree (Some s) r = clash s r

-- S2: of the logic alone
abbrev pub of_logic : Bool → Option WalkCode
of_logic program = unless (not program) S2

-- N1, N3, S2: a name that stands for a value
abbrev pub found_name : Bool → Option Class → Found
found_name program None = record { code = Some N1; sort = None }
found_name program (Some Root) = found_of sort.Loc None
found_name program (Some (Program s)) = found_of s (of_logic (program && same_sort s sort.Seq))
found_name program (Some (Logic s)) = found_of s (of_logic program)
found_name program (Some _) = record { code = Some N3; sort = None }

abbrev pub found_by : Scope → Bool → Rule Found → Found
found_by scope program (makes s xs) = found_of s (first_of (map (λ x. wants x.0 x.1) xs ++ where_seq (of_logic program) s))
found_by scope program (compares a b) = found_of sort.Bool (first_of (a.code ∷ b.code ∷ agree a.sort b.sort ∷ []))
found_by scope program (names x) = found_name program (scope x)

abbrev pub found_at : Scope → Bool → t.Term-F Found → Found
found_at scope program x = found_by scope program (rule x)

-- what is refused in a term, which may be one of the program, and its sort
unfoldable pub found : Scope → Bool → Term → Found
found scope program = fold-Term Found (found_at scope program)
