-- A program in a row is a list of marks. Whether two rows are one is tested mark by mark.
use Rattle.std.specs.Prelude.{ℕ, ◌==◌, Bool, true, false, ◌&&◌, bytes_eq, List, [], ◌∷◌, reverse, map}
use denote.Enum.Bare.{sameb}
use Rattle.tht_tree.specs.declared.plain.Place.TheVariants as place
use Rattle.tht_tree.specs.declared.plain.Sort.{Sort}
use Rattle.tht_tree.specs.declared.plain.Value.TheVariants as v
use Rattle.tht_tree.specs.Values.{Val, is, seq, a_nat, a_bool, a_place, same_val}
use Rattle.tht_tree.specs.Rules.Scoping.{same_sort}
use Rattle.program_forms.specs.contracts.row.Word.{the_type}
use Rattle.program_forms.specs.contracts.row.Op.{the_type as the_ops}
use Rattle.program_forms.specs.declared.row.Word.{Word}
use Rattle.program_forms.specs.declared.row.Op.{Op}
use Rattle.program_forms.specs.declared.row.Piece.{Piece}
use Rattle.program_forms.specs.declared.row.Piece.TheVariants as p
use Rattle.program_forms.specs.declared.row.Row.{Row}

pub data Mark : Type 0 where
  a_word : Word → Mark
  an_op : Op → Mark
  a_sort : Sort → Mark
  a_value : Val → Mark
  a_name : List ℕ → Mark
  a_bound : ℕ → Mark
  an_offset : ℕ → Mark

abbrev pub mark_of : Piece → Mark
mark_of (p.Word a) = a_word a
mark_of (p.Op a) = an_op a
mark_of (p.Sort s) = a_sort s
mark_of (p.Number n) = a_value (a_nat n)
mark_of p.True = a_value (a_bool true)
mark_of p.False = a_value (a_bool false)
mark_of p.Null = a_value (a_place place.Null)
mark_of p.Nil = a_value (seq [])
mark_of p.Unit = a_value (is v.Unit)
mark_of (p.Name x) = a_name x.now
mark_of (p.Bound k) = a_bound k
mark_of (p.Offset k) = an_offset k

-- the marks of a row, from its first on
unfoldable pub marks_of : Row → List Mark
marks_of row = reverse (map mark_of row.stack.items)

abbrev pub same_mark : Mark → Mark → Bool
same_mark (a_word a) (a_word b) = sameb the_type a b
same_mark (an_op a) (an_op b) = sameb the_ops a b
same_mark (a_sort r) (a_sort s) = same_sort r s
same_mark (a_value x) (a_value y) = same_val x y
same_mark (a_name x) (a_name y) = bytes_eq x y
same_mark (a_bound k) (a_bound l) = k == l
same_mark (an_offset k) (an_offset l) = k == l
same_mark _ _ = false

abbrev pub same_row : List Mark → List Mark → Bool
same_row [] [] = true
same_row (m ∷ ms) (n ∷ ns) = same_mark m n && same_row ms ns
same_row _ _ = false
