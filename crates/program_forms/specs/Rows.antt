-- A program in a row: its tree from left to right, before these marks. Each form begins with a mark that tells it.
use Rattle.std.specs.Prelude.{List, [], ◌∷◌}
use Rattle.tht_tree.specs.Syntax.{Op, add, sub, mul, cons, cat, eq, lt, le, conj, disj, imp, Trm, lit, free, bound, len, off, neg, op}
use Rattle.tht_logic.specs.Programs.{Code, ret, test, read, write, alloc, drop, publish, retract, call, nest, atomic, par}
use Rattle.program_forms.specs.declared.row.Op.{Op as Operation}
use Rattle.program_forms.specs.declared.row.Op.TheVariants as o
use Rattle.program_forms.specs.declared.row.Word.TheVariants as w
use Rattle.program_forms.specs.Marks.{Mark, a_word, an_op, a_sort, a_value, a_name, a_bound, an_offset}

abbrev pub operation : Op → Operation
operation add = o.Add
operation sub = o.Sub
operation mul = o.Mul
operation cons = o.Cons
operation cat = o.Cat
operation eq = o.Eq
operation lt = o.Lt
operation le = o.Le
operation conj = o.And
operation disj = o.Or
operation imp = o.Imp

abbrev pub trm_row : Trm → List Mark → List Mark
trm_row (lit v) r = a_value v ∷ r
trm_row (free x) r = a_name x ∷ r
trm_row (bound k) r = a_bound k ∷ r
trm_row (len a) r = a_word w.Len ∷ trm_row a r
trm_row (off k a) r = an_offset k ∷ trm_row a r
trm_row (neg a) r = a_word w.Not ∷ trm_row a r
trm_row (op p a b) r = an_op (operation p) ∷ trm_row a (trm_row b r)

-- each term of a list behind a mark
abbrev pub items_row : List Trm → List Mark → List Mark
items_row [] r = r
items_row (t ∷ ts) r = a_word w.More ∷ trm_row t (items_row ts r)

abbrev pub trms_row : List Trm → List Mark → List Mark
trms_row ts r = items_row ts (a_word w.End ∷ r)

abbrev pub code_row : Code → List Mark → List Mark
code_row (ret t) r = a_word w.Ret ∷ trm_row t r
code_row (test t p q) r = a_word w.Test ∷ trm_row t (code_row p (code_row q r))
code_row (read s t p) r = a_word w.Read ∷ a_sort s ∷ trm_row t (code_row p r)
code_row (write t u p) r = a_word w.Write ∷ trm_row t (trm_row u (code_row p r))
code_row (alloc ts p) r = a_word w.Alloc ∷ trms_row ts (code_row p r)
code_row (drop t p) r = a_word w.Free ∷ trm_row t (code_row p r)
code_row (publish t p) r = a_word w.Publish ∷ trm_row t (code_row p r)
code_row (retract t p) r = a_word w.Retract ∷ trm_row t (code_row p r)
code_row (call f ts p) r = a_word w.Call ∷ a_name f ∷ trms_row ts (code_row p r)
code_row (nest s p q) r = a_word w.Nest ∷ a_sort s ∷ code_row p (code_row q r)
code_row (atomic s p q) r = a_word w.Atomic ∷ a_sort s ∷ code_row p (code_row q r)
code_row (par s z p q k) r = a_word w.Par ∷ a_sort s ∷ a_sort z ∷ code_row p (code_row q (code_row k r))
