-- What this crate's functions answer: what a definition says, unless memory was wanting.
use Rattle.std.specs.Prelude.{◌≡◌, ◌⊎◌, ℕ, false, List, Result, Ok, Err, Some}
use Rattle.tht_tree.specs.declared.term.Term.{Term}
use Rattle.tht_tree.specs.declared.term.Term.TheVariants.{Var}
use Rattle.tht_tree.specs.declared.form.Form.{Form}
use Rattle.tht_tree.specs.declared.form.NormalEnd.{NormalEnd}
use Rattle.tht_tree.specs.declared.form.NormalEnd.TheVariants as end
use Rattle.tht_tree.specs.declared.form.PutEnd.{PutEnd}
use Rattle.tht_tree.specs.declared.form.PutEnd.TheVariants as put
use Rattle.tht_tree.specs.Syntax.{Names, position}
use Rattle.tht_tree.specs.Normal.Putting.{Puts, put_name}
use Rattle.tht_tree.specs.Normal.Forms.{Answer, sum_in}
use Rattle.pure_terms.specs.Making.{has_wide}

-- ---- terms put in for names

abbrev pub IsPutAnswer : Result Term PutEnd → Result Term PutEnd → Type 0
IsPutAnswer (Ok t) r = r ≡ Ok t
IsPutAnswer (Err put.Large) r = r ≡ Err put.Large
IsPutAnswer (Err put.Memory) r = Unit {0}

-- nothing is put in for a root
abbrev pub KeepsRoots : Names → Puts → Type 0
KeepsRoots roots by = (x : List ℕ) (r : ℕ) → position 0 roots x ≡ Some r → put_name by x ≡ Var x

-- ---- normal forms

-- a normal form, in whose sum no number is wide
abbrev pub IsAnswer : Result Form NormalEnd → Answer → Type 0
IsAnswer (Ok m) r = (r ≡ Ok m) × (has_wide (sum_in m) ≡ false)
IsAnswer (Err e) r = (e ≡ end.Memory) ⊎ (r ≡ Err e)

abbrev pub IsTermAnswer : Result Term NormalEnd → Result Term NormalEnd → Type 0
IsTermAnswer (Ok t) r = r ≡ Ok t
IsTermAnswer (Err e) r = (e ≡ end.Memory) ⊎ (r ≡ Err e)
