-- What this crate's functions answer: what a definition says, unless memory was wanting.
use Rattle.std.specs.Prelude.{◌≡◌, Result, Ok, Err}
use Rattle.tht_tree.specs.declared.assn.Assn.{Assn}
use Rattle.tht_tree.specs.declared.form.PutEnd.{PutEnd}
use Rattle.tht_tree.specs.declared.form.PutEnd.TheVariants as put

abbrev pub IsPutAnswer : Result Assn PutEnd → Result Assn PutEnd → Type 0
IsPutAnswer (Ok p) r = r ≡ Ok p
IsPutAnswer (Err put.Large) r = r ≡ Err put.Large
IsPutAnswer (Err put.Memory) r = Unit {0}
