-- What is answered to a give and a step: what the rules say, unless memory was wanting.
use Rattle.std.specs.Prelude.{◌≡◌, Result, Ok, Err, ⊤}
use Rattle.std.specs.List.Sorted.{IsStrictlySortedBy}
use Rattle.std.specs.Map.{keys_of}
use Rattle.std.specs.Ordering.{nat_cmp}
use Rattle.tht_tree.specs.Rules.Context.{Context}
use Rattle.tht_logic.specs.Rules.Checking.{Checked}
use Rattle.pure_proofs.specs.declared.refusal.Refusal.{Refusal}
use Rattle.pure_proofs.specs.declared.refusal.Refusal.TheVariants.{Rule, Memory}

-- the atoms have different numbers, in their order
abbrev pub IsAscending : Context → Type 0
IsAscending c = IsStrictlySortedBy nat_cmp (keys_of c.atoms)

-- ---- what is made

-- refused as the rules refuse, or want of memory
abbrev pub Refuses : {A : Type 0} → Refusal → Checked A → Type 0
Refuses (Rule r) said = said ≡ Err r
Refuses Memory said = ⊤

-- what the rules make is made, or they refuse
abbrev pub Makes : {A : Type 0} → Result A Refusal → Checked A → Type 0
Makes (Ok x) said = said ≡ Ok x
Makes (Err e) said = Refuses e said

-- ---- what is known then

-- refused as the rules refuse, and nothing has changed; or want of memory
abbrev pub Stays : Refusal → Checked Context → Context → Context → Type 0
Stays (Rule r) said before now = (said ≡ Err r) × (now ≡ before)
Stays Memory said before now = ⊤

-- what is known now, after what was known before, is what the rules say; or they refuse, and nothing has changed
abbrev pub Follows : {A : Type 0} → Result A Refusal → Checked Context → Context → Context → Type 0
Follows (Ok x) said before now = said ≡ Ok now
Follows (Err e) said before now = Stays e said before now
