-- Whether what putting in would make fits, by its size.
use Rattle.std.proofs.Common.{◌≡◌, ℕ, ◌-◌, ◌^◌, ◌<◌, ◌≤◌, ◌&&◌, min, nat_le, Bool, true, false, cond, Result, Ok, Err, List, refl, sym, ◌∙◌, ap, subst, arith}
use Rattle.std.proofs.lemmas.Bool.Decides.{nat_tests}
use Rattle.tht_tree.specs.declared.assn.Assn.{Assn}
use Rattle.tht_tree.specs.declared.form.PutEnd.{PutEnd}
use Rattle.tht_tree.specs.declared.form.PutEnd.TheVariants.{Large, Memory}
use Rattle.tht_tree.specs.Rules.Sizes.{is_within, assn_fits}
use Rattle.tht_tree.specs.Normal.Putting.{Puts}
use Rattle.normal_laws.proofs.PutValues.{put_nodes_is, put_levels_is}
use Rattle.tht_logic.specs.Putting.{bound_name, zeros_made, put_in_assn, put_assn_within}
use Rattle.assn_laws.proofs.PutSizes.{put_fits}
use Rattle.heap_assert.specs.Answers.{IsPutAnswer}
use Rattle.heap_assert.specs.ByNames.{put_named, nodes_inside, levels_inside}
use Rattle.heap_assert.proofs.LevelNames.{outermost_is}
use Rattle.heap_assert.proofs.SizesInside.{nodes_are, levels_are}

abbrev answer : Assn → Bool → Result Assn PutEnd
answer p b = cond b (Ok p) (Err Large)

fits : (by : Puts) (p : Assn) → assn_fits (put_in_assn by p) ≡ is_within (nodes_inside by p) (levels_inside by p)
fits by p = put_fits put_nodes_is put_levels_is by p ∙ sym (λ i. is_within (nodes_are by p i) (levels_are by p i))

many : (n k l : ℕ) → n ≡ min k (2 ^ 64 - 1) → 65536 < n → is_within k l ≡ false
many n k l e h = let g : nat_le k 65536 ≡ false = grind (arith, nat_tests) in ap (λ b. b && nat_le l 1000) g

deep : (n k l : ℕ) → n ≡ min l (2 ^ 64 - 1) → 1000 < n → is_within k l ≡ false
deep n k l e h = let g : nat_le l 1000 ≡ false = grind (arith, nat_tests) in ap (λ b. nat_le k 65536 && b) g ∙ and_false (nat_le k 65536)
  where
    and_false : (b : Bool) → (b && false) ≡ false
    and_false true = refl
    and_false false = refl

small : (n d k l : ℕ) → n ≡ min k (2 ^ 64 - 1) → d ≡ min l (2 ^ 64 - 1) → n ≤ 65536 → d ≤ 1000 → is_within k l ≡ true
small n d k l e f h g =
    let a : nat_le k 65536 ≡ true = grind (arith, nat_tests) in
    let b : nat_le l 1000 ≡ true = grind (arith, nat_tests) in
    cc

-- ps is what the code put in, which is what it was given
module _ (ps by : Puts) (same : ps ≡ by) (p : Assn) where
  nodes_over : (n : ℕ) → n ≡ min (nodes_inside ps p) (2 ^ 64 - 1) → n ≡ min (nodes_inside by p) (2 ^ 64 - 1)
  nodes_over n e = e ∙ ap (λ (r : Puts). min (nodes_inside r p) (2 ^ 64 - 1)) same

  levels_over : (n : ℕ) → n ≡ min (levels_inside ps p) (2 ^ 64 - 1) → n ≡ min (levels_inside by p) (2 ^ 64 - 1)
  levels_over n e = e ∙ ap (λ (r : Puts). min (levels_inside r p) (2 ^ 64 - 1)) same

  pub too_many : (n : ℕ) → n ≡ min (nodes_inside ps p) (2 ^ 64 - 1) → 65536 < n → put_assn_within by p ≡ Err Large
  too_many n e h = ap (answer (put_in_assn by p)) (fits by p ∙ many n (nodes_inside by p) (levels_inside by p) (nodes_over n e) h)

  pub too_deep : (n : ℕ) → n ≡ min (levels_inside ps p) (2 ^ 64 - 1) → 1000 < n → put_assn_within by p ≡ Err Large
  too_deep n e h = ap (answer (put_in_assn by p)) (fits by p ∙ deep n (nodes_inside by p) (levels_inside by p) (levels_over n e) h)

  pub it_fits : (made : Assn) (level : List ℕ) (n d z : ℕ) → n ≡ min (nodes_inside ps p) (2 ^ 64 - 1) → d ≡ min (levels_inside ps p) (2 ^ 64 - 1) → n ≤ 65536 → d ≤ 1000
      → z ≡ zeros_made ps p → level ≡ bound_name z → made ≡ put_named level ps p → put_assn_within by p ≡ Ok made
  it_fits made level n d z e g h k f l m =
      ap (answer (put_in_assn by p)) (fits by p ∙ small n d (nodes_inside by p) (levels_inside by p) (nodes_over n e) (levels_over d g) h k)
      ∙ ap (λ (q : Assn). answer q true) (sym (m ∙ ap (λ (x : List ℕ). put_named x ps p) (l ∙ ap bound_name f) ∙ outermost_is p ps ∙ ap (λ (q : Puts). put_in_assn q p) same))

pub no_memory : (e : PutEnd) (r : Result Assn PutEnd) → e ≡ Memory → IsPutAnswer (Err e) r
no_memory e r h = subst (λ z. IsPutAnswer (Err z) r) (sym h) tt
