-- Whether what putting in would make fits, by its size.
use Rattle.std.proofs.Common.{◌≡◌, ℕ, ◌-◌, ◌^◌, ◌<◌, ◌≤◌, ◌&&◌, min, nat_le, Bool, true, false, cond, Result, Ok, Err, refl, sym, ◌∙◌, ap, subst, arith}
use Rattle.std.proofs.lemmas.Bool.Decides.{nat_tests}
use Rattle.tht_tree.specs.declared.term.Term.{Term}
use Rattle.tht_tree.specs.declared.form.PutEnd.{PutEnd}
use Rattle.tht_tree.specs.declared.form.PutEnd.TheVariants.{Large, Memory}
use Rattle.tht_tree.specs.Rules.Sizes.{is_within}
use Rattle.tht_tree.specs.Normal.Putting.{Puts, put_in, put_nodes, put_levels, put_within, over}
use Rattle.normal_laws.proofs.PutValues.{put_fits, put_in_value}
use Rattle.tht_tree.specs.Terms.{value}
use Rattle.tht_tree.specs.Syntax.{Names}
use Rattle.tht_tree.specs.Values.{Env}
use Rattle.pure_terms.specs.Answers.{IsPutAnswer, KeepsRoots}

abbrev answer : Term → Bool → Result Term PutEnd
answer t b = cond b (Ok t) (Err Large)

many : (n k l : ℕ) → n ≡ min k (2 ^ 64 - 1) → 65536 < n → is_within k l ≡ false
many n k l e h = let g : nat_le k 65536 ≡ false = grind (arith, nat_tests) in ap (λ b. b && nat_le l 1000) g

deep : (n k l : ℕ) → n ≡ min l (2 ^ 64 - 1) → 1000 < n → is_within k l ≡ false
deep n k l e h = let g : nat_le l 1000 ≡ false = grind (arith, nat_tests) in ap (λ b. nat_le k 65536 && b) g ∙ and_false (nat_le k 65536)
  where
    and_false : (b : Bool) → (b && false) ≡ false
    and_false true = refl
    and_false false = refl

small : (n d k l : ℕ) → n ≡ min k (2 ^ 64 - 1) → d ≡ min l (2 ^ 64 - 1) → n ≤ 65536 → d ≤ 1000 → is_within k l ≡ true
small n d k l e f h g =
    let a : nat_le k 65536 ≡ true = grind (arith, nat_tests) in
    let b : nat_le l 1000 ≡ true = grind (arith, nat_tests) in
    cc

pub too_many : (by : Puts) (t : Term) (n : ℕ) → n ≡ min (put_nodes by t) (2 ^ 64 - 1) → 65536 < n → put_within by t ≡ Err Large
too_many by t n e h = ap (answer (put_in by t)) (put_fits by t ∙ many n (put_nodes by t) (put_levels by t) e h)

pub too_deep : (by : Puts) (t : Term) (n : ℕ) → n ≡ min (put_levels by t) (2 ^ 64 - 1) → 1000 < n → put_within by t ≡ Err Large
too_deep by t n e h = ap (answer (put_in by t)) (put_fits by t ∙ deep n (put_nodes by t) (put_levels by t) e h)

abbrev made_of : Term → Result Term PutEnd
made_of t = Ok t

pub it_fits : (by : Puts) (t made : Term) (n d : ℕ) → n ≡ min (put_nodes by t) (2 ^ 64 - 1) → d ≡ min (put_levels by t) (2 ^ 64 - 1) → n ≤ 65536 → d ≤ 1000 → made ≡ put_in by t →
    put_within by t ≡ Ok made
it_fits by t made n d e f h g k =
    ap (answer (put_in by t)) (put_fits by t ∙ small n d (put_nodes by t) (put_levels by t) e f h g) ∙ ap made_of (sym k)

pub kept_value : (roots : Names) (env : Env) (by : Puts) (t made : Term) → KeepsRoots roots by → made ≡ put_in by t → value roots env made ≡ value roots (over roots env by) t
kept_value roots env by t made h e = ap (value roots env) e ∙ put_in_value roots env by h t

pub no_memory : (e : PutEnd) (r : Result Term PutEnd) → e ≡ Memory → IsPutAnswer (Err e) r
no_memory e r h = subst (λ z. IsPutAnswer (Err z) r) (sym h) tt
