-- What was found out over what is put in inside no binder, over the terms alone.
use Rattle.std.proofs.Common.{◌≡◌, ℕ, ◌-◌, ◌^◌, List, min, sym, ◌∙◌, ap}
use Rattle.tht_tree.specs.declared.term.Term.{Term}
use Rattle.tht_tree.specs.declared.term.Term.TheVariants.{Var}
use Rattle.tht_tree.specs.Rules.Sizes.{nodes_at, nodes, levels_at, levels}
use Rattle.tht_tree.proofs.TermFolds.{at-Var}
use Rattle.tht_tree.specs.Normal.Putting.{Puts, put_in, put_nodes, put_levels}
use Rattle.pure_terms.specs.Zeros.{zeros, zeros_at, zeros_in}

pub nodes_over : (p q : Puts) (t : Term) (n : ℕ) → p ≡ q → n ≡ min (put_nodes p t) (2 ^ 64 - 1) → n ≡ min (put_nodes q t) (2 ^ 64 - 1)
nodes_over p q t n e h = h ∙ ap (λ (r : Puts). min (put_nodes r t) (2 ^ 64 - 1)) e

pub levels_over : (p q : Puts) (t : Term) (n : ℕ) → p ≡ q → n ≡ min (put_levels p t) (2 ^ 64 - 1) → n ≡ min (put_levels q t) (2 ^ 64 - 1)
levels_over p q t n e h = h ∙ ap (λ (r : Puts). min (put_levels r t) (2 ^ 64 - 1)) e

pub made_over : (p q : Puts) (t made : Term) → p ≡ q → made ≡ put_in p t → made ≡ put_in q t
made_over p q t made e h = h ∙ ap (λ (r : Puts). put_in r t) e

pub name_nodes : (x : List ℕ) → 1 ≡ min (nodes (Var x)) (2 ^ 64 - 1)
name_nodes x = sym (ap (λ (n : ℕ). min n (2 ^ 64 - 1)) (at-Var ℕ nodes_at x))

pub name_levels : (x : List ℕ) → 1 ≡ min (levels (Var x)) (2 ^ 64 - 1)
name_levels x = sym (ap (λ (n : ℕ). min n (2 ^ 64 - 1)) (at-Var ℕ levels_at x))

pub name_has_zeros : (x : List ℕ) → zeros x ≡ zeros_in (Var x)
name_has_zeros x = sym (at-Var ℕ zeros_at x)
