-- A goal by its shape is the assertion of that form.
use Rattle.std.proofs.Common.{◌≡◌, ℕ, List, Some, refl, sym, ◌∙◌, ap}
use Rattle.tht_tree.specs.declared.term.Term.{Term}
use Rattle.tht_tree.specs.declared.assn.Assn.{Assn, roll-Assn, out-Assn, roll-out-Assn}
use Rattle.tht_tree.specs.declared.assn.Assn.TheVariants as a
use Rattle.tht_tree.specs.declared.assn.Assn.TheOpen.{Assn-F}
use Rattle.tht_tree.specs.declared.assn.Assn.TheOpen as f
use Rattle.tht_logic.specs.Rules.Gives.{Existential, emp_at, fact_at, star_at, existential_at, disjunction_at, instance_at}

rolled : (p : Assn) (x : Assn-F Assn) → out-Assn p ≡ x → p ≡ roll-Assn x
rolled p x e = sym (roll-out-Assn p) ∙ ap roll-Assn e

emp_level : (x : Assn-F Assn) (z : Unit {0}) → emp_at x ≡ Some z → x ≡ f.Emp
emp_level f.Emp z e = refl
emp_level _ z e = cc

fact_level : (x : Assn-F Assn) (t : Term) → fact_at x ≡ Some t → x ≡ f.Fact t
fact_level (f.Fact u) t e = cc
fact_level _ t e = cc

star_level : (x : Assn-F Assn) (z : Assn × Assn) → star_at x ≡ Some z → x ≡ f.Star z.0 z.1
star_level (f.Star p q) z e = ap (λ w. f.Star w.0 w.1) (inside (p, q) z e)
  where
    inside : (v w : Assn × Assn) → Some v ≡ Some w → v ≡ w
    inside v w e = cc
star_level _ z e = cc

choice_level : (x : Assn-F Assn) (z : Assn × Assn) → disjunction_at x ≡ Some z → x ≡ f.Either z.0 z.1
choice_level (f.Either p q) z e = ap (λ w. f.Either w.0 w.1) (inside (p, q) z e)
  where
    inside : (v w : Assn × Assn) → Some v ≡ Some w → v ≡ w
    inside v w e = cc
choice_level _ z e = cc

scheme_level : (x : Assn-F Assn) (z : Existential) → existential_at x ≡ Some z → x ≡ f.Exists z.name z.sort z.body
scheme_level (f.Exists y s p) z e = ap (λ w. f.Exists w.name w.sort w.body) (inside (record { name = y; sort = s; body = p }) z e)
  where
    inside : (v w : Existential) → Some v ≡ Some w → v ≡ w
    inside v w e = cc
scheme_level _ z e = cc

instance_level : (x : Assn-F Assn) (z : List ℕ × List Term) → instance_at x ≡ Some z → x ≡ f.Inst z.0 z.1
instance_level (f.Inst n ts) z e = ap (λ w. f.Inst w.0 w.1) (inside (n, ts) z e)
  where
    inside : (v w : List ℕ × List Term) → Some v ≡ Some w → v ≡ w
    inside v w e = cc
instance_level _ z e = cc

module _ (p : Assn) where
  pub is_emp : (z : Unit {0}) → emp_at (out-Assn p) ≡ Some z → p ≡ a.Emp
  is_emp z e = rolled p f.Emp (emp_level (out-Assn p) z e) ∙ a.rolls-Emp

  pub is_fact : (t : Term) → fact_at (out-Assn p) ≡ Some t → p ≡ a.Fact t
  is_fact t e = rolled p (f.Fact t) (fact_level (out-Assn p) t e) ∙ a.rolls-Fact t

  pub is_star : (z : Assn × Assn) → star_at (out-Assn p) ≡ Some z → p ≡ a.Star z.0 z.1
  is_star z e = rolled p (f.Star z.0 z.1) (star_level (out-Assn p) z e) ∙ a.rolls-Star z.0 z.1

  pub is_disjunction : (z : Assn × Assn) → disjunction_at (out-Assn p) ≡ Some z → p ≡ a.Either z.0 z.1
  is_disjunction z e = rolled p (f.Either z.0 z.1) (choice_level (out-Assn p) z e) ∙ a.rolls-Either z.0 z.1

  pub is_existential : (z : Existential) → existential_at (out-Assn p) ≡ Some z → p ≡ a.Exists z.name z.sort z.body
  is_existential z e = rolled p (f.Exists z.name z.sort z.body) (scheme_level (out-Assn p) z e) ∙ a.rolls-Exists z.name z.sort z.body

  pub is_instance : (z : List ℕ × List Term) → instance_at (out-Assn p) ≡ Some z → p ≡ a.Inst z.0 z.1
  is_instance z e = rolled p (f.Inst z.0 z.1) (instance_level (out-Assn p) z e) ∙ a.rolls-Inst z.0 z.1
