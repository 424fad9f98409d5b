-- Folds over assertions, by the cases that clauses match on, and what computes them.
use Rattle.std.proofs.Common.{◌≡◌, ℕ, List, refl, sym, ◌∙◌, ap}
use Rattle.tht_tree.specs.declared.plain.Sort.{Sort}
use Rattle.tht_tree.specs.declared.term.Term.{Term}
use Rattle.tht_tree.specs.declared.assn.Assn.{Assn, fold-Assn, fold-roll-Assn, out-Assn, out-roll-Assn, end_of-Assn, more_of-Assn}
use Rattle.tht_tree.specs.declared.assn.Assn.TheVariants as a
use Rattle.tht_tree.specs.declared.assn.Assn.TheOpen.{Assn-F}
use Rattle.tht_tree.specs.declared.assn.Assn.TheOpen as f
use Rattle.tht_tree.specs.declared.assn.Assn.TheBlock.{shape-the_row-Assn-0, hidden-the_row-Assn-0}
use denote.Hole.Carrier

pattern abbrev pub Star : Assn → Assn → Assn
Star p q = a.Star' tt (more_of-Assn p end_of-Assn) tt (more_of-Assn q end_of-Assn)

pattern abbrev pub Exists : List ℕ → Sort → Assn → Assn
Exists x s p = a.Exists' x s tt (more_of-Assn p end_of-Assn)

pattern abbrev pub Either : Assn → Assn → Assn
Either p q = a.Either' tt (more_of-Assn p end_of-Assn) tt (more_of-Assn q end_of-Assn)

pub Star-is : (p q : Assn) → a.Star p q ≡ Star p q
unfolding shape-the_row-Assn-0 hidden-the_row-Assn-0 Carrier.hidden
Star-is p q = refl

pub Exists-is : (x : List ℕ) (s : Sort) (p : Assn) → a.Exists x s p ≡ Exists x s p
unfolding shape-the_row-Assn-0 hidden-the_row-Assn-0 Carrier.hidden
Exists-is x s p = refl

pub Either-is : (p q : Assn) → a.Either p q ≡ Either p q
unfolding shape-the_row-Assn-0 hidden-the_row-Assn-0 Carrier.hidden
Either-is p q = refl

-- one level
pub out-Emp : out-Assn a.Emp ≡ f.Emp
out-Emp = ap out-Assn (sym a.rolls-Emp) ∙ out-roll-Assn f.Emp

pub out-Fact : (t : Term) → out-Assn (a.Fact t) ≡ f.Fact t
out-Fact t = ap out-Assn (sym (a.rolls-Fact t)) ∙ out-roll-Assn (f.Fact t)

pub out-Own : (t u : Term) → out-Assn (a.Own t u) ≡ f.Own t u
out-Own t u = ap out-Assn (sym (a.rolls-Own t u)) ∙ out-roll-Assn (f.Own t u)

pub out-Shared : (t u : Term) → out-Assn (a.Shared t u) ≡ f.Shared t u
out-Shared t u = ap out-Assn (sym (a.rolls-Shared t u)) ∙ out-roll-Assn (f.Shared t u)

pub out-Star : (p q : Assn) → out-Assn (a.Star p q) ≡ f.Star p q
out-Star p q = ap out-Assn (sym (a.rolls-Star p q)) ∙ out-roll-Assn (f.Star p q)

pub out-Inst : (n : List ℕ) (ts : List Term) → out-Assn (a.Inst n ts) ≡ f.Inst n ts
out-Inst n ts = ap out-Assn (sym (a.rolls-Inst n ts)) ∙ out-roll-Assn (f.Inst n ts)

pub out-Exists : (x : List ℕ) (s : Sort) (p : Assn) → out-Assn (a.Exists x s p) ≡ f.Exists x s p
out-Exists x s p = ap out-Assn (sym (a.rolls-Exists x s p)) ∙ out-roll-Assn (f.Exists x s p)

pub out-Either : (p q : Assn) → out-Assn (a.Either p q) ≡ f.Either p q
out-Either p q = ap out-Assn (sym (a.rolls-Either p q)) ∙ out-roll-Assn (f.Either p q)

-- a fold
module _ (A : Type 0) (step : Assn-F A → A) where
  abbrev of : Assn → A
  of = fold-Assn A step

  pub at-Emp : of a.Emp ≡ step f.Emp
  at-Emp = ap of (sym a.rolls-Emp) ∙ fold-roll-Assn A step f.Emp

  pub at-Fact : (t : Term) → of (a.Fact t) ≡ step (f.Fact t)
  at-Fact t = ap of (sym (a.rolls-Fact t)) ∙ fold-roll-Assn A step (f.Fact t)

  pub at-Own : (t u : Term) → of (a.Own t u) ≡ step (f.Own t u)
  at-Own t u = ap of (sym (a.rolls-Own t u)) ∙ fold-roll-Assn A step (f.Own t u)

  pub at-Shared : (t u : Term) → of (a.Shared t u) ≡ step (f.Shared t u)
  at-Shared t u = ap of (sym (a.rolls-Shared t u)) ∙ fold-roll-Assn A step (f.Shared t u)

  pub at-Star : (p q : Assn) → of (a.Star p q) ≡ step (f.Star (of p) (of q))
  at-Star p q = ap of (sym (a.rolls-Star p q)) ∙ fold-roll-Assn A step (f.Star p q)

  pub at-Inst : (n : List ℕ) (ts : List Term) → of (a.Inst n ts) ≡ step (f.Inst n ts)
  at-Inst n ts = ap of (sym (a.rolls-Inst n ts)) ∙ fold-roll-Assn A step (f.Inst n ts)

  pub at-Exists : (x : List ℕ) (s : Sort) (p : Assn) → of (a.Exists x s p) ≡ step (f.Exists x s (of p))
  at-Exists x s p = ap of (sym (a.rolls-Exists x s p)) ∙ fold-roll-Assn A step (f.Exists x s p)

  pub at-Either : (p q : Assn) → of (a.Either p q) ≡ step (f.Either (of p) (of q))
  at-Either p q = ap of (sym (a.rolls-Either p q)) ∙ fold-roll-Assn A step (f.Either p q)

-- a fold into functions, at an argument
module _ (A B : Type 0) (step : Assn-F (A → B) → A → B) where
  abbrev of_one : Assn → A → B
  of_one = fold-Assn (A → B) step

  pub on-Emp : (v : A) → of_one a.Emp v ≡ step f.Emp v
  on-Emp v = ap (λ g. g v) (at-Emp (A → B) step)

  pub on-Fact : (t : Term) (v : A) → of_one (a.Fact t) v ≡ step (f.Fact t) v
  on-Fact t v = ap (λ g. g v) (at-Fact (A → B) step t)

  pub on-Own : (t u : Term) (v : A) → of_one (a.Own t u) v ≡ step (f.Own t u) v
  on-Own t u v = ap (λ g. g v) (at-Own (A → B) step t u)

  pub on-Shared : (t u : Term) (v : A) → of_one (a.Shared t u) v ≡ step (f.Shared t u) v
  on-Shared t u v = ap (λ g. g v) (at-Shared (A → B) step t u)

  pub on-Star : (p q : Assn) (v : A) → of_one (a.Star p q) v ≡ step (f.Star (of_one p) (of_one q)) v
  on-Star p q v = ap (λ g. g v) (at-Star (A → B) step p q)

  pub on-Inst : (n : List ℕ) (ts : List Term) (v : A) → of_one (a.Inst n ts) v ≡ step (f.Inst n ts) v
  on-Inst n ts v = ap (λ g. g v) (at-Inst (A → B) step n ts)

  pub on-Exists : (x : List ℕ) (s : Sort) (p : Assn) (v : A) → of_one (a.Exists x s p) v ≡ step (f.Exists x s (of_one p)) v
  on-Exists x s p v = ap (λ g. g v) (at-Exists (A → B) step x s p)

  pub on-Either : (p q : Assn) (v : A) → of_one (a.Either p q) v ≡ step (f.Either (of_one p) (of_one q)) v
  on-Either p q v = ap (λ g. g v) (at-Either (A → B) step p q)

-- and at two
module _ (A B C : Type 0) (step : Assn-F (A → B → C) → A → B → C) where
  abbrev of_two : Assn → A → B → C
  of_two = fold-Assn (A → B → C) step

  pub on-two-Emp : (v : A) (w : B) → of_two a.Emp v w ≡ step f.Emp v w
  on-two-Emp v w = ap (λ g. g v w) (at-Emp (A → B → C) step)

  pub on-two-Fact : (t : Term) (v : A) (w : B) → of_two (a.Fact t) v w ≡ step (f.Fact t) v w
  on-two-Fact t v w = ap (λ g. g v w) (at-Fact (A → B → C) step t)

  pub on-two-Own : (t u : Term) (v : A) (w : B) → of_two (a.Own t u) v w ≡ step (f.Own t u) v w
  on-two-Own t u v w = ap (λ g. g v w) (at-Own (A → B → C) step t u)

  pub on-two-Shared : (t u : Term) (v : A) (w : B) → of_two (a.Shared t u) v w ≡ step (f.Shared t u) v w
  on-two-Shared t u v w = ap (λ g. g v w) (at-Shared (A → B → C) step t u)

  pub on-two-Star : (p q : Assn) (v : A) (w : B) → of_two (a.Star p q) v w ≡ step (f.Star (of_two p) (of_two q)) v w
  on-two-Star p q v w = ap (λ g. g v w) (at-Star (A → B → C) step p q)

  pub on-two-Inst : (n : List ℕ) (ts : List Term) (v : A) (w : B) → of_two (a.Inst n ts) v w ≡ step (f.Inst n ts) v w
  on-two-Inst n ts v w = ap (λ g. g v w) (at-Inst (A → B → C) step n ts)

  pub on-two-Exists : (x : List ℕ) (s : Sort) (p : Assn) (v : A) (w : B) → of_two (a.Exists x s p) v w ≡ step (f.Exists x s (of_two p)) v w
  on-two-Exists x s p v w = ap (λ g. g v w) (at-Exists (A → B → C) step x s p)

  pub on-two-Either : (p q : Assn) (v : A) (w : B) → of_two (a.Either p q) v w ≡ step (f.Either (of_two p) (of_two q)) v w
  on-two-Either p q v w = ap (λ g. g v w) (at-Either (A → B → C) step p q)

pub ruleset computing = (out-Emp, out-Fact, out-Own, out-Shared, out-Star, out-Inst, out-Exists, out-Either, on-two-Emp, on-two-Fact, on-two-Own, on-two-Shared, on-two-Star, on-two-Inst, on-two-Exists, on-two-Either, on-Emp, on-Fact, on-Own, on-Shared, on-Star, on-Inst, on-Exists, on-Either, at-Emp, at-Fact, at-Own, at-Shared, at-Star, at-Inst, at-Exists, at-Either)
