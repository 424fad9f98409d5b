-- The outermost level of each form of term, and what computes a fold over terms.
use Rattle.std.proofs.Common.{◌≡◌, ℕ, List, sym, ◌∙◌, ap}
use Rattle.tht_tree.specs.declared.term.Term.{Term, fold-Term, out-Term, out-roll-Term}
use Rattle.tht_tree.specs.declared.term.Term.TheVariants as t
use Rattle.tht_tree.specs.declared.term.Term.TheOpen as f
use Rattle.tht_tree.proofs.TermFolds.{at-Num, at-True, at-False, at-Null, at-Nil, at-Unit, at-Var, at-Len, at-Offset, at-Mul, at-Add, at-Sub, at-Cons, at-Cat, at-Eq, at-Lt, at-Le, at-Not, at-And, at-Or, at-Imp}

pub out-Num : (n : ℕ) → out-Term (t.Num n) ≡ f.Num n
out-Num n = ap out-Term (sym (t.rolls-Num n)) ∙ out-roll-Term (f.Num n)

pub out-True : out-Term t.True ≡ f.True
out-True = ap out-Term (sym t.rolls-True) ∙ out-roll-Term f.True

pub out-False : out-Term t.False ≡ f.False
out-False = ap out-Term (sym t.rolls-False) ∙ out-roll-Term f.False

pub out-Null : out-Term t.Null ≡ f.Null
out-Null = ap out-Term (sym t.rolls-Null) ∙ out-roll-Term f.Null

pub out-Nil : out-Term t.Nil ≡ f.Nil
out-Nil = ap out-Term (sym t.rolls-Nil) ∙ out-roll-Term f.Nil

pub out-Unit : out-Term t.Unit ≡ f.Unit
out-Unit = ap out-Term (sym t.rolls-Unit) ∙ out-roll-Term f.Unit

pub out-Var : (x : List ℕ) → out-Term (t.Var x) ≡ f.Var x
out-Var x = ap out-Term (sym (t.rolls-Var x)) ∙ out-roll-Term (f.Var x)

pub out-Len : (a : Term) → out-Term (t.Len a) ≡ f.Len a
out-Len a = ap out-Term (sym (t.rolls-Len a)) ∙ out-roll-Term (f.Len a)

pub out-Offset : (a : Term) (k : ℕ) → out-Term (t.Offset a k) ≡ f.Offset a k
out-Offset a k = ap out-Term (sym (t.rolls-Offset a k)) ∙ out-roll-Term (f.Offset a k)

pub out-Not : (a : Term) → out-Term (t.Not a) ≡ f.Not a
out-Not a = ap out-Term (sym (t.rolls-Not a)) ∙ out-roll-Term (f.Not a)

pub out-Mul : (a b : Term) → out-Term (t.Mul a b) ≡ f.Mul a b
out-Mul a b = ap out-Term (sym (t.rolls-Mul a b)) ∙ out-roll-Term (f.Mul a b)

pub out-Add : (a b : Term) → out-Term (t.Add a b) ≡ f.Add a b
out-Add a b = ap out-Term (sym (t.rolls-Add a b)) ∙ out-roll-Term (f.Add a b)

pub out-Sub : (a b : Term) → out-Term (t.Sub a b) ≡ f.Sub a b
out-Sub a b = ap out-Term (sym (t.rolls-Sub a b)) ∙ out-roll-Term (f.Sub a b)

pub out-Cons : (a b : Term) → out-Term (t.Cons a b) ≡ f.Cons a b
out-Cons a b = ap out-Term (sym (t.rolls-Cons a b)) ∙ out-roll-Term (f.Cons a b)

pub out-Cat : (a b : Term) → out-Term (t.Cat a b) ≡ f.Cat a b
out-Cat a b = ap out-Term (sym (t.rolls-Cat a b)) ∙ out-roll-Term (f.Cat a b)

pub out-Eq : (a b : Term) → out-Term (t.Eq a b) ≡ f.Eq a b
out-Eq a b = ap out-Term (sym (t.rolls-Eq a b)) ∙ out-roll-Term (f.Eq a b)

pub out-Lt : (a b : Term) → out-Term (t.Lt a b) ≡ f.Lt a b
out-Lt a b = ap out-Term (sym (t.rolls-Lt a b)) ∙ out-roll-Term (f.Lt a b)

pub out-Le : (a b : Term) → out-Term (t.Le a b) ≡ f.Le a b
out-Le a b = ap out-Term (sym (t.rolls-Le a b)) ∙ out-roll-Term (f.Le a b)

pub out-And : (a b : Term) → out-Term (t.And a b) ≡ f.And a b
out-And a b = ap out-Term (sym (t.rolls-And a b)) ∙ out-roll-Term (f.And a b)

pub out-Or : (a b : Term) → out-Term (t.Or a b) ≡ f.Or a b
out-Or a b = ap out-Term (sym (t.rolls-Or a b)) ∙ out-roll-Term (f.Or a b)

pub out-Imp : (a b : Term) → out-Term (t.Imp a b) ≡ f.Imp a b
out-Imp a b = ap out-Term (sym (t.rolls-Imp a b)) ∙ out-roll-Term (f.Imp a b)

-- a fold into functions, at an argument
module _ (A B : Type 0) (step : f.Term-F (A → B) → A → B) where
  abbrev of : Term → A → B
  of = fold-Term (A → B) step

  pub on-Num : (n : ℕ) (u : A) → of (t.Num n) u ≡ step (f.Num n) u
  on-Num n u = ap (λ g. g u) (at-Num (A → B) step n)

  pub on-True : (u : A) → of (t.True) u ≡ step (f.True) u
  on-True u = ap (λ g. g u) (at-True (A → B) step)

  pub on-False : (u : A) → of (t.False) u ≡ step (f.False) u
  on-False u = ap (λ g. g u) (at-False (A → B) step)

  pub on-Null : (u : A) → of (t.Null) u ≡ step (f.Null) u
  on-Null u = ap (λ g. g u) (at-Null (A → B) step)

  pub on-Nil : (u : A) → of (t.Nil) u ≡ step (f.Nil) u
  on-Nil u = ap (λ g. g u) (at-Nil (A → B) step)

  pub on-Unit : (u : A) → of (t.Unit) u ≡ step (f.Unit) u
  on-Unit u = ap (λ g. g u) (at-Unit (A → B) step)

  pub on-Var : (x : List ℕ) (u : A) → of (t.Var x) u ≡ step (f.Var x) u
  on-Var x u = ap (λ g. g u) (at-Var (A → B) step x)

  pub on-Len : (a : Term) (u : A) → of (t.Len a) u ≡ step (f.Len (of a)) u
  on-Len a u = ap (λ g. g u) (at-Len (A → B) step a)

  pub on-Offset : (a : Term) (k : ℕ) (u : A) → of (t.Offset a k) u ≡ step (f.Offset (of a) k) u
  on-Offset a k u = ap (λ g. g u) (at-Offset (A → B) step a k)

  pub on-Not : (a : Term) (u : A) → of (t.Not a) u ≡ step (f.Not (of a)) u
  on-Not a u = ap (λ g. g u) (at-Not (A → B) step a)

  pub on-Mul : (a b : Term) (u : A) → of (t.Mul a b) u ≡ step (f.Mul (of a) (of b)) u
  on-Mul a b u = ap (λ g. g u) (at-Mul (A → B) step a b)

  pub on-Add : (a b : Term) (u : A) → of (t.Add a b) u ≡ step (f.Add (of a) (of b)) u
  on-Add a b u = ap (λ g. g u) (at-Add (A → B) step a b)

  pub on-Sub : (a b : Term) (u : A) → of (t.Sub a b) u ≡ step (f.Sub (of a) (of b)) u
  on-Sub a b u = ap (λ g. g u) (at-Sub (A → B) step a b)

  pub on-Cons : (a b : Term) (u : A) → of (t.Cons a b) u ≡ step (f.Cons (of a) (of b)) u
  on-Cons a b u = ap (λ g. g u) (at-Cons (A → B) step a b)

  pub on-Cat : (a b : Term) (u : A) → of (t.Cat a b) u ≡ step (f.Cat (of a) (of b)) u
  on-Cat a b u = ap (λ g. g u) (at-Cat (A → B) step a b)

  pub on-Eq : (a b : Term) (u : A) → of (t.Eq a b) u ≡ step (f.Eq (of a) (of b)) u
  on-Eq a b u = ap (λ g. g u) (at-Eq (A → B) step a b)

  pub on-Lt : (a b : Term) (u : A) → of (t.Lt a b) u ≡ step (f.Lt (of a) (of b)) u
  on-Lt a b u = ap (λ g. g u) (at-Lt (A → B) step a b)

  pub on-Le : (a b : Term) (u : A) → of (t.Le a b) u ≡ step (f.Le (of a) (of b)) u
  on-Le a b u = ap (λ g. g u) (at-Le (A → B) step a b)

  pub on-And : (a b : Term) (u : A) → of (t.And a b) u ≡ step (f.And (of a) (of b)) u
  on-And a b u = ap (λ g. g u) (at-And (A → B) step a b)

  pub on-Or : (a b : Term) (u : A) → of (t.Or a b) u ≡ step (f.Or (of a) (of b)) u
  on-Or a b u = ap (λ g. g u) (at-Or (A → B) step a b)

  pub on-Imp : (a b : Term) (u : A) → of (t.Imp a b) u ≡ step (f.Imp (of a) (of b)) u
  on-Imp a b u = ap (λ g. g u) (at-Imp (A → B) step a b)

pub ruleset levels = (out-Num, out-True, out-False, out-Null, out-Nil, out-Unit, out-Var, out-Len, out-Offset, out-Mul, out-Add, out-Sub, out-Cons, out-Cat, out-Eq, out-Lt, out-Le, out-Not, out-And, out-Or, out-Imp)

pub ruleset folds = (on-Num, on-True, on-False, on-Null, on-Nil, on-Unit, on-Var, on-Len, on-Offset, on-Not, on-Mul, on-Add, on-Sub, on-Cons, on-Cat, on-Eq, on-Lt, on-Le, on-And, on-Or, on-Imp, at-Num, at-True, at-False, at-Null, at-Nil, at-Unit, at-Var, at-Len, at-Offset, at-Mul, at-Add, at-Sub, at-Cons, at-Cat, at-Eq, at-Lt, at-Le, at-Not, at-And, at-Or, at-Imp)

-- what computes a term that is written out
pub ruleset computing = (levels, folds)
