-- The longest name of zeros that is free in what putting in makes, as a walk finds it in which a name without zeros stands for each bound one.
use Rattle.std.proofs.Common.{◌≡◌, ℕ, suc, eqb, Bool, true, false, ◌&&◌, max, List, [], ◌∷◌, map, length, Option, Some, None, refl, sym, ◌∙◌, ap}
use Rattle.std.specs.Prelude.{bytes_eq, if◌then◌else◌, option_map}
use Rattle.tht_tree.specs.declared.term.Term.{Term, fold-Term, map-Term, roll-Term}
use Rattle.tht_tree.specs.declared.term.Term.TheVariants.{Var}
use Rattle.tht_tree.specs.declared.term.Term.TheOpen.{Term-F}
use Rattle.tht_tree.specs.declared.term.Term.TheOpen as t
use Rattle.tht_tree.specs.declared.assn.Assn.{Assn, map-Assn, roll-Assn, fold-roll-Assn}
use Rattle.tht_tree.specs.declared.assn.Assn.TheOpen.{Assn-F}
use Rattle.tht_tree.specs.declared.assn.Assn.TheOpen as f
use Rattle.tht_tree.specs.Syntax.{Names, position, named, Trm, trm_at, trm}
use Rattle.tht_tree.specs.Normal.Putting.{Puts, put_name}
use Rattle.tht_tree.specs.Rules.Sizes.{max_by}
use Rattle.tht_tree.proofs.TermFolds.{at-Var}
use Rattle.tht_tree.proofs.TermInduction.{fold_level}
use Rattle.tht_tree.proofs.TermInduction as term
use Rattle.tht_logic.specs.Assertions.{Asn, asn_at, asn}
use Rattle.tht_logic.specs.Putting.{greatest_in, greatest, zeros_made}
use Rattle.tht_logic.specs.Putting as logic
use Rattle.pure_terms.specs.Zeros.{only_zeros, zeros, zeros_at, zeros_in, put_zeros_at, put_zeros}
use Rattle.assn_laws.proofs.AssnInduction.{OfParts, by_parts}
use Rattle.assn_laws.proofs.PuttingNames.{position_behind}
use Rattle.heap_assert.specs.ByNames.{zeros_inside_at, zeros_inside}

-- ---- names and terms

same_test : (x : List ℕ) → only_zeros x ≡ logic.only_zeros x
same_test [] = refl
same_test (c ∷ x) = ap (λ b. eqb c 48 && b) (same_test x)

same_zeros : (x : List ℕ) → zeros x ≡ logic.zeros x
same_zeros x = ap (λ b. if b then length x else 0) (same_test x)

-- a bound variable one binder further in
deeper : (w : List ℕ → ℕ) (x : List ℕ) (o : Option ℕ) → greatest_in w (named [] x (option_map suc o)) ≡ greatest_in w (named [] x o)
deeper w x (Some k) = refl
deeper w x None = refl

-- what each name stands for where these names are bound: nothing that counts for those, and for another name what w says
abbrev Counts : (List ℕ → ℕ) → Names → (List ℕ → ℕ) → Type 0
Counts w xs v = (x : List ℕ) → v x ≡ greatest_in w (named [] x (position 0 xs x))

abbrev greatest_at : (List ℕ → ℕ) → Term-F ℕ → ℕ
greatest_at v (t.Var x) = v x
greatest_at v u = zeros_at u

module _ (w v : List ℕ → ℕ) (xs : Names) (counts : Counts w xs v) where
  abbrev greatest_of : Term → ℕ
  greatest_of = fold-Term ℕ (greatest_at v)

  abbrev GreatestIs : Term → Type 0
  GreatestIs u = greatest_of u ≡ greatest_in w (trm [] xs u)

  term_level : (x : Term-F Term) → term.OfParts GreatestIs x → greatest_at v (map-Term Term ℕ greatest_of x) ≡ greatest_in w (trm_at [] xs (map-Term Term Trm (trm [] xs) x))
  term_level (t.Var x) h = counts x
  term_level (t.Len a) h = h
  term_level (t.Offset a k) h = h
  term_level (t.Not a) h = h
  term_level (t.Mul a b) h = λ i. max (h.0 i) (h.1 i)
  term_level (t.Add a b) h = λ i. max (h.0 i) (h.1 i)
  term_level (t.Sub a b) h = λ i. max (h.0 i) (h.1 i)
  term_level (t.Cons a b) h = λ i. max (h.0 i) (h.1 i)
  term_level (t.Cat a b) h = λ i. max (h.0 i) (h.1 i)
  term_level (t.Eq a b) h = λ i. max (h.0 i) (h.1 i)
  term_level (t.Lt a b) h = λ i. max (h.0 i) (h.1 i)
  term_level (t.Le a b) h = λ i. max (h.0 i) (h.1 i)
  term_level (t.And a b) h = λ i. max (h.0 i) (h.1 i)
  term_level (t.Or a b) h = λ i. max (h.0 i) (h.1 i)
  term_level (t.Imp a b) h = λ i. max (h.0 i) (h.1 i)
  term_level _ h = refl

  at_term : (x : Term-F Term) → term.OfParts GreatestIs x → GreatestIs (roll-Term x)
  at_term x h = fold_level (greatest_at v) x ∙ term_level x h ∙ sym (ap (greatest_in w) (fold_level (trm_at [] xs) x))

  greatest_is : (u : Term) → GreatestIs u
  greatest_is = term.by_parts GreatestIs at_term

-- both definitions say the same of a term
zeros_step : (u : Term-F ℕ) → zeros_at u ≡ greatest_at zeros u
zeros_step (t.Var x) = refl
zeros_step _ = refl

same_in : (u : Term) → zeros_in u ≡ logic.zeros_in u
same_in u = (λ i. fold-Term ℕ (λ x. zeros_step x i) u) ∙ greatest_is logic.zeros zeros [] same_zeros u

module _ (w : List ℕ → ℕ) where
  abbrev Stands : Names → Puts → Type 0
  Stands xs by = Counts w xs (λ x. zeros_in (put_name by x))

  put_step : (by : Puts) (u : Term-F ℕ) → put_zeros_at by u ≡ greatest_at (λ x. zeros_in (put_name by x)) u
  put_step by (t.Var x) = refl
  put_step by _ = refl

  of_term : (xs : Names) (by : Puts) → Stands xs by → (u : Term) → put_zeros by u ≡ greatest_in w (trm [] xs u)
  of_term xs by s u = (λ i. fold-Term ℕ (λ x. put_step by x i) u) ∙ greatest_is w (λ x. zeros_in (put_name by x)) xs s u

  of_terms : (xs : Names) (by : Puts) → Stands xs by → (us : List Term) → max_by (put_zeros by) us ≡ max_by (greatest_in w) (map (trm [] xs) us)
  of_terms xs by s [] = refl
  of_terms xs by s (u ∷ us) = λ i. max (of_term xs by s u i) (of_terms xs by s us i)

  -- behind one binder more
  behind : (y : List ℕ) (xs : Names) (by : Puts) → Stands xs by → Stands (y ∷ xs) ((y, Var []) ∷ by)
  behind y xs by s x = pick (bytes_eq y x)
    where
      pick : (b : Bool) → zeros_in (if b then Var [] else put_name by x) ≡ greatest_in w (named [] x (if b then Some 0 else position 1 xs x))
      pick true = at-Var ℕ zeros_at []
      pick false = s x ∙ sym (ap (λ (o : Option ℕ). greatest_in w (named [] x o)) (position_behind 0 xs x) ∙ deeper w x (position 0 xs x))

  -- ---- assertions

  abbrev Law : Assn → Type 0
  Law p = (xs : Names) (by : Puts) → Stands xs by → zeros_inside [] by p ≡ greatest w (asn [] xs p)

  abbrev by_puts : Assn → Puts → ℕ
  by_puts p by = zeros_inside [] by p

  abbrev unbound : Assn → Names → Asn
  unbound p xs = asn [] xs p

  level : (x : Assn-F Assn) → OfParts Law x → (xs : Names) (by : Puts) → Stands xs by →
      zeros_inside_at [] (map-Assn Assn (Puts → ℕ) by_puts x) by ≡ greatest w (asn_at [] (map-Assn Assn (Names → Asn) unbound x) xs)
  level f.Emp h xs by s = refl
  level (f.Fact u) h xs by s = of_term xs by s u
  level (f.Own u v) h xs by s = λ i. max (of_term xs by s u i) (of_term xs by s v i)
  level (f.Shared u v) h xs by s = λ i. max (of_term xs by s u i) (of_term xs by s v i)
  level (f.Star p q) h xs by s = λ i. max (h.0 xs by s i) (h.1 xs by s i)
  level (f.Inst n us) h xs by s = of_terms xs by s us
  level (f.Exists x r p) h xs by s = h (x ∷ xs) ((x, Var []) ∷ by) (behind x xs by s)
  level (f.Either p q) h xs by s = λ i. max (h.0 xs by s i) (h.1 xs by s i)

  at_level : (x : Assn-F Assn) → OfParts Law x → Law (roll-Assn x)
  at_level x h xs by s =
      ap (λ g. g by) (fold-roll-Assn (Puts → ℕ) (zeros_inside_at []) x) ∙ level x h xs by s
      ∙ sym (ap (λ g. greatest w (g xs)) (fold-roll-Assn (Names → Asn) (asn_at []) x))

  law : (p : Assn) → Law p
  law = by_parts Law at_level

found_is : (by : Puts) (p : Assn) → zeros_inside [] by p ≡ zeros_made by p
found_is by p = law (λ x. logic.zeros_in (put_name by x)) p [] by (λ x. same_in (put_name by x))

pub made_is : (none : List ℕ) (by : Puts) (p : Assn) (n : ℕ) → none ≡ [] → n ≡ zeros_inside none by p → n ≡ zeros_made by p
made_is none by p n e h = h ∙ ap (λ (x : List ℕ). zeros_inside x by p) e ∙ found_is by p
