-- What is known with more atoms: how large it is.
use Rattle.std.proofs.Common.{◌≡◌, ℕ, ◌+◌, ◌-◌, ◌^◌, ◌<◌, ◌≤◌, Bool, true, false, ◌&&◌, leb, ltb, min, List, [], ◌∷◌, ◌++◌, length, sum_by, refl, sym, ◌∙◌, ap, inl, inr, arith}
use Rattle.std.proofs.lemmas.Bool.{lt-ltb, le-ltb, ltb-true, leb-true, leb-false, le-leb, lt-leb}
use Rattle.std.proofs.lemmas.Bool.Decides.{leb_tells}
use Rattle.std.proofs.lemmas.List.{length-append}
use Rattle.std.proofs.lemmas.List.Sums.{sum_by-cons, sum_by-append}
use Rattle.std.specs.Prelude.{All}
use Rattle.tht_tree.specs.declared.assn.Assn.{Assn}
use Rattle.tht_tree.specs.Rules.Context.{Context, context_nodes, context_fits}
use Rattle.tht_tree.specs.Rules.Sizes.{assn_nodes}
use Rattle.tht_logic.specs.Flatten.{flatten, with_atoms, with_assn}
use Rattle.assn_laws.proofs.AtomLists.{All-with}
use Rattle.heap_rules.specs.Changes.{more}
use Rattle.heap_rules.proofs.AtomSizes.{size_new}

-- no atom has a number above those made
abbrev pub Numbered : Context → Type 0
Numbered c = All (λ a. a.0 ≤ c.made) c.atoms

pub numbered_more : (p : Assn) (c : Context) → Numbered c → Numbered (more p c)
numbered_more p c h =
    let older : All (λ a. a.0 ≤ c.made + 1) c.atoms = λ k d l. let g = h k d l in omega arith in
    All-with (λ a. a.0 ≤ c.made + 1) (c.made + 1) p c.atoms older (omega arith)

pub more_nodes : (p : Assn) (c : Context) → Numbered c → context_nodes (more p c) ≡ context_nodes c + assn_nodes p
more_nodes p c h = let e = size_new c.made (c.made + 1) p c.atoms h (omega arith) in omega (arith, e)

pub with_nodes : (ps : List Assn) (c : Context) → Numbered c → context_nodes (with_atoms ps c) ≡ context_nodes c + sum_by assn_nodes ps
with_nodes [] c h = omega arith
with_nodes (p ∷ ps) c h =
    let e = with_nodes ps (more p c) (numbered_more p c h) in
    let f = more_nodes p c h in
    let g = sum_by-cons assn_nodes p ps in
    omega (arith, e, f, g)

pub with_made : (ps : List Assn) (c : Context) → (with_atoms ps c).made ≡ c.made + length ps
with_made [] c = omega arith
with_made (p ∷ ps) c = let e = with_made ps (more p c) in omega (arith, e)

pub with_both : (ps qs : List Assn) (c : Context) → with_atoms (ps ++ qs) c ≡ with_atoms qs (with_atoms ps c)
with_both [] qs c = refl
with_both (p ∷ ps) qs c = with_both ps qs (more p c)

-- ---- limits

pub fits : (c : Context) → context_nodes c ≤ 262144 → c.made < 2 ^ 32 → context_fits c ≡ true
fits c n m = λ i. le-leb (context_nodes c) 262144 n i && lt-ltb c.made (2 ^ 32) m i

both_true : (a b : Bool) → (a && b) ≡ true → (a ≡ true) × (b ≡ true)
both_true true b e = (refl, e)
both_true false b e = cc

pub fits_nodes : (c : Context) → context_fits c ≡ true → context_nodes c ≤ 262144
fits_nodes c e = leb-true (context_nodes c) 262144 (both_true (leb (context_nodes c) 262144) (ltb c.made (2 ^ 32)) e).0

pub fits_made : (c : Context) → context_fits c ≡ true → c.made < 2 ^ 32
fits_made c e = ltb-true c.made (2 ^ 32) (both_true (leb (context_nodes c) 262144) (ltb c.made (2 ^ 32)) e).1

-- what fits with more fits without
pub fits_first : (ps qs : List Assn) (c : Context) → Numbered c → context_fits (with_atoms (ps ++ qs) c) ≡ true → context_fits (with_atoms ps c) ≡ true
fits_first ps qs c h e =
    let whole = with_nodes (ps ++ qs) c h in
    let part = with_nodes ps c h in
    let sum = sum_by-append assn_nodes ps qs in
    let made = with_made (ps ++ qs) c in
    let first = with_made ps c in
    let count = length-append ps qs in
    let n = fits_nodes (with_atoms (ps ++ qs) c) e in
    let m = fits_made (with_atoms (ps ++ qs) c) e in
    fits (with_atoms ps c) (omega (arith, whole, part, sum, n)) (omega (arith, made, first, count, m))

module _ (p : Assn) (c : Context) (h : Numbered c) (n s m : ℕ) (size : context_nodes c ≡ n) (add : s ≡ min (sum_by assn_nodes (flatten p)) (2 ^ 64 - 1)) (total : m ≡ min (n + s) (2 ^ 64 - 1)) where
  pub no_room : false ≡ leb m 262144 → false ≡ context_fits (with_assn p c)
  no_room e =
      let g = with_nodes (flatten p) c h in
      let large : leb (context_nodes (with_assn p c)) 262144 ≡ false = lt-leb (context_nodes (with_assn p c)) 262144 (omega (arith, g, leb-false m 262144 (sym e))) in
      sym (ap (λ b. b && ltb (with_assn p c).made (2 ^ 32)) large)

  pub room : true ≡ leb m 262144 → (made k : ℕ) → c.made ≡ made → made < 2 ^ 32 → k ≡ min (length (flatten p)) (2 ^ 64 - 1) → leb k (2 ^ 32 - 1 - made) ≡ context_fits (with_assn p c)
  room e made k is below count =
      let g = with_nodes (flatten p) c h in
      let next = with_made (flatten p) c in
      let small : leb (context_nodes (with_assn p c)) 262144 ≡ true = le-leb (context_nodes (with_assn p c)) 262144 (omega (arith, g, leb-true m 262144 (sym e))) in
      tests ∙ sym (ap (λ b. b && ltb (with_assn p c).made (2 ^ 32)) small)
    where
      tests : leb k (2 ^ 32 - 1 - made) ≡ ltb (with_assn p c).made (2 ^ 32)
      tests =
          let next = with_made (flatten p) c in
          elim (leb_tells k (2 ^ 32 - 1 - made)) [
            | inl g ↦ let l = g.1 in g.0 ∙ sym (lt-ltb (with_assn p c).made (2 ^ 32) (omega (arith, next, l)))
            | inr g ↦ let l = g.1 in g.0 ∙ sym (le-ltb (with_assn p c).made (2 ^ 32) (omega (arith, next, l)))
          ]
