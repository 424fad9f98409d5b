-- Parameters and arguments that are walked side by side.
use Rattle.std.proofs.Common.{◌≡◌, ◌≢◌, ℕ, Bool, true, false, List, [], ◌∷◌, ◌++◌, length, append-nil, append_assoc, refl, sym, ◌∙◌, ap, arith, ◌⊎◌, inl, inr}
use Rattle.std.specs.Prelude.{bytes_eq, if◌then◌else◌}
use Rattle.std.proofs.lemmas.Slice.Eq.{bytes_eq-Decides}
use Rattle.tht_tree.specs.declared.term.Term.{Term}
use Rattle.tht_tree.specs.declared.term.Term.TheVariants.{Var}
use Rattle.tht_tree.specs.declared.decl.Param.{Param}
use Rattle.tht_tree.specs.Normal.Putting.{Puts, put_name}
use Rattle.tht_logic.specs.Rules.Definitions.{arguments}

-- how an iterator over both ends
abbrev pub OneEnded : List Param → List Term → Type 0
OneEnded ps ts = (length ps ≡ 0) ⊎ (length ts ≡ 0)

none_left : (ps : List Param) (ts : List Term) → OneEnded ps ts → arguments ps ts ≡ []
none_left [] ts e = refl
none_left (p ∷ ps) [] e = refl
none_left (p ∷ ps) (t ∷ ts) (inl e) = absurd (omega (arith, e))
none_left (p ∷ ps) (t ∷ ts) (inr e) = absurd (omega (arith, e))

pub one_ended : {I J : Type 0} {R : I → Type 0} {S : J → Type 0} (ps : List Param) (ts : List Term) → ((i : I) × ((length ps ≡ 0) × R i)) ⊎ ((j : J) × ((length ts ≡ 0) × S j)) → OneEnded ps ts
one_ended ps ts e = elim e [ inl w ↦ inl w.1.0 | inr w ↦ inr w.1.0 ]

-- ---- all are added

module _ (total : Puts) where
  -- after one more
  pub added_one : (before after : Puts) (p : Param) (t : Term) (ps qs : List Param) (ts us : List Term) → (qs ≡ p ∷ ps) × (us ≡ t ∷ ts) → after ≡ before ++ (p.name, t) ∷ []
      → before ++ arguments qs us ≡ total → after ++ arguments ps ts ≡ total
  added_one before after p t ps qs ts us h e d =
      ap (λ (a : Puts). a ++ arguments ps ts) e ∙ append_assoc before ((p.name, t) ∷ []) (arguments ps ts) ∙ sym (λ i. before ++ arguments (h.0 i) (h.1 i)) ∙ d

  pub added_all : (before : Puts) (ps : List Param) (ts : List Term) → OneEnded ps ts → before ++ arguments ps ts ≡ total → before ≡ total
  added_all before ps ts e d = sym (append-nil before) ∙ sym (ap (λ (a : Puts). before ++ a) (none_left ps ts e)) ∙ d

-- ---- the first for a name

module _ (name : List ℕ) (found : Term) where
  at_head : (p : Param) (t : Term) (ps : List Param) (ts : List Term) (b : Bool) → bytes_eq p.name name ≡ b → put_name (arguments (p ∷ ps) (t ∷ ts)) name ≡ (if b then t else put_name (arguments ps ts) name)
  at_head p t ps ts b e = ap (λ c. if c then t else put_name (arguments ps ts) name) e

  other_name : (x : List ℕ) → x ≢ name → bytes_eq x name ≡ false
  other_name x d = pick (bytes_eq x name) refl
    where
      pick : (b : Bool) → bytes_eq x name ≡ b → b ≡ false
      pick true e = absurd (d ((bytes_eq-Decides x name).0 e))
      pick false e = refl

  pub it_is_first : (p : Param) (t : Term) (ps qs : List Param) (ts us : List Term) → (qs ≡ p ∷ ps) × (us ≡ t ∷ ts) → p.name ≡ name → put_name (arguments qs us) name ≡ found → found ≡ t
  it_is_first p t ps qs ts us h e d = sym d ∙ (λ i. put_name (arguments (h.0 i) (h.1 i)) name) ∙ at_head p t ps ts true ((bytes_eq-Decides p.name name).1 e)

  pub it_is_later : (p : Param) (t : Term) (ps qs : List Param) (ts us : List Term) → (qs ≡ p ∷ ps) × (us ≡ t ∷ ts) → p.name ≢ name → put_name (arguments qs us) name ≡ found → put_name (arguments ps ts) name ≡ found
  it_is_later p t ps qs ts us h e d = sym (at_head p t ps ts false (other_name p.name e)) ∙ sym (λ i. put_name (arguments (h.0 i) (h.1 i)) name) ∙ d

  pub it_is_none : (ps : List Param) (ts : List Term) → OneEnded ps ts → put_name (arguments ps ts) name ≡ found → found ≡ Var name
  it_is_none ps ts e d = sym d ∙ ap (λ (a : Puts). put_name a name) (none_left ps ts e)
