-- The atoms with the first numbers: they stay as they are where others are added behind them, and where those are taken back.
use Rattle.std.proofs.Common.{◌≡◌, ℕ, ◌+◌, ◌-◌, ◌≤◌, ◌<◌, Bool, true, false, cond, leb, List, [], ◌∷◌, refl, sym, ◌∙◌, ap, subst, inl, inr, arith}
use Rattle.std.proofs.lemmas.Bool.{le-leb, lt-leb}
use Rattle.std.proofs.lemmas.Bool.Decides.{leb_tells}
use Rattle.std.proofs.lemmas.List.Elements.{All-nil, All-cons, All-head, All-tail}
use Rattle.std.specs.Ordering.{nat_cmp, is_eq}
use Rattle.std.specs.Prelude.{All}
use Rattle.tht_tree.specs.declared.assn.Assn.{Assn}
use Rattle.tht_tree.specs.Rules.Context.{Context, with_atom, without_atom}
use Rattle.tht_logic.specs.Flatten.{with_atoms}
use Rattle.assn_laws.proofs.AtomLists.{Atoms, order, below, same, above, with_below, with_same, with_above, without_same, without_above, without_new, IsAbove, Ascends, ascends_from}
use Rattle.heap_rules.specs.declared.consumed.Consumed.{Consumed}
use Rattle.heap_rules.specs.Changes.{less, less_older, more, named, upto, older, KeepsOlder}
use Rattle.heap_rules.specs.Following.{IsAscending}
use Rattle.tht_tree.specs.declared.state.Local.{Local}
use Rattle.heap_rules.specs.ConsumedAtoms.{without_each, left_of, less_each, older_left_in}
use Rattle.heap_rules.proofs.AddedAtoms.{numbered_less}
use Rattle.heap_rules.proofs.MoreAtoms.{Numbered, with_made}

-- ---- lists of atoms

head_stays : (i : ℕ) (e : ℕ × Assn) (es : Atoms) → is_eq (nat_cmp i e.0) ≡ false → without_atom i (e ∷ es) ≡ e ∷ without_atom i es
head_stays i e es g = ap (λ b. cond b es (e ∷ without_atom i es)) g

first_in : (n : ℕ) (e : ℕ × Assn) (es : Atoms) → e.0 ≤ n → upto n (e ∷ es) ≡ e ∷ upto n es
first_in n e es l = ap (λ b. cond b (e ∷ upto n es) (upto n es)) (le-leb e.0 n l)

first_out : (n : ℕ) (e : ℕ × Assn) (es : Atoms) → n < e.0 → upto n (e ∷ es) ≡ upto n es
first_out n e es l = ap (λ b. cond b (e ∷ upto n es) (upto n es)) (lt-leb e.0 n l)

behind : (n : ℕ) (e : ℕ × Assn) (es fs : Atoms) → upto n es ≡ upto n fs → upto n (e ∷ es) ≡ upto n (e ∷ fs)
behind n e es fs g = ap (λ z. cond (leb e.0 n) (e ∷ z) z) g

upto_with : (n i : ℕ) (a : Assn) (es : Atoms) → n < i → upto n (with_atom i a es) ≡ upto n es
upto_with n i a [] l = first_out n (i, a) [] l
upto_with n i a (e ∷ es) l = elim (order i e.0) [
  | below f g ↦ ap (upto n) (with_below i a e es f) ∙ first_out n (i, a) (e ∷ es) l
  | same f g ↦ ap (upto n) (with_same i a e es f) ∙ first_out n (e.0, a) es (omega (arith, g, l)) ∙ sym (first_out n e es (omega (arith, g, l)))
  | above f g ↦ ap (upto n) (with_above i a e es f) ∙ behind n e (with_atom i a es) es (upto_with n i a es l)
]

pub upto_without : (n i : ℕ) (es : Atoms) → n < i → upto n (without_atom i es) ≡ upto n es
upto_without n i [] l = refl
upto_without n i (e ∷ es) l = elim (order i e.0) [
  | below f g ↦ ap (upto n) (head_stays i e es (ap is_eq f)) ∙ behind n e (without_atom i es) es (upto_without n i es l)
  | same f g ↦ ap (upto n) (without_same i e es f) ∙ sym (first_out n e es (omega (arith, g, l)))
  | above f g ↦ ap (upto n) (without_above i e es f) ∙ behind n e (without_atom i es) es (upto_without n i es l)
]

pub upto_all : (n : ℕ) (es : Atoms) → All (λ a. a.0 ≤ n) es → upto n es ≡ es
upto_all n [] h = refl
upto_all n (e ∷ es) h = first_in n e es (All-head (λ a. a.0 ≤ n) e es h) ∙ ap (λ z. e ∷ z) (upto_all n es (All-tail (λ a. a.0 ≤ n) e es h))

none_between : (n : ℕ) (P : ℕ × Assn → Type 0) (es : Atoms) → IsAbove n es → All (λ a. a.0 ≤ n) es → All P es
none_between n P [] h g = All-nil P
none_between n P (e ∷ es) h g = let k = All-head (λ a. a.0 ≤ n) e es g in let l = h.0 in absurd (omega arith)

-- without the last number all are below it
pub all_below : (n : ℕ) (es : Atoms) → Ascends es → All (λ a. a.0 ≤ n) es → All (λ a. a.0 ≤ n - 1) (without_atom n es)
all_below n [] o h = All-nil (λ a. a.0 ≤ n - 1)
all_below n (e ∷ es) o h =
    let head = All-head (λ a. a.0 ≤ n) e es h in
    let tail = All-tail (λ a. a.0 ≤ n) e es h in
    elim (order n e.0) [
      | below f g ↦ absurd (omega arith)
      | same f g ↦ subst (All (λ a. a.0 ≤ n - 1)) (sym (without_same n e es f)) (none_between n (λ a. a.0 ≤ n - 1) es (subst (λ k. IsAbove k es) (sym g) o.0) tail)
      | above f g ↦ subst (All (λ a. a.0 ≤ n - 1)) (sym (without_above n e es f)) (All-cons (λ a. a.0 ≤ n - 1) e (without_atom n es) (omega arith) (all_below n es o.1 tail))
    ]

-- an atom that is taken away, and one that is added behind it
without_with : (i n : ℕ) (p : Assn) (es : Atoms) → i < n → without_atom i (with_atom n p es) ≡ with_atom n p (without_atom i es)
without_with i n p [] l = elim (order i n) [
  | below f g ↦ head_stays i (n, p) [] (ap is_eq f)
  | same f g ↦ absurd (omega arith)
  | above f g ↦ absurd (omega arith)
]
without_with i n p (e ∷ es) l = elim (order n e.0) [
  | below f g ↦ ap (without_atom i) (with_below n p e es f) ∙ elim (order i n) [
    | below h k ↦ head_stays i (n, p) (e ∷ es) (ap is_eq h) ∙ elim (order i e.0) [
      | below q r ↦ ap (λ z. (n, p) ∷ z) (head_stays i e es (ap is_eq q)) ∙ sym (ap (with_atom n p) (head_stays i e es (ap is_eq q)) ∙ with_below n p e (without_atom i es) f)
      | same q r ↦ absurd (omega arith)
      | above q r ↦ absurd (omega arith)
    ]
    | same h k ↦ absurd (omega arith)
    | above h k ↦ absurd (omega arith)
  ]
  | same f g ↦ ap (without_atom i) (with_same n p e es f) ∙ elim (order i e.0) [
    | below q r ↦ head_stays i (e.0, p) es (ap is_eq q) ∙ sym (ap (with_atom n p) (head_stays i e es (ap is_eq q)) ∙ with_same n p e (without_atom i es) f)
    | same q r ↦ absurd (omega arith)
    | above q r ↦ absurd (omega arith)
  ]
  | above f g ↦ ap (without_atom i) (with_above n p e es f) ∙ elim (order i e.0) [
    | below q r ↦ head_stays i e (with_atom n p es) (ap is_eq q) ∙ ap (λ z. e ∷ z) (without_with i n p es l) ∙ sym (ap (with_atom n p) (head_stays i e es (ap is_eq q)) ∙ with_above n p e (without_atom i es) f)
    | same q r ↦ without_same i e (with_atom n p es) q ∙ sym (ap (with_atom n p) (without_same i e es q))
    | above q r ↦ without_above i e (with_atom n p es) q ∙ ap (λ z. e ∷ z) (without_with i n p es l) ∙ sym (ap (with_atom n p) (without_above i e es q) ∙ with_above n p e (without_atom i es) f)
  ]
]

-- ---- what is known

older_with : (n : ℕ) (ps : List Assn) (c : Context) → n ≤ c.made → older n (with_atoms ps c) ≡ older n c
older_with n [] c l = refl
older_with n (p ∷ ps) c l = older_with n ps (more p c) (omega arith) ∙ ap (λ es. record c { atoms = es; made = n }) (upto_with n (c.made + 1) p c.atoms (omega arith))

pub keeps_same : (c k : Context) → k ≡ c → KeepsOlder c k
keeps_same c k e = let f = ap (λ d. d.made) e in record { made = omega (arith, f); same = λ n l. ap (older n) e }

pub keeps_then : (ps : List Assn) (c k l : Context) → k ≡ with_atoms ps c → KeepsOlder k l → KeepsOlder c l
keeps_then ps c k l e h =
    let f = ap (λ d. d.made) e in
    let m = with_made ps c in
    let g = h.made in
    record { made = omega (arith, f, m, g); same = λ n q. h.same n (omega (arith, f, m, q)) ∙ ap (older n) e ∙ older_with n ps c q }

-- what was added is taken back
pub taken_back : (c k : Context) → Numbered c → KeepsOlder c k → older c.made k ≡ c
taken_back c k h g = g.same c.made (omega arith) ∙ ap (λ es. record c { atoms = es }) (upto_all c.made c.atoms h)

pub older_again : (ps : List Assn) (c : Context) → Numbered c → older c.made (with_atoms ps c) ≡ c
older_again ps c h = older_with c.made ps c (omega arith) ∙ ap (λ es. record c { atoms = es }) (upto_all c.made c.atoms h)

less_with : (i : ℕ) (ps : List Assn) (c : Context) → i ≤ c.made → less i (with_atoms ps c) ≡ with_atoms ps (less i c)
less_with i [] c l = refl
less_with i (p ∷ ps) c l = less_with i ps (more p c) (omega arith) ∙ ap (λ es. with_atoms ps (record c { atoms = es; made = c.made + 1 })) (without_with i (c.made + 1) p c.atoms (omega arith))

-- atoms for another, which is taken away once they are there
pub less_older_with : (i : ℕ) (ps : List Assn) (c : Context) → Numbered c → less_older c.made i (with_atoms ps c) ≡ with_atoms ps (less i c)
less_older_with i ps c h = elim (leb_tells i c.made) [
  | inl g ↦ ap (λ b. cond b (less i (with_atoms ps c)) (with_atoms ps c)) g.0 ∙ less_with i ps c g.1
  | inr g ↦ ap (λ b. cond b (less i (with_atoms ps c)) (with_atoms ps c)) g.0 ∙ ap (λ es. with_atoms ps (record c { atoms = es })) (sym (without_new c.made i c.atoms h g.1))
]

each_with : (is : List ℕ) (ps : List Assn) (c : Context) → Numbered c → less_each c.made is (with_atoms ps c) ≡ with_atoms ps (record c { atoms = without_each is c.atoms })
each_with [] ps c h = refl
each_with (i ∷ is) ps c h = ap (less_each c.made is) (less_older_with i ps c h) ∙ each_with is ps (less i c) (numbered_less i c h)

-- atoms for those that were consumed
pub older_left : (s : Consumed) (ps : List Assn) (c : Context) → Numbered c → older_left_in c.made s (with_atoms ps c) ≡ with_atoms ps (record c { atoms = left_of s c.atoms })
unfolding older_left_in left_of
older_left s ps c h = each_with s.numbers.keys ps c h

-- ---- taken back one after another

-- from what was known, the atoms with numbers above n are taken back as far as this one
pub record TakesBack (n last : ℕ) (c k : Context) : Type 0 where
  pub same : older n k ≡ older n c
  pub within : All (λ a. a.0 ≤ last) k.atoms

pub one_back : (n last : ℕ) (c k l : Context) → n < last → IsAscending k → l ≡ less last k → TakesBack n last c k → TakesBack n (last - 1) c l
one_back n last c k l less_than sorted e h = record {
  same = ap (older n) e ∙ ap (λ es. record k { atoms = es; made = n }) (upto_without n last k.atoms less_than) ∙ h.same;
  within = subst (λ d. All (λ a. a.0 ≤ last - 1) d.atoms) (sym e) (all_below last k.atoms (ascends_from k.atoms sorted) h.within);
}

within_first : (n last : ℕ) (es : Atoms) → last ≤ n → All (λ a. a.0 ≤ last) es → All (λ a. a.0 ≤ n) es
within_first n last es l h = λ k d g. let m = h k d g in omega arith

pub all_back : (n last : ℕ) (c k : Context) → last ≤ n → TakesBack n last c k → (record k { made = n } ≡ older n c) × All (λ a. a.0 ≤ n) k.atoms
all_back n last c k l h =
    let within = within_first n last k.atoms l h.within in
    (sym (ap (λ es. record k { atoms = es; made = n }) (upto_all n k.atoms within)) ∙ h.same, within)

-- ---- a name beside them

pub named_less : (n i : ℕ) (x : List ℕ) (l : Local) (c : Context) → less_older n i (named x l c) ≡ named x l (less_older n i c)
named_less n i x l c = pick (leb i n)
  where
    pick : (b : Bool) → cond b (less i (named x l c)) (named x l c) ≡ named x l (cond b (less i c) c)
    pick true = refl
    pick false = refl
