-- A text has one first fault, and none where it spells something.
use Rattle.std.proofs.Common.{◌≡◌, ap, sym, subst, ◌∙◌, refl, true, List, [], ◌∷◌, ◌++◌, append_assoc, append-nil}
use Rattle.tht_tree.specs.Tokens.{Limit, Mark, counts, lifts, counts_at, deep, many, version, Tok, tok, mark_of}
use Rattle.tht_tree.specs.Productions.{Rel}
use Rattle.tht_tree.specs.Faults.{Fault, unexpected, over, marked, lifted, Permits, Ends, IsFault}

-- all limits count at these tokens, as they do at those of a source
abbrev pub AllCount : List Tok → Type 0
AllCount [] = Unit {0}
AllCount (t ∷ ts) = (mark_of t ≡ counts) × AllCount ts

pub count_at : (c : List Tok) (t : Tok) (j : List Tok) → AllCount (c ++ t ∷ j) → mark_of t ≡ counts
count_at [] t j h = h.0
count_at (u ∷ c) t j h = count_at c t j h.1

same_token : (t : Tok) → marked (mark_of t) t ≡ t
same_token (tok q w) = refl

counts_all : (m : Mark) (l : Limit) → m ≡ counts → counts_at m l ≡ true
counts_all m l e = rw e refl

module _ {A : Type 0} (R : Rel A) where
  -- no text goes on from the tokens before a fault with the token at the fault
  past : (f : Fault) (c : List Tok) (t : Tok) (j more : List Tok) (x : A) → mark_of t ≡ counts → Ends R f c (t ∷ j) → R (c ++ t ∷ more) x [] → ⊥
  past unexpected c t j more x m ends r = let P : Tok → Type 0 = λ u. R (c ++ u ∷ more) x [] in ends (mark_of t) more x (subst P (sym (same_token t)) r)
  past (over l) c t j more x m ends r = let P : Tok → Type 0 = λ u. R (c ++ u ∷ more) x [] in
      ends (mark_of t) more x (counts_all (mark_of t) l m) (subst P (sym (same_token t)) r)

  -- where one of two splits of a list is before the other
  pub data Order (c d j k : List Tok) : Type 0 where
    together : c ≡ d → j ≡ k → Order c d j k
    before : (t : Tok) (b r : List Tok) → j ≡ t ∷ r → d ≡ c ++ t ∷ b → Order c d j k
    after : (t : Tok) (b r : List Tok) → k ≡ t ∷ r → c ≡ d ++ t ∷ b → Order c d j k

  under : (u : Tok) (c d j k : List Tok) → Order c d j k → Order (u ∷ c) (u ∷ d) j k
  under u c d j k (together p q) = together (ap (λ z. u ∷ z) p) q
  under u c d j k (before t b r p q) = before t b r p (ap (λ z. u ∷ z) q)
  under u c d j k (after t b r p q) = after t b r p (ap (λ z. u ∷ z) q)

  order : (c d j k : List Tok) → c ++ j ≡ d ++ k → Order c d j k
  order [] [] j k e = together refl e
  order [] (t ∷ d) j k e = before t d (d ++ k) e refl
  order (t ∷ c) [] j k e = after t c (c ++ j) (sym e) refl
  order (t ∷ c) (u ∷ d) j k e =
      let heads : t ≡ u = cc in let tails : c ++ j ≡ d ++ k = cc in
      let P : Tok → Type 0 = λ v. Order (t ∷ c) (v ∷ d) j k in subst P heads (under t c d j k (order c d j k tails))

  module _ (i : List Tok) (all : AllCount i) where
    count_of : (c : List Tok) (t : Tok) (r : List Tok) → i ≡ c ++ t ∷ r → mark_of t ≡ counts
    count_of c t r e = let P : List Tok → Type 0 = AllCount in count_at c t r (subst P e all)

    -- what spells something has no fault
    pub no_fault : (f : Fault) (j : List Tok) → IsFault R i f j → (x : A) → R i x [] → ⊥
    no_fault f j h x r = at f j h.front h.all h.ends
      where
        at : (f : Fault) (j c : List Tok) → i ≡ c ++ j → Ends R f c j → ⊥
        at unexpected [] c e ends = let P : List Tok → Type 0 = λ z. R z x [] in let whole : i ≡ c = e ∙ append-nil c in ends x (subst P whole r)
        at (over l) [] c e ends = ends
        at f (t ∷ j) c e ends = let P : List Tok → Type 0 = λ z. R z x [] in past f c t j j x (count_of c t j e) ends (subst P e r)

    -- a fault is not before another
    not_before : (f g : Fault) (j k : List Tok) (a : IsFault R i f j) (b : IsFault R i g k) (t : Tok) (l r : List Tok) → j ≡ t ∷ r → b.front ≡ a.front ++ t ∷ l → ⊥
    not_before f g j k a b t l r head longer =
        let P : List Tok → Type 0 = λ z. Ends R f a.front z in
        let Q : List Tok → Type 0 = λ z. R z b.value [] in
        let same : b.front ++ b.more ≡ a.front ++ t ∷ (l ++ b.more) = rw (longer, append_assoc) refl in
        let here : i ≡ a.front ++ t ∷ r = a.all ∙ ap (λ z. a.front ++ z) head in
        past f a.front t r (l ++ b.more) b.value (count_of a.front t r here) (subst P head a.ends) (subst Q same b.begins)

    same_limit : (l m : Limit) → (counts_at (lifts l) m ≡ true → ⊥) → l ≡ m
    same_limit deep deep h = refl
    same_limit deep many h = absurd (h refl)
    same_limit deep version h = absurd (h refl)
    same_limit many deep h = absurd (h refl)
    same_limit many many h = refl
    same_limit many version h = absurd (h refl)
    same_limit version deep h = absurd (h refl)
    same_limit version many h = absurd (h refl)
    same_limit version version h = refl

    -- where a limit is passed at a token, that token can stand there, and no other limit is passed at it
    lift_in : (l : Limit) (c : List Tok) (t : Tok) (j more : List Tok) (x : A) → Permits (over l) (t ∷ j) more → R (c ++ more) x [] → (more2 : List Tok) × R (c ++ lifted l t ∷ more2) x []
    lift_in l c t j [] x p r = absurd p
    lift_in l c t j (u ∷ more) x p r = let P : Tok → Type 0 = λ u. R (c ++ u ∷ more) x [] in (more, subst P p.0 r)

    same_fault : (f g : Fault) (c j : List Tok) (more1 more2 : List Tok) (x y : A) → Permits f j more1 → Permits g j more2 → R (c ++ more1) x [] → R (c ++ more2) y [] → Ends R f c j → Ends R g c j → f ≡ g
    same_fault unexpected unexpected c j more1 more2 x y p q a b ea eb = refl
    same_fault unexpected (over l) c [] more1 more2 x y p q a b ea eb = absurd q
    same_fault unexpected (over l) c (t ∷ j) more1 more2 x y p q a b ea eb = let r = lift_in l c t j more2 y q b in absurd (ea (lifts l) r.0 y r.1)
    same_fault (over l) unexpected c [] more1 more2 x y p q a b ea eb = absurd p
    same_fault (over l) unexpected c (t ∷ j) more1 more2 x y p q a b ea eb = let r = lift_in l c t j more1 x p a in absurd (eb (lifts l) r.0 x r.1)
    same_fault (over l) (over m) c [] more1 more2 x y p q a b ea eb = absurd p
    same_fault (over l) (over m) c (t ∷ j) more1 more2 x y p q a b ea eb =
        let r = lift_in l c t j more1 x p a in ap over (same_limit l m (λ yes. eb (lifts l) r.0 x yes r.1))

    -- a text has one first fault, at one place
    pub one_fault : (f g : Fault) (j k : List Tok) → IsFault R i f j → IsFault R i g k → (f ≡ g) × (j ≡ k)
    one_fault f g j k a b = at (order a.front b.front j k (sym a.all ∙ b.all))
      where
        at : Order a.front b.front j k → (f ≡ g) × (j ≡ k)
        at (together p q) =
            let P : List Tok → Type 0 = λ z. R (z ++ b.more) b.value [] in
            let Q : List Tok → Type 0 = λ z. Permits g z b.more in
            let S : List Tok → Type 0 = λ z. Ends R g a.front z in
            let T : List Tok → Type 0 = λ z. Ends R g z k in
            (same_fault f g a.front j a.more b.more a.value b.value a.permits (subst Q (sym q) b.permits) a.begins (subst P (sym p) b.begins) a.ends (subst S (sym q) (subst T (sym p) b.ends)), q)
        at (before t l r p q) = absurd (not_before f g j k a b t l r p q)
        at (after t l r p q) = absurd (not_before g f k j b a t l r p q)
