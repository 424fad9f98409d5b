-- How terms stand by their outermost levels and their parts.
use Rattle.std.proofs.Common.{◌≡◌, ◌≢◌, ℕ, ◌==◌, ◌||◌, Bool, true, false, cond, List, [], ◌∷◌, length, map, refl, sym, ◌∙◌, ap, subst, arith, inl, inr, Ordering, Less, Equal, Greater}
use Rattle.std.specs.Ordering.{ordering_then, nat_cmp, is_eq}
use Rattle.std.specs.Cmp.Lexicographic.{slice_cmp, texts_ties, same_text}
use Rattle.std.proofs.lemmas.Bool.Decides.{eqb_tells}
use Rattle.tht_tree.specs.declared.term.Term.{Term, out-Term, roll-Term, roll-out-Term, map-Term, fold-roll-Term}
use Rattle.tht_tree.specs.declared.term.Term.TheOpen.{Term-F}
use Rattle.tht_tree.specs.declared.term.Term.TheOpen as f
use Rattle.tht_tree.specs.Normal.Order.{label, parts, compare_at, compare}
use Rattle.pure_terms.specs.declared.order.Parts.{Parts}
use Rattle.pure_terms.specs.declared.order.Parts.TheVariants as part
use Rattle.pure_terms.specs.Levels.{first_of_label, rank, number_at, number, name_at, name, by_label, listed, ArePartsOf, by_parts}

-- ---- labels, as a number of the form, a number and a name

-- what a label bears behind the number of its form
abbrev mark : List ℕ → List ℕ
mark [] = []
mark (n ∷ ns) = ns

-- the forms that bear a number
abbrev is_numbered : ℕ → Bool
is_numbered r = (r == 0) || (r == 11)

-- what a level bears is its number, or else its name
record Borne (numbered : Bool) (n : ℕ) (x : List ℕ) (m : List ℕ) : Type 0 where
  behind : m ≡ cond numbered (n ∷ []) x
  no_number : n ≡ cond numbered n 0
  no_name : x ≡ cond numbered [] x

borne : {A : Type 0} (x : Term-F A) → Borne (is_numbered (first_of_label (label x))) (number_at x) (name_at x) (mark (label x))
borne (f.Num n) = record { behind = refl; no_number = refl; no_name = refl }
borne _ = record { behind = refl; no_number = refl; no_name = refl }

whole_label : {A : Type 0} (x : Term-F A) → label x ≡ first_of_label (label x) ∷ mark (label x)
whole_label (f.Num n) = refl
whole_label _ = refl

marks : (b : Bool) (n k : ℕ) (x y m l : List ℕ) → Borne b n x m → Borne b k y l → slice_cmp nat_cmp m l ≡ ordering_then (nat_cmp n k) (slice_cmp nat_cmp x y)
marks true n k x y m l g h = (λ i. slice_cmp nat_cmp (g.behind i) (h.behind i)) ∙ sym (λ i. ordering_then (nat_cmp n k) (slice_cmp nat_cmp (g.no_name i) (h.no_name i)))
marks false n k x y m l g h = (λ i. slice_cmp nat_cmp (g.behind i) (h.behind i)) ∙ sym (λ i. ordering_then (nat_cmp (g.no_number i) (h.no_number i)) (slice_cmp nat_cmp x y))

same_labels : (xs ys : List ℕ) → slice_cmp nat_cmp xs ys ≡ Equal → xs ≡ ys
same_labels xs ys e = same_text xs ys (sym (texts_ties xs ys ∙ ap is_eq e))

same_number : (m n : ℕ) → nat_cmp m n ≡ Equal → m ≡ n
same_number m n e = ap first_of_label (same_labels (m ∷ []) (n ∷ []) (ap (λ o. ordering_then o Equal) e))

apart : (m n : ℕ) → m ≢ n → (o p : Ordering) → ordering_then (nat_cmp m n) o ≡ ordering_then (nat_cmp m n) p
apart m n h o p = by (nat_cmp m n) refl
  where
    by : (c : Ordering) → nat_cmp m n ≡ c → ordering_then c o ≡ ordering_then c p
    by Less e = refl
    by Equal e = absurd (h (same_number m n e))
    by Greater e = refl

joined : (r s n k : ℕ) (x y m l : List ℕ) → Borne (is_numbered r) n x m → Borne (is_numbered s) k y l →
    ordering_then (nat_cmp r s) (slice_cmp nat_cmp m l) ≡ ordering_then (nat_cmp r s) (ordering_then (nat_cmp n k) (slice_cmp nat_cmp x y))
joined r s n k x y m l g h =
    elim (eqb_tells r s) as (λ z. ordering_then (nat_cmp r s) (slice_cmp nat_cmp m l) ≡ ordering_then (nat_cmp r s) (ordering_then (nat_cmp n k) (slice_cmp nat_cmp x y))) [
      | inl e ↦ ap (ordering_then (nat_cmp r s)) (marks (is_numbered s) n k x y m l (subst (λ j. Borne (is_numbered j) n x m) e.1 g) h)
      | inr e ↦ apart r s e.1 (slice_cmp nat_cmp m l) (ordering_then (nat_cmp n k) (slice_cmp nat_cmp x y))
    ]

by_three : {A B : Type 0} (x : Term-F A) (y : Term-F B) → slice_cmp nat_cmp (label x) (label y)
    ≡ ordering_then (nat_cmp (first_of_label (label x)) (first_of_label (label y))) (ordering_then (nat_cmp (number_at x) (number_at y)) (slice_cmp nat_cmp (name_at x) (name_at y)))
by_three x y =
    (λ i. slice_cmp nat_cmp (whole_label x i) (whole_label y i))
    ∙ joined (first_of_label (label x)) (first_of_label (label y)) (number_at x) (number_at y) (name_at x) (name_at y) (mark (label x)) (mark (label y)) (borne x) (borne y)

-- the answer by the three in turn
pub by_turns : (u v : Term) (r s n k : ℕ) (x y : List ℕ) (a b ab z o : Ordering) → r ≡ rank u → s ≡ rank v → a ≡ nat_cmp r s → n ≡ number u → k ≡ number v → b ≡ nat_cmp n k →
    ab ≡ ordering_then a b → x ≡ name u → y ≡ name v → z ≡ slice_cmp nat_cmp x y → o ≡ ordering_then ab z → o ≡ by_label u v
by_turns u v r s n k x y a b ab z o re se ae ne ke be abe xe ye ze oe =
    oe
    ∙ (λ i. ordering_then (abe i) (ze i))
    ∙ (λ i. ordering_then (ordering_then (ae i) (be i)) (slice_cmp nat_cmp (xe i) (ye i)))
    ∙ (λ i. ordering_then (ordering_then (nat_cmp (re i) (se i)) (nat_cmp (ne i) (ke i))) (slice_cmp nat_cmp (name u) (name v)))
    ∙ sym (by_three (out-Term u) (out-Term v) ∙ regroup (nat_cmp (rank u) (rank v)) (nat_cmp (number u) (number v)) (slice_cmp nat_cmp (name u) (name v)))
  where
    regroup : (a b c : Ordering) → ordering_then a (ordering_then b c) ≡ ordering_then (ordering_then a b) c
    regroup Less b c = refl
    regroup Equal b c = refl
    regroup Greater b c = refl

-- ---- levels with one label have as many parts

abbrev arity : ℕ → ℕ
arity r = cond ((r == 2) || (r == 11) || (r == 17)) 1 (cond ((r == 0) || (r == 1) || (r == 6) || (r == 7) || (r == 8) || (r == 9) || (r == 10)) 0 2)

has_parts : {A : Type 0} (x : Term-F A) → length (parts x) ≡ arity (first_of_label (label x))
has_parts (f.Num n) = refl
has_parts _ = refl

as_many : {A B : Type 0} (x : Term-F A) (y : Term-F B) → slice_cmp nat_cmp (label x) (label y) ≡ Equal → length (parts x) ≡ length (parts y)
as_many x y e = has_parts x ∙ ap (λ l. arity (first_of_label l)) (same_labels (label x) (label y) e) ∙ sym (has_parts y)

-- ---- terms

parts_of_map : {A B : Type 0} (g : A → B) (x : Term-F A) → parts (map-Term A B g x) ≡ map g (parts x)
parts_of_map g (f.Num n) = refl
parts_of_map g _ = refl

label_kept : {A B : Type 0} (g : A → B) (x : Term-F A) → label (map-Term A B g x) ≡ label x
label_kept g (f.Num n) = refl
label_kept g _ = refl

applied : (xs ys : List Term) → slice_cmp (λ h w. h w) (map compare xs) ys ≡ slice_cmp compare xs ys
applied [] [] = refl
applied [] (y ∷ ys) = refl
applied (x ∷ xs) [] = refl
applied (x ∷ xs) (y ∷ ys) = ap (ordering_then (compare x y)) (applied xs ys)

of_level : (x : Term-F Term) (v : Term) → compare (roll-Term x) v ≡ ordering_then (slice_cmp nat_cmp (label x) (label (out-Term v))) (slice_cmp compare (parts x) (parts (out-Term v)))
of_level x v =
    ap (λ h. h v) (fold-roll-Term (Term → Ordering) compare_at x)
    ∙ (λ i. ordering_then (slice_cmp nat_cmp (label_kept compare x i) (label (out-Term v))) (slice_cmp (λ h w. h w) (parts_of_map compare x i) (parts (out-Term v))))
    ∙ ap (ordering_then (slice_cmp nat_cmp (label x) (label (out-Term v)))) (applied (parts x) (parts (out-Term v)))

by_level : (u v : Term) → compare u v ≡ ordering_then (by_label u v) (slice_cmp compare (parts (out-Term u)) (parts (out-Term v)))
by_level u v = ap (λ z. compare z v) (sym (roll-out-Term u)) ∙ of_level (out-Term u) v

then_equal : (o : Ordering) → ordering_then o Equal ≡ o
then_equal Less = refl
then_equal Equal = refl
then_equal Greater = refl

-- parts that are as many are compared one by one
paired : (ps qs : Parts) → length (listed ps) ≡ length (listed qs) → by_parts ps qs ≡ slice_cmp compare (listed ps) (listed qs)
paired part.Nothing part.Nothing e = refl
paired part.Nothing (part.One b) e = absurd (omega (arith, e))
paired part.Nothing (part.Two c d) e = absurd (omega (arith, e))
paired (part.One a) part.Nothing e = absurd (omega (arith, e))
paired (part.One a) (part.One b) e = sym (then_equal (compare a.now b.now))
paired (part.One a) (part.Two c d) e = absurd (omega (arith, e))
paired (part.Two a b) part.Nothing e = absurd (omega (arith, e))
paired (part.Two a b) (part.One c) e = absurd (omega (arith, e))
paired (part.Two a b) (part.Two c d) e = ap (ordering_then (compare a.now c.now)) (sym (then_equal (compare b.now d.now)))

-- the answer at levels that differ
pub by_first : (u v : Term) (o : Ordering) → o ≡ by_label u v → o ≢ Equal → o ≡ compare u v
by_first u v o e n = sym (by_level u v ∙ (λ i. ordering_then (sym e i) (slice_cmp compare (parts (out-Term u)) (parts (out-Term v)))) ∙ stays o n)
  where
    stays : (o : Ordering) → o ≢ Equal → ordering_then o (slice_cmp compare (parts (out-Term u)) (parts (out-Term v))) ≡ o
    stays Less n = refl
    stays Equal n = absurd (n refl)
    stays Greater n = refl

-- the answer at levels that are alike
pub by_their_parts : (u v : Term) (ps qs : Parts) (o : Ordering) → by_label u v ≡ Equal → ArePartsOf u ps → ArePartsOf v qs → o ≡ by_parts ps qs → o ≡ compare u v
by_their_parts u v ps qs o e g h r =
    let many : length (listed ps) ≡ length (listed qs) = ap length g.all ∙ as_many (out-Term u) (out-Term v) e ∙ sym (ap length h.all) in
    r ∙ paired ps qs many ∙ (λ i. slice_cmp compare (g.all i) (h.all i)) ∙ sym (by_level u v ∙ ap (λ z. ordering_then z (slice_cmp compare (parts (out-Term u)) (parts (out-Term v)))) e)
