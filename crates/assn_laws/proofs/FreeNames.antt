-- What is known of the free names of terms and assertions.
use Rattle.std.proofs.Common.{ℕ, ◌≤◌, max, arith, All, List, [], ◌∷◌}
use Rattle.std.proofs.lemmas.List.Elements.{All-head, All-tail, All-cons, All-nil}
use Rattle.tht_tree.specs.declared.assn.Assn.{Assn}
use Rattle.tht_tree.specs.Syntax.{Trm, lit, free, bound, len, off, neg, op, trm}
use Rattle.tht_tree.specs.Normal.Putting.{Puts, put_name, put}
use Rattle.tht_tree.specs.Rules.Sizes.{max_by}
use Rattle.tht_logic.specs.Assertions.{Asn, emp, fact, own, shared, star, inst, exist, either, asn}
use Rattle.tht_logic.specs.Putting.{zeros, greatest_in, greatest, zeros_in, zeros_made}
use Rattle.assn_laws.specs.AssertionLaws.{EachName, EachFree}

module _ (K R : List ℕ → Type 0) (f : (x : List ℕ) → K x → R x) where
  pub each_name_map : (u : Trm) → EachName K u → EachName R u
  each_name_map (lit v) k = tt
  each_name_map (free x) k = f x k
  each_name_map (bound j) k = tt
  each_name_map (len a) k = each_name_map a k
  each_name_map (off j a) k = each_name_map a k
  each_name_map (neg a) k = each_name_map a k
  each_name_map (op o a b) k = (each_name_map a k.0, each_name_map b k.1)

  each_map : (us : List Trm) → All (EachName K) us → All (EachName R) us
  each_map [] k = All-nil (EachName R)
  each_map (u ∷ us) k = All-cons (EachName R) u us (each_name_map u (All-head (EachName K) u us k)) (each_map us (All-tail (EachName K) u us k))

  pub each_free_map : (p : Asn) → EachFree K p → EachFree R p
  each_free_map emp k = tt
  each_free_map (fact u) k = each_name_map u k
  each_free_map (own u w) k = (each_name_map u k.0, each_name_map w k.1)
  each_free_map (shared u w) k = (each_name_map u k.0, each_name_map w k.1)
  each_free_map (star p q) k = (each_free_map p k.0, each_free_map q k.1)
  each_free_map (inst n us) k = each_map us k
  each_free_map (exist s p) k = each_free_map p k
  each_free_map (either p q) k = (each_free_map p k.0, each_free_map q k.1)

-- what is known of all names
module _ (P : List ℕ → Type 0) (f : (x : List ℕ) → P x) where
  pub every_name : (u : Trm) → EachName P u
  every_name (lit v) = tt
  every_name (free x) = f x
  every_name (bound j) = tt
  every_name (len a) = every_name a
  every_name (off j a) = every_name a
  every_name (neg a) = every_name a
  every_name (op o a b) = (every_name a, every_name b)

  all_names : (us : List Trm) → All (EachName P) us
  all_names [] = All-nil (EachName P)
  all_names (u ∷ us) = All-cons (EachName P) u us (every_name u) (all_names us)

  pub every_free : (p : Asn) → EachFree P p
  every_free emp = tt
  every_free (fact u) = every_name u
  every_free (own u w) = (every_name u, every_name w)
  every_free (shared u w) = (every_name u, every_name w)
  every_free (star p q) = (every_free p, every_free q)
  every_free (inst n us) = all_names us
  every_free (exist s p) = every_free p
  every_free (either p q) = (every_free p, every_free q)

-- what is known of the names of what is put in, of the names for which it stands
module _ (P : List ℕ → Type 0) (f : List ℕ → Trm) where
  pub names_put : (u : Trm) → EachName P (put f u) → EachName (λ x. EachName P (f x)) u
  names_put (lit v) k = tt
  names_put (free x) k = k
  names_put (bound j) k = tt
  names_put (len a) k = names_put a k
  names_put (off j a) k = names_put a k
  names_put (neg a) k = names_put a k
  names_put (op o a b) k = (names_put a k.0, names_put b k.1)

-- ---- numbers of names

max_parts : (a b n : ℕ) → max a b ≤ n → (a ≤ n) × (b ≤ n)
max_parts a b n l = (omega (arith, l), omega (arith, l))

-- no number is above the greatest one
module _ (w : List ℕ → ℕ) (n : ℕ) where
  abbrev Below : List ℕ → Type 0
  Below x = w x ≤ n

  pub names_below : (u : Trm) → greatest_in w u ≤ n → EachName (λ x. w x ≤ n) u
  names_below (lit v) l = tt
  names_below (free x) l = l
  names_below (bound j) l = tt
  names_below (len a) l = names_below a l
  names_below (off j a) l = names_below a l
  names_below (neg a) l = names_below a l
  names_below (op o a b) l = let m = max_parts (greatest_in w a) (greatest_in w b) n l in (names_below a m.0, names_below b m.1)

  all_below : (us : List Trm) → max_by (greatest_in w) us ≤ n → All (EachName Below) us
  all_below [] l = All-nil (EachName Below)
  all_below (u ∷ us) l =
      let m = max_parts (greatest_in w u) (max_by (greatest_in w) us) n l in
      All-cons (EachName Below) u us (names_below u m.0) (all_below us m.1)

  pub free_below : (p : Asn) → greatest w p ≤ n → EachFree (λ x. w x ≤ n) p
  free_below emp l = tt
  free_below (fact u) l = names_below u l
  free_below (own u v) l = let m = max_parts (greatest_in w u) (greatest_in w v) n l in (names_below u m.0, names_below v m.1)
  free_below (shared u v) l = let m = max_parts (greatest_in w u) (greatest_in w v) n l in (names_below u m.0, names_below v m.1)
  free_below (star p q) l = let m = max_parts (greatest w p) (greatest w q) n l in (free_below p m.0, free_below q m.1)
  free_below (inst q us) l = all_below us l
  free_below (exist s p) l = free_below p l
  free_below (either p q) l = let m = max_parts (greatest w p) (greatest w q) n l in (free_below p m.0, free_below q m.1)

-- no name in what stands for this name consists of more than so many zeros
abbrev pub Clean : Puts → ℕ → List ℕ → Type 0
Clean by n x = EachName (λ y. zeros y ≤ n) (trm [] [] (put_name by x))

-- so it is of the free names of an assertion, with the number that putting in takes
pub all_clean : (by : Puts) (p : Assn) → EachFree (Clean by (zeros_made by p)) (asn [] [] p)
all_clean by p =
    let n : ℕ = zeros_made by p in
    each_free_map (λ x. zeros_in (put_name by x) ≤ n) (Clean by n) (λ x l. names_below zeros n (trm [] [] (put_name by x)) l) (asn [] [] p)
    (free_below (λ x. zeros_in (put_name by x)) n (asn [] [] p) (omega arith))
