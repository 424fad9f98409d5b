-- Chains and operands: what was written in a text is printed so that it spells the same, at the same depth or a lesser one.
use Rattle.std.proofs.Common.{◌≡◌, ℕ, zero, suc, ◌+◌, ◌-◌, ◌≤◌, ◌<◌, ap, sym, ◌∙◌, refl, arith, Bool, true, false, ◌⊎◌, inl, inr, lit<, lit≤, nat_le, nat_lt, ◌==◌, ◌&&◌, if◌then◌else◌, List, ◌∷◌, Some}
use Rattle.std.proofs.lemmas.Bool.Decides.{nat_tests}
use Rattle.tht_tree.specs.declared.token.TokenKind.{TokenKind}
use Rattle.tht_tree.specs.declared.token.TokenKind.TheVariants as k
use Rattle.tht_tree.specs.Tokens.{Tok}
use Rattle.tht_tree.specs.Productions.{Rel, Operators}
use Rattle.tht_tree.specs.Layout.{Shape, word, Printed, Shown, parens, at, left, chain, starts_with_star}
use Rattle.tht_layout.proofs.Prints.{is_word, Prints, prints_by, prints_as, Few, prints_link}

-- what may follow: anything, or all but a `*`
abbrev pub Follows : Bool → List Shape → Type 0
Follows any rest = (any ≡ true) ⊎ (starts_with_star rest ≡ false)

same_rank : (r rank room : ℕ) → (r == rank) && nat_lt 0 room ≡ true → r ≡ rank
same_rank r rank room h = grind (arith, nat_tests)

some_room : (r rank room : ℕ) → (r == rank) && nat_lt 0 room ≡ true → 0 < room
some_room r rank room h = grind (arith, nat_tests)

no_room : (r rank room : ℕ) → (r == rank) && nat_lt 0 room ≡ false → r ≡ rank → room ≡ 0
no_room r rank room h same = grind (arith, nat_tests)

-- The trees of one family: how they are shown, what of them counts, and by which relation they are spelled, where so many
-- constructs are open, at a place of this rank, with at most so many operators in a chain of that rank.
module _ {A B : Type 0} (e : A → B) (shown : A → Shown) (rule : ℕ → ℕ → ℕ → Rel A) where
  -- x stands without parentheses at depth d and at those below it, where its chain has room for n operators; at a lesser
  -- depth parentheses may be put in, so that room and what follows do not matter
  pub record Fits (depth count : ℕ) (any : Bool) (x : A) : Type 0 where
    pub bare : (d room rank : ℕ) (rest : List Shape) → d ≤ depth → 0 < room → room ≤ 64 → rank ≤ (shown x).rank
        → (suc d ≤ depth ⊎ count ≤ room) → (suc d ≤ depth ⊎ Follows any rest) → Prints e (rule d rank room) ((shown x).bare room) x rest

  -- x was written at a place of this rank at this depth: bare, or in parentheses and so at a greater depth
  pub record Written (rank depth : ℕ) (any : Bool) (x : A) : Type 0 where
    pub inner : ℕ
    pub within : inner ≤ 100
    pub count : ℕ
    pub few : count ≤ 64
    pub ends : Bool
    pub fits : Fits inner count ends x
    pub stood : ((inner ≡ depth) × (rank ≤ (shown x).rank) × (ends ≡ any)) ⊎ (suc depth ≤ inner)

  -- x was written as a chain of this rank with n operators
  pub record Chained (rank depth n : ℕ) (any : Bool) (x : A) : Type 0 where
    pub inner : ℕ
    pub within : inner ≤ 100
    pub count : ℕ
    pub few : count ≤ 64
    pub ends : Bool
    pub fits : Fits inner count ends x
    pub stood : ((inner ≡ depth) × ((rank < (shown x).rank) ⊎ ((rank ≡ (shown x).rank) × (0 < count) × (count ≤ n))) × (ends ≡ any)) ⊎
        (suc depth ≤ inner)

  -- a chain is written at its rank, and what is written more tightly is a chain without operators
  pub chained_written : {rank depth n : ℕ} {any : Bool} {x : A} → Chained rank depth n any x → Written rank depth any x
  chained_written {rank = rank} {depth = depth} {n = n} {any = any} {x = x} h =
      record { inner = h.inner; within = h.within; count = h.count; few = h.few; ends = h.ends; fits = h.fits; stood = go h.stood }
    where
      tight : ((rank < (shown x).rank) ⊎ ((rank ≡ (shown x).rank) × (0 < h.count) × (h.count ≤ n))) → rank ≤ (shown x).rank
      tight (inl p) = omega arith
      tight (inr p) = omega arith

      go : ((h.inner ≡ depth) × ((rank < (shown x).rank) ⊎ ((rank ≡ (shown x).rank) × (0 < h.count) × (h.count ≤ n))) × (h.ends ≡ any)) ⊎
          (suc depth ≤ h.inner)
          → ((h.inner ≡ depth) × (rank ≤ (shown x).rank) × (h.ends ≡ any)) ⊎ (suc depth ≤ h.inner)
      go (inl p) = inl (p.0, tight p.1, p.2)
      go (inr p) = inr p

  pub written_chained : {rank depth : ℕ} {any : Bool} {x : A} → Written (suc rank) depth any x → Chained rank depth 0 any x
  written_chained {rank = rank} {depth = depth} {any = any} {x = x} h =
      record { inner = h.inner; within = h.within; count = h.count; few = h.few; ends = h.ends; fits = h.fits; stood = go h.stood }
    where
      go : ((h.inner ≡ depth) × (suc rank ≤ (shown x).rank) × (h.ends ≡ any)) ⊎ (suc depth ≤ h.inner)
          → ((h.inner ≡ depth) × ((rank < (shown x).rank) ⊎ ((rank ≡ (shown x).rank) × (0 < h.count) × (h.count ≤ 0))) × (h.ends ≡ any)) ⊎
          (suc depth ≤ h.inner)
      go (inl p) = inl (p.0, inl (omega arith), p.2)
      go (inr p) = inr p

  -- what is written one deeper in parentheses is written at any rank
  pub in_parens : {rank depth : ℕ} {any : Bool} (wanted : ℕ) (other : Bool) {x : A} → Written rank (suc depth) any x → Written wanted depth other x
  in_parens {rank = rank} {depth = depth} {any = any} wanted other {x = x} h =
      record { inner = h.inner; within = h.within; count = h.count; few = h.few; ends = h.ends; fits = h.fits; stood = inr (go h.stood) }
    where
      go : ((h.inner ≡ suc depth) × (rank ≤ (shown x).rank) × (h.ends ≡ any)) ⊎ (suc (suc depth) ≤ h.inner) → suc depth ≤ h.inner
      go (inl p) = omega arith
      go (inr p) = omega arith

  -- Parentheses: what is spelled at the least rank where one more is open, between parentheses.
  module _ (top : ℕ) (wrap : (d rank room : ℕ) (p : Printed) (x : A) (rest : List Shape) → suc d ≤ 100 → rank ≤ top
      → Prints e (rule (suc d) 0 64) p x (word k.RParen ∷ rest) → Prints e (rule d rank room) (parens p) x rest) where
    -- an operand, in parentheses where its rank wants them
    module _ (depth count : ℕ) (ends : Bool) (x : A) (fits : Fits depth count ends x) (few : count ≤ 64) (within : depth ≤ 100) where
      by_rank : (b : Bool) (d rank : ℕ) (rest : List Shape) → nat_le rank (shown x).rank ≡ b → rank ≤ top → d ≤ depth
          → (suc d ≤ depth ⊎ ((rank ≤ (shown x).rank) × Follows ends rest))
          → Prints e (rule d rank 64) (if b then (shown x).bare 64 else parens ((shown x).bare 64)) x rest
      by_rank true d rank rest tight high below fit =
          fits.bare d 64 rank rest below (lit< tt) (lit≤ tt) (grind (arith, nat_tests)) (inr few) (follow fit)
        where
          follow : (suc d ≤ depth ⊎ ((rank ≤ (shown x).rank) × Follows ends rest)) → (suc d ≤ depth ⊎ Follows ends rest)
          follow (inl p) = inl p
          follow (inr p) = inr p.1
      by_rank false d rank rest loose high below fit =
          let deep : suc d ≤ depth = deeper fit in
          wrap d rank 64 ((shown x).bare 64) x rest (omega arith) high
          (fits.bare (suc d) 64 0 (word k.RParen ∷ rest) deep (lit< tt) (lit≤ tt) (omega arith) (inr few) (inr (inr refl)))
        where
          deeper : (suc d ≤ depth ⊎ ((rank ≤ (shown x).rank) × Follows ends rest)) → suc d ≤ depth
          deeper (inl p) = p
          deeper (inr p) = let low : rank ≤ (shown x).rank = p.0 in absurd (grind (arith, nat_tests))

      pub prints_at : (d rank : ℕ) (rest : List Shape) → rank ≤ top → d ≤ depth → (suc d ≤ depth ⊎ ((rank ≤ (shown x).rank) × Follows ends rest))
          → Prints e (rule d rank 64) (at rank (shown x)) x rest
      prints_at d rank rest high below fit = by_rank (nat_le rank (shown x).rank) d rank rest refl high below fit

    -- an operand that was written at this rank or a tighter one
    pub operand : {u depth : ℕ} {any : Bool} {x : A} → Written u depth any x → (d rank : ℕ) (rest : List Shape) → rank ≤ top → d ≤ depth → rank ≤ u
        → (suc d ≤ depth ⊎ Follows any rest) → Prints e (rule d rank 64) (at rank (shown x)) x rest
    operand {u = u} {depth = depth} {any = any} {x = x} h d rank rest high below tight follow =
        prints_at h.inner h.count h.ends x h.fits h.few h.within d rank rest high (lower h.stood) (fit h.stood follow)
      where
        lower : ((h.inner ≡ depth) × (u ≤ (shown x).rank) × (h.ends ≡ any)) ⊎ (suc depth ≤ h.inner) → d ≤ h.inner
        lower (inl p) = omega arith
        lower (inr p) = omega arith

        fit : ((h.inner ≡ depth) × (u ≤ (shown x).rank) × (h.ends ≡ any)) ⊎ (suc depth ≤ h.inner) → (suc d ≤ depth ⊎ Follows any rest)
            → (suc d ≤ h.inner ⊎ ((rank ≤ (shown x).rank) × Follows h.ends rest))
        fit (inl p) (inl q) = inl (omega arith)
        fit (inl p) (inr (inl q)) = inr ((omega arith), inl (p.2 ∙ q))
        fit (inl p) (inr (inr q)) = inr ((omega arith), inr q)
        fit (inr p) q = inl (omega arith)

    -- the left operand of a chain, with room for so many more operators
    module _ (rank : ℕ) (high : rank + 1 ≤ top) (first : (d room : ℕ) (i j : List Tok) (y : A) → rule d (rank + 1) 64 i y j
        → rule d rank room i y j) where
      module _ {depth n : ℕ} {any : Bool} {x : A} (h : Chained rank depth n any x) where
        Stood : Type 0
        Stood = ((h.inner ≡ depth) × ((rank < (shown x).rank) ⊎ ((rank ≡ (shown x).rank) × (0 < h.count) × (h.count ≤ n))) × (h.ends ≡ any)) ⊎
            (suc depth ≤ h.inner)

        lower : (d : ℕ) → d ≤ depth → Stood → d ≤ h.inner
        unfolding Stood
        lower d below (inl p) = omega arith
        lower d below (inr p) = omega arith

        follow_in : (d : ℕ) (rest : List Shape) → d ≤ depth → Stood → (suc d ≤ depth ⊎ Follows any rest) → (suc d ≤ h.inner ⊎ Follows h.ends rest)
        unfolding Stood
        follow_in d rest below (inl p) (inl q) = inl (omega arith)
        follow_in d rest below (inl p) (inr (inl q)) = inr (inl (p.2 ∙ q))
        follow_in d rest below (inl p) (inr (inr q)) = inr (inr q)
        follow_in d rest below (inr p) q = inl (omega arith)

        room_in : (d room : ℕ) → d ≤ depth → (shown x).rank ≡ rank → Stood → (suc d ≤ depth ⊎ n ≤ room) → (suc d ≤ h.inner ⊎ h.count ≤ room)
        unfolding Stood
        room_in d room below same (inl (p, inl q, r)) fit = absurd (omega arith)
        room_in d room below same (inl (p, inr q, r)) (inl fit) = inl (omega arith)
        room_in d room below same (inl (p, inr q, r)) (inr fit) = inr (omega arith)
        room_in d room below same (inr p) fit = inl (omega arith)

        rank_in : (d room : ℕ) (rest : List Shape) → d ≤ depth → ((shown x).rank ≡ rank → room ≡ 0) → Stood → (suc d ≤ depth ⊎ n ≤ room)
            → (suc d ≤ depth ⊎ Follows any rest)
            → (suc d ≤ h.inner ⊎ ((rank + 1 ≤ (shown x).rank) × Follows h.ends rest))
        unfolding Stood
        rank_in d room rest below none (inl (p, inl q, r)) fit (inl f) = inl (omega arith)
        rank_in d room rest below none (inl (p, inl q, r)) fit (inr (inl f)) = inr ((omega arith), inl (r ∙ f))
        rank_in d room rest below none (inl (p, inl q, r)) fit (inr (inr f)) = inr ((omega arith), inr f)
        rank_in d room rest below none (inl (p, inr q, r)) (inl fit) f = inl (omega arith)
        rank_in d room rest below none (inl (p, inr q, r)) (inr fit) f = let zero_room : room ≡ 0 = none (sym q.0) in absurd (omega arith)
        rank_in d room rest below none (inr p) fit f = inl (omega arith)

        stands : Stood
        unfolding Stood
        stands = h.stood

        left_by : (b : Bool) (d room : ℕ) (rest : List Shape) → ((shown x).rank == rank) && nat_lt 0 room ≡ b → d ≤ depth → room ≤ 64
            → (suc d ≤ depth ⊎ n ≤ room) → (suc d ≤ depth ⊎ Follows any rest)
            → Prints e (rule d rank room) (if b then (shown x).bare room else at (rank + 1) (shown x)) x rest
        left_by true d room rest goes below few fit follow =
            let same : (shown x).rank ≡ rank = same_rank (shown x).rank rank room goes in
            let some : 0 < room = some_room (shown x).rank rank room goes in
            h.fits.bare d room rank rest (lower d below stands) some few (omega arith) (room_in d room below same stands fit)
            (follow_in d rest below stands follow)
        left_by false d room rest stops below few fit follow =
            prints_by (λ i j y. first d room i j y)
            (prints_at h.inner h.count h.ends x h.fits h.few h.within d (rank + 1) rest high (lower d below stands)
            (rank_in d room rest below (no_room (shown x).rank rank room stops) stands fit follow))

        pub prints_left : (d room : ℕ) (rest : List Shape) → d ≤ depth → room ≤ 64 → (suc d ≤ depth ⊎ n ≤ room) → (suc d ≤ depth ⊎ Follows any rest)
            → Prints e (rule d rank room) (left rank room (shown x)) x rest
        prints_left d room rest below few fit follow = left_by (((shown x).rank == rank) && nat_lt 0 room) d room rest refl below few fit follow

    -- ---- nodes, which are spelled at their rank

    module _ (lower : (u v d room : ℕ) (i j : List Tok) (y : A) → v ≤ u → u ≤ top → rule d u room i y j → rule d v room i y j) where
      module _ (x : A) (s : Shown) (is : shown x ≡ s) (high : s.rank ≤ top) (depth count : ℕ) (any : Bool)
          (spelled : (d room : ℕ) (rest : List Shape) → d ≤ depth → 0 < room → room ≤ 64 → (suc d ≤ depth ⊎ count ≤ room)
          → (suc d ≤ depth ⊎ Follows any rest)
          → Prints e (rule d s.rank room) (s.bare room) x rest) where
        rank_is : (shown x).rank ≡ s.rank
        rank_is = ap (λ (y : Shown). y.rank) is

        fits_bare : (d room rank : ℕ) (rest : List Shape) → d ≤ depth → 0 < room → room ≤ 64 → rank ≤ (shown x).rank
            → (suc d ≤ depth ⊎ count ≤ room) → (suc d ≤ depth ⊎ Follows any rest) → Prints e (rule d rank room) ((shown x).bare room) x rest
        fits_bare d room rank rest below some few tight fit follow =
            let same : (shown x).rank ≡ s.rank = rank_is in
            prints_as (λ r. ap (λ (y : Shown). y.bare room r) is)
            (prints_by (λ i j y. lower s.rank rank d room i j y (omega arith) high) (spelled d room rest below some few fit follow))

        fits_node : Fits depth count any x
        fits_node = record { bare = fits_bare }

        pub written_node : depth ≤ 100 → count ≤ 64 → Written s.rank depth any x
        written_node within few =
            let same : (shown x).rank ≡ s.rank = rank_is in
            record {
              inner = depth;
              within = within;
              count = count;
              few = few;
              ends = any;
              fits = fits_node;
              stood = inl
                  (refl, (omega arith), refl);
            }

        pub chained_node : depth ≤ 100 → count ≤ 64 → 0 < count → Chained s.rank depth count any x
        chained_node within few some =
            let same : (shown x).rank ≡ s.rank = rank_is in
            record {
              inner = depth;
              within = within;
              count = count;
              few = few;
              ends = any;
              fits = fits_node;
              stood = inl
                  (refl, inr (sym rank_is, some, (omega arith)), refl);
            }

      -- one more operator of a chain, with what is printed behind it
      pub chained_step : {C D : Type 0} (f : C → D) (I : ℕ → Rel C) (rank : ℕ) → rank + 1 ≤ top
          → ((d room : ℕ) (i j : List Tok) (y : A) → rule d (rank + 1) 64 i y j → rule d rank room i y j)
          → (op : TokenKind) (made x : A) (y : C) (behind : Printed) (depth n : ℕ) (any : Bool)
          → ((d room : ℕ) (rest : List Shape) → room < 64 → Prints e (rule d rank room) (left rank room (shown x)) x (word op ∷ behind rest)
          → Prints f (I d) behind y rest
          → Prints e (rule d rank (suc room)) (λ after. left rank room (shown x) (word op ∷ behind after)) made rest)
          → shown made ≡ chain rank (shown x) (λ rest. word op ∷ behind rest) → depth ≤ 100 → suc n ≤ 64 → Chained rank depth n true x
          → ((d : ℕ) (rest : List Shape) → d ≤ depth → (suc d ≤ depth ⊎ Follows any rest) → Prints f (I d) behind y rest)
          → Chained rank depth (suc n) any made
      chained_step f I rank high first op made x y behind depth n any step shows within few h item =
          chained_node made (chain rank (shown x) (λ rest. word op ∷ behind rest)) shows (omega arith) depth (suc n) any spelled within few
          (omega arith)
        where
          spelled : (d room : ℕ) (rest : List Shape) → d ≤ depth → 0 < room → room ≤ 64 → (suc d ≤ depth ⊎ suc n ≤ room)
              → (suc d ≤ depth ⊎ Follows any rest)
              → Prints e (rule d rank room) (λ after. left rank (room - 1) (shown x) (word op ∷ behind after)) made rest
          spelled d zero rest below some few fit follow = absurd (omega arith)
          spelled d (suc room) rest below some few fit follow =
              let less : suc room - 1 ≡ room = omega arith in
              prints_as (λ r. ap (λ (c : ℕ). left rank c (shown x) (word op ∷ behind r)) less)
              (step d room rest (omega arith) (prints_left rank high first h d room (word op ∷ behind rest) below (omega arith) (fit_in fit)
              (inr (inl refl))) (item d rest below follow))
            where
              fit_in : (suc d ≤ depth ⊎ suc n ≤ suc room) → (suc d ≤ depth ⊎ n ≤ room)
              fit_in (inl p) = inl p
              fit_in (inr p) = inr (omega arith)

      -- a chain of this rank, whose items are of C
      module _ {C D : Type 0} (f : C → D) (joins : Operators A C) (F : ℕ → Rel A) (I : ℕ → Rel C) (rank : ℕ) (high : rank + 1 ≤ top)
          (first : (d room : ℕ) (i j : List Tok) (y : A) → rule d (rank + 1) 64 i y j → rule d rank room i y j)
          (into : (d room : ℕ) (i j : List Tok) (y : A) → Few room joins (F d) (I d) i y j → rule d rank room i y j)
          (out : (d room : ℕ) (i j : List Tok) (y : A) → rule d rank room i y j → Few room joins (F d) (I d) i y j) where
        -- one more operator, with what is printed behind it
        pub chained_link : (op : TokenKind) (node : A → C → A) (x : A) (y : C) (behind : Printed) (depth n : ℕ) (any : Bool)
            → is_word op ≡ true → joins (Some op) ≡ Some node
            → ((x' : A) (y' : C) → e x' ≡ e x → f y' ≡ f y → e (node x' y') ≡ e (node x y))
            → shown (node x y) ≡ chain rank (shown x) (λ rest. word op ∷ behind rest)
            → depth ≤ 100 → suc n ≤ 64 → Chained rank depth n true x
            → ((d : ℕ) (rest : List Shape) → d ≤ depth → (suc d ≤ depth ⊎ Follows any rest) → Prints f (I d) behind y rest)
            → Chained rank depth (suc n) any (node x y)
        chained_link op node x y behind depth n any w is same shows within few h item =
            chained_step f I rank high first op (node x y) x y behind depth n any
            (λ d room rest room_left h' g. prints_by (into d (suc room))
            (prints_link room op node room_left w is same (prints_by (out d room) h') g)) shows within few h item
