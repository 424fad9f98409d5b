-- What is printed of an assertion spells it, at any place where the assertion was written.
use Rattle.std.proofs.Common.{◌≡◌, ℕ, zero, suc, ◌-◌, ◌≤◌, ◌<◌, ap, sym, subst, ◌∙◌, refl, arith, Bool, true, false, ◌⊎◌, inl, inr, nat_lt, ◌==◌, ◌&&◌, List, [], ◌∷◌, ◌++◌, Some, lit≤, lit<}
use Rattle.std.proofs.lemmas.Bool.Decides.{nat_tests}
use Rattle.tht_tree.specs.declared.plain.Sort.{Sort}
use Rattle.tht_tree.specs.declared.token.TokenKind.{TokenKind}
use Rattle.tht_tree.specs.declared.token.TokenKind.TheVariants as k
use Rattle.tht_tree.specs.declared.term.Term.{Term}
use Rattle.tht_tree.specs.declared.term.Term.TheVariants as t
use Rattle.tht_tree.specs.declared.assn.Assn.{Assn}
use Rattle.tht_tree.specs.declared.assn.Assn.TheVariants as a
use Rattle.tht_tree.specs.Tokens.{Info, Tok, tok}
use Rattle.tht_tree.specs.Productions.{Rel, word as a_word, ◌▸◌, named, Part, part, Gives, gives, sorted, Chain, chain_first, chain_more}
use Rattle.tht_tree.specs.Grammar as g
use Rattle.tht_tree.specs.Grammar.{Nested, Tree, a_term, an_assn, after_either, AprForm, apr_emp, apr_fact, apr_paren, apr_own, apr_shared, apr_inst, apr_exists, apr_either, PlaceForm, place_name, place_null, stars, dots, goes_on, an_offset}
use Rattle.tht_tree.specs.Layout.{Shape, word, name, number, Printed, Shown, single, at, left, term, off, arguments, brackets, sorted as with_sort, exists, before_star, starts_with_star, shown_term, shown_assn, box, assn}
use Rattle.tht_layout.proofs.Prints.{IsName, is_word, Prints, prints_by, prints_as, prints_word, prints_name, prints_sort, prints_part, prints_gives, Few, prints_link}
use Rattle.tht_layout.proofs.Printing as show
use Rattle.tht_layout.proofs.Written.{Follows, Written, Chained, chained_written, written_chained, in_parens, operand, written_node, chained_link}
use Rattle.tht_layout.proofs.Good.{AllGood, Told, room_is}
use Rattle.tht_layout.proofs.TermRules.{inner_at, prints_inside, whole}
use Rattle.tht_layout.proofs.Terms.{by_gives, some_same, TermAt, TermsInside, prints_off, prints_offset, dots_only, offset_told, off_told, open_within, terms_inside, never_spells}
use Rattle.tht_layout.proofs.Lists.{prints_inner, arguments_told, prints_arguments}
use Rattle.tht_layout.proofs.AssnRules.{entire, rule, lower, wrap, prints_in}

star_stays : (rest more : List Shape) → starts_with_star more ≡ false → starts_with_star (rest ++ more) ≡ starts_with_star rest
star_stays [] more s = s
star_stays (word q ∷ rest) more s = refl
star_stays (name x ∷ rest) more s = refl
star_stays (number n ∷ rest) more s = refl

gives_ends : {A : Type 0} {a : A} {i j : List Tok} {x : A} → Gives a i x j → goes_on i ≡ false → goes_on j ≡ false
gives_ends gives h = h

stars_only : (P : TokenKind → (Assn → Assn → Assn) → Type 0) → P k.Star a.Star → (q : TokenKind) (node : Assn → Assn → Assn)
    → stars (Some q) ≡ Some node → P q node
stars_only P h k.Star node e = subst (P k.Star) (some_same e) h
stars_only P h _ node e = cc

-- an assertion that was written at a place of this rank, where a `*` comes next or not
abbrev pub AssnAt : ℕ → ℕ → Bool → Assn → Type 0
AssnAt rank depth any x = Written entire shown_assn rule rank depth any x

abbrev pub AssnChain : ℕ → ℕ → ℕ → Bool → Assn → Type 0
AssnChain rank depth n any x = Chained entire shown_assn rule rank depth n any x

pub assn_open : (rank depth : ℕ) (any : Bool) (x : Assn) → AssnAt rank depth any x → depth ≤ 100
assn_open rank depth any x h = go h.stood
  where
    go : ((h.inner ≡ depth) × (rank ≤ (shown_assn x).rank) × (h.ends ≡ any)) ⊎ (suc depth ≤ h.inner) → depth ≤ 100
    go (inl p) = let fits : h.inner ≤ 100 = h.within in omega arith
    go (inr p) = let fits : h.inner ≤ 100 = h.within in omega arith

pub prints_assn : {rank depth : ℕ} {any : Bool} {x : Assn} → AssnAt rank depth any x → (d less : ℕ) (rest : List Shape) → less ≤ 1 → d ≤ depth
    → less ≤ rank
    → (suc d ≤ depth ⊎ Follows any rest) → Prints entire (rule d less 64) (at less (shown_assn x)) x rest
prints_assn h d less rest high below le follow = operand entire shown_assn rule 1 wrap h d less rest high below le follow

pub record AssnsInside (e : ℕ) (I : (n : Nested) → Rel (Tree n)) : Type 0 where
  pub assn : (i j : List Tok) (x : Assn) → AllGood i → I an_assn i x j → Told (AssnAt 0 (suc e) false x × (goes_on j ≡ false)) j
  pub apr : (i j : List Tok) (x : Assn) → AllGood i → I after_either i x j → Told (AssnAt 1 (suc e) (goes_on j) x) j

-- ---- places: at most 64 offsets, without parentheses

-- a place with n offsets, which are printed bare where there is room for them
record PlaceOf (n : ℕ) (x : Term) : Type 0 where
  prints : (d room : ℕ) (rest : List Shape) → n ≤ room → room ≤ 64 → Prints whole (Few room dots (g.place_start (inner_at d)) g.Offset)
      (left 8 room (shown_term x)) x rest
  stands : (rest : List Shape) → at 8 (shown_term x) rest ≡ left 8 64 (shown_term x) rest

goes_left : (room : ℕ) (bare : ℕ → Printed) (rest : List Shape) → 0 < room → left 8 room (record { rank = 8; bare = bare }) rest ≡ bare room rest
goes_left room bare rest some = let test : (8 == 8) && nat_lt 0 room ≡ true = grind (arith, nat_tests) in rw test

start_place : (x : Term) (y : Shape) → shown_term x ≡ single 9 (λ rest. y ∷ rest)
    → ((d : ℕ) (rest : List Shape) → Prints whole (g.place_start (inner_at d)) (λ after. y ∷ after) x rest) → PlaceOf 0 x
start_place x y is h =
    record {
      prints = λ d room rest few most. prints_as (λ r. ap (λ (s : Shown). left 8 room s r) is)
          (prints_by (λ i j z r. (0, (omega arith), chain_first r)) (h d rest));
      stands = λ rest. rw is;
    }

longer_place : (n : ℕ) (x : Term) (y : ℕ) → y ≤ 7 → PlaceOf n x → PlaceOf (suc n) (t.Offset x y)
longer_place n x y small h = record {
  prints = prints_more;
  stands = λ rest. rw (show.shown_Offset x y)
      (sym (goes_left 64 (behind 64) rest (lit< tt)));
}
  where
    behind : ℕ → ℕ → Printed
    behind most room rest = left 8 (room - 1) (shown_term x) (word k.Dot ∷ number y ∷ rest)

    prints_more : (d room : ℕ) (rest : List Shape) → suc n ≤ room → room ≤ 64
        → Prints whole (Few room dots (g.place_start (inner_at d)) g.Offset) (left 8 room (shown_term (t.Offset x y))) (t.Offset x y) rest
    prints_more d zero rest few most = absurd (omega arith)
    prints_more d (suc room) rest few most =
        let less : suc room - 1 ≡ room = omega arith in
        prints_as (λ r. ap (λ (s : Shown). left 8 (suc room) s r) (show.shown_Offset x y) ∙ (goes_left (suc room) (behind 64) r (omega arith)
        ∙ ap (λ (c : ℕ). left 8 c (shown_term x) (word k.Dot ∷ number y ∷ r)) less))
        (prints_link room k.Dot t.Offset (omega arith) refl refl (λ x' y' p r. cc)
        (h.prints d room (word k.Dot ∷ number y ∷ rest) (omega arith) (omega arith))
        (prints_offset y rest small))

module _ (e : ℕ) (within : e ≤ 100) (I : (n : Nested) → Rel (Tree n)) (terms_in : TermsInside e I)
    (never : (j : List Tok) (x : Term) → I a_term [] x j → ⊥)
    (inside : AssnsInside e I) where
  -- a node that is no chain
  node : (x : Assn) (p : Printed) → shown_assn x ≡ single 1 p → (any : Bool)
      → ((d : ℕ) (rest : List Shape) → d ≤ e → (suc d ≤ e ⊎ Follows any rest) → Prints entire (g.apr (inner_at d)) p x rest) → AssnAt 1 e any x
  node x p is any h =
      written_node entire shown_assn rule 1 wrap lower x (single 1 p) is (lit≤ tt) e 0 any
      (λ d room rest below some few fit follow. h d rest below follow) within (omega arith)

  free : (x : Assn) (p : Printed) → shown_assn x ≡ single 1 p → (any : Bool)
      → ((d : ℕ) (rest : List Shape) → d ≤ e → Prints entire (g.apr (inner_at d)) p x rest)
      → AssnAt 1 e any x
  free x p is any h = node x p is any (λ d rest below follow. h d rest below)

  place_start_told : (f : PlaceForm) (i j : List Tok) (x : Term) → AllGood i → g.place_form I f i x j → Told (PlaceOf 0 x) j
  place_start_told place_name _ j _ good (named {w = w} gives) =
      record {
        it = start_place (t.Var w.text) (name w.text) (show.shown_Var w.text)
            (λ d rest. prints_by (λ i l z r. (place_name, r)) (prints_name w.text (good.0.is_name refl) (prints_gives refl)));
        rest = good.1;
      }
  place_start_told place_null _ j _ good (a_word gives) =
      record {
        it = start_place t.Null (word k.Null) show.shown_Null (λ d rest. prints_by (λ i l z r. (place_null, r))
            (prints_word k.Null refl (prints_gives refl)));
        rest = good.1;
      }

  places_told : {n : ℕ} {i j : List Tok} {x : Term} → AllGood i → Chain dots (g.place_start I) g.Offset n i x j → Told ((n ≤ 64) × PlaceOf n x) j
  places_told good (chain_first h) = let u = place_start_told h.0 _ _ _ good h.1 in record { it = ((lit≤ tt), u.it); rest = u.rest }
  places_told good (chain_more {n = n} {q = q} {w = w} {x = x} {y = y} {node = made} h is room r) =
      let u = places_told good h in
      let few : n < 64 = room_is (tok q w) u.rest.0 room in
      let v = offset_told e within I terms_in _ _ _ u.rest.1 r in
      record { it = ((omega arith), dots_only (λ op m. PlaceOf (suc n) (m x y)) (longer_place n x y v.it u.it.1) q made is); rest = v.rest }

  -- a place, as it is printed
  place_told : (i j : List Tok) (x : Term) → AllGood i → g.place I i x j
      → Told ((d : ℕ) (rest : List Shape) → Prints whole (g.place (inner_at d)) (off x) x rest) j
  place_told i j x good h =
      let u = places_told good h.1 in
      record {
        it = λ d rest. prints_as u.it.1.stands (prints_by (λ i l z r. (r.0, r.2)) (u.it.1.prints d 64 rest u.it.0 (lit≤ tt)));
        rest = u.rest;
      }

  cell_made : (arrow : TokenKind) (made : Term → Term → Assn) → is_word arrow ≡ true → (x y : Term)
      → ((d : ℕ) (rest : List Shape) → Prints whole (g.place (inner_at d)) (off x) x rest) → TermAt 8 e y
      → shown_assn (made x y) ≡ single 1 (λ rest. off x (word arrow ∷ off y rest))
      → ((d : ℕ) (i l : List Tok) (m : Assn) → Part (g.place (inner_at d))
      (λ x'. arrow ▸ Part (g.off (inner_at d)) (λ y'. Gives (made x' y'))) i m l → g.apr (inner_at d) i m l)
      → ((x' y' : Term) → x' ≡ x → y' ≡ y → made x' y' ≡ made x y) → (any : Bool) → AssnAt 1 e any (made x y)
  cell_made arrow made w x y place h shows into same any =
      free (made x y) (λ rest. off x (word arrow ∷ off y rest)) shows any
      (λ d rest below. prints_by (into d)
      (prints_part (place d (word arrow ∷ off y rest)) (λ x' p. prints_word arrow w
      (prints_part (prints_off y h d rest below) (λ y' q. prints_gives (same x' y' p q))))))

  -- without parentheses around it, where no `*` comes next
  quantified : List ℕ → Sort → Assn → Printed
  quantified x z y rest = word k.Exists ∷ with_sort x z (word k.Dot ∷ at 0 (shown_assn y) rest)

  prints_quantified : (x : List ℕ) (z : Sort) (y : Assn) → IsName x → AssnAt 0 (suc e) false y → (d : ℕ) (rest : List Shape) → d ≤ e
      → starts_with_star rest ≡ false
      → Prints entire (g.apr (inner_at d)) (quantified x z y) (a.Exists x z y) rest
  unfolding quantified
  prints_quantified x z y ok h d rest below no_star =
      let few : suc e ≤ 100 = assn_open 0 (suc e) false y h in
      prints_by (λ i l m s. (apr_exists, s))
      (prints_word k.Exists refl (prints_name x ok (prints_word k.Colon refl (prints_sort z (prints_word k.Dot refl
      (prints_part (prints_in d (at 0 (shown_assn y)) y rest (omega arith) no_star
      (prints_assn h (suc d) 0 rest (lit≤ tt) (omega arith) (lit≤ tt) (inr (inr no_star))))
      (λ m same. prints_gives (ap (a.Exists x z) same))))))))

  as_exists : (x : List ℕ) (z : Sort) (y : Assn) {R : Rel Assn} {tree : Assn} (rest : List Shape)
      → Prints entire R (λ after. before_star (starts_with_star rest) (quantified x z y) after) tree rest
      → Prints entire R (exists x z (shown_assn y)) tree rest
  unfolding quantified
  as_exists x z y rest h =
      record {
        proper = h.proper;
        extends = λ more s. ap (λ (b : Bool). before_star b (quantified x z y) (rest ++ more)) (star_stays rest more s) ∙ h.extends more s;
        spells = h.spells;
      }

  exists_made : (x : List ℕ) (z : Sort) (y : Assn) → IsName x → AssnAt 0 (suc e) false y → (any : Bool) → any ≡ false
      → AssnAt 1 e any (a.Exists x z y)
  unfolding quantified
  exists_made x z y ok h any ends = node (a.Exists x z y) (exists x z (shown_assn y)) (show.shown_Exists x z y) any
      (λ d rest below follow. as_exists x z y rest (by_next (starts_with_star rest) d rest refl below follow))
    where
      by_next : (b : Bool) (d : ℕ) (rest : List Shape) → starts_with_star rest ≡ b → d ≤ e → (suc d ≤ e ⊎ Follows any rest)
          → Prints entire (g.apr (inner_at d)) (λ after. before_star b (quantified x z y) after) (a.Exists x z y) rest
      by_next false d rest next below follow = prints_quantified x z y ok h d rest below next
      by_next true d rest next below (inl deep) =
          wrap d 1 64 (quantified x z y) (a.Exists x z y) rest (omega arith) (lit≤ tt)
          (prints_by (λ i l m s. lower 1 0 (suc d) 64 i l m (lit≤ tt) (lit≤ tt) s)
          (prints_quantified x z y ok h (suc d) (word k.RParen ∷ rest) deep refl))
      by_next true d rest next below (inr (inl p)) = cc
      by_next true d rest next below (inr (inr p)) = cc

  apr_told : (f : AprForm) (i j : List Tok) (x : Assn) → AllGood i → g.apr_form I f i x j → Told (AssnAt 1 e (goes_on j) x) j
  apr_told apr_emp _ j _ good (a_word gives) =
      record {
        it = free a.Emp (λ rest. word k.Emp ∷ rest) show.shown_Emp (goes_on j)
            (λ d rest below. prints_by (λ i l y r. (apr_emp, r)) (prints_word k.Emp refl (prints_gives refl)));
        rest = good.1;
      }
  apr_told apr_fact _ j x good (a_word (part {x = y} h (a_word r))) =
      let u = terms_in.term _ _ _ good.1 h in
      by_gives (λ z l. Told (AssnAt 1 e (goes_on l) z) l) r
      (record {
        it = free (a.Fact y) (brackets (term y)) (show.shown_Fact y) _
            (λ d rest below. prints_by (λ i l z s. (apr_fact, s))
            (prints_word k.LBracket refl (prints_part (prints_inner y u.it d (word k.RBracket ∷ rest) below)
            (λ z same. prints_word k.RBracket refl (prints_gives (ap a.Fact same))))));
        rest = u.rest.1;
      })
  apr_told apr_paren _ j x good (a_word (part h (a_word gives))) =
      let u = inside.assn _ _ _ good.1 h in record { it = in_parens entire shown_assn rule 1 (goes_on j) u.it.0; rest = u.rest.1 }
  apr_told apr_own _ j x good (part {x = y} h (a_word (part {x = z} h' r))) =
      let u = place_told _ _ _ good h in
      let v = off_told e within I terms_in _ _ _ u.rest.1 h' in
      by_gives (λ m l. Told (AssnAt 1 e (goes_on l) m) l) r
      (record {
        it = cell_made k.Arrow a.Own refl y z u.it v.it (show.shown_Own y z) (λ d i l m s. (apr_own, s))
            (λ y' z' p q. cc) _;
        rest = v.rest;
      })
  apr_told apr_shared _ j x good (part {x = y} h (a_word (part {x = z} h' r))) =
      let u = place_told _ _ _ good h in
      let v = off_told e within I terms_in _ _ _ u.rest.1 h' in
      by_gives (λ m l. Told (AssnAt 1 e (goes_on l) m) l) r
      (record {
        it = cell_made k.FatArrow a.Shared refl y z u.it v.it (show.shown_Shared y z) (λ d i l m s. (apr_shared, s))
            (λ y' z' p q. cc) _;
        rest = v.rest;
      })
  apr_told apr_inst _ j x good (named {w = w} (part {x = ts} h r)) =
      let u = arguments_told e I terms_in never _ _ _ good.1 h in
      by_gives (λ z l. Told (AssnAt 1 e (goes_on l) z) l) r
      (record {
        it = free (a.Inst w.text ts) (λ rest. name w.text ∷ arguments ts rest) (show.shown_Inst w.text ts) _
            (λ d rest below. prints_by (λ i l z s. (apr_inst, s))
            (prints_name w.text (good.0.is_name refl) (prints_part (prints_arguments ts u.it d rest below)
            (λ z same. prints_gives (ap (a.Inst w.text) same)))));
        rest = u.rest;
      })
  apr_told apr_exists _ j x good (a_word (named {w = w} (a_word (sorted {q = q} {z = z} is (a_word (part {x = y} h r)))))) =
      let u = inside.assn _ _ _ good.1.1.1.1.1 h in
      by_gives (λ m l. (goes_on l ≡ false) → Told (AssnAt 1 e (goes_on l) m) l) r
      (λ ends. record { it = exists_made w.text z y (good.1.0.is_name refl) u.it.0 _ ends; rest = u.rest }) (gives_ends r u.it.1)
  apr_told apr_either _ j x good (a_word (part {x = y} h (a_word (part {x = z} h' r)))) =
      let u = inside.apr _ _ _ good.1 h in
      let v = inside.apr _ _ _ u.rest.1 h' in
      let few : suc e ≤ 100 = assn_open 1 (suc e) _ y u.it in
      by_gives (λ m l. Told (AssnAt 1 e (goes_on l) m) l) r
      (record {
        it = node (a.Either y z) (λ rest. word k.Either ∷ at 1 (shown_assn y) (word k.Or ∷ at 1 (shown_assn z) rest)) (show.shown_Either y z) _
            (λ d rest below follow. prints_by (λ i l m s. (apr_either, s))
            (prints_word k.Either refl
            (prints_part (prints_inside after_either d (omega arith)
            (prints_assn u.it (suc d) 1 (word k.Or ∷ at 1 (shown_assn z) rest) (lit≤ tt) (omega arith) (lit≤ tt) (inr (inr refl))))
            (λ m same. prints_word k.Or refl
            (prints_part (prints_inside after_either d (omega arith)
            (prints_assn v.it (suc d) 1 rest (lit≤ tt) (omega arith) (lit≤ tt) (deeper d rest follow)))
            (λ m' same'. prints_gives (both same same')))))));
        rest = v.rest;
      })
    where
      deeper : {any : Bool} (d : ℕ) (rest : List Shape) → (suc d ≤ e ⊎ Follows any rest) → (suc (suc d) ≤ suc e ⊎ Follows any rest)
      deeper d rest (inl p) = inl (omega arith)
      deeper d rest (inr p) = inr p

      both : {y y' z z' : Assn} → y' ≡ y → z' ≡ z → a.Either y' z' ≡ a.Either y z
      both p q = cc

  aprs_told : (i j : List Tok) (x : Assn) → AllGood i → g.apr I i x j → Told (AssnAt 1 e (goes_on j) x) j
  aprs_told i j x good h = apr_told h.0 i j x good h.1

  star_link : (w : Info) (j l : List Tok) (q : TokenKind) (made : Assn → Assn → Assn) → stars (Some q) ≡ Some made → (x y : Assn) (n : ℕ)
      → suc n ≤ 64
      → AssnChain 0 e n (goes_on (tok q w ∷ j)) x → AssnAt 1 e (goes_on l) y → AssnChain 0 e (suc n) (goes_on l) (made x y)
  star_link w j l q made is x y n few h v =
      stars_only (λ op m. AssnChain 0 e n (goes_on (tok op w ∷ j)) x → AssnChain 0 e (suc n) (goes_on l) (m x y))
      (λ left_part. chained_link entire shown_assn rule 1 wrap lower entire stars (λ d. g.apr (inner_at d)) (λ d. g.apr (inner_at d)) 0 (lit≤ tt)
      (λ d room i m z r. lower 1 0 d room i m z (lit≤ tt) (lit≤ tt) r) (λ d room i m z r. r) (λ d room i m z r. r)
      k.Star a.Star x y (at 1 (shown_assn y)) e n (goes_on l) refl refl (λ x' y' p r. cc) (show.shown_Star x y) within few left_part
      (λ d rest below follow. prints_assn v d 1 rest (lit≤ tt) below (lit≤ tt) follow))
      q made is h

  stars_told : {n : ℕ} {i j : List Tok} {x : Assn} → AllGood i → Chain stars (g.apr I) (g.apr I) n i x j
      → Told ((n ≤ 64) × AssnChain 0 e n (goes_on j) x) j
  stars_told good (chain_first h) =
      let u = aprs_told _ _ _ good h in record { it = ((lit≤ tt), written_chained entire shown_assn rule u.it); rest = u.rest }
  stars_told good (chain_more {n = n} {q = q} {w = w} {j = j} {l = l} {x = x} {y = y} {node = made} h is room r) =
      let u = stars_told good h in
      let few : n < 64 = room_is (tok q w) u.rest.0 room in
      let v = aprs_told _ _ _ u.rest.1 r in
      record { it = ((omega arith), star_link w j l q made is x y n (omega arith) u.it.1 v.it); rest = v.rest }

  assn_told : (i j : List Tok) (x : Assn) → AllGood i → g.assn I i x j → Told (AssnAt 0 e false x × (goes_on j ≡ false)) j
  assn_told i j x good h =
      let u = stars_told good h.0.1 in
      record { it = (subst (λ (b : Bool). AssnAt 0 e b x) h.1 (chained_written entire shown_assn rule u.it.1), h.1); rest = u.rest }

-- ---- at every depth

pub assns_inside : (more d : ℕ) → AssnsInside d (g.spells more d)
assns_inside zero d = record { assn = λ i j x good h. absurd h; apr = λ i j x good h. absurd h }
assns_inside (suc more) d =
    let I : (n : Nested) → Rel (Tree n) = g.spells more (suc d) in
    let in_terms : TermsInside (suc d) I = terms_inside more (suc d) in
    let below : AssnsInside (suc d) I = assns_inside more (suc d) in
    let never : (j : List Tok) (x : Term) → I a_term [] x j → ⊥ = λ j x h. never_spells more (suc d) a_term j x h in
    record {
      assn = λ i j x good h. assn_told (suc d) (open_within an_assn (suc d) I i j x good h.0 h.1) I in_terms never below i j x good h.1;
      apr = λ i j x good h. aprs_told (suc d) (open_within after_either (suc d) I i j x good h.0 h.1) I in_terms never below i j x good h.1;
    }

-- an assertion in braces
module _ (e : ℕ) (I : (n : Nested) → Rel (Tree n)) (inside : AssnsInside e I) where
  pub box_told : (i j : List Tok) (x : Assn) → AllGood i → g.box I i x j → Told (AssnAt 0 (suc e) false x) j
  box_told _ j _ good (a_word (part h (a_word gives))) = let u = inside.assn _ _ _ good.1 h in record { it = u.it.0; rest = u.rest.1 }

-- an assertion inside, where no `*` comes next
pub prints_inner_assn : {e : ℕ} (x : Assn) → AssnAt 0 (suc e) false x → (d : ℕ) (rest : List Shape) → d ≤ e → starts_with_star rest ≡ false
    → Prints entire (inner_at d an_assn) (assn x) x rest
prints_inner_assn {e = e} x h d rest below no_star =
    let few : suc e ≤ 100 = assn_open 0 (suc e) false x h in
    prints_in d (assn x) x rest (omega arith) no_star (prints_assn h (suc d) 0 rest (lit≤ tt) (omega arith) (lit≤ tt) (inr (inr no_star)))

pub prints_box : {e : ℕ} (x : Assn) → AssnAt 0 (suc e) false x → (d : ℕ) (rest : List Shape) → d ≤ e
    → Prints entire (g.box (inner_at d)) (box x) x rest
prints_box x h d rest below =
    prints_word k.LBrace refl (prints_part (prints_inner_assn x h d (word k.RBrace ∷ rest) below refl)
    (λ z same. prints_word k.RBrace refl (prints_gives same)))
