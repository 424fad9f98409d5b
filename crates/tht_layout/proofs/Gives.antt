-- What is printed of a give spells it, but for its spots.
use Rattle.std.proofs.Common.{◌≡◌, ℕ, zero, suc, ◌≤◌, ◌<◌, ap, sym, subst, ◌∙◌, refl, arith, true, ◌⊎◌, inl, inr, List, [], ◌∷◌, Some, lit≤}
use Rattle.tht_tree.specs.declared.plain.Spot.{Spot}
use Rattle.tht_tree.specs.declared.token.TokenKind.{TokenKind}
use Rattle.tht_tree.specs.declared.token.TokenKind.TheVariants as k
use Rattle.tht_tree.specs.declared.give.Give.{Give, roll-Give}
use Rattle.tht_tree.specs.declared.give.GiveKind.{GiveKind}
use Rattle.tht_tree.specs.declared.give.GiveKind.TheVariants as v
use Rattle.tht_tree.specs.WithoutSpots.{no_spot, bare_give, bare_give_kind}
use Rattle.tht_tree.specs.Tokens.{Tok, tok}
use Rattle.tht_tree.specs.Productions.{Rel, word as a_word, numbered, Part, part, Gives, gives, Spotted, spotted, Chain, chain_first, chain_more}
use Rattle.tht_tree.specs.Grammar as g
use Rattle.tht_tree.specs.Grammar.{Nested, Tree, a_term, a_give, after_prefix, bare as alone, in_parens, GiveForm, give_emp, give_atom, give_fact, give_ex, give_left, give_right, give_fold, joins, joint}
use Rattle.tht_tree.specs.Layout.{Shape, word, number, Printed, single, parens, at, left, term, brackets, proof, shown_give, give}
use Rattle.tht_grammar.proofs.Beginnings.{spells_some, part_begins, forms_begin, give_form_begins, gpr_begins}
use Rattle.tht_layout.proofs.Prints.{Prints, Put, Shows, shows_word, prints_by, prints_word, prints_number, prints_part, prints_gives, prints_spotted, Few}
use Rattle.tht_layout.proofs.Printing as show
use Rattle.tht_layout.proofs.Printing.{give_kind, give_is}
use Rattle.tht_layout.proofs.Spotless as spotless
use Rattle.tht_layout.proofs.Good.{AllGood, Told, room_is}
use Rattle.tht_layout.proofs.TermRules.{inner_at, prints_inside}
use Rattle.tht_layout.proofs.Terms.{by_gives, some_same, TermsInside, terms_inside, open_within}
use Rattle.tht_layout.proofs.Lists.{prints_inner}
use Rattle.tht_layout.proofs.Proofs.{ProofsInside, proofs_inside, prints_proof}
use Rattle.tht_layout.proofs.Written as written
use Rattle.tht_layout.proofs.Written.{Written, Chained, chained_written, written_chained, operand, written_node, chained_step}

-- ---- the rules by their ranks

-- 0 for chains of `*`, 1 for all else
abbrev pub rule : ℕ → ℕ → ℕ → Rel Give
rule d zero room = Spotted (λ spot. Few room (joins spot) (g.gpr (inner_at d)) (g.gpr (inner_at d)))
rule d _ room = g.gpr (inner_at d)

one_alone : (d room : ℕ) (i j : List Tok) (x : Give) → g.gpr (inner_at d) i x j → rule d 0 room i x j
one_alone d room [] j x h = absurd (spells_some (gpr_begins (inner_at d)) refl j x h)
one_alone d room (tok q w ∷ i) j x h = spotted (0, (omega arith), chain_first h)

lower : (u v d room : ℕ) (i j : List Tok) (x : Give) → v ≤ u → u ≤ 1 → rule d u room i x j → rule d v room i x j
lower zero zero d room i j x below high h = h
lower zero (suc v) d room i j x below high h = absurd (omega arith)
lower (suc u) zero d room i j x below high h = one_alone d room i j x h
lower (suc u) (suc v) d room i j x below high h = h

chain_whole : (d : ℕ) (i j : List Tok) (x : Give) → rule d 0 64 i x j → g.give (inner_at d) i x j
chain_whole d _ j x (spotted h) = spotted (h.0, h.2)

wrap : (d rank room : ℕ) (p : Printed) (x : Give) (rest : List Shape) → suc d ≤ 100 → rank ≤ 1
    → Prints bare_give (rule (suc d) 0 64) p x (word k.RParen ∷ rest) → Prints bare_give (rule d rank room) (parens p) x rest
wrap d rank room p x rest few high h =
    prints_by (λ i j y r. lower 1 rank d room i j y high (lit≤ tt) (in_parens, r))
    (prints_word k.LParen refl (prints_part (prints_inside a_give d few (prints_by (chain_whole (suc d)) h))
    (λ z same. prints_word k.RParen refl (prints_gives same))))

-- ---- stars

same_star : (s spot : Spot) (x' y' x y : Give) → bare_give x' ≡ bare_give x → bare_give y' ≡ bare_give y
    → bare_give (joint s x' y') ≡ bare_give (joint spot x y)
same_star s spot x' y' x y p q =
    let kinds : bare_give_kind (v.Star x' y') ≡ bare_give_kind (v.Star x y) = cc (spotless.bare_give_Star x' y', spotless.bare_give_Star x y) in
    spotless.bare_give_is s (v.Star x' y') ∙ (ap (λ (z : GiveKind). roll-Give (record { spot = no_spot; kind = z })) kinds
    ∙ sym (spotless.bare_give_is spot (v.Star x y)))

prints_star : (d room : ℕ) (spot : Spot) (p q : Printed) (x y : Give) (rest : List Shape) → room < 64
    → Prints bare_give (rule d 0 room) p x (word k.Star ∷ q rest) → Prints bare_give (g.gpr (inner_at d)) q y rest
    → Prints bare_give (rule d 0 (suc room)) (λ after. p (word k.Star ∷ q after)) (joint spot x y) rest
prints_star d room spot p q x y rest few h g =
    record {
      proper = λ ok. h.proper (refl, g.proper ok);
      extends = λ more s. ap (λ (xs : List Shape). p (word k.Star ∷ xs)) (g.extends more s)
          ∙ h.extends more s;
      spells = go;
    }
  where
    last : (ts ls : List Tok) (z : Give) → bare_give z ≡ bare_give x → rule d 0 room ts z ls → Shows ls (word k.Star ∷ q rest)
        → Put bare_give (rule d 0 (suc room)) (joint spot x y) rest ts
    last _ _ z one (spotted {w = w} chain) (shows_word {w = info} {ts = ls} m s) =
        let u = g.spells ls s in
        record {
          left = u.left;
          shown = u.shown;
          value = joint w.spot z u.value;
          same = same_star w.spot spot z u.value x y one u.same;
          spelled = spotted (suc chain.0, (omega arith), chain_more chain.2 refl (λ _. omega arith) u.spelled);
        }

    go : (ts : List Tok) → Shows ts (p (word k.Star ∷ q rest)) → Put bare_give (rule d 0 (suc room)) (joint spot x y) rest ts
    go ts s = let u = h.spells ts s in last ts u.left u.value u.same u.spelled u.shown

-- ---- what was written

abbrev pub GiveAt : ℕ → ℕ → Give → Type 0
GiveAt rank depth x = Written bare_give shown_give rule rank depth true x

abbrev GiveChain : ℕ → ℕ → ℕ → Give → Type 0
GiveChain rank depth n x = Chained bare_give shown_give rule rank depth n true x

pub give_open : (rank depth : ℕ) (x : Give) → GiveAt rank depth x → depth ≤ 100
give_open rank depth x h = go h.stood
  where
    go : ((h.inner ≡ depth) × (rank ≤ (shown_give x).rank) × (h.ends ≡ true)) ⊎ (suc depth ≤ h.inner) → depth ≤ 100
    go (inl p) = let fits : h.inner ≤ 100 = h.within in omega arith
    go (inr p) = let fits : h.inner ≤ 100 = h.within in omega arith

prints_at_rank : {rank depth : ℕ} {x : Give} → GiveAt rank depth x → (d less : ℕ) (rest : List Shape) → less ≤ 1 → d ≤ depth → less ≤ rank
    → Prints bare_give (rule d less 64) (at less (shown_give x)) x rest
prints_at_rank h d less rest high below le = operand bare_give shown_give rule 1 wrap h d less rest high below le (inr (inl refl))

pub prints_give : {A B : Type 0} {f : A → B} {R : Give → Rel A} {p : Printed} {x : A} {rest : List Shape} {e : ℕ} (y : Give) → GiveAt 0 (suc e) y
    → (d : ℕ) → d ≤ e
    → ((z : Give) → bare_give z ≡ bare_give y → Prints f (R z) p x rest) → Prints f (Part (inner_at d a_give) R) (λ after. give y (p after)) x rest
prints_give {p = p} {rest = rest} {e = e} y h d below more =
    let few : suc e ≤ 100 = give_open 0 (suc e) y h in
    prints_part (prints_inside a_give d (omega arith) (prints_by (chain_whole (suc d))
    (prints_at_rank h (suc d) 0 (p rest) (lit≤ tt) (omega arith) (lit≤ tt)))) more

prints_gpr : {A B : Type 0} {f : A → B} {R : Give → Rel A} {p : Printed} {x : A} {rest : List Shape} {e : ℕ} (y : Give) → GiveAt 1 (suc e) y
    → (d : ℕ) → d ≤ e
    → ((z : Give) → bare_give z ≡ bare_give y → Prints f (R z) p x rest)
    → Prints f (Part (inner_at d after_prefix) R) (λ after. at 1 (shown_give y) (p after)) x rest
prints_gpr {p = p} {rest = rest} {e = e} y h d below more =
    let few : suc e ≤ 100 = give_open 1 (suc e) y h in
    prints_part (prints_inside after_prefix d (omega arith) (prints_at_rank h (suc d) 1 (p rest) (lit≤ tt) (omega arith) (lit≤ tt))) more

pub record GivesInside (e : ℕ) (I : (n : Nested) → Rel (Tree n)) : Type 0 where
  pub give : (i j : List Tok) (x : Give) → AllGood i → I a_give i x j → Told (GiveAt 0 (suc e) x) j
  pub gpr : (i j : List Tok) (x : Give) → AllGood i → I after_prefix i x j → Told (GiveAt 1 (suc e) x) j

-- a form of a give, whichever
abbrev Forms : ((n : Nested) → Rel (Tree n)) → Rel GiveKind
Forms I i x j = (f : GiveForm) × g.give_form I f i x j

-- a form as it is printed
record FormOf (e : ℕ) (x : GiveKind) : Type 0 where
  printed : Printed
  shows : give_kind x ≡ single 1 printed
  prints : (d : ℕ) (rest : List Shape) → d ≤ e → Prints bare_give_kind (Forms (inner_at d)) printed x rest

never_form : (I : (n : Nested) → Rel (Tree n)) (spot : Spot) (y : Give) (j : List Tok)
    → Part (Forms I) (λ x. Gives (record { spot = spot; kind = x })) [] y j → ⊥
never_form I spot y j h = spells_some (part_begins (forms_begin (give_form_begins I))) refl j y h

same_spotted : (s spot : Spot) (z x : GiveKind) → bare_give_kind z ≡ bare_give_kind x
    → bare_give (record { spot = s; kind = z }) ≡ bare_give (record { spot = spot; kind = x })
same_spotted s spot z x same =
    spotless.bare_give_is s z ∙ (ap (λ (y : GiveKind). roll-Give (record { spot = no_spot; kind = y })) same ∙ sym (spotless.bare_give_is spot x))

module _ (e : ℕ) (within : e ≤ 100) (I : (n : Nested) → Rel (Tree n)) (terms_in : TermsInside e I) (proofs_in : ProofsInside e I)
    (gives_in : GivesInside e I) where
  with_spot : (spot : Spot) (x : GiveKind) → FormOf e x → GiveAt 1 e (record { spot = spot; kind = x })
  with_spot spot x h =
      written_node bare_give shown_give rule 1 wrap lower (record { spot = spot; kind = x }) (single 1 h.printed) (give_is spot x ∙ h.shows)
      (lit≤ tt) e 0 true
      (λ d room rest below some few fit follow. prints_by (λ i j y r. (alone, r))
      (prints_spotted (λ s. prints_part (h.prints d rest below) (λ z same. prints_gives (same_spotted s spot z x same))) (never_form (inner_at d))))
      within (omega arith)

  form_told : (f : GiveForm) (i j : List Tok) (x : GiveKind) → AllGood i → g.give_form I f i x j → Told (FormOf e x) j
  form_told give_emp _ j tree good (a_word r) =
      by_gives (λ made l. Told (FormOf e made) l) r
      (record {
        it = record {
          printed = λ rest. word k.Emp ∷ rest;
          shows = show.shown_give_Emp;
          prints = λ d rest below. prints_by (λ i l m s. (give_emp, s)) (prints_word k.Emp refl (prints_gives refl));
        };
        rest = good.1;
      })
  form_told give_atom _ j tree good (a_word (numbered {w = w_x} r)) =
      by_gives (λ made l. Told (FormOf e made) l) r
      (record {
        it = record {
          printed = λ rest. word k.AtSign ∷ number w_x.value ∷ rest;
          shows = show.shown_give_Atom w_x.value;
          prints = λ d rest below. prints_by (λ i l m s. (give_atom, s))
              (prints_word k.AtSign refl (prints_number w_x.value (good.1.0.is_small refl) (prints_gives refl)));
        };
        rest = good.1.1;
      })
  form_told give_fact _ j tree good (a_word (part {x = x} h_x (a_word r))) =
      let u_x = proofs_in.proof _ _ _ good.1 h_x in
      by_gives (λ made l. Told (FormOf e made) l) r
      (record {
        it = record {
          printed = brackets (proof x);
          shows = show.shown_give_Fact x;
          prints = λ d rest below. prints_by (λ i l m s. (give_fact, s))
              (prints_word k.LBracket refl (prints_proof x u_x.it d below (λ x' same_x. prints_word k.RBracket refl
              (prints_gives (cc (spotless.bare_give_Fact x', spotless.bare_give_Fact x))))));
        };
        rest = u_x.rest.1;
      })
  form_told give_ex _ j tree good (a_word (a_word (part {x = x} h_x (a_word (part {x = y} h_y r))))) =
      let u_x = terms_in.term _ _ _ good.1.1 h_x in
      let u_y = gives_in.gpr _ _ _ u_x.rest.1 h_y in
      by_gives (λ made l. Told (FormOf e made) l) r
      (record {
        it = record {
          printed = λ rest. word k.Ex ∷ brackets (term x) (at 1 (shown_give y) rest);
          shows = show.shown_give_Ex x y;
          prints = λ d rest below. prints_by (λ i l m s. (give_ex, s))
              (prints_word k.Ex refl (prints_word k.LBracket refl (prints_part (prints_inner x u_x.it d _ below) (λ x' same_x.
              prints_word k.RBracket refl (prints_gpr y u_y.it d below
              (λ y' same_y. prints_gives (cc (spotless.bare_give_Ex x' y', spotless.bare_give_Ex x y))))))));
        };
        rest = u_y.rest;
      })
  form_told give_left _ j tree good (a_word (part {x = x} h_x r)) =
      let u_x = gives_in.gpr _ _ _ good.1 h_x in
      by_gives (λ made l. Told (FormOf e made) l) r
      (record {
        it = record {
          printed = λ rest. word k.Left ∷ at 1 (shown_give x) rest;
          shows = show.shown_give_Left x;
          prints = λ d rest below. prints_by (λ i l m s. (give_left, s))
              (prints_word k.Left refl (prints_gpr x u_x.it d below
              (λ x' same_x. prints_gives (cc (spotless.bare_give_Left x', spotless.bare_give_Left x)))));
        };
        rest = u_x.rest;
      })
  form_told give_right _ j tree good (a_word (part {x = x} h_x r)) =
      let u_x = gives_in.gpr _ _ _ good.1 h_x in
      by_gives (λ made l. Told (FormOf e made) l) r
      (record {
        it = record {
          printed = λ rest. word k.Right ∷ at 1 (shown_give x) rest;
          shows = show.shown_give_Right x;
          prints = λ d rest below. prints_by (λ i l m s. (give_right, s))
              (prints_word k.Right refl (prints_gpr x u_x.it d below
              (λ x' same_x. prints_gives (cc (spotless.bare_give_Right x', spotless.bare_give_Right x)))));
        };
        rest = u_x.rest;
      })
  form_told give_fold _ j tree good (a_word (part {x = x} h_x r)) =
      let u_x = gives_in.gpr _ _ _ good.1 h_x in
      by_gives (λ made l. Told (FormOf e made) l) r
      (record {
        it = record {
          printed = λ rest. word k.Fold ∷ at 1 (shown_give x) rest;
          shows = show.shown_give_Fold x;
          prints = λ d rest below. prints_by (λ i l m s. (give_fold, s))
              (prints_word k.Fold refl (prints_gpr x u_x.it d below
              (λ x' same_x. prints_gives (cc (spotless.bare_give_Fold x', spotless.bare_give_Fold x)))));
        };
        rest = u_x.rest;
      })

  wrapped_told : (w : g.Wrapping) (i j : List Tok) (x : Give) → AllGood i → g.wrapped_give I w i x j → Told (GiveAt 1 e x) j
  wrapped_told alone _ j tree good (spotted {w = w} (part {x = y} h r)) =
      let u = form_told h.0 _ _ _ good h.1 in by_gives (λ made l. Told (GiveAt 1 e made) l) r
      (record { it = with_spot w.spot y u.it; rest = u.rest })
  wrapped_told in_parens _ j tree good (a_word (part h (a_word gives))) =
      let u = gives_in.give _ _ _ good.1 h in record { it = written.in_parens bare_give shown_give rule 1 true u.it; rest = u.rest.1 }

  gpr_told : (i j : List Tok) (x : Give) → AllGood i → g.gpr I i x j → Told (GiveAt 1 e x) j
  gpr_told i j x good h = wrapped_told h.0 i j x good h.1

  stars_only : (P : TokenKind → (Give → Give → Give) → Type 0) (spot : Spot) → P k.Star (joint spot) → (q : TokenKind) (node : Give → Give → Give)
      → joins spot (Some q) ≡ Some node → P q node
  stars_only P spot h k.Star node is = subst (P k.Star) (some_same is) h
  stars_only P spot h _ node is = cc

  star_link : (spot : Spot) (q : TokenKind) (made : Give → Give → Give) → joins spot (Some q) ≡ Some made → (x y : Give) (n : ℕ) → suc n ≤ 64
      → GiveChain 0 e n x → GiveAt 1 e y
      → GiveChain 0 e (suc n) (made x y)
  star_link spot q made is x y n few h u =
      stars_only (λ op m. GiveChain 0 e (suc n) (m x y)) spot
      (chained_step bare_give shown_give rule 1 wrap lower bare_give (λ d. g.gpr (inner_at d)) 0 (lit≤ tt)
      (λ d room i j z r. one_alone d room i j z r)
      k.Star (joint spot x y) x y (at 1 (shown_give y)) e n true
      (λ d room rest room_left h' g'. prints_star d room spot (left 0 room (shown_give x)) (at 1 (shown_give y)) x y rest room_left h' g')
      (give_is spot (v.Star x y) ∙ show.shown_give_Star x y) within few h
      (λ d rest below follow. prints_at_rank u d 1 rest (lit≤ tt) below (lit≤ tt)))
      q made is

  stars_told : (spot : Spot) {n : ℕ} {i j : List Tok} {x : Give} → AllGood i → Chain (joins spot) (g.gpr I) (g.gpr I) n i x j
      → Told ((n ≤ 64) × GiveChain 0 e n x) j
  stars_told spot good (chain_first h) =
      let u = gpr_told _ _ _ good h in record { it = ((lit≤ tt), written_chained bare_give shown_give rule u.it); rest = u.rest }
  stars_told spot good (chain_more {n = n} {q = q} {w = w} {x = x} {y = y} {node = made} h is room r) =
      let u = stars_told spot good h in
      let few : n < 64 = room_is (tok q w) u.rest.0 room in
      let z = gpr_told _ _ _ u.rest.1 r in
      record { it = ((omega arith), star_link spot q made is x y n (omega arith) u.it.1 z.it); rest = z.rest }

  give_told : (i j : List Tok) (x : Give) → AllGood i → g.give I i x j → Told (GiveAt 0 e x) j
  give_told _ j x good (spotted {w = w} h) =
      let u = stars_told w.spot good h.1 in record { it = chained_written bare_give shown_give rule u.it.1; rest = u.rest }

-- ---- at every depth

pub gives_inside : (more d : ℕ) → GivesInside d (g.spells more d)
gives_inside zero d = record { give = λ i j x good h. absurd h; gpr = λ i j x good h. absurd h }
gives_inside (suc more) d =
    let I : (n : Nested) → Rel (Tree n) = g.spells more (suc d) in
    let in_terms : TermsInside (suc d) I = terms_inside more (suc d) in
    let in_proofs : ProofsInside (suc d) I = proofs_inside more (suc d) in
    let below : GivesInside (suc d) I = gives_inside more (suc d) in
    record {
      give = λ i j x good h. give_told (suc d) (open_within a_give (suc d) I i j x good h.0 h.1) I in_terms in_proofs below i j x good h.1;
      gpr = λ i j x good h. gpr_told (suc d) (open_within after_prefix (suc d) I i j x good h.0 h.1) I in_terms in_proofs below i j x good h.1;
    }
