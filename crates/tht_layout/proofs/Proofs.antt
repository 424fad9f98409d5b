-- What is printed of a proof spells it, but for its spots.
use Rattle.std.proofs.Common.{◌≡◌, ℕ, zero, suc, ◌≤◌, ap, sym, ◌∙◌, refl, arith, List, [], length, map}
use Rattle.tht_tree.specs.declared.plain.Spot.{Spot}
use Rattle.tht_tree.specs.declared.token.TokenKind.TheVariants as k
use Rattle.tht_tree.specs.declared.term.Term.{Term}
use Rattle.tht_tree.specs.declared.proof.Proof.{Proof, roll-Proof}
use Rattle.tht_tree.specs.declared.proof.ProofKind.{ProofKind}
use Rattle.tht_tree.specs.declared.proof.LinEntry.{LinEntry}
use Rattle.tht_tree.specs.WithoutSpots.{no_spot, bare_proof, bare_proof_kind, bare_entry}
use Rattle.tht_tree.specs.Tokens.{Tok}
use Rattle.tht_tree.specs.Productions.{Rel, word as a_word, named, numbered, sorted, Part, part, Gives, gives, spotted, Listed}
use Rattle.tht_tree.specs.Grammar as g
use Rattle.tht_tree.specs.Grammar.{Nested, Tree, a_term, a_proof, bare as alone, in_parens, ProofForm, proof_hyp, proof_refl, proof_calc, proof_as, proof_sym, proof_both, proof_subst, proof_pair, proof_fst, proof_snd, proof_inl, proof_inr, proof_cases, proof_fun, proof_app, proof_neg, proof_absurd, proof_em, proof_lin, proof_monus, proof_head, proof_tail, proof_nocons, proof_apart, proof_nonnull, proof_lemma, proof_todo}
use Rattle.tht_tree.specs.Layout.{Shape, Printed, commas, proof}
use Rattle.tht_grammar.proofs.Beginnings.{spells_some, part_begins, forms_begin, proof_form_begins}
use Rattle.tht_layout.proofs.Prints.{Prints, prints_by, prints_as, prints_word, prints_name, prints_number, prints_sort, prints_part, prints_gives, prints_spotted, prints_listed}
use Rattle.tht_layout.proofs.Printing as show
use Rattle.tht_layout.proofs.Printing.{proof_kind, lin_entry, proof_is, entry_is}
use Rattle.tht_layout.proofs.Spotless as bare
use Rattle.tht_layout.proofs.Good.{AllGood, Told}
use Rattle.tht_layout.proofs.TermRules.{inner_at, prints_inside}
use Rattle.tht_layout.proofs.Terms.{by_gives, TermsInside, terms_inside, open_within, never_spells}
use Rattle.tht_layout.proofs.Lists.{Each, prints_inner, arguments_told, prints_arguments, listed_told, all_print}

-- a form of a proof, whichever
abbrev pub Forms : ((n : Nested) → Rel (Tree n)) → Rel ProofKind
Forms I i x j = (f : ProofForm) × g.proof_form I f i x j

-- proofs are printed without parentheses, so that they fit wherever fewer constructs are open
abbrev pub ProofAt : ℕ → Proof → Type 0
ProofAt e x = (d : ℕ) (rest : List Shape) → d ≤ e → Prints bare_proof (g.proof (inner_at d)) (proof x) x rest

abbrev pub KindAt : ℕ → ProofKind → Type 0
KindAt e x = (d : ℕ) (rest : List Shape) → d ≤ e → Prints bare_proof_kind (Forms (inner_at d)) (proof_kind x) x rest

-- a proof that was written inside, where e constructs are open around it
pub record InnerProof (e : ℕ) (x : Proof) : Type 0 where
  pub at : ProofAt (suc e) x
  pub within : suc e ≤ 100

pub prints_proof : {A B : Type 0} {f : A → B} {R : Proof → Rel A} {p : Printed} {x : A} {rest : List Shape} {e : ℕ} (q : Proof) → InnerProof e q
    → (d : ℕ) → d ≤ e
    → ((z : Proof) → bare_proof z ≡ bare_proof q → Prints f (R z) p x rest)
    → Prints f (Part (inner_at d a_proof) R) (λ after. proof q (p after)) x rest
prints_proof {p = p} {rest = rest} {e = e} q h d below more =
    let few : suc e ≤ 100 = h.within in prints_part (prints_inside a_proof d (omega arith) (h.at (suc d) (p rest) (omega arith))) more

pub record ProofsInside (e : ℕ) (I : (n : Nested) → Rel (Tree n)) : Type 0 where
  pub proof : (i j : List Tok) (x : Proof) → AllGood i → I a_proof i x j → Told (InnerProof e x) j

-- a form with a spot
never_form : (I : (n : Nested) → Rel (Tree n)) (spot : Spot) (y : Proof) (j : List Tok)
    → Part (Forms I) (λ x. Gives (record { spot = spot; kind = x })) [] y j → ⊥
never_form I spot y j h = spells_some (part_begins (forms_begin (proof_form_begins I))) refl j y h

same_spotted : (s spot : Spot) (z x : ProofKind) → bare_proof_kind z ≡ bare_proof_kind x
    → bare_proof (record { spot = s; kind = z }) ≡ bare_proof (record { spot = spot; kind = x })
same_spotted s spot z x same =
    bare.bare_proof_is s z ∙ (ap (λ (y : ProofKind). roll-Proof (record { spot = no_spot; kind = y })) same ∙ sym (bare.bare_proof_is spot x))

pub with_spot : (e : ℕ) (spot : Spot) (x : ProofKind) → KindAt e x → ProofAt e (record { spot = spot; kind = x })
with_spot e spot x h d rest below =
    prints_as (λ r. ap (λ (f : Printed). f r) (proof_is spot x))
    (prints_by (λ i j y r. (alone, r))
    (prints_spotted (λ s. prints_part (h d rest below) (λ z same. prints_gives (same_spotted s spot z x same))) (never_form (inner_at d))))

module _ (e : ℕ) (within : e ≤ 100) (I : (n : Nested) → Rel (Tree n)) (terms_in : TermsInside e I)
    (never : (j : List Tok) (x : Term) → I a_term [] x j → ⊥)
    (proofs_in : ProofsInside e I) where
  -- ---- the entries of a certificate

  abbrev EntryAt : LinEntry → Type 0
  EntryAt x = (d : ℕ) (rest : List Shape) → d ≤ e → Prints bare_entry (g.lin_entry (inner_at d)) (lin_entry x) x rest

  entry_told : (i j : List Tok) (x : LinEntry) → AllGood i → g.lin_entry I i x j → Told (EntryAt x) j
  entry_told _ j x good (numbered {w = w_m} (a_word (part {x = y} h_y (a_word (part {x = q} h_q r))))) =
      let u_y = terms_in.term _ _ _ good.1.1 h_y in
      let u_q = proofs_in.proof _ _ _ u_y.rest.1 h_q in
      by_gives (λ made l. Told (EntryAt made) l) r
      (record {
        it = λ d rest below. prints_as (λ r. ap (λ (f : Printed). f r) (entry_is w_m.value y q))
            (prints_number w_m.value (good.0.is_small refl) (prints_word k.LBracket refl
            (prints_part (prints_inner y u_y.it d _ below) (λ y' same_y. prints_word k.RBracket refl
            (prints_proof q u_q.it d below (λ q' same_q. prints_gives
            (cc (bare.bare_entry_is w_m.value y' q', bare.bare_entry_is w_m.value y q))))))));
        rest = u_q.rest;
      })

  never_entry : (j : List Tok) (x : LinEntry) → g.lin_entry I [] x j → ⊥
  never_entry j x h = elim h [ ]

  entries_told : (i j : List Tok) (xs : List LinEntry) → AllGood i → Listed 64 (g.lin_entry I) i xs j → Told (Each EntryAt xs × (length xs ≤ 64)) j
  entries_told i j xs good h = listed_told 64 (g.lin_entry I) EntryAt entry_told never_entry good h

  prints_entries_of : (xs : List LinEntry) → Each EntryAt xs × (length xs ≤ 64) → (d : ℕ) (rest : List Shape) → d ≤ e
      → Prints (map bare_entry) (Listed 64 (g.lin_entry (inner_at d))) (commas (map lin_entry xs)) xs rest
  prints_entries_of xs h d rest below = prints_listed bare_entry (g.lin_entry (inner_at d)) lin_entry 64 xs rest h.1
      (all_print (λ x more q. q d more below) h.0)

  -- ---- the forms

  form_told : (f : ProofForm) (i j : List Tok) (x : ProofKind) → AllGood i → g.proof_form I f i x j → Told (KindAt e x) j
  form_told proof_hyp _ j tree good (a_word (named {w = w_x} r)) =
      by_gives (λ made l. Told (KindAt e made) l) r
      (record {
        it = λ d rest below. prints_as (λ r. ap (λ (f : Printed). f r) (show.printed_Hyp w_x.text))
            (prints_by (λ i l m s. (proof_hyp, s)) (prints_word k.Hyp refl (prints_name w_x.text (good.1.0.is_name refl) (prints_gives refl))));
        rest = good.1.1;
      })
  form_told proof_refl _ j tree good (a_word r) =
      by_gives (λ made l. Told (KindAt e made) l) r
      (record {
        it = λ d rest below. prints_as (λ r. ap (λ (f : Printed). f r) show.printed_Refl)
            (prints_by (λ i l m s. (proof_refl, s)) (prints_word k.Refl refl (prints_gives refl)));
        rest = good.1;
      })
  form_told proof_calc _ j tree good (a_word r) =
      by_gives (λ made l. Told (KindAt e made) l) r
      (record {
        it = λ d rest below. prints_as (λ r. ap (λ (f : Printed). f r) show.printed_Calc)
            (prints_by (λ i l m s. (proof_calc, s)) (prints_word k.Calc refl (prints_gives refl)));
        rest = good.1;
      })
  form_told proof_as _ j tree good (a_word (a_word (part {x = x} h_x (a_word (part {x = y} h_y r))))) =
      let u_x = terms_in.term _ _ _ good.1.1 h_x in
      let u_y = proofs_in.proof _ _ _ u_x.rest.1 h_y in
      by_gives (λ made l. Told (KindAt e made) l) r
      (record {
        it = λ d rest below. prints_as (λ r. ap (λ (f : Printed). f r) (show.printed_Recast x y))
            (prints_by (λ i l m s. (proof_as, s)) (prints_word k.As refl
            (prints_word k.LBracket refl (prints_part (prints_inner x u_x.it d _ below)
            (λ x' same_x. prints_word k.RBracket refl (prints_proof y u_y.it d below
            (λ y' same_y. prints_gives (cc (bare.bare_proof_Recast x' y', bare.bare_proof_Recast x y)))))))));
        rest = u_y.rest;
      })
  form_told proof_sym _ j tree good (a_word (part {x = x} h_x r)) =
      let u_x = proofs_in.proof _ _ _ good.1 h_x in
      by_gives (λ made l. Told (KindAt e made) l) r
      (record {
        it = λ d rest below. prints_as (λ r. ap (λ (f : Printed). f r) (show.printed_Sym x))
            (prints_by (λ i l m s. (proof_sym, s)) (prints_word k.Sym refl
            (prints_proof x u_x.it d below (λ x' same_x. prints_gives (cc (bare.bare_proof_Sym x', bare.bare_proof_Sym x))))));
        rest = u_x.rest;
      })
  form_told proof_both _ j tree good (a_word (part {x = x} h_x (part {x = y} h_y r))) =
      let u_x = proofs_in.proof _ _ _ good.1 h_x in
      let u_y = proofs_in.proof _ _ _ u_x.rest h_y in
      by_gives (λ made l. Told (KindAt e made) l) r
      (record {
        it = λ d rest below. prints_as (λ r. ap (λ (f : Printed). f r) (show.printed_Both x y))
            (prints_by (λ i l m s. (proof_both, s)) (prints_word k.Both refl
            (prints_proof x u_x.it d below (λ x' same_x. prints_proof y u_y.it d below
            (λ y' same_y. prints_gives (cc (bare.bare_proof_Both x' y', bare.bare_proof_Both x y)))))));
        rest = u_y.rest;
      })
  form_told proof_subst _ j tree good (a_word (a_word (named {w = w_x}
      (a_word (sorted {z = y} s_y (a_word (part {x = z} h_z (a_word
      (a_word (part {x = u} h_u (a_word (a_word (part {x = v} h_v (a_word (part {x = m} h_m (part {x = n} h_n r)))))))))))))))) =
      let u_z = terms_in.term _ _ _ good.1.1.1.1.1.1 h_z in
      let u_u = terms_in.term _ _ _ u_z.rest.1.1 h_u in
      let u_v = terms_in.term _ _ _ u_u.rest.1.1 h_v in
      let u_m = proofs_in.proof _ _ _ u_v.rest.1 h_m in
      let u_n = proofs_in.proof _ _ _ u_m.rest h_n in
      by_gives (λ made l. Told (KindAt e made) l) r
      (record {
        it = λ d rest below. prints_as (λ r. ap (λ (f : Printed). f r) (show.printed_Subst w_x.text y z u v m n))
            (prints_by (λ i l m s. (proof_subst, s)) (prints_word k.Subst refl
            (prints_word k.LParen refl (prints_name w_x.text (good.1.1.0.is_name refl)
            (prints_word k.Colon refl (prints_sort y (prints_word k.Dot refl
            (prints_part (prints_inner z u_z.it d _ below)
            (λ z' same_z. prints_word k.RParen refl
            (prints_word k.LBracket refl (prints_part (prints_inner u u_u.it d _ below)
            (λ u' same_u. prints_word k.RBracket refl
            (prints_word k.LBracket refl
            (prints_part (prints_inner v u_v.it d _ below)
            (λ v' same_v. prints_word k.RBracket refl
            (prints_proof m u_m.it d below
            (λ m' same_m. prints_proof n u_n.it d below
            (λ n' same_n. prints_gives
            (cc (bare.bare_proof_Subst w_x.text y z' u' v' m' n', bare.bare_proof_Subst w_x.text y z u v m n))))))))))))))))))));
        rest = u_n.rest;
      })
  form_told proof_pair _ j tree good (a_word (part {x = x} h_x (part {x = y} h_y r))) =
      let u_x = proofs_in.proof _ _ _ good.1 h_x in
      let u_y = proofs_in.proof _ _ _ u_x.rest h_y in
      by_gives (λ made l. Told (KindAt e made) l) r
      (record {
        it = λ d rest below. prints_as (λ r. ap (λ (f : Printed). f r) (show.printed_Pair x y))
            (prints_by (λ i l m s. (proof_pair, s)) (prints_word k.Pair refl
            (prints_proof x u_x.it d below (λ x' same_x. prints_proof y u_y.it d below
            (λ y' same_y. prints_gives (cc (bare.bare_proof_Pair x' y', bare.bare_proof_Pair x y)))))));
        rest = u_y.rest;
      })
  form_told proof_fst _ j tree good (a_word (a_word (part {x = x} h_x (a_word (part {x = y} h_y r))))) =
      let u_x = terms_in.term _ _ _ good.1.1 h_x in
      let u_y = proofs_in.proof _ _ _ u_x.rest.1 h_y in
      by_gives (λ made l. Told (KindAt e made) l) r
      (record {
        it = λ d rest below. prints_as (λ r. ap (λ (f : Printed). f r) (show.printed_Fst x y))
            (prints_by (λ i l m s. (proof_fst, s)) (prints_word k.Fst refl
            (prints_word k.LBracket refl (prints_part (prints_inner x u_x.it d _ below)
            (λ x' same_x. prints_word k.RBracket refl (prints_proof y u_y.it d below
            (λ y' same_y. prints_gives (cc (bare.bare_proof_Fst x' y', bare.bare_proof_Fst x y)))))))));
        rest = u_y.rest;
      })
  form_told proof_snd _ j tree good (a_word (a_word (part {x = x} h_x (a_word (part {x = y} h_y r))))) =
      let u_x = terms_in.term _ _ _ good.1.1 h_x in
      let u_y = proofs_in.proof _ _ _ u_x.rest.1 h_y in
      by_gives (λ made l. Told (KindAt e made) l) r
      (record {
        it = λ d rest below. prints_as (λ r. ap (λ (f : Printed). f r) (show.printed_Snd x y))
            (prints_by (λ i l m s. (proof_snd, s)) (prints_word k.Snd refl
            (prints_word k.LBracket refl (prints_part (prints_inner x u_x.it d _ below)
            (λ x' same_x. prints_word k.RBracket refl (prints_proof y u_y.it d below
            (λ y' same_y. prints_gives (cc (bare.bare_proof_Snd x' y', bare.bare_proof_Snd x y)))))))));
        rest = u_y.rest;
      })
  form_told proof_inl _ j tree good (a_word (part {x = x} h_x r)) =
      let u_x = proofs_in.proof _ _ _ good.1 h_x in
      by_gives (λ made l. Told (KindAt e made) l) r
      (record {
        it = λ d rest below. prints_as (λ r. ap (λ (f : Printed). f r) (show.printed_Inl x))
            (prints_by (λ i l m s. (proof_inl, s)) (prints_word k.Inl refl
            (prints_proof x u_x.it d below (λ x' same_x. prints_gives (cc (bare.bare_proof_Inl x', bare.bare_proof_Inl x))))));
        rest = u_x.rest;
      })
  form_told proof_inr _ j tree good (a_word (part {x = x} h_x r)) =
      let u_x = proofs_in.proof _ _ _ good.1 h_x in
      by_gives (λ made l. Told (KindAt e made) l) r
      (record {
        it = λ d rest below. prints_as (λ r. ap (λ (f : Printed). f r) (show.printed_Inr x))
            (prints_by (λ i l m s. (proof_inr, s)) (prints_word k.Inr refl
            (prints_proof x u_x.it d below (λ x' same_x. prints_gives (cc (bare.bare_proof_Inr x', bare.bare_proof_Inr x))))));
        rest = u_x.rest;
      })
  form_told proof_cases _ j tree good (a_word (a_word (part {x = x} h_x
      (a_word (part {x = y} h_y (a_word (named {w = w_z} (a_word (part {x = u} h_u
      (a_word (a_word (named {w = w_v} (a_word (part {x = m} h_m (a_word r))))))))))))))) =
      let u_x = terms_in.term _ _ _ good.1.1 h_x in
      let u_y = proofs_in.proof _ _ _ u_x.rest.1 h_y in
      let u_u = proofs_in.proof _ _ _ u_y.rest.1.1.1 h_u in
      let u_m = proofs_in.proof _ _ _ u_u.rest.1.1.1.1 h_m in
      by_gives (λ made l. Told (KindAt e made) l) r
      (record {
        it = λ d rest below. prints_as (λ r. ap (λ (f : Printed). f r) (show.printed_Cases x y w_z.text u w_v.text m))
            (prints_by (λ i l m s. (proof_cases, s)) (prints_word k.Cases refl
            (prints_word k.LBracket refl (prints_part (prints_inner x u_x.it d _ below)
            (λ x' same_x. prints_word k.RBracket refl (prints_proof y u_y.it d below
            (λ y' same_y. prints_word k.LBrace refl (prints_name w_z.text (u_y.rest.1.0.is_name refl)
            (prints_word k.Dot refl (prints_proof u u_u.it d below
            (λ u' same_u. prints_word k.RBrace refl
            (prints_word k.LBrace refl (prints_name w_v.text (u_u.rest.1.1.0.is_name refl)
            (prints_word k.Dot refl (prints_proof m u_m.it d below
            (λ m' same_m. prints_word k.RBrace refl
            (prints_gives (cc (bare.bare_proof_Cases x' y' w_z.text u' w_v.text m', bare.bare_proof_Cases x y w_z.text u w_v.text m)))))))))))))))))));
        rest = u_m.rest.1;
      })
  form_told proof_fun _ j tree good (a_word (named {w = w_x} (a_word (part {x = y} h_y r)))) =
      let u_y = proofs_in.proof _ _ _ good.1.1.1 h_y in
      by_gives (λ made l. Told (KindAt e made) l) r
      (record {
        it = λ d rest below. prints_as (λ r. ap (λ (f : Printed). f r) (show.printed_Fun w_x.text y))
            (prints_by (λ i l m s. (proof_fun, s)) (prints_word k.Fun refl
            (prints_name w_x.text (good.1.0.is_name refl) (prints_word k.Dot refl
            (prints_proof y u_y.it d below (λ y' same_y. prints_gives
            (cc (bare.bare_proof_Fun w_x.text y', bare.bare_proof_Fun w_x.text y))))))));
        rest = u_y.rest;
      })
  form_told proof_app _ j tree good (a_word (a_word (part {x = x} h_x (a_word (part {x = y} h_y (part {x = z} h_z r)))))) =
      let u_x = terms_in.term _ _ _ good.1.1 h_x in
      let u_y = proofs_in.proof _ _ _ u_x.rest.1 h_y in
      let u_z = proofs_in.proof _ _ _ u_y.rest h_z in
      by_gives (λ made l. Told (KindAt e made) l) r
      (record {
        it = λ d rest below. prints_as (λ r. ap (λ (f : Printed). f r) (show.printed_App x y z))
            (prints_by (λ i l m s. (proof_app, s)) (prints_word k.App refl
            (prints_word k.LBracket refl (prints_part (prints_inner x u_x.it d _ below)
            (λ x' same_x. prints_word k.RBracket refl (prints_proof y u_y.it d below
            (λ y' same_y. prints_proof z u_z.it d below
            (λ z' same_z. prints_gives (cc (bare.bare_proof_App x' y' z', bare.bare_proof_App x y z))))))))));
        rest = u_z.rest;
      })
  form_told proof_neg _ j tree good (a_word (a_word (part {x = x} h_x (a_word (part {x = y} h_y (part {x = z} h_z r)))))) =
      let u_x = terms_in.term _ _ _ good.1.1 h_x in
      let u_y = proofs_in.proof _ _ _ u_x.rest.1 h_y in
      let u_z = proofs_in.proof _ _ _ u_y.rest h_z in
      by_gives (λ made l. Told (KindAt e made) l) r
      (record {
        it = λ d rest below. prints_as (λ r. ap (λ (f : Printed). f r) (show.printed_Neg x y z))
            (prints_by (λ i l m s. (proof_neg, s)) (prints_word k.Neg refl
            (prints_word k.LBracket refl (prints_part (prints_inner x u_x.it d _ below)
            (λ x' same_x. prints_word k.RBracket refl (prints_proof y u_y.it d below
            (λ y' same_y. prints_proof z u_z.it d below
            (λ z' same_z. prints_gives (cc (bare.bare_proof_Neg x' y' z', bare.bare_proof_Neg x y z))))))))));
        rest = u_z.rest;
      })
  form_told proof_absurd _ j tree good (a_word (part {x = x} h_x r)) =
      let u_x = proofs_in.proof _ _ _ good.1 h_x in
      by_gives (λ made l. Told (KindAt e made) l) r
      (record {
        it = λ d rest below. prints_as (λ r. ap (λ (f : Printed). f r) (show.printed_Absurd x))
            (prints_by (λ i l m s. (proof_absurd, s)) (prints_word k.Absurd refl
            (prints_proof x u_x.it d below (λ x' same_x. prints_gives (cc (bare.bare_proof_Absurd x', bare.bare_proof_Absurd x))))));
        rest = u_x.rest;
      })
  form_told proof_em _ j tree good (a_word (a_word (part {x = x} h_x
      (a_word (a_word (named {w = w_y} (a_word (part {x = z} h_z (a_word
      (a_word (named {w = w_u} (a_word (part {x = v} h_v (a_word r)))))))))))))) =
      let u_x = terms_in.term _ _ _ good.1.1 h_x in
      let u_z = proofs_in.proof _ _ _ u_x.rest.1.1.1.1 h_z in
      let u_v = proofs_in.proof _ _ _ u_z.rest.1.1.1.1 h_v in
      by_gives (λ made l. Told (KindAt e made) l) r
      (record {
        it = λ d rest below. prints_as (λ r. ap (λ (f : Printed). f r) (show.printed_Em x w_y.text z w_u.text v))
            (prints_by (λ i l m s. (proof_em, s)) (prints_word k.Em refl
            (prints_word k.LBracket refl (prints_part (prints_inner x u_x.it d _ below)
            (λ x' same_x. prints_word k.RBracket refl (prints_word k.LBrace refl
            (prints_name w_y.text (u_x.rest.1.1.0.is_name refl)
            (prints_word k.Dot refl (prints_proof z u_z.it d below
            (λ z' same_z. prints_word k.RBrace refl
            (prints_word k.LBrace refl (prints_name w_u.text (u_z.rest.1.1.0.is_name refl)
            (prints_word k.Dot refl (prints_proof v u_v.it d below
            (λ v' same_v. prints_word k.RBrace refl
            (prints_gives (cc (bare.bare_proof_Em x' w_y.text z' w_u.text v', bare.bare_proof_Em x w_y.text z w_u.text v))))))))))))))))));
        rest = u_v.rest.1;
      })
  form_told proof_lin _ j tree good (a_word (numbered {w = w_x} (a_word (part {x = y} h_y (a_word r))))) =
      let u_y = entries_told _ _ _ good.1.1.1 h_y in
      by_gives (λ made l. Told (KindAt e made) l) r
      (record {
        it = λ d rest below. prints_as (λ r. ap (λ (f : Printed). f r) (show.printed_Lin w_x.value y))
            (prints_by (λ i l m s. (proof_lin, s)) (prints_word k.Lin refl
            (prints_number w_x.value (good.1.0.is_small refl) (prints_word k.LBrace refl
            (prints_part (prints_entries_of y u_y.it d _ below)
            (λ y' same_y. prints_word k.RBrace refl (prints_gives
            (cc (bare.bare_proof_Lin w_x.value y', bare.bare_proof_Lin w_x.value y)))))))));
        rest = u_y.rest.1;
      })
  form_told proof_monus _ j tree good (a_word (part {x = x} h_x r)) =
      let u_x = proofs_in.proof _ _ _ good.1 h_x in
      by_gives (λ made l. Told (KindAt e made) l) r
      (record {
        it = λ d rest below. prints_as (λ r. ap (λ (f : Printed). f r) (show.printed_Monus x))
            (prints_by (λ i l m s. (proof_monus, s)) (prints_word k.Monus refl
            (prints_proof x u_x.it d below (λ x' same_x. prints_gives (cc (bare.bare_proof_Monus x', bare.bare_proof_Monus x))))));
        rest = u_x.rest;
      })
  form_told proof_head _ j tree good (a_word (a_word (part {x = x} h_x (a_word (a_word (part {x = y} h_y (a_word (part {x = z} h_z r)))))))) =
      let u_x = terms_in.term _ _ _ good.1.1 h_x in
      let u_y = terms_in.term _ _ _ u_x.rest.1.1 h_y in
      let u_z = proofs_in.proof _ _ _ u_y.rest.1 h_z in
      by_gives (λ made l. Told (KindAt e made) l) r
      (record {
        it = λ d rest below. prints_as (λ r. ap (λ (f : Printed). f r) (show.printed_Head x y z))
            (prints_by (λ i l m s. (proof_head, s)) (prints_word k.Head refl
            (prints_word k.LBracket refl (prints_part (prints_inner x u_x.it d _ below)
            (λ x' same_x. prints_word k.RBracket refl (prints_word k.LBracket refl
            (prints_part (prints_inner y u_y.it d _ below)
            (λ y' same_y. prints_word k.RBracket refl
            (prints_proof z u_z.it d below (λ z' same_z. prints_gives
            (cc (bare.bare_proof_Head x' y' z', bare.bare_proof_Head x y z))))))))))));
        rest = u_z.rest;
      })
  form_told proof_tail _ j tree good (a_word (a_word (part {x = x} h_x (a_word (a_word (part {x = y} h_y (a_word (part {x = z} h_z r)))))))) =
      let u_x = terms_in.term _ _ _ good.1.1 h_x in
      let u_y = terms_in.term _ _ _ u_x.rest.1.1 h_y in
      let u_z = proofs_in.proof _ _ _ u_y.rest.1 h_z in
      by_gives (λ made l. Told (KindAt e made) l) r
      (record {
        it = λ d rest below. prints_as (λ r. ap (λ (f : Printed). f r) (show.printed_Tail x y z))
            (prints_by (λ i l m s. (proof_tail, s)) (prints_word k.Tail refl
            (prints_word k.LBracket refl (prints_part (prints_inner x u_x.it d _ below)
            (λ x' same_x. prints_word k.RBracket refl (prints_word k.LBracket refl
            (prints_part (prints_inner y u_y.it d _ below)
            (λ y' same_y. prints_word k.RBracket refl
            (prints_proof z u_z.it d below (λ z' same_z. prints_gives
            (cc (bare.bare_proof_Tail x' y' z', bare.bare_proof_Tail x y z))))))))))));
        rest = u_z.rest;
      })
  form_told proof_nocons _ j tree good (a_word r) =
      by_gives (λ made l. Told (KindAt e made) l) r
      (record {
        it = λ d rest below. prints_as (λ r. ap (λ (f : Printed). f r) show.printed_Nocons)
            (prints_by (λ i l m s. (proof_nocons, s)) (prints_word k.Nocons refl (prints_gives refl)));
        rest = good.1;
      })
  form_told proof_apart _ j tree good (a_word (numbered {w = w_x} (numbered {w = w_y} r))) =
      by_gives (λ made l. Told (KindAt e made) l) r
      (record {
        it = λ d rest below. prints_as (λ r. ap (λ (f : Printed). f r) (show.printed_Apart w_x.value w_y.value))
            (prints_by (λ i l m s. (proof_apart, s)) (prints_word k.Apart refl
            (prints_number w_x.value (good.1.0.is_small refl) (prints_number w_y.value (good.1.1.0.is_small refl) (prints_gives refl)))));
        rest = good.1.1.1;
      })
  form_told proof_nonnull _ j tree good (a_word (numbered {w = w_x} r)) =
      by_gives (λ made l. Told (KindAt e made) l) r
      (record {
        it = λ d rest below. prints_as (λ r. ap (λ (f : Printed). f r) (show.printed_Nonnull w_x.value))
            (prints_by (λ i l m s. (proof_nonnull, s)) (prints_word k.Nonnull refl
            (prints_number w_x.value (good.1.0.is_small refl) (prints_gives refl))));
        rest = good.1.1;
      })
  form_told proof_lemma _ j tree good (a_word (named {w = w_x} (part {x = y} h_y (part {x = z} h_z r)))) =
      let u_y = arguments_told e I terms_in never _ _ _ good.1.1 h_y in
      let u_z = proofs_in.proof _ _ _ u_y.rest h_z in
      by_gives (λ made l. Told (KindAt e made) l) r
      (record {
        it = λ d rest below. prints_as (λ r. ap (λ (f : Printed). f r) (show.printed_Lemma w_x.text y z))
            (prints_by (λ i l m s. (proof_lemma, s)) (prints_word k.Lemma refl
            (prints_name w_x.text (good.1.0.is_name refl) (prints_part (prints_arguments y u_y.it d _ below)
            (λ y' same_y. prints_proof z u_z.it d below (λ z' same_z. prints_gives
            (cc (bare.bare_proof_Lemma w_x.text y' z', bare.bare_proof_Lemma w_x.text y z))))))));
        rest = u_z.rest;
      })
  form_told proof_todo _ j tree good (a_word r) =
      by_gives (λ made l. Told (KindAt e made) l) r
      (record {
        it = λ d rest below. prints_as (λ r. ap (λ (f : Printed). f r) show.printed_Todo)
            (prints_by (λ i l m s. (proof_todo, s)) (prints_word k.Todo refl (prints_gives refl)));
        rest = good.1;
      })

  wrapped_told : (w : g.Wrapping) (i j : List Tok) (x : Proof) → AllGood i → g.wrapped_proof I w i x j → Told (ProofAt e x) j
  wrapped_told alone _ j x good (spotted {w = w} (part {x = y} h r)) =
      let u = form_told h.0 _ _ _ good h.1 in by_gives (λ made l. Told (ProofAt e made) l) r
      (record { it = with_spot e w.spot y u.it; rest = u.rest })
  wrapped_told in_parens _ j x good (a_word (part h (a_word gives))) =
      let u = proofs_in.proof _ _ _ good.1 h in record { it = λ d rest below. u.it.at d rest (omega arith); rest = u.rest.1 }

  proof_told : (i j : List Tok) (x : Proof) → AllGood i → g.proof I i x j → Told (ProofAt e x) j
  proof_told i j x good h = wrapped_told h.0 i j x good h.1

-- ---- at every depth

pub proofs_inside : (more d : ℕ) → ProofsInside d (g.spells more d)
proofs_inside zero d = record { proof = λ i j x good h. absurd h }
proofs_inside (suc more) d =
    let I : (n : Nested) → Rel (Tree n) = g.spells more (suc d) in
    record {
      proof = λ i j x good h. told i j x good (open_within a_proof (suc d) I i j x good h.0 h.1)
          (proof_told (suc d) (open_within a_proof (suc d) I i j x good h.0 h.1) I (terms_inside more (suc d))
          (λ l y s. never_spells more (suc d) a_term l y s) (proofs_inside more (suc d)) i j x good h.1);
    }
  where
    told : (i j : List Tok) (x : Proof) → AllGood i → suc d ≤ 100 → Told (ProofAt (suc d) x) j → Told (InnerProof d x) j
    told i j x good few u = record { it = record { at = u.it; within = few }; rest = u.rest }
