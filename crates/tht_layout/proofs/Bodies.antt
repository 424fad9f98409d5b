-- What is printed of a body spells it, but for its spots.
use Rattle.std.proofs.Common.{◌≡◌, ℕ, zero, suc, ◌≤◌, ap, sym, ◌∙◌, refl, arith, List, [], ◌∷◌}
use Rattle.tht_tree.specs.declared.plain.Spot.{Spot}
use Rattle.tht_tree.specs.declared.token.TokenKind.TheVariants as k
use Rattle.tht_tree.specs.declared.term.Term.{Term}
use Rattle.tht_tree.specs.declared.step.StepKind.{StepKind}
use Rattle.tht_tree.specs.declared.body.Body.{Body}
use Rattle.tht_tree.specs.declared.body.Stmt.{Stmt, roll-Stmt}
use Rattle.tht_tree.specs.declared.body.StmtKind.{StmtKind}
use Rattle.tht_tree.specs.declared.body.StmtKind.TheVariants as c
use Rattle.tht_tree.specs.declared.body.End.{End, roll-End}
use Rattle.tht_tree.specs.declared.body.EndKind.{EndKind}
use Rattle.tht_tree.specs.WithoutSpots.{no_spot, bare_step_kind, bare_stmt, bare_stmt_kind, bare_end, bare_end_kind, bare_body}
use Rattle.tht_tree.specs.Tokens.{Tok}
use Rattle.tht_tree.specs.Productions.{Rel, word as a_word, named, numbered, sorted, Part, part, Gives, gives, spotted, Many, none, some}
use Rattle.tht_tree.specs.Grammar as g
use Rattle.tht_tree.specs.Grammar.{Nested, Tree, a_term, a_body, StepForm, step_have, step_open_var, step_open_fact, step_unfold, step_fold, step_rewrite, step_use, StmtForm, stmt_read, stmt_write, stmt_alloc, stmt_free, stmt_publish, stmt_retract, stmt_call, stmt_do, stmt_atomic, stmt_par, stmt_step, EndForm, end_ret, end_if, end_case_atom, end_case_bool, end_case_seq, end_dead}
use Rattle.tht_tree.specs.Layout.{Shape, word, Printed, step, body}
use Rattle.tht_grammar.proofs.Beginnings.{spells_some, part_begins, forms_begin, step_form_begins, stmt_form_begins, end_form_begins}
use Rattle.tht_layout.proofs.Prints.{Prints, prints_by, prints_as, prints_word, prints_name, prints_number, prints_sort, prints_part, prints_gives, prints_spotted, prints_many}
use Rattle.tht_layout.proofs.Printing as show
use Rattle.tht_layout.proofs.Printing.{stmt, stmt_kind, stmt_is, end, end_kind, end_is, body_is}
use Rattle.tht_layout.proofs.Spotless as spotless
use Rattle.tht_layout.proofs.Good.{AllGood, Told}
use Rattle.tht_layout.proofs.TermRules.{inner_at, prints_inside}
use Rattle.tht_layout.proofs.Terms.{by_gives, TermsInside, terms_inside, off_told, prints_off, open_within, never_spells}
use Rattle.tht_layout.proofs.Lists.{Each, none as no_more, more as next_item, prints_inner, arguments_told, prints_arguments, terms_told, prints_terms, cells_told, prints_cells, nums_told, prints_nums, maps_same, all_print}
use Rattle.tht_layout.proofs.Assns.{AssnsInside, assns_inside, box_told, prints_box}
use Rattle.tht_layout.proofs.Proofs.{ProofsInside, proofs_inside, prints_proof}
use Rattle.tht_layout.proofs.Gives.{GivesInside, gives_inside, prints_give}

-- a form of a step, a statement or an end, whichever
abbrev StepForms : ((n : Nested) → Rel (Tree n)) → Rel StepKind
StepForms I i x j = (f : StepForm) × g.step_form I f i x j

abbrev StmtForms : ((n : Nested) → Rel (Tree n)) → Rel StmtKind
StmtForms I i x j = (f : StmtForm) × g.stmt_form I f i x j

abbrev EndForms : ((n : Nested) → Rel (Tree n)) → Rel EndKind
EndForms I i x j = (f : EndForm) × g.end_form I f i x j

abbrev StepAt : ℕ → StepKind → Type 0
StepAt e x = (d : ℕ) (rest : List Shape) → d ≤ e → Prints bare_step_kind (StepForms (inner_at d)) (step x) x rest

abbrev StmtKindAt : ℕ → StmtKind → Type 0
StmtKindAt e x = (d : ℕ) (rest : List Shape) → d ≤ e → Prints bare_stmt_kind (StmtForms (inner_at d)) (stmt_kind x) x rest

abbrev StmtAt : ℕ → Stmt → Type 0
StmtAt e x = (d : ℕ) (rest : List Shape) → d ≤ e → Prints bare_stmt (g.stmt (inner_at d)) (stmt x) x rest

abbrev EndKindAt : ℕ → EndKind → Type 0
EndKindAt e x = (d : ℕ) (rest : List Shape) → d ≤ e → Prints bare_end_kind (EndForms (inner_at d)) (end_kind x) x rest

abbrev EndAt : ℕ → End → Type 0
EndAt e x = (d : ℕ) (rest : List Shape) → d ≤ e → Prints bare_end (g.end (inner_at d)) (end x) x rest

abbrev BodyAt : ℕ → Body → Type 0
BodyAt e x = (d : ℕ) (rest : List Shape) → d ≤ e → Prints bare_body (g.body (inner_at d)) (body x) x rest

-- a body that was written inside, where e constructs are open around it
pub record InnerBody (e : ℕ) (x : Body) : Type 0 where
  pub at : BodyAt (suc e) x
  pub within : suc e ≤ 100

pub prints_body : {A B : Type 0} {f : A → B} {R : Body → Rel A} {p : Printed} {x : A} {rest : List Shape} {e : ℕ} (y : Body) → InnerBody e y
    → (d : ℕ) → d ≤ e
    → ((z : Body) → bare_body z ≡ bare_body y → Prints f (R z) p x rest) → Prints f (Part (inner_at d a_body) R) (λ after. body y (p after)) x rest
prints_body {p = p} {rest = rest} {e = e} y h d below rests =
    let few : suc e ≤ 100 = h.within in prints_part (prints_inside a_body d (omega arith) (h.at (suc d) (p rest) (omega arith))) rests

pub record BodiesInside (e : ℕ) (I : (n : Nested) → Rel (Tree n)) : Type 0 where
  pub body : (i j : List Tok) (x : Body) → AllGood i → I a_body i x j → Told (InnerBody e x) j

-- ---- spots

never_step : (I : (n : Nested) → Rel (Tree n)) (spot : Spot) (y : StmtKind) (j : List Tok)
    → Part (StepForms I) (λ x. Gives (c.Proof (record { spot = spot; kind = x }))) [] y j → ⊥
never_step I spot y j h = spells_some (part_begins (forms_begin (step_form_begins I))) refl j y h

never_stmt : (I : (n : Nested) → Rel (Tree n)) (spot : Spot) (y : Stmt) (j : List Tok)
    → Part (StmtForms I) (λ x. Gives (record { spot = spot; kind = x })) [] y j → ⊥
never_stmt I spot y j h = spells_some (part_begins (forms_begin (stmt_form_begins I))) refl j y h

never_end : (I : (n : Nested) → Rel (Tree n)) (spot : Spot) (y : End) (j : List Tok)
    → Part (EndForms I) (λ x. Gives (record { spot = spot; kind = x })) [] y j → ⊥
never_end I spot y j h = spells_some (part_begins (forms_begin (end_form_begins I))) refl j y h

same_stmt : (s spot : Spot) (z x : StmtKind) → bare_stmt_kind z ≡ bare_stmt_kind x
    → bare_stmt (record { spot = s; kind = z }) ≡ bare_stmt (record { spot = spot; kind = x })
same_stmt s spot z x same =
    spotless.bare_stmt_is s z ∙ (ap (λ (y : StmtKind). roll-Stmt (record { spot = no_spot; kind = y })) same ∙ sym (spotless.bare_stmt_is spot x))

same_end : (s spot : Spot) (z x : EndKind) → bare_end_kind z ≡ bare_end_kind x
    → bare_end (record { spot = s; kind = z }) ≡ bare_end (record { spot = spot; kind = x })
same_end s spot z x same =
    spotless.bare_end_is s z ∙ (ap (λ (y : EndKind). roll-End (record { spot = no_spot; kind = y })) same ∙ sym (spotless.bare_end_is spot x))

stmt_with_spot : (e : ℕ) (spot : Spot) (x : StmtKind) → StmtKindAt e x → StmtAt e (record { spot = spot; kind = x })
stmt_with_spot e spot x h d rest below =
    prints_as (λ r. ap (λ (f : Printed). f r) (stmt_is spot x))
    (prints_spotted (λ s. prints_part (h d rest below) (λ z same. prints_gives (same_stmt s spot z x same))) (never_stmt (inner_at d)))

end_with_spot : (e : ℕ) (spot : Spot) (x : EndKind) → EndKindAt e x → EndAt e (record { spot = spot; kind = x })
end_with_spot e spot x h d rest below =
    prints_as (λ r. ap (λ (f : Printed). f r) (end_is spot x))
    (prints_spotted (λ s. prints_part (h d rest below) (λ z same. prints_gives (same_end s spot z x same))) (never_end (inner_at d)))

-- a step as a statement
same_step : (s spot : Spot) (z x : StepKind) → bare_step_kind z ≡ bare_step_kind x
    → bare_stmt_kind (c.Proof (record { spot = s; kind = z })) ≡ bare_stmt_kind (c.Proof (record { spot = spot; kind = x }))
same_step s spot z x same =
    spotless.bare_stmt_Proof (record { spot = s; kind = z })
    ∙ (ap (λ (y : StepKind). c.Proof (record { spot = no_spot; kind = y })) same
    ∙ sym (spotless.bare_stmt_Proof (record { spot = spot; kind = x })))

step_with_spot : (e : ℕ) (spot : Spot) (x : StepKind) → StepAt e x → StmtKindAt e (c.Proof (record { spot = spot; kind = x }))
step_with_spot e spot x h d rest below =
    prints_as (λ r. ap (λ (f : Printed). f r) (show.printed_stmt_Proof (record { spot = spot; kind = x })))
    (prints_by (λ i j y r. (stmt_step, r))
    (prints_spotted (λ s. prints_part (h d rest below) (λ z same. prints_gives (same_step s spot z x same))) (never_step (inner_at d))))

module _ (e : ℕ) (within : e ≤ 100) (I : (n : Nested) → Rel (Tree n)) (terms_in : TermsInside e I)
    (never : (j : List Tok) (x : Term) → I a_term [] x j → ⊥)
    (assns_in : AssnsInside e I) (proofs_in : ProofsInside e I) (gives_in : GivesInside e I) (bodies_in : BodiesInside e I) where
  -- ---- steps

  step_told : (f : StepForm) (i j : List Tok) (x : StepKind) → AllGood i → g.step_form I f i x j → Told (StepAt e x) j
  step_told step_have _ j tree good (a_word (named {w = w_x} (a_word (part {x = y} h_y (a_word (part {x = z} h_z r)))))) =
      let u_y = terms_in.term _ _ _ good.1.1.1 h_y in
      let u_z = proofs_in.proof _ _ _ u_y.rest.1 h_z in
      by_gives (λ made l. Told (StepAt e made) l) r
      (record {
        it = λ d rest below. prints_by (λ i l m s. (step_have, s)) (prints_word k.Have refl
            (prints_name w_x.text (good.1.0.is_name refl) (prints_word k.Colon refl
            (prints_part (prints_inner y u_y.it d _ below) (λ y' same_y. prints_word k.By refl
            (prints_proof z u_z.it d below (λ z' same_z. prints_gives (cc))))))));
        rest = u_z.rest;
      })
  step_told step_open_var _ j tree good (a_word (numbered {w = w_x} (a_word (named {w = w_y} (a_word (sorted {z = z} s_z r)))))) =
      by_gives (λ made l. Told (StepAt e made) l) r
      (record {
        it = λ d rest below. prints_by (λ i l m s. (step_open_var, s))
            (prints_word k.Open refl (prints_number w_x.value (good.1.0.is_small refl)
            (prints_word k.As refl (prints_name w_y.text (good.1.1.1.0.is_name refl)
            (prints_word k.Colon refl (prints_sort z (prints_gives refl)))))));
        rest = good.1.1.1.1.1.1;
      })
  step_told step_open_fact _ j tree good (a_word (numbered {w = w_x} (a_word (named {w = w_y} r)))) =
      by_gives (λ made l. Told (StepAt e made) l) r
      (record {
        it = λ d rest below. prints_by (λ i l m s. (step_open_fact, s))
            (prints_word k.Open refl (prints_number w_x.value (good.1.0.is_small refl)
            (prints_word k.As refl (prints_name w_y.text (good.1.1.1.0.is_name refl) (prints_gives refl)))));
        rest = good.1.1.1.1;
      })
  step_told step_unfold _ j tree good (a_word (numbered {w = w_x} r)) =
      by_gives (λ made l. Told (StepAt e made) l) r
      (record {
        it = λ d rest below. prints_by (λ i l m s. (step_unfold, s))
            (prints_word k.Unfold refl (prints_number w_x.value (good.1.0.is_small refl) (prints_gives refl)));
        rest = good.1.1;
      })
  step_told step_fold _ j tree good (a_word (named {w = w_x} (part {x = y} h_y (a_word (part {x = z} h_z r))))) =
      let u_y = arguments_told e I terms_in never _ _ _ good.1.1 h_y in
      let u_z = gives_in.give _ _ _ u_y.rest.1 h_z in
      by_gives (λ made l. Told (StepAt e made) l) r
      (record {
        it = λ d rest below. prints_by (λ i l m s. (step_fold, s)) (prints_word k.Fold refl
            (prints_name w_x.text (good.1.0.is_name refl) (prints_part (prints_arguments y u_y.it d _ below)
            (λ y' same_y. prints_word k.By refl (prints_give z u_z.it d below (λ z' same_z. prints_gives (cc)))))));
        rest = u_z.rest;
      })
  step_told step_rewrite _ j tree good (a_word (numbered {w = w_x} (numbered {w = w_y}
      (a_word (part {x = z} h_z (a_word (part {x = u} h_u r))))))) =
      let u_z = terms_in.term _ _ _ good.1.1.1.1 h_z in
      let u_u = proofs_in.proof _ _ _ u_z.rest.1 h_u in
      by_gives (λ made l. Told (StepAt e made) l) r
      (record {
        it = λ d rest below. prints_by (λ i l m s. (step_rewrite, s))
            (prints_word k.Rewrite refl (prints_number w_x.value (good.1.0.is_small refl)
            (prints_number w_y.value (good.1.1.0.is_small refl)
            (prints_word k.To refl (prints_part (prints_inner z u_z.it d _ below)
            (λ z' same_z. prints_word k.By refl (prints_proof u u_u.it d below (λ u' same_u. prints_gives (cc)))))))));
        rest = u_u.rest;
      })
  step_told step_use _ j tree good (a_word (named {w = w_x} (part {x = y} h_y (a_word (part {x = z} h_z r))))) =
      let u_y = arguments_told e I terms_in never _ _ _ good.1.1 h_y in
      let u_z = gives_in.give _ _ _ u_y.rest.1 h_z in
      by_gives (λ made l. Told (StepAt e made) l) r
      (record {
        it = λ d rest below. prints_by (λ i l m s. (step_use, s)) (prints_word k.Use refl
            (prints_name w_x.text (good.1.0.is_name refl) (prints_part (prints_arguments y u_y.it d _ below)
            (λ y' same_y. prints_word k.By refl (prints_give z u_z.it d below (λ z' same_z. prints_gives (cc)))))));
        rest = u_z.rest;
      })

  -- ---- statements

  stmt_form_told : (f : StmtForm) (i j : List Tok) (x : StmtKind) → AllGood i → g.stmt_form I f i x j → Told (StmtKindAt e x) j
  stmt_form_told stmt_read _ j tree good (named {w = w_x} (a_word (sorted {z = y} s_y
      (a_word (a_word (part {x = z} h_z (a_word (numbered {w = w_u} (a_word (named {w = w_v} (a_word (part {x = w} h_w r)))))))))))) =
      let u_z = terms_in.term _ _ _ good.1.1.1.1.1 h_z in
      let u_w = proofs_in.proof _ _ _ u_z.rest.1.1.1.1.1 h_w in
      by_gives (λ made l. Told (StmtKindAt e made) l) r
      (record {
        it = λ d rest below. prints_as (λ r. ap (λ (f : Printed). f r) (show.printed_stmt_Read w_x.text y z w_u.value w_v.text w))
            (prints_by (λ i l m s. (stmt_read, s)) (prints_name w_x.text (good.0.is_name refl)
            (prints_word k.Colon refl (prints_sort y (prints_word k.LeftArrow refl
            (prints_word k.Read refl (prints_part (prints_inner z u_z.it d _ below)
            (λ z' same_z. prints_word k.At refl (prints_number w_u.value (u_z.rest.1.0.is_small refl)
            (prints_word k.As refl (prints_name w_v.text (u_z.rest.1.1.1.0.is_name refl)
            (prints_word k.By refl (prints_proof w u_w.it d below
            (λ w' same_w. prints_gives
            (cc (spotless.bare_stmt_Read w_x.text y z' w_u.value w_v.text w', spotless.bare_stmt_Read w_x.text y z w_u.value w_v.text w))))))))))))))));
        rest = u_w.rest;
      })
  stmt_form_told stmt_write _ j tree good (a_word (part {x = x} h_x
      (part {x = y} h_y (a_word (numbered {w = w_z} (a_word (part {x = u} h_u r))))))) =
      let u_x = off_told e within I terms_in _ _ _ good.1 h_x in
      let u_y = off_told e within I terms_in _ _ _ u_x.rest h_y in
      let u_u = proofs_in.proof _ _ _ u_y.rest.1.1.1 h_u in
      by_gives (λ made l. Told (StmtKindAt e made) l) r
      (record {
        it = λ d rest below. prints_as (λ r. ap (λ (f : Printed). f r) (show.printed_stmt_Write x y w_z.value u))
            (prints_by (λ i l m s. (stmt_write, s)) (prints_word k.Write refl
            (prints_part (prints_off x u_x.it d _ below) (λ x' same_x. prints_part (prints_off y u_y.it d _ below)
            (λ y' same_y. prints_word k.At refl (prints_number w_z.value (u_y.rest.1.0.is_small refl)
            (prints_word k.By refl (prints_proof u u_u.it d below
            (λ u' same_u. prints_gives
            (cc (spotless.bare_stmt_Write x' y' w_z.value u', spotless.bare_stmt_Write x y w_z.value u)))))))))));
        rest = u_u.rest;
      })
  stmt_form_told stmt_alloc _ j tree good (named {w = w_x} (a_word (a_word (a_word (part {x = y} h_y (a_word r)))))) =
      let u_y = cells_told e I terms_in never _ _ _ good.1.1.1.1 h_y in
      by_gives (λ made l. Told (StmtKindAt e made) l) r
      (record {
        it = λ d rest below. prints_as (λ r. ap (λ (f : Printed). f r) (show.printed_stmt_Alloc w_x.text y))
            (prints_by (λ i l m s. (stmt_alloc, s)) (prints_name w_x.text (good.0.is_name refl)
            (prints_word k.LeftArrow refl (prints_word k.Alloc refl
            (prints_word k.LParen refl (prints_part (prints_cells y u_y.it d _ below)
            (λ y' same_y. prints_word k.RParen refl (prints_gives
            (cc (spotless.bare_stmt_Alloc w_x.text y', spotless.bare_stmt_Alloc w_x.text y, maps_same y' y same_y))))))))));
        rest = u_y.rest.1;
      })
  stmt_form_told stmt_free _ j tree good (a_word (part {x = x} h_x (a_word (numbered {w = w_y} (a_word (part {x = z} h_z r)))))) =
      let u_x = terms_in.term _ _ _ good.1 h_x in
      let u_z = proofs_in.proof _ _ _ u_x.rest.1.1.1 h_z in
      by_gives (λ made l. Told (StmtKindAt e made) l) r
      (record {
        it = λ d rest below. prints_as (λ r. ap (λ (f : Printed). f r) (show.printed_stmt_Free x w_y.value z))
            (prints_by (λ i l m s. (stmt_free, s)) (prints_word k.Free refl
            (prints_part (prints_inner x u_x.it d _ below) (λ x' same_x. prints_word k.At refl
            (prints_number w_y.value (u_x.rest.1.0.is_small refl)
            (prints_word k.By refl (prints_proof z u_z.it d below
            (λ z' same_z. prints_gives
            (cc (spotless.bare_stmt_Free x' w_y.value z', spotless.bare_stmt_Free x w_y.value z))))))))));
        rest = u_z.rest;
      })
  stmt_form_told stmt_publish _ j tree good (a_word (part {x = x} h_x (a_word (numbered {w = w_y} (a_word (part {x = z} h_z r)))))) =
      let u_x = terms_in.term _ _ _ good.1 h_x in
      let u_z = proofs_in.proof _ _ _ u_x.rest.1.1.1 h_z in
      by_gives (λ made l. Told (StmtKindAt e made) l) r
      (record {
        it = λ d rest below. prints_as (λ r. ap (λ (f : Printed). f r) (show.printed_stmt_Publish x w_y.value z))
            (prints_by (λ i l m s. (stmt_publish, s)) (prints_word k.Publish refl
            (prints_part (prints_inner x u_x.it d _ below) (λ x' same_x. prints_word k.At refl
            (prints_number w_y.value (u_x.rest.1.0.is_small refl)
            (prints_word k.By refl (prints_proof z u_z.it d below
            (λ z' same_z. prints_gives
            (cc (spotless.bare_stmt_Publish x' w_y.value z', spotless.bare_stmt_Publish x w_y.value z))))))))));
        rest = u_z.rest;
      })
  stmt_form_told stmt_retract _ j tree good (a_word (part {x = x} h_x (a_word (numbered {w = w_y} (a_word (part {x = z} h_z r)))))) =
      let u_x = terms_in.term _ _ _ good.1 h_x in
      let u_z = proofs_in.proof _ _ _ u_x.rest.1.1.1 h_z in
      by_gives (λ made l. Told (StmtKindAt e made) l) r
      (record {
        it = λ d rest below. prints_as (λ r. ap (λ (f : Printed). f r) (show.printed_stmt_Retract x w_y.value z))
            (prints_by (λ i l m s. (stmt_retract, s)) (prints_word k.Retract refl
            (prints_part (prints_inner x u_x.it d _ below) (λ x' same_x. prints_word k.At refl
            (prints_number w_y.value (u_x.rest.1.0.is_small refl)
            (prints_word k.By refl (prints_proof z u_z.it d below
            (λ z' same_z. prints_gives
            (cc (spotless.bare_stmt_Retract x' w_y.value z', spotless.bare_stmt_Retract x w_y.value z))))))))));
        rest = u_z.rest;
      })
  stmt_form_told stmt_call _ j tree good (named {w = w_x} (a_word (a_word
      (named {w = w_y} (part {x = z} h_z (a_word (part {x = u} h_u (a_word (a_word (part {x = v} h_v r)))))))))) =
      let u_z = arguments_told e I terms_in never _ _ _ good.1.1.1.1 h_z in
      let u_u = terms_told e I terms_in never 64 _ _ _ u_z.rest.1 h_u in
      let u_v = gives_in.give _ _ _ u_u.rest.1.1 h_v in
      by_gives (λ made l. Told (StmtKindAt e made) l) r
      (record {
        it = λ d rest below. prints_as (λ r. ap (λ (f : Printed). f r) (show.printed_stmt_Call w_x.text w_y.text z u v))
            (prints_by (λ i l m s. (stmt_call, s)) (prints_name w_x.text (good.0.is_name refl)
            (prints_word k.LeftArrow refl (prints_word k.Call refl
            (prints_name w_y.text (good.1.1.1.0.is_name refl)
            (prints_part (prints_arguments z u_z.it d _ below)
            (λ z' same_z. prints_word k.LBracket refl
            (prints_part (prints_terms 64 u u_u.it d _ below)
            (λ u' same_u. prints_word k.RBracket refl
            (prints_word k.By refl (prints_give v u_v.it d below
            (λ v' same_v. prints_gives
            (cc (spotless.bare_stmt_Call w_x.text w_y.text z' u' v', spotless.bare_stmt_Call w_x.text w_y.text z u v, maps_same u' u same_u))))))))))))));
        rest = u_v.rest;
      })
  stmt_form_told stmt_do _ j tree good (named {w = w_x} (a_word (sorted {z = y} s_y
      (a_word (a_word (part {x = z} h_z (part {x = u} h_u (part {x = v} h_v r)))))))) =
      let u_z = nums_told _ _ _ good.1.1.1.1.1 h_z in
      let u_u = bodies_in.body _ _ _ u_z.rest h_u in
      let u_v = box_told e I assns_in _ _ _ u_u.rest h_v in
      by_gives (λ made l. Told (StmtKindAt e made) l) r
      (record {
        it = λ d rest below. prints_as (λ r. ap (λ (f : Printed). f r) (show.printed_stmt_Do w_x.text y z u v))
            (prints_by (λ i l m s. (stmt_do, s)) (prints_name w_x.text (good.0.is_name refl)
            (prints_word k.Colon refl (prints_sort y (prints_word k.LeftArrow refl
            (prints_word k.Do refl (prints_part (prints_nums z _ u_z.it)
            (λ z' same_z. prints_body u u_u.it d below (λ u' same_u. prints_part (prints_box v u_v.it d _ below)
            (λ v' same_v. prints_gives
            (cc (spotless.bare_stmt_Do w_x.text y z' u' v', spotless.bare_stmt_Do w_x.text y z u v))))))))))));
        rest = u_v.rest;
      })
  stmt_form_told stmt_atomic _ j tree good (named {w = w_x} (a_word
      (sorted {z = y} s_y (a_word (a_word (part {x = z} h_z (part {x = u} h_u (part {x = v} h_v r)))))))) =
      let u_z = nums_told _ _ _ good.1.1.1.1.1 h_z in
      let u_u = bodies_in.body _ _ _ u_z.rest h_u in
      let u_v = box_told e I assns_in _ _ _ u_u.rest h_v in
      by_gives (λ made l. Told (StmtKindAt e made) l) r
      (record {
        it = λ d rest below. prints_as (λ r. ap (λ (f : Printed). f r) (show.printed_stmt_Atomic w_x.text y z u v))
            (prints_by (λ i l m s. (stmt_atomic, s)) (prints_name w_x.text (good.0.is_name refl)
            (prints_word k.Colon refl (prints_sort y (prints_word k.LeftArrow refl
            (prints_word k.Atomic refl (prints_part (prints_nums z _ u_z.it)
            (λ z' same_z. prints_body u u_u.it d below (λ u' same_u. prints_part (prints_box v u_v.it d _ below)
            (λ v' same_v. prints_gives
            (cc (spotless.bare_stmt_Atomic w_x.text y z' u' v', spotless.bare_stmt_Atomic w_x.text y z u v))))))))))));
        rest = u_v.rest;
      })
  stmt_form_told stmt_par _ j tree good (a_word (named {w = w_x} (a_word
      (sorted {z = y} s_y (a_word (named {w = w_z} (a_word (sorted {z = u} s_u
      (a_word (a_word (a_word (part {x = v} h_v (part {x = w} h_w
      (part {x = m} h_m (part {x = n} h_n (part {x = p} h_p (part {x = o} h_o r))))))))))))))))) =
      let u_v = nums_told _ _ _ good.1.1.1.1.1.1.1.1.1.1.1 h_v in
      let u_w = bodies_in.body _ _ _ u_v.rest h_w in
      let u_m = box_told e I assns_in _ _ _ u_w.rest h_m in
      let u_n = nums_told _ _ _ u_m.rest h_n in
      let u_p = bodies_in.body _ _ _ u_n.rest h_p in
      let u_o = box_told e I assns_in _ _ _ u_p.rest h_o in
      by_gives (λ made l. Told (StmtKindAt e made) l) r
      (record {
        it = λ d rest below. prints_as (λ r. ap (λ (f : Printed). f r) (show.printed_stmt_Par w_x.text y w_z.text u v w m n p o))
            (prints_by (λ i l m s. (stmt_par, s)) (prints_word k.LParen refl
            (prints_name w_x.text (good.1.0.is_name refl) (prints_word k.Colon refl
            (prints_sort y (prints_word k.Comma refl (prints_name w_z.text (good.1.1.1.1.1.0.is_name refl)
            (prints_word k.Colon refl (prints_sort u (prints_word k.RParen refl
            (prints_word k.LeftArrow refl (prints_word k.Par refl
            (prints_part (prints_nums v _ u_v.it)
            (λ v' same_v. prints_body w u_w.it d below
            (λ w' same_w. prints_part (prints_box m u_m.it d _ below)
            (λ m' same_m. prints_part (prints_nums n _ u_n.it)
            (λ n' same_n. prints_body p u_p.it d below
            (λ p' same_p. prints_part (prints_box o u_o.it d _ below)
            (λ o' same_o. prints_gives
            (cc (spotless.bare_stmt_Par w_x.text y w_z.text u v' w' m' n' p' o', spotless.bare_stmt_Par w_x.text y w_z.text u v w m n p o)))))))))))))))))))));
        rest = u_o.rest;
      })
  stmt_form_told stmt_step _ j tree good (spotted {w = w} (part {x = x} h r)) =
      let u = step_told h.0 _ _ _ good h.1 in
      by_gives (λ made l. Told (StmtKindAt e made) l) r (record { it = step_with_spot e w.spot x u.it; rest = u.rest })

  stmt_told : (i j : List Tok) (x : Stmt) → AllGood i → g.stmt I i x j → Told (StmtAt e x) j
  stmt_told _ j tree good (spotted {w = w} (part {x = x} h r)) =
      let u = stmt_form_told h.0 _ _ _ good h.1 in
      by_gives (λ made l. Told (StmtAt e made) l) r (record { it = stmt_with_spot e w.spot x u.it; rest = u.rest })

  ended_told : (i j : List Tok) (x : Stmt) → AllGood i → g.ended I i x j → Told (StmtAt e x) j
  ended_told i j x good (part h (a_word gives)) = let u = stmt_told _ _ _ good h in record { it = u.it; rest = u.rest.1 }

  stmts_told : {i j : List Tok} {xs : List Stmt} → AllGood i → Many (g.ended I) i xs j → Told (Each (StmtAt e) xs) j
  stmts_told good none = record { it = no_more; rest = good }
  stmts_told good (some h hs) =
      let u = ended_told _ _ _ good h in
      let v = stmts_told u.rest hs in
      record { it = next_item u.it v.it; rest = v.rest }

  -- ---- ends

  end_form_told : (f : EndForm) (i j : List Tok) (x : EndKind) → AllGood i → g.end_form I f i x j → Told (EndKindAt e x) j
  end_form_told end_ret _ j tree good (a_word (part {x = x} h_x (a_word (part {x = y} h_y r)))) =
      let u_x = terms_in.term _ _ _ good.1 h_x in
      let u_y = gives_in.give _ _ _ u_x.rest.1 h_y in
      by_gives (λ made l. Told (EndKindAt e made) l) r
      (record {
        it = λ d rest below. prints_as (λ r. ap (λ (f : Printed). f r) (show.printed_end_Ret x y))
            (prints_by (λ i l m s. (end_ret, s)) (prints_word k.Ret refl
            (prints_part (prints_inner x u_x.it d _ below) (λ x' same_x. prints_word k.By refl
            (prints_give y u_y.it d below (λ y' same_y. prints_gives (cc (spotless.bare_end_Ret x' y', spotless.bare_end_Ret x y))))))));
        rest = u_y.rest;
      })
  end_form_told end_if _ j tree good (a_word (part {x = x} h_x (a_word (named {w = w_y} (part {x = z} h_z (a_word (part {x = u} h_u r))))))) =
      let u_x = terms_in.term _ _ _ good.1 h_x in
      let u_z = bodies_in.body _ _ _ u_x.rest.1.1 h_z in
      let u_u = bodies_in.body _ _ _ u_z.rest.1 h_u in
      by_gives (λ made l. Told (EndKindAt e made) l) r
      (record {
        it = λ d rest below. prints_as (λ r. ap (λ (f : Printed). f r) (show.printed_end_If x w_y.text z u))
            (prints_by (λ i l m s. (end_if, s)) (prints_word k.If refl
            (prints_part (prints_inner x u_x.it d _ below) (λ x' same_x. prints_word k.As refl
            (prints_name w_y.text (u_x.rest.1.0.is_name refl)
            (prints_body z u_z.it d below (λ z' same_z. prints_word k.Else refl
            (prints_body u u_u.it d below (λ u' same_u. prints_gives
            (cc (spotless.bare_end_If x' w_y.text z' u', spotless.bare_end_If x w_y.text z u)))))))))));
        rest = u_u.rest;
      })
  end_form_told end_case_atom _ j tree good (a_word (numbered {w = w_x} (part {x = y} h_y (part {x = z} h_z r)))) =
      let u_y = bodies_in.body _ _ _ good.1.1 h_y in
      let u_z = bodies_in.body _ _ _ u_y.rest h_z in
      by_gives (λ made l. Told (EndKindAt e made) l) r
      (record {
        it = λ d rest below. prints_as (λ r. ap (λ (f : Printed). f r) (show.printed_end_CaseAtom w_x.value y z))
            (prints_by (λ i l m s. (end_case_atom, s)) (prints_word k.Case refl
            (prints_number w_x.value (good.1.0.is_small refl) (prints_body y u_y.it d below
            (λ y' same_y. prints_body z u_z.it d below (λ z' same_z. prints_gives
            (cc (spotless.bare_end_CaseAtom w_x.value y' z', spotless.bare_end_CaseAtom w_x.value y z))))))));
        rest = u_z.rest;
      })
  end_form_told end_case_bool _ j tree good (a_word (a_word (part {x = x} h_x
      (a_word (a_word (named {w = w_y} (part {x = z} h_z (part {x = u} h_u r)))))))) =
      let u_x = terms_in.term _ _ _ good.1.1 h_x in
      let u_z = bodies_in.body _ _ _ u_x.rest.1.1.1 h_z in
      let u_u = bodies_in.body _ _ _ u_z.rest h_u in
      by_gives (λ made l. Told (EndKindAt e made) l) r
      (record {
        it = λ d rest below. prints_as (λ r. ap (λ (f : Printed). f r) (show.printed_end_CaseBool x w_y.text z u))
            (prints_by (λ i l m s. (end_case_bool, s)) (prints_word k.Case refl
            (prints_word k.LBracket refl (prints_part (prints_inner x u_x.it d _ below)
            (λ x' same_x. prints_word k.RBracket refl (prints_word k.As refl
            (prints_name w_y.text (u_x.rest.1.1.0.is_name refl)
            (prints_body z u_z.it d below (λ z' same_z. prints_body u u_u.it d below
            (λ u' same_u. prints_gives
            (cc (spotless.bare_end_CaseBool x' w_y.text z' u', spotless.bare_end_CaseBool x w_y.text z u))))))))))));
        rest = u_u.rest;
      })
  end_form_told end_case_seq _ j tree good (a_word (a_word (part {x = x} h_x
      (a_word (named {w = w_y} (part {x = z} h_z (named {w = w_u} (named {w = w_v} (part {x = w} h_w r))))))))) =
      let u_x = terms_in.term _ _ _ good.1.1 h_x in
      let u_z = bodies_in.body _ _ _ u_x.rest.1.1 h_z in
      let u_w = bodies_in.body _ _ _ u_z.rest.1.1 h_w in
      by_gives (λ made l. Told (EndKindAt e made) l) r
      (record {
        it = λ d rest below. prints_as (λ r. ap (λ (f : Printed). f r) (show.printed_end_CaseSeq x w_y.text z w_u.text w_v.text w))
            (prints_by (λ i l m s. (end_case_seq, s)) (prints_word k.Case refl
            (prints_word k.Seq refl (prints_part (prints_inner x u_x.it d _ below)
            (λ x' same_x. prints_word k.As refl (prints_name w_y.text (u_x.rest.1.0.is_name refl)
            (prints_body z u_z.it d below (λ z' same_z. prints_name w_u.text (u_z.rest.0.is_name refl)
            (prints_name w_v.text (u_z.rest.1.0.is_name refl)
            (prints_body w u_w.it d below (λ w' same_w. prints_gives
            (cc (spotless.bare_end_CaseSeq x' w_y.text z' w_u.text w_v.text w', spotless.bare_end_CaseSeq x w_y.text z w_u.text w_v.text w)))))))))))));
        rest = u_w.rest;
      })
  end_form_told end_dead _ j tree good (a_word (part {x = x} h_x (part {x = y} h_y r))) =
      let u_x = proofs_in.proof _ _ _ good.1 h_x in
      let u_y = bodies_in.body _ _ _ u_x.rest h_y in
      by_gives (λ made l. Told (EndKindAt e made) l) r
      (record {
        it = λ d rest below. prints_as (λ r. ap (λ (f : Printed). f r) (show.printed_end_Dead x y))
            (prints_by (λ i l m s. (end_dead, s)) (prints_word k.Dead refl
            (prints_proof x u_x.it d below (λ x' same_x. prints_body y u_y.it d below
            (λ y' same_y. prints_gives (cc (spotless.bare_end_Dead x' y', spotless.bare_end_Dead x y)))))));
        rest = u_y.rest;
      })

  end_told : (i j : List Tok) (x : End) → AllGood i → g.end I i x j → Told (EndAt e x) j
  end_told _ j tree good (spotted {w = w} (part {x = x} h r)) =
      let u = end_form_told h.0 _ _ _ good h.1 in
      by_gives (λ made l. Told (EndAt e made) l) r (record { it = end_with_spot e w.spot x u.it; rest = u.rest })

  -- ---- bodies

  body_told : (i j : List Tok) (x : Body) → AllGood i → g.body I i x j → Told (BodyAt e x) j
  body_told _ j tree good (a_word (part {x = xs} h_xs (part {x = y} h_y (a_word r)))) =
      let u_xs = stmts_told good.1 h_xs in
      let u_y = end_told _ _ _ u_xs.rest h_y in
      by_gives (λ made l. Told (BodyAt e made) l) r
      (record {
        it = λ d rest below. prints_as (λ r. ap (λ (f : Printed). f r) (body_is xs y))
            (prints_word k.LBrace refl
            (prints_part (prints_many bare_stmt (g.stmt (inner_at d)) stmt xs (end y (word k.RBrace ∷ rest))
            (all_print (λ z after q. q d after below) u_xs.it))
            (λ xs' same_xs. prints_part (u_y.it d (word k.RBrace ∷ rest) below)
            (λ y' same_y. prints_word k.RBrace refl (prints_gives (cc (spotless.bare_body_is xs' y', spotless.bare_body_is xs y)))))));
        rest = u_y.rest.1;
      })

-- ---- at every depth

pub bodies_inside : (more d : ℕ) → BodiesInside d (g.spells more d)
bodies_inside zero d = record { body = λ i j x good h. absurd h }
bodies_inside (suc more) d =
    let I : (n : Nested) → Rel (Tree n) = g.spells more (suc d) in
    record {
      body = λ i j x good h. told i j x good (open_within a_body (suc d) I i j x good h.0 h.1)
          (body_told (suc d) (open_within a_body (suc d) I i j x good h.0 h.1) I (terms_inside more (suc d))
          (λ l y s. never_spells more (suc d) a_term l y s) (assns_inside more (suc d)) (proofs_inside more (suc d)) (gives_inside more (suc d))
          (bodies_inside more (suc d)) i j x good h.1);
    }
  where
    told : (i j : List Tok) (x : Body) → AllGood i → suc d ≤ 100 → Told (BodyAt (suc d) x) j → Told (InnerBody d x) j
    told i j x good few u = record { it = record { at = u.it; within = few }; rest = u.rest }
