-- What is printed of a declaration, of main and of a file spells it, but for its spots.
use Rattle.std.proofs.Common.{◌≡◌, ℕ, ◌≤◌, sym, ◌∙◌, refl, arith, false, List, ◌∷◌, length, map}
use Rattle.tht_tree.specs.declared.plain.Spot.{Spot}
use Rattle.tht_tree.specs.declared.token.TokenKind.{TokenKind}
use Rattle.tht_tree.specs.declared.token.TokenKind.TheVariants as k
use Rattle.tht_tree.specs.declared.assn.Assn.{Assn}
use Rattle.tht_tree.specs.declared.decl.Param.{Param}
use Rattle.tht_tree.specs.declared.decl.Head.{Head}
use Rattle.tht_tree.specs.declared.decl.Initial.{Initial}
use Rattle.tht_tree.specs.declared.decl.Access.{Access}
use Rattle.tht_tree.specs.declared.decl.Access.TheVariants as access
use Rattle.tht_tree.specs.declared.decl.DeclKind.{DeclKind}
use Rattle.tht_tree.specs.declared.file.Main.{Main}
use Rattle.tht_tree.specs.WithoutSpots.{bare_decl_kind, bare_main}
use Rattle.tht_tree.specs.Tokens.{Tok}
use Rattle.tht_tree.specs.Productions.{Rel, word as a_word, named, numbered, sorted, part, gives, spotted}
use Rattle.tht_tree.specs.Grammar as g
use Rattle.tht_tree.specs.Grammar.{Nested, Tree, a_term, an_assn, a_body, InitialForm, initial_num, initial_true, initial_false, initial_null, initial_unit, initial_root, AccessForm, without_shared, with_shared, DeclForm, decl_root, decl_invariant, decl_pred, decl_pred_on, decl_lemma, decl_lemma_seq, decl_lemma_nat, decl_txn, decl_proc}
use Rattle.tht_tree.specs.Layout.{Shape, word, name, Printed, starts_with_star, commas, param, params, brackets, initial, defining, box, assn, head, decl, main}
use Rattle.tht_layout.proofs.Prints.{Prints, prints_by, prints_as, prints_word, prints_name, prints_number, prints_sort, prints_part, prints_gives, prints_spotted}
use Rattle.tht_layout.proofs.Good.{AllGood, Told}
use Rattle.tht_layout.proofs.TermRules.{inner_at}
use Rattle.tht_layout.proofs.Terms.{by_gives}
use Rattle.tht_layout.proofs.Lists.{Each, WellNamed, params_told, prints_params, map_same}
use Rattle.tht_layout.proofs.AssnRules.{entire}
use Rattle.tht_layout.proofs.Assns.{AssnAt, AssnsInside, box_told, prints_box, prints_inner_assn}
use Rattle.tht_layout.proofs.Gives.{GivesInside, prints_give}
use Rattle.tht_layout.proofs.Bodies.{BodiesInside, prints_body}

-- ---- what holds no construct

abbrev pub plain : {A : Type 0} → A → A
plain x = x

abbrev InitialAt : Initial → Type 0
InitialAt x = (rest : List Shape) → Prints plain g.initial (initial x) x rest

initial_form_told : (f : InitialForm) (i j : List Tok) (x : Initial) → AllGood i → g.initial_form f i x j → Told (InitialAt x) j
initial_form_told initial_num _ j _ good (numbered {w = w} gives) =
    record {
      it = λ rest. prints_by (λ i l m s. (initial_num, s)) (prints_number w.value (good.0.is_small refl)
          (prints_gives refl));
      rest = good.1;
    }
initial_form_told initial_true _ j _ good (a_word gives) =
    record { it = λ rest. prints_by (λ i l m s. (initial_true, s)) (prints_word k.True refl (prints_gives refl)); rest = good.1 }
initial_form_told initial_false _ j _ good (a_word gives) =
    record { it = λ rest. prints_by (λ i l m s. (initial_false, s)) (prints_word k.False refl (prints_gives refl)); rest = good.1 }
initial_form_told initial_null _ j _ good (a_word gives) =
    record { it = λ rest. prints_by (λ i l m s. (initial_null, s)) (prints_word k.Null refl (prints_gives refl)); rest = good.1 }
initial_form_told initial_unit _ j _ good (a_word (a_word gives)) =
    record {
      it = λ rest. prints_by (λ i l m s. (initial_unit, s)) (prints_word k.LParen refl
          (prints_word k.RParen refl (prints_gives refl)));
      rest = good.1.1;
    }
initial_form_told initial_root _ j _ good (named {w = w} gives) =
    record { it = λ rest. prints_by (λ i l m s. (initial_root, s)) (prints_name w.text (good.0.is_name refl) (prints_gives refl)); rest = good.1 }

initial_told : (i j : List Tok) (x : Initial) → AllGood i → g.initial i x j → Told (InitialAt x) j
initial_told i j x good h = initial_form_told h.0 i j x good h.1

-- parameters in parentheses
abbrev Params : List Param → Type 0
Params ps = Each WellNamed ps × (length ps ≤ 16)

params_in : (i j : List Tok) (ps : List Param) → AllGood i → g.params i ps j → Told (Params ps) j
params_in _ j ps good (a_word (part h (a_word gives))) = let u = params_told _ _ _ good.1 h in record { it = u.it; rest = u.rest.1 }

prints_in_parens : (ps : List Param) (rest : List Shape) → Params ps → Prints plain g.params (params ps) ps rest
prints_in_parens ps rest h =
    prints_word k.LParen refl (prints_part (prints_params ps (word k.RParen ∷ rest) h)
    (λ z same. prints_word k.RParen refl (prints_gives (sym (map_same z) ∙ (same ∙ map_same ps)))))

-- logical variables in brackets
logic_in : (i j : List Tok) (ps : List Param) → AllGood i → g.logic i ps j → Told (Params ps) j
logic_in _ j ps good (a_word (part h (a_word gives))) = let u = params_told _ _ _ good.1 h in record { it = u.it; rest = u.rest.1 }

prints_in_brackets : (ps : List Param) (rest : List Shape) → Params ps → Prints plain g.logic (brackets (commas (map param ps))) ps rest
prints_in_brackets ps rest h =
    prints_word k.LBracket refl (prints_part (prints_params ps (word k.RBracket ∷ rest) h)
    (λ z same. prints_word k.RBracket refl (prints_gives (sym (map_same z) ∙ (same ∙ map_same ps)))))

-- the word `shared`, or none
abbrev Who : ((n : Nested) → Rel (Tree n)) → Rel Access
Who I i x j = (f : AccessForm) × g.access_form I f i x j

who_word : Access → Printed
who_word access.Private rest = rest
who_word access.Shared rest = word k.Shared ∷ rest

who_told : (I : (n : Nested) → Rel (Tree n)) (f : AccessForm) (i j : List Tok) (x : Access) → AllGood i → g.access_form I f i x j
    → Told ((rest : List Shape) → Prints plain (Who (inner_at 0)) (who_word x) x rest) j
unfolding who_word
who_told I without_shared _ j _ good gives = record { it = λ rest. prints_by (λ i l m s. (without_shared, s)) (prints_gives refl); rest = good }
who_told I with_shared _ j _ good (a_word gives) = record {
  it = λ rest. prints_by (λ i l m s. (with_shared, s))
      (prints_word k.Shared refl (prints_gives refl));
  rest = good.1;
}

defined : (x : Access) (n : List ℕ) (ps : List Param) (rest : List Shape)
    → defining x n ps rest ≡ who_word x (word k.Pred ∷ name n ∷ params ps rest)
unfolding who_word
defined access.Private n ps rest = refl
defined access.Shared n ps rest = refl

-- ---- declarations

-- a declaration at the outermost level: no construct is open
abbrev pub DeclAt : DeclKind → Type 0
DeclAt x = (rest : List Shape) (spot : Spot) → Prints bare_decl_kind (λ i y j. (f : DeclForm) × g.decl_form (inner_at 0) spot f i y j)
    (decl x) x rest

abbrev pub MainAt : Main → Type 0
MainAt x = (rest : List Shape) → Prints bare_main (g.main (inner_at 0)) (main x) x rest

module _ (I : (n : Nested) → Rel (Tree n)) (assns_in : AssnsInside 0 I) (gives_in : GivesInside 0 I) (bodies_in : BodiesInside 0 I) where
  -- a box, an assertion and a head, as they are printed
  Boxed : Assn → Type 0
  Boxed x = AssnAt 0 1 false x

  box_in : (i j : List Tok) (x : Assn) → AllGood i → g.box I i x j → Told (Boxed x) j
  unfolding Boxed
  box_in = box_told 0 I assns_in

  prints_boxed : (x : Assn) → Boxed x → (rest : List Shape) → Prints entire (g.box (inner_at 0)) (box x) x rest
  unfolding Boxed
  prints_boxed x h rest = prints_box x h 0 rest (omega arith)

  assn_in : (i j : List Tok) (x : Assn) → AllGood i → I an_assn i x j → Told (Boxed x) j
  unfolding Boxed
  assn_in i j x good h = let u = assns_in.assn i j x good h in record { it = u.it.0; rest = u.rest }

  prints_defined : (x : Assn) → Boxed x → (q : TokenKind) (rest : List Shape) → starts_with_star (word q ∷ rest) ≡ false
      → Prints entire (inner_at 0 an_assn) (assn x) x (word q ∷ rest)
  unfolding Boxed
  prints_defined x h q rest no_star = prints_inner_assn x h 0 (word q ∷ rest) (omega arith) no_star

  HeadAt : Head → Type 0
  HeadAt x = (rest : List Shape) → Prints plain (g.head (inner_at 0)) (head x) x rest

  head_told : (i j : List Tok) (x : Head) → AllGood i → g.head I i x j → Told (HeadAt x) j
  unfolding HeadAt
  head_told _ j x good (named {w = w_x} (part {x = ps} h_ps (part {x = vs} h_vs
      (part {x = pre} h_pre (named {w = w_r} (a_word (sorted {z = z} s (part {x = post} h_post r)))))))) =
      let u_ps = params_in _ _ _ good.1 h_ps in
      let u_vs = logic_in _ _ _ u_ps.rest h_vs in
      let u_pre = box_in _ _ _ u_vs.rest h_pre in
      let u_post = box_in _ _ _ u_pre.rest.1.1.1 h_post in
      by_gives (λ made l. Told ((rest : List Shape) → Prints plain (g.head (inner_at 0)) (head made) made rest) l) r
      (record {
        it = λ rest. prints_name w_x.text (good.0.is_name refl)
            (prints_part (prints_in_parens ps _ u_ps.it) (λ ps' same_ps.
            prints_part (prints_in_brackets vs _ u_vs.it) (λ vs' same_vs.
            prints_part (prints_boxed pre u_pre.it _) (λ pre' same_pre.
            prints_name w_r.text (u_pre.rest.0.is_name refl) (prints_word k.Colon refl (prints_sort z
            (prints_part (prints_boxed post u_post.it rest) (λ post' same_post. prints_gives (cc)))))))));
        rest = u_post.rest;
      })

  -- ---- declarations

  pub decl_form_told : (spot : Spot) (f : DeclForm) (i j : List Tok) (x : DeclKind) → AllGood i → g.decl_form I spot f i x j → Told (DeclAt x) j
  unfolding HeadAt
  decl_form_told spot decl_root _ j tree good (a_word (named {w = w_x} (a_word (sorted {z = z} s (a_word (part {x = y} h_y (a_word r))))))) =
      let u_y = initial_told _ _ _ good.1.1.1.1.1 h_y in
      by_gives (λ made l. Told (DeclAt made) l) r
      (record {
        it = λ rest other. prints_by (λ i l m s. (decl_root, s))
            (prints_word k.Root refl (prints_name w_x.text (good.1.0.is_name refl)
            (prints_word k.Colon refl (prints_sort z (prints_word k.Assign refl
            (prints_part (u_y.it (word k.Semicolon ∷ rest)) (λ y' same_y. prints_word k.Semicolon refl (prints_gives (cc)))))))));
        rest = u_y.rest.1;
      })
  decl_form_told spot decl_invariant _ j tree good (a_word (part {x = x} h_x (a_word (part {x = y} h_y (a_word r))))) =
      let u_x = box_in _ _ _ good.1 h_x in
      let u_y = gives_in.give _ _ _ u_x.rest.1 h_y in
      by_gives (λ made l. Told (DeclAt made) l) r
      (record {
        it = λ rest other. prints_by (λ i l m s. (decl_invariant, s))
            (prints_word k.Invariant refl (prints_part (prints_boxed x u_x.it _) (λ x' same_x. prints_word k.By refl
            (prints_give y u_y.it 0 (omega arith) (λ y' same_y. prints_word k.Semicolon refl (prints_gives (cc)))))));
        rest = u_y.rest.1;
      })
  decl_form_told spot decl_pred _ j tree good (part {x = who} h_who
      (a_word (named {w = w_x} (part {x = ps} h_ps (a_word (part {x = y} h_y (a_word r))))))) =
      let u_who = who_told I h_who.0 _ _ _ good h_who.1 in
      let u_ps = params_in _ _ _ u_who.rest.1.1 h_ps in
      let u_y = assn_in _ _ _ u_ps.rest.1 h_y in
      by_gives (λ made l. Told (DeclAt made) l) r
      (record {
        it = λ rest other. prints_as (λ after. defined who w_x.text ps (word k.Equal ∷ assn y (word k.Semicolon ∷ after)))
            (prints_by (λ i l m s. (decl_pred, s))
            (prints_part (u_who.it _) (λ who' same_who. prints_word k.Pred refl (prints_name w_x.text (u_who.rest.1.0.is_name refl)
            (prints_part (prints_in_parens ps _ u_ps.it) (λ ps' same_ps. prints_word k.Equal refl
            (prints_part (prints_defined y u_y.it k.Semicolon rest refl) (λ y' same_y. prints_word k.Semicolon refl (prints_gives (cc))))))))));
        rest = u_y.rest.1;
      })
  decl_form_told spot decl_pred_on _ j tree good
      (part {x = who} h_who (a_word (named {w = w_x} (part {x = ps} h_ps
      (a_word (named {w = w_u} (a_word (a_word (part {x = y} h_y
      (a_word (named {w = w_m} (named {w = w_n} (a_word (part {x = z} h_z (a_word r))))))))))))))) =
      let u_who = who_told I h_who.0 _ _ _ good h_who.1 in
      let u_ps = params_in _ _ _ u_who.rest.1.1 h_ps in
      let u_y = assn_in _ _ _ u_ps.rest.1.1.1.1 h_y in
      let u_z = assn_in _ _ _ u_y.rest.1.1.1.1 h_z in
      by_gives (λ made l. Told (DeclAt made) l) r
      (record {
        it = λ rest other. prints_as (λ after. defined who w_x.text ps
            (word k.On ∷ name w_u.text ∷ word k.Nil ∷ word k.Equal ∷ assn y
            (word k.Cons ∷ name w_m.text ∷ name w_n.text ∷ word k.Equal ∷ assn z (word k.Semicolon ∷ after))))
            (prints_by (λ i l m s. (decl_pred_on, s))
            (prints_part (u_who.it _) (λ who' same_who. prints_word k.Pred refl (prints_name w_x.text (u_who.rest.1.0.is_name refl)
            (prints_part (prints_in_parens ps _ u_ps.it) (λ ps' same_ps. prints_word k.On refl
            (prints_name w_u.text (u_ps.rest.1.0.is_name refl) (prints_word k.Nil refl (prints_word k.Equal refl
            (prints_part (prints_defined y u_y.it k.Cons _ refl) (λ y' same_y. prints_word k.Cons refl
            (prints_name w_m.text (u_y.rest.1.0.is_name refl) (prints_name w_n.text (u_y.rest.1.1.0.is_name refl) (prints_word k.Equal refl
            (prints_part (prints_defined z u_z.it k.Semicolon rest refl)
            (λ z' same_z. prints_word k.Semicolon refl (prints_gives (cc))))))))))))))))));
        rest = u_z.rest.1;
      })
  decl_form_told spot decl_lemma _ j tree good (a_word (named {w = w_x}
      (part {x = ps} h_ps (part {x = pre} h_pre (part {x = post} h_post (part {x = y} h_y r)))))) =
      let u_ps = params_in _ _ _ good.1.1 h_ps in
      let u_pre = box_in _ _ _ u_ps.rest h_pre in
      let u_post = box_in _ _ _ u_pre.rest h_post in
      let u_y = bodies_in.body _ _ _ u_post.rest h_y in
      by_gives (λ made l. Told (DeclAt made) l) r
      (record {
        it = λ rest other. prints_by (λ i l m s. (decl_lemma, s))
            (prints_word k.Lemma refl (prints_name w_x.text (good.1.0.is_name refl) (prints_part (prints_in_parens ps _ u_ps.it) (λ ps' same_ps.
            prints_part (prints_boxed pre u_pre.it _) (λ pre' same_pre. prints_part (prints_boxed post u_post.it _) (λ post' same_post.
            prints_body y u_y.it 0 (omega arith) (λ y' same_y. prints_gives (cc))))))));
        rest = u_y.rest;
      })
  decl_form_told spot decl_lemma_seq _ j tree good
      (a_word (named {w = w_x} (part {x = ps} h_ps (a_word (named {w = w_u}
      (part {x = pre} h_pre (part {x = post} h_post (a_word (part {x = y} h_y
      (a_word (named {w = w_m} (named {w = w_n} (part {x = z} h_z r))))))))))))) =
      let u_ps = params_in _ _ _ good.1.1 h_ps in
      let u_pre = box_in _ _ _ u_ps.rest.1.1 h_pre in
      let u_post = box_in _ _ _ u_pre.rest h_post in
      let u_y = bodies_in.body _ _ _ u_post.rest.1 h_y in
      let u_z = bodies_in.body _ _ _ u_y.rest.1.1.1 h_z in
      by_gives (λ made l. Told (DeclAt made) l) r
      (record {
        it = λ rest other. prints_by (λ i l m s. (decl_lemma_seq, s))
            (prints_word k.Lemma refl (prints_name w_x.text (good.1.0.is_name refl)
            (prints_part (prints_in_parens ps _ u_ps.it) (λ ps' same_ps. prints_word k.On refl
            (prints_name w_u.text (u_ps.rest.1.0.is_name refl)
            (prints_part (prints_boxed pre u_pre.it _) (λ pre' same_pre. prints_part (prints_boxed post u_post.it _)
            (λ post' same_post. prints_word k.Nil refl
            (prints_body y u_y.it 0 (omega arith) (λ y' same_y. prints_word k.Cons refl
            (prints_name w_m.text (u_y.rest.1.0.is_name refl) (prints_name w_n.text (u_y.rest.1.1.0.is_name refl)
            (prints_body z u_z.it 0 (omega arith) (λ z' same_z. prints_gives (cc)))))))))))))));
        rest = u_z.rest;
      })
  decl_form_told spot decl_lemma_nat _ j tree good
      (a_word (named {w = w_x} (part {x = ps} h_ps (a_word (named {w = w_u}
      (part {x = pre} h_pre (part {x = post} h_post (a_word (part {x = y} h_y (a_word (named {w = w_m} (part {x = z} h_z r)))))))))))) =
      let u_ps = params_in _ _ _ good.1.1 h_ps in
      let u_pre = box_in _ _ _ u_ps.rest.1.1 h_pre in
      let u_post = box_in _ _ _ u_pre.rest h_post in
      let u_y = bodies_in.body _ _ _ u_post.rest.1 h_y in
      let u_z = bodies_in.body _ _ _ u_y.rest.1.1 h_z in
      by_gives (λ made l. Told (DeclAt made) l) r
      (record {
        it = λ rest other. prints_by (λ i l m s. (decl_lemma_nat, s))
            (prints_word k.Lemma refl (prints_name w_x.text (good.1.0.is_name refl)
            (prints_part (prints_in_parens ps _ u_ps.it) (λ ps' same_ps. prints_word k.On refl
            (prints_name w_u.text (u_ps.rest.1.0.is_name refl)
            (prints_part (prints_boxed pre u_pre.it _) (λ pre' same_pre. prints_part (prints_boxed post u_post.it _)
            (λ post' same_post. prints_word k.Zero refl
            (prints_body y u_y.it 0 (omega arith) (λ y' same_y. prints_word k.Next refl (prints_name w_m.text (u_y.rest.1.0.is_name refl)
            (prints_body z u_z.it 0 (omega arith) (λ z' same_z. prints_gives (cc))))))))))))));
        rest = u_z.rest;
      })
  decl_form_told spot decl_txn _ j tree good (a_word (part {x = x} h_x (part {x = y} h_y r))) =
      let u_x = head_told _ _ _ good.1 h_x in
      let u_y = bodies_in.body _ _ _ u_x.rest h_y in
      by_gives (λ made l. Told (DeclAt made) l) r
      (record {
        it = λ rest other. prints_by (λ i l m s. (decl_txn, s))
            (prints_word k.Txn refl (prints_part (u_x.it _) (λ x' same_x. prints_body y u_y.it 0 (omega arith) (λ y' same_y. prints_gives (cc)))));
        rest = u_y.rest;
      })
  decl_form_told spot decl_proc _ j tree good (a_word (part {x = x} h_x (part {x = y} h_y r))) =
      let u_x = head_told _ _ _ good.1 h_x in
      let u_y = bodies_in.body _ _ _ u_x.rest h_y in
      by_gives (λ made l. Told (DeclAt made) l) r
      (record {
        it = λ rest other. prints_by (λ i l m s. (decl_proc, s))
            (prints_word k.Proc refl (prints_part (u_x.it _) (λ x' same_x. prints_body y u_y.it 0 (omega arith) (λ y' same_y. prints_gives (cc)))));
        rest = u_y.rest;
      })

  -- ---- main

  pub main_told : (i j : List Tok) (x : Main) → AllGood i → g.main I i x j → Told (MainAt x) j
  main_told _ j tree good (spotted {w = w} (a_word (named {w = w_x} (a_word (sorted {z = z} s (part {x = post} h_post (part {x = y} h_y r))))))) =
      let u_post = box_in _ _ _ good.1.1.1.1 h_post in
      let u_y = bodies_in.body _ _ _ u_post.rest h_y in
      by_gives (λ made l. Told ((rest : List Shape) → Prints bare_main (g.main (inner_at 0)) (main made) made rest) l) r
      (record {
        it = λ rest. prints_spotted (λ spot. prints_word k.Main refl
            (prints_name w_x.text (good.1.0.is_name refl) (prints_word k.Colon refl (prints_sort z
            (prints_part (prints_boxed post u_post.it _) (λ post' same_post. prints_body y u_y.it 0 (omega arith)
            (λ y' same_y. prints_gives (cc))))))))
            (λ spot made l h. elim h [ ]);
        rest = u_y.rest;
      })
