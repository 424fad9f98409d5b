-- What is printed of a file spells it, but for its spots.
use Rattle.std.proofs.Common.{◌≡◌, ℕ, suc, ◌<◌, ap, sym, subst, ◌∙◌, refl, true, false, List, [], ◌∷◌, map}
use Rattle.tht_tree.specs.declared.plain.Spot.{Spot}
use Rattle.tht_tree.specs.declared.token.TokenKind.TheVariants as k
use Rattle.tht_tree.specs.declared.decl.Access.{Access}
use Rattle.tht_tree.specs.declared.decl.Access.TheVariants as access
use Rattle.tht_tree.specs.declared.decl.DeclKind.{DeclKind}
use Rattle.tht_tree.specs.declared.decl.DeclKind.TheVariants as d
use Rattle.tht_tree.specs.declared.decl.Decl.{Decl}
use Rattle.tht_tree.specs.declared.file.Main.{Main}
use Rattle.tht_tree.specs.declared.file.Source1.{Source1}
use Rattle.tht_tree.specs.WithoutSpots.{no_spot, bare_decl, bare_main, without_spots}
use Rattle.tht_tree.specs.Values.{number_limit}
use Rattle.tht_tree.specs.Tokens.{Info, Tok, tok, counts_at, version}
use Rattle.tht_tree.specs.Productions.{Rel, RoomAt, word as a_word, named, sorted, Part, part, Gives, gives, spotted}
use Rattle.tht_tree.specs.Grammar as g
use Rattle.tht_tree.specs.Grammar.{Nested, Tree, a_version, without_shared, with_shared, DeclForm, decl_root, decl_invariant, decl_pred, decl_pred_on, decl_lemma, decl_lemma_seq, decl_lemma_nat, decl_txn, decl_proc, no_decls, more_decls, SpellsFile}
use Rattle.tht_tree.specs.Layout.{Shape, word, number, Printed, starts_with_star, decl, main}
use Rattle.tht_grammar.proofs.Beginnings.{spells_some, part_begins, forms_begin, decl_form_begins, decl_begins}
use Rattle.tht_layout.proofs.Prints.{Prints, Put, Shows, shows_end, shows_word, shows_number, prints_word, prints_part, prints_gives, prints_spotted}
use Rattle.tht_layout.proofs.Good.{AllGood, Told, room_is}
use Rattle.tht_layout.proofs.TermRules.{inner_at}
use Rattle.tht_layout.proofs.Terms.{by_gives}
use Rattle.tht_layout.proofs.Assns.{AssnsInside, assns_inside}
use Rattle.tht_layout.proofs.Gives.{GivesInside, gives_inside}
use Rattle.tht_layout.proofs.Bodies.{BodiesInside, bodies_inside}
use Rattle.tht_layout.proofs.Decls.{plain, DeclAt, MainAt, decl_form_told, main_told}

-- ---- roots

-- how many roots stand before what follows the declaration
abbrev pub root_count : DeclKind → ℕ → ℕ
root_count (d.Root x z y) n = suc n
root_count _ n = n

-- a root is one of at most 256
abbrev pub RootLeft : DeclKind → ℕ → Type 0
RootLeft (d.Root x z y) n = n < 256
RootLeft _ n = Unit {0}

module _ (I : (n : Nested) → Rel (Tree n)) where
  record Counted (x : DeclKind) (n : ℕ) (i : List Tok) : Type 0 where
    left : RootLeft x n
    count : g.counts_root I i n ≡ root_count x n

  counted_pred : (f : g.AccessForm) (i i' : List Tok) (w : Info) (who : Access) (x : DeclKind) (n : ℕ) → RootLeft x n → n ≡ root_count x n
      → g.access_form I f i who (tok k.Pred w ∷ i') → Counted x n i
  counted_pred without_shared _ i' w _ x n left same gives = record { left = left; count = same }
  counted_pred with_shared _ i' w _ x n left same (a_word gives) = record { left = left; count = same }

  counted_told : (spot : Spot) (f : DeclForm) (i j : List Tok) (x : DeclKind) (n : ℕ) → AllGood i → g.RootRoom I n i → g.decl_form I spot f i x j
      → Counted x n i
  counted_told spot decl_root _ j x n good room (a_word {w = w} (named (a_word (sorted s (a_word (part h (a_word gives))))))) =
      record { left = room_is (tok k.Root w) good.0 room; count = refl }
  counted_told spot decl_invariant _ j x n good room (a_word {w = w} {i = i} (part h (a_word (part h' (a_word r))))) =
      by_gives (λ made l. Counted made n (tok k.Invariant w ∷ i)) r (record { left = tt; count = refl })
  counted_told spot decl_pred i j x n good room (part {x = who} h_who
      (a_word {w = w} {i = i'} (named (part h_ps (a_word (part h_y (a_word r))))))) =
      by_gives (λ made l. Counted made n i) r (counted_pred h_who.0 i i' w who _ n tt refl h_who.1)
  counted_told spot decl_pred_on i j x n good room
      (part {x = who} h_who (a_word {w = w} {i = i'} (named (part h_ps
      (a_word (named (a_word (a_word (part h_y (a_word (named (named (a_word (part h_z (a_word r))))))))))))))) =
      by_gives (λ made l. Counted made n i) r (counted_pred h_who.0 i i' w who _ n tt refl h_who.1)
  counted_told spot decl_lemma _ j x n good room (a_word {w = w} {i = i} (named (part h (part h' (part h'' (part h3 r)))))) =
      by_gives (λ made l. Counted made n (tok k.Lemma w ∷ i)) r (record { left = tt; count = refl })
  counted_told spot decl_lemma_seq _ j x n good room (a_word {w = w} {i = i}
      (named (part h (a_word (named (part h' (part h'' (a_word (part h3 (a_word (named (named (part h4 r))))))))))))) =
      by_gives (λ made l. Counted made n (tok k.Lemma w ∷ i)) r (record { left = tt; count = refl })
  counted_told spot decl_lemma_nat _ j x n good room (a_word {w = w} {i = i}
      (named (part h (a_word (named (part h' (part h'' (a_word (part h3 (a_word (named (part h4 r)))))))))))) =
      by_gives (λ made l. Counted made n (tok k.Lemma w ∷ i)) r (record { left = tt; count = refl })
  counted_told spot decl_txn _ j x n good room (a_word {w = w} {i = i} (part h (part h' r))) =
      by_gives (λ made l. Counted made n (tok k.Txn w ∷ i)) r (record { left = tt; count = refl })
  counted_told spot decl_proc _ j x n good room (a_word {w = w} {i = i} (part h (part h' r))) =
      by_gives (λ made l. Counted made n (tok k.Proc w ∷ i)) r (record { left = tt; count = refl })

  -- the same of tokens that were printed
  counted_shown : (x : DeclKind) (n : ℕ) (rest : List Shape) (ts : List Tok) → RootLeft x n → Shows ts (decl x rest)
      → g.RootRoom I n ts × (g.counts_root I ts n ≡ root_count x n)
  counted_shown (d.Root x z y) n rest _ left (shows_word m s) = ((λ _. left), refl)
  counted_shown (d.Invariant x y) n rest _ left (shows_word m s) = (tt, refl)
  counted_shown (d.Pred access.Private x ps y) n rest _ left (shows_word m s) = (tt, refl)
  counted_shown (d.Pred access.Shared x ps y) n rest _ left (shows_word m s) = (tt, refl)
  counted_shown (d.PredOn access.Private x ps u y v w z) n rest _ left (shows_word m s) = (tt, refl)
  counted_shown (d.PredOn access.Shared x ps u y v w z) n rest _ left (shows_word m s) = (tt, refl)
  counted_shown (d.Lemma x) n rest _ left (shows_word m s) = (tt, refl)
  counted_shown (d.Txn x y) n rest _ left (shows_word m s) = (tt, refl)
  counted_shown (d.Proc x y) n rest _ left (shows_word m s) = (tt, refl)

-- no declaration begins with a `*`
pub decl_no_star : (x : DeclKind) (rest : List Shape) → starts_with_star (decl x rest) ≡ false
decl_no_star (d.Root x z y) rest = refl
decl_no_star (d.Invariant x y) rest = refl
decl_no_star (d.Pred access.Private x ps y) rest = refl
decl_no_star (d.Pred access.Shared x ps y) rest = refl
decl_no_star (d.PredOn access.Private x ps u y v w z) rest = refl
decl_no_star (d.PredOn access.Shared x ps u y v w z) rest = refl
decl_no_star (d.Lemma x) rest = refl
decl_no_star (d.Txn x y) rest = refl
decl_no_star (d.Proc x y) rest = refl

-- ---- declarations

-- so many declarations stand before these, so many of them roots
pub data DeclsAt : ℕ → ℕ → List Decl → Type 0 where
  none_left : {m n : ℕ} → DeclsAt m n []
  one_more : {m n : ℕ} {x : Decl} {xs : List Decl} → m < 2000 → RootLeft x.kind n → DeclAt x.kind → DeclsAt (suc m) (root_count x.kind n) xs
      → DeclsAt m n (x ∷ xs)

-- the tokens of declarations
abbrev pub decls : List Decl → Printed
decls [] rest = rest
decls (x ∷ xs) rest = decl x.kind (decls xs rest)

never_decl : (I : (n : Nested) → Rel (Tree n)) (spot : Spot) (y : Decl) (j : List Tok)
    → Part (λ i x l. (f : DeclForm) × g.decl_form I spot f i x l) (λ x. Gives (record { spot = spot; kind = x })) [] y j → ⊥
never_decl I spot y j h = spells_some (part_begins (forms_begin (decl_form_begins I spot))) refl j y h

prints_decl : (x : Decl) → DeclAt x.kind → (rest : List Shape) → Prints bare_decl (g.decl (inner_at 0)) (decl x.kind) x rest
prints_decl x h rest =
    prints_spotted (λ spot. prints_part (h rest spot) (λ z same. prints_gives (ap (λ (y : DeclKind). record { spot = no_spot; kind = y }) same)))
    (never_decl (inner_at 0))

room_at : (m : ℕ) (i : List Tok) → m < 2000 → RoomAt 2000 m i
room_at m [] h = tt
room_at m (t ∷ ts) h = λ _. h

both : (x y : Decl) (xs ys : List Decl) → bare_decl x ≡ bare_decl y → map bare_decl xs ≡ map bare_decl ys
    → map bare_decl (x ∷ xs) ≡ map bare_decl (y ∷ ys)
both x y xs ys p q = cc

prints_more : (m n : ℕ) (x : Decl) (xs : List Decl) (rest : List Shape) → m < 2000 → RootLeft x.kind n → DeclAt x.kind
    → Prints (map bare_decl) (g.Decls (inner_at 0) (suc m) (root_count x.kind n)) (decls xs) xs rest
    → Prints (map bare_decl) (g.Decls (inner_at 0) m n) (decls (x ∷ xs)) (x ∷ xs) rest
prints_more m n x xs rest few left h after =
    record {
      proper = λ ok. first.proper (after.proper ok);
      extends = λ later s. ap (decl x.kind) (after.extends later s)
          ∙ first.extends later s;
      spells = go;
    }
  where
    first : Prints bare_decl (g.decl (inner_at 0)) (decl x.kind) x (decls xs rest)
    first = prints_decl x h (decls xs rest)

    go : (ts : List Tok) → Shows ts (decl x.kind (decls xs rest)) → Put (map bare_decl) (g.Decls (inner_at 0) m n) (x ∷ xs) rest ts
    go ts s =
        let u = first.spells ts s in
        let v = after.spells u.left u.shown in
        let roots = counted_shown (inner_at 0) x.kind n (decls xs rest) ts left s in
        let P : ℕ → Type 0 = λ c. g.Decls (inner_at 0) (suc m) c u.left v.value v.left in
        record {
          left = v.left;
          shown = v.shown;
          value = u.value ∷ v.value;
          same = both u.value x v.value xs u.same v.same;
          spelled = more_decls (room_at m ts few) roots.0 u.spelled (subst P (sym roots.1) v.spelled);
        }

pub prints_decls : {m n : ℕ} (xs : List Decl) (rest : List Shape) → DeclsAt m n xs
    → Prints (map bare_decl) (g.Decls (inner_at 0) m n) (decls xs) xs rest
prints_decls _ rest none_left =
    record { proper = λ ok. ok; extends = λ later s. refl; spells = λ ts s. record { left = ts; shown = s; value = []; same = refl; spelled = no_decls } }
prints_decls _ rest (one_more {m = m} {n = n} {x = x} {xs = xs} few left h hs) = prints_more m n x xs rest few left h (prints_decls xs rest hs)

module _ (I : (n : Nested) → Rel (Tree n)) (assns_in : AssnsInside 0 I) (gives_in : GivesInside 0 I) (bodies_in : BodiesInside 0 I) where
  record DeclOf (n : ℕ) (i : List Tok) (x : Decl) : Type 0 where
    at : DeclAt x.kind
    left : RootLeft x.kind n
    count : g.counts_root I i n ≡ root_count x.kind n

  decl_told : (i j : List Tok) (x : Decl) (n : ℕ) → AllGood i → g.RootRoom I n i → g.decl I i x j → Told (DeclOf n i x) j
  decl_told _ j x n good room (spotted {q = q} {w = w} {i = i} (part {x = y} h r)) =
      let u = decl_form_told I assns_in gives_in bodies_in w.spot h.0 _ _ _ good h.1 in
      let c = counted_told I w.spot h.0 _ _ y n good room h.1 in
      by_gives (λ made l. Told (DeclOf n (tok q w ∷ i) made) l) r
      (record { it = record { at = u.it; left = c.left; count = c.count }; rest = u.rest })

  first_room : (m : ℕ) (i j : List Tok) (x : Decl) → AllGood i → RoomAt 2000 m i → g.decl I i x j → m < 2000
  first_room m [] j x good room h = absurd (spells_some (decl_begins I) refl j x h)
  first_room m (t ∷ ts) j x good room h = room_is t good.0 room

  decls_told : {m n : ℕ} {i j : List Tok} {xs : List Decl} → AllGood i → g.Decls I m n i xs j → Told (DeclsAt m n xs) j
  decls_told good no_decls = record { it = none_left; rest = good }
  decls_told good (more_decls {m = m} {n = n} {i = i} {j = j} {x = x} {xs = xs} room roots h hs) =
      let u = decl_told i j x n good roots h in
      let v = decls_told u.rest hs in
      let P : ℕ → Type 0 = λ c. DeclsAt (suc m) c xs in
      record { it = one_more (first_room m i j x good room h) u.it.left u.it.at (subst P u.it.count v.it); rest = v.rest }

  -- ---- files

  version_told : (i j : List Tok) (n : ℕ) → AllGood i → g.version_number i n j → Told ((n ≡ 1) × (n < number_limit)) j
  version_told _ j _ good (a_version {w = w} is) =
      let counts_here : counts_at w.mark version ≡ true = rw good.0.marked refl in record {
        it =
            (is counts_here, good.0.is_small refl);
        rest = good.1;
      }

prints_version : (n : ℕ) (rest : List Shape) → n ≡ 1 → n < number_limit → Prints plain g.version_number (λ after. number n ∷ after) n rest
prints_version n rest one small = record { proper = λ ok. (small, ok); extends = λ later s. refl; spells = go }
  where
    go : (ts : List Tok) → Shows ts (number n ∷ rest) → Put plain g.version_number n rest ts
    go _ (shows_number {w = w} {ts = ts} m is s) = record { left = ts; shown = s; value = w.value; same = is; spelled = a_version (λ _. is ∙ one) }

-- the tokens of a file
abbrev pub file_tokens : Source1 → Printed
file_tokens x rest = word k.Tht ∷ number x.version ∷ decls x.decls (main x.main rest)

-- a file that was written
pub record FileAt (x : Source1) : Type 0 where
  pub one : x.version ≡ 1
  pub small : x.version < number_limit
  pub decls_at : DeclsAt 0 0 x.decls
  pub main_at : MainAt x.main

same_file : (n n' : ℕ) (xs ys : List Decl) (x y : Main) → n' ≡ n → map bare_decl xs ≡ map bare_decl ys → bare_main x ≡ bare_main y
    → without_spots (record { version = n'; decls = xs; main = x }) ≡ without_spots (record { version = n; decls = ys; main = y })
same_file n n' xs ys x y p q r = λ k. record { version = p k; decls = q k; main = r k }

pub prints_file : (x : Source1) → FileAt x → Prints without_spots (g.file (inner_at 0)) (file_tokens x) x []
prints_file x h =
    prints_word k.Tht refl
    (prints_part (prints_version x.version (decls x.decls (main x.main [])) h.one h.small) (λ n' same_n.
    prints_part (prints_decls x.decls (main x.main []) h.decls_at) (λ xs' same_xs.
    prints_part (h.main_at []) (λ y' same_y. prints_gives (same_file x.version n' xs' x.decls y' x.main same_n same_xs same_y)))))

pub file_told : (i : List Tok) (x : Source1) → AllGood i → SpellsFile i x [] → FileAt x
file_told i x good h = go (h.0) i x good h.1
  where
    go : (bound : ℕ) (i : List Tok) (x : Source1) → AllGood i → g.file (g.spells bound 0) i x [] → FileAt x
    go bound _ x good (a_word (part {x = n} h_n (part {x = xs} h_xs (part {x = y} h_y r)))) =
        let I : (m : Nested) → Rel (Tree m) = g.spells bound 0 in
        let in_assns : AssnsInside 0 I = assns_inside bound 0 in
        let in_gives : GivesInside 0 I = gives_inside bound 0 in
        let in_bodies : BodiesInside 0 I = bodies_inside bound 0 in
        let u_n = version_told I in_assns in_gives in_bodies _ _ _ good.1 h_n in
        let u_xs = decls_told I in_assns in_gives in_bodies u_n.rest h_xs in
        let u_y = main_told I in_assns in_gives in_bodies _ _ _ u_xs.rest h_y in
        by_gives (λ made l. FileAt made) r (record { one = u_n.it.0; small = u_n.it.1; decls_at = u_xs.it; main_at = u_y.it })

-- tokens of these shapes spell the file
pub spelled_again : (x : Source1) (ts : List Tok) → FileAt x → Shows ts (file_tokens x [])
    → (y : Source1) × (without_spots y ≡ without_spots x) × SpellsFile ts y []
spelled_again x ts h s =
    let u = (prints_file x h).spells ts s in ended u.left u.shown u.value u.same u.spelled
  where
    ended : (left : List Tok) → Shows left [] → (y : Source1) → without_spots y ≡ without_spots x → g.file (inner_at 0) ts y left
        → (z : Source1) × (without_spots z ≡ without_spots x) × SpellsFile ts z []
    ended _ shows_end y same spelled = (y, same, (101, spelled))
