-- Parts of productions that readers take in one step, and productions of several forms.
use Rattle.std.proofs.Common.{◌≡◌, ℕ, sym, subst, refl, Bool, true, List, Option}
use Rattle.tht_tree.specs.declared.plain.Sort.{Sort}
use Rattle.tht_tree.specs.declared.token.TokenKind.{TokenKind}
use Rattle.tht_tree.specs.declared.token.TokenKind.TheVariants as k
use Rattle.tht_tree.specs.declared.proof.Proof.{Proof}
use Rattle.tht_tree.specs.declared.give.Give.{Give}
use Rattle.tht_tree.specs.declared.assn.Assn.{Assn}
use Rattle.tht_tree.specs.declared.body.Body.{Body}
use Rattle.tht_tree.specs.declared.decl.Param.{Param}
use Rattle.tht_tree.specs.Tokens.{Tok, first_kind}
use Rattle.tht_tree.specs.Productions.{Rel, Gives, gives, word, Named, named, Sorted, sorted, Numbered, numbered, Part, part, ◌▸◌}
use Rattle.tht_tree.specs.Grammar as g
use Rattle.tht_tree.specs.Grammar.{Nested, Tree, a_term, after_not, after_link, after_len, an_assn, after_either, a_proof, a_give, after_prefix, a_body}
use Rattle.tht_grammar.specs.Steps.{Outcome, Reader, ◌>>=◌, ◌>>◌, pure, expect}
use Rattle.tht_grammar.specs.Reading as r
use Rattle.tht_grammar.proofs.Exact.{Sound, Sample, Reaches, Exact, anywhere, exact_by, exact_pure, exact_less, sample_by}
use Rattle.tht_grammar.proofs.Sequences.{exact_word, exact_named, exact_number, exact_then, exact_until, exact_map}
use Rattle.tht_grammar.proofs.Choices.{OneOf}
use Rattle.tht_grammar.proofs.Assns.{box_exact}
use Rattle.tht_grammar.proofs.NameLists.{param_exact, nums_exact}
use Rattle.tht_grammar.proofs.Constructs.{Constructs, stops, not_star}

pub sample_form : {A F : Type 0} (R : F → Rel A) (f : F) → Sample (R f) → Sample (OneOf R)
sample_form R f s = sample_by (λ i j x h. (f, h)) s

-- it stops anywhere, and so at these tokens
pub exact_any : {A : Type 0} {R S : Rel A} {fewer : Option TokenKind → Bool} {p : Reader A} → Exact R S anywhere p → Exact R S fewer p
exact_any e = exact_less (λ o h. refl) e

-- A production of several forms, where what reads it does as the reader of the form that the tokens spell.
pub exact_forms : {A F : Type 0} {R S : F → Rel A} {stops : Option TokenKind → Bool} {p : Reader A} (one : F → Reader A)
    → ((f : F) → Exact (R f) (S f) stops (one f))
    → (usual : F) → ((i : List Tok) → Sound (OneOf R) i (p i))
    → ((f : F) (i j : List Tok) (x : A) → S f i x j → stops (first_kind j) ≡ true → p i ≡ one f i) → Exact (OneOf R) (OneOf S) stops p
exact_forms {A = A} {stops = stops} one e usual sound same = record {
  sound = sound;
  complete = λ i j x h stop. let P : Outcome A → Type 0 = λ o. Reaches x j o in subst P (sym (same h.0 i j x h.1 stop))
      ((e h.0).complete i j x h.1 stop);
  sample = sample_form _ usual (e usual).sample;
}

module _ {A B : Type 0} {q : TokenKind} where
  word_part_in : {P : Rel A} {R : A → Rel B} {i j : List Tok} {y : B} → Part (q ▸ P) R i y j → (q ▸ Part P R) i y j
  word_part_in (part (word h) s) = word (part h s)

  word_part_out : {P : Rel A} {R : A → Rel B} {i j : List Tok} {y : B} → (q ▸ Part P R) i y j → Part (q ▸ P) R i y j
  word_part_out (word (part h s)) = part (word h) s

  -- a token and a part that are read as one, and what follows
  pub exact_joined : {P Q : Rel A} {R S : A → Rel B} {after : Option TokenKind → Bool} {p : Reader B}
      → Exact (Part (q ▸ P) R) (Part (q ▸ Q) S) after p
      → Exact (q ▸ Part P R) (q ▸ Part Q S) after p
  exact_joined e = exact_by (λ i j x h. word_part_in h) (λ i j x h. word_part_out h) e

abbrev pub OneCase : ((n : Nested) → Rel (Tree n)) → Rel (List ℕ × Proof)
OneCase rel = g.Case rel (λ h q. Gives {A = List ℕ × Proof} (h, q))

abbrev pub OneBlock : ((n : Nested) → Rel (Tree n)) → Rel (List ℕ × (Body × Assn))
OneBlock rel = g.Block rel (λ is y post. Gives {A = List ℕ × (Body × Assn)} (is, (y, post)))

module _ (rel : (n : Nested) → Rel (Tree n)) {A : Type 0} where
  case_in : {R : List ℕ → Proof → Rel A} {i j : List Tok} {y : A} → Part (OneCase rel) (λ b. R b.0 b.1) i y j → g.Case rel R i y j
  case_in (part (word (named (word (part h (word gives))))) s) = word (named (word (part h (word s))))

  case_out : {R : List ℕ → Proof → Rel A} {i j : List Tok} {y : A} → g.Case rel R i y j → Part (OneCase rel) (λ b. R b.0 b.1) i y j
  case_out (word (named (word (part h (word s))))) = part (word (named (word (part h (word gives))))) s

  block_in : {R : List ℕ → Body → Assn → Rel A} {i j : List Tok} {y : A} → Part (OneBlock rel) (λ b. R b.0 b.1.0 b.1.1) i y j → g.Block rel R i y j
  block_in (part (part n (part b (part x gives))) s) = part n (part b (part x s))

  block_out : {R : List ℕ → Body → Assn → Rel A} {i j : List Tok} {y : A} → g.Block rel R i y j → Part (OneBlock rel) (λ b. R b.0 b.1.0 b.1.1) i y j
  block_out (part n (part b (part x s))) = part (part n (part b (part x gives))) s

module _ {A : Type 0} where
  param_in : {R : List ℕ → Sort → Rel A} {i j : List Tok} {y : A} → Part g.param (λ p. R p.name p.sort) i y j
      → Named (λ x. k.Colon ▸ Sorted (λ z. R x z)) i y j
  param_in (part (named (word (sorted e gives))) s) = named (word (sorted e s))

  param_out : {R : List ℕ → Sort → Rel A} {i j : List Tok} {y : A} → Named (λ x. k.Colon ▸ Sorted (λ z. R x z)) i y j
      → Part g.param (λ p. R p.name p.sort) i y j
  param_out (named (word (sorted e s))) = part (named (word (sorted e gives))) s

  -- a name and its sort, and what follows
  pub exact_param : {R S : List ℕ → Sort → Rel A} {after : Option TokenKind → Bool} {more : Param → Reader A}
      → ((p : Param) → Exact (R p.name p.sort) (S p.name p.sort) after (more p))
      → Exact (Named (λ x. k.Colon ▸ Sorted (λ z. R x z))) (Named (λ x. k.Colon ▸ Sorted (λ z. S x z))) after (r.param >>= more)
  exact_param f = exact_by (λ i j x h. param_in h) (λ i j x h. param_out h) (exact_then param_exact f)

  at_in : {R : ℕ → Rel A} {i j : List Tok} {y : A} → Part (k.At ▸ g.number) R i y j → (k.At ▸ Numbered R) i y j
  at_in (part (word (numbered gives)) s) = word (numbered s)

  at_out : {R : ℕ → Rel A} {i j : List Tok} {y : A} → (k.At ▸ Numbered R) i y j → Part (k.At ▸ g.number) R i y j
  at_out (word (numbered s)) = part (word (numbered gives)) s

module _ {inner inner' : (n : Nested) → Rel (Tree n)} {readers : (n : Nested) → Reader (Tree n)} (e : Constructs inner inner' readers) where
  case_exact : Exact (OneCase inner) (OneCase inner') anywhere (r.case readers)
  unfolding r.case
  case_exact = exact_word refl (exact_named (λ h. exact_word refl (exact_until refl refl (e.exact a_proof) (λ q. exact_pure (h, q)))))

  pub exact_case : {A : Type 0} {R S : List ℕ → Proof → Rel A} {after : Option TokenKind → Bool} {more : List ℕ × Proof → Reader A}
      → ((b : List ℕ × Proof) → Exact (R b.0 b.1) (S b.0 b.1) after (more b))
      → Exact (g.Case inner R) (g.Case inner' S) after (r.case readers >>= more)
  exact_case f = exact_by (λ i j x h. case_in inner h) (λ i j x h. case_out inner' h) (exact_then case_exact f)

  -- "by" proof, and what follows
  pub exact_by_proof : {A : Type 0} {R S : Proof → Rel A} {after : Option TokenKind → Bool} {more : Proof → Reader A}
      → ((q : Proof) → Exact (R q) (S q) after (more q)) → Exact (g.ByProof inner R) (g.ByProof inner' S) after (r.by_proof readers >>= more)
  unfolding r.by_proof
  exact_by_proof f = exact_joined (exact_then (exact_word refl (e.exact a_proof)) f)

  -- "by" give, and what is made of it
  pub exact_by_give : {A : Type 0} (f : Give → A)
      → Exact (g.ByGive inner (λ y. Gives (f y))) (g.ByGive inner' (λ y. Gives (f y))) not_star (r.by_give readers >>= (λ y. pure (f y)))
  unfolding r.by_give
  exact_by_give f = exact_joined (exact_map f (exact_word refl (e.exact a_give)))

  -- "by" give ";", and what is made of it
  pub by_give_ended : {A : Type 0} (f : Give → A) → Exact (g.ByGive inner (λ y. k.Semicolon ▸ Gives (f y)))
      (g.ByGive inner' (λ y. k.Semicolon ▸ Gives (f y))) anywhere (r.by_give readers >>= (λ y. expect k.Semicolon >> pure (f y)))
  unfolding r.by_give
  by_give_ended f = exact_joined (exact_until refl refl (exact_word refl (e.exact a_give)) (λ y. exact_pure (f y)))

  -- "at" NUM, and what follows
  pub exact_at : {A : Type 0} {R S : ℕ → Rel A} {after : Option TokenKind → Bool} {more : ℕ → Reader A} → ((m : ℕ) → Exact (R m) (S m) after (more m))
      → Exact (k.At ▸ Numbered R) (k.At ▸ Numbered S) after (r.at_atom readers >>= more)
  unfolding r.at_atom
  exact_at f = exact_by (λ i j x h. at_in h) (λ i j x h. at_out h) (exact_then (exact_word refl exact_number) f)

  -- "at" NUM "by" proof, and what is made of both
  pub at_cell_exact : {A : Type 0} (f : ℕ → Proof → A)
      → Exact (g.AtCell inner (λ m q. Gives (f m q))) (g.AtCell inner' (λ m q. Gives (f m q))) anywhere (r.at_atom readers >>=
      (λ m. r.by_proof readers >>= (λ q. pure (f m q))))
  at_cell_exact f = exact_at (λ m. exact_by_proof (λ q. exact_pure (f m q)))

  -- nums body box
  block_exact : Exact (OneBlock inner) (OneBlock inner') anywhere (r.block readers)
  unfolding r.block
  block_exact = exact_then nums_exact (λ is. exact_then (e.exact a_body) (λ y. exact_then (box_exact e) (λ post. exact_pure (is, (y, post)))))

  pub exact_block : {A : Type 0} {R S : List ℕ → Body → Assn → Rel A} {after : Option TokenKind → Bool} {more : List ℕ × (Body × Assn) → Reader A}
      → ((b : List ℕ × (Body × Assn)) → Exact (R b.0 b.1.0 b.1.1) (S b.0 b.1.0 b.1.1) after (more b))
      → Exact (g.Block inner R) (g.Block inner' S) after (r.block readers >>= more)
  exact_block f = exact_by (λ i j x h. block_in inner h) (λ i j x h. block_out inner' h) (exact_then block_exact f)
