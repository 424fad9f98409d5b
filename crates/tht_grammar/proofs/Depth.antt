-- The readers of constructs are exact at each depth.
use Rattle.std.proofs.Common.{◌≡◌, ℕ, zero, suc, ◌+◌, ◌≤◌, refl, arith, Bool, true, false, List, [], ◌∷◌, Option, Some, None, Ok}
use Rattle.tht_tree.specs.declared.token.TokenKind.{TokenKind}
use Rattle.tht_tree.specs.declared.term.Term.{Term}
use Rattle.tht_tree.specs.Tokens.{Info, Tok, tok, first_kind}
use Rattle.tht_tree.specs.Productions.{Rel, Within}
use Rattle.tht_tree.specs.Grammar as g
use Rattle.tht_tree.specs.Grammar.{Nested, Tree, a_term, after_not, after_link, after_len, an_assn, after_either, a_proof, a_give, after_prefix, a_body, spells}
use Rattle.tht_grammar.specs.Steps.{Reader, exceed_by}
use Rattle.tht_tree.specs.Tokens as tokens
use Rattle.tht_grammar.specs.Reading as r
use Rattle.tht_grammar.specs.Reading.{nested}
use Rattle.tht_grammar.specs.Words.{begins, begins_term}
use Rattle.tht_grammar.proofs.Local.{IsLocal, local_refuse}
use Rattle.tht_grammar.proofs.LocalRules.{local_nested}
use Rattle.tht_grammar.proofs.Beginnings.{production_begins}
use Rattle.tht_grammar.proofs.Exact.{Exact, Empty, exact_by}
use Rattle.tht_grammar.proofs.Lists.{Begun, begun_of}
use Rattle.tht_grammar.proofs.Constructs.{Constructs, stops, exact_deep}
use Rattle.tht_grammar.proofs.Terms.{term_exact, neg_exact, app_exact, prim_exact}
use Rattle.tht_grammar.proofs.Assns.{assn_exact, apr_exact}
use Rattle.tht_grammar.proofs.Proofs.{proof_exact}
use Rattle.tht_grammar.proofs.Gives.{give_exact, gpr_exact}
use Rattle.tht_grammar.proofs.Bodies.{body_exact}
use Rattle.tht_grammar.proofs.Samples.{sample, spells_begins, refused_constructs, takes_first}

-- each production is exact where the constructs inside it are
pub construct_exact : {inner inner' : (n : Nested) → Rel (Tree n)} {readers : (n : Nested) → Reader (Tree n)} → Constructs inner inner' readers
    → ((n : Nested) → IsLocal (readers n))
    → (s : Nested) → Exact (g.production inner s) (g.production inner' s) (stops s) (r.construct readers s)
construct_exact c l a_term = term_exact c
construct_exact c l after_not = neg_exact c
construct_exact c l after_link = app_exact c
construct_exact c l after_len = prim_exact c
construct_exact c l an_assn = assn_exact c
construct_exact c l after_either = apr_exact c
construct_exact c l a_proof = proof_exact c
construct_exact c l a_give = give_exact c
construct_exact c l after_prefix = gpr_exact c
construct_exact c l a_body = body_exact c l

-- What begins a construct can go on, where two more may be inside one another.
begun : (n d : ℕ) (s : Nested) (q : TokenKind) (w : Info) → begins s (Some q) ≡ true → Begun (g.production (spells (suc (suc n)) d) s) (tok q w)
begun n d s q w h = begun_of (construct_exact (refused_constructs n d) (λ n. local_refuse) s) (tok q w) (takes_first s q w h)

-- no token begins at the end
begins_none : (s : Nested) → begins s None ≡ false
begins_none a_term = refl
begins_none after_not = refl
begins_none after_link = refl
begins_none after_len = refl
begins_none an_assn = refl
begins_none after_either = refl
begins_none a_proof = refl
begins_none a_give = refl
begins_none after_prefix = refl
begins_none a_body = refl

within_any : (d : ℕ) → d ≤ 100 → (i : List Tok) → Within d i
within_any d h [] = tt
within_any d h (t ∷ i) = λ counts. h

-- ---- by how many more may be open

-- what nothing spells is read too
exact_empty : {A : Type 0} {R S : Rel A} {fewer : Option TokenKind → Bool} {p : Reader A} → Exact R S fewer p → Exact R Empty fewer p
exact_empty e = exact_by (λ i j x h. h) (λ i j x h. absurd h) e

module _ (d k : ℕ) (s : Nested) where
  -- none, where so many are open
  none_open_some : (n : ℕ) → 100 ≤ d → Exact (spells (suc (suc (suc k))) d s) (spells (suc n) d s) (stops s) (nested 0 s)
  unfolding nested
  none_open_some n full = exact_deep full (begins_none s) (production_begins (spells n (suc d)) s) (begun k (suc d) s) (sample (suc k) d s)

  none_open : (n : ℕ) → 100 ≤ d → Exact (spells (suc (suc (suc k))) d s) (spells n d s) (stops s) (nested 0 s)
  none_open zero full = exact_empty (none_open_some 0 full)
  none_open (suc n) full = none_open_some n full

  -- one more, where the constructs inside are read with one less
  module _ (m : ℕ) (below : suc d ≤ 100) (c : (n : ℕ) → Constructs (spells (suc (suc (suc k))) (suc d)) (spells n (suc d)) (nested m)) where
    one_open_some : (n : ℕ) → Exact (spells (suc (suc (suc (suc k)))) d s) (spells (suc n) d s) (stops s) (nested (suc m) s)
    unfolding nested
    one_open_some n = exact_by (λ i j x h. (within_any (suc d) below i, h)) (λ i j x h. h.1) (construct_exact (c n) (local_nested m) s)

    one_open : (n : ℕ) → Exact (spells (suc (suc (suc (suc k)))) d s) (spells n d s) (stops s) (nested (suc m) s)
    one_open zero = exact_empty (one_open_some 0)
    one_open (suc n) = one_open_some n

never_read : (i j : List Tok) (x : Term) (b : Bool) → exceed_by tokens.deep b i ≡ Ok (x, j) → ⊥
never_read i j x true h = cc
never_read i j x false h = cc

none_ready : (i j : List Tok) (x : Term) → nested 0 a_term i ≡ Ok (x, j) → ⊥
unfolding nested
none_ready i j x h = never_read i j x (begins_term (first_kind i)) h

one_ready : (d k : ℕ) → suc d ≤ 100 → (q : TokenKind) (w : Info) → begins_term (Some q) ≡ true
    → Begun (spells (suc (suc (suc (suc k)))) d a_term) (tok q w)
one_ready d k below q w h = let b = begun (suc k) (suc d) a_term q w h in
    record { more = b.more; value = b.value; all_free = b.all_free; spells = λ l c. ((λ counts. below), b.spells l c) }

-- The readers of constructs, where d are open and m more may be, are exact: against what they spell with any number of
-- constructs inside one another, and answering by what they spell with at least three more of them than may be open.
pub nested_exact : (m d : ℕ) → d + m ≡ 100 → (k n : ℕ) → m ≤ k → Constructs (spells (suc (suc (suc k))) d) (spells n d) (nested m)
nested_exact zero d sum k n h = record {
  exact = λ s. none_open d k s n (omega arith);
  known = spells_begins (suc (suc (suc k))) d;
  known_too = spells_begins n d;
  ready = λ i j x e q w b. absurd (none_ready i j x e);
}
nested_exact (suc m) d sum zero n h = absurd (omega arith)
nested_exact (suc m) d sum (suc k) n h = record {
  exact = λ s. one_open d k s m (omega arith) (λ n. nested_exact m (suc d) (omega arith) k n (omega arith)) n;
  known = spells_begins (suc (suc (suc (suc k)))) d;
  known_too = spells_begins n d;
  ready = λ i j x e q w b. one_ready d k (omega arith) q w b;
}
