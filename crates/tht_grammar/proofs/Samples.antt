-- What each construct may be at least, and how it goes on from its first token.
use Rattle.std.proofs.Common.{◌≡◌, ℕ, zero, suc, refl, true, if◌then◌else◌, List, [], ◌∷◌, Some}
use Rattle.tht_tree.specs.declared.token.TokenKind.{TokenKind}
use Rattle.tht_tree.specs.declared.token.TokenKind.TheVariants as k
use Rattle.tht_tree.specs.declared.term.Term.TheVariants as t
use Rattle.tht_tree.specs.declared.assn.Assn.TheVariants as a
use Rattle.tht_tree.specs.declared.proof.ProofKind.TheVariants as p
use Rattle.tht_tree.specs.declared.give.GiveKind.TheVariants as v
use Rattle.tht_tree.specs.declared.body.Body.{roll-Body}
use Rattle.tht_tree.specs.declared.body.End.{End}
use Rattle.tht_tree.specs.declared.body.EndKind.TheVariants as e
use Rattle.tht_tree.specs.Tokens.{Info, Tok, tok}
use Rattle.tht_tree.specs.Productions.{Rel, Within, gives, word, numbered, part, spotted, chain_first, without, none}
use Rattle.tht_tree.specs.Grammar as g
use Rattle.tht_tree.specs.Grammar.{Nested, Tree, a_term, after_not, after_link, after_len, an_assn, after_either, a_proof, a_give, after_prefix, a_body, prim_num, neg_cmp, apr_emp, bare, proof_todo, give_emp, end_ret, spells}
use Rattle.tht_grammar.specs.Steps.{Reader, refuse, nowhere, same_kind, rest, first_spot, first_value, first_text, expect, chain, repeat}
use Rattle.tht_grammar.specs.Reading as r
use Rattle.tht_grammar.specs.Words.{begins}
use Rattle.tht_grammar.proofs.Local.{left_of}
use Rattle.tht_grammar.proofs.Beginnings.{BeginsWith, production_begins}
use Rattle.tht_grammar.proofs.Exact.{NoStar, Sample, blank, Empty, exact_refuse}
use Rattle.tht_grammar.proofs.Sequences.{IsFresh, fresh_before}
use Rattle.tht_grammar.proofs.Constructs.{Constructs}

-- ---- one token each, but for bodies

abbrev one : TokenKind → List Tok → List Tok
one q l = tok q blank ∷ l

module _ (inner : (n : Nested) → Rel (Tree n)) (l : List Tok) where
  a_sum : g.sum inner (one k.Num l) (t.Num 0) l
  a_sum = (0, chain_first (0, chain_first (0, chain_first (prim_num, numbered gives))))

  a_cmp : g.cmp inner (one k.Num l) (t.Num 0) l
  a_cmp = without (without a_sum)

  the_term : g.term inner (one k.Num l) (t.Num 0) l
  the_term = without (0, chain_first (0, chain_first (neg_cmp, a_cmp)))

  the_apr : g.apr inner (one k.Emp l) a.Emp l
  the_apr = (apr_emp, word gives)

  the_proof : g.proof inner (one k.Todo l) (record { spot = nowhere; kind = p.Todo }) l
  the_proof = (bare, spotted (part (proof_todo, word gives) gives))

  the_gpr : g.gpr inner (one k.Emp l) (record { spot = nowhere; kind = v.Emp }) l
  the_gpr = (bare, spotted (part (give_emp, word gives) gives))

  the_give : g.give inner (one k.Emp l) (record { spot = nowhere; kind = v.Emp }) l
  the_give = spotted (0, chain_first the_gpr)

-- "{" "ret" 0 "by" "emp" "}"
the_end : End
the_end = record { spot = nowhere; kind = e.Ret (t.Num 0) (record { spot = nowhere; kind = v.Emp }) }

the_body : (n d : ℕ) (l : List Tok)
    → g.body (spells (suc n) d) (one k.LBrace (one k.Ret (one k.Num (one k.By (one k.Emp (one k.RBrace l))))))
    (roll-Body (record { stmts = []; end = the_end })) l
unfolding the_end
the_body n d l = word (part none
    (part (spotted (part (
      end_ret,
      word
          (part ((λ counts. cc), the_term (spells n (suc d)) _) (word (part ((λ counts. cc), the_give (spells n (suc d)) _) gives))),
    ) gives)) (word gives)))

-- one token without limits, where so many constructs may be open
in_one : {A : Type 0} {R : Rel A} (d : ℕ) (q : TokenKind) (x : A) → IsFresh q → ((l : List Tok) → NoStar l → R (one q l) x l)
    → Sample (λ i x j. Within d i × R i x j)
in_one d q x f h = record {
  more = one q [];
  value = x;
  blanks = (refl, tt);
  begins = λ l c. fresh_before q blank l f;
  spells = λ l c. ((λ counts. cc), h l c);
}

-- What a construct may be, where two more may be inside one another.
pub sample : (n d : ℕ) (s : Nested) → Sample (spells (suc (suc n)) d s)
sample n d a_term = in_one (suc d) k.Num (t.Num 0) refl (λ l c. the_term (spells (suc n) (suc d)) l)
sample n d after_not = in_one (suc d) k.Num (t.Num 0) refl (λ l c. (neg_cmp, a_cmp (spells (suc n) (suc d)) l))
sample n d after_link = in_one (suc d) k.Num (t.Num 0) refl (λ l c. without (a_sum (spells (suc n) (suc d)) l))
sample n d after_len = in_one (suc d) k.Num (t.Num 0) refl (λ l c. (prim_num, numbered gives))
sample n d an_assn = in_one (suc d) k.Emp a.Emp refl (λ l c. ((0, chain_first (the_apr (spells (suc n) (suc d)) l)), c))
sample n d after_either = in_one (suc d) k.Emp a.Emp refl (λ l c. the_apr (spells (suc n) (suc d)) l)
sample n d a_proof = in_one (suc d) k.Todo (record { spot = nowhere; kind = p.Todo }) refl (λ l c. the_proof (spells (suc n) (suc d)) l)
sample n d a_give = in_one (suc d) k.Emp (record { spot = nowhere; kind = v.Emp }) refl (λ l c. the_give (spells (suc n) (suc d)) l)
sample n d after_prefix = in_one (suc d) k.Emp (record { spot = nowhere; kind = v.Emp }) refl (λ l c. the_gpr (spells (suc n) (suc d)) l)
sample n d a_body = record {
  more = one k.LBrace (one k.Ret (one k.Num (one k.By (one k.Emp (one k.RBrace [])))));
  value = roll-Body (record { stmts = []; end = the_end });
  blanks = (refl, (refl, (refl, (refl, (refl, (refl, tt))))));
  begins = λ l c. refl;
  spells = λ l c. ((λ counts. cc), the_body n (suc d) l);
}

-- ---- which tokens begin a construct

pub spells_begins : (n d : ℕ) (s : Nested) → BeginsWith (begins s) (spells n d s)
spells_begins zero d s = record { known = λ i j x h. absurd h }
spells_begins (suc n) d s = record { known = λ i j x h. (production_begins (spells n (suc d)) s).known i j x h.1 }

-- ---- constructs with nothing read inside

abbrev pub refused : (n : Nested) → Reader (Tree n)
refused n = refuse

-- where two more may be inside one another, each can be completed by a sample
pub refused_constructs : (n d : ℕ) → Constructs (spells (suc (suc n)) d) (λ s. Empty) refused
refused_constructs n d = record {
  exact = λ s. exact_refuse (sample n d s);
  known = spells_begins (suc (suc n)) d;
  known_too = λ s. record { known = λ i j x h. absurd h };
  ready = λ i j x h q w b. cc;
}

-- ---- what a reader takes first

abbrev Takes : Nested → TokenKind → Info → Type 0
Takes s q w = left_of (r.construct refused s (tok q w ∷ [])) ≡ (if begins s (Some q) then [] else tok q w ∷ [])

-- by one case for each kind of token
prim_takes : (q : TokenKind) (w : Info) → Takes after_len q w
unfolding r.prim r.closed same_kind rest first_value first_text
prim_takes k.Num w = refl
prim_takes _ w = refl

app_takes : (q : TokenKind) (w : Info) → Takes after_link q w
unfolding r.app r.sum r.prod r.off chain r.prim r.closed same_kind rest first_value first_text
app_takes k.Num w = refl
app_takes _ w = refl

term_takes : (q : TokenKind) (w : Info) → Takes a_term q w
unfolding r.term r.disj r.conj r.neg r.cmp r.app r.sum r.prod r.off chain r.prim r.closed same_kind rest first_value first_text
term_takes k.Num w = refl
term_takes _ w = refl

neg_takes : (q : TokenKind) (w : Info) → Takes after_not q w
unfolding r.neg r.cmp r.app r.sum r.prod r.off chain r.prim r.closed same_kind rest first_value first_text
neg_takes k.Num w = refl
neg_takes _ w = refl

apr_takes : (q : TokenKind) (w : Info) → Takes after_either q w
unfolding r.apr r.bracketed r.named r.name r.cell r.exists r.either chain expect same_kind rest first_text
apr_takes k.Emp w = refl
apr_takes _ w = refl

assn_takes : (q : TokenKind) (w : Info) → Takes an_assn q w
unfolding r.assn r.apr r.bracketed r.named r.name r.cell r.exists r.either chain expect same_kind rest first_text
assn_takes k.Emp w = refl
assn_takes _ w = refl

proof_takes : (q : TokenKind) (w : Info) → Takes a_proof q w
unfolding r.proof r.proof_kind r.over_one r.over_two r.of_over_one r.of_over_two r.of_two_over_one r.hyp r.subst r.cases r.fun r.em r.lin r.apart r.nonnull r.lemma r.bracketed r.name r.number expect same_kind rest first_spot first_text first_value
proof_takes k.Todo w = refl
proof_takes _ w = refl

gpr_takes : (q : TokenKind) (w : Info) → Takes after_prefix q w
unfolding r.gpr r.give_kind r.bracketed r.number expect same_kind rest first_spot first_value
gpr_takes k.Emp w = refl
gpr_takes _ w = refl

give_takes : (q : TokenKind) (w : Info) → Takes a_give q w
unfolding r.give r.gpr r.give_kind r.bracketed r.number chain expect same_kind rest first_spot first_value
give_takes k.Emp w = refl
give_takes _ w = refl

body_takes : (q : TokenKind) (w : Info) → Takes a_body q w
unfolding r.body r.stmts repeat r.end r.end_kind expect same_kind rest first_spot
body_takes k.LBrace w = refl
body_takes _ w = refl

takes : (s : Nested) (q : TokenKind) (w : Info) → Takes s q w
takes a_term = term_takes
takes after_not = neg_takes
takes after_link = app_takes
takes after_len = prim_takes
takes an_assn = assn_takes
takes after_either = apr_takes
takes a_proof = proof_takes
takes a_give = give_takes
takes after_prefix = gpr_takes
takes a_body = body_takes

-- what begins a construct is taken
pub takes_first : (s : Nested) (q : TokenKind) (w : Info) → begins s (Some q) ≡ true → left_of (r.construct refused s (tok q w ∷ [])) ≡ []
takes_first s q w h = let e : Takes s q w = takes s q w in rw h at e
