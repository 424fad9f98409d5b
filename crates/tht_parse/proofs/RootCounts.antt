-- One turn of the list of declarations, beside a loop that counts up.
use Rattle.std.proofs.Common.{◌≡◌, ℕ, zero, suc, ◌+◌, ◌-◌, ◌<◌, ◌≤◌, ap, ◌∙◌, refl, arith, List, [], ◌∷◌, ◌++◌, Bool, true, false, Some, None, Ok, Err}
use Rattle.std.proofs.lemmas.Bool.{ne_eqb}
use Rattle.tht_tree.specs.declared.decl.Decl.{Decl}
use Rattle.tht_tree.specs.declared.token.TokenKind.TheVariants as k
use Rattle.tht_tree.specs.Tokens.{Tok, many, first_kind}
use Rattle.tht_tree.specs.Faults.{Fault, over}
use Rattle.tht_tree.specs.Grammar.{Nested, Tree}
use Rattle.tht_grammar.specs.Steps.{Reader, is}
use Rattle.tht_grammar.specs.Words.{begins_decl}
use Rattle.tht_grammar.specs.Reading.{is_root_over, roots_left, decl, decls}
use Rattle.tht_parse.specs.Roots.{room_after}

module _ (inner : (n : Nested) → Reader (Tree n)) where
  -- what the reader makes of the room
  has_room : (root : Bool) (n left : ℕ) → room_after root n ≡ Some left → is_root_over inner root n ≡ false
  has_room true zero left e = cc
  has_room true (suc n) left e = ne_eqb (suc n) 0 (λ h. cc)
  has_room false n left e = refl

  less_room : (root : Bool) (n left : ℕ) → room_after root n ≡ Some left → roots_left inner root n ≡ left
  less_room true zero left e = cc
  less_room true (suc n) left e = let same : n ≡ left = cc in omega arith
  less_room false n left e = cc

  no_room : (root : Bool) (n : ℕ) → room_after root n ≡ None → is_root_over inner root n ≡ true
  no_room true zero e = refl
  no_room true (suc n) e = cc
  no_room false n e = cc

  module _ (m at n : ℕ) (found : List Decl) (i : List Tok) where
    turn : at < m → m - at ≡ suc (m - (at + 1))
    turn below = omega arith

    pub decls_full : m ≤ at → begins_decl (first_kind i) ≡ true → decls inner (m - at) n found i ≡ Err (over many, i)
    unfolding decls
    decls_full past e = let none : m - at ≡ 0 = omega arith in ap (λ c. decls inner c n found i) none ∙ rw e refl

    pub decls_over : at < m → begins_decl (first_kind i) ≡ true → room_after (is k.Root (first_kind i)) n ≡ None → decls inner (m - at) n found i ≡ Err (over many, i)
    unfolding decls
    decls_over below e room = ap (λ c. decls inner c n found i) (turn below) ∙ rw (e, no_room (is k.Root (first_kind i)) n room) refl

    pub decls_err : (left : ℕ) (f : Fault × List Tok) → at < m → begins_decl (first_kind i) ≡ true → room_after (is k.Root (first_kind i)) n ≡ Some left
        → decl inner i ≡ Err f → decls inner (m - at) n found i ≡ Err f
    unfolding decls
    decls_err left f below e room d = ap (λ c. decls inner c n found i) (turn below) ∙ rw (e, has_room (is k.Root (first_kind i)) n left room, d) refl

    pub decls_step : (left : ℕ) (x : Decl) (j : List Tok) → at < m → begins_decl (first_kind i) ≡ true → room_after (is k.Root (first_kind i)) n ≡ Some left
        → decl inner i ≡ Ok (x, j) → decls inner (m - at) n found i ≡ decls inner (m - (at + 1)) left (found ++ x ∷ []) j
    unfolding decls
    decls_step left x j below e room d =
        ap (λ c. decls inner c n found i) (turn below)
        ∙ rw (e, has_room (is k.Root (first_kind i)) n left room, less_room (is k.Root (first_kind i)) n left room, d) refl

  pub decls_none : (m n : ℕ) (found : List Decl) (i : List Tok) → begins_decl (first_kind i) ≡ false → decls inner m n found i ≡ Ok (found, i)
  unfolding decls
  decls_none zero n found i e = rw e refl
  decls_none (suc m) n found i e = rw e refl
