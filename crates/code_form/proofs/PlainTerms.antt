-- A term by position makes a sequence where the term by names does.
use Rattle.std.proofs.Common.{◌≡◌, ℕ, Bool, true, false, ◌&&◌, List, refl, sym, ◌∙◌, ap, [], Option, Some, None}
use Rattle.tht_tree.specs.declared.term.Term.{Term, map-Term}
use Rattle.tht_tree.specs.declared.term.Term.TheOpen.{Term-F}
use Rattle.tht_tree.specs.declared.term.Term.TheOpen as f
use Rattle.tht_tree.specs.Rules.Scoping.{sequence_free, sequence_free_at}
use Rattle.tht_tree.specs.Syntax.{Trm, Names, position, named, trm, trm_at}
use Rattle.tht_tree.proofs.TermInduction.{fold_level, OfParts, by_parts}
use Rattle.tht_logic.specs.PlainPrograms.{no_sequence}

module _ (xs : Names) where
  abbrev IsSame : Term → Type 0
  IsSame t = no_sequence (trm [] xs t) ≡ sequence_free t

  both : (a b c d : Bool) → a ≡ c → b ≡ d → (a && b) ≡ (c && d)
  both a b c d h k = ap (λ z. z && b) h ∙ ap (λ z. c && z) k

  name : (x : List ℕ) (p : Option ℕ) → no_sequence (named [] x p) ≡ true
  name x (Some k) = refl
  name x None = refl

  at : (x : Term-F Term) → OfParts IsSame x → no_sequence (trm_at [] xs (map-Term Term Trm (trm [] xs) x)) ≡ sequence_free_at (map-Term Term Bool sequence_free x)
  at (f.Num k) h = refl
  at f.True h = refl
  at f.False h = refl
  at f.Null h = refl
  at f.Nil h = refl
  at f.Unit h = refl
  at (f.Var x) h = name x (position 0 xs x)
  at (f.Len a) h = h
  at (f.Offset a k) h = h
  at (f.Not a) h = h
  at (f.Mul a b) h = both _ _ _ _ h.0 h.1
  at (f.Add a b) h = both _ _ _ _ h.0 h.1
  at (f.Sub a b) h = both _ _ _ _ h.0 h.1
  at (f.Cons a b) h = refl
  at (f.Cat a b) h = refl
  at (f.Eq a b) h = both _ _ _ _ h.0 h.1
  at (f.Lt a b) h = both _ _ _ _ h.0 h.1
  at (f.Le a b) h = both _ _ _ _ h.0 h.1
  at (f.And a b) h = both _ _ _ _ h.0 h.1
  at (f.Or a b) h = both _ _ _ _ h.0 h.1
  at (f.Imp a b) h = both _ _ _ _ h.0 h.1

  pub same_plain : (t : Term) → IsSame t
  same_plain = by_parts IsSame (λ x h. ap no_sequence (fold_level (trm_at [] xs) x) ∙ at x h ∙ sym (fold_level sequence_free_at x))
