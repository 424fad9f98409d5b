-- A copy of a scope finds the same locals.
use Rattle.std.proofs.Common.{◌≡◌, ap, Option, None, Some, MatchOption, BTreeMap, String, Global}
use mathlib.Core.Path.{fun_ext}
use Rattle.std.proofs.lemmas.Map.Entries.{lookup_clone}
use Rattle.std.specs.BTreeMap.{get_by_text, is_at}
use Rattle.std.specs.Cmp.Lexicographic.{slice_cmp}
use Rattle.std.specs.List.{AllZip}
use Rattle.std.specs.Option.{IsSomeAnd}
use Rattle.std.specs.Ordering.{nat_cmp, is_eq}
use Rattle.std.specs.String.{string_bytes}

module _ {X : Type 0} where
  found_alike : (o p : Option X) → MatchOption o (p ≡ None) (λ v. IsSomeAnd p (λ w. w ≡ v)) → p ≡ o
  found_alike None p h = h
  found_alike (Some v) None h = absurd h
  found_alike (Some v) (Some w) h = ap Some h

  pub same_locals : (s t : BTreeMap (String Global) X) → AllZip (λ p q. (string_bytes q.0 ≡ string_bytes p.0) × (q.1 ≡ p.1)) s.entries t.entries → get_by_text t ≡ get_by_text s
  same_locals s t alike = fun_ext (λ text.
      found_alike (get_by_text s text) (get_by_text t text)
      (lookup_clone (λ x y. string_bytes y ≡ string_bytes x) (λ v w. w ≡ v) (is_at (λ k. slice_cmp nat_cmp text (string_bytes k))) (λ x y same. ap (λ b. is_eq (slice_cmp nat_cmp text b)) same) s.entries t.entries alike))
