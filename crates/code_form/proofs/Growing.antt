-- Nodes that are added behind others leave the meanings of these as they are.
use Rattle.std.proofs.Common.{◌≡◌, ℕ, ◌+◌, ◌-◌, ◌<◌, ◌≤◌, List, [], ◌∷◌, ◌++◌, length, length-append, take, refl, sym, ◌∙◌, ap, subst, arith}
use Rattle.std.proofs.lemmas.List.{take-append-le}
use mathlib.Core.Path.{fun_ext}
use Rattle.tht_tree.specs.declared.plain.Value.{Value}
use Rattle.tht_tree.specs.Syntax.{Names}
use Rattle.tht_logic.specs.Machine.{Prog}
use Rattle.code_form.specs.declared.code.Node.{Node}
use Rattle.code_form.specs.declared.bodies.Behind.{Behind}
use Rattle.code_form.specs.declared.bodies.Behind.TheVariants.{Caller, Inside}
use Rattle.code_form.specs.Means.{Means, pick, means_at, built, meaning}
use Rattle.code_form.specs.Lowering.{follows, IsBehind}
use Rattle.code_form.proofs.Built.{built_first, pick_last, length_built}

module _ (procs : Names) where
  built_append : (done : List Means) (xs ys : List Node) → built procs done (xs ++ ys) ≡ built procs (built procs done xs) ys
  built_append done [] ys = refl
  built_append done (x ∷ xs) ys = built_append (done ++ means_at procs (pick done) x ∷ []) xs ys

  pub meaning_grown : (old more : List Node) (j : ℕ) → j < length old → (env : List Value) → meaning procs (old ++ more) j env ≡ meaning procs old j env
  meaning_grown old more j h env =
      let l = length_built procs [] old in
      ap (λ ms. pick ms j env) (built_append [] old more) ∙ built_first procs (built procs [] old) more j (omega (arith, h, l)) env

  pub meaning_last : (old : List Node) (n : Node) (env : List Value) → meaning procs (old ++ n ∷ []) (length old) env ≡ means_at procs (meaning procs old) n env
  meaning_last old n env =
      let l = length_built procs [] old in
      ap (λ ms. pick ms (length old) env) (built_append [] old (n ∷ [])) ∙
      ap (λ (m : Means). m env) (pick_last procs (built procs [] old) (means_at procs (meaning procs old) n) (length old) (omega (arith, l)))

  -- what follows a body stays, where nodes are added
  pub follows_same : (old more : List Node) (bound : Names) (behind : Behind) (env : List Value) → IsBehind old bound behind →
      follows (meaning procs (old ++ more)) bound behind env ≡ follows (meaning procs old) bound behind env
  follows_same old more bound Caller env h = refl
  follows_same old more bound (Inside keep next) env h = fun_ext (λ w. meaning_grown old more next h.1 (take (length env - (length bound - keep)) env ++ w ∷ []))

  -- and where as many names are bound as values
  pub follows_bound : (go : ℕ → Means) (old : List Node) (bound ns : Names) (behind : Behind) (env us : List Value) → IsBehind old bound behind → length us ≡ length ns →
      follows go (bound ++ ns) behind (env ++ us) ≡ follows go bound behind env
  follows_bound go old bound ns Caller env us h l = refl
  follows_bound go old bound ns (Inside keep next) env us h l =
      let k = h.0 in
      let n : length (env ++ us) - (length (bound ++ ns) - keep) ≡ length env - (length bound - keep) = omega (arith, k, l, length-append env us, length-append bound ns) in
      let same : take (length (env ++ us) - (length (bound ++ ns) - keep)) (env ++ us) ≡ take (length env - (length bound - keep)) env =
      ap (λ j. take j (env ++ us)) n ∙ take-append-le (length env - (length bound - keep)) env us (omega arith) in
      fun_ext (λ w. ap (λ (z : List Value). go next (z ++ w ∷ [])) same)
