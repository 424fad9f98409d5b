-- The entries of a linear certificate, one after another.
use Rattle.std.proofs.Common.{◌≡◌, ℕ, ◌+◌, ◌<◌, suc, List, [], ◌∷◌, map, length, drop, get_or, add-one, Option, Some, None, is_some, refl, sym, ◌∙◌, ap}
use Rattle.std.specs.Prelude.{filter_map, option_map, MatchOption}
use Rattle.std.proofs.Math.Seq.{drop-cons}
use Rattle.tht_tree.specs.declared.plain.Sort.{Sort}
use Rattle.tht_tree.specs.declared.plain.Spot.{Spot}
use Rattle.tht_tree.specs.declared.proof.Proof.{Proof}
use Rattle.tht_tree.specs.declared.proof.LinEntry.{LinEntry, out-LinEntry, fold_out-LinEntry}
use Rattle.tht_tree.specs.declared.proof.ProofKind.{ProofKind, out-ProofKind, map-ProofKind, fold_out-ProofKind}
use Rattle.tht_tree.specs.declared.proof.ProofKind.TheVariants as kind
use Rattle.tht_tree.specs.declared.proof.ProofKind.TheOpen as p
use Rattle.tht_tree.specs.declared.rule.RuleRefusal.{RuleRefusal}
use Rattle.tht_tree.specs.declared.rule.RuleCode.TheVariants.{R5}
use Rattle.tht_tree.specs.declared.term.Term.{Term}
use Rattle.tht_tree.specs.Syntax.{Names}
use Rattle.tht_tree.specs.Rules.Certificates.{Aim, fact_of}
use Rattle.tht_tree.specs.Rules.Context.{Context, Scope}
use Rattle.tht_tree.specs.Rules.Proofs.{Prover, Entry, proves, entry_refused, fact_in, proof_at, entry_at, spotted_proof, prove, prove_kind, prove_entry}
use Rattle.tht_tree.specs.Rules.Refusals.{needs, ◌▸◌, in_order}
use Rattle.tht_tree.specs.declared.form.Comparison.{Comparison}
use Rattle.pure_proofs.specs.declared.facts.Sides.{Sides}
use Rattle.pure_proofs.specs.Facts.{comparing, entry_fact}
use Rattle.pure_proofs.specs.Said.{said, said_of_kind, said_of_entry}
use Rattle.pure_proofs.specs.Verdicts.{without_lemmas}

-- an entry in the words of the rules
abbrev entry_is : Names → LinEntry → Entry
entry_is roots e = record { multiplier = (out-LinEntry e).multiplier; fact = (out-LinEntry e).fact; proof = said roots (out-LinEntry e).proof }

pub said_entry : (roots : Names) (e : LinEntry) → said_of_entry roots e ≡ entry_is roots e
unfolding prove prove_kind prove_entry
said_entry roots e = fold_out-LinEntry (Spot → Prover) Entry Prover (proof_at (without_lemmas roots)) (entry_at (without_lemmas roots)) (spotted_proof (without_lemmas roots)) e

pub fact_is : (roots : Names) (scope : Scope) (aim : Aim) (e : LinEntry) → fact_in (without_lemmas roots) scope aim (said_of_entry roots e) ≡ entry_fact roots scope aim e
fact_is roots scope aim e = ap (fact_in (without_lemmas roots) scope aim) (said_entry roots e)

some_mapped : {A B : Type 0} (f : A → B) (o : Option A) → is_some (option_map f o) ≡ is_some o
some_mapped f None = refl
some_mapped f (Some x) = refl

pub matched : (o : Option Sides) (w : Option Comparison) → MatchOption o (w ≡ None) (λ s. w ≡ Some (comparing s)) → is_some o ≡ is_some w
matched None w h = sym (ap is_some h)
matched (Some s) w h = sym (ap is_some h)

-- whether an entry's formula is read as a comparison
pub is_fact : (roots : Names) (scope : Scope) (aim : Aim) (e : LinEntry) → is_some (fact_in (without_lemmas roots) scope aim (said_of_entry roots e)) ≡ is_some (fact_of roots scope aim (out-LinEntry e).fact)
is_fact roots scope aim e = ap is_some (fact_is roots scope aim e) ∙ some_mapped (λ x. record { by = (out-LinEntry e).multiplier; comparison = x }) (fact_of roots scope aim (out-LinEntry e).fact)

filter_same : {A B C : Type 0} (f : B → Option C) (g : A → Option C) (h : A → B) → ((x : A) → f (h x) ≡ g x) → (xs : List A) → filter_map f (map h xs) ≡ filter_map g xs
filter_same f g h e [] = refl
filter_same f g h e (x ∷ xs) = rw (e x, filter_same f g h e xs)

-- the facts of entries
pub facts_are : (roots : Names) (scope : Scope) (aim : Aim) (es : List LinEntry) → filter_map (fact_in (without_lemmas roots) scope aim) (map (said_of_entry roots) es) ≡ filter_map (entry_fact roots scope aim) es
facts_are roots scope aim es = filter_same (fact_in (without_lemmas roots) scope aim) (entry_fact roots scope aim) (said_of_entry roots) (fact_is roots scope aim) es

-- what is refused of an entry
pub entry_said : (roots : Names) (spot : Spot) (c : Context) (aim : Aim) (e : LinEntry) →
    entry_refused (without_lemmas roots) spot c aim (said_of_entry roots e) ≡ needs spot R5 (is_some (fact_in (without_lemmas roots) c.scope aim (said_of_entry roots e))) ▸ proves spot (said roots (out-LinEntry e).proof) c (out-LinEntry e).fact
entry_said roots spot c aim e = ap (λ z. needs spot R5 (is_some (fact_in (without_lemmas roots) c.scope aim (said_of_entry roots e))) ▸ proves spot z.proof c z.fact) (said_entry roots e)

-- a proof of this form, in the words of the rules
kind_is : (roots : Names) (k : ProofKind) (y : p.ProofKind-F ProofKind LinEntry Proof) (spot : Spot) (c : Context) (goal : Term) → out-ProofKind k ≡ y →
    said_of_kind roots k spot c goal ≡ proof_at (without_lemmas roots) (map-ProofKind ProofKind LinEntry Proof (Spot → Prover) Entry Prover (said_of_kind roots) (said_of_entry roots) (said roots) y) spot c goal
unfolding prove prove_kind prove_entry
kind_is roots k y spot c goal e =
    let d = without_lemmas roots in
    ap (λ g. g spot c goal) (
    fold_out-ProofKind (Spot → Prover) Entry Prover (proof_at d) (entry_at d) (spotted_proof d) k
    ∙ ap (λ z. proof_at d (map-ProofKind ProofKind LinEntry Proof (Spot → Prover) Entry Prover (prove_kind d) (prove_entry d) (prove d) z)) e
    )

-- a linear certificate
pub lin_is : (roots : Names) (k : ℕ) (xs : List LinEntry) (spot : Spot) (c : Context) (goal : Term) →
    said_of_kind roots (kind.Lin k xs) spot c goal ≡ proof_at (without_lemmas roots) (p.Lin k (map (said_of_entry roots) xs)) spot c goal
lin_is roots k xs spot c goal = kind_is roots (kind.Lin k xs) (p.Lin k xs) spot c goal (kind.outs-Lin k xs)

-- a proof of `(a - b) + b = a` or `a - b = 0`
pub monus_is : (roots : Names) (q : Proof) (spot : Spot) (c : Context) (goal : Term) →
    said_of_kind roots (kind.Monus q) spot c goal ≡ proof_at (without_lemmas roots) (p.Monus (said roots q)) spot c goal
monus_is roots q spot c goal = kind_is roots (kind.Monus q) (p.Monus q) spot c goal (kind.outs-Monus q)

-- a proof by substitution
pub subst_is : (roots : Names) (x : List ℕ) (s : Sort) (t a b : Term) (q r : Proof) (spot : Spot) (c : Context) (goal : Term) →
    said_of_kind roots (kind.Subst x s t a b q r) spot c goal ≡ proof_at (without_lemmas roots) (p.Subst x s t a b (said roots q) (said roots r)) spot c goal
subst_is roots x s t a b q r spot c goal = kind_is roots (kind.Subst x s t a b q r) (p.Subst x s t a b q r) spot c goal (kind.outs-Subst x s t a b q r)

-- what is refused of entries
abbrev pub entries_refused : Names → Spot → Context → Aim → List LinEntry → Option RuleRefusal
entries_refused roots spot c aim es = in_order (map (entry_refused (without_lemmas roots) spot c aim) (map (said_of_entry roots) es))

module _ (roots : Names) (spot : Spot) (aim : Aim) (xs : List LinEntry) (i : ℕ) (x : LinEntry) (c now : Context) (o whole : Option RuleRefusal)
    (within : i < length xs) (here : x ≡ get_or xs i x) (left : whole ≡ entries_refused roots spot c aim (drop i xs)) (same : now ≡ c)
    (is : o ≡ entry_refused (without_lemmas roots) spot now aim (said_of_entry roots x)) where
  first_left : whole ≡ o ▸ entries_refused roots spot c aim (drop (i + 1) xs)
  first_left =
      let d : drop i xs ≡ x ∷ drop (i + 1) xs = rw add-one (drop-cons xs i x within ∙ ap (λ y. y ∷ drop (suc i) xs) (sym here)) in
      let h : entry_refused (without_lemmas roots) spot c aim (said_of_entry roots x) ≡ o = ap (λ z. entry_refused (without_lemmas roots) spot z aim (said_of_entry roots x)) (sym same) ∙ sym is in
      left ∙ ap (entries_refused roots spot c aim) d ∙ ap (λ z. z ▸ entries_refused roots spot c aim (drop (i + 1) xs)) h

  pub stopped : (r : RuleRefusal) → o ≡ Some r → Some r ≡ whole
  stopped r e = sym (first_left ∙ ap (λ z. z ▸ entries_refused roots spot c aim (drop (i + 1) xs)) e)

  pub passed : o ≡ None → whole ≡ entries_refused roots spot c aim (drop (i + 1) xs)
  passed e = first_left ∙ ap (λ z. z ▸ entries_refused roots spot c aim (drop (i + 1) xs)) e
