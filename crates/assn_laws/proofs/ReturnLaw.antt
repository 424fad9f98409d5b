-- The law of returns.
use Rattle.std.proofs.Common.{◌≡◌, ℕ, Bool, true, false, List, [], ◌∷◌, Option, Some, None, Ok, Err, refl, sym, ◌∙◌, ap, subst}
use Rattle.std.proofs.Math.Path.{transport}
use Rattle.std.specs.Prelude.{bytes_eq, if◌then◌else◌}
use Rattle.tht_tree.specs.declared.plain.Spot.{Spot}
use Rattle.tht_tree.specs.declared.proof.Proof.{Proof}
use Rattle.tht_tree.specs.declared.term.Term.{Term}
use Rattle.tht_tree.specs.declared.term.Term.TheVariants as t
use Rattle.tht_tree.specs.declared.assn.Assn.{Assn}
use Rattle.tht_tree.specs.declared.rule.RuleCode.TheVariants.{R3}
use Rattle.tht_tree.specs.declared.state.Local.TheVariants.{Variable}
use Rattle.tht_tree.specs.Values.{Env, bind}
use Rattle.tht_tree.specs.Syntax.{Names, position, root_or_free}
use Rattle.tht_tree.specs.Terms.{value_of, value}
use Rattle.tht_tree.specs.Heaps.{Heap, Joins}
use Rattle.tht_tree.specs.Lists.{is_nil}
use Rattle.tht_tree.specs.Normal.Putting.{over}
use Rattle.tht_tree.specs.Rules.Context.{Context, Scope, with_local}
use Rattle.tht_tree.specs.Rules.Refusals.{needs}
use Rattle.tht_tree.specs.Rules.Scoping.{sort_of}
use Rattle.tht_tree.proofs.SameTerm.{bytes_eq-true}
use Rattle.tht_tree.proofs.TermValues.{value-Var}
use Rattle.tht_logic.specs.Assertions.{asn}
use Rattle.tht_logic.specs.Satisfaction.{Meaning, AtomsHold}
use Rattle.tht_logic.specs.Putting.{put_in_assn, put_assn_within}
use Rattle.tht_logic.specs.Rules.Checking.{Checked, on_ok, put_or_refused}
use Rattle.tht_logic.specs.Rules.Definitions.{Declarations}
use Rattle.tht_logic.specs.Rules.Gives.{Atoms, after_give}
use Rattle.tht_logic.specs.Rules.Bodies.{needs_none_left}
use Rattle.tht_logic.specs.Rules.Scoped.{Signatures}
use Rattle.tht_logic.specs.Rules.Scoped as scoped
use Rattle.assn_laws.specs.AssertionLaws.{Holds}
use Rattle.assn_laws.specs.Laws.{ReturnsAreSound}
use Rattle.assn_laws.proofs.Answers.{from_ok, from_put}
use Rattle.tht_logic.proofs.NamesInTerms.{name_in}
use Rattle.assn_laws.proofs.FreeNames.{every_free}
use Rattle.assn_laws.proofs.ByNames.{same_heaps}
use Rattle.assn_laws.proofs.FlattenHeaps.{beside_empty}
use Rattle.assn_laws.proofs.PuttingHeaps.{putting_has_the_heaps}
use Rattle.assn_laws.proofs.PutScoped.{put_in_order}
use Rattle.assn_laws.proofs.Opening.{with_one, one_keeps}
use Rattle.assn_laws.proofs.GiveSound.{sort_is}
use Rattle.assn_laws.proofs.GivesLaw.{gives_are_sound}

-- nothing is refused where there is an answer without atoms
nothing_left : (spot : Spot) (answer : Checked Context) → needs_none_left spot answer ≡ None → (k : Context) × (answer ≡ Ok k) × (k.atoms ≡ [])
nothing_left spot (Err r) e = cc
nothing_left spot (Ok k) e = (k, refl, nil k.atoms e)
  where
    nil : (es : Atoms) → needs spot R3 (is_nil es) ≡ None → es ≡ []
    nil [] g = refl
    nil (x ∷ es) g = cc

-- a name with a term's value, and one for which the term stands
module _ (roots : Names) (env : Env) (n : List ℕ) (u : Term) (other : position 0 roots n ≡ None) where
  abbrev with_result : Env
  with_result = bind env n (value roots env u)

  not_it : (y : List ℕ) (o : Option ℕ) → bytes_eq n y ≡ false → value_of env [] (root_or_free y o) ≡ value_of with_result [] (root_or_free y o)
  not_it y (Some k) g = refl
  not_it y None g = sym (ap (λ c. if c then value roots env u else env y) g)

  same_name : (y : List ℕ) → value_of (over roots env (with_one roots n u)) [] (name_in [] [] y) ≡ value_of with_result [] (name_in roots [] y)
  same_name y = pick (bytes_eq n y) refl
    where
      pick : (c : Bool) → bytes_eq n y ≡ c → value roots env (if c then u else t.Var y) ≡ value_of with_result [] (root_or_free y (position 0 roots y))
      pick true g =
          sym (ap (λ o. value_of with_result [] (root_or_free y o)) (ap (position 0 roots) (sym (bytes_eq-true n y g)) ∙ other) ∙ ap (λ c. if c then value roots env u else env y) g)
      pick false g = value-Var roots env y ∙ not_it y (position 0 roots y) g

  -- so what holds with the term put in holds with its value
  result_holds : (M : Meaning) (p : Assn) (h : Heap) → Holds M roots env (put_in_assn ((n, u) ∷ []) p) h → Holds M roots (bind env n (value roots env u)) p h
  result_holds M p h w =
      transport
      (λ i. same_heaps [] roots (λ y. Unit {0}) (over roots env (with_one roots n u)) with_result M p [] [] [] [] (λ y k. same_name y) (every_free (λ y. Unit {0}) (λ y. tt) (asn [] [] p)) i h)
      ((putting_has_the_heaps M roots env (with_one roots n u) p h).0 w)

-- a heap beside which no atom has one is all
all_of_it : (M : Meaning) (roots : Names) (env : Env) (p : Assn) (x y h : Heap) (es : Atoms) → Joins x y h → es ≡ [] → AtomsHold M roots env es y → Holds M roots env p x → Holds M roots env p h
all_of_it M roots env p x y h es j e w holds = subst (Holds M roots env p) (beside_empty {x = x} {y = y} j (subst (λ z. AtomsHold M roots env z y) e w)) holds

pub returns_are_sound : (decl : Declarations) (proof : Proof → Scope → Bool) (instance lemma : Signatures) (M : Meaning) → ReturnsAreSound decl proof instance lemma M
returns_are_sound decl proof instance lemma M c env h premises at spot u x post order has ins other e =
    let roots : Names = decl.proofs.roots in
    let n : List ℕ = post.result in
    let made = put_or_refused spot (put_assn_within ((n, u) ∷ []) post.assn) in
    let r = nothing_left spot (on_ok made (after_give decl c x)) e in
    let w = from_ok made (after_give decl c x) r.0 r.1 in
    let goal : put_in_assn ((n, u) ∷ []) post.assn ≡ w.0 = from_put spot ((n, u) ∷ []) post.assn w.0 w.1 in
    let sorted : sort_of roots c.scope u ≡ Some post.sort = sort_is post.sort (sort_of roots c.scope u) has in
    let inside = put_in_order roots instance instance premises.typed.by_sorts post.assn ((n, u) ∷ []) (with_local c.scope n (Variable post.sort)) c.scope
    (one_keeps roots n u c.scope post.sort sorted) ins in
    let s = gives_are_sound decl proof instance lemma M c r.0 env h premises at x w.0 order (subst (λ q. scoped.assn roots instance q c.scope ≡ true) goal inside) w.2 in
    result_holds roots env n u other M post.assn h
    (subst (λ q. Holds M roots env q h) (sym goal) (all_of_it M roots env w.0 s.0 s.1 h r.0.atoms s.2 r.2 s.4.satisfied.atoms s.3))
