-- What the calls keep of heaps, by the laws of assertions.
use Rattle.std.proofs.Common.{◌≡◌, ◌↔◌, Bool, true, false, List, [], ◌++◌, Option, Result, Ok, Err, IfOk, sym, ◌∙◌, ap, subst}
use Rattle.std.specs.Prelude.{if◌then◌else◌}
use Rattle.tht_tree.specs.declared.term.Term.{Term}
use Rattle.tht_tree.specs.declared.assn.Assn.{Assn}
use Rattle.tht_tree.specs.declared.form.PutEnd.{PutEnd}
use Rattle.tht_tree.specs.declared.form.PutEnd.TheVariants.{Large}
use Rattle.tht_tree.specs.Heaps.{Heap, Joins}
use Rattle.tht_tree.specs.Normal.Putting.{Puts, over}
use Rattle.tht_tree.specs.Rules.Sizes.{assn_fits}
use Rattle.tht_logic.specs.Assertions.{asn}
use Rattle.tht_logic.specs.Satisfaction.{Satisfies, PartsHold}
use Rattle.tht_logic.specs.Meanings.{meaning}
use Rattle.tht_logic.specs.Putting.{put_in_assn, put_assn_within}
use Rattle.tht_logic.specs.Alike.{alike}
use Rattle.tht_logic.specs.Flatten.{flatten}
use Rattle.tht_logic.specs.Rules.Definitions.{Predicate, definition_of}
use Rattle.assn_laws.specs.AssertionLaws.{Holds}
use Rattle.assn_laws.proofs.FlattenHeaps.{join_parts, split_parts, flattening_keeps_heaps}
use Rattle.assn_laws.proofs.AlikeHeaps.{alike_same}
use Rattle.assn_laws.proofs.AlikeExact.{alike_exact}
use Rattle.assn_laws.proofs.PuttingNames.{putting_never_captures}
use Rattle.assn_laws.proofs.PuttingHeaps.{putting_has_the_heaps}
use Rattle.assn_laws.proofs.Predicates.{instances_mean_definitions}
use Rattle.heap_assert.specs.declared.definition_end.DefinitionEnd.{DefinitionEnd}
use Rattle.heap_assert.specs.Answers.{IsPutAnswer}
use Rattle.heap_assert.specs.Instances.{IsDefinition}
use Rattle.heap_assert.specs.Heaps.{AddsItsHeaps, HaveTheSameHeaps, HasTheHeaps, CapturesNothing, MeansItsDefinition}

-- ---- atoms

pub adds_heaps : (before after : List Assn) (p : Assn) → after ≡ before ++ flatten p → AddsItsHeaps before after p
adds_heaps before after p e roots decls env h =
    let M = meaning roots decls in (
      λ w.
          let s : (x y : Heap) × Joins x y h × PartsHold M roots env before x × PartsHold M roots env (flatten p) y =
          split_parts M roots env before (flatten p) h (subst (λ (l : List Assn). PartsHold M roots env l h) e w)
          in
          (s.0, s.1, s.2, s.3, (flattening_keeps_heaps M roots env p s.1).1 s.4),
      λ w. subst (λ (l : List Assn). PartsHold M roots env l h) (sym e)
          (join_parts M roots env before (flatten p) w.0 w.1 h w.2 w.3 ((flattening_keeps_heaps M roots env p w.1).0 w.4)),
    )

-- ---- sameness

pub decides_same : (b : Bool) (p q : Assn) → b ≡ alike p q → (b ≡ true) ↔ (asn [] [] p ≡ asn [] [] q)
decides_same b p q e = (λ t. (alike_exact p q).0 (sym e ∙ t), λ s. e ∙ (alike_exact p q).1 s)

pub same_heaps : (b : Bool) (p q : Assn) → b ≡ alike p q → b ≡ true → HaveTheSameHeaps p q
same_heaps b p q e t roots decls env h =
    let M = meaning roots decls in
    let same = alike_same roots p q (sym e ∙ t) in
    (λ w. subst (λ z. Satisfies M env [] z h) same w, λ w. subst (λ z. Satisfies M env [] z h) (sym same) w)

-- ---- terms put in

abbrev answered : Assn → Result Assn PutEnd
answered p = Ok p

made_same : (x y : Assn) → answered x ≡ answered y → x ≡ y
made_same x y e = cc

-- what was made is what putting in is defined as
put_is : (by : Puts) (p made : Assn) → IsPutAnswer (Ok made) (put_assn_within by p) → put_in_assn by p ≡ made
put_is by p made e = pick (assn_fits (put_in_assn by p)) e
  where
    pick : (c : Bool) → (if c then answered (put_in_assn by p) else Err Large) ≡ answered made → put_in_assn by p ≡ made
    pick true g = made_same (put_in_assn by p) made g
    pick false g = cc

made_heaps : (by : Puts) (p made : Assn) → IsPutAnswer (Ok made) (put_assn_within by p) → HasTheHeaps by p made
made_heaps by p made e roots decls env h =
    subst (λ (z : Assn). Holds (meaning roots decls) roots env z h ↔ Holds (meaning roots decls) [] (over roots env by) p h) (put_is by p made e)
    (putting_has_the_heaps (meaning roots decls) roots env by p h)

made_captures_nothing : (by : Puts) (p made : Assn) → IsPutAnswer (Ok made) (put_assn_within by p) → CapturesNothing by p made
made_captures_nothing by p made e roots = sym (ap (asn roots []) (put_is by p made e)) ∙ putting_never_captures roots by p

pub put_heaps : (by : Puts) (p : Assn) (r : Result Assn PutEnd) → IsPutAnswer r (put_assn_within by p) → IfOk r (λ made. HasTheHeaps by p made)
put_heaps by p (Ok made) e = made_heaps by p made e
put_heaps by p (Err d) e = tt

pub put_captures_nothing : (by : Puts) (p : Assn) (r : Result Assn PutEnd) → IsPutAnswer r (put_assn_within by p) → IfOk r (λ made. CapturesNothing by p made)
put_captures_nothing by p (Ok made) e = made_captures_nothing by p made e
put_captures_nothing by p (Err d) e = tt

-- ---- definitions

means_definition : (known : Option Predicate) (ts : List Term) (made : Assn) → definition_of known ts ≡ Ok made → MeansItsDefinition known ts made
means_definition known ts made e decl decls same turn scope env is q g fits h =
    instances_mean_definitions decl decls same turn scope env is q ts made h fits (ap (λ (o : Option Predicate). definition_of o ts) g ∙ e)

pub answer_means : (known : Option Predicate) (ts : List Term) (r : Result Assn DefinitionEnd) → IsDefinition r (definition_of known ts) → IfOk r (λ made. MeansItsDefinition known ts made)
answer_means known ts (Ok made) e = means_definition known ts made e
answer_means known ts (Err d) e = tt
