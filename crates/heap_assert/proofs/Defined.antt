-- What is answered of an instance, by what was answered when its arguments were put in.
use Rattle.std.proofs.Common.{◌≡◌, Result, Ok, Err, sym, ◌∙◌, ap, subst}
use Rattle.tht_tree.specs.declared.assn.Assn.{Assn}
use Rattle.tht_tree.specs.declared.form.PutEnd.{PutEnd}
use Rattle.tht_tree.specs.declared.form.PutEnd.TheVariants as put
use Rattle.tht_tree.specs.Normal.Putting.{Puts}
use Rattle.tht_logic.specs.Putting.{put_assn_within}
use Rattle.tht_logic.specs.Rules.Definitions.{DefEnd, or_large}
use Rattle.heap_assert.specs.declared.definition_end.DefinitionEnd.{DefinitionEnd}
use Rattle.heap_assert.specs.declared.definition_end.DefinitionEnd.TheVariants as end
use Rattle.heap_assert.specs.Answers.{IsPutAnswer}
use Rattle.heap_assert.specs.DefinitionEnds.{end_of}
use Rattle.heap_assert.specs.Instances.{IsDefinition}

-- s is what the code put in, which is t
module _ (s t : Puts) (same : s ≡ t) (p : Assn) where
  abbrev within : Puts → Result Assn DefEnd
  within q = or_large (put_assn_within q p)

  pub ok_defined : (made : Assn) → IsPutAnswer (Ok made) (put_assn_within s p) → IsDefinition (Ok made) (or_large (put_assn_within t p))
  ok_defined made h = sym (ap within same) ∙ ap or_large h

  pub err_defined : (e : PutEnd) (f : DefinitionEnd) → f ≡ end_of e → IsPutAnswer (Err e) (put_assn_within s p) → IsDefinition (Err f) (or_large (put_assn_within t p))
  err_defined put.Large f g h = subst (λ (z : DefinitionEnd). IsDefinition (Err z) (or_large (put_assn_within t p))) (sym g) (sym (ap within same) ∙ ap or_large h)
  err_defined put.Memory f g h = subst (λ (z : DefinitionEnd). IsDefinition (Err z) (or_large (put_assn_within t p))) (sym g) tt

pub none_defined : (e : DefinitionEnd) (r : Result Assn DefEnd) → e ≡ end.Memory → IsDefinition (Err e) r
none_defined e r h = subst (λ (z : DefinitionEnd). IsDefinition (Err z) r) (sym h) tt
