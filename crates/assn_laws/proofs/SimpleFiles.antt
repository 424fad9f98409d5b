-- The predicates of a file without roots and `on` mean their definitions, and what the rules stand on holds of it.
use Rattle.std.proofs.Common.{◌≡◌, [], Some, None, refl, sym, ◌∙◌, subst}
use Rattle.tht_tree.specs.declared.file.Source1.{Source1}
use Rattle.tht_tree.specs.Values.{Env}
use Rattle.tht_logic.specs.Programs.{root_names}
use Rattle.tht_tree.specs.Walk.Files.{WellSorted, has_invariant, at_start, after_decls, decls, main}
use Rattle.proof_laws.specs.Satisfied as satisfied
use Rattle.proof_laws.specs.Scoped.{is_scoped}
use Rattle.tht_logic.specs.Rules.Definitions.{Declarations}
use Rattle.tht_logic.specs.Meanings.{meaning}
use Rattle.tht_logic.specs.Rules.Scoped.{instance_fits}
use Rattle.assn_laws.specs.Laws.{InstancesMeanDefinitions}
use Rattle.assn_laws.specs.Walked.{AreSimple, Declares, SimpleFilesMeanDefinitions, any_fits, HasNoLemmas, SimpleFilesHavePremises}
use Rattle.assn_laws.proofs.Predicates.{AreDefinedByEarlier, instances_mean_definitions}
use Rattle.assn_laws.proofs.DefinedScoped.{all_typed}
use Rattle.assn_laws.proofs.ProofsLaw.{proved_is_true}
use Rattle.assn_laws.proofs.Refusing.{behind_none}
use Rattle.assn_laws.proofs.DefinedByEarlier.{all_defined}

module _ (file : Source1) (decl : Declarations) (sorted : WellSorted file) (simple : AreSimple file.decls) (declares : Declares decl file) where
  no_refusal : decls (has_invariant file.decls) file.decls at_start ≡ None
  no_refusal = (behind_none (decls (has_invariant file.decls) file.decls at_start) (main file.main (after_decls file.decls at_start)) sorted).0

  pub turn : AreDefinedByEarlier decl.proofs.roots (λ q. None) file.decls
  turn =
      subst (λ r. AreDefinedByEarlier r (λ q. None) file.decls) (sym declares.roots)
      (all_defined [] (has_invariant file.decls) file.decls at_start (λ q. None) simple (record { matches = λ x. (refl, refl); knows = λ q. tt; no_other = λ q e. refl }) no_refusal)

  pub means : InstancesMeanDefinitions decl (instance_fits decl) (meaning (root_names file) file.decls)
  means = subst (λ r. InstancesMeanDefinitions decl (instance_fits decl) (meaning r file.decls)) declares.roots (instances_mean_definitions decl file.decls declares.predicates turn)

-- The law of files.
pub simple_files_mean_definitions : SimpleFilesMeanDefinitions
simple_files_mean_definitions = means

no_lemmas : (decl : Declarations) → HasNoLemmas decl → (env : Env) → satisfied.LemmasHold decl.proofs any_fits env
no_lemmas decl none env = record {
  sorted = λ scope l ts t u f e. let never = sym (none.proofs l ts) ∙ e in cc;
  holds = λ scope l ts t u s n f e g. let never = sym (none.proofs l ts) ∙ e in cc;
}

-- What the rules stand on.
pub simple_files_have_premises : SimpleFilesHavePremises
simple_files_have_premises file decl sorted simple declares none c env h at = record {
  proofs = proved_is_true (meaning (root_names file) file.decls) decl (instance_fits decl) any_fits any_fits c env h (no_lemmas decl none env) at;
  typed = all_typed decl file.decls declares.predicates (turn file decl sorted simple declares) (is_scoped decl.proofs.roots any_fits) any_fits none.steps;
  instances = means file decl sorted simple declares;
  lemmas = λ l x ts p q k f e. let never : None ≡ Some x = sym (none.steps l) ∙ e in cc;
}
