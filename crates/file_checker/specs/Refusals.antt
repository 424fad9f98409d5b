-- Why a file is refused.
use Rattle.std.specs.Prelude.{◌≡◌, List, map, Option, Some, ⊤}
use Rattle.tht_tree.specs.declared.decl.Decl.{Decl}
use Rattle.tht_tree.specs.declared.file.Source1.{Source1}
use Rattle.tht_tree.specs.declared.rule.RuleRefusal.{RuleRefusal}
use Rattle.tht_tree.specs.Rules.Refusals.{in_order}
use Rattle.tht_tree.specs.Walk.Files.{first_refusal, WellSorted}
use Rattle.tht_logic.specs.Rules.Definitions.{Declarations}
use Rattle.tht_logic.specs.Rules.Files.{decl_refused, first_rule_refusal}
use Rattle.file_checker.specs.declared.end.CheckEnd.{CheckEnd}
use Rattle.file_checker.specs.declared.end.CheckEnd.TheVariants.{Walk, Rule, Memory}

-- what is refused is the first refusal of the file, where names and sorts come before all rules; for want of memory nothing is said
abbrev pub IsFirstRefusal : Source1 → CheckEnd → Type 0
IsFirstRefusal file (Walk r) = first_refusal file ≡ Some r
IsFirstRefusal file (Rule r) = WellSorted file × (first_rule_refusal file ≡ Some r)
IsFirstRefusal file Memory = ⊤

-- the first refusal by the rules of these declarations, one after another
abbrev pub decls_refused : Declarations → List Decl → Option RuleRefusal
decls_refused decl decls = in_order (map (λ x. decl_refused decl x.spot x.kind) decls)
