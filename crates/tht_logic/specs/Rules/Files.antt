-- Which bytes are a source, and which files are accepted.
use Rattle.std.specs.Prelude.{◌≡◌, true, ℕ, List, [], ◌∷◌, map, Option, None, option_map}
use Rattle.tht_tree.specs.declared.plain.Spot.{Spot}
use Rattle.tht_tree.specs.declared.decl.Head.{Head}
use Rattle.tht_tree.specs.declared.decl.Decl.{Decl}
use Rattle.tht_tree.specs.declared.decl.DeclKind.{DeclKind}
use Rattle.tht_tree.specs.declared.decl.DeclKind.TheVariants as d
use Rattle.tht_tree.specs.declared.file.Source1.{Source1}
use Rattle.tht_tree.specs.declared.rule.RuleCode.TheVariants.{R10}
use Rattle.tht_tree.specs.declared.rule.RuleRefusal.{RuleRefusal}
use Rattle.tht_tree.specs.Spelling.{IsSpelled}
use Rattle.tht_tree.specs.Syntax.{Names}
use Rattle.tht_logic.specs.Programs.{root_names}
use Rattle.tht_logic.specs.Built.{is_built}
use Rattle.tht_tree.specs.Walk.Files.{WellSorted}
use Rattle.tht_tree.specs.Rules.Sizes.{assn_fits}
use Rattle.tht_tree.specs.Rules.Context.{Context, no_context}
use Rattle.tht_tree.specs.Rules.Refusals.{in_order, ◌▸◌}
use Rattle.tht_logic.specs.Flatten.{with_assn}
use Rattle.tht_logic.specs.Procedures.{procedures_of, head_post, main_post}
use Rattle.tht_logic.specs.Rules.Checking.{Checked, on_true, if_fits, and_then}
use Rattle.tht_logic.specs.Rules.Definitions.{Declarations, predicates_of, head_scope}
use Rattle.tht_logic.specs.Rules.Bodies.{body_refused}

-- The bytes spell a file, all of whose forms are built and whose names and sorts are in order.
pub record IsSource (bytes : List ℕ) (file : Source1) : Type 0 where
  pub spelled : IsSpelled file bytes
  pub built : is_built file ≡ true
  pub sorted : WellSorted file

-- What these declarations declare, where these are the roots: no lemma can be used yet. That a name is used only after its declaration, or
-- inside it, is seen to where names and sorts are.
abbrev pub declared : Names → List Decl → Declarations
declared roots decls = record {
  proofs = record { roots = roots; lemmas = λ l ts. None };
  predicates = predicates_of decls;
  lemmas = λ l. None;
  procs = λ f. option_map (λ x. x.head) (procedures_of decls f);
}

abbrev pub declared_in : Source1 → Declarations
declared_in file = declared (root_names file) file.decls

-- ---- declarations

-- what is known before the body of a proc: the atoms of its precondition
abbrev pub at_start : Spot → Head → Checked Context
at_start spot x =
    on_true spot R10 (assn_fits x.pre) (if_fits spot (with_assn x.pre (record no_context { scope = head_scope x })))

-- what is refused of a declaration
abbrev pub decl_refused : Declarations → Spot → DeclKind → Option RuleRefusal
decl_refused decl spot (d.Proc head body) = and_then (at_start spot head) (body_refused decl body (head_post head))
decl_refused decl spot _ = None

-- ---- files

-- The first refusal of a file by the rules: of its declarations, in their order, and then of main's body, from no atom and with nothing known.
abbrev pub first_rule_refusal : Source1 → Option RuleRefusal
first_rule_refusal file =
    in_order (map (λ x. decl_refused (declared_in file) x.spot x.kind) file.decls) ▸ body_refused (declared_in file) file.main.body (main_post file) no_context

-- The file is accepted: its forms are built, its names and sorts are in order, and no rule refuses it.
pub record IsAccepted (file : Source1) : Type 0 where
  pub built : is_built file ≡ true
  pub sorted : WellSorted file
  pub rules : first_rule_refusal file ≡ None
