-- A file to which the laws of files apply: its names and sorts are in order, it has two predicates without `on`, and the second names the first.
use Rattle.std.proofs.Common.{◌≡◌, ℕ, true, List, [], ◌∷◌, None, refl}
use Rattle.std.proofs.lemmas.List.Elements.{All-cons, All-nil}
use Rattle.tht_tree.specs.declared.plain.Sort.TheVariants as sort
use Rattle.tht_tree.specs.declared.plain.Spot.{Spot}
use Rattle.tht_tree.specs.declared.term.Term.{Term, roll-Term, out-roll-Term}
use Rattle.tht_tree.specs.declared.term.Term.TheOpen as t
use Rattle.tht_tree.specs.declared.assn.Assn.{roll-Assn}
use Rattle.tht_tree.specs.declared.assn.Assn.TheOpen as a
use Rattle.tht_tree.specs.declared.give.GiveKind.{roll-GiveKind}
use Rattle.tht_tree.specs.declared.give.GiveKind.TheOpen as g
use Rattle.tht_tree.specs.declared.body.Body.{roll-Body}
use Rattle.tht_tree.specs.declared.body.EndKind.{roll-EndKind}
use Rattle.tht_tree.specs.declared.body.EndKind.TheOpen as b
use Rattle.tht_tree.specs.declared.decl.Access.TheVariants as access
use Rattle.tht_tree.specs.declared.decl.Decl.{Decl}
use Rattle.tht_tree.specs.declared.decl.DeclKind.TheVariants as d
use Rattle.tht_tree.specs.declared.file.Source1.{Source1}
use Rattle.tht_tree.specs.Walk.Files.{WellSorted}
use Rattle.walk_laws.proofs.Levels.{code_is, sort_is, kind_is, assn_is, give_is, give_kind_is, end_is, end_kind_is, body_is}
use Rattle.tht_logic.specs.Rules.Definitions.{Declarations, predicates_of}
use Rattle.tht_logic.specs.Rules.Scoped.{instance_fits}
use Rattle.assn_laws.specs.Laws.{InstancesMeanDefinitions}
use Rattle.assn_laws.specs.Walked.{is_simple, AreSimple}
use Rattle.tht_logic.specs.Meanings.{meaning_in}
use Rattle.assn_laws.specs.FileLaws.{IsReady}
use Rattle.assn_laws.proofs.SimpleFiles.{simple_files_mean_definitions}

ruleset levels = (code_is, sort_is, kind_is, assn_is, give_is, give_kind_is, end_is, end_kind_is, body_is, out-roll-Term)

abbrev at : ℕ → ℕ → Spot
at line column = record { line = line; column = column }

abbrev var : List ℕ → Term
var x = roll-Term (t.Var x)

--     tht 1
--     pred c (p : loc, n : nat) = p -> n;
--     pred s (p : loc) = exists n : nat . c(p, n) * [n = n];
--     main r : unit { emp } { ret () by emp }
abbrev cell : Decl
cell = record {
  spot = at 2 1;
  kind = d.Pred access.Private (99 ∷ []) (record { name = 112 ∷ []; sort = sort.Loc } ∷ record { name = 110 ∷ []; sort = sort.Nat } ∷ []) (roll-Assn (a.Own (var (112 ∷ [])) (var (110 ∷ []))));
}

abbrev some_cell : Decl
some_cell = record {
  spot = at 3 1;
  kind = d.Pred access.Private (115 ∷ []) (record { name = 112 ∷ []; sort = sort.Loc } ∷ [])
      (roll-Assn (a.Exists (110 ∷ []) sort.Nat
      (roll-Assn (a.Star (roll-Assn (a.Inst (99 ∷ []) (var (112 ∷ []) ∷ var (110 ∷ []) ∷ []))) (roll-Assn (a.Fact (roll-Term (t.Eq (var (110 ∷ [])) (var (110 ∷ []))))))))));
}

abbrev sample : Source1
sample = record {
  version = 1;
  decls = cell ∷ some_cell ∷ [];
  main = record {
    spot = at 4 1;
    result = 114 ∷ [];
    sort = sort.Unit;
    post = roll-Assn a.Emp;
    body = roll-Body (record { stmts = []; end = record { spot = at 4 25; kind = roll-EndKind (b.Ret (roll-Term t.Unit) (record { spot = at 4 35; kind = roll-GiveKind g.Emp })) } });
  };
}

sample_sorted : WellSorted sample
sample_sorted = simp (levels)

sample_simple : AreSimple sample.decls
sample_simple =
    All-cons (λ (x : Decl). is_simple x.kind ≡ true) cell (some_cell ∷ []) refl
    (All-cons (λ (x : Decl). is_simple x.kind ≡ true) some_cell [] refl (All-nil (λ (x : Decl). is_simple x.kind ≡ true)))

abbrev sample_decl : Declarations
sample_decl = record { proofs = record { roots = []; lemmas = λ l ts. None }; predicates = predicates_of sample.decls; lemmas = λ l. None; procs = λ f. None }

pub sample_ready : IsReady sample sample_decl
sample_ready = record {
  sorted = sample_sorted;
  simple = sample_simple;
  declares = record { roots = refl; predicates = λ q. refl };
  lemmas = record { proofs = λ l ts. refl; steps = λ l. refl };
}

-- its predicates mean their definitions
pub sample_means : InstancesMeanDefinitions sample_decl (instance_fits sample_decl) (meaning_in sample)
sample_means = simple_files_mean_definitions sample sample_decl sample_sorted sample_simple sample_ready.declares
