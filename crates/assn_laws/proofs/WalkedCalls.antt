-- Steps and names keep what the walk knows of procs, and a call in which the walk over names and sorts refuses nothing is in order.
use Rattle.std.proofs.Common.{◌≡◌, true, false, List, [], ◌∷◌, map, Option, Some, None, refl, sym, ◌∙◌, ap}
use Rattle.std.specs.Prelude.{option_map}
use Rattle.tht_tree.specs.declared.decl.Head.{Head}
use Rattle.tht_tree.specs.declared.decl.Param.{Param}
use Rattle.tht_tree.specs.declared.term.Term.{Term}
use Rattle.tht_tree.specs.declared.walk.Class.{Class}
use Rattle.tht_tree.specs.declared.walk.Class.TheVariants as c
use Rattle.tht_tree.specs.declared.walk.Signature.{Signature}
use Rattle.tht_tree.specs.declared.walk.Where.TheVariants.{Outside}
use Rattle.tht_tree.specs.declared.walk.WalkCode.TheVariants.{S4}
use Rattle.tht_tree.specs.Syntax.{Names}
use Rattle.tht_tree.specs.Rules.Context.{Scope}
use Rattle.tht_tree.specs.Rules.Scoping.{is_of, sort_of}
use Rattle.tht_tree.specs.Walk.Names as walk
use Rattle.tht_tree.specs.Walk.Names.{param_sorts}
use Rattle.tht_tree.specs.Walk.Sorts.{clash, found}
use Rattle.tht_tree.specs.Walk.Terms.{any_program, any_programs, any_terms, arguments}
use Rattle.tht_tree.specs.Walk.Bodies.{call_arguments, as_command, call_sort}
use Rattle.tht_tree.specs.Walk.Decls.{signature}
use Rattle.proof_laws.specs.Walked.{Matches}
use Rattle.proof_laws.proofs.TermSorts.{same_sort-refl}
use Rattle.proof_laws.proofs.WalkedTerms.{no_walk_code, first_none}
use Rattle.tht_logic.specs.Rules.Scoped.{fit}
use Rattle.assn_laws.specs.Walked.{KnowsProcAt, WalkedCallsAreInOrder}
use Rattle.assn_laws.specs.FileLaws.{StepsKeepProcs}
use Rattle.assn_laws.proofs.ProcNames.{procs_after_step}
use Rattle.assn_laws.proofs.Refusing.{first_of_none, both}
use Rattle.assn_laws.proofs.WalkedNames.{both_none, fit_walked}
use Rattle.assn_laws.proofs.WalkedPrograms.{program_term}

-- ---- what the walk knows of procs

-- No step hides a proc.
pub steps_keep_procs : StepsKeepProcs
steps_keep_procs = procs_after_step

-- ---- calls

module _ (roots : Names) (names : walk.Scope) (scope : Scope) (matches : Matches roots names scope) where
  -- arguments that are program terms
  programs_fit : (ps : List Param) (ts : List Term) → any_programs names ts ≡ no_walk_code → arguments names true (param_sorts ps) ts ≡ no_walk_code → fit roots scope ps ts ≡ true
  programs_fit [] [] e f = refl
  programs_fit (p ∷ ps) (a ∷ ts) e f =
      let one = first_of_none (any_program names a) (map (any_program names) ts) e in
      let two = first_none (clash p.sort (found names true a).sort) (arguments names true (param_sorts ps) ts) f in
      let it = program_term roots names scope matches p.sort a (both_none (any_program names a) (clash p.sort (found names true a).sort) one.0 two.0) in
      both (is_of p.sort (sort_of roots scope a)) (fit roots scope ps ts) (ap (is_of p.sort) it.of_sort ∙ same_sort-refl p.sort) (programs_fit ps ts one.1 two.1)
  programs_fit [] (a ∷ ts) e f = cc
  programs_fit (p ∷ ps) [] e f = cc

  module _ (ts us : List Term) (programs : any_programs names ts ≡ no_walk_code) (terms : any_terms names us ≡ no_walk_code) where
    -- what the walk has for a name, and a table of procs
    record Called (k : Option Class) (o : Option Head) : Type 0 where
      head : Head
      declared : o ≡ Some head
      params : fit roots scope head.params ts ≡ true
      logic : fit roots scope head.logic us ≡ true
      result : call_sort k ≡ head.sort

    by_signature : (f : Signature) (o : Option Head) → option_map signature o ≡ Some f → call_arguments names f ts us ≡ no_walk_code → Called (Some (c.Proc f)) o
    by_signature f None e g = cc
    by_signature f (Some x) e g =
        let same : signature x ≡ f = inside (signature x) f e in
        let parts = first_none (arguments names true f.params ts) (arguments names false f.logic us) g in
        record {
          head = x;
          declared = refl;
          params = programs_fit x.params ts programs (ap (λ z. arguments names true z.params ts) same ∙ parts.0);
          logic = fit_walked roots names scope matches x.logic us terms (ap (λ z. arguments names false z.logic us) same ∙ parts.1);
          result = ap (λ z. z.result) (sym same);
        }
      where
        inside : (a b : Signature) → Some a ≡ Some b → a ≡ b
        inside a b h = cc

    called : (k : Option Class) (o : Option Head) → KnowsProcAt k o → as_command Outside names ts us k ≡ no_walk_code → Called k o
    called (Some (c.Proc f)) o knows e = by_signature f o knows (first_none (call_arguments names f ts us) no_walk_code e).0
    called (Some (c.Txn f)) o knows e = let never = (first_none (call_arguments names f ts us) (Some S4) e).1 in cc
    called None o knows e = cc
    called (Some _) o knows e = cc

-- The law of calls.
pub walked_calls_are_in_order : WalkedCallsAreInOrder
walked_calls_are_in_order roots procs names scope matches knows f ts us e =
    let one = first_of_none (any_programs names ts) (any_terms names us ∷ as_command Outside names ts us (names f) ∷ []) e in
    let two = first_of_none (any_terms names us) (as_command Outside names ts us (names f) ∷ []) one.1 in
    let it = called roots names scope matches ts us one.0 two.0 (names f) (procs f) (knows f) two.1 in
    record { head = it.head; declared = it.declared; params = it.params; logic = it.logic; programs = one.0; result = it.result }
