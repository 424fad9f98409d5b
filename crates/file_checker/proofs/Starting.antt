-- What is known before the body of a proc.
use Rattle.std.proofs.Common.{◌≡◌, ℕ, suc, ◌+◌, ◌<◌, ◌≤◌, Bool, true, false, All, List, [], ◌∷◌, length, drop, get_or, add-one, Result, Ok, Err, refl, sym, ◌∙◌, ap, subst}
use Rattle.std.proofs.Math.Seq.{drop-cons}
use Rattle.std.proofs.lemmas.List.Elements.{All-nil}
use Rattle.std.specs.List.Sorted.{IsStrictlySortedBy}
use Rattle.std.specs.Prelude.{OnOk, IfErr}
use Rattle.tht_tree.specs.declared.assn.Assn.{Assn}
use Rattle.tht_tree.specs.declared.decl.Head.{Head}
use Rattle.tht_tree.specs.declared.decl.Param.{Param}
use Rattle.tht_tree.specs.declared.plain.Spot.{Spot}
use Rattle.tht_tree.specs.declared.rule.RuleCode.TheVariants.{R10}
use Rattle.tht_tree.specs.declared.state.Local.TheVariants.{Variable}
use Rattle.tht_tree.specs.Rules.Context.{Context, Scope, no_context, context_fits}
use Rattle.tht_tree.specs.Rules.Sizes.{assn_fits}
use Rattle.tht_logic.specs.Flatten.{flatten, with_assn}
use Rattle.tht_logic.specs.Rules.Checking.{Checked, reject, on_true, if_fits}
use Rattle.tht_logic.specs.Rules.Definitions.{head_scope}
use Rattle.tht_logic.specs.Rules.Files.{at_start}
use Rattle.tht_logic.specs.Rules.Formed.{IsFormed}
use Rattle.tht_logic.specs.Rules.Scoped.{Signatures, is_formula, assn}
use Rattle.pure_proofs.specs.declared.refusal.Refusal.{Refusal}
use Rattle.pure_proofs.specs.declared.refusal.Refusal.TheVariants.{Rule, Memory}
use Rattle.heap_rules.specs.Changes.{named}
use Rattle.heap_rules.specs.Following.{Refuses}
use Rattle.assn_laws.proofs.AddedAtoms.{GoodAtoms, flat_in_order, good_added, added_scope, added_hyps}
use Rattle.assn_laws.proofs.Answers.{from_true}
use Rattle.assn_laws.proofs.Scopes.{from_fits}
use Rattle.hoare_rules.specs.Cells.{Says}
use Rattle.file_checker.specs.Starts.{in_head, with_bound}

-- ---- variables in scope

-- one more of them
pub bound_next : (c d : Context) (ps : List Param) (i : ℕ) (p : Param) → i < length ps → p ≡ get_or ps i p → d ≡ named p.name (Variable p.sort) c → with_bound c (drop i ps) ≡ with_bound d (drop (i + 1) ps)
bound_next c d ps i p within here is =
    let next : drop i ps ≡ p ∷ drop (i + 1) ps = rw add-one (drop-cons ps i p within ∙ ap (λ y. y ∷ drop (suc i) ps) (sym here)) in
    ap (with_bound c) next ∙ ap (λ k. with_bound k (drop (i + 1) ps)) (sym is)

-- ---- an assertion added

module _ (spot : Spot) (c : Context) (p : Assn) where
  abbrev all : Context
  all = with_assn p c

  pub no_room : (e : Refusal) → e ≡ Rule (record { spot = spot; code = R10 }) → false ≡ context_fits all → Refuses e (if_fits spot all)
  no_room e is large = subst (λ z. Refuses z (if_fits spot all)) (sym is) (ap (λ b. on_true spot R10 b (Ok all)) (sym large))

  pub added : {A : Type 0} (result : Result A Refusal) (now : Context) → true ≡ context_fits all → OnOk result (now ≡ all) → IfErr result (λ e. e ≡ Memory) → Says result (if_fits spot all) now
  added (Ok x) now fits ok err = ap (λ b. on_true spot R10 b (Ok all)) (sym fits) ∙ ap Ok (sym ok)
  added (Err e) now fits ok err = subst (λ z. Refuses z (if_fits spot all)) (sym err) tt

-- ---- the start of a proc

module _ (spot : Spot) (x : Head) where
  pub pre_large : false ≡ assn_fits x.pre → at_start spot x ≡ reject spot R10
  pre_large e = ap (λ b. on_true spot R10 b (if_fits spot (with_assn x.pre (in_head x)))) (sym e)

  module _ (fits : true ≡ assn_fits x.pre) (k : Context) (is : k ≡ in_head x) where
    at_pre : at_start spot x ≡ if_fits spot (with_assn x.pre k)
    at_pre = ap (λ b. on_true spot R10 b (if_fits spot (with_assn x.pre (in_head x)))) (sym fits) ∙ ap (λ c. if_fits spot (with_assn x.pre c)) (sym is)

    pub not_added : (e : Refusal) → Refuses e (if_fits spot (with_assn x.pre k)) → Refuses e (at_start spot x)
    not_added e h = subst (Refuses e) (sym at_pre) h

    pub starts : (next now : Context) → if_fits spot (with_assn x.pre k) ≡ Ok next → now ≡ next → at_start spot x ≡ Ok now
    starts next now said same = at_pre ∙ said ∙ ap Ok (sym same)

-- what is known at the start of a proc is in order, where its precondition is
pub start_formed : (instance : Signatures) (spot : Spot) (x : Head) (c : Context) → assn [] instance x.pre (head_scope x) ≡ true → at_start spot x ≡ Ok c → IsFormed [] instance c
unfolding IsStrictlySortedBy
start_formed instance spot x c pre ok =
    let empty : Context = in_head x in
    let fits = from_true spot R10 (assn_fits x.pre) (if_fits spot (with_assn x.pre empty)) c ok in
    let is : with_assn x.pre empty ≡ c = from_fits spot (with_assn x.pre empty) c fits.1 in
    let nothing : GoodAtoms [] instance empty = record { ascending = tt; numbered = All-nil _; in_order = All-nil _ } in
    let good : GoodAtoms [] instance (with_assn x.pre empty) = good_added [] instance (flatten x.pre) empty nothing (flat_in_order [] instance x.pre (head_scope x) pre) in
    let scope : Scope = (with_assn x.pre empty).scope in
    subst (IsFormed [] instance) is (record {
      ascending = good.ascending;
      numbered = good.numbered;
      atoms = good.in_order;
      hyps = subst (All (λ h. is_formula [] scope h.formula ≡ true)) (sym (added_hyps [] instance (flatten x.pre) empty)) (All-nil _);
      no_root_hidden = λ y r e. cc;
    })

-- what is known before main's body is in order
pub nothing_formed : (instance : Signatures) → IsFormed [] instance no_context
unfolding IsStrictlySortedBy
nothing_formed instance = record { ascending = tt; numbered = All-nil _; atoms = All-nil _; hyps = All-nil _; no_root_hidden = λ x r e. cc }
