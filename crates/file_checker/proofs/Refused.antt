-- What is refused of two things that are checked one after the other.
use Rattle.std.proofs.Common.{◌≡◌, ℕ, suc, ◌+◌, ◌<◌, ◌≤◌, List, [], ◌∷◌, length, drop, get_or, add-one, Option, Some, None, Result, Ok, Err, refl, sym, ◌∙◌, ap, subst}
use Rattle.std.proofs.Math.ListN.{drop_of_length-le}
use Rattle.std.proofs.Math.Seq.{drop-cons}
use Rattle.std.specs.Prelude.{OnOk}
use Rattle.tht_tree.specs.declared.decl.Decl.{Decl}
use Rattle.tht_tree.specs.declared.file.Source1.{Source1}
use Rattle.tht_tree.specs.declared.rule.RuleRefusal.{RuleRefusal}
use Rattle.tht_tree.specs.Rules.Context.{Context, no_context}
use Rattle.tht_tree.specs.Rules.Refusals.{◌▸◌}
use Rattle.tht_logic.specs.Procedures.{main_post}
use Rattle.tht_logic.specs.Rules.Bodies.{body_refused}
use Rattle.tht_logic.specs.Rules.Checking.{Checked, and_then}
use Rattle.tht_logic.specs.Rules.Definitions.{Declarations}
use Rattle.tht_logic.specs.Rules.Files.{declared, decl_refused, first_rule_refusal}
use Rattle.pure_proofs.specs.declared.refusal.Refusal.{Refusal}
use Rattle.pure_proofs.specs.declared.refusal.Refusal.TheVariants.{Rule, Memory}
use Rattle.pure_proofs.specs.Verdicts.{IsStop, IsVerdict}
use Rattle.heap_rules.specs.Following.{Refuses}
use Rattle.file_checker.specs.Refusals.{decls_refused}

-- ---- one thing behind another

pub first_stops : (e : Refusal) (a b : Option RuleRefusal) → IsStop e a → IsStop e (a ▸ b)
first_stops (Rule r) a b h = ap (λ z. z ▸ b) h
first_stops Memory a b h = tt

pub then_checked : {A : Type 0} (result : Result A Refusal) (a b : Option RuleRefusal) → a ≡ None → IsVerdict result b → IsVerdict result (a ▸ b)
then_checked result a b none h = subst (λ z. IsVerdict result (z ▸ b)) (sym none) h

-- ---- what is known at a start

pub not_started : (e : Refusal) (said : Checked Context) (go : Context → Option RuleRefusal) → Refuses e said → IsStop e (and_then said go)
not_started (Rule r) said go h = ap (λ z. and_then z go) h
not_started Memory said go h = tt

pub started : {A : Type 0} (result : Result A Refusal) (said : Checked Context) (go : Context → Option RuleRefusal) (c : Context) → said ≡ Ok c → IsVerdict result (go c) → IsVerdict result (and_then said go)
started result said go c is h = subst (λ z. IsVerdict result (and_then z go)) (sym is) h

-- ---- bodies

-- an answer of which two things are said
pub verdict_of : {A : Type 0} (result : Result A Refusal) (said : Option RuleRefusal) → OnOk result (said ≡ None) → ((r : RuleRefusal) → result ≡ Err (Rule r) → said ≡ Some r) → IsVerdict result said
verdict_of (Ok x) said ok refused = ok
verdict_of (Err (Rule r)) said ok refused = refused r refl
verdict_of (Err Memory) said ok refused = tt

-- ---- declarations

-- a declaration with others in front of it and behind it
module _ (decl : Declarations) (ds : List Decl) (i : ℕ) (x : Decl) (within : i < length ds) (here : x ≡ get_or ds i x) where
  from_here : drop i ds ≡ x ∷ drop (i + 1) ds
  from_here = rw add-one (drop-cons ds i x within ∙ ap (λ y. y ∷ drop (suc i) ds) (sym here))

  module _ (whole : Option RuleRefusal) (left : whole ≡ decls_refused decl (drop i ds)) where
    first_left : whole ≡ decl_refused decl x.spot x.kind ▸ decls_refused decl (drop (i + 1) ds)
    first_left = left ∙ ap (decls_refused decl) from_here

    pub decl_stops : (e : Refusal) → IsStop e (decl_refused decl x.spot x.kind) → IsStop e whole
    decl_stops e h = subst (IsStop e) (sym first_left) (first_stops e (decl_refused decl x.spot x.kind) (decls_refused decl (drop (i + 1) ds)) h)

    pub decl_passed : decl_refused decl x.spot x.kind ≡ None → whole ≡ decls_refused decl (drop (i + 1) ds)
    decl_passed none = first_left ∙ ap (λ z. z ▸ decls_refused decl (drop (i + 1) ds)) none

-- behind the last declaration nothing is left
pub decls_over : (decl : Declarations) (ds : List Decl) (i : ℕ) → length ds ≤ i → (whole : Option RuleRefusal) → whole ≡ decls_refused decl (drop i ds) → whole ≡ None
decls_over decl ds i past whole left = left ∙ ap (decls_refused decl) (drop_of_length-le ds past)

-- ---- files

-- these are the declarations of a file, and this is what they declare
module _ (file : Source1) (ds : List Decl) (same : ds ≡ file.decls) (decl : Declarations) (is : decl ≡ declared [] ds) where
  abbrev pub main_refused : Declarations → Option RuleRefusal
  main_refused k = body_refused k file.main.body (main_post file) no_context

  in_parts : (decls_refused decl ds ▸ main_refused decl) ≡ first_rule_refusal file
  in_parts = ap (λ k. decls_refused k ds ▸ main_refused k) is ∙ ap (λ xs. decls_refused (declared [] xs) xs ▸ main_refused (declared [] xs)) same

  pub decls_stop : (e : Refusal) → IsStop e (decls_refused decl ds) → IsStop e (first_rule_refusal file)
  decls_stop e h = subst (IsStop e) in_parts (first_stops e (decls_refused decl ds) (main_refused decl) h)

  pub main_checked : {A : Type 0} (result : Result A Refusal) → decls_refused decl ds ≡ None → IsVerdict result (main_refused decl) → IsVerdict result (first_rule_refusal file)
  main_checked result none h = subst (IsVerdict result) in_parts (then_checked result (decls_refused decl ds) (main_refused decl) none h)
