-- What the rules say of a call, stage by stage.
use Rattle.std.proofs.Common.{◌≡◌, ℕ, List, ◌++◌, append_assoc, Option, Some, None, Result, Ok, Err, refl, sym, ◌∙◌, ap, subst}
use Rattle.tht_tree.specs.declared.assn.Assn.{Assn}
use Rattle.tht_tree.specs.declared.decl.Head.{Head}
use Rattle.tht_tree.specs.declared.give.Give.{Give}
use Rattle.tht_tree.specs.declared.plain.Spot.{Spot}
use Rattle.tht_tree.specs.declared.rule.RuleCode.TheVariants.{R12}
use Rattle.tht_tree.specs.declared.term.Term.{Term}
use Rattle.tht_tree.specs.Normal.Putting.{Puts}
use Rattle.tht_tree.specs.Rules.Context.{Context}
use Rattle.tht_logic.specs.Rules.Calls.{after_call, after_call_of, call_arguments}
use Rattle.tht_logic.specs.Putting.{put_assn_within}
use Rattle.tht_logic.specs.Rules.Checking.{Checked, reject, on_some, on_ok, put_or_refused}
use Rattle.tht_logic.specs.Rules.Definitions.{Declarations}
use Rattle.tht_logic.specs.Rules.Gives.{after_give}
use Rattle.heap_rules.specs.Following.{Refuses}
use Rattle.pure_proofs.specs.declared.refusal.Refusal.{Refusal}
use Rattle.pure_proofs.specs.declared.refusal.Refusal.TheVariants.{Rule, Memory}
use Rattle.hoare_rules.specs.Calls.{given_before, known_behind}
use Rattle.hoare_rules.specs.Cells.{Says}

module _ (decl : Declarations) (spot : Spot) (c : Context) (x : List ℕ) (ts us : List Term) (g : Give) where
  -- the proc with a name
  module _ (f : List ℕ) where
    pub no_proc : decl.procs f ≡ None → after_call decl spot c x f ts us g ≡ reject spot R12
    no_proc e = ap (λ o. on_some spot R12 o (after_call_of decl spot c x ts us g)) e

    pub proc_called : {A : Type 0} (result : Result A Refusal) (head : Head) (now : Context) → decl.procs f ≡ Some head → Says result (after_call_of decl spot c x ts us g head) now → Says result (after_call decl spot c x f ts us g) now
    proc_called result head now e h = subst (λ o. Says result (on_some spot R12 o (after_call_of decl spot c x ts us g)) now) (sym e) h

  -- its precondition, and then its postcondition
  module _ (head : Head) where
    in_stages : after_call_of decl spot c x ts us g head ≡ on_ok (given_before decl spot c ts us g head) (λ k. known_behind spot k x ts us head)
    in_stages = by (put_or_refused spot (put_assn_within (call_arguments head ts us) head.pre))
      where
        by : (o : Checked Assn)
            → on_ok o (λ pre. on_ok (after_give decl c g pre) (λ k. known_behind spot k x ts us head))
            ≡ on_ok (on_ok o (after_give decl c g)) (λ k. known_behind spot k x ts us head)
        by (Ok p) = refl
        by (Err r) = refl

    pub not_called : (e : Refusal) → Refuses e (given_before decl spot c ts us g head) → Refuses e (after_call_of decl spot c x ts us g head)
    not_called (Rule r) h = in_stages ∙ ap (λ z. on_ok z (λ k. known_behind spot k x ts us head)) h
    not_called Memory h = tt

    pub called : {A : Type 0} (result : Result A Refusal) (mid now : Context) → given_before decl spot c ts us g head ≡ Ok mid → Says result (known_behind spot mid x ts us head) now
        → Says result (after_call_of decl spot c x ts us g head) now
    called result mid now e h = subst (λ z. Says result z now) (sym (in_stages ∙ ap (λ z. on_ok z (λ k. known_behind spot k x ts us head)) e)) h

-- ---- an assertion that is made, and what is made with it

-- what is not made
pub not_made : (e : Refusal) (said : Checked Assn) (go : Assn → Checked Context) → Refuses e said → Refuses e (on_ok said go)
not_made (Rule r) said go h = ap (λ z. on_ok z go) h
not_made Memory said go h = tt

pub made_then : {A : Type 0} (result : Result A Refusal) (said : Checked Assn) (p : Assn) (go : Assn → Checked Context) (now : Context) → said ≡ Ok p → Says result (go p) now → Says result (on_ok said go) now
made_then result said p go now e h = subst (λ z. Says result (on_ok z go) now) (sym e) h

-- ---- arguments

pub added_both : (by once twice ps qs : Puts) → once ≡ by ++ ps → twice ≡ once ++ qs → twice ≡ by ++ (ps ++ qs)
added_both by once twice ps qs e f = f ∙ ap (λ (z : Puts). z ++ qs) e ∙ append_assoc by ps qs
