-- The rules of gives, part by part.
use Rattle.std.proofs.Common.{◌≡◌, ℕ, Bool, true, false, [], ◌∷◌, Option, Some, None, Result, Ok, Err, OnOk, IfErr, refl, sym, ◌∙◌, ap}
use Rattle.tht_tree.specs.declared.plain.Spot.{Spot}
use Rattle.tht_tree.specs.declared.term.Term.{Term}
use Rattle.tht_tree.specs.declared.assn.Assn.{Assn, out-Assn}
use Rattle.tht_tree.specs.declared.give.Give.{Give}
use Rattle.tht_tree.specs.declared.proof.Proof.{Proof}
use Rattle.tht_tree.specs.Rules.Proofs.{prove}
use Rattle.tht_tree.specs.declared.give.GiveKind.{GiveKind, out-GiveKind, map-GiveKind, fold_out-GiveKind}
use Rattle.tht_tree.specs.declared.give.GiveKind.TheVariants as kind
use Rattle.tht_tree.specs.declared.give.GiveKind.TheOpen as g
use Rattle.tht_tree.specs.declared.rule.RuleCode.TheVariants.{R1, R4}
use Rattle.tht_tree.specs.declared.rule.RuleCode.{RuleCode}
use Rattle.tht_tree.specs.declared.rule.RuleRefusal.{RuleRefusal}
use Rattle.tht_tree.specs.Rules.Context.{Context, atom_at, without_atom}
use Rattle.tht_tree.specs.Rules.Scoping.{sort_of, is_of}
use Rattle.tht_logic.specs.Alike.{alike}
use Rattle.tht_logic.specs.Putting.{put_assn_within}
use Rattle.tht_logic.specs.Rules.Checking.{Checked, unless_refused, on_some, on_ok, on_true, put_or_refused}
use Rattle.tht_logic.specs.Rules.Definitions.{Declarations, defined}
use Rattle.tht_logic.specs.Rules.Gives.{Atoms, ToFrame, Existential, fact_at, existential_at, instance_at, give_at, spotted_give, frame_of, frame_of_kind}
use Rattle.pure_proofs.specs.declared.refusal.Refusal.{Refusal}
use Rattle.pure_proofs.specs.declared.refusal.Refusal.TheVariants.{Rule, Memory}
use Rattle.heap_rules.specs.declared.consumed.Consumed.{Consumed}
use Rattle.heap_rules.specs.ConsumedAtoms.{left_of, Leaves}
use Rattle.heap_rules.specs.Following.{Refuses, Stays}
use Rattle.heap_rules.specs.Openings.{opened, unfolded}

module _ (spot : Spot) (code : RuleCode) where
  -- what goes on behind two steps goes on behind the first
  some_then : {A B C : Type 0} (o : Option A) (f : A → Checked B) (g : B → Checked C) → on_ok (on_some spot code o f) g ≡ on_some spot code o (λ x. on_ok (f x) g)
  some_then None f g = refl
  some_then (Some x) f g = refl

  true_then : {B C : Type 0} (b : Bool) (x : Checked B) (g : B → Checked C) → on_ok (on_true spot code b x) g ≡ on_true spot code b (on_ok x g)
  true_then true x g = refl
  true_then false x g = refl

module _ (decl : Declarations) (spot : Spot) (c : Context) (frame : Assn → Checked Atoms) where
  abbrev fits : Term → Existential → Bool
  fits t p = is_of p.sort (sort_of decl.proofs.roots c.scope t)

  abbrev put : Term → Existential → Checked Assn
  put t p = put_or_refused spot (put_assn_within ((p.name, t) ∷ []) p.body)

  opened_then : (t : Term) (o : Option Existential)
      → on_ok (on_some spot R4 o (λ p. on_true spot R4 (fits t p) (put t p))) frame ≡ on_some spot R4 o (λ p. on_true spot R4 (fits t p) (on_ok (put t p) frame))
  opened_then t None = refl
  opened_then t (Some p) = true_then spot R4 (fits t p) (put t p) frame

  pub ex_is : (t : Term) (goal : Assn) → on_ok (opened decl spot c.scope t goal) frame
      ≡ on_some spot R4 (existential_at (out-Assn goal)) (λ p.
      on_true spot R4 (is_of p.sort (sort_of decl.proofs.roots c.scope t)) (on_ok (put_or_refused spot (put_assn_within ((p.name, t) ∷ []) p.body)) frame))
  ex_is t goal = opened_then t (existential_at (out-Assn goal))

  pub fold_is : (goal : Assn) → on_ok (unfolded decl spot goal) frame ≡ on_some spot R4 (instance_at (out-Assn goal)) (λ p. on_ok (defined decl spot p.0 p.1) frame)
  fold_is goal = some_then spot R4 (instance_at (out-Assn goal)) (λ p. defined decl spot p.0 p.1) frame

-- ---- the gives that make a goal, in the words of the rules

module _ (decl : Declarations) (c : Context) where
  kind_is : (k : GiveKind) (y : g.GiveKind-F GiveKind Give) (spot : Spot) (atoms : Atoms) (goal : Assn) → out-GiveKind k ≡ y
      → frame_of_kind decl c k spot atoms goal ≡ give_at decl c (map-GiveKind GiveKind Give (Spot → ToFrame) ToFrame (frame_of_kind decl c) (frame_of decl c) y) spot atoms goal
  unfolding frame_of frame_of_kind
  kind_is k y spot atoms goal e =
      ap (λ f. f spot atoms goal) (
      fold_out-GiveKind (Spot → ToFrame) ToFrame (give_at decl c) (spotted_give decl c) k
      ∙ ap (λ z. give_at decl c (map-GiveKind GiveKind Give (Spot → ToFrame) ToFrame (frame_of_kind decl c) (frame_of decl c) z)) e
      )

  -- `[q]`
  pub fact_kind : (q : Proof) (spot : Spot) (atoms : Atoms) (goal : Assn)
      → frame_of_kind decl c (kind.Fact q) spot atoms goal ≡ on_some spot R4 (fact_at (out-Assn goal)) (λ t. unless_refused (prove decl.proofs q c t) (Ok atoms))
  fact_kind q spot atoms goal = kind_is (kind.Fact q) (g.Fact q) spot atoms goal (kind.outs-Fact q)

  -- `ex [t] x`
  pub ex_kind : (t : Term) (x : Give) (spot : Spot) (atoms : Atoms) (goal : Assn) → frame_of_kind decl c (kind.Ex t x) spot atoms goal ≡ on_ok (opened decl spot c.scope t goal) (frame_of decl c x atoms)
  ex_kind t x spot atoms goal = kind_is (kind.Ex t x) (g.Ex t x) spot atoms goal (kind.outs-Ex t x) ∙ sym (ex_is decl spot c (frame_of decl c x atoms) t goal)

  -- `fold x`
  pub fold_kind : (x : Give) (spot : Spot) (atoms : Atoms) (goal : Assn) → frame_of_kind decl c (kind.Fold x) spot atoms goal ≡ on_ok (unfolded decl spot goal) (frame_of decl c x atoms)
  fold_kind x spot atoms goal = kind_is (kind.Fold x) (g.Fold x) spot atoms goal (kind.outs-Fold x) ∙ sym (fold_is decl spot c (frame_of decl c x atoms) goal)

-- a formula that is proved, or refused
pub fact_leaves : (result : Result (Unit {0}) Refusal) (said : Option RuleRefusal) (atoms : Atoms) → OnOk result (said ≡ None) → ((r : RuleRefusal) → result ≡ Err (Rule r) → said ≡ Some r)
    → Leaves result (unless_refused said (Ok atoms)) atoms
fact_leaves (Ok x) said atoms h g = ap (λ o. unless_refused o (Ok atoms)) h
fact_leaves (Err (Rule r)) said atoms h g = ap (λ o. unless_refused o (Ok atoms)) (g r refl)
fact_leaves (Err Memory) said atoms h g = tt

-- what is refused is refused with what goes on behind it
pub then_refused : {A B : Type 0} (e : Refusal) (said : Checked A) (go : A → Checked B) → Refuses e said → Refuses e (on_ok said go)
then_refused (Rule r) said go h = ap (λ s. on_ok s go) h
then_refused Memory said go h = tt

-- an atom that fits its goal is consumed
pub atom_leaves : (result : Result (Unit {0}) Refusal) (spot : Spot) (i : ℕ) (s t : Consumed) (es : Atoms) (p goal : Assn) → atom_at i (left_of s es) ≡ Some p → alike p goal ≡ true
    → OnOk result ((fs : Atoms) → left_of t fs ≡ without_atom i (left_of s fs)) → IfErr result (λ e. e ≡ Memory)
    → Leaves result (on_some spot R1 (atom_at i (left_of s es)) (λ q. on_true spot R4 (alike q goal) (Ok (without_atom i (left_of s es))))) (left_of t es)
atom_leaves (Ok u) spot i s t es p goal at fits left memory =
    ap (λ o. on_some spot R1 o (λ q. on_true spot R4 (alike q goal) (Ok (without_atom i (left_of s es))))) at
    ∙ ap (λ b. on_true spot R4 b (Ok (without_atom i (left_of s es)))) fits ∙ ap (λ (z : Atoms). Ok z) (sym (left es))
atom_leaves (Err (Rule r)) spot i s t es p goal at fits left memory = cc
atom_leaves (Err Memory) spot i s t es p goal at fits left memory = tt

-- ---- what is known after a give

abbrev with_frame : Context → Atoms → Checked Context
with_frame c frame = Ok (record c { atoms = frame })

pub gave_none : (e : Refusal) (said : Checked Atoms) (before now : Context) → Refuses e said → now ≡ before → Stays e (on_ok said (with_frame before)) before now
gave_none (Rule r) said before now h k = (ap (λ s. on_ok s (with_frame before)) h, k)
gave_none Memory said before now h k = tt

pub gave : (s : Consumed) (old mid new : Context) (said : Checked Atoms) → said ≡ Ok (left_of s old.atoms) → mid ≡ old → new ≡ record mid { atoms = left_of s mid.atoms } → on_ok said (with_frame old) ≡ Ok new
gave s old mid new said e m n = ap (λ z. on_ok z (with_frame old)) e ∙ ap (λ (c : Context). Ok (record c { atoms = left_of s c.atoms })) (sym m) ∙ ap (λ (c : Context). Ok c) (sym n)
