-- What a give leaves is all atoms but those that it names, each taken once.
use Rattle.std.proofs.Common.{◌≡◌, ℕ, List, [], ◌∷◌, ◌++◌, Ok, refl, sym, ◌∙◌, ap, subst}
use Rattle.tht_tree.specs.declared.plain.Spot.{Spot}
use Rattle.tht_tree.specs.declared.assn.Assn.{Assn, out-Assn}
use Rattle.tht_tree.specs.declared.give.Give.{Give, roll-Give, ind-Give, fold-Give, fold_out-Give}
use Rattle.tht_tree.specs.declared.give.GiveKind.{GiveKind, roll-GiveKind, map-GiveKind, fold-GiveKind, fold-roll-GiveKind}
use Rattle.tht_tree.specs.declared.give.GiveKind.TheOpen as g
use Rattle.tht_tree.specs.declared.rule.RuleCode.TheVariants.{R1, R4}
use Rattle.tht_tree.specs.Rules.Context.{Context, atom_at, without_atom}
use Rattle.tht_tree.specs.Rules.Scoping.{is_of, sort_of}
use Rattle.tht_tree.specs.Rules.Proofs.{prove}
use Rattle.tht_logic.specs.Putting.{put_assn_within}
use Rattle.tht_logic.specs.Alike.{alike}
use Rattle.tht_logic.specs.Rules.Checking.{unless_refused, on_ok, on_true, put_or_refused}
use Rattle.tht_logic.specs.Rules.Definitions.{Declarations, defined}
use Rattle.tht_logic.specs.Rules.Gives.{Atoms, ToFrame, emp_at, fact_at, star_at, existential_at, disjunction_at, instance_at, give_at, frame_of, frame_of_kind}
use Rattle.assn_laws.proofs.Answers.{IsOk, ok_same, from_some, from_ok, from_unless, from_true}
use Rattle.assn_laws.proofs.GiveLevels.{frame_of_is, frame_of_kind_is}
use Rattle.assn_laws.proofs.TakenAtoms.{without_all}

-- the numbers of the atoms that a give names, the last one first
abbrev pub numbers_at : g.GiveKind-F (List ℕ) (List ℕ) → List ℕ
numbers_at g.Emp = []
numbers_at (g.Atom i) = i ∷ []
numbers_at (g.Fact q) = []
numbers_at (g.Star x y) = y ++ x
numbers_at (g.Ex t x) = x
numbers_at (g.Left x) = x
numbers_at (g.Right x) = x
numbers_at (g.Fold x) = x

abbrev pub numbers : Give → List ℕ
numbers = fold-Give (List ℕ) (List ℕ) numbers_at (λ x. x.kind)

abbrev pub kind_numbers : GiveKind → List ℕ
kind_numbers = fold-GiveKind (List ℕ) (List ℕ) numbers_at (λ x. x.kind)

without_both : (is js : List ℕ) (es : Atoms) → without_all (is ++ js) es ≡ without_all is (without_all js es)
without_both [] js es = refl
without_both (i ∷ is) js es = ap (without_atom i) (without_both is js es)

module _ (decl : Declarations) (c : Context) where
  abbrev pub Leaves : ToFrame → List ℕ → Type 0
  Leaves f is = (atoms left : Atoms) (goal : Assn) → IsOk (f atoms goal) left → left ≡ without_all is atoms

  abbrev KindLeaves : GiveKind → Type 0
  KindLeaves k = (spot : Spot) → Leaves (frame_of_kind decl c k spot) (kind_numbers k)

  abbrev GiveLeaves : Give → Type 0
  GiveLeaves x = Leaves (frame_of decl c x) (numbers x)

  abbrev Kinds : Type 0
  Kinds = (k : GiveKind) × KindLeaves k

  abbrev Gives : Type 0
  Gives = (x : Give) × GiveLeaves x

  abbrev left_level : g.GiveKind-F GiveKind Give → g.GiveKind-F (Spot → ToFrame) ToFrame
  left_level = map-GiveKind GiveKind Give (Spot → ToFrame) ToFrame (frame_of_kind decl c) (frame_of decl c)

  abbrev number_level : g.GiveKind-F GiveKind Give → g.GiveKind-F (List ℕ) (List ℕ)
  number_level = map-GiveKind GiveKind Give (List ℕ) (List ℕ) kind_numbers numbers

  abbrev IsLevel : g.GiveKind-F GiveKind Give → Type 0
  IsLevel x = (spot : Spot) → Leaves (give_at decl c (left_level x) spot) (numbers_at (number_level x))

  level : (y : g.GiveKind-F Kinds Gives) → IsLevel (map-GiveKind Kinds Gives GiveKind Give (λ x. x.0) (λ x. x.0) y)
  level g.Emp spot atoms left goal e = let r = from_some spot R4 (emp_at (out-Assn goal)) (λ z. Ok atoms) left e in sym (ok_same atoms left r.2)
  level (g.Atom k) spot atoms left goal e =
      let r = from_some spot R1 (atom_at k atoms) (λ q. on_true spot R4 (alike q goal) (Ok (without_atom k atoms))) left e in
      sym (ok_same (without_atom k atoms) left (from_true spot R4 (alike r.0 goal) (Ok (without_atom k atoms)) left r.2).1)
  level (g.Fact q) spot atoms left goal e =
      let r = from_some spot R4 (fact_at (out-Assn goal)) (λ t. unless_refused (prove decl.proofs q c t) (Ok atoms)) left e in
      sym (ok_same atoms left (from_unless (prove decl.proofs q c r.0) (Ok atoms) left r.2).1)
  level (g.Star x y) spot atoms left goal e =
      let r = from_some spot R4 (star_at (out-Assn goal)) (λ z. on_ok (frame_of decl c x.0 atoms z.0) (λ mid. frame_of decl c y.0 mid z.1)) left e in
      let m = from_ok (frame_of decl c x.0 atoms r.0.0) (λ mid. frame_of decl c y.0 mid r.0.1) left r.2 in
      y.1 m.0 left r.0.1 m.2 ∙ ap (without_all (numbers y.0)) (x.1 atoms m.0 r.0.0 m.1) ∙ sym (without_both (numbers y.0) (numbers x.0) atoms)
  level (g.Ex t x) spot atoms left goal e =
      let r = from_some spot R4 (existential_at (out-Assn goal)) (λ z. on_true spot R4 (is_of z.sort (sort_of decl.proofs.roots c.scope t)) (on_ok (put_or_refused spot (put_assn_within ((z.name, t) ∷ []) z.body)) (frame_of decl c x.0 atoms))) left e in
      let s = from_true spot R4 (is_of r.0.sort (sort_of decl.proofs.roots c.scope t)) (on_ok (put_or_refused spot (put_assn_within ((r.0.name, t) ∷ []) r.0.body)) (frame_of decl c x.0 atoms)) left r.2 in
      let k = from_ok (put_or_refused spot (put_assn_within ((r.0.name, t) ∷ []) r.0.body)) (frame_of decl c x.0 atoms) left s.1 in
      x.1 atoms left k.0 k.2
  level (g.Left x) spot atoms left goal e = let r = from_some spot R4 (disjunction_at (out-Assn goal)) (λ z. frame_of decl c x.0 atoms z.0) left e in x.1 atoms left r.0.0 r.2
  level (g.Right x) spot atoms left goal e = let r = from_some spot R4 (disjunction_at (out-Assn goal)) (λ z. frame_of decl c x.0 atoms z.1) left e in x.1 atoms left r.0.1 r.2
  level (g.Fold x) spot atoms left goal e =
      let r = from_some spot R4 (instance_at (out-Assn goal)) (λ z. on_ok (defined decl spot z.0 z.1) (frame_of decl c x.0 atoms)) left e in
      let k = from_ok (defined decl spot r.0.0 r.0.1) (frame_of decl c x.0 atoms) left r.2 in
      x.1 atoms left k.0 k.2

  kind_step : (x : g.GiveKind-F GiveKind Give) → IsLevel x → KindLeaves (roll-GiveKind x)
  kind_step x leaves spot atoms left goal e =
      leaves spot atoms left goal (sym (frame_of_kind_is decl c x spot atoms goal) ∙ e) ∙ ap (λ is. without_all is atoms) (sym (fold-roll-GiveKind (List ℕ) (List ℕ) numbers_at (λ z. z.kind) x))

  give_step : (x : Give) → KindLeaves x.kind → GiveLeaves x
  give_step x leaves atoms left goal e =
      leaves x.spot atoms left goal (sym (frame_of_is decl c x.spot x.kind atoms goal) ∙ e) ∙ ap (λ is. without_all is atoms) (sym (fold_out-Give (List ℕ) (List ℕ) numbers_at (λ z. z.kind) x))

  -- The law.
  pub all_but_named : (x : Give) → Leaves (frame_of decl c x) (numbers x)
  all_but_named = ind-Give KindLeaves GiveLeaves (λ x y is. kind_step x (subst IsLevel is (level y))) (λ x y is. give_step (roll-Give x) (subst (λ (z : g.Give-F GiveKind Give). KindLeaves z.kind) is y.kind.1))
