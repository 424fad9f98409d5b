-- The rules of gives: which atoms a give leaves of those that are at hand, the frame, where it proves an assertion, its goal; or what is
-- refused first. A give goes from left to right. Proofs in it see all that was known before it, the atoms that it has consumed among that.
use Rattle.std.specs.Prelude.{ℕ, List, [], ◌∷◌, Option, Some, None, Ok}
use Rattle.tht_tree.specs.declared.plain.Spot.{Spot}
use Rattle.tht_tree.specs.declared.plain.Sort.{Sort}
use Rattle.tht_tree.specs.declared.term.Term.{Term}
use Rattle.tht_tree.specs.declared.assn.Assn.{Assn, out-Assn}
use Rattle.tht_tree.specs.declared.assn.Assn.TheOpen as a
use Rattle.tht_tree.specs.declared.give.Give.{Give, fold-Give}
use Rattle.tht_tree.specs.declared.give.GiveKind.{GiveKind, fold-GiveKind}
use Rattle.tht_tree.specs.declared.give.GiveKind.TheOpen as g
use Rattle.tht_tree.specs.declared.rule.RuleCode.TheVariants.{R1, R4}
use Rattle.tht_tree.specs.Rules.Context.{Context, atom_at, without_atom}
use Rattle.tht_tree.specs.Rules.Scoping.{sort_of, is_of}
use Rattle.tht_tree.specs.Rules.Proofs.{prove}
use Rattle.tht_logic.specs.Putting.{put_assn_within}
use Rattle.tht_logic.specs.Alike.{alike}
use Rattle.tht_logic.specs.Rules.Checking.{Checked, unless_refused, on_some, on_ok, on_true, put_or_refused}
use Rattle.tht_logic.specs.Rules.Definitions.{Declarations, defined}

abbrev pub Atoms : Type 0
Atoms = List (ℕ × Assn)

-- from the atoms at hand and a goal to the frame
abbrev pub ToFrame : Type 0
ToFrame = Atoms → Assn → Checked Atoms

-- ---- goals by their shapes

-- an existential: its variable, and what stands behind it
pub record Existential : Type 0 where
  pub name : List ℕ
  pub sort : Sort
  pub body : Assn

abbrev pub emp_at : a.Assn-F Assn → Option (Unit {0})
emp_at a.Emp = Some tt
emp_at _ = None

abbrev pub fact_at : a.Assn-F Assn → Option Term
fact_at (a.Fact t) = Some t
fact_at _ = None

abbrev pub star_at : a.Assn-F Assn → Option (Assn × Assn)
star_at (a.Star p q) = Some (p, q)
star_at _ = None

abbrev pub existential_at : a.Assn-F Assn → Option Existential
existential_at (a.Exists x s p) = Some (record { name = x; sort = s; body = p })
existential_at _ = None

abbrev pub disjunction_at : a.Assn-F Assn → Option (Assn × Assn)
disjunction_at (a.Either p q) = Some (p, q)
disjunction_at _ = None

abbrev pub instance_at : a.Assn-F Assn → Option (List ℕ × List Term)
instance_at (a.Inst q ts) = Some (q, ts)
instance_at _ = None

-- ---- the forms of gives

module _ (decl : Declarations) (c : Context) where
  abbrev pub give_at : g.GiveKind-F (Spot → ToFrame) ToFrame → Spot → ToFrame
  give_at g.Emp spot atoms goal = on_some spot R4 (emp_at (out-Assn goal)) (λ z. Ok atoms)
  give_at (g.Atom i) spot atoms goal = on_some spot R1 (atom_at i atoms) (λ p. on_true spot R4 (alike p goal) (Ok (without_atom i atoms)))
  give_at (g.Fact q) spot atoms goal = on_some spot R4 (fact_at (out-Assn goal)) (λ t. unless_refused (prove decl.proofs q c t) (Ok atoms))
  give_at (g.Star x y) spot atoms goal = on_some spot R4 (star_at (out-Assn goal)) (λ p. on_ok (x atoms p.0) (λ frame. y frame p.1))
  give_at (g.Ex t x) spot atoms goal =
      on_some spot R4 (existential_at (out-Assn goal)) (λ p.
      on_true spot R4 (is_of p.sort (sort_of decl.proofs.roots c.scope t)) (on_ok (put_or_refused spot (put_assn_within ((p.name, t) ∷ []) p.body)) (x atoms)))
  give_at (g.Left x) spot atoms goal = on_some spot R4 (disjunction_at (out-Assn goal)) (λ p. x atoms p.0)
  give_at (g.Right x) spot atoms goal = on_some spot R4 (disjunction_at (out-Assn goal)) (λ p. x atoms p.1)
  give_at (g.Fold x) spot atoms goal = on_some spot R4 (instance_at (out-Assn goal)) (λ p. on_ok (defined decl spot p.0 p.1) (x atoms))

  abbrev pub spotted_give : g.Give-F (Spot → ToFrame) ToFrame → ToFrame
  spotted_give x = x.kind x.spot

  -- the frame of a give, and the same of one that stands at a spot
  unfoldable pub frame_of : Give → ToFrame
  frame_of = fold-Give (Spot → ToFrame) ToFrame give_at spotted_give

  unfoldable pub frame_of_kind : GiveKind → Spot → ToFrame
  frame_of_kind = fold-GiveKind (Spot → ToFrame) ToFrame give_at spotted_give

-- what is known after a give of a goal: the atoms that it has consumed are gone
abbrev pub after_give : Declarations → Context → Give → Assn → Checked Context
after_give decl c x goal = on_ok (frame_of decl c x c.atoms goal) (λ frame. Ok (record c { atoms = frame }))
