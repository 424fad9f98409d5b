-- The laws of statements on one private cell, in states of all forms of assertions, as statements.
use Rattle.std.specs.Prelude.{◌≡◌, ℕ, Bool, true, List, Some, None, Ok}
use Rattle.tht_tree.specs.declared.plain.Place.{Place}
use Rattle.tht_tree.specs.declared.plain.Sort.{Sort}
use Rattle.tht_tree.specs.declared.plain.Sort.TheVariants as sort
use Rattle.tht_tree.specs.declared.plain.Spot.{Spot}
use Rattle.tht_tree.specs.declared.plain.Value.{Value}
use Rattle.tht_tree.specs.declared.proof.Proof.{Proof}
use Rattle.tht_tree.specs.declared.state.Local.TheVariants.{Variable}
use Rattle.tht_tree.specs.declared.term.Term.{Term}
use Rattle.tht_tree.specs.Values.{is, Env, bind, a_place, value_in, has_sort}
use Rattle.tht_tree.specs.Syntax.{Names}
use Rattle.tht_tree.specs.Terms.{value}
use Rattle.tht_tree.specs.Heaps.{Heap, own, with_at}
use Rattle.tht_tree.specs.Rules.Context.{Scope, Context, with_local}
use Rattle.tht_tree.specs.Rules.Scoping.{is_of, is_storable_sort, sort_of}
use Rattle.tht_logic.specs.Rules.Commands.{after_read, after_write, after_free}
use Rattle.tht_logic.specs.Satisfaction.{Meaning}
use Rattle.tht_logic.specs.Rules.Definitions.{Declarations}
use Rattle.tht_logic.specs.Rules.Scoped.{Signatures}
use Rattle.tht_logic.specs.Rules.Scoped as scoped
use Rattle.assn_laws.specs.Laws.{IsModel, Premises}

-- the heap has a private cell, some branch's own, at the place of the term
pub record HasOwn (roots : Names) (env : Env) (t : Term) (h : Heap) : Type 0 where
  pub place : Place
  pub branch : ℕ
  pub held : Value
  pub at : value roots env t ≡ a_place place
  pub there : h place ≡ Some (own branch held)

module _ (decl : Declarations) (proof : Proof → Scope → Bool) (instance lemma : Signatures) where
  abbrev roots : Names
  roots = decl.proofs.roots

  abbrev Model : Meaning → Context → Env → Heap → Type 0
  Model = IsModel decl proof instance lemma

  -- A read: the cell is there and holds a value of the sort. What satisfied the old state satisfies the new one, where x has that value,
  -- whichever branch then owns the cell.
  abbrev pub ReadsAreSound : Meaning → Type 0
  ReadsAreSound M =
      (c next : Context) (env : Env) (h : Heap) → Premises decl proof instance lemma M c env → Model M c env h → (spot : Spot) (x : List ℕ) (r : Sort) (t : Term) (i : ℕ) (n : List ℕ) (q : Proof)
      → scoped.is_new roots c.scope x ≡ true → scoped.is_new roots (with_local c.scope x (Variable r)) n ≡ true → is_of sort.Loc (sort_of roots c.scope t) ≡ true → proof q c.scope ≡ true
      → after_read decl.proofs spot c x r t i n q ≡ Ok next
      → (cell : HasOwn roots env t h) × (has_sort r cell.held ≡ true) × ((b : ℕ) → Model M next (bind env x (is cell.held)) (with_at h cell.place (Some (own b cell.held))))

  -- a write: the cell is there, and then holds the value of u
  abbrev pub WritesAreSound : Meaning → Type 0
  WritesAreSound M =
      (c next : Context) (env : Env) (h : Heap) → Premises decl proof instance lemma M c env → Model M c env h → (spot : Spot) (t u : Term) (i : ℕ) (q : Proof)
      → is_of sort.Loc (sort_of roots c.scope t) ≡ true → is_storable_sort (sort_of roots c.scope u) ≡ true → proof q c.scope ≡ true → after_write decl.proofs spot c t u i q ≡ Ok next
      → (cell : HasOwn roots env t h) × ((b : ℕ) → Model M next env (with_at h cell.place (Some (own b (value_in (value roots env u))))))

  -- a free: the cell is there, and then is not
  abbrev pub FreesAreSound : Meaning → Type 0
  FreesAreSound M =
      (c next : Context) (env : Env) (h : Heap) → Premises decl proof instance lemma M c env → Model M c env h → (spot : Spot) (t : Term) (i : ℕ) (q : Proof)
      → is_of sort.Loc (sort_of roots c.scope t) ≡ true → proof q c.scope ≡ true → after_free decl.proofs spot c t i q ≡ Ok next
      → (cell : HasOwn roots env t h) × Model M next env (with_at h cell.place None)
