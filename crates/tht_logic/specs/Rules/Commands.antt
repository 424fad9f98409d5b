-- The rules of statements on private cells: what the checker knows after one, or the first that is refused in it.
use Rattle.std.specs.Prelude.{ℕ, zero, suc, List, [], ◌∷◌, Option, Some, None}
use Rattle.std.specs.List.{list_all}
use Rattle.tht_tree.specs.declared.plain.Spot.{Spot}
use Rattle.tht_tree.specs.declared.plain.Sort.{Sort}
use Rattle.tht_tree.specs.declared.plain.Sort.TheVariants as sort
use Rattle.tht_tree.specs.declared.term.Term.{Term}
use Rattle.tht_tree.specs.declared.term.Term.TheVariants as term
use Rattle.tht_tree.specs.declared.assn.Assn.{Assn}
use Rattle.tht_tree.specs.declared.assn.Assn.TheVariants as assn
use Rattle.tht_tree.specs.declared.proof.Proof.{Proof}
use Rattle.tht_tree.specs.declared.rule.RuleCode.TheVariants.{R1, R2, R10}
use Rattle.tht_tree.specs.declared.rule.RuleRefusal.{RuleRefusal}
use Rattle.tht_tree.specs.declared.state.Local.TheVariants.{Variable}
use Rattle.tht_tree.specs.Rules.Sizes.{formula_fits, assn_fits}
use Rattle.tht_tree.specs.Rules.Context.{with_local, Context, atom_at, without_atom, with_atom}
use Rattle.tht_tree.specs.Rules.Scoping.{sort_of, is_of}
use Rattle.tht_tree.specs.Rules.Refusals.{needs, ◌▸◌}
use Rattle.tht_tree.specs.Rules.Known.{Declared, with_hyp}
use Rattle.tht_tree.specs.Rules.Proofs.{prove, proves}
use Rattle.tht_logic.specs.Flatten.{with_atoms}
use Rattle.tht_logic.specs.Rules.Checking.{Checked, reject, unless_refused, on_true, if_fits}

-- goes on with the place and the value of the cell of an atom
abbrev pub on_cell : Spot → Option Assn → (Term → Term → Checked Context) → Checked Context
on_cell spot None go = reject spot R1
on_cell spot (Some (assn.Own t u)) go = go t u
on_cell spot (Some _) go = reject spot R2

module _ (known : Declared) (spot : Spot) (c : Context) where
  -- the place that the command names is the atom's, by this proof
  abbrev pub needs_place : Proof → Term → Term → Option RuleRefusal
  needs_place p t place = proves spot (prove known p) c (term.Eq t place)

  -- reads the cell of atom i: x has its value, by the hypothesis h
  abbrev pub after_read : List ℕ → Sort → Term → ℕ → List ℕ → Proof → Checked Context
  after_read x r t i h p = on_cell spot (atom_at i c.atoms) (λ place value.
      unless_refused (needs spot R2 (is_of r (sort_of known.roots c.scope value)) ▸ needs_place p t place ▸ needs spot R10 (formula_fits (term.Eq (term.Var x) value)))
      (if_fits spot (with_hyp (record c { scope = with_local c.scope x (Variable r) }) h (term.Eq (term.Var x) value))))

  -- writes the cell of atom i, which then holds the value of u
  abbrev pub after_write : Term → Term → ℕ → Proof → Checked Context
  after_write t u i p = on_cell spot (atom_at i c.atoms) (λ place value.
      unless_refused (needs_place p t place ▸ needs spot R10 (assn_fits (assn.Own place u)))
      (if_fits spot (record c { atoms = with_atom i (assn.Own place u) c.atoms })))

  -- takes the cell of atom i away
  abbrev pub after_free : Term → ℕ → Proof → Checked Context
  after_free t i p = on_cell spot (atom_at i c.atoms) (λ place value.
      unless_refused (needs_place p t place) (if_fits spot (record c { atoms = without_atom i c.atoms })))

-- the place so many cells behind x
abbrev pub place_behind : List ℕ → ℕ → Term
place_behind x zero = term.Var x
place_behind x (suc k) = term.Offset (term.Var x) (suc k)

-- the cells of an `alloc`, from one on: `x -> t`, `x.1 -> u` and so on
abbrev pub new_cells : List ℕ → ℕ → List Term → List Assn
new_cells x k [] = []
new_cells x k (t ∷ ts) = assn.Own (place_behind x k) t ∷ new_cells x (suc k) ts

-- what is known after `x <- alloc (t, ..)`
abbrev pub after_alloc : Spot → Context → List ℕ → List Term → Checked Context
after_alloc spot c x ts =
    on_true spot R10 (list_all assn_fits (new_cells x 0 ts))
    (if_fits spot (with_atoms (new_cells x 0 ts) (record c { scope = with_local c.scope x (Variable sort.Loc) })))
