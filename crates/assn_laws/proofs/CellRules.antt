-- What it tells that a statement on one private cell is not refused: its atom, its proof, and what is known after it.
use Rattle.std.proofs.Common.{◌≡◌, ℕ, Bool, true, false, cond, List, Option, Some, None, Ok, refl}
use Rattle.tht_tree.specs.declared.assn.Assn.{Assn}
use Rattle.tht_tree.specs.declared.assn.Assn.TheVariants as a
use Rattle.tht_tree.specs.declared.plain.Sort.{Sort}
use Rattle.tht_tree.specs.declared.plain.Spot.{Spot}
use Rattle.tht_tree.specs.declared.proof.Proof.{Proof}
use Rattle.tht_tree.specs.declared.rule.RuleCode.{RuleCode}
use Rattle.tht_tree.specs.declared.rule.RuleCode.TheVariants.{R2, R10}
use Rattle.tht_tree.specs.declared.rule.RuleRefusal.{RuleRefusal}
use Rattle.tht_tree.specs.declared.state.Local.TheVariants.{Variable}
use Rattle.tht_tree.specs.declared.term.Term.{Term}
use Rattle.tht_tree.specs.declared.term.Term.TheVariants as t
use Rattle.tht_tree.specs.Rules.Context.{Context, with_local, atom_at, without_atom, with_atom, context_fits}
use Rattle.tht_tree.specs.Rules.Known.{Declared, with_hyp}
use Rattle.tht_tree.specs.Rules.Proofs.{prove}
use Rattle.tht_tree.specs.Rules.Refusals.{needs, ◌▸◌}
use Rattle.tht_logic.specs.Rules.Commands.{on_cell, needs_place, after_read, after_write, after_free}
use Rattle.tht_logic.specs.Rules.Checking.{Checked, on_true, unless_refused, if_fits}
use Rattle.tht_tree.specs.Rules.Scoping.{is_of, sort_of}
use Rattle.tht_tree.specs.Rules.Sizes.{formula_fits, assn_fits}
use Rattle.assn_laws.proofs.GiveSound.{sort_is}

abbrev Found : Type 0
Found = Option RuleRefusal

abbrev known_is : Checked Context → Context → Type 0
known_is o d = o ≡ Ok d

-- ---- where nothing is refused

unless_ok : (x : Found) (k : Checked Context) (d : Context) → known_is (unless_refused x k) d → (x ≡ None) × known_is k d
unless_ok None k d e = (refl, e)
unless_ok (Some r) k d e = cc

then_none : (x y : Found) → (x ▸ y) ≡ None → (x ≡ None) × (y ≡ None)
then_none None y e = (refl, e)
then_none (Some r) y e = cc

needs_ok : (spot : Spot) (code : RuleCode) (b : Bool) → needs spot code b ≡ None → b ≡ true
needs_ok spot code true e = refl
needs_ok spot code false e = cc

within : (spot : Spot) (b : Bool) (c d : Context) → known_is (on_true spot R10 b (Ok c)) d → c ≡ d
within spot true c d e = cc
within spot false c d e = cc

pub fits_is : (spot : Spot) (c d : Context) → known_is (if_fits spot c) d → c ≡ d
fits_is spot c d e = within spot (context_fits c) c d e

-- the cell of an atom
record HasCell (o : Option Assn) (go : Term → Term → Checked Context) (d : Context) : Type 0 where
  place : Term
  value : Term
  at : o ≡ Some (a.Own place value)
  goes : known_is (go place value) d

on_cell_ok : (spot : Spot) (o : Option Assn) (go : Term → Term → Checked Context) (d : Context) → known_is (on_cell spot o go) d → HasCell o go d
on_cell_ok spot None go d e = cc
on_cell_ok spot (Some (a.Own t u)) go d e = record { place = t; value = u; at = refl; goes = e }
on_cell_ok spot (Some _) go d e = cc

-- ---- statements

abbrev pub read_context : Context → List ℕ → Sort → List ℕ → Term → Context
read_context c x r n u = with_hyp (record c { scope = with_local c.scope x (Variable r) }) n (t.Eq (t.Var x) u)

abbrev pub write_context : Context → ℕ → Term → Term → Context
write_context c i place u = record c { atoms = with_atom i (a.Own place u) c.atoms }

abbrev pub free_context : Context → ℕ → Context
free_context c i = record c { atoms = without_atom i c.atoms }

-- the atom's cell, at a place that is proved to be that of the statement
pub record Cell (known : Declared) (c : Context) (u : Term) (i : ℕ) (q : Proof) : Type 0 where
  pub place : Term
  pub value : Term
  pub at : atom_at i c.atoms ≡ Some (a.Own place value)
  pub proved : prove known q c (t.Eq u place) ≡ None

module _ (known : Declared) (spot : Spot) (c d : Context) where
  placed : (q : Proof) (u place : Term) → needs_place known spot c q u place ≡ None → prove known q c (t.Eq u place) ≡ None
  placed q u place e = (then_none (needs spot R10 (formula_fits (t.Eq u place))) (prove known q c (t.Eq u place)) e).1

  pub reads : (x : List ℕ) (r : Sort) (u : Term) (i : ℕ) (n : List ℕ) (q : Proof) → known_is (after_read known spot c x r u i n q) d
      → (cell : Cell known c u i q) × (sort_of known.roots c.scope cell.value ≡ Some r) × (read_context c x r n cell.value ≡ d)
  reads x r u i n q e =
      let cell = on_cell_ok spot (atom_at i c.atoms) _ d e in
      let sorted = needs spot R2 (is_of r (sort_of known.roots c.scope cell.value)) in
      let there = needs_place known spot c q u cell.place in
      let small = needs spot R10 (formula_fits (t.Eq (t.Var x) cell.value)) in
      let both = unless_ok (sorted ▸ there ▸ small) (if_fits spot (read_context c x r n cell.value)) d cell.goes in
      let one = then_none sorted (there ▸ small) both.0 in
      let two = then_none there small one.1 in (
        record { place = cell.place; value = cell.value; at = cell.at; proved = placed q u cell.place two.0 },
        sort_is r (sort_of known.roots c.scope cell.value) (needs_ok spot R2 (is_of r (sort_of known.roots c.scope cell.value)) one.0),
        fits_is spot (read_context c x r n cell.value) d both.1,
      )

  pub writes : (u w : Term) (i : ℕ) (q : Proof) → known_is (after_write known spot c u w i q) d → (cell : Cell known c u i q) × (write_context c i cell.place w ≡ d)
  writes u w i q e =
      let cell = on_cell_ok spot (atom_at i c.atoms) _ d e in
      let there = needs_place known spot c q u cell.place in
      let small = needs spot R10 (assn_fits (a.Own cell.place w)) in
      let both = unless_ok (there ▸ small) (if_fits spot (write_context c i cell.place w)) d cell.goes in (
        record { place = cell.place; value = cell.value; at = cell.at; proved = placed q u cell.place (then_none there small both.0).0 },
        fits_is spot (write_context c i cell.place w) d both.1,
      )

  pub frees : (u : Term) (i : ℕ) (q : Proof) → known_is (after_free known spot c u i q) d → Cell known c u i q × (free_context c i ≡ d)
  frees u i q e =
      let cell = on_cell_ok spot (atom_at i c.atoms) _ d e in
      let there = needs_place known spot c q u cell.place in
      let both = unless_ok there (if_fits spot (free_context c i)) d cell.goes in (
        record { place = cell.place; value = cell.value; at = cell.at; proved = placed q u cell.place both.0 },
        fits_is spot (free_context c i) d both.1,
      )
