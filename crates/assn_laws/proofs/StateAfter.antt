-- States after a change: an atom taken out, an assertion added, a hypothesis added.
use Rattle.std.proofs.Common.{◌≡◌, ℕ, ◌≤◌, Bool, true, false, is_none, All, List, [], ◌∷◌, ◌++◌, Option, Some, None, refl, sym, ◌∙◌, ap, subst}
use Rattle.std.proofs.lemmas.List.Elements.{All-head, All-tail, All-cons, All-nil, All-append}
use Rattle.std.proofs.Math.Path.{transport}
use Rattle.std.specs.Prelude.{bytes_eq, if◌then◌else◌}
use Rattle.tht_tree.specs.declared.plain.Sort.{Sort}
use Rattle.tht_tree.specs.declared.proof.Proof.{Proof}
use Rattle.tht_tree.specs.declared.term.Term.{Term}
use Rattle.tht_tree.specs.declared.assn.Assn.{Assn}
use Rattle.tht_tree.specs.declared.state.Hyp.{Hyp}
use Rattle.tht_tree.specs.declared.state.Local.{Local}
use Rattle.tht_tree.specs.declared.state.Local.TheVariants.{Variable, Hypothesis}
use Rattle.tht_tree.specs.Values.{Env, a_bool, has_sort_val}
use Rattle.tht_tree.specs.Syntax.{Names, position}
use Rattle.tht_tree.specs.Terms.{value}
use Rattle.tht_tree.specs.Heaps.{Heap, Joins}
use Rattle.tht_tree.specs.Satisfaction.{HypsHold}
use Rattle.tht_tree.specs.Rules.Context.{Context, Scope, with_local, atom_at, without_atom}
use Rattle.tht_tree.specs.Rules.Known.{with_hyp}
use Rattle.tht_tree.specs.Rules.Scoping.{variable_sort}
use Rattle.tht_tree.proofs.SameTerm.{bytes_eq-true}
use Rattle.tht_tree.proofs.TermValues.{Extends}
use Rattle.tht_logic.specs.Satisfaction.{Meaning, PartsHold, AtomsHold}
use Rattle.tht_logic.specs.Flatten.{flatten, with_atoms, with_assn}
use Rattle.tht_logic.specs.Rules.Definitions.{Declarations}
use Rattle.tht_logic.specs.Rules.Gives.{Atoms}
use Rattle.tht_logic.specs.Rules.Scoped.{Signatures, HideNoRoot}
use Rattle.tht_logic.specs.Rules.Scoped as scoped
use Rattle.assn_laws.specs.AssertionLaws.{Holds}
use Rattle.assn_laws.specs.Laws.{IsModel, AreTyped}
use Rattle.assn_laws.proofs.AtomLists.{ascends_from, ascends_to, Ascends-without, All-without, All-at}
use Rattle.assn_laws.proofs.AtomHeaps.{taken_out}
use Rattle.assn_laws.proofs.FlattenHeaps.{of_atoms}
use Rattle.assn_laws.proofs.AddedAtoms.{GoodAtoms, flat_in_order, good_added, added_scope, added_hyps, added_hold}
use Rattle.assn_laws.proofs.KnownNames.{both_true}
use Rattle.assn_laws.proofs.Opening.{none_there}
use Rattle.assn_laws.proofs.Extending.{formula_kept, kept_in_order}

pub no_local : (o : Option Local) → is_none o ≡ true → o ≡ None
no_local None e = refl
no_local (Some l) e = cc

module _ (decl : Declarations) (proof : Proof → Scope → Bool) (instance lemma : Signatures) (M : Meaning) (typed : AreTyped decl proof instance lemma) where
  abbrev pub roots : Names
  roots = decl.proofs.roots

  abbrev pub Model : Context → Env → Heap → Type 0
  Model = IsModel decl proof instance lemma M

  abbrev pub Of : Env → Assn → Heap → Type 0
  Of env = Holds M roots env

  abbrev pub In : Scope → Assn → Type 0
  In scope p = scoped.assn roots instance p scope ≡ true

  abbrev pub Formula : Scope → Term → Type 0
  Formula scope t = scoped.is_formula roots scope t ≡ true

  -- ---- an atom taken out

  -- the heap of the atom, and that of the state without it
  pub record Taken (c : Context) (env : Env) (h : Heap) (i : ℕ) (p : Assn) : Type 0 where
    pub one : Heap
    pub rest : Heap
    pub joins : Joins one rest h
    pub holds : Of env p one
    pub in_order : In c.scope p
    pub atoms : AtomsHold M roots env (without_atom i c.atoms) rest
    pub state : Model (record c { atoms = without_atom i c.atoms }) env rest

  pub take : (c : Context) (env : Env) (h : Heap) → Model c env h → (i : ℕ) (p : Assn) → atom_at i c.atoms ≡ Some p → Taken c env h i p
  take c env h at i p e =
      let z = taken_out M roots env c.atoms i p h e at.satisfied.atoms in
      record {
        one = z.0;
        rest = z.1;
        joins = z.2;
        holds = z.3;
        in_order = All-at (λ q. In c.scope q) i p c.atoms at.formed.atoms e;
        atoms = z.4;
        state = record {
          formed = record {
            ascending = ascends_to (without_atom i c.atoms) (Ascends-without i c.atoms (ascends_from c.atoms at.formed.ascending));
            numbered = All-without (λ a. a.0 ≤ c.made) i c.atoms at.formed.numbered;
            atoms = All-without (λ a. In c.scope a.1) i c.atoms at.formed.atoms;
            hyps = at.formed.hyps;
            no_root_hidden = at.formed.no_root_hidden;
          };
          satisfied = record { sorts = at.satisfied.sorts; hyps = at.satisfied.hyps; atoms = z.4 };
        };
      }

  -- ---- atoms added

  pub parts_at : (c : Context) (env : Env) (ps : List Assn) (x y h : Heap) → Model c env y → PartsHold M roots env ps x → All (In c.scope) ps → Joins x y h → Model (with_atoms ps c) env h
  parts_at c env ps x y h at parts all j =
      let good : GoodAtoms roots instance c = record { ascending = at.formed.ascending; numbered = at.formed.numbered; in_order = at.formed.atoms } in
      let more : GoodAtoms roots instance (with_atoms ps c) = good_added roots instance ps c good all in
      let scope : c.scope ≡ (with_atoms ps c).scope = sym (added_scope roots instance ps c) in
      let hyps : c.hyps ≡ (with_atoms ps c).hyps = sym (added_hyps roots instance ps c) in
      record {
        formed = record {
          ascending = more.ascending;
          numbered = more.numbered;
          atoms = more.in_order;
          hyps = transport (λ i. All (λ b. Formula (scope i) b.formula) (hyps i)) at.formed.hyps;
          no_root_hidden = subst (HideNoRoot roots) scope at.formed.no_root_hidden;
        };
        satisfied = record {
          sorts = subst (λ s. (z : List ℕ) (r : Sort) → s z ≡ Some (Variable r) → has_sort_val r (env z) ≡ true) scope at.satisfied.sorts;
          hyps = subst (HypsHold roots env) hyps at.satisfied.hyps;
          atoms = added_hold roots instance M env ps c x y h good all parts at.satisfied.atoms j;
        };
      }

  -- ---- an assertion added

  pub added_at : (c : Context) (env : Env) (d : Assn) (x y h : Heap) → Model c env y → Of env d x → In c.scope d → Joins x y h → Model (with_assn d c) env h
  added_at c env d x y h at holds ins j = parts_at c env (flatten d) x y h at ((of_atoms M roots env d x).0 holds) (flat_in_order roots instance d c.scope ins) j

  -- ---- a hypothesis added

  hyps_with : (env : Env) (hs : List Hyp) (n : List ℕ) (u : Term) → HypsHold roots env hs → value roots env u ≡ a_bool true → HypsHold roots env (hs ++ (record { name = n; formula = u }) ∷ [])
  hyps_with env [] n u all e = (e, tt)
  hyps_with env (b ∷ hs) n u all e = (all.0, hyps_with env hs n u all.1 e)

  pub atoms_kept : (old new : Scope) → HideNoRoot roots new → Extends old new → (es : Atoms) → All (λ e. In old e.1) es → All (λ e. In new e.1) es
  atoms_kept old new apart extends [] all = All-nil (λ e. In new e.1)
  atoms_kept old new apart extends (e ∷ es) all =
      All-cons (λ e. In new e.1) e es (kept_in_order roots instance typed.by_sorts e.1 old new apart extends (All-head (λ e. In old e.1) e es all))
      (atoms_kept old new apart extends es (All-tail (λ e. In old e.1) e es all))

  pub hyps_kept : (old new : Scope) → HideNoRoot roots new → Extends old new → (hs : List Hyp) → All (λ b. Formula old b.formula) hs → All (λ b. Formula new b.formula) hs
  hyps_kept old new apart extends [] all = All-nil (λ b. Formula new b.formula)
  hyps_kept old new apart extends (b ∷ hs) all =
      All-cons (λ b. Formula new b.formula) b hs (formula_kept roots old new apart extends b.formula (All-head (λ b. Formula old b.formula) b hs all))
      (hyps_kept old new apart extends hs (All-tail (λ b. Formula old b.formula) b hs all))

  module _ (scope : Scope) (n : List ℕ) (l : Local) (new : scoped.is_new roots scope n ≡ true) where
    pub new_name : (scope n ≡ None) × (position 0 roots n ≡ None)
    new_name =
        let b : (is_none (scope n) ≡ true) × (is_none (position 0 roots n) ≡ true) = both_true (is_none (scope n)) (is_none (position 0 roots n)) new in
        (no_local (scope n) b.0, none_there (position 0 roots n) b.1)

    pub extends_new : Extends scope (with_local scope n l)
    extends_new y s e = pick (bytes_eq n y) refl
      where
        pick : (c : Bool) → bytes_eq n y ≡ c → (if c then Some l else scope y) ≡ Some (Variable s)
        pick true g = let nothing : None ≡ Some (Variable s) = sym new_name.0 ∙ ap scope (bytes_eq-true n y g) ∙ e in cc
        pick false g = e

    pub apart_new : HideNoRoot roots scope → HideNoRoot roots (with_local scope n l)
    apart_new f y r e = pick (bytes_eq n y) refl
      where
        pick : (c : Bool) → bytes_eq n y ≡ c → variable_sort (if c then Some l else scope y) ≡ None
        pick true g = let nothing : None ≡ Some r = sym new_name.1 ∙ ap (position 0 roots) (bytes_eq-true n y g) ∙ e in cc
        pick false g = f y r e

  pub hyp_at : (c : Context) (env : Env) (h : Heap) → Model c env h → (n : List ℕ) (u : Term) → scoped.is_new roots c.scope n ≡ true → Formula c.scope u → value roots env u ≡ a_bool true
      → Model (with_hyp c n u) env h
  hyp_at c env h at n u new formula holds =
      let wider : Scope = with_local c.scope n Hypothesis in
      let extends = extends_new c.scope n Hypothesis new in
      let apart = apart_new c.scope n Hypothesis new at.formed.no_root_hidden in
      let one : Hyp = record { name = n; formula = u } in
      record {
        formed = record {
          ascending = at.formed.ascending;
          numbered = at.formed.numbered;
          atoms = atoms_kept c.scope wider apart extends c.atoms at.formed.atoms;
          hyps = All-append (λ b. Formula wider b.formula) c.hyps (one ∷ []) (hyps_kept c.scope wider apart extends c.hyps at.formed.hyps)
              (All-cons (λ b. Formula wider b.formula) one [] (formula_kept roots c.scope wider apart extends u formula) (All-nil (λ b. Formula wider b.formula)));
          no_root_hidden = apart;
        };
        satisfied = record {
          sorts = λ z r e. sorts z r (bytes_eq n z) e;
          hyps = hyps_with env c.hyps n u at.satisfied.hyps holds;
          atoms = at.satisfied.atoms;
        };
      }
    where
      sorts : (z : List ℕ) (r : Sort) (b : Bool) → (if b then Some Hypothesis else c.scope z) ≡ Some (Variable r) → has_sort_val r (env z) ≡ true
      sorts z r true e = cc
      sorts z r false e = at.satisfied.sorts z r e
