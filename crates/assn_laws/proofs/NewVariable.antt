-- A variable that is new: what is known of other names stays, whatever its value.
use Rattle.std.proofs.Common.{◌≡◌, ℕ, Bool, true, false, All, List, [], ◌∷◌, Option, Some, None, refl, sym, ◌∙◌, ap, subst}
use Rattle.std.proofs.lemmas.List.Elements.{All-head, All-tail}
use Rattle.std.proofs.lemmas.Slice.Eq.{bytes_eq-Decides}
use Rattle.std.proofs.Math.Path.{transport⁻¹}
use Rattle.std.specs.Prelude.{bytes_eq, if◌then◌else◌}
use Rattle.tht_tree.specs.declared.plain.Sort.{Sort}
use Rattle.tht_tree.specs.declared.plain.Sort.TheVariants as sort
use Rattle.tht_tree.specs.declared.proof.Proof.{Proof}
use Rattle.tht_tree.specs.declared.term.Term.{Term}
use Rattle.tht_tree.specs.declared.term.Term.TheVariants as t
use Rattle.tht_tree.specs.declared.assn.Assn.{Assn}
use Rattle.tht_tree.specs.declared.assn.Assn.TheVariants as a
use Rattle.tht_tree.specs.declared.state.Hyp.{Hyp}
use Rattle.tht_tree.specs.declared.state.Local.TheVariants.{Variable}
use Rattle.tht_tree.specs.Values.{Val, Env, bind, has_sort_val}
use Rattle.tht_tree.specs.Syntax.{Names, position, root_or_free}
use Rattle.tht_tree.specs.Terms.{value_of, value}
use Rattle.tht_tree.specs.Heaps.{Heap}
use Rattle.tht_tree.specs.Satisfaction.{HypsHold}
use Rattle.tht_tree.specs.Normal.Putting.{over}
use Rattle.tht_tree.specs.Rules.Context.{Scope, with_local}
use Rattle.tht_tree.specs.Rules.Scoping.{variable_sort, name_sort, sort_at, sort_of}
use Rattle.tht_tree.proofs.SameTerm.{bytes_eq-true}
use Rattle.tht_tree.proofs.TermFolds.{at-Var}
use Rattle.tht_tree.proofs.TermValues.{value-Var}
use Rattle.tht_logic.specs.Assertions.{asn}
use Rattle.tht_logic.specs.Satisfaction.{Meaning, Satisfies, AtomsHold}
use Rattle.tht_logic.specs.Putting.{put_in_assn}
use Rattle.tht_logic.specs.Rules.Definitions.{Declarations}
use Rattle.tht_logic.specs.Rules.Gives.{Atoms}
use Rattle.tht_logic.specs.Rules.Scoped.{Signatures, HideNoRoot}
use Rattle.tht_logic.specs.Rules.Scoped as scoped
use Rattle.assn_laws.specs.AssertionLaws.{EachFree}
use Rattle.assn_laws.specs.Laws.{AreTyped}
use Rattle.assn_laws.proofs.ByNames.{Same, deeper_same, same_value, same_heaps}
use Rattle.assn_laws.proofs.KnownNames.{Sorted, IsKnown, term_told, of_is, free_told, tells_deeper}
use Rattle.assn_laws.proofs.ScopedLevels.{scoped-Exists}
use Rattle.assn_laws.proofs.PuttingHeaps.{putting_has_the_heaps}
use Rattle.assn_laws.proofs.PutScoped.{put_in_order}
use Rattle.assn_laws.proofs.Opening.{with_one, opened, one_keeps}
use Rattle.assn_laws.proofs.Extending.{kept_in_order}
use Rattle.assn_laws.proofs.StateAfter.{Model, Of, In, Formula, atoms_kept, hyps_kept, new_name, extends_new, apart_new}

pub bytes_eq-refl : (x : List ℕ) → bytes_eq x x ≡ true
bytes_eq-refl x = (bytes_eq-Decides x x).1 refl

module _ (decl : Declarations) (proof : Proof → Scope → Bool) (instance lemma : Signatures) (M : Meaning) (typed : AreTyped decl proof instance lemma) (scope : Scope) (env : Env) (x : List ℕ) (r : Sort) (v : Val)
    (new : scoped.is_new decl.proofs.roots scope x ≡ true) (has : has_sort_val r v ≡ true) where
  abbrev roots : Names
  roots = decl.proofs.roots

  abbrev pub wider : Scope
  wider = with_local scope x (Variable r)

  abbrev pub bound_env : Env
  bound_env = bind env x v

  abbrev names : (scope x ≡ None) × (position 0 roots x ≡ None)
  names = new_name decl proof instance lemma M typed scope x (Variable r) new

  -- names that are known have the values that they had
  pub same_names : Same roots roots (IsKnown roots scope) bound_env env [] [] [] []
  same_names y k = of_root (position 0 roots y) refl
    where
      free_same : position 0 roots y ≡ None → (c : Bool) → bytes_eq x y ≡ c → (if c then v else env y) ≡ env y
      free_same e true g =
          let is : x ≡ y = bytes_eq-true x y g in
          let nothing : None ≡ Some k.0 = (λ i. name_sort (variable_sort ((sym names.0 ∙ ap scope is) i)) (sym e i)) ∙ k.1 in
          cc
      free_same e false g = refl

      of_root : (o : Option ℕ) → position 0 roots y ≡ o → value_of bound_env [] (root_or_free y o) ≡ value_of env [] (root_or_free y o)
      of_root (Some j) e = refl
      of_root None e = free_same e (bytes_eq x y) refl

  -- so have terms
  pub still_valued : (u : Term) → Sorted (sort_of roots scope u) → value roots bound_env u ≡ value roots env u
  still_valued u s =
      same_value roots roots (IsKnown roots scope) bound_env env [] [] [] [] same_names u (term_told roots instance (IsKnown roots scope) typed.sorted scope [] (λ y e k. k) u s)

  known : (p : Assn) → In decl proof instance lemma M typed scope p → EachFree (IsKnown roots scope) (asn [] [] p)
  known p i = free_told roots instance (IsKnown roots scope) typed.sorted p scope [] (λ y e k. k) i

  still_holds : (p : Assn) → In decl proof instance lemma M typed scope p → (h : Heap) → Of decl proof instance lemma M typed env p h → Of decl proof instance lemma M typed bound_env p h
  still_holds p i h w = transport⁻¹ (λ j. same_heaps roots roots (IsKnown roots scope) bound_env env M p [] [] [] [] same_names (known p i) j h) w

  atoms_hold : (es : Atoms) → All (λ e. In decl proof instance lemma M typed scope e.1) es → (h : Heap) → AtomsHold M roots env es h → AtomsHold M roots bound_env es h
  atoms_hold [] i h w = w
  atoms_hold (e ∷ es) i h w = (
    w.0,
    w.1,
    w.2,
    still_holds e.1 (All-head (λ q. In decl proof instance lemma M typed scope q.1) e es i) w.0 w.3,
    atoms_hold es (All-tail (λ q. In decl proof instance lemma M typed scope q.1) e es i) w.1 w.4,
  )

  hyps_hold : (hs : List Hyp) → All (λ b. Formula decl proof instance lemma M typed scope b.formula) hs → HypsHold roots env hs → HypsHold roots bound_env hs
  hyps_hold [] f w = tt
  hyps_hold (b ∷ hs) f w =
      let formula = All-head (λ q. Formula decl proof instance lemma M typed scope q.formula) b hs f in
      let sorted : Sorted (sort_of roots scope b.formula) = of_is sort.Bool (sort_of roots scope b.formula) formula in (
        still_valued b.formula sorted ∙ w.0,
        hyps_hold hs (All-tail (λ q. Formula decl proof instance lemma M typed scope q.formula) b hs f) w.1,
      )

  -- the state with the variable
  pub variable_at : (hyps : List Hyp) (atoms : Atoms) (made : ℕ) (h : Heap) → Model decl proof instance lemma M typed (record { scope = scope; hyps = hyps; atoms = atoms; made = made }) env h
      → Model decl proof instance lemma M typed (record { scope = wider; hyps = hyps; atoms = atoms; made = made }) bound_env h
  variable_at hyps atoms made h at =
      let extends = extends_new decl proof instance lemma M typed scope x (Variable r) new in
      let apart = apart_new decl proof instance lemma M typed scope x (Variable r) new at.formed.no_root_hidden in
      record {
        formed = record {
          ascending = at.formed.ascending;
          numbered = at.formed.numbered;
          atoms = atoms_kept decl proof instance lemma M typed scope wider apart extends atoms at.formed.atoms;
          hyps = hyps_kept decl proof instance lemma M typed scope wider apart extends hyps at.formed.hyps;
          no_root_hidden = apart;
        };
        satisfied = record {
          sorts = λ z s e. sorts z s (bytes_eq x z) e;
          hyps = hyps_hold hyps at.formed.hyps at.satisfied.hyps;
          atoms = atoms_hold atoms at.formed.atoms h at.satisfied.atoms;
        };
      }
    where
      variable_is : (q s : Sort) → Some (Variable q) ≡ Some (Variable s) → q ≡ s
      variable_is q s e = cc

      sorts : (z : List ℕ) (s : Sort) (c : Bool) → (if c then Some (Variable r) else scope z) ≡ Some (Variable s) → has_sort_val s (if c then v else env z) ≡ true
      sorts z s true e = ap (λ q. has_sort_val q v) (sym (variable_is r s e)) ∙ has
      sorts z s false e = at.satisfied.sorts z s e

  pub its_value : value roots bound_env (t.Var x) ≡ v
  its_value =
      value-Var roots bound_env x ∙ ap (λ o. value_of bound_env [] (root_or_free x o)) names.1 ∙ ap (λ c. if c then v else env x) (bytes_eq-refl x)

  pub its_sort : sort_of roots wider (t.Var x) ≡ Some r
  its_sort = at-Var (Option Sort) (sort_at roots wider) x ∙ ap (λ c. name_sort (variable_sort (if c then Some (Variable r) else scope x)) (position 0 roots x)) (bytes_eq-refl x)

  -- what stands behind `exists`, with the variable for its name, holds and is in order
  module _ (n : List ℕ) (b : Assn) (ins : In decl proof instance lemma M typed scope (a.Exists n r b)) (apart_old : HideNoRoot roots scope) where
    apart : HideNoRoot roots wider
    apart = apart_new decl proof instance lemma M typed scope x (Variable r) new apart_old

    inside_old : In decl proof instance lemma M typed (with_local scope n (Variable r)) b
    inside_old = sym (scoped-Exists roots instance n r b scope) ∙ ins

    inside : In decl proof instance lemma M typed (with_local wider n (Variable r)) b
    inside =
        sym (scoped-Exists roots instance n r b wider)
        ∙ kept_in_order roots instance typed.by_sorts (a.Exists n r b) scope wider apart (extends_new decl proof instance lemma M typed scope x (Variable r) new) ins

    pub opened_in_order : In decl proof instance lemma M typed wider (put_in_assn ((n, t.Var x) ∷ []) b)
    opened_in_order =
        put_in_order roots instance instance typed.by_sorts b ((n, t.Var x) ∷ []) (with_local wider n (Variable r)) wider (one_keeps roots n (t.Var x) wider r its_sort) inside

    known_behind : EachFree (IsKnown roots scope) (asn [] (n ∷ []) b)
    known_behind =
        free_told roots instance (IsKnown roots scope) typed.sorted b (with_local scope n (Variable r)) (n ∷ [])
        (tells_deeper roots instance (IsKnown roots scope) typed.sorted scope [] (λ y e k. k) n r) inside_old

    pub opened_holds : (h : Heap) → Satisfies M env (v ∷ []) (asn roots (n ∷ []) b) h → Of decl proof instance lemma M typed bound_env (put_in_assn ((n, t.Var x) ∷ []) b) h
    opened_holds h w =
        let changed : Satisfies M bound_env (v ∷ []) (asn roots (n ∷ []) b) h
        = transport⁻¹ (λ j. same_heaps roots roots (IsKnown roots scope) bound_env env M b (v ∷ []) (n ∷ []) (v ∷ []) (n ∷ []) (deeper_same roots roots (IsKnown roots scope) bound_env env [] [] [] [] same_names n v) known_behind j h) w in
        let valued : Satisfies M bound_env (value roots bound_env (t.Var x) ∷ []) (asn roots (n ∷ []) b) h = subst (λ z. Satisfies M bound_env (z ∷ []) (asn roots (n ∷ []) b) h) (sym its_value) changed in
        let outer : Satisfies M (over roots bound_env (with_one roots n (t.Var x))) [] (asn [] [] b) h
        = transport⁻¹ (λ j. opened roots n (t.Var x) M bound_env b j h) valued in
        (putting_has_the_heaps M roots bound_env (with_one roots n (t.Var x)) b h).1 outer
