-- What is proved is true: the law of proofs, in a state of all forms of assertions.
use Rattle.std.proofs.Common.{◌≡◌, ℕ, cond, [], ◌∷◌, Option, Some, None, refl, sym, ◌∙◌, ap, subst}
use Rattle.tht_tree.specs.declared.plain.Place.{Place}
use Rattle.tht_tree.specs.declared.plain.Sort.TheVariants as sort
use Rattle.tht_tree.specs.declared.assn.Assn.{Assn}
use Rattle.tht_tree.specs.declared.assn.Assn.TheVariants as a
use Rattle.tht_tree.specs.Values.{Env}
use Rattle.tht_tree.specs.Syntax.{Names, position, trm}
use Rattle.tht_tree.specs.Heaps.{Heap, Held, IsCell}
use Rattle.tht_tree.specs.Heaps as heap
use Rattle.tht_tree.specs.Rules.Context.{Scope}
use Rattle.tht_tree.specs.Rules.Scoping.{variable_sort, sort_of}
use Rattle.tht_tree.specs.Rules.Known.{cell_place}
use Rattle.tht_tree.proofs.Cells.{same_here}
use Rattle.proof_laws.specs.Satisfied.{HaveOtherNames, HasCell, HasCells}
use Rattle.lin_laws.proofs.ProofsSound.{proofs_sound}
use Rattle.tht_logic.specs.Assertions.{own, shared, asn}
use Rattle.tht_logic.specs.Satisfaction.{Meaning, Satisfies, AtomsHold}
use Rattle.tht_logic.specs.Rules.Gives.{Atoms}
use Rattle.tht_logic.specs.Rules.Scoped.{HideNoRoot}
use Rattle.assn_laws.specs.Walked.{ProvedIsTrue}
use Rattle.assn_laws.proofs.AssnLevels.{Star, Exists, Either}
use Rattle.assn_laws.proofs.Nameless.{asn-Own, asn-Shared}
use Rattle.assn_laws.proofs.GiveSound.{sort_is}

pub cell_here : (x : Heap) (p : Place) (c : Held) → IsCell x p c → x p ≡ Some c
cell_here x p c is = is p ∙ ap (λ s. cond s (Some c) None) (same_here p)

other_names : (roots : Names) (scope : Scope) → HideNoRoot roots scope → HaveOtherNames roots scope
other_names roots scope apart x s e = from (position 0 roots x) refl
  where
    from : (o : Option ℕ) → position 0 roots x ≡ o → o ≡ None
    from None g = refl
    from (Some r) g = let both : Some s ≡ None = sym (ap variable_sort e) ∙ apart x r g in cc

module _ (M : Meaning) (roots : Names) (env : Env) where
  -- an atom that is a cell has it in its heap
  cell_of : (p : Assn) (h : Heap) → Satisfies M env [] (asn roots [] p) h → HasCell roots env (cell_place p) h
  cell_of a.Emp h w = tt
  cell_of (a.Fact t) h w = tt
  cell_of (a.Own t u) h w =
      let v : Satisfies M env [] (own (trm roots [] t) (trm roots [] u)) h = subst (λ z. Satisfies M env [] z h) (asn-Own roots [] t u) w in
      (v.1, heap.own v.0 v.2, v.3, v.4, cell_here h v.1 (heap.own v.0 v.2) v.6)
  cell_of (a.Shared t u) h w =
      let v : Satisfies M env [] (shared (trm roots [] t) (trm roots [] u)) h = subst (λ z. Satisfies M env [] z h) (asn-Shared roots [] t u) w in
      (v.0, heap.shared v.1, v.2, v.3, cell_here h v.0 (heap.shared v.1) v.5)
  cell_of (Star p q) h w = tt
  cell_of (a.Inst n ts) h w = tt
  cell_of (Exists x s p) h w = tt
  cell_of (Either p q) h w = tt

  pub cells_of : (atoms : Atoms) (h : Heap) → AtomsHold M roots env atoms h → HasCells roots env atoms h
  cells_of [] h w = tt
  cells_of (e ∷ es) h w = (w.0, w.1, w.2, cell_of e.1 w.0 w.3, cells_of es w.1 w.4)

-- The law.
pub proved_is_true : (M : Meaning) → ProvedIsTrue M
proved_is_true M decl instance lemma used c env h hold at q goal order formula proved =
    proofs_sound decl.proofs used env h hold q c
    (record {
      sorts = at.satisfied.sorts;
      names = other_names decl.proofs.roots c.scope at.formed.no_root_hidden;
      hyps = at.satisfied.hyps;
      cells = cells_of M decl.proofs.roots env c.atoms h at.satisfied.atoms;
    })
    order goal (sort_is sort.Bool (sort_of decl.proofs.roots c.scope goal) formula) proved
