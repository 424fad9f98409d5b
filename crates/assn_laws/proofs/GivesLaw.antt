-- The law of gives.
use Rattle.std.proofs.Common.{◌≡◌, ℕ, ◌≤◌, Bool, true, All, Ok, subst}
use Rattle.std.specs.List.Sorted.{IsStrictlySortedBy}
use Rattle.std.specs.Map.{keys_of}
use Rattle.std.specs.Ordering.{nat_cmp}
use Rattle.tht_tree.specs.declared.proof.Proof.{Proof}
use Rattle.tht_tree.specs.Rules.Context.{Context, Scope, without_atom}
use Rattle.tht_logic.specs.Satisfaction.{Meaning}
use Rattle.tht_logic.specs.Rules.Definitions.{Declarations}
use Rattle.tht_logic.specs.Rules.Gives.{Atoms, frame_of}
use Rattle.tht_logic.specs.Rules.Scoped.{Signatures}
use Rattle.tht_logic.specs.Rules.Scoped as scoped
use Rattle.assn_laws.specs.Laws.{IsModel, GivesAreSound}
use Rattle.assn_laws.proofs.Answers.{from_ok, ok_same}
use Rattle.assn_laws.proofs.AtomLists.{ascends_from, ascends_to, Ascends-without, All-without}
use Rattle.assn_laws.proofs.GiveSound.{gives_split}

module _ (decl : Declarations) (instance : Signatures) (c : Context) where
  -- atoms in order
  pub record AtomsFormed (atoms : Atoms) : Type 0 where
    pub ascending : IsStrictlySortedBy nat_cmp (keys_of atoms)
    pub numbered : All (λ a. a.0 ≤ c.made) atoms
    pub in_order : All (λ a. scoped.assn decl.proofs.roots instance a.1 c.scope ≡ true) atoms

  pub still_formed : (i : ℕ) (atoms : Atoms) → AtomsFormed atoms → AtomsFormed (without_atom i atoms)
  still_formed i atoms f = record {
    ascending = ascends_to (without_atom i atoms) (Ascends-without i atoms (ascends_from atoms f.ascending));
    numbered = All-without (λ a. a.0 ≤ c.made) i atoms f.numbered;
    in_order = All-without (λ a. scoped.assn decl.proofs.roots instance a.1 c.scope ≡ true) i atoms f.in_order;
  }

pub gives_are_sound : (decl : Declarations) (proof : Proof → Scope → Bool) (instance lemma : Signatures) (M : Meaning) → GivesAreSound decl proof instance lemma M
gives_are_sound decl proof instance lemma M c next env h premises at x goal o i e =
    let r = from_ok (frame_of decl c x c.atoms goal) (λ left. Ok (record c { atoms = left })) next e in
    let formed : AtomsFormed decl instance c c.atoms = record { ascending = at.formed.ascending; numbered = at.formed.numbered; in_order = at.formed.atoms } in
    let s = gives_split decl proof instance lemma M c env h premises at (AtomsFormed decl instance c) (still_formed decl instance c) x c.atoms r.0 goal h o i formed at.satisfied.atoms r.1 in (
      s.given,
      s.kept,
      s.joins,
      s.holds,
      subst (λ n. IsModel decl proof instance lemma M n env s.kept) (ok_same (record c { atoms = r.0 }) next r.2) (record {
        formed = record { ascending = s.good.ascending; numbered = s.good.numbered; atoms = s.good.in_order; hyps = at.formed.hyps; no_root_hidden = at.formed.no_root_hidden };
        satisfied = record { sorts = at.satisfied.sorts; hyps = at.satisfied.hyps; atoms = s.atoms };
      }),
    )
