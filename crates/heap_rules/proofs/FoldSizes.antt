-- What is known without the atoms that a give has consumed.
use Rattle.std.proofs.Common.{◌≡◌, ℕ, ◌+◌, ◌-◌, ◌≤◌, true, false, List, [], ◌∷◌, Ok, sym, ◌∙◌, ap, arith}
use Rattle.std.specs.Prelude.{All}
use Rattle.tht_tree.specs.declared.assn.Assn.{Assn}
use Rattle.tht_tree.specs.declared.plain.Spot.{Spot}
use Rattle.tht_tree.specs.declared.rule.RuleCode.TheVariants.{R10}
use Rattle.tht_tree.specs.Rules.Sizes.{assn_fits}
use Rattle.tht_tree.specs.Rules.Context.{Context, context_nodes, context_fits, without_atom}
use Rattle.tht_logic.specs.Flatten.{with_assn}
use Rattle.tht_logic.specs.Rules.Checking.{reject, if_fits}
use Rattle.tht_logic.specs.Rules.Gives.{Atoms}
use Rattle.assn_laws.proofs.AtomLists.{All-without}
use Rattle.heap_rules.specs.declared.consumed.Consumed.{Consumed}
use Rattle.heap_rules.specs.ConsumedAtoms.{without_each, left_of, IsCounted}
use Rattle.heap_rules.specs.Stages.{put_for}
use Rattle.heap_rules.proofs.Answering.{passed, fitting, too_large, ok_context}
use Rattle.heap_rules.proofs.MoreAtoms.{Numbered}

all_left : (n : ℕ) (is : List ℕ) (es : Atoms) → All (λ a. a.0 ≤ n) es → All (λ a. a.0 ≤ n) (without_each is es)
all_left n [] es h = h
all_left n (i ∷ is) es h = all_left n is (without_atom i es) (All-without (λ a. a.0 ≤ n) i es h)

module _ (s : Consumed) (c : Context) where
  pub numbered_left : Numbered c → Numbered (record c { atoms = left_of s c.atoms })
  unfolding left_of
  numbered_left h = all_left c.made s.numbers.keys c.atoms h

  pub counted_left : IsCounted s c.atoms → context_nodes (record c { atoms = left_of s c.atoms }) + s.nodes ≡ context_nodes c
  unfolding IsCounted
  counted_left e = omega (arith, e)

  pub room_left : IsCounted s c.atoms → (n : ℕ) → n ≡ context_nodes c → context_nodes (record c { atoms = left_of s c.atoms }) ≡ n - s.nodes
  room_left e n is = let f = counted_left e in omega (arith, f, is)

-- ---- an instance that takes their place

module _ (spot : Spot) (atoms : Atoms) (c : Context) (p atom : Assn) (is : atom ≡ p) (small : true ≡ assn_fits atom) where
  at_p : put_for spot atoms c p ≡ if_fits spot (with_assn atom (record c { atoms = atoms }))
  at_p = passed spot R10 (assn_fits p) (if_fits spot (with_assn p (record c { atoms = atoms }))) (ap assn_fits (sym is) ∙ sym small) ∙ ap (λ q. if_fits spot (with_assn q (record c { atoms = atoms }))) (sym is)

  pub put_large : context_fits (with_assn atom (record c { atoms = atoms })) ≡ false → put_for spot atoms c p ≡ reject spot R10
  put_large e = at_p ∙ too_large spot (with_assn atom (record c { atoms = atoms })) e

  pub put_at : context_fits (with_assn atom (record c { atoms = atoms })) ≡ true → (d : Context) → d ≡ record c { atoms = atoms } → put_for spot atoms c p ≡ Ok (with_assn atom d)
  put_at e d same = at_p ∙ fitting spot (with_assn atom (record c { atoms = atoms })) e ∙ ap (λ z. ok_context (with_assn atom z)) (sym same)
