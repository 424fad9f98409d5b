-- Which proofs, gives, assertions and bodies are built.
use Rattle.std.proofs.Common.{◌≡◌, refl}
use Rattle.tht_tree.specs.declared.assn.Assn.{Assn}
use Rattle.tht_tree.specs.declared.body.Body.{Body}
use Rattle.tht_tree.specs.declared.give.Give.{Give}
use Rattle.tht_tree.specs.declared.proof.Proof.{Proof}
use Rattle.tht_logic.specs.Built.{proof, give, assn, body}
use Rattle.hoare_rules.specs.BuiltParts.{proof_built, give_built, assn_built, body_built}

pub proof_is : (x : Proof) → proof x ≡ proof_built x
unfolding proof
proof_is x = refl

pub give_is : (x : Give) → give x ≡ give_built x
unfolding give
give_is x = refl

pub assn_is : (x : Assn) → assn x ≡ assn_built x
unfolding assn
assn_is x = refl

pub body_is : (x : Body) → body x ≡ body_built x
unfolding body
body_is x = refl
