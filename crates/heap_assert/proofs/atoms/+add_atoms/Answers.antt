use Rattle.std.proofs.Common.{◌≡◌}
use Rattle.tht_tree.specs.declared.assn.Assn.TheVariants.{Star}
use Rattle.heap_assert.proofs.OneAtom.{added_one, added_both, if_ok, none_added, left_added, right_added, if_err}
use Rattle.heap_assert.proofs.atoms.+add_atoms.Goals as goal

pub returns-in_ok-add_atoms-in-Star-clause-ok : goal.returns-in_ok-add_atoms-in-Star-clause-ok
returns-in_ok-add_atoms-in-Star-clause-ok t c =
    let whole : c.args.assn ≡ Star c.into_inner.result c.into_inner-in-Star.result = cc in
    if_ok _ _ _ (added_both _ _ _ _ _ _ whole c.in_ok-add_atoms-in-Star.ensures.ok) c.add_atoms-in-Star.ensures.ok

pub returns-in_ok-add_atoms-in-Star-clause-err : goal.returns-in_ok-add_atoms-in-Star-clause-err
returns-in_ok-add_atoms-in-Star-clause-err t c =
    let whole : c.args.assn ≡ Star c.into_inner.result c.into_inner-in-Star.result = cc in
    if_err _ _ _ (right_added _ _ _ _ _ _ whole c.in_ok-add_atoms-in-Star.ensures.ok) c.add_atoms-in-Star.ensures.err

pub returns-in_ok-push-in_default-clause-ok : goal.returns-in_ok-push-in_default-clause-ok
returns-in_ok-push-in_default-clause-ok t c = added_one _ _ _ c.in_default.not-Emp c.in_default.not-Star c.in_ok-push-in_default.ensures.ok
