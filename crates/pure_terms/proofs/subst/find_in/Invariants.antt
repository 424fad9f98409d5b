use Rattle.std.proofs.Common.{◌≡◌, drop, map}
use Rattle.tht_tree.specs.Normal.Putting.{put_name}
use Rattle.pure_terms.proofs.subst.find_in.Given as goal

abbrev pub invariant-loop-entry : goal.invariant-loop-entry
invariant-loop-entry l = put_name (map (λ e. (e.name, e.term)) (drop l.entry-index l.entries)) l.name ≡ put_name (map (λ e. (e.name, e.term)) l.entries) l.name
