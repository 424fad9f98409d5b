use Rattle.std.proofs.Common.{◌≡◌, ◌-◌, ◌^◌, ◌∙◌, sym, ap, min, map, sum_by, rules}
use Rattle.std.specs.Map.Iter.{deref}
use Rattle.std.specs.BTreeMap.{values}
use Rattle.std.proofs.lemmas.Map.Iter.{iter_end}
use Rattle.pure_proofs.proofs.Sums.{sum_by-map}
use Rattle.tht_tree.specs.Rules.Sizes.{assn_nodes}
use Rattle.pure_proofs.proofs.sizes.atoms_size.Goals as goal

pub returns : goal.returns
returns c =
    let whole : map deref c.loop-atom.yielded ≡ values c.args.atoms.now = search (rules, iter_end) in
    c.loop-atom.invariant
    ∙ ap (λ n. min n (2 ^ 64 - 1)) (sym (sum_by-map assn_nodes deref c.loop-atom.yielded) ∙ ap (sum_by assn_nodes) whole ∙ sum_by-map assn_nodes (λ e. e.1) c.args.atoms.now.entries)
