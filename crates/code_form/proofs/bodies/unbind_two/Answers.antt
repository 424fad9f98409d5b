use Rattle.std.proofs.Common.{◌++◌, [], ◌∷◌, sym, ◌∙◌}
use Rattle.std.proofs.lemmas.List.{append_assoc}
use Rattle.code_form.proofs.bodies.unbind_two.Goals as goal

pub returns : goal.returns
returns c = λ names x y e.
    let a = c.unbind_name.ensures (names ++ x ∷ []) y (e ∙ sym (append_assoc names (x ∷ []) (y ∷ []))) in
    let b = c.unbind_name-2.ensures names x a.bound in
    record { bound = b.bound; nodes = b.nodes ∙ a.nodes; procs = b.procs ∙ a.procs }
