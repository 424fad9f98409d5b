-- The rules of calls and of `do`: the atoms that a body is given, and those that it gives back.
use Rattle.std.specs.Prelude.{ℕ, List, [], ◌∷◌, ◌++◌, Option, Some, None, Ok}
use Rattle.tht_tree.specs.declared.plain.Spot.{Spot}
use Rattle.tht_tree.specs.declared.plain.Sort.{Sort}
use Rattle.tht_tree.specs.declared.term.Term.{Term}
use Rattle.tht_tree.specs.declared.term.Term.TheVariants as term
use Rattle.tht_tree.specs.declared.assn.Assn.{Assn}
use Rattle.tht_tree.specs.declared.give.Give.{Give}
use Rattle.tht_tree.specs.declared.decl.Head.{Head}
use Rattle.tht_tree.specs.declared.rule.RuleCode.TheVariants.{R1, R10, R12}
use Rattle.tht_tree.specs.declared.rule.RuleRefusal.{RuleRefusal}
use Rattle.tht_tree.specs.declared.state.Local.TheVariants.{Variable}
use Rattle.tht_tree.specs.declared.state.Post.{Post}
use Rattle.tht_tree.specs.Normal.Putting.{Puts}
use Rattle.tht_tree.specs.Rules.Sizes.{assn_fits}
use Rattle.tht_tree.specs.Rules.Context.{Context, with_local, atom_at, without_atom, with_atom}
use Rattle.tht_logic.specs.Putting.{put_assn_within}
use Rattle.tht_logic.specs.Flatten.{with_assn}
use Rattle.tht_logic.specs.Rules.Checking.{Checked, unless_refused, on_some, on_ok, on_true, put_or_refused, if_fits}
use Rattle.tht_logic.specs.Rules.Definitions.{Declarations, arguments}
use Rattle.tht_logic.specs.Rules.Gives.{Atoms, after_give}

-- ---- calls

-- what is put in for a call: the arguments for the parameters, and those in brackets for the logical variables
abbrev pub call_arguments : Head → List Term → List Term → Puts
call_arguments f ts us = arguments f.params ts ++ arguments f.logic us

-- x is the result, and the atoms of an assertion are added
abbrev pub with_result : Spot → Context → List ℕ → Sort → Assn → Checked Context
with_result spot c x s p = if_fits spot (with_assn p (record c { scope = with_local c.scope x (Variable s) }))

-- A call: the atoms that prove the precondition are consumed, and those of the postcondition added, with x for the result.
abbrev pub after_call_of : Declarations → Spot → Context → List ℕ → List Term → List Term → Give → Head → Checked Context
after_call_of decl spot c x ts us g f =
    on_ok (put_or_refused spot (put_assn_within (call_arguments f ts us) f.pre)) (λ pre.
    on_ok (after_give decl c g pre) (λ k.
    on_ok (put_or_refused spot (put_assn_within ((f.result, term.Var x) ∷ call_arguments f ts us) f.post)) (λ post. with_result spot k x f.sort post)))

-- what is known after a call (that a name is no proc's cannot come where names are in order, and has some code)
abbrev pub after_call : Declarations → Spot → Context → List ℕ → List ℕ → List Term → List Term → Give → Checked Context
after_call decl spot c x f ts us g = on_some spot R12 (decl.procs f) (after_call_of decl spot c x ts us g)

-- ---- `do`

-- what a body with this postcondition is refused for, from what is known
abbrev pub InBody : Type 0
InBody = Post → Context → Option RuleRefusal

-- atoms in two parts: those that a body is given, and the frame, which it does not see
pub record Dealt : Type 0 where
  pub given : Atoms
  pub frame : Atoms

-- R1: each number is that of an atom, and none stands twice in the list. The atoms keep their numbers.
abbrev pub dealt : Spot → List ℕ → Atoms → Checked Dealt
dealt spot [] atoms = Ok (record { given = []; frame = atoms })
dealt spot (i ∷ ns) atoms =
    on_some spot R1 (atom_at i atoms) (λ p.
    on_ok (dealt spot ns (without_atom i atoms)) (λ d. Ok (record d { given = with_atom i p d.given })))

-- What is known after `x : s <- do (i, ..) body {box}`: the body, given these atoms, keeps the box, whose atoms then stand beside the frame. The body
-- starts with all hypotheses and with the number of atoms made so far, and does not move it for what stands behind the `do`.
abbrev pub after_do : Spot → Context → List ℕ → Sort → List ℕ → InBody → Assn → Checked Context
after_do spot c x s ns body box =
    on_ok (dealt spot ns c.atoms) (λ d.
    unless_refused (body (record { result = x; sort = s; assn = box }) (record c { atoms = d.given }))
    (on_true spot R10 (assn_fits box) (with_result spot (record c { atoms = d.frame }) x s box)))
