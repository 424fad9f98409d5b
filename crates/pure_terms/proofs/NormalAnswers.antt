-- The normal form of a term, as a term.
use Rattle.std.proofs.Common.{◌≡◌, Some, Ok, sym, ◌∙◌, ap}
use Rattle.tht_tree.specs.declared.plain.Sort.{Sort}
use Rattle.tht_tree.specs.declared.term.Term.{Term}
use Rattle.tht_tree.specs.declared.form.Form.{Form}
use Rattle.tht_tree.specs.Values.{Env}
use Rattle.tht_tree.specs.Syntax.{Names}
use Rattle.tht_tree.specs.Terms.{value}
use Rattle.tht_tree.specs.Rules.Context.{Scope}
use Rattle.tht_tree.specs.Rules.Scoping.{sort_of}
use Rattle.tht_tree.specs.Normal.Forms.{term_of, normal, in_term, normal_term}
use Rattle.normal_laws.proofs.NormalValues.{Fits, normal_value}

pub term_made : (scope : Scope) (u t : Term) (m : Form) → normal scope u ≡ Ok m → t ≡ term_of m → normal_term scope u ≡ Ok t
term_made scope u t m h e = ap in_term h ∙ ap (λ z. Ok z) (sym e)

pub one_value : (roots : Names) (scope : Scope) (env : Env) (u t : Term) (m : Form) (s : Sort) → Fits roots scope env → sort_of roots scope u ≡ Some s → normal scope u ≡ Ok m → t ≡ term_of m →
    value roots env t ≡ value roots env u
one_value roots scope env u t m s fits e h g = normal_value roots scope env fits u s e t (term_made scope u t m h g)
