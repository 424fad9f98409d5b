-- Goals and facts of linear certificates, as the rules see them.
use Rattle.std.specs.Prelude.{Option, Some, None, option_map}
use Rattle.tht_tree.specs.declared.form.Comparison.{Comparison}
use Rattle.tht_tree.specs.declared.proof.LinEntry.{LinEntry, out-LinEntry}
use Rattle.tht_tree.specs.Syntax.{Names}
use Rattle.tht_tree.specs.Rules.Context.{Scope}
use Rattle.tht_tree.specs.Normal.Linear.{at_most, below}
use Rattle.tht_tree.specs.Rules.Certificates.{Aim as Denial, denial, equal, fact_of, Fact as KnownFact}
use Rattle.pure_proofs.specs.declared.facts.Aim.{Aim}
use Rattle.pure_proofs.specs.declared.facts.Aim.TheVariants as aim
use Rattle.pure_proofs.specs.declared.facts.Sides.{Sides}
use Rattle.pure_proofs.specs.declared.lin.Fact.{Fact}

-- what is denied of a goal
abbrev pub denied_by : Aim → Denial
denied_by (aim.AtMost a b) = denial (Some (below b.now a.now))
denied_by (aim.Below a b) = denial (Some (at_most b.now a.now))
denied_by aim.Falsehood = denial None
denied_by (aim.Equal a b) = equal a.now b.now

abbrev pub comparing : Sides → Comparison
comparing s = record { left = s.left.now; right = s.right.now; strict = s.strict }

abbrev pub fact_said : Fact → KnownFact
fact_said f = record { by = f.by; comparison = comparing f.sides }

-- the fact of an entry, if its formula is one
abbrev pub entry_fact : Names → Scope → Denial → LinEntry → Option KnownFact
entry_fact roots scope aim e = option_map (λ x. record { by = (out-LinEntry e).multiplier; comparison = x }) (fact_of roots scope aim (out-LinEntry e).fact)
