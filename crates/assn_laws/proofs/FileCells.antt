-- The laws of a read, a write and a free of a private cell in a file without roots and `on`, where no lemma can be used.
use Rattle.std.proofs.Common.{◌≡◌, true, sym, ap, subst}
use Rattle.tht_tree.specs.declared.plain.Sort.TheVariants as sort
use Rattle.tht_tree.specs.declared.state.Local.TheVariants.{Variable, Hypothesis}
use Rattle.tht_tree.specs.declared.walk.Class.TheVariants as class
use Rattle.tht_tree.specs.declared.term.Term.{Term}
use Rattle.tht_tree.specs.Syntax.{Names}
use Rattle.tht_tree.specs.Rules.Context.{Scope, with_local}
use Rattle.tht_tree.specs.Rules.Scoping.{is_of, sort_of}
use Rattle.tht_tree.specs.Walk.Names as walk
use Rattle.tht_tree.specs.Walk.Names.{with_result, with_hypothesis}
use Rattle.tht_tree.specs.Walk.Terms.{program_of}
use Rattle.proof_laws.specs.Walked.{Matches}
use Rattle.proof_laws.proofs.WalkedTerms.{no_walk_code}
use Rattle.tht_logic.specs.Rules.Scoped.{instance_fits}
use Rattle.assn_laws.specs.Walked.{any_fits}
use Rattle.tht_logic.specs.Meanings.{meaning_in}
use Rattle.assn_laws.specs.FileLaws.{proof_in, FileReadsAreSound, FileWritesAreSound, FileFreesAreSound}
use Rattle.assn_laws.proofs.WalkedNames.{is_new, hypothesis_matches}
use Rattle.assn_laws.proofs.WalkedPrograms.{program_term, storable_term}
use Rattle.assn_laws.proofs.CellRules.{reads, writes, frees}
use Rattle.assn_laws.proofs.CellLaw.{reads_are_sound, writes_are_sound, frees_are_sound}
use Rattle.assn_laws.proofs.Scopes.{knows_with}
use Rattle.assn_laws.proofs.FileLaw.{in_order, premises, result_matches}

-- a place in which the walk refuses nothing
a_place_term : (roots : Names) (names : walk.Scope) (scope : Scope) → Matches roots names scope → (t : Term) → program_of names sort.Loc t ≡ no_walk_code → is_of sort.Loc (sort_of roots scope t) ≡ true
a_place_term roots names scope m t e = ap (is_of sort.Loc) (program_term roots names scope m sort.Loc t e).of_sort

-- The law of reads.
pub file_reads_are_sound : FileReadsAreSound
file_reads_are_sound file decl r names c next env h is spot x s t i n q new hyp placed e ok =
    let roots : Names = decl.proofs.roots in
    let wider : Scope = with_local c.scope x (Variable s) in
    let inner : walk.Scope = with_result names x s in
    let m : Matches roots inner wider = result_matches roots x s names c.scope is.matches new in
    let w = reads decl.proofs spot c next x s t i n q ok in
    let scope : next.scope ≡ with_local wider n Hypothesis = sym (ap (λ k. k.scope) w.2) in
    let read = reads_are_sound decl (proof_in decl) (instance_fits decl) any_fits (meaning_in file) c next env h (premises file decl r c env h is.state) is.state spot x s t i n q (is_new roots names c.scope is.matches x new)
    (is_new roots inner wider m n hyp) (a_place_term roots names c.scope is.matches t placed) ((in_order decl names c.scope is.matches is.knows).proofs q e) ok in (
      read.0,
      read.1,
      λ b. record {
        matches = subst (Matches roots (with_hypothesis inner n)) (sym scope) (hypothesis_matches roots inner wider m n hyp);
        knows = knows_with decl.predicates inner n class.Hypothesis (λ o. tt) (knows_with decl.predicates names x (class.Program s) (λ o. tt) is.knows);
        state = read.2 b;
      },
    )

-- The law of writes.
pub file_writes_are_sound : FileWritesAreSound
file_writes_are_sound file decl r names c next env h is spot t u i q placed stored e ok =
    let roots : Names = decl.proofs.roots in
    let scope : next.scope ≡ c.scope = sym (ap (λ k. k.scope) (writes decl.proofs spot c next t u i q ok).1) in
    let written = writes_are_sound decl (proof_in decl) (instance_fits decl) any_fits (meaning_in file) c next env h (premises file decl r c env h is.state) is.state spot t u i q (a_place_term roots names c.scope is.matches t placed)
    (storable_term roots names c.scope is.matches u stored) ((in_order decl names c.scope is.matches is.knows).proofs q e) ok in (
      written.0,
      λ b. record { matches = subst (Matches roots names) (sym scope) is.matches; knows = is.knows; state = written.1 b },
    )

-- The law of frees.
pub file_frees_are_sound : FileFreesAreSound
file_frees_are_sound file decl r names c next env h is spot t i q placed e ok =
    let roots : Names = decl.proofs.roots in
    let scope : next.scope ≡ c.scope = sym (ap (λ k. k.scope) (frees decl.proofs spot c next t i q ok).1) in
    let freed = frees_are_sound decl (proof_in decl) (instance_fits decl) any_fits (meaning_in file) c next env h (premises file decl r c env h is.state) is.state spot t i q (a_place_term roots names c.scope is.matches t placed)
    ((in_order decl names c.scope is.matches is.knows).proofs q e) ok in (
      freed.0,
      record { matches = subst (Matches roots names) (sym scope) is.matches; knows = is.knows; state = freed.1 },
    )
