-- What is answered to `run` with the status of an end is the report of a safe run.
use Rattle.std.proofs.Common.{◌≡◌, ℕ, List, Option, None, Some, IfSome, IsTrue, refl, sym, subst}
use Rattle.std.specs.Io.KnownBytes.{Appends}
use Rattle.tht_tree.specs.declared.file.Source1.{Source1}
use Rattle.tht_tree.specs.declared.status.Status.{Status}
use Rattle.tht_tree.specs.declared.status.Status.TheVariants.{Done, Spent, Big}
use Rattle.tht_tree.specs.declared.command.Command.{Command}
use Rattle.tht_tree.specs.declared.command.Command.TheVariants.{Read}
use Rattle.tht_tree.specs.declared.command.Reader.TheVariants.{Run}
use Rattle.tht_tree.specs.Spelling.{IsSpelled}
use Rattle.tht_logic.specs.Procedures.{bodies_in}
use Rattle.tht_logic.specs.Runs.{start_of}
use Rattle.tht_logic.specs.Soundness.{IsSound}
use Rattle.tht_logic.specs.CommandLine.{ends_a_run, Reports, Answers, HasInput, RunHasEnded}
use Rattle.tht_logic.specs.Rules.Files.{IsSource, IsAccepted}
use Rattle.tht_front.proofs.Lowest.{ends_at}

module _ (one_file : (a b : Source1) (bytes : List ℕ) → IsSpelled a bytes → IsSpelled b bytes → a ≡ b) (sound : (file : Source1) → IsAccepted file → IsSound file) (budget : ℕ) where
  ended : (input output : List ℕ) (old new : Option (List ℕ)) (status : Status) (file : Source1) → IsSource input file → IsAccepted file → Reports file budget status output
      → Appends old new output → RunHasEnded input budget old new status
  ended input output old new status file source accepted r wrote = record {
    file = file;
    source = source;
    one_file = λ other spelled. one_file other file input spelled source.spelled;
    accepted = accepted;
    sound = sound file accepted;
    order = r.order;
    last = r.last;
    end = r.end;
    runs = r.runs;
    ends = ends_at (bodies_in file) r.order (start_of file budget) r.last r.end r.ends r.runs;
    status_is = r.status_is;
    text = subst (Appends old new) r.output_is wrote;
    lowest = r.ends;
  }

  by_status : (input output : List ℕ) (old new : Option (List ℕ)) (status : Status) → IsTrue (ends_a_run status) → Answers (Some (Read (Run budget))) input status output → Appends old new output
      → RunHasEnded input budget old new status
  by_status input output old new Done ok a wrote = ended input output old new Done a.0 a.2 a.3.0 a.3.1 wrote
  by_status input output old new Spent ok a wrote = ended input output old new Spent a.0 a.2 a.3.0 a.3.1 wrote
  by_status input output old new Big ok a wrote = ended input output old new Big a.0 a.2 a.3.0 a.3.1 wrote
  by_status input output old new status ok a wrote = cc

  pub run_has_ended : (command : Option Command) (left : Option (List ℕ)) (status : Status) (output : List ℕ) (old new : Option (List ℕ))
      → command ≡ Some (Read (Run budget)) → IsTrue (ends_a_run status)
      → ((input : List ℕ) → HasInput command left input → Answers command input status output)
      → Appends old new output → IfSome left (λ input. RunHasEnded input budget old new status)
  run_has_ended command None status output old new asks ok answers wrote = tt
  run_has_ended command (Some input) status output old new asks ok answers wrote =
      let given : HasInput command (Some input) input = subst (λ q. HasInput q (Some input) input) (sym asks) refl in
      by_status input output old new status ok (subst (λ q. Answers q input status output) asks (answers input given)) wrote
