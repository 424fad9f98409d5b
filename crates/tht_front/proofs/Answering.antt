-- What an answer says of its input.
use Rattle.std.proofs.Common.{◌≡◌, ◌⊎◌, inl, inr, ℕ, ◌≤◌, length, true, IsTrue, List, Option, None, Some, IfSome, Result, Ok, Err, IfOk, refl, sym, ap, subst}
use Rattle.tht_tree.specs.declared.file.Source1.{Source1}
use Rattle.tht_tree.specs.declared.run.End.{End}
use Rattle.tht_tree.specs.declared.run.End.TheVariants as ended
use Rattle.tht_tree.specs.declared.status.Status.{Status}
use Rattle.tht_tree.specs.declared.status.Status.TheVariants as status
use Rattle.tht_tree.specs.declared.command.Command.{Command}
use Rattle.tht_tree.specs.declared.command.Reader.{Reader}
use Rattle.tht_tree.specs.declared.command.Reader.TheVariants.{Check, Run, Print}
use Rattle.tht_tree.specs.declared.command.Command.TheVariants.{Read}
use Rattle.tht_tree.specs.declared.plain.Spot.{Spot}
use Rattle.tht_tree.specs.Tokens as token
use Rattle.tht_tree.specs.Splitting as split
use Rattle.tht_tree.specs.Faults as fault
use Rattle.tht_tree.specs.declared.text_fault.TextFault.{TextFault}
use Rattle.tht_tree.specs.declared.text_fault.TextFault.TheVariants as f
use Rattle.tht_tree.specs.Spelling.{IsSpelled}
use Rattle.tht_grammar.proofs.TextFaults.{no_file_split, no_file_spelled}
use Rattle.tht_logic.specs.Procedures.{bodies_in}
use Rattle.tht_logic.specs.Runs.{start_of, GoesLowest}
use Rattle.tht_logic.specs.Soundness.{IsSound}
use Rattle.tht_logic.specs.CommandLine
use Rattle.tht_logic.specs.CommandLine.{input_limit, Takes, TakesNone, Accepts, IsFirstFault, SaysFault, SaysLater, SaysRefusal, SaysRule, RefusesText, RefusesNames, FileAnswers, IsRefused, IsOutOfOrder, EndsSo, AsksRunTo}
use Rattle.tht_logic.specs.Built.{is_built}
use Rattle.tht_tree.specs.Walk.Files.{first_refusal, WellSorted}
use Rattle.tht_tree.specs.declared.walk.WalkRefusal.{WalkRefusal}
use Rattle.tht_tree.specs.declared.rule.RuleRefusal.{RuleRefusal}
use Rattle.tht_tree.specs.Lines.{walk_line, rule_line}
use Rattle.tht_logic.specs.Rules.Files.{IsSource, first_rule_refusal}
use Rattle.tht_parse.specs.Ends.{IsFirstFault as IsFirst}
use Rattle.tht_parse.specs.declared.end.ParseEnd.{ParseEnd}
use Rattle.tht_parse.specs.declared.end.ParseEnd.TheVariants as end
use Rattle.tht_front.specs.Refusals.{IsLineOf, AnswersTo, Judges}
use Rattle.tht_front.specs.Decided.{is_past_text, is_cut_short, is_run}
use Rattle.tht_front.specs.Asking.{reader_of}
use Rattle.tht_front.specs.Outcomes.{RunFaults}
use Rattle.tht_front.specs.declared.task.Task.{Task}
use Rattle.tht_front.specs.declared.task.Task.TheVariants.{Say}
use Rattle.tht_front.specs.declared.task.Task.TheVariants.{Run as RunIt}

-- ---- texts that a command does not take

pub spelled_in : (reader : Reader) (input : List ℕ) (file : Source1) → Takes reader input file → IsSpelled file input
spelled_in Check input file source = source.spelled
spelled_in (Run budget) input file source = source.spelled
spelled_in Print input file spelled = spelled

-- the first fault of a text that is not lexed or not read
module _ (input : List ℕ) where
  no_file_at : (fault : TextFault) (spot : Spot) → IsFirstFault input fault spot → (file : Source1) → IsSpelled file input → ⊥
  no_file_at f.Byte spot h file s = no_file_split input split.bad_byte spot h file s
  no_file_at f.LongName spot h file s = no_file_split input split.long_name spot h file s
  no_file_at f.BigNumber spot h file s = no_file_split input split.big_number spot h file s
  no_file_at f.Unexpected spot h file s = no_file_spelled input fault.unexpected spot h.0 h.1 file s
  no_file_at f.Deep spot h file s = no_file_spelled input (fault.over token.deep) spot h.0 h.1 file s
  no_file_at f.Many spot h file s = no_file_spelled input (fault.over token.many) spot h.0 h.1 file s
  no_file_at f.Version spot h file s = no_file_spelled input (fault.over token.version) spot h.0 h.1 file s

  pub none_at_fault : (output : List ℕ) → SaysFault input output → (reader : Reader) → TakesNone input reader
  none_at_fault output h reader file taken = no_file_at h.fault h.spot h.first file (spelled_in reader input file taken)

module _ (one_file : (a b : Source1) (bytes : List ℕ) → IsSpelled a bytes → IsSpelled b bytes → a ≡ b) where
  -- what is spelled has other forms than those that are built
  not_built : (input output : List ℕ) → SaysLater input output → (file : Source1) → IsSource input file → ⊥
  not_built input output h file source =
      let same = one_file file h.file input source.spelled h.spelled in let good = source.built in let bad = h.later in cc (ap is_built same)

  refused_as_text : (input output : List ℕ) (reader : Reader) → SaysFault input output ⊎ SaysLater input output → (file : Source1) → IsSource input file → ⊥
  refused_as_text input output reader (inl h) file source = no_file_at input h.fault h.spot h.first file source.spelled
  refused_as_text input output reader (inr h) file source = not_built input output h file source

  pub none_refused : (reader : Reader) (input output : List ℕ) → RefusesText reader input output → TakesNone input reader
  none_refused Check input output h = refused_as_text input output Check h
  none_refused (Run budget) input output h = refused_as_text input output (Run budget) h
  none_refused Print input output h = none_at_fault input output h Print

  -- nor is a file taken whose names and sorts are not in order
  not_in_order : (input output : List ℕ) → SaysRefusal input output → (file : Source1) → IsSource input file → ⊥
  not_in_order input output h file source =
      let same = one_file file h.file input source.spelled h.spelled in let good = source.sorted in let bad = h.first in cc (ap first_refusal same)

  pub none_out_of_order : (reader : Reader) (input output : List ℕ) → RefusesNames reader input output → TakesNone input reader
  none_out_of_order Check input output h = not_in_order input output h
  none_out_of_order (Run budget) input output h = not_in_order input output h
  none_out_of_order Print input output h = λ file source. absurd h

  pub not_taken : (left : Option (List ℕ)) (reader : Reader) (s : Status) (output : List ℕ) → IfSome left (λ input. FileAnswers reader input s output) → s ≡ status.Text
      → IfSome left (λ input. TakesNone input reader)
  not_taken None reader s output a e = tt
  not_taken (Some input) reader s output a e = none_refused reader input output (subst (λ t. FileAnswers reader input t output) e a).1

pub one_command : (x y : Command) → Some x ≡ Some y → x ≡ y
one_command x y e = cc

-- ---- accepted files

pub no_fault : (file : Source1) (budget : ℕ) → IsSound file → RunFaults file budget → ⊥
no_fault file budget sound f = f.fault (sound.safe budget f.order f.last f.runs 0 f.left)

-- ---- causes

refused_at : (reader : Reader) (input : List ℕ) (output : List ℕ) → FileAnswers reader input status.Rule output → IsRefused input
refused_at Check input output a = (a.0, a.3.0, a.2, a.3.1)
refused_at (Run budget) input output a = (a.0, a.3.0, a.2, a.3.1)
refused_at Print input output a = absurd a.3

pub refused : (left : Option (List ℕ)) (reader : Reader) (s : Status) (output : List ℕ) → IfSome left (λ input. FileAnswers reader input s output) → s ≡ status.Rule → IfSome left IsRefused
refused None reader s output a e = tt
refused (Some input) reader s output a e = refused_at reader input output (subst (λ t. FileAnswers reader input t output) e a)

out_of_order_by : (input output : List ℕ) → SaysRefusal input output → IsOutOfOrder input
out_of_order_by input output h = (h.file, h.refusal, h.spelled, h.built, h.first)

out_of_order_at : (reader : Reader) (input : List ℕ) (output : List ℕ) → FileAnswers reader input status.NamesOrSorts output → IsOutOfOrder input
out_of_order_at Check input output a = out_of_order_by input output a.1
out_of_order_at (Run budget) input output a = out_of_order_by input output a.1
out_of_order_at Print input output a = absurd a.1

pub out_of_order : (left : Option (List ℕ)) (reader : Reader) (s : Status) (output : List ℕ) → IfSome left (λ input. FileAnswers reader input s output) → s ≡ status.NamesOrSorts → IfSome left IsOutOfOrder
out_of_order None reader s output a e = tt
out_of_order (Some input) reader s output a e = out_of_order_at reader input output (subst (λ t. FileAnswers reader input t output) e a)

-- a status of a run that was cut short comes for `run` alone
pub run_alone : (reader : Reader) (input : List ℕ) (s : Status) (output : List ℕ) → FileAnswers reader input s output → IsTrue (is_cut_short s) → IsTrue (is_run reader)
run_alone (Run budget) input s output a cut = refl
run_alone Check input status.Spent output a cut = absurd a.3
run_alone Check input status.Big output a cut = absurd a.3
run_alone Check input s output a cut = cc
run_alone Print input status.Spent output a cut = absurd a.3
run_alone Print input status.Big output a cut = absurd a.3
run_alone Print input s output a cut = cc

abbrev Goes : Source1 → ℕ → List ℕ → End → Type 0
Goes file budget order e = GoesLowest (bodies_in file) (start_of file budget) order e

spent_by : (file : Source1) (budget : ℕ) (order : List ℕ) (e : End) → status.Spent ≡ CommandLine.status_of e → Goes file budget order e → (b : ℕ) × Goes file budget order (ended.Spent b)
spent_by file budget order (ended.Done v) same goes = cc
spent_by file budget order (ended.Spent b) same goes = (b, goes)
spent_by file budget order (ended.Big b) same goes = cc

big_by : (file : Source1) (budget : ℕ) (order : List ℕ) (e : End) → status.Big ≡ CommandLine.status_of e → Goes file budget order e → (b : ℕ) × Goes file budget order (ended.Big b)
big_by file budget order (ended.Done v) same goes = cc
big_by file budget order (ended.Spent b) same goes = cc
big_by file budget order (ended.Big b) same goes = (b, goes)

spent_at : (budget : ℕ) (input output : List ℕ) → FileAnswers (Run budget) input status.Spent output → EndsSo ended.Spent budget input
spent_at budget input output a = let r = a.3.1 in let b = spent_by a.0 budget r.order r.end r.status_is r.ends in (a.0, r.order, b.0, a.2, b.1)

big_at : (budget : ℕ) (input output : List ℕ) → FileAnswers (Run budget) input status.Big output → EndsSo ended.Big budget input
big_at budget input output a = let r = a.3.1 in let b = big_by a.0 budget r.order r.end r.status_is r.ends in (a.0, r.order, b.0, a.2, b.1)

-- a run that ends so, where the source tells its input
ends_by : (ends : ℕ → End) (budget : ℕ) (s : Status) (output : List ℕ) (left : Option (List ℕ)) → ((input : List ℕ) → FileAnswers (Run budget) input s output → EndsSo ends budget input)
    → IfSome left (λ input. FileAnswers (Run budget) input s output) → IfSome left (EndsSo ends budget)
ends_by ends budget s output None at a = tt
ends_by ends budget s output (Some input) at a = at input a

-- these words ask for a run, if for a command that runs
module _ (command : Option Command) (left : Option (List ℕ)) (output : List ℕ) where
  spent : (reader : Reader) (s : Status) → command ≡ Some (Read reader) → IfSome left (λ input. FileAnswers reader input s output) → (IsTrue (is_cut_short s) → IsTrue (is_run reader)) → s ≡ status.Spent
      → AsksRunTo ended.Spent command left
  spent (Run budget) s asks a runs e =
      (budget, asks, ends_by ended.Spent budget status.Spent output left (λ input b. spent_at budget input output b) (subst (λ t. IfSome left (λ input. FileAnswers (Run budget) input t output)) e a))
  spent Check s asks a runs e = let never : IsTrue (is_run Check) = subst (λ t. IsTrue (is_cut_short t) → IsTrue (is_run Check)) e runs refl in cc
  spent Print s asks a runs e = let never : IsTrue (is_run Print) = subst (λ t. IsTrue (is_cut_short t) → IsTrue (is_run Print)) e runs refl in cc

  big : (reader : Reader) (s : Status) → command ≡ Some (Read reader) → IfSome left (λ input. FileAnswers reader input s output) → (IsTrue (is_cut_short s) → IsTrue (is_run reader)) → s ≡ status.Big
      → AsksRunTo ended.Big command left
  big (Run budget) s asks a runs e =
      (budget, asks, ends_by ended.Big budget status.Big output left (λ input b. big_at budget input output b) (subst (λ t. IfSome left (λ input. FileAnswers (Run budget) input t output)) e a))
  big Check s asks a runs e = let never : IsTrue (is_run Check) = subst (λ t. IsTrue (is_cut_short t) → IsTrue (is_run Check)) e runs refl in cc
  big Print s asks a runs e = let never : IsTrue (is_run Print) = subst (λ t. IsTrue (is_cut_short t) → IsTrue (is_run Print)) e runs refl in cc

  -- the same, where the command that the words ask for reads with some reader
  pub spent_so : (x : Command) (s : Status) → command ≡ Some x → ((r : Reader) → x ≡ Read r → IfSome left (λ input. FileAnswers r input s output))
      → ((r : Reader) → x ≡ Read r → IsTrue (is_cut_short s) → IsTrue (is_run r)) → s ≡ status.Spent → AsksRunTo ended.Spent command left
  spent_so (Read r) s asks a runs e = spent r s asks (a r refl) (runs r refl) e

  pub big_so : (x : Command) (s : Status) → command ≡ Some x → ((r : Reader) → x ≡ Read r → IfSome left (λ input. FileAnswers r input s output))
      → ((r : Reader) → x ≡ Read r → IsTrue (is_cut_short s) → IsTrue (is_run r)) → s ≡ status.Big → AsksRunTo ended.Big command left
  big_so (Read r) s asks a runs e = big r s asks (a r refl) (runs r refl) e

-- ---- answers to a file

-- what is said of the value of a result from two things that are said of it
pub if_ok : {A E : Type 0} (r : Result A E) (P Q R : A → Type 0) → ((a : A) → P a → Q a → R a) → IfOk r P → IfOk r Q → IfOk r R
if_ok (Ok a) P Q R f p q = f a p q
if_ok (Err e) P Q R f p q = tt

-- of a command that checks
module _ (reader : Reader) (later : (input output : List ℕ) → SaysLater input output → RefusesText reader input output) (refuses : (input output : List ℕ) → SaysRefusal input output → RefusesNames reader input output)
    (takes : (input : List ℕ) (file : Source1) → IsSource input file → Takes reader input file) where
  judge_answers : (input : List ℕ) (file : Source1) (s : Status) (output : List ℕ) → length input ≤ input_limit → IsSpelled file input → Judges reader file s output → FileAnswers reader input s output
  judge_answers input file status.TooLong output small spelled a = let past = a.2 in cc
  judge_answers input file status.Text output small spelled a = (small, later input output (record { file = file; spelled = spelled; later = a.0; line = a.1 }))
  judge_answers input file status.NamesOrSorts output small spelled a =
      (small, refuses input output (record { file = file; spelled = spelled; built = a.1; refusal = a.0; first = a.2; line = a.3 }))
  judge_answers input file s output small spelled a = (file, small, takes input file (record { spelled = spelled; built = a.0; sorted = a.1 }), a.3)

-- the answer of a command to the file that the input spells is its answer to the input
pub answers_file : (reader : Reader) (input : List ℕ) (file : Source1) (s : Status) (output : List ℕ) → length input ≤ input_limit → IsSpelled file input → AnswersTo reader file s output
    → FileAnswers reader input s output
answers_file Check input file s output small spelled a =
    judge_answers Check (λ i o h. inr h) (λ i o h. h) (λ i f h. h) input file s output small spelled a
answers_file (Run budget) input file s output small spelled a =
    judge_answers (Run budget) (λ i o h. inr h) (λ i o h. h) (λ i f h. h) input file s output small spelled a
answers_file Print input file s output small spelled a = let P : Status → Type 0 = λ t. FileAnswers Print input t output in subst P (sym a.0) (file, small, spelled, a.1)

-- every command refuses a text with a fault
says_fault : (reader : Reader) (input output : List ℕ) → SaysFault input output → RefusesText reader input output
says_fault Check input output h = inl h
says_fault (Run budget) input output h = inl h
says_fault Print input output h = h

-- the line of the first fault of the input
fault_said : (input : List ℕ) (e : ParseEnd) (output : List ℕ) → IsFirst input e → IsLineOf e output → SaysFault input output
fault_said input (end.BadByte spot) output h line = record { fault = f.Byte; spot = spot; first = h; line = line }
fault_said input (end.LongName spot) output h line = record { fault = f.LongName; spot = spot; first = h; line = line }
fault_said input (end.BigNumber spot) output h line = record { fault = f.BigNumber; spot = spot; first = h; line = line }
fault_said input (end.Unexpected spot found) output h line = record { fault = f.Unexpected; spot = spot; first = (found, h); line = line }
fault_said input (end.Deep spot) output h line = record { fault = f.Deep; spot = spot; first = h; line = line }
fault_said input (end.Many spot) output h line = record { fault = f.Many; spot = spot; first = h; line = line }
fault_said input (end.Version spot) output h line = record { fault = f.Version; spot = spot; first = h; line = line }
fault_said input end.Memory output h line = absurd line

pub answers_fault : (reader : Reader) (input : List ℕ) (e : ParseEnd) (s : Status) (output : List ℕ) → length input ≤ input_limit → IsFirst input e → s ≡ status.Text → IsLineOf e output
    → FileAnswers reader input s output
answers_fault reader input e s output small first same line =
    let P : Status → Type 0 = λ t. FileAnswers reader input t output in subst P (sym same) (small, says_fault reader input output (fault_said input e output first line))

-- the answer of a command that checks to a file whose names or sorts are not in order, and to one that a rule refuses
pub walk_judges : (reader : Reader) (file : Source1) (r : WalkRefusal) (s : Status) (output : List ℕ) → is_built file ≡ true → first_refusal file ≡ Some r → s ≡ status.NamesOrSorts → output ≡ walk_line r
    → Judges reader file s output
walk_judges reader file r s output built first same line = let P : Status → Type 0 = λ t. Judges reader file t output in subst P (sym same) (r, built, first, line)

says_rule : (task : Task) (file : Source1) (output : List ℕ) → SaysRule file output → Accepts (reader_of task) file status.Rule output
says_rule Say file output h = h
says_rule (RunIt budget) file output h = h

pub rule_judges : (task : Task) (file : Source1) (r : RuleRefusal) (s : Status) (output : List ℕ) → is_built file ≡ true → WellSorted file → first_rule_refusal file ≡ Some r → s ≡ status.Rule → output ≡ rule_line r
    → Judges (reader_of task) file s output
rule_judges task file r s output built sorted first same line =
    let P : Status → Type 0 = λ t. Judges (reader_of task) file t output in subst P (sym same) (built, sorted, refl, says_rule task file output (r, first, line))

-- the answer to a file whose names and sorts are in order
pub past_judges : (reader : Reader) (file : Source1) (s : Status) (output : List ℕ) → is_built file ≡ true → WellSorted file → Accepts reader file s output → IsTrue (is_past_text s) → Judges reader file s output
past_judges reader file status.Text output built sorted a past = cc
past_judges reader file status.NamesOrSorts output built sorted a past = cc
past_judges reader file s output built sorted a past = (built, sorted, past, a)

-- a cause of an answer from what is said of the answer
pub if_ok_then : {A E : Type 0} (r : Result A E) (P R : A → Type 0) → ((a : A) → P a → R a) → IfOk r P → IfOk r R
if_ok_then (Ok a) P R f p = f a p
if_ok_then (Err e) P R f p = tt
