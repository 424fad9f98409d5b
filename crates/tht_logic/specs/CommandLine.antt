-- What the program answers to its words and its input on one worker, and what it then has done.
use Rattle.std.specs.Prelude.{◌≡◌, ◌⊎◌, ℕ, Bool, true, false, ◌<◌, ◌≤◌, nat_le, ◌&&◌, bytes_eq, List, [], ◌∷◌, length, codes, take, Option, None, Some, option_map, option_and_then, unwrap_or, IfSome, if◌then◌else◌, ⊤}
use Rattle.std.specs.Fmt.{decimal}
use Rattle.std.specs.Str.Parse.{digits_value}
use Rattle.std.specs.Io.KnownBytes.{Appends, Keeps}
use Rattle.tht_tree.specs.declared.file.Source1.{Source1}
use Rattle.tht_tree.specs.declared.run.End.{End}
use Rattle.tht_tree.specs.declared.run.End.TheVariants as end
use Rattle.tht_tree.specs.declared.status.Status.{Status}
use Rattle.tht_tree.specs.declared.status.Status.TheVariants.{Done, Words, ReadFault, WriteFault, TooLong, Text, NamesOrSorts, Rule, Spent, Big, Memory}
use Rattle.tht_tree.specs.declared.command.Command.{Command}
use Rattle.tht_tree.specs.declared.command.Command.TheVariants.{Read}
use Rattle.tht_tree.specs.declared.command.Reader.{Reader}
use Rattle.tht_tree.specs.declared.command.Reader.TheVariants.{Check, Run, Print}
use Rattle.tht_tree.specs.declared.walk.WalkRefusal.{WalkRefusal}
use Rattle.tht_tree.specs.declared.rule.RuleRefusal.{RuleRefusal}
use Rattle.tht_logic.specs.Built.{is_built}
use Rattle.tht_tree.specs.Walk.Files.{first_refusal}
use Rattle.tht_logic.specs.Rules.Files.{IsSource, first_rule_refusal, IsAccepted}
use Rattle.tht_tree.specs.declared.plain.Spot.{Spot}
use Rattle.tht_tree.specs.declared.text_fault.TextFault.{TextFault}
use Rattle.tht_tree.specs.declared.text_fault.TextFault.TheVariants as f
use Rattle.tht_tree.specs.declared.token.TokenKind.{TokenKind}
use Rattle.tht_tree.specs.Tokens as token
use Rattle.tht_tree.specs.Splitting as split
use Rattle.tht_tree.specs.Faults as fault
use Rattle.tht_tree.specs.Spelling.{IsSpelled, FaultsInSplitting, FaultsInSpelling}
use Rattle.tht_logic.specs.Programs.{root_names}
use Rattle.tht_tree.specs.Layout.{layout}
use Rattle.tht_logic.specs.Runs.{State, start_of, run_of, cost_of, Ends, GoesLowest}
use Rattle.tht_logic.specs.Procedures.{bodies_in}
use Rattle.tht_logic.specs.Soundness.{IsSound}
use Rattle.tht_tree.specs.Texts.{fault_text, report_text}
use Rattle.tht_tree.specs.Lines.{walk_line, rule_line}

-- ---- statuses

-- the status of a run that ended so
abbrev pub status_of : End → Status
status_of (end.Done v) = Done
status_of (end.Spent b) = Spent
status_of (end.Big b) = Big

-- ---- words

-- what the options of `run` say, as far as they were given: the number of workers, which is 1 so far, and the budget of steps
pub record Options : Type 0 where
  pub workers : Option ℕ
  pub steps : Option ℕ

abbrev pub no_options : Options
no_options = record { workers = None; steps = None }

-- this number, where it is from one up to a limit and the word is its decimal
abbrev pub if_written : ℕ → List ℕ → ℕ → Option ℕ
if_written limit word n = if bytes_eq word (decimal n) && (nat_le 1 n && nat_le n limit) then Some n else None

-- the number from one up to a limit that the word is in decimal, without a sign and without leading zeros
abbrev pub number_up_to : ℕ → List ℕ → Option ℕ
number_up_to limit word = if_written limit word (digits_value 10 word)

-- an option that was not given before, where its value is in order
abbrev pub once : {A : Type 0} → Option A → Option A → Option A
once None value = value
once (Some x) value = None

abbrev pub with_workers : Options → Option ℕ → Option Options
with_workers o None = None
with_workers o (Some n) = Some (record o { workers = Some n })

abbrev pub with_steps : Options → Option ℕ → Option Options
with_steps o None = None
with_steps o (Some n) = Some (record o { steps = Some n })

-- with one more option
abbrev pub with_option : List ℕ → List ℕ → Options → Option Options
with_option name value o =
    if bytes_eq name (codes "--workers") then with_workers o (once o.workers (number_up_to 1 value))
    else if bytes_eq name (codes "--steps") then with_steps o (once o.steps (number_up_to 1000000 value))
    else None

-- options in any order, each at most once, a word for the name and one for the value
abbrev pub with_options : List (List ℕ) → Options → Option Options
with_options [] o = Some o
with_options (name ∷ []) o = None
with_options (name ∷ value ∷ rest) o = option_and_then (with_options rest) (with_option name value o)

-- the budget of steps that is meant where none is given
abbrev pub default_budget : ℕ
default_budget = 100000

-- a command that takes no option
abbrev pub alone : List (List ℕ) → Reader → Option Command
alone [] reader = Some (Read reader)
alone (word ∷ words) reader = None

-- `run` with these options; so far the number of workers is to be given
abbrev pub run_with : Options → Option Command
run_with o = option_map (λ n. Read (Run (unwrap_or o.steps default_budget))) o.workers

-- the command that the words ask for, or nothing where they are refused
abbrev pub asked : List (List ℕ) → Option Command
asked [] = None
asked (command ∷ words) =
    if bytes_eq command (codes "run") then option_and_then run_with (with_options words no_options)
    else if bytes_eq command (codes "check") then alone words Check
    else if bytes_eq command (codes "print") then alone words Print
    else None

-- the longest input that is read, in bytes
abbrev pub input_limit : ℕ
input_limit = 1048576

-- ---- answers

-- a run of the file that always steps the lowest branch, the end that it meets, and the report
pub record Reports (file : Source1) (budget : ℕ) (status : Status) (output : List ℕ) : Type 0 where
  pub order : List ℕ
  pub end : End
  pub last : State
  pub runs : run_of file budget order ≡ Some last
  pub ends : GoesLowest (bodies_in file) (start_of file budget) order end
  pub status_is : status ≡ status_of end
  pub output_is : output ≡ report_text (root_names file) end (cost_of budget last) 0 order

-- What a command takes as its input: the bytes spell the file, and but for `print` all of its forms are built and its names and sorts
-- are in order.
abbrev pub Takes : Reader → List ℕ → Source1 → Type 0
Takes Print input file = IsSpelled file input
Takes reader input file = IsSource input file

abbrev pub TakesNone : List ℕ → Reader → Type 0
TakesNone input reader = (file : Source1) → Takes reader input file → ⊥

-- the output is the line of the first refusal of the file by the rules
abbrev pub SaysRule : Source1 → List ℕ → Type 0
SaysRule file output = (refusal : RuleRefusal) × (first_rule_refusal file ≡ Some refusal) × (output ≡ rule_line refusal)

-- what a command answers to a file that it has read, by the status
abbrev pub Accepts : Reader → Source1 → Status → List ℕ → Type 0
Accepts Print file Done output = output ≡ layout file
Accepts Print file status output = ⊥
Accepts Check file Done output = IsAccepted file × (output ≡ codes "accepted\n")
Accepts Check file Rule output = SaysRule file output
Accepts Check file status output = ⊥
Accepts (Run budget) file Rule output = SaysRule file output
Accepts (Run budget) file status output = IsAccepted file × Reports file budget status output

-- the first fault of the input stands at this spot
abbrev pub IsFirstFault : List ℕ → TextFault → Spot → Type 0
IsFirstFault input f.Byte spot = FaultsInSplitting input split.bad_byte spot
IsFirstFault input f.LongName spot = FaultsInSplitting input split.long_name spot
IsFirstFault input f.BigNumber spot = FaultsInSplitting input split.big_number spot
IsFirstFault input f.Unexpected spot = (found : Option TokenKind) × FaultsInSpelling input fault.unexpected spot found
IsFirstFault input f.Deep spot = (found : Option TokenKind) × FaultsInSpelling input (fault.over token.deep) spot found
IsFirstFault input f.Many spot = (found : Option TokenKind) × FaultsInSpelling input (fault.over token.many) spot found
IsFirstFault input f.Version spot = (found : Option TokenKind) × FaultsInSpelling input (fault.over token.version) spot found

-- the output is the line of the first fault of the input
pub record SaysFault (input output : List ℕ) : Type 0 where
  pub fault : TextFault
  pub spot : Spot
  pub first : IsFirstFault input fault spot
  pub line : output ≡ fault_text fault spot

-- the input spells a file that no command but `print` takes yet: a form of it is not built
pub record SaysLater (input output : List ℕ) : Type 0 where
  pub file : Source1
  pub spelled : IsSpelled file input
  pub later : is_built file ≡ false
  pub line : output ≡ codes "text later\n"

-- the output is the line of the first refusal of the names and sorts of the file that the input spells, whose forms are built
pub record SaysRefusal (input output : List ℕ) : Type 0 where
  pub file : Source1
  pub spelled : IsSpelled file input
  pub built : is_built file ≡ true
  pub refusal : WalkRefusal
  pub first : first_refusal file ≡ Some refusal
  pub line : output ≡ walk_line refusal

abbrev pub RefusesText : Reader → List ℕ → List ℕ → Type 0
RefusesText Print input output = SaysFault input output
RefusesText reader input output = SaysFault input output ⊎ SaysLater input output

-- `print` takes names and sorts as they are
abbrev pub RefusesNames : Reader → List ℕ → List ℕ → Type 0
RefusesNames Print input output = ⊥
RefusesNames reader input output = SaysRefusal input output

-- What a command that reads a source answers to its input, by the status. Refusals come in this order: too long, the first
-- fault of the text, forms that are not built, names and sorts, a rule; then the run's end.
abbrev pub FileAnswers : Reader → List ℕ → Status → List ℕ → Type 0
FileAnswers reader input TooLong output = (input_limit < length input) × (output ≡ codes "too long\n")
FileAnswers reader input Text output = (length input ≤ input_limit) × RefusesText reader input output
FileAnswers reader input NamesOrSorts output = (length input ≤ input_limit) × RefusesNames reader input output
FileAnswers reader input status output = (file : Source1) × (length input ≤ input_limit) × Takes reader input file × Accepts reader file status output

-- the one answer to the words and the input
abbrev pub Answers : Option Command → List ℕ → Status → List ℕ → Type 0
Answers None input status output = (status ≡ Words) × (output ≡ codes "words\n")
Answers (Some (Read reader)) input status output = FileAnswers reader input status output

-- ---- calls

-- the input of a command that reads, where its source tells what it has left
abbrev pub HasInput : Option Command → Option (List ℕ) → List ℕ → Type 0
HasInput (Some (Read reader)) left input = left ≡ Some input
HasInput None left input = ⊤

-- What a call has done that ends with this status, where it had this input: it has appended the output that goes with
-- the status. Where a push failed it has appended the first bytes of the answer's output, and where a pull failed or
-- memory ran out nothing.
abbrev pub HasAnswered : Option Command → List ℕ → Option (List ℕ) → Option (List ℕ) → Status → Type 0
HasAnswered command input old new ReadFault = Keeps old new
HasAnswered command input old new Memory = Keeps old new
HasAnswered command input old new WriteFault =
    (status : Status) × (output : List ℕ) × (sent : ℕ) × Answers command input status output × Appends old new (take sent output)
HasAnswered command input old new status = (output : List ℕ) × Answers command input status output × Appends old new output

-- ---- causes

-- the input spells a file that a rule refuses
abbrev pub IsRefused : List ℕ → Type 0
IsRefused input = (file : Source1) × (refusal : RuleRefusal) × IsSource input file × (first_rule_refusal file ≡ Some refusal)

-- the input spells a file whose forms are built, and whose names and sorts are not in order
abbrev pub IsOutOfOrder : List ℕ → Type 0
IsOutOfOrder input = (file : Source1) × (refusal : WalkRefusal) × IsSpelled file input × (is_built file ≡ true) × (first_refusal file ≡ Some refusal)

-- the run of the file that the input spells ends so, for some branch
abbrev pub EndsSo : (ℕ → End) → ℕ → List ℕ → Type 0
EndsSo ends budget input = (file : Source1) × (order : List ℕ) × (branch : ℕ) × IsSource input file × GoesLowest (bodies_in file) (start_of file budget) order (ends branch)

-- the words ask for a run with some budget, and the run of the file that the input spells, where the source tells it, ends so
abbrev pub AsksRunTo : (ℕ → End) → Option Command → Option (List ℕ) → Type 0
AsksRunTo ends command left = (budget : ℕ) × (command ≡ Some (Read (Run budget))) × IfSome left (EndsSo ends budget)

-- whether a status is that of a run that has ended
abbrev pub ends_a_run : Status → Bool
ends_a_run Done = true
ends_a_run Spent = true
ends_a_run Big = true
ends_a_run status = false

-- ---- the headline

-- What was appended is the report of a run of the one file that the input spells, in the printed order and
-- within the budget; the run ends as the status says; the file is accepted and sound; and the order is the lowest-first one.
pub record RunHasEnded (input : List ℕ) (budget : ℕ) (old new : Option (List ℕ)) (status : Status) : Type 0 where
  pub file : Source1
  pub source : IsSource input file
  pub one_file : (other : Source1) → IsSpelled other input → other ≡ file
  pub accepted : IsAccepted file
  pub sound : IsSound file
  pub order : List ℕ
  pub last : State
  pub end : End
  pub runs : run_of file budget order ≡ Some last
  pub ends : Ends (bodies_in file) last end
  pub status_is : status ≡ status_of end
  pub text : Appends old new (report_text (root_names file) end (cost_of budget last) 0 order)
  pub lowest : GoesLowest (bodies_in file) (start_of file budget) order end
