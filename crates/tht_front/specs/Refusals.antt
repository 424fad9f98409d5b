-- What is answered to an input that is refused as a text, and to a file that is read.
use Rattle.std.specs.Prelude.{◌≡◌, ℕ, List, codes, Option, None, Some, true, false, IsTrue}
use Rattle.tht_tree.specs.declared.plain.Spot.{Spot}
use Rattle.tht_tree.specs.declared.file.Source1.{Source1}
use Rattle.tht_tree.specs.declared.status.Status.{Status}
use Rattle.tht_tree.specs.declared.status.Status.TheVariants.{Done, Text, NamesOrSorts}
use Rattle.tht_tree.specs.declared.command.Reader.{Reader}
use Rattle.tht_tree.specs.declared.command.Reader.TheVariants.{Print}
use Rattle.tht_tree.specs.declared.text_fault.TextFault.{TextFault}
use Rattle.tht_tree.specs.declared.text_fault.TextFault.TheVariants as f
use Rattle.tht_tree.specs.Tokens as token
use Rattle.tht_tree.specs.Splitting as split
use Rattle.tht_tree.specs.Faults as fault
use Rattle.tht_tree.specs.Texts.{fault_text}
use Rattle.tht_tree.specs.Layout.{layout}
use Rattle.tht_tree.specs.declared.walk.WalkRefusal.{WalkRefusal}
use Rattle.tht_logic.specs.Built.{is_built}
use Rattle.tht_tree.specs.Walk.Files.{first_refusal, WellSorted}
use Rattle.tht_tree.specs.Lines.{walk_line}
use Rattle.tht_logic.specs.CommandLine.{Accepts}
use Rattle.tht_parse.specs.declared.end.ParseEnd.{ParseEnd}
use Rattle.tht_parse.specs.declared.end.ParseEnd.TheVariants as end
use Rattle.tht_front.specs.Decided.{is_past_text}

-- the faults of a text by those of its tokens and of its grammar
abbrev pub lex_fault : split.LexFault → TextFault
lex_fault split.bad_byte = f.Byte
lex_fault split.long_name = f.LongName
lex_fault split.big_number = f.BigNumber

abbrev pub text_fault : fault.Fault → TextFault
text_fault fault.unexpected = f.Unexpected
text_fault (fault.over token.deep) = f.Deep
text_fault (fault.over token.many) = f.Many
text_fault (fault.over token.version) = f.Version

-- the fault that an end of parsing tells, and its spot
abbrev pub fault_in : ParseEnd → Option (TextFault × Spot)
fault_in (end.BadByte spot) = Some (f.Byte, spot)
fault_in (end.LongName spot) = Some (f.LongName, spot)
fault_in (end.BigNumber spot) = Some (f.BigNumber, spot)
fault_in (end.Unexpected spot found) = Some (f.Unexpected, spot)
fault_in (end.Deep spot) = Some (f.Deep, spot)
fault_in (end.Many spot) = Some (f.Many, spot)
fault_in (end.Version spot) = Some (f.Version, spot)
fault_in end.Memory = None

-- the line of a fault
abbrev pub IsLineAt : Option (TextFault × Spot) → List ℕ → Type 0
IsLineAt None output = ⊥
IsLineAt (Some (fault, spot)) output = output ≡ fault_text fault spot

abbrev pub IsLineOf : ParseEnd → List ℕ → Type 0
IsLineOf e output = IsLineAt (fault_in e) output

-- what a command that checks answers to a file: that it is not built yet, that its names or sorts are not in order, or as it does to a file that
-- it takes
abbrev pub Judges : Reader → Source1 → Status → List ℕ → Type 0
Judges reader file Text output = (is_built file ≡ false) × (output ≡ codes "text later\n")
Judges reader file NamesOrSorts output = (refusal : WalkRefusal) × (is_built file ≡ true) × (first_refusal file ≡ Some refusal) × (output ≡ walk_line refusal)
Judges reader file status output = (is_built file ≡ true) × WellSorted file × IsTrue (is_past_text status) × Accepts reader file status output

-- what a command answers to a file that the input spells
abbrev pub AnswersTo : Reader → Source1 → Status → List ℕ → Type 0
AnswersTo Print file status output = (status ≡ Done) × (output ≡ layout file)
AnswersTo reader file status output = Judges reader file status output
