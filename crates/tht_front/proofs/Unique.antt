-- Words and input have one answer.
use Rattle.std.proofs.Common.{◌≡◌, ◌⊎◌, inl, inr, ℕ, ◌<◌, ◌≤◌, length, List, codes, Option, None, Some, refl, sym, ◌∙◌, ap, subst, arith}
use Rattle.tht_tree.specs.declared.file.Source1.{Source1}
use Rattle.tht_tree.specs.declared.status.Status.{Status}
use Rattle.tht_tree.specs.declared.status.Status.TheVariants.{Done, TooLong, Text, NamesOrSorts, Rule}
use Rattle.tht_tree.specs.declared.command.Command.{Command}
use Rattle.tht_tree.specs.declared.command.Command.TheVariants.{Read}
use Rattle.tht_tree.specs.declared.command.Reader.{Reader}
use Rattle.tht_tree.specs.declared.command.Reader.TheVariants.{Check, Run, Print}
use Rattle.tht_tree.specs.declared.plain.Spot.{Spot}
use Rattle.tht_tree.specs.declared.token.TokenKind.{TokenKind}
use Rattle.tht_tree.specs.Tokens as token
use Rattle.tht_tree.specs.Splitting as split
use Rattle.tht_tree.specs.Faults as fault
use Rattle.tht_tree.specs.declared.text_fault.TextFault.{TextFault}
use Rattle.tht_tree.specs.declared.text_fault.TextFault.TheVariants as f
use Rattle.tht_tree.specs.Spelling.{IsSpelled, FaultsInSplitting, FaultsInSpelling}
use Rattle.tht_tree.specs.Layout.{layout}
use Rattle.tht_grammar.proofs.TextFaults.{one_split_fault, one_spelling_fault, not_both}
use Rattle.tht_front.specs.Refusals.{lex_fault, text_fault}
use Rattle.tht_front.proofs.Answering.{spelled_in, none_at_fault, none_refused, none_out_of_order}
use Rattle.tht_logic.specs.Procedures.{bodies_in}
use Rattle.tht_logic.specs.Runs.{start_of}
use Rattle.tht_logic.specs.CommandLine.{status_of, input_limit, Reports, Takes, Accepts, IsFirstFault, SaysFault, SaysLater, SaysRefusal, SaysRule, RefusesText, RefusesNames, FileAnswers, Answers}
use Rattle.tht_tree.specs.declared.walk.WalkRefusal.{WalkRefusal}
use Rattle.tht_tree.specs.declared.rule.RuleRefusal.{RuleRefusal}
use Rattle.tht_logic.specs.Built.{is_built}
use Rattle.tht_tree.specs.Walk.Files.{first_refusal}
use Rattle.tht_tree.specs.Lines.{walk_line, rule_line}
use Rattle.tht_logic.specs.Rules.Files.{IsAccepted}
use Rattle.tht_front.proofs.Lowest.{one_run, some_same}

-- ---- a file has one report

one_report : (file : Source1) (budget : ℕ) (s t : Status) (o p : List ℕ) → Reports file budget s o → Reports file budget t p → (s ≡ t) × (o ≡ p)
one_report file budget s t o p a b =
    let same = one_run (bodies_in file) a.order b.order (start_of file budget) a.end b.end a.ends b.ends in
    let orders : a.order ≡ b.order = same.0 in
    let ends : a.end ≡ b.end = same.1 in
    let runs : Some a.last ≡ Some b.last = sym a.runs ∙ rw orders b.runs in
    let last : a.last ≡ b.last = some_same a.last b.last runs in
    (a.status_is ∙ ap status_of ends ∙ sym b.status_is, a.output_is ∙ rw (ends, last, orders) (sym b.output_is))

-- the answer of a command that checks: a refusal by a rule, or what it says of an accepted file
abbrev Said : Source1 → (Status → List ℕ → Type 0) → Status → List ℕ → Type 0
Said file P s o = ((s ≡ Rule) × SaysRule file o) ⊎ (IsAccepted file × P s o)

-- the answer of `run`: its report
said : (file : Source1) (budget : ℕ) (s : Status) (o : List ℕ) → Accepts (Run budget) file s o → Said file (Reports file budget) s o
said file budget Rule o a = inl (refl, a)
said file budget s o a = inr a

-- the answer of `check`: that it is accepted
abbrev SaysAccepted : Status → List ℕ → Type 0
SaysAccepted s o = (s ≡ Done) × (o ≡ codes "accepted\n")

checked : (file : Source1) (s : Status) (o : List ℕ) → Accepts Check file s o → Said file SaysAccepted s o
checked file Rule o a = inl (refl, a)
checked file Done o a = inr (a.0, (refl, a.1))
checked file s o a = absurd a

one_accepted_line : (s t : Status) (o p : List ℕ) → SaysAccepted s o → SaysAccepted t p → (s ≡ t) × (o ≡ p)
one_accepted_line s t o p a b = (a.0 ∙ sym b.0, a.1 ∙ sym b.1)

-- the answer of `print`: the layout
printed : (file : Source1) (s : Status) (o : List ℕ) → Accepts Print file s o → (s ≡ Done) × (o ≡ layout file)
printed file Done o a = (refl, a)
printed file s o a = absurd a

one_rule : (r q : RuleRefusal) → Some r ≡ Some q → r ≡ q
one_rule r q e = cc

module _ (file : Source1) (P : Status → List ℕ → Type 0) (one : (s t : Status) (o p : List ℕ) → P s o → P t p → (s ≡ t) × (o ≡ p)) where
  one_said : (s t : Status) (o p : List ℕ) → Said file P s o → Said file P t p → (s ≡ t) × (o ≡ p)
  one_said s t o p (inl a) (inl b) = (a.0 ∙ sym b.0, a.1.2 ∙ ap rule_line (one_rule a.1.0 b.1.0 (sym a.1.1 ∙ b.1.1)) ∙ sym b.1.2)
  one_said s t o p (inl a) (inr b) = let x = a.1.1 in let y = b.0.rules in cc
  one_said s t o p (inr a) (inl b) = let x = a.0.rules in let y = b.1.1 in cc
  one_said s t o p (inr a) (inr b) = one s t o p a.1 b.1

one_accepted : (reader : Reader) (file : Source1) (s t : Status) (o p : List ℕ) → Accepts reader file s o → Accepts reader file t p → (s ≡ t) × (o ≡ p)
one_accepted Check file s t o p a b = one_said file SaysAccepted one_accepted_line s t o p (checked file s o a) (checked file t p b)
one_accepted (Run budget) file s t o p a b = one_said file (Reports file budget) (one_report file budget) s t o p (said file budget s o a) (said file budget t p b)
one_accepted Print file s t o p a b = let x = printed file s o a in let y = printed file t p b in (x.0 ∙ sym y.0, x.1 ∙ sym y.1)

-- ---- an input has one first fault

-- a fault of splitting, or one of spelling
abbrev Faulty : List ℕ → TextFault → Spot → Type 0
Faulty input f spot = ((g : split.LexFault) × FaultsInSplitting input g spot × (f ≡ lex_fault g))
    ⊎ ((g : fault.Fault) × (found : Option TokenKind) × FaultsInSpelling input g spot found × (f ≡ text_fault g))

faulty : (input : List ℕ) (f : TextFault) (spot : Spot) → IsFirstFault input f spot → Faulty input f spot
faulty input f.Byte spot h = inl (split.bad_byte, h, refl)
faulty input f.LongName spot h = inl (split.long_name, h, refl)
faulty input f.BigNumber spot h = inl (split.big_number, h, refl)
faulty input f.Unexpected spot h = inr (fault.unexpected, h.0, h.1, refl)
faulty input f.Deep spot h = inr (fault.over token.deep, h.0, h.1, refl)
faulty input f.Many spot h = inr (fault.over token.many, h.0, h.1, refl)
faulty input f.Version spot h = inr (fault.over token.version, h.0, h.1, refl)

one_first : (input : List ℕ) (f g : TextFault) (p q : Spot) → Faulty input f p → Faulty input g q → (f ≡ g) × (p ≡ q)
one_first input f g p q (inl a) (inl b) = let same = one_split_fault input a.0 b.0 p q a.1 b.1 in (a.2 ∙ ap lex_fault same.0 ∙ sym b.2, same.1)
one_first input f g p q (inl a) (inr b) = absurd (not_both input a.0 b.0 p q b.1 a.1 b.2)
one_first input f g p q (inr a) (inl b) = absurd (not_both input b.0 a.0 q p a.1 b.1 a.2)
one_first input f g p q (inr a) (inr b) = let same = one_spelling_fault input a.0 b.0 p q a.1 b.1 a.2 b.2 in (a.3 ∙ ap text_fault same.0 ∙ sym b.3, same.1)

one_line : (input o p : List ℕ) → SaysFault input o → SaysFault input p → o ≡ p
one_line input o p a b =
    let same = one_first input a.fault b.fault a.spot b.spot (faulty input a.fault a.spot a.first) (faulty input b.fault b.spot b.first) in
    a.line ∙ rw (same.0, same.1) (sym b.line)

-- a fault, or a form that is not built
one_text : (input o p : List ℕ) → SaysFault input o ⊎ SaysLater input o → SaysFault input p ⊎ SaysLater input p → o ≡ p
one_text input o p (inl a) (inl b) = one_line input o p a b
one_text input o p (inl a) (inr b) = absurd (none_at_fault input o a Print b.file b.spelled)
one_text input o p (inr a) (inl b) = absurd (none_at_fault input p b Print a.file a.spelled)
one_text input o p (inr a) (inr b) = a.line ∙ sym b.line

one_refusal : (reader : Reader) (input o p : List ℕ) → RefusesText reader input o → RefusesText reader input p → o ≡ p
one_refusal Check input o p a b = one_text input o p a b
one_refusal (Run budget) input o p a b = one_text input o p a b
one_refusal Print input o p a b = one_line input o p a b

-- ---- an input has one answer

abbrev Read_so : Reader → List ℕ → Status → List ℕ → Type 0
Read_so reader input s o = (file : Source1) × (length input ≤ input_limit) × Takes reader input file × Accepts reader file s o

abbrev Answered : Reader → List ℕ → Status → List ℕ → Type 0
Answered reader input s o =
    ((s ≡ TooLong) × (input_limit < length input) × (o ≡ codes "too long\n"))
    ⊎ (((s ≡ Text) × (length input ≤ input_limit) × RefusesText reader input o)
    ⊎ (((s ≡ NamesOrSorts) × (length input ≤ input_limit) × RefusesNames reader input o)
    ⊎ Read_so reader input s o))

answered : (reader : Reader) (input : List ℕ) (s : Status) (o : List ℕ) → FileAnswers reader input s o → Answered reader input s o
answered reader input TooLong o a = inl (refl, a.0, a.1)
answered reader input Text o a = inr (inl (refl, a.0, a.1))
answered reader input NamesOrSorts o a = inr (inr (inl (refl, a.0, a.1)))
answered reader input s o a = inr (inr (inr a))

too_long : (n m : ℕ) → n < m → m ≤ n → ⊥
too_long n m l g = absurd (omega arith)

module _ (one_file : (a b : Source1) (bytes : List ℕ) → IsSpelled a bytes → IsSpelled b bytes → a ≡ b) where
  one_read : (reader : Reader) (input : List ℕ) (s t : Status) (o p : List ℕ) → Read_so reader input s o → Read_so reader input t p → (s ≡ t) × (o ≡ p)
  one_read reader input s t o p a b =
      let same : a.0 ≡ b.0 = one_file a.0 b.0 input (spelled_in reader input a.0 a.2) (spelled_in reader input b.0 b.2) in
      let P : Source1 → Type 0 = λ f. Accepts reader f s o in
      one_accepted reader b.0 s t o p (subst P same a.3) b.3

  -- what a command refuses as a text is none that it takes
  apart : (reader : Reader) (input : List ℕ) (s : Status) (o p : List ℕ) → RefusesText reader input o → Read_so reader input s p → ⊥
  apart reader input s o p a b = none_refused one_file reader input o a b.0 b.2

  -- nor one whose names and sorts are not in order
  apart_names : (reader : Reader) (input : List ℕ) (s : Status) (o p : List ℕ) → RefusesNames reader input o → Read_so reader input s p → ⊥
  apart_names reader input s o p a b = none_out_of_order one_file reader input o a b.0 b.2

  one_walk : (r q : WalkRefusal) → Some r ≡ Some q → r ≡ q
  one_walk r q e = cc

  one_walk_line : (input o p : List ℕ) → SaysRefusal input o → SaysRefusal input p → o ≡ p
  one_walk_line input o p a b =
      let same : a.file ≡ b.file = one_file a.file b.file input a.spelled b.spelled in
      a.line ∙ ap walk_line (one_walk a.refusal b.refusal (sym a.first ∙ ap first_refusal same ∙ b.first)) ∙ sym b.line

  one_names : (reader : Reader) (input o p : List ℕ) → RefusesNames reader input o → RefusesNames reader input p → o ≡ p
  one_names Check input o p a b = one_walk_line input o p a b
  one_names (Run budget) input o p a b = one_walk_line input o p a b
  one_names Print input o p a b = absurd a

  -- what is refused as a text has no names to refuse
  apart_line : (input o p : List ℕ) → SaysFault input o ⊎ SaysLater input o → SaysRefusal input p → ⊥
  apart_line input o p (inl a) b = none_at_fault input o a Print b.file b.spelled
  apart_line input o p (inr a) b = let same = one_file a.file b.file input a.spelled b.spelled in let later = a.later in let now = b.built in cc (ap is_built same)

  apart_text : (reader : Reader) (input o p : List ℕ) → RefusesText reader input o → RefusesNames reader input p → ⊥
  apart_text Check input o p a b = apart_line input o p a b
  apart_text (Run budget) input o p a b = apart_line input o p a b
  apart_text Print input o p a b = absurd b

  one_answered : (reader : Reader) (input : List ℕ) (s t : Status) (o p : List ℕ) → Answered reader input s o → Answered reader input t p → (s ≡ t) × (o ≡ p)
  one_answered reader input s t o p (inl a) (inl b) = (a.0 ∙ sym b.0, a.2 ∙ sym b.2)
  one_answered reader input s t o p (inl a) (inr (inl b)) = absurd (too_long input_limit (length input) a.1 b.1)
  one_answered reader input s t o p (inl a) (inr (inr (inl b))) = absurd (too_long input_limit (length input) a.1 b.1)
  one_answered reader input s t o p (inl a) (inr (inr (inr b))) = absurd (too_long input_limit (length input) a.1 b.1)
  one_answered reader input s t o p (inr (inl a)) (inl b) = absurd (too_long input_limit (length input) b.1 a.1)
  one_answered reader input s t o p (inr (inl a)) (inr (inl b)) = (a.0 ∙ sym b.0, one_refusal reader input o p a.2 b.2)
  one_answered reader input s t o p (inr (inl a)) (inr (inr (inl b))) = absurd (apart_text reader input o p a.2 b.2)
  one_answered reader input s t o p (inr (inl a)) (inr (inr (inr b))) = absurd (apart reader input t o p a.2 b)
  one_answered reader input s t o p (inr (inr (inl a))) (inl b) = absurd (too_long input_limit (length input) b.1 a.1)
  one_answered reader input s t o p (inr (inr (inl a))) (inr (inl b)) = absurd (apart_text reader input p o b.2 a.2)
  one_answered reader input s t o p (inr (inr (inl a))) (inr (inr (inl b))) = (a.0 ∙ sym b.0, one_names reader input o p a.2 b.2)
  one_answered reader input s t o p (inr (inr (inl a))) (inr (inr (inr b))) = absurd (apart_names reader input t o p a.2 b)
  one_answered reader input s t o p (inr (inr (inr a))) (inl b) = absurd (too_long input_limit (length input) b.1 a.1)
  one_answered reader input s t o p (inr (inr (inr a))) (inr (inl b)) = absurd (apart reader input s p o b.2 a)
  one_answered reader input s t o p (inr (inr (inr a))) (inr (inr (inl b))) = absurd (apart_names reader input s p o b.2 a)
  one_answered reader input s t o p (inr (inr (inr a))) (inr (inr (inr b))) = one_read reader input s t o p a b

  -- Words and input have one status and one output.
  pub one_answer : (command : Option Command) (input : List ℕ) (s t : Status) (o p : List ℕ) → Answers command input s o → Answers command input t p → (s ≡ t) × (o ≡ p)
  one_answer None input s t o p a b = (a.0 ∙ sym b.0, a.1 ∙ sym b.1)
  one_answer (Some (Read reader)) input s t o p a b = one_answered reader input s t o p (answered reader input s o a) (answered reader input t p b)
