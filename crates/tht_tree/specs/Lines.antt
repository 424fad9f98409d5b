-- The lines that say what is refused: `names L:C CODE`, `sorts L:C CODE` and `rule L:C CODE`.
use Rattle.std.specs.Prelude.{ℕ, List, ◌++◌, codes}
use Rattle.std.specs.Fmt.{decimal}
use Rattle.tht_tree.specs.declared.plain.Spot.{Spot}
use Rattle.tht_tree.specs.declared.walk.WalkCode.{WalkCode}
use Rattle.tht_tree.specs.declared.walk.WalkCode.TheVariants.{N1, N2, N3, N4, N5, N6, N7, S1, S2, S3, S4, S5}
use Rattle.tht_tree.specs.declared.walk.WalkRefusal.{WalkRefusal}
use Rattle.tht_tree.specs.declared.rule.RuleCode.{RuleCode}
use Rattle.tht_tree.specs.declared.rule.RuleCode.TheVariants.{R1, R2, R3, R4, R5, R6, R7, R8, R9, R10, R11, R12, R13}
use Rattle.tht_tree.specs.declared.rule.RuleRefusal.{RuleRefusal}

-- the first word of the line of a code of names or sorts
abbrev pub walk_word : WalkCode → List ℕ
walk_word N1 = codes "names"
walk_word N2 = codes "names"
walk_word N3 = codes "names"
walk_word N4 = codes "names"
walk_word N5 = codes "names"
walk_word N6 = codes "names"
walk_word N7 = codes "names"
walk_word _ = codes "sorts"

abbrev pub walk_code_text : WalkCode → List ℕ
walk_code_text N1 = codes "N1"
walk_code_text N2 = codes "N2"
walk_code_text N3 = codes "N3"
walk_code_text N4 = codes "N4"
walk_code_text N5 = codes "N5"
walk_code_text N6 = codes "N6"
walk_code_text N7 = codes "N7"
walk_code_text S1 = codes "S1"
walk_code_text S2 = codes "S2"
walk_code_text S3 = codes "S3"
walk_code_text S4 = codes "S4"
walk_code_text S5 = codes "S5"

abbrev pub rule_code_text : RuleCode → List ℕ
rule_code_text R1 = codes "R1"
rule_code_text R2 = codes "R2"
rule_code_text R3 = codes "R3"
rule_code_text R4 = codes "R4"
rule_code_text R5 = codes "R5"
rule_code_text R6 = codes "R6"
rule_code_text R7 = codes "R7"
rule_code_text R8 = codes "R8"
rule_code_text R9 = codes "R9"
rule_code_text R10 = codes "R10"
rule_code_text R11 = codes "R11"
rule_code_text R12 = codes "R12"
rule_code_text R13 = codes "R13"

-- a word, a place in the source and a code
abbrev pub refusal_line : List ℕ → Spot → List ℕ → List ℕ
refusal_line word spot code = word ++ (codes " " ++ (decimal spot.line ++ (codes ":" ++ (decimal spot.column ++ (codes " " ++ (code ++ codes "\n"))))))

abbrev pub walk_line : WalkRefusal → List ℕ
walk_line r = refusal_line (walk_word r.code) r.spot (walk_code_text r.code)

abbrev pub rule_line : RuleRefusal → List ℕ
rule_line r = refusal_line (codes "rule") r.spot (rule_code_text r.code)
