-- What the rules refuse: the first construct at which a rule does not hold, and why.
use Rattle.std.specs.Prelude.{Bool, true, false, List, [], ◌∷◌, Option, Some, None}
use Rattle.tht_tree.specs.declared.plain.Spot.{Spot}
use Rattle.tht_tree.specs.declared.rule.RuleCode.{RuleCode}
use Rattle.tht_tree.specs.declared.rule.RuleRefusal.{RuleRefusal}

-- The table of codes.
--     R1    an atom that is not there
--     R2    an atom of another shape than wanted
--     R3    atoms are left
--     R4    a give that does not fit its goal
--     R5    a proof that does not fit its goal
--     R6    a certificate that does not refute
--     R7    a number that is too wide
--     R8    other normal forms than wanted
--     R9    the proof `todo`
--     R10   a formula, an assertion or a state that is too large
--     R11   a case whose bodies are not one program
--     R12   a lemma in a proof whose boxes are not one formula each
--     R13   an instance of a predicate that has no case for it

-- the construct at this place is refused, for this reason
abbrev pub refuse : Spot → RuleCode → Option RuleRefusal
refuse spot code = Some (record { spot = spot; code = code })

-- refused where there is a reason
abbrev pub refused_as : Spot → Option RuleCode → Option RuleRefusal
refused_as spot None = None
refused_as spot (Some code) = refuse spot code

-- refused where what is needed does not hold
abbrev pub needs : Spot → RuleCode → Bool → Option RuleRefusal
needs spot code true = None
needs spot code false = refuse spot code

-- refused where nothing is there, and else what is refused of what is there
abbrev pub needs_some : {A : Type 0} → Spot → RuleCode → Option A → (A → Option RuleRefusal) → Option RuleRefusal
needs_some spot code None go = refuse spot code
needs_some spot code (Some x) go = go x

-- the same of two things
abbrev pub needs_two : {A B : Type 0} → Spot → RuleCode → Option (A × B) → (A → B → Option RuleRefusal) → Option RuleRefusal
needs_two spot code x go = needs_some spot code x (λ p. go p.0 p.1)

-- what is refused in what stands first, or else behind it
infixr 60 ◌▸◌
abbrev pub ◌▸◌ : Option RuleRefusal → Option RuleRefusal → Option RuleRefusal
Some r ▸ behind = Some r
None ▸ behind = behind

-- the same of many, one after another
abbrev pub in_order : List (Option RuleRefusal) → Option RuleRefusal
in_order [] = None
in_order (r ∷ rs) = r ▸ in_order rs
