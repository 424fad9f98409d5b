-- An atom with another part, which is there and makes it not too large.
use Rattle.std.proofs.Common.{◌≡◌, true, Option, Some, None, Ok, refl, sym, ◌∙◌, ap}
use Rattle.std.specs.Borrow.{Bor}
use Rattle.std.specs.Option.{option_copied, option_map, is_some}
use Rattle.tht_tree.specs.declared.plain.Spot.{Spot}
use Rattle.tht_tree.specs.declared.term.Term.{Term}
use Rattle.tht_tree.specs.declared.assn.Assn.{Assn}
use Rattle.tht_tree.specs.declared.rule.RuleCode.TheVariants.{R2, R10}
use Rattle.tht_tree.specs.Rules.Sizes.{assn_fits}
use Rattle.tht_logic.specs.Rules.Checking.{Checked, on_some, on_true}
use Rattle.tht_logic.specs.Rules.Parts.{Part}

abbrev put_in : Spot → Term → Option Part → Checked Assn
put_in spot u o = on_some spot R2 o (λ part. on_true spot R10 (assn_fits (part.with u)) (Ok (part.with u)))

at_part : (spot : Spot) (u : Term) (part : Part) (made : Assn) → made ≡ part.with u → true ≡ assn_fits made → put_in spot u (Some part) ≡ Ok made
at_part spot u part made is fits = ap (λ b. on_true spot R10 b (Ok (part.with u))) (sym (ap assn_fits is) ∙ sym fits) ∙ ap Ok (sym is)

pub made_with : (spot : Spot) (u : Term) (o : Option Part) (found : Option (Bor Term)) (made : Assn) → option_copied found ≡ option_map (λ part. part.term) o → is_some found ≡ true
    → ((part : Part) → o ≡ Some part → made ≡ part.with u) → true ≡ assn_fits made → put_in spot u o ≡ Ok made
made_with spot u (Some part) found made e f is fits = at_part spot u part made (is part refl) fits
made_with spot u None (Some t) made e f is fits = cc
made_with spot u None None made e f is fits = cc
