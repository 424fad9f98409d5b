-- A formula with a term put in for a name, by whether it fits.
use Rattle.std.proofs.Common.{◌≡◌, Bool, true, false, cond, Ok, Err, refl, sym, ◌∙◌, ap}
use Rattle.tht_tree.specs.declared.form.PutEnd.TheVariants.{Large}
use Rattle.tht_tree.specs.declared.term.Term.{Term}
use Rattle.tht_tree.specs.Normal.Putting.{Puts, put_in, put_within}
use Rattle.tht_tree.specs.Rules.Sizes.{formula_fits}

pub put_made : (by : Puts) (t made : Term) → put_within by t ≡ Ok made → (made ≡ put_in by t) × (formula_fits (put_in by t) ≡ true)
put_made by t made e = pick (formula_fits (put_in by t)) refl
  where
    pick : (b : Bool) → formula_fits (put_in by t) ≡ b → (made ≡ put_in by t) × (formula_fits (put_in by t) ≡ true)
    pick true f = let g = sym (ap (λ b. cond b (Ok (put_in by t)) (Err Large)) f) ∙ e in (cc, f)
    pick false f = let g = sym (ap (λ b. cond b (Ok (put_in by t)) (Err Large)) f) ∙ e in cc

pub put_large : (by : Puts) (t : Term) → put_within by t ≡ Err Large → formula_fits (put_in by t) ≡ false
put_large by t e = pick (formula_fits (put_in by t)) refl
  where
    pick : (b : Bool) → formula_fits (put_in by t) ≡ b → formula_fits (put_in by t) ≡ false
    pick true f = let g = sym (ap (λ b. cond b (Ok (put_in by t)) (Err Large)) f) ∙ e in cc
    pick false f = f
