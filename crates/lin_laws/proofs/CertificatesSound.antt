-- A linear certificate in which nothing is refused is sound: what is denied and the facts are not all true.
use Rattle.std.proofs.Common.{◌≡◌, ℕ, pos, ◌≤ℤ◌, List, [], ◌∷◌, map, Option, Some, None, Result, Ok, Err, refl, subst, arith}
use Rattle.std.proofs.lemmas.Int.{ints}
use Rattle.tht_tree.specs.Values.{Env}
use Rattle.tht_tree.specs.Syntax.{Names}
use Rattle.tht_tree.specs.Rules.Context.{Scope}
use Rattle.tht_tree.specs.declared.form.NormalEnd.{NormalEnd}
use Rattle.tht_tree.specs.declared.form.Comparison.{Comparison}
use Rattle.tht_tree.specs.Normal.Linear.{Inequality, Reading, reading}
use Rattle.normal_laws.proofs.FormValues.{n_of}
use Rattle.normal_laws.proofs.NormalValues.{Fits}
use Rattle.tht_tree.specs.Rules.Inequalities.{Row}
use Rattle.tht_tree.specs.Rules.Certificates.{Fact, with_row, fact_rows, denied, refused_if_read, refused_certificate}
use Rattle.proof_laws.proofs.LinNeeds.{HasSides, Says, OfDenied, OfFacts, no_code, CertificatesAreSound}
use Rattle.lin_laws.proofs.Columns.{Each, Ascending, products, AllAscend}
use Rattle.lin_laws.proofs.Weights.{AllBy}
use Rattle.lin_laws.proofs.RowsSound.{rows_sound}
use Rattle.lin_laws.proofs.TakeAway.{whole}
use Rattle.lin_laws.proofs.Readings.{a_reading, reading_ascends, of_env, reading_says}

-- ---- what is read

abbrev Rows : Type 0
Rows = Result (List Row) NormalEnd

-- rows that are read, the first of a reading
record Begun (k : ℕ) (first : Reading) (rest : Rows) (rows : List Row) : Type 0 where
  form : Inequality
  others : List Row
  form_is : first ≡ a_reading form
  others_are : rest ≡ Ok others
  rows_are : record { by = k; form = form } ∷ others ≡ rows

begun : (k : ℕ) (first : Reading) (rest : Rows) (rows : List Row) → with_row k first rest ≡ Ok rows → Begun k first rest rows
begun k (Ok x) (Ok others) rows e = record { form = x; others = others; form_is = refl; others_are = refl; rows_are = cc }
begun k (Ok x) (Err d) rows e = cc
begun k (Err d) rest rows e = cc

module _ (roots : Names) (scope : Scope) (env : Env) (fits : Fits roots scope env) where
  -- the inequality is true in the environment
  abbrev Holds : Inequality → Type 0
  Holds x = of_env roots scope env fits x ≤ℤ pos 0

  -- the inequality of a row ascends and is true
  abbrev IsGood : Inequality → Type 0
  IsGood x = Ascending (products x) × Holds x

  abbrev AllGood : List Row → Type 0
  AllGood = Each (λ r. IsGood r.form)

  good : (c : Comparison) → HasSides roots scope c → Says roots env c → (x : Inequality) → reading scope c ≡ a_reading x → IsGood x
  good c h s x e = (reading_ascends scope c x e, (reading_says roots scope env fits c h x e).1 s)

  good_row : (k : ℕ) (first : Reading) (rest : Rows) (rows : List Row) → Begun k first rest rows → ((x : Inequality) → first ≡ a_reading x → IsGood x) →
      ((others : List Row) → rest ≡ Ok others → AllGood others) → AllGood rows
  good_row k first rest rows b h g = subst AllGood b.rows_are (h b.form b.form_is, g b.others b.others_are)

  good_facts : (facts : List Fact) → OfFacts (HasSides roots scope) facts → OfFacts (Says roots env) facts → (rows : List Row) → fact_rows scope facts ≡ Ok rows → AllGood rows
  good_facts [] h s rows e = let same : [] ≡ rows = cc in subst AllGood same tt
  good_facts (f ∷ fs) h s rows e =
      good_row f.by (reading scope f.comparison) (fact_rows scope fs) rows (begun f.by (reading scope f.comparison) (fact_rows scope fs) rows e)
      (good f.comparison h.0 s.0) (good_facts fs h.1 s.1)

  good_denied : (c : Option Comparison) → OfDenied (HasSides roots scope) c → OfDenied (Says roots env) c → (x : Inequality) → denied scope c ≡ a_reading x → IsGood x
  good_denied None h s x e = let same : [] ≡ x = cc in subst IsGood same (tt, omega (arith, ints))
  good_denied (Some c) h s x e = good c h s x e

  ascend_of : (rows : List Row) → AllGood rows → AllAscend (map (λ r. r.form) rows)
  ascend_of [] g = tt
  ascend_of (r ∷ rows) g = (g.0.0, ascend_of rows g.1)

  hold_by : (rows : List Row) → AllGood rows → AllBy Holds rows
  hold_by [] g = tt
  hold_by (r ∷ rows) g = ((λ h. g.0.1), hold_by rows g.1)

  refused_by : (rows : Rows) → ((others : List Row) → rows ≡ Ok others → AllGood others) → refused_if_read rows ≡ no_code → ⊥
  refused_by (Ok rows) h e = let g = h rows refl in rows_sound (whole (n_of roots env)) refl rows (ascend_of rows g) e (hold_by rows g)
  refused_by (Err d) h e = cc

  -- where the readings are true, they are not all of a certificate in which nothing is refused
  sound_for : (k : ℕ) (c : Option Comparison) (facts : List Fact) → OfDenied (HasSides roots scope) c → OfFacts (HasSides roots scope) facts → refused_certificate scope k c facts ≡ no_code →
      OfDenied (Says roots env) c → OfFacts (Says roots env) facts → ⊥
  sound_for k c facts hc hf e sc sf =
      refused_by (with_row k (denied scope c) (fact_rows scope facts))
      (λ rows r. good_row k (denied scope c) (fact_rows scope facts) rows (begun k (denied scope c) (fact_rows scope facts) rows r) (good_denied c hc sc) (good_facts facts hf sf)) e

-- The law: a certificate in which nothing is refused is sound.
pub certificates_sound : CertificatesAreSound
certificates_sound roots scope env fits k c facts hc hf e sc sf = sound_for roots scope env fits k c facts hc hf e sc sf
