-- What the readers of a version, of main and of a file read.
use Rattle.std.proofs.Common.{◌≡◌, ℕ, ◌==◌, not, refl, arith, Bool, true, false, inl, inr, List, [], ◌∷◌, Option, Some}
use Rattle.std.proofs.lemmas.Bool.Decides.{nat_tests}
use Rattle.tht_tree.specs.declared.token.TokenKind.{TokenKind}
use Rattle.tht_tree.specs.declared.token.TokenKind.TheVariants as k
use Rattle.tht_tree.specs.Tokens.{version, counts_at, Info, Tok, tok, first_kind}
use Rattle.tht_tree.specs.Productions.{Rel}
use Rattle.tht_tree.specs.Grammar as g
use Rattle.tht_tree.specs.Grammar.{Nested, Tree, a_body}
use Rattle.tht_tree.specs.Faults.{over}
use Rattle.tht_grammar.specs.Steps.{Reader, same_kind, rest, first_value}
use Rattle.tht_grammar.specs.Words.{begins_decl}
use Rattle.tht_grammar.specs.Reading as r
use Rattle.tht_grammar.proofs.Beginnings.{BeginsWith, word_begins, part_begins, spotted_begins}
use Rattle.tht_grammar.proofs.Exact.{Sound, Sample, blank, Reaches, Exact, anywhere, exact_part, sound_refuse, sound_exceed}
use Rattle.tht_grammar.proofs.Sequences.{sound_one, exact_word, exact_then, exact_map}
use Rattle.tht_grammar.proofs.Choices.{exact_spotted}
use Rattle.tht_grammar.proofs.Chains.{not_true}
use Rattle.tht_grammar.proofs.Constructs.{Constructs}
use Rattle.tht_grammar.proofs.Assns.{box_exact}
use Rattle.tht_grammar.proofs.Forms.{exact_param}
use Rattle.tht_grammar.proofs.Roots.{decls_exact}

abbrev is_main : Option TokenKind → Bool
is_main (Some k.Main) = true
is_main _ = false

main_stops : (o : Option TokenKind) → is_main o ≡ true → not (begins_decl o) ≡ true
main_stops (Some k.Main) h = refl
main_stops _ h = cc

one_is : (n : ℕ) → (n == 1) ≡ true → n ≡ 1
one_is n h = grind (arith, nat_tests)

one_not : (n : ℕ) → (n == 1) ≡ false → n ≡ 1 → ⊥
one_not n h e = grind (arith, nat_tests)

-- ---- the version

module _ (readers : (n : Nested) → Reader (Tree n)) where
  version_sample : Sample g.version_number
  version_sample = record {
    more = tok k.Num blank ∷ [];
    value = 0;
    blanks =
        (refl, tt);
    begins = λ l n. refl;
    spells = λ l n. g.a_version {w = blank} (λ counts. cc);
  }

  version_by : (w : Info) (i : List Tok) (b : Bool) → (w.value == 1) ≡ b
      → Sound g.version_number (tok k.Num w ∷ i) (r.version_by readers w.value b (tok k.Num w ∷ i))
  unfolding rest
  version_by w i true h = sound_one (tok k.Num w) i w.value (λ l. g.a_version (λ counts. one_is w.value h))
  version_by w i false h = sound_exceed version (tok k.Num w) i [] w.value tt (λ l n. g.a_version (λ counts. cc))

  version_sound : (i : List Tok) → Sound g.version_number i (r.version_number readers i)
  unfolding r.version_number same_kind first_value
  version_sound (tok k.Num w ∷ i) = version_by w i (w.value == 1) refl
  version_sound i = sound_refuse i version_sample

  version_at : (w : Info) (i : List Tok) (b : Bool) → (w.value == 1) ≡ b → (counts_at w.mark version ≡ true → w.value ≡ 1)
      → Reaches w.value i (r.version_by readers w.value b (tok k.Num w ∷ i))
  unfolding rest
  version_at w i true h one = inl refl
  version_at w i false h one = inr ((over version, tok k.Num w ∷ i), refl, not_true _ (λ counts. one_not w.value h (one counts)))

  version_reaches : (i j : List Tok) (x : ℕ) → g.version_number i x j → Reaches x j (r.version_number readers i)
  unfolding r.version_number same_kind first_value
  version_reaches i j x (g.a_version {w = w} {i = l} one) = version_at w l (w.value == 1) refl one

  version_exact : Exact g.version_number g.version_number anywhere (r.version_number readers)
  version_exact = record { sound = version_sound; complete = λ i j x h stop. version_reaches i j x h; sample = version_sample }

-- ---- main and the file

module _ {inner inner' : (n : Nested) → Rel (Tree n)} {readers : (n : Nested) → Reader (Tree n)} (e : Constructs inner inner' readers) where
  main_begins : (rel : (n : Nested) → Rel (Tree n)) → BeginsWith is_main (g.main rel)
  main_begins rel = spotted_begins (λ spot. word_begins refl)

  main_exact : Exact (g.main inner) (g.main inner') anywhere (r.main readers)
  unfolding r.main
  main_exact = exact_spotted {first = is_main} refl (λ spot. word_begins refl) (λ spot. exact_word refl (exact_param
      (λ x. exact_then (box_exact e) (λ post.
      exact_map (λ y. record { spot = spot; result = x.name; sort = x.sort; post = post; body = y }) (e.exact a_body)))))

  pub file_exact : Exact (g.file inner) (g.file inner') anywhere (r.file readers)
  unfolding r.file
  file_exact = exact_word refl (exact_then (version_exact readers) (λ n. exact_part (decls_exact e)
      (λ ds. exact_map (λ x. record { version = n; decls = ds; main = x }) main_exact)
      (λ i j l x y h s stop. main_stops (first_kind j) ((part_begins (main_begins inner')).known j l y s))))
