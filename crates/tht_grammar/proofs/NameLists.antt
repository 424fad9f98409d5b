-- Offsets, parameters, lists of numbers, and initial values.
use Rattle.std.proofs.Common.{◌≡◌, ℕ, sym, subst, ◌≤◌, refl, arith, Bool, true, false, nat_le, inl, List, [], ◌∷◌}
use Rattle.std.proofs.lemmas.Bool.Decides.{nat_tests}
use Rattle.tht_tree.specs.declared.token.TokenKind.{TokenKind}
use Rattle.tht_tree.specs.declared.token.TokenKind.TheVariants as k
use Rattle.tht_tree.specs.declared.decl.Initial.{Initial}
use Rattle.tht_tree.specs.declared.decl.Initial.TheVariants as v
use Rattle.tht_tree.specs.Tokens.{Info, Tok, tok}
use Rattle.tht_tree.specs.Productions.{gives, word, named, numbered}
use Rattle.tht_tree.specs.Grammar as g
use Rattle.tht_tree.specs.Grammar.{Offset, an_offset, InitialForm, initial_num, initial_true, initial_false, initial_null, initial_unit, initial_root}
use Rattle.tht_grammar.specs.Steps.{same_kind, is, rest, first_value, first_text, expect}
use Rattle.tht_grammar.specs.Reading as r
use Rattle.tht_grammar.proofs.Beginnings.{number_begins, param_begins}
use Rattle.tht_grammar.proofs.Exact.{Sound, Sample, blank, Reaches, Exact, anywhere, exact_pure, sound_refuse}
use Rattle.tht_grammar.proofs.Sequences.{same_is, same_self, sound_one, exact_word, exact_named, exact_sorted, exact_number, exact_until}
use Rattle.tht_grammar.proofs.Choices.{in_form, sound_word}
use Rattle.tht_grammar.proofs.Lists.{Begun, IsItem, begun_of, exact_listed}

-- ---- offsets

offset_sample : Sample Offset
offset_sample = record {
  more = tok k.Num blank
      ∷ [];
  value = 0;
  blanks = (refl, tt);
  begins = λ l n. refl;
  spells = λ l n. an_offset {w = blank} (omega arith);
}

le_of : (n m : ℕ) → nat_le n m ≡ true → n ≤ m
le_of n m h = grind (arith, nat_tests)

le_is : (n m : ℕ) → n ≤ m → nat_le n m ≡ true
le_is n m h = grind (arith, nat_tests)

small_at : (q : TokenKind) (w : Info) (i : List Tok) → w.value ≤ 7 → (b : Bool) → same_kind q k.Num ≡ b
    → Sound Offset (tok q w ∷ i) (r.number (tok q w ∷ i))
unfolding r.number rest first_value
small_at q w i small true h = rw h (sound_one (tok q w) i w.value (λ l. rw (same_is q k.Num h) (an_offset small)))
small_at q w i small false h = rw h (sound_refuse (tok q w ∷ i) offset_sample)

offset_at : (q : TokenKind) (w : Info) (i : List Tok) (b : Bool) → nat_le w.value 7 ≡ b → Sound Offset (tok q w ∷ i) (r.small_by b (tok q w ∷ i))
offset_at q w i true h = small_at q w i (le_of w.value 7 h) (same_kind q k.Num) refl
offset_at q w i false h = sound_refuse (tok q w ∷ i) offset_sample

offset_sound : (i : List Tok) → Sound Offset i (r.offset i)
unfolding r.offset first_value r.number
offset_sound [] = sound_refuse [] offset_sample
offset_sound (tok q w ∷ i) = offset_at q w i (nat_le w.value 7) refl

offset_reaches : {i j : List Tok} {x : ℕ} → Offset i x j → Reaches x j (r.offset i)
unfolding r.offset first_value r.number rest
offset_reaches (an_offset {w = w} small) = rw (le_is w.value 7 small, same_self k.Num) (inl refl)

pub exact_offset : Exact Offset Offset anywhere r.offset
exact_offset = record { sound = offset_sound; complete = λ i j x h stop. offset_reaches h; sample = offset_sample }

-- ---- parameters

pub param_exact : Exact g.param g.param anywhere r.param
unfolding r.param
param_exact = exact_named (λ x. exact_word refl (exact_sorted (λ z. exact_pure (record { name = x; sort = z }))))

param_first : (w : Info) → Begun g.param (tok k.Name w)
unfolding r.param r.name expect rest same_kind first_text
param_first w = begun_of param_exact (tok k.Name w) refl

-- a parameter as an entry of a list
param_item : IsItem (is k.Name) g.param g.param anywhere r.param
param_item = record {
  exact = param_exact;
  begins_none = refl;
  known = param_begins;
  known_too = param_begins;
  ready = λ i j x h q w b. let P : TokenKind → Type 0 = λ q. Begun g.param (tok q w) in subst P (sym (same_is q k.Name b)) (param_first w);
}

pub params_exact : Exact g.params g.params anywhere r.params
unfolding r.params same_kind
params_exact = exact_word refl (exact_until refl refl (exact_listed 16 (omega arith) refl param_item) (λ ps. exact_pure ps))

pub logic_exact : Exact g.logic g.logic anywhere r.logic
unfolding r.logic same_kind
logic_exact = exact_word refl (exact_until refl refl (exact_listed 16 (omega arith) refl param_item) (λ ps. exact_pure ps))

-- ---- lists of numbers

number_first : (w : Info) → Begun g.number (tok k.Num w)
unfolding r.number rest same_kind first_value
number_first w = begun_of exact_number (tok k.Num w) refl

number_item : IsItem (is k.Num) g.number g.number anywhere r.number
number_item = record {
  exact = exact_number;
  begins_none = refl;
  known = number_begins;
  known_too = number_begins;
  ready = λ i j x h q w b. let P : TokenKind → Type 0 = λ q. Begun g.number (tok q w) in subst P (sym (same_is q k.Num b)) (number_first w);
}

pub nums_exact : Exact g.nums g.nums anywhere r.nums
unfolding r.nums same_kind
nums_exact = exact_word refl (exact_until refl refl (exact_listed 64 (omega arith) refl number_item) (λ is. exact_pure is))

-- ---- initial values

initial_sample : Sample g.initial
initial_sample = record {
  more = tok k.True blank
      ∷ [];
  value = v.True;
  blanks = (refl, tt);
  begins = λ l n. refl;
  spells = λ l n. (initial_true, word gives);
}

initial_sound : (i : List Tok) → Sound g.initial i (r.initial i)
unfolding r.initial rest first_value first_text
initial_sound [] = sound_refuse [] initial_sample
initial_sound (tok k.Num w ∷ i) = sound_one (tok k.Num w) i (v.Num w.value) (λ l. (initial_num, numbered gives))
initial_sound (tok k.True w ∷ i) = sound_one (tok k.True w) i v.True (λ l. (initial_true, word gives))
initial_sound (tok k.False w ∷ i) = sound_one (tok k.False w) i v.False (λ l. (initial_false, word gives))
initial_sound (tok k.Null w ∷ i) = sound_one (tok k.Null w) i v.Null (λ l. (initial_null, word gives))
initial_sound (tok k.LParen w ∷ i) = sound_word k.LParen (exact_word {q = k.RParen} refl (exact_pure v.Unit))
    (in_form g.initial_form initial_unit) w i
initial_sound (tok k.Name w ∷ i) = sound_one (tok k.Name w) i (v.Root w.text) (λ l. (initial_root, named gives))
initial_sound (tok _ w ∷ i) = sound_refuse _ initial_sample

initial_reaches : (f : InitialForm) (i j : List Tok) (x : Initial) → g.initial_form f i x j → Reaches x j (r.initial i)
unfolding r.initial rest first_value first_text expect
initial_reaches initial_num _ _ _ (numbered gives) = inl refl
initial_reaches initial_true _ _ _ (word gives) = inl refl
initial_reaches initial_false _ _ _ (word gives) = inl refl
initial_reaches initial_null _ _ _ (word gives) = inl refl
initial_reaches initial_unit _ _ _ (word (word gives)) = rw (same_self k.RParen) (inl refl)
initial_reaches initial_root _ _ _ (named gives) = inl refl

pub initial_exact : Exact g.initial g.initial anywhere r.initial
initial_exact = record { sound = initial_sound; complete = λ i j x h stop. initial_reaches h.0 i j x h.1; sample = initial_sample }
