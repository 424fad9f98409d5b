-- The text of each reserved word and symbol is one token of its kind.
use Rattle.std.proofs.Common.{◌≡◌, ℕ, ◌≤◌, refl, true, List, [], ◌∷◌, length, Some, None, lit≤}
use Rattle.tht_tree.specs.declared.token.TokenKind.{TokenKind}
use Rattle.tht_tree.specs.declared.token.TokenKind.TheVariants as k
use Rattle.tht_tree.specs.Splitting.{letter, other, class_of, in_word, word_kind, pair_at, single_of, reserved, two_byte_symbols, one_byte_symbols}
use Rattle.tht_tree.specs.Layout.{word_text}
use Rattle.tht_layout.proofs.Prints.{is_word, AllInWord}

-- how the text of a kind is split: as a word, as a symbol of two bytes, or as one of one byte before a blank
pub data WordForm (q : TokenKind) : Type 0 where
  as_word : (b : ℕ) (bs : List ℕ) → word_text q ≡ b ∷ bs → class_of b ≡ letter → AllInWord bs → length (b ∷ bs) ≤ 64 → word_kind (b ∷ bs) ≡ q
      → WordForm q
  as_pair : (b c : ℕ) → word_text q ≡ b ∷ c ∷ [] → class_of b ≡ other → pair_at b (c ∷ []) ≡ Some q → WordForm q
  as_single : (b : ℕ) → word_text q ≡ b ∷ [] → class_of b ≡ other → single_of b ≡ Some q → pair_at b (32 ∷ []) ≡ None → pair_at b (10 ∷ []) ≡ None
      → WordForm q

pub word_form : (q : TokenKind) → is_word q ≡ true → WordForm q
unfolding word_text reserved two_byte_symbols one_byte_symbols class_of in_word
word_form k.Name h = cc
word_form k.Num h = cc
word_form k.Tht h = as_word 116 (104 ∷ 116 ∷ []) refl refl (refl, (refl, tt)) (lit≤ tt) refl
word_form k.Root h = as_word 114 (111 ∷ 111 ∷ 116 ∷ []) refl refl (refl, (refl, (refl, tt))) (lit≤ tt) refl
word_form k.Invariant h = as_word 105 (110 ∷ 118 ∷ 97 ∷ 114 ∷ 105 ∷ 97 ∷ 110 ∷ 116 ∷ []) refl refl
    (refl, (refl, (refl, (refl, (refl, (refl, (refl, (refl, tt)))))))) (lit≤ tt) refl
word_form k.Shared h = as_word 115 (104 ∷ 97 ∷ 114 ∷ 101 ∷ 100 ∷ []) refl refl (refl, (refl, (refl, (refl, (refl, tt))))) (lit≤ tt) refl
word_form k.Pred h = as_word 112 (114 ∷ 101 ∷ 100 ∷ []) refl refl (refl, (refl, (refl, tt))) (lit≤ tt) refl
word_form k.Lemma h = as_word 108 (101 ∷ 109 ∷ 109 ∷ 97 ∷ []) refl refl (refl, (refl, (refl, (refl, tt)))) (lit≤ tt) refl
word_form k.Txn h = as_word 116 (120 ∷ 110 ∷ []) refl refl (refl, (refl, tt)) (lit≤ tt) refl
word_form k.Proc h = as_word 112 (114 ∷ 111 ∷ 99 ∷ []) refl refl (refl, (refl, (refl, tt))) (lit≤ tt) refl
word_form k.Main h = as_word 109 (97 ∷ 105 ∷ 110 ∷ []) refl refl (refl, (refl, (refl, tt))) (lit≤ tt) refl
word_form k.On h = as_word 111 (110 ∷ []) refl refl (refl, tt) (lit≤ tt) refl
word_form k.Nil h = as_word 110 (105 ∷ 108 ∷ []) refl refl (refl, (refl, tt)) (lit≤ tt) refl
word_form k.Cons h = as_word 99 (111 ∷ 110 ∷ 115 ∷ []) refl refl (refl, (refl, (refl, tt))) (lit≤ tt) refl
word_form k.Zero h = as_word 122 (101 ∷ 114 ∷ 111 ∷ []) refl refl (refl, (refl, (refl, tt))) (lit≤ tt) refl
word_form k.Next h = as_word 110 (101 ∷ 120 ∷ 116 ∷ []) refl refl (refl, (refl, (refl, tt))) (lit≤ tt) refl
word_form k.Nat h = as_word 110 (97 ∷ 116 ∷ []) refl refl (refl, (refl, tt)) (lit≤ tt) refl
word_form k.Bool h = as_word 98 (111 ∷ 111 ∷ 108 ∷ []) refl refl (refl, (refl, (refl, tt))) (lit≤ tt) refl
word_form k.Loc h = as_word 108 (111 ∷ 99 ∷ []) refl refl (refl, (refl, tt)) (lit≤ tt) refl
word_form k.Unit h = as_word 117 (110 ∷ 105 ∷ 116 ∷ []) refl refl (refl, (refl, (refl, tt))) (lit≤ tt) refl
word_form k.Seq h = as_word 115 (101 ∷ 113 ∷ []) refl refl (refl, (refl, tt)) (lit≤ tt) refl
word_form k.True h = as_word 116 (114 ∷ 117 ∷ 101 ∷ []) refl refl (refl, (refl, (refl, tt))) (lit≤ tt) refl
word_form k.False h = as_word 102 (97 ∷ 108 ∷ 115 ∷ 101 ∷ []) refl refl (refl, (refl, (refl, (refl, tt)))) (lit≤ tt) refl
word_form k.Null h = as_word 110 (117 ∷ 108 ∷ 108 ∷ []) refl refl (refl, (refl, (refl, tt))) (lit≤ tt) refl
word_form k.Not h = as_word 110 (111 ∷ 116 ∷ []) refl refl (refl, (refl, tt)) (lit≤ tt) refl
word_form k.And h = as_word 97 (110 ∷ 100 ∷ []) refl refl (refl, (refl, tt)) (lit≤ tt) refl
word_form k.Or h = as_word 111 (114 ∷ []) refl refl (refl, tt) (lit≤ tt) refl
word_form k.Imp h = as_word 105 (109 ∷ 112 ∷ []) refl refl (refl, (refl, tt)) (lit≤ tt) refl
word_form k.Len h = as_word 108 (101 ∷ 110 ∷ []) refl refl (refl, (refl, tt)) (lit≤ tt) refl
word_form k.Emp h = as_word 101 (109 ∷ 112 ∷ []) refl refl (refl, (refl, tt)) (lit≤ tt) refl
word_form k.Exists h = as_word 101 (120 ∷ 105 ∷ 115 ∷ 116 ∷ 115 ∷ []) refl refl (refl, (refl, (refl, (refl, (refl, tt))))) (lit≤ tt) refl
word_form k.Either h = as_word 101 (105 ∷ 116 ∷ 104 ∷ 101 ∷ 114 ∷ []) refl refl (refl, (refl, (refl, (refl, (refl, tt))))) (lit≤ tt) refl
word_form k.Read h = as_word 114 (101 ∷ 97 ∷ 100 ∷ []) refl refl (refl, (refl, (refl, tt))) (lit≤ tt) refl
word_form k.Write h = as_word 119 (114 ∷ 105 ∷ 116 ∷ 101 ∷ []) refl refl (refl, (refl, (refl, (refl, tt)))) (lit≤ tt) refl
word_form k.Alloc h = as_word 97 (108 ∷ 108 ∷ 111 ∷ 99 ∷ []) refl refl (refl, (refl, (refl, (refl, tt)))) (lit≤ tt) refl
word_form k.Free h = as_word 102 (114 ∷ 101 ∷ 101 ∷ []) refl refl (refl, (refl, (refl, tt))) (lit≤ tt) refl
word_form k.Call h = as_word 99 (97 ∷ 108 ∷ 108 ∷ []) refl refl (refl, (refl, (refl, tt))) (lit≤ tt) refl
word_form k.Do h = as_word 100 (111 ∷ []) refl refl (refl, tt) (lit≤ tt) refl
word_form k.Atomic h = as_word 97 (116 ∷ 111 ∷ 109 ∷ 105 ∷ 99 ∷ []) refl refl (refl, (refl, (refl, (refl, (refl, tt))))) (lit≤ tt) refl
word_form k.Par h = as_word 112 (97 ∷ 114 ∷ []) refl refl (refl, (refl, tt)) (lit≤ tt) refl
word_form k.Publish h = as_word 112 (117 ∷ 98 ∷ 108 ∷ 105 ∷ 115 ∷ 104 ∷ []) refl refl (refl, (refl, (refl, (refl, (refl, (refl, tt))))))
    (lit≤ tt) refl
word_form k.Retract h = as_word 114 (101 ∷ 116 ∷ 114 ∷ 97 ∷ 99 ∷ 116 ∷ []) refl refl (refl, (refl, (refl, (refl, (refl, (refl, tt))))))
    (lit≤ tt) refl
word_form k.Have h = as_word 104 (97 ∷ 118 ∷ 101 ∷ []) refl refl (refl, (refl, (refl, tt))) (lit≤ tt) refl
word_form k.Open h = as_word 111 (112 ∷ 101 ∷ 110 ∷ []) refl refl (refl, (refl, (refl, tt))) (lit≤ tt) refl
word_form k.Unfold h = as_word 117 (110 ∷ 102 ∷ 111 ∷ 108 ∷ 100 ∷ []) refl refl (refl, (refl, (refl, (refl, (refl, tt))))) (lit≤ tt) refl
word_form k.Fold h = as_word 102 (111 ∷ 108 ∷ 100 ∷ []) refl refl (refl, (refl, (refl, tt))) (lit≤ tt) refl
word_form k.Rewrite h = as_word 114 (101 ∷ 119 ∷ 114 ∷ 105 ∷ 116 ∷ 101 ∷ []) refl refl (refl, (refl, (refl, (refl, (refl, (refl, tt))))))
    (lit≤ tt) refl
word_form k.Use h = as_word 117 (115 ∷ 101 ∷ []) refl refl (refl, (refl, tt)) (lit≤ tt) refl
word_form k.Ret h = as_word 114 (101 ∷ 116 ∷ []) refl refl (refl, (refl, tt)) (lit≤ tt) refl
word_form k.If h = as_word 105 (102 ∷ []) refl refl (refl, tt) (lit≤ tt) refl
word_form k.Else h = as_word 101 (108 ∷ 115 ∷ 101 ∷ []) refl refl (refl, (refl, (refl, tt))) (lit≤ tt) refl
word_form k.Case h = as_word 99 (97 ∷ 115 ∷ 101 ∷ []) refl refl (refl, (refl, (refl, tt))) (lit≤ tt) refl
word_form k.Dead h = as_word 100 (101 ∷ 97 ∷ 100 ∷ []) refl refl (refl, (refl, (refl, tt))) (lit≤ tt) refl
word_form k.At h = as_word 97 (116 ∷ []) refl refl (refl, tt) (lit≤ tt) refl
word_form k.As h = as_word 97 (115 ∷ []) refl refl (refl, tt) (lit≤ tt) refl
word_form k.By h = as_word 98 (121 ∷ []) refl refl (refl, tt) (lit≤ tt) refl
word_form k.To h = as_word 116 (111 ∷ []) refl refl (refl, tt) (lit≤ tt) refl
word_form k.Hyp h = as_word 104 (121 ∷ 112 ∷ []) refl refl (refl, (refl, tt)) (lit≤ tt) refl
word_form k.Refl h = as_word 114 (101 ∷ 102 ∷ 108 ∷ []) refl refl (refl, (refl, (refl, tt))) (lit≤ tt) refl
word_form k.Calc h = as_word 99 (97 ∷ 108 ∷ 99 ∷ []) refl refl (refl, (refl, (refl, tt))) (lit≤ tt) refl
word_form k.Todo h = as_word 116 (111 ∷ 100 ∷ 111 ∷ []) refl refl (refl, (refl, (refl, tt))) (lit≤ tt) refl
word_form k.Sym h = as_word 115 (121 ∷ 109 ∷ []) refl refl (refl, (refl, tt)) (lit≤ tt) refl
word_form k.Both h = as_word 98 (111 ∷ 116 ∷ 104 ∷ []) refl refl (refl, (refl, (refl, tt))) (lit≤ tt) refl
word_form k.Subst h = as_word 115 (117 ∷ 98 ∷ 115 ∷ 116 ∷ []) refl refl (refl, (refl, (refl, (refl, tt)))) (lit≤ tt) refl
word_form k.Pair h = as_word 112 (97 ∷ 105 ∷ 114 ∷ []) refl refl (refl, (refl, (refl, tt))) (lit≤ tt) refl
word_form k.Fst h = as_word 102 (115 ∷ 116 ∷ []) refl refl (refl, (refl, tt)) (lit≤ tt) refl
word_form k.Snd h = as_word 115 (110 ∷ 100 ∷ []) refl refl (refl, (refl, tt)) (lit≤ tt) refl
word_form k.Inl h = as_word 105 (110 ∷ 108 ∷ []) refl refl (refl, (refl, tt)) (lit≤ tt) refl
word_form k.Inr h = as_word 105 (110 ∷ 114 ∷ []) refl refl (refl, (refl, tt)) (lit≤ tt) refl
word_form k.Cases h = as_word 99 (97 ∷ 115 ∷ 101 ∷ 115 ∷ []) refl refl (refl, (refl, (refl, (refl, tt)))) (lit≤ tt) refl
word_form k.Fun h = as_word 102 (117 ∷ 110 ∷ []) refl refl (refl, (refl, tt)) (lit≤ tt) refl
word_form k.App h = as_word 97 (112 ∷ 112 ∷ []) refl refl (refl, (refl, tt)) (lit≤ tt) refl
word_form k.Neg h = as_word 110 (101 ∷ 103 ∷ []) refl refl (refl, (refl, tt)) (lit≤ tt) refl
word_form k.Absurd h = as_word 97 (98 ∷ 115 ∷ 117 ∷ 114 ∷ 100 ∷ []) refl refl (refl, (refl, (refl, (refl, (refl, tt))))) (lit≤ tt) refl
word_form k.Em h = as_word 101 (109 ∷ []) refl refl (refl, tt) (lit≤ tt) refl
word_form k.Lin h = as_word 108 (105 ∷ 110 ∷ []) refl refl (refl, (refl, tt)) (lit≤ tt) refl
word_form k.Monus h = as_word 109 (111 ∷ 110 ∷ 117 ∷ 115 ∷ []) refl refl (refl, (refl, (refl, (refl, tt)))) (lit≤ tt) refl
word_form k.Head h = as_word 104 (101 ∷ 97 ∷ 100 ∷ []) refl refl (refl, (refl, (refl, tt))) (lit≤ tt) refl
word_form k.Tail h = as_word 116 (97 ∷ 105 ∷ 108 ∷ []) refl refl (refl, (refl, (refl, tt))) (lit≤ tt) refl
word_form k.Nocons h = as_word 110 (111 ∷ 99 ∷ 111 ∷ 110 ∷ 115 ∷ []) refl refl (refl, (refl, (refl, (refl, (refl, tt))))) (lit≤ tt) refl
word_form k.Apart h = as_word 97 (112 ∷ 97 ∷ 114 ∷ 116 ∷ []) refl refl (refl, (refl, (refl, (refl, tt)))) (lit≤ tt) refl
word_form k.Nonnull h = as_word 110 (111 ∷ 110 ∷ 110 ∷ 117 ∷ 108 ∷ 108 ∷ []) refl refl (refl, (refl, (refl, (refl, (refl, (refl, tt))))))
    (lit≤ tt) refl
word_form k.Ex h = as_word 101 (120 ∷ []) refl refl (refl, tt) (lit≤ tt) refl
word_form k.Left h = as_word 108 (101 ∷ 102 ∷ 116 ∷ []) refl refl (refl, (refl, (refl, tt))) (lit≤ tt) refl
word_form k.Right h = as_word 114 (105 ∷ 103 ∷ 104 ∷ 116 ∷ []) refl refl (refl, (refl, (refl, (refl, tt)))) (lit≤ tt) refl
word_form k.Assign h = as_pair 58 61 refl refl refl
word_form k.LeftArrow h = as_pair 60 45 refl refl refl
word_form k.Arrow h = as_pair 45 62 refl refl refl
word_form k.FatArrow h = as_pair 61 62 refl refl refl
word_form k.LessEqual h = as_pair 60 61 refl refl refl
word_form k.Link h = as_pair 58 58 refl refl refl
word_form k.Join h = as_pair 43 43 refl refl refl
word_form k.LParen h = as_single 40 refl refl refl refl refl
word_form k.RParen h = as_single 41 refl refl refl refl refl
word_form k.LBrace h = as_single 123 refl refl refl refl refl
word_form k.RBrace h = as_single 125 refl refl refl refl refl
word_form k.LBracket h = as_single 91 refl refl refl refl refl
word_form k.RBracket h = as_single 93 refl refl refl refl refl
word_form k.Comma h = as_single 44 refl refl refl refl refl
word_form k.Semicolon h = as_single 59 refl refl refl refl refl
word_form k.Colon h = as_single 58 refl refl refl refl refl
word_form k.Dot h = as_single 46 refl refl refl refl refl
word_form k.AtSign h = as_single 64 refl refl refl refl refl
word_form k.Star h = as_single 42 refl refl refl refl refl
word_form k.Plus h = as_single 43 refl refl refl refl refl
word_form k.Minus h = as_single 45 refl refl refl refl refl
word_form k.Equal h = as_single 61 refl refl refl refl refl
word_form k.Less h = as_single 60 refl refl refl refl refl
