-- How a file is printed: the tokens of its tree, with only the parentheses that the grammar and its limits need, and the
-- text that they are set in.
use Rattle.std.specs.Prelude.{ℕ, ◌+◌, ◌-◌, ◌==◌, nat_le, nat_lt, ◌&&◌, Bool, true, false, if◌then◌else◌, List, [], ◌∷◌, ◌++◌, map}
use Rattle.std.specs.Fmt.{decimal}
use denote.Enum.Bare.{sameb}
use Rattle.tht_tree.specs.contracts.token.TokenKind.{the_type}
use Rattle.tht_tree.specs.declared.plain.Sort.{Sort}
use Rattle.tht_tree.specs.declared.plain.Sort.TheVariants as sorts
use Rattle.tht_tree.specs.declared.token.TokenKind.{TokenKind}
use Rattle.tht_tree.specs.declared.token.TokenKind.TheVariants as k
use Rattle.tht_tree.specs.declared.term.Term.{Term, fold-Term}
use Rattle.tht_tree.specs.declared.term.Term.TheOpen as t
use Rattle.tht_tree.specs.declared.assn.Assn.{Assn, fold-Assn}
use Rattle.tht_tree.specs.declared.assn.Assn.TheOpen as a
use Rattle.tht_tree.specs.declared.proof.Proof.{Proof, fold-Proof}
use Rattle.tht_tree.specs.declared.proof.ProofKind.TheOpen as p
use Rattle.tht_tree.specs.declared.give.Give.{Give, fold-Give}
use Rattle.tht_tree.specs.declared.give.GiveKind.TheOpen as g
use Rattle.tht_tree.specs.declared.step.StepKind.{StepKind}
use Rattle.tht_tree.specs.declared.step.StepKind.TheVariants as s
use Rattle.tht_tree.specs.declared.body.Body.{Body, fold-Body}
use Rattle.tht_tree.specs.declared.body.EndKind.TheOpen as b
use Rattle.tht_tree.specs.declared.decl.Param.{Param}
use Rattle.tht_tree.specs.declared.decl.Head.{Head}
use Rattle.tht_tree.specs.declared.decl.Initial.{Initial}
use Rattle.tht_tree.specs.declared.decl.Initial.TheVariants as v
use Rattle.tht_tree.specs.declared.decl.Access.{Access}
use Rattle.tht_tree.specs.declared.decl.Access.TheVariants as access
use Rattle.tht_tree.specs.declared.decl.Lemma.{Lemma}
use Rattle.tht_tree.specs.declared.decl.LemmaKind.{LemmaKind}
use Rattle.tht_tree.specs.declared.decl.LemmaKind.TheVariants as l
use Rattle.tht_tree.specs.declared.decl.DeclKind.{DeclKind}
use Rattle.tht_tree.specs.declared.decl.DeclKind.TheVariants as d
use Rattle.tht_tree.specs.declared.decl.Decl.{Decl}
use Rattle.tht_tree.specs.declared.file.Main.{Main}
use Rattle.tht_tree.specs.declared.file.Source1.{Source1}
use Rattle.tht_tree.specs.Splitting.{reserved, two_byte_symbols, one_byte_symbols}

-- ---- printed tokens

-- a reserved word or a symbol, a name, or a number
pub data Shape : Type 0 where
  word : TokenKind → Shape
  name : List ℕ → Shape
  number : ℕ → Shape

abbrev pub same_kind : TokenKind → TokenKind → Bool
same_kind = sameb the_type

-- what is printed, as a function of the tokens that follow it
abbrev pub Printed : Type 0
Printed = List Shape → List Shape

infixr 67 ◌▹◌
abbrev pub ◌▹◌ : TokenKind → List Shape → List Shape
q ▹ rest = word q ∷ rest

abbrev pub parens : Printed → Printed
parens p rest = k.LParen ▹ p (k.RParen ▹ rest)

abbrev pub brackets : Printed → Printed
brackets p rest = k.LBracket ▹ p (k.RBracket ▹ rest)

abbrev pub braces : Printed → Printed
braces p rest = k.LBrace ▹ p (k.RBrace ▹ rest)

-- with commas between them
abbrev pub commas : List Printed → Printed
commas [] rest = rest
commas (p ∷ []) rest = p rest
commas (p ∷ q ∷ ps) rest = p (k.Comma ▹ commas (q ∷ ps) rest)

-- with a `;` after each
abbrev pub ended : List Printed → Printed
ended [] rest = rest
ended (p ∷ ps) rest = p (k.Semicolon ▹ ended ps rest)

abbrev pub one_number : ℕ → Printed
one_number n rest = number n ∷ rest

-- ---- parentheses

-- How tightly a tree holds together, and its tokens without parentheses around it (but for an `exists` before a `*`), where its
-- chain may have so many operators.
pub record Shown : Type 0 where
  pub rank : ℕ
  pub bare : ℕ → Printed

-- a tree that is no chain
abbrev pub single : ℕ → Printed → Shown
single rank p = record { rank = rank; bare = λ room. p }

-- where a rank is wanted, what holds together less tightly stands in parentheses
abbrev pub at : ℕ → Shown → Printed
at rank x = if nat_le rank x.rank then x.bare 64 else parens (x.bare 64)

-- The left operand of a chain of this rank: the chain goes on in it while it has room for operators. A rank that is chained is the
-- rank of that chain alone.
abbrev pub left : ℕ → ℕ → Shown → Printed
left rank room x = if (x.rank == rank) && nat_lt 0 room then x.bare room else at (rank + 1) x

-- a chain: its left operand, and what stands behind it
abbrev pub chain : ℕ → Shown → Printed → Shown
chain rank x behind = record { rank = rank; bare = λ room rest. left rank (room - 1) x (behind rest) }

-- a chain of operators, whose right operand holds together more tightly
abbrev pub joined : ℕ → TokenKind → Shown → Shown → Shown
joined rank op x y = chain rank x (λ rest. op ▹ at (rank + 1) y rest)

-- an operator of two operands, at places that want these ranks
abbrev pub pair : ℕ → TokenKind → ℕ → ℕ → Shown → Shown → Shown
pair rank op first last x y = single rank (λ rest. at first x (op ▹ at last y rest))

-- ---- terms: rank 0 for `imp`, 1 `or`, 2 `and`, 3 `not`, 4 comparisons, 5 `::` and `++`, 6 sums, 7 products, 8 offsets, and
-- 9 for what needs no parentheses anywhere

abbrev pub alone : Shape → Shown
alone x = single 9 (λ rest. x ∷ rest)

abbrev pub term_layer : t.Term-F Shown → Shown
term_layer (t.Num n) = alone (number n)
term_layer t.True = alone (word k.True)
term_layer t.False = alone (word k.False)
term_layer t.Null = alone (word k.Null)
term_layer t.Nil = alone (word k.Nil)
term_layer t.Unit = single 9 (λ rest. k.LParen ▹ k.RParen ▹ rest)
term_layer (t.Var x) = alone (name x)
term_layer (t.Len x) = single 9 (λ rest. k.Len ▹ at 9 x rest)
term_layer (t.Offset x n) = chain 8 x (λ rest. k.Dot ▹ number n ∷ rest)
term_layer (t.Mul x y) = joined 7 k.Star x y
term_layer (t.Add x y) = joined 6 k.Plus x y
term_layer (t.Sub x y) = joined 6 k.Minus x y
term_layer (t.Cons x y) = pair 5 k.Link 6 5 x y
term_layer (t.Cat x y) = pair 5 k.Join 6 5 x y
term_layer (t.Eq x y) = pair 4 k.Equal 5 5 x y
term_layer (t.Lt x y) = pair 4 k.Less 5 5 x y
term_layer (t.Le x y) = pair 4 k.LessEqual 5 5 x y
term_layer (t.Not x) = single 3 (λ rest. k.Not ▹ at 3 x rest)
term_layer (t.And x y) = joined 2 k.And x y
term_layer (t.Or x y) = joined 1 k.Or x y
term_layer (t.Imp x y) = pair 0 k.Imp 1 0 x y

unfoldable pub shown_term : Term → Shown
shown_term = fold-Term Shown term_layer

-- a term; a place of a cell or what one holds; and terms in parentheses
abbrev pub term : Term → Printed
term x = at 0 (shown_term x)

abbrev pub off : Term → Printed
off x = at 8 (shown_term x)

abbrev pub arguments : List Term → Printed
arguments ts = parens (commas (map term ts))

-- ---- names with their sorts, and numbers

abbrev pub sort_word : Sort → TokenKind
sort_word sorts.Nat = k.Nat
sort_word sorts.Bool = k.Bool
sort_word sorts.Loc = k.Loc
sort_word sorts.Unit = k.Unit
sort_word sorts.Seq = k.Seq

abbrev pub sorted : List ℕ → Sort → Printed
sorted x z rest = name x ∷ k.Colon ▹ sort_word z ▹ rest

abbrev pub param : Param → Printed
param x = sorted x.name x.sort

abbrev pub params : List Param → Printed
params ps = parens (commas (map param ps))

abbrev pub numbers : List ℕ → Printed
numbers is = parens (commas (map one_number is))

-- ---- assertions: rank 0 for `*`, and 1 for the others

abbrev pub starts_with_star : List Shape → Bool
starts_with_star (word q ∷ rest) = same_kind q k.Star
starts_with_star _ = false

-- in parentheses where a `*` would stand directly after it
abbrev pub before_star : Bool → Printed → Printed
before_star true p = parens p
before_star false p = p

abbrev pub exists : List ℕ → Sort → Shown → Printed
exists x z y rest = before_star (starts_with_star rest) (λ after. k.Exists ▹ sorted x z (k.Dot ▹ at 0 y after)) rest

-- Where bytes spell the tree, the place of a cell is a name or `null` with offsets: such an `off` has no parentheses.
abbrev pub assn_layer : a.Assn-F Shown → Shown
assn_layer a.Emp = single 1 (λ rest. k.Emp ▹ rest)
assn_layer (a.Fact x) = single 1 (brackets (term x))
assn_layer (a.Own x y) = single 1 (λ rest. off x (k.Arrow ▹ off y rest))
assn_layer (a.Shared x y) = single 1 (λ rest. off x (k.FatArrow ▹ off y rest))
assn_layer (a.Star x y) = joined 0 k.Star x y
assn_layer (a.Inst x ts) = single 1 (λ rest. name x ∷ arguments ts rest)
assn_layer (a.Exists x z y) = single 1 (exists x z y)
assn_layer (a.Either x y) = single 1 (λ rest. k.Either ▹ at 1 x (k.Or ▹ at 1 y rest))

unfoldable pub shown_assn : Assn → Shown
shown_assn = fold-Assn Shown assn_layer

abbrev pub assn : Assn → Printed
assn x = at 0 (shown_assn x)

abbrev pub box : Assn → Printed
box x = braces (assn x)

-- ---- proofs, which need no parentheses

abbrev pub case : List ℕ → Printed → Printed
case h q = braces (λ rest. name h ∷ k.Dot ▹ q rest)

abbrev pub proof_layer : p.ProofKind-F Printed Printed Printed → Printed
proof_layer (p.Hyp h) rest = k.Hyp ▹ name h ∷ rest
proof_layer p.Refl rest = k.Refl ▹ rest
proof_layer p.Calc rest = k.Calc ▹ rest
proof_layer (p.Recast x q) rest = k.As ▹ brackets (term x) (q rest)
proof_layer (p.Sym q) rest = k.Sym ▹ q rest
proof_layer (p.Both q r) rest = k.Both ▹ q (r rest)
proof_layer (p.Subst x z y from to q r) rest =
    k.Subst ▹ parens (λ after. sorted x z (k.Dot ▹ term y after)) (brackets (term from) (brackets (term to) (q (r rest))))
proof_layer (p.Pair q r) rest = k.Pair ▹ q (r rest)
proof_layer (p.Fst x q) rest = k.Fst ▹ brackets (term x) (q rest)
proof_layer (p.Snd x q) rest = k.Snd ▹ brackets (term x) (q rest)
proof_layer (p.Inl q) rest = k.Inl ▹ q rest
proof_layer (p.Inr q) rest = k.Inr ▹ q rest
proof_layer (p.Cases x q h r i u) rest = k.Cases ▹ brackets (term x) (q (case h r (case i u rest)))
proof_layer (p.Fun h q) rest = k.Fun ▹ name h ∷ k.Dot ▹ q rest
proof_layer (p.App x q r) rest = k.App ▹ brackets (term x) (q (r rest))
proof_layer (p.Neg x q r) rest = k.Neg ▹ brackets (term x) (q (r rest))
proof_layer (p.Absurd q) rest = k.Absurd ▹ q rest
proof_layer (p.Em x h q i r) rest = k.Em ▹ brackets (term x) (case h q (case i r rest))
proof_layer (p.Lin n entries) rest = k.Lin ▹ number n ∷ braces (commas entries) rest
proof_layer (p.Monus q) rest = k.Monus ▹ q rest
proof_layer (p.Head x y q) rest = k.Head ▹ brackets (term x) (brackets (term y) (q rest))
proof_layer (p.Tail x y q) rest = k.Tail ▹ brackets (term x) (brackets (term y) (q rest))
proof_layer p.Nocons rest = k.Nocons ▹ rest
proof_layer (p.Apart m n) rest = k.Apart ▹ number m ∷ number n ∷ rest
proof_layer (p.Nonnull n) rest = k.Nonnull ▹ number n ∷ rest
proof_layer (p.Lemma x ts q) rest = k.Lemma ▹ name x ∷ arguments ts (q rest)
proof_layer p.Todo rest = k.Todo ▹ rest

abbrev pub entry_layer : p.LinEntry-F Printed Printed Printed → Printed
entry_layer e rest = number e.multiplier ∷ brackets (term e.fact) (e.proof rest)

unfoldable pub proof : Proof → Printed
proof = fold-Proof Printed Printed Printed proof_layer entry_layer (λ q. q.kind)

-- ---- gives: rank 0 for `*`, and 1 for the others

abbrev pub give_layer : g.GiveKind-F Shown Shown → Shown
give_layer g.Emp = single 1 (λ rest. k.Emp ▹ rest)
give_layer (g.Atom n) = single 1 (λ rest. k.AtSign ▹ number n ∷ rest)
give_layer (g.Fact q) = single 1 (brackets (proof q))
give_layer (g.Star x y) = joined 0 k.Star x y
give_layer (g.Ex x y) = single 1 (λ rest. k.Ex ▹ brackets (term x) (at 1 y rest))
give_layer (g.Left x) = single 1 (λ rest. k.Left ▹ at 1 x rest)
give_layer (g.Right x) = single 1 (λ rest. k.Right ▹ at 1 x rest)
give_layer (g.Fold x) = single 1 (λ rest. k.Fold ▹ at 1 x rest)

unfoldable pub shown_give : Give → Shown
shown_give = fold-Give Shown Shown give_layer (λ x. x.kind)

abbrev pub give : Give → Printed
give x = at 0 (shown_give x)

-- ---- steps, statements and ends

abbrev pub by_proof : Proof → Printed
by_proof q rest = k.By ▹ proof q rest

abbrev pub by_give : Give → Printed
by_give x rest = k.By ▹ give x rest

abbrev pub step : StepKind → Printed
step (s.Have h x q) rest = k.Have ▹ name h ∷ k.Colon ▹ term x (by_proof q rest)
step (s.OpenVar n x z) rest = k.Open ▹ number n ∷ k.As ▹ sorted x z rest
step (s.OpenFact n h) rest = k.Open ▹ number n ∷ k.As ▹ name h ∷ rest
step (s.Unfold n) rest = k.Unfold ▹ number n ∷ rest
step (s.Fold x ts y) rest = k.Fold ▹ name x ∷ arguments ts (by_give y rest)
step (s.Rewrite m n x q) rest = k.Rewrite ▹ number m ∷ number n ∷ k.To ▹ term x (by_proof q rest)
step (s.Use x ts y) rest = k.Use ▹ name x ∷ arguments ts (by_give y rest)

abbrev pub at_cell : ℕ → Proof → Printed
at_cell n q rest = k.At ▹ number n ∷ by_proof q rest

-- the atoms that a block takes, its body and its box
abbrev pub block : List ℕ → Printed → Assn → Printed
block is body post rest = numbers is (body (box post rest))

abbrev pub stmt_layer : b.StmtKind-F Printed Printed Printed Printed Printed → Printed
stmt_layer (b.Read x z y n h q) rest =
    sorted x z (k.LeftArrow ▹ k.Read ▹ term y (k.At ▹ number n ∷ k.As ▹ name h ∷ by_proof q rest))
stmt_layer (b.Write x y n q) rest = k.Write ▹ off x (off y (at_cell n q rest))
stmt_layer (b.Alloc x ts) rest = name x ∷ k.LeftArrow ▹ k.Alloc ▹ arguments ts rest
stmt_layer (b.Free x n q) rest = k.Free ▹ term x (at_cell n q rest)
stmt_layer (b.Publish x n q) rest = k.Publish ▹ term x (at_cell n q rest)
stmt_layer (b.Retract x n q) rest = k.Retract ▹ term x (at_cell n q rest)
stmt_layer (b.Call x f ts us y) rest =
    name x ∷ k.LeftArrow ▹ k.Call ▹ name f ∷ arguments ts (brackets (commas (map term us)) (by_give y rest))
stmt_layer (b.Do x z is body post) rest = sorted x z (k.LeftArrow ▹ k.Do ▹ block is body post rest)
stmt_layer (b.Atomic x z is body post) rest = sorted x z (k.LeftArrow ▹ k.Atomic ▹ block is body post rest)
stmt_layer (b.Par x z y w is body post js other last) rest =
    parens (λ after. sorted x z (k.Comma ▹ sorted y w after)) (k.LeftArrow ▹ k.Par ▹ block is body post (block js other last rest))
stmt_layer (b.Proof x) rest = step x.kind rest

abbrev pub end_layer : b.EndKind-F Printed Printed Printed Printed Printed → Printed
end_layer (b.Ret x y) rest = k.Ret ▹ term x (by_give y rest)
end_layer (b.If x h body other) rest = k.If ▹ term x (k.As ▹ name h ∷ body (k.Else ▹ other rest))
end_layer (b.CaseAtom n body other) rest = k.Case ▹ number n ∷ body (other rest)
end_layer (b.CaseBool x h body other) rest = k.Case ▹ brackets (term x) (k.As ▹ name h ∷ body (other rest))
end_layer (b.CaseSeq x h body y z other) rest = k.Case ▹ k.Seq ▹ term x (k.As ▹ name h ∷ body (name y ∷ name z ∷ other rest))
end_layer (b.Dead q body) rest = k.Dead ▹ proof q (body rest)

abbrev pub body_layer : b.Body-F Printed Printed Printed Printed Printed → Printed
body_layer x = braces (λ rest. ended x.stmts (x.end rest))

unfoldable pub body : Body → Printed
body = fold-Body Printed Printed Printed Printed Printed end_layer stmt_layer body_layer (λ x. x.kind) (λ x. x.kind)

-- ---- declarations

abbrev pub initial : Initial → Printed
initial (v.Num n) rest = number n ∷ rest
initial v.True rest = k.True ▹ rest
initial v.False rest = k.False ▹ rest
initial v.Null rest = k.Null ▹ rest
initial v.Unit rest = k.LParen ▹ k.RParen ▹ rest
initial (v.Root x) rest = name x ∷ rest

abbrev pub defining : Access → List ℕ → List Param → Printed
defining access.Private x ps rest = k.Pred ▹ name x ∷ params ps rest
defining access.Shared x ps rest = k.Shared ▹ k.Pred ▹ name x ∷ params ps rest

abbrev pub head : Head → Printed
head x rest = name x.name ∷ params x.params (brackets (commas (map param x.logic)) (box x.pre (sorted x.result x.sort (box x.post rest))))

abbrev pub lemma_by : Lemma → LemmaKind → Printed
lemma_by x (l.Plain y) rest = box x.pre (box x.post (body y rest))
lemma_by x (l.OnSeq u y m n z) rest =
    k.On ▹ name u ∷ box x.pre (box x.post (k.Nil ▹ body y (k.Cons ▹ name m ∷ name n ∷ body z rest)))
lemma_by x (l.OnNat u y m z) rest = k.On ▹ name u ∷ box x.pre (box x.post (k.Zero ▹ body y (k.Next ▹ name m ∷ body z rest)))

abbrev pub decl : DeclKind → Printed
decl (d.Root x z y) rest = k.Root ▹ sorted x z (k.Assign ▹ initial y (k.Semicolon ▹ rest))
decl (d.Invariant x y) rest = k.Invariant ▹ box x (by_give y (k.Semicolon ▹ rest))
decl (d.Pred who x ps y) rest = defining who x ps (k.Equal ▹ assn y (k.Semicolon ▹ rest))
decl (d.PredOn who x ps u y m n z) rest =
    defining who x ps (k.On ▹ name u ∷ k.Nil ▹ k.Equal ▹ assn y (k.Cons ▹ name m ∷ name n ∷ k.Equal ▹ assn z (k.Semicolon ▹ rest)))
decl (d.Lemma x) rest = k.Lemma ▹ name x.name ∷ params x.params (lemma_by x x.kind rest)
decl (d.Txn x y) rest = k.Txn ▹ head x (body y rest)
decl (d.Proc x y) rest = k.Proc ▹ head x (body y rest)

abbrev pub main : Main → Printed
main x rest = k.Main ▹ sorted x.result x.sort (box x.post (body x.body rest))

-- ---- the text

-- the first text in the rows with this kind
abbrev pub text_in : List (List ℕ × TokenKind) → TokenKind → List ℕ
text_in [] q = []
text_in (row ∷ rows) q = if same_kind row.1 q then row.0 else text_in rows q

unfoldable pub word_text : TokenKind → List ℕ
word_text = text_in (reserved ++ two_byte_symbols ++ one_byte_symbols)

abbrev pub shape_text : Shape → List ℕ
shape_text (word q) = word_text q
shape_text (name x) = x
shape_text (number n) = decimal n

-- what stands between two tokens: a line feed behind `;`, else a space
abbrev pub gap : Shape → ℕ
gap (word k.Semicolon) = 10
gap _ = 32

-- the tokens with what stands between them, and a line feed at the end
abbrev pub lines : List Shape → List ℕ
lines [] = []
lines (x ∷ []) = shape_text x ++ 10 ∷ []
lines (x ∷ y ∷ xs) = shape_text x ++ gap x ∷ lines (y ∷ xs)

abbrev pub decl_lines : List Decl → List ℕ
decl_lines [] = []
decl_lines (x ∷ xs) = lines (decl x.kind []) ++ decl_lines xs

-- the text of a file: its version, its declarations and main, each on lines of its own
abbrev pub layout : Source1 → List ℕ
layout file = lines (k.Tht ▹ number file.version ∷ []) ++ decl_lines file.decls ++ lines (main file.main [])
