-- The tokens that begin what may be repeated or may stand inside another construct.
use Rattle.std.specs.Prelude.{Bool, true, false, Option, Some}
use Rattle.tht_tree.specs.declared.token.TokenKind.{TokenKind}
use Rattle.tht_tree.specs.declared.token.TokenKind.TheVariants as k
use Rattle.tht_tree.specs.Grammar.{Nested, a_term, after_not, after_link, after_len, an_assn, after_either, a_proof, a_give, after_prefix, a_body}

abbrev pub begins_prim : Option TokenKind → Bool
begins_prim (Some k.Num) = true
begins_prim (Some k.True) = true
begins_prim (Some k.False) = true
begins_prim (Some k.Null) = true
begins_prim (Some k.Nil) = true
begins_prim (Some k.Name) = true
begins_prim (Some k.LParen) = true
begins_prim (Some k.Len) = true
begins_prim _ = false

abbrev pub begins_term : Option TokenKind → Bool
begins_term (Some k.Not) = true
begins_term o = begins_prim o

abbrev pub begins_assn : Option TokenKind → Bool
begins_assn (Some k.Emp) = true
begins_assn (Some k.LBracket) = true
begins_assn (Some k.LParen) = true
begins_assn (Some k.Name) = true
begins_assn (Some k.Null) = true
begins_assn (Some k.Exists) = true
begins_assn (Some k.Either) = true
begins_assn _ = false

abbrev pub begins_proof : Option TokenKind → Bool
begins_proof (Some k.LParen) = true
begins_proof (Some k.Hyp) = true
begins_proof (Some k.Refl) = true
begins_proof (Some k.Calc) = true
begins_proof (Some k.As) = true
begins_proof (Some k.Sym) = true
begins_proof (Some k.Both) = true
begins_proof (Some k.Subst) = true
begins_proof (Some k.Pair) = true
begins_proof (Some k.Fst) = true
begins_proof (Some k.Snd) = true
begins_proof (Some k.Inl) = true
begins_proof (Some k.Inr) = true
begins_proof (Some k.Cases) = true
begins_proof (Some k.Fun) = true
begins_proof (Some k.App) = true
begins_proof (Some k.Neg) = true
begins_proof (Some k.Absurd) = true
begins_proof (Some k.Em) = true
begins_proof (Some k.Lin) = true
begins_proof (Some k.Monus) = true
begins_proof (Some k.Head) = true
begins_proof (Some k.Tail) = true
begins_proof (Some k.Nocons) = true
begins_proof (Some k.Apart) = true
begins_proof (Some k.Nonnull) = true
begins_proof (Some k.Lemma) = true
begins_proof (Some k.Todo) = true
begins_proof _ = false

abbrev pub begins_give : Option TokenKind → Bool
begins_give (Some k.LParen) = true
begins_give (Some k.Emp) = true
begins_give (Some k.AtSign) = true
begins_give (Some k.LBracket) = true
begins_give (Some k.Ex) = true
begins_give (Some k.Left) = true
begins_give (Some k.Right) = true
begins_give (Some k.Fold) = true
begins_give _ = false

abbrev pub begins_body : Option TokenKind → Bool
begins_body (Some k.LBrace) = true
begins_body _ = false

abbrev pub begins : Nested → Option TokenKind → Bool
begins a_term = begins_term
begins after_not = begins_term
begins after_link = begins_prim
begins after_len = begins_prim
begins an_assn = begins_assn
begins after_either = begins_assn
begins a_proof = begins_proof
begins a_give = begins_give
begins after_prefix = begins_give
begins a_body = begins_body

abbrev pub begins_stmt : Option TokenKind → Bool
begins_stmt (Some k.Name) = true
begins_stmt (Some k.LParen) = true
begins_stmt (Some k.Write) = true
begins_stmt (Some k.Free) = true
begins_stmt (Some k.Publish) = true
begins_stmt (Some k.Retract) = true
begins_stmt (Some k.Have) = true
begins_stmt (Some k.Open) = true
begins_stmt (Some k.Unfold) = true
begins_stmt (Some k.Fold) = true
begins_stmt (Some k.Rewrite) = true
begins_stmt (Some k.Use) = true
begins_stmt _ = false

abbrev pub begins_decl : Option TokenKind → Bool
begins_decl (Some k.Root) = true
begins_decl (Some k.Invariant) = true
begins_decl (Some k.Shared) = true
begins_decl (Some k.Pred) = true
begins_decl (Some k.Lemma) = true
begins_decl (Some k.Txn) = true
begins_decl (Some k.Proc) = true
begins_decl _ = false
