-- Each reader looks no further than the first token that it does not take.
use Rattle.std.proofs.Common.{ℕ, zero, suc, Bool, true, false, ◌==◌, List, [], ◌∷◌, ◌++◌, Option, Some, refl}
use Rattle.tht_tree.specs.declared.plain.Spot.{Spot}
use Rattle.tht_tree.specs.declared.plain.Sort.{Sort}
use Rattle.tht_tree.specs.declared.token.TokenKind.{TokenKind}
use Rattle.tht_tree.specs.declared.token.TokenKind.TheVariants as k
use Rattle.tht_tree.specs.declared.term.Term.{Term}
use Rattle.tht_tree.specs.declared.term.Term.TheVariants as t
use Rattle.tht_tree.specs.declared.assn.Assn.{Assn}
use Rattle.tht_tree.specs.declared.assn.Assn.TheVariants as a
use Rattle.tht_tree.specs.declared.proof.Proof.{Proof}
use Rattle.tht_tree.specs.declared.proof.ProofKind.{ProofKind}
use Rattle.tht_tree.specs.declared.proof.ProofKind.TheVariants as p
use Rattle.tht_tree.specs.declared.give.GiveKind.TheVariants as g
use Rattle.tht_tree.specs.declared.step.StepKind.TheVariants as s
use Rattle.tht_tree.specs.declared.body.StmtKind.{StmtKind}
use Rattle.tht_tree.specs.declared.body.StmtKind.TheVariants as c
use Rattle.tht_tree.specs.declared.decl.Param.{Param}
use Rattle.tht_tree.specs.declared.decl.Access.{Access}
use Rattle.tht_tree.specs.declared.decl.Access.TheVariants as access
use Rattle.tht_tree.specs.declared.decl.Decl.{Decl}
use Rattle.tht_tree.specs.Grammar.{Nested, Tree, a_term, after_not, after_link, after_len, an_assn, after_either, a_proof, a_give, after_prefix, a_body, implies, ors, ands, compares, links, adds, muls, dots, stars, joins}
use Rattle.tht_tree.specs.Tokens.{many, version}
use Rattle.tht_grammar.specs.Steps.{Reader, is}
use Rattle.tht_grammar.specs.Words.{begins, begins_term, begins_stmt, begins_decl}
use Rattle.tht_grammar.specs.Reading as r
use Rattle.tht_grammar.proofs.Local.{IsLocal, TakesOne, local_pure, local_refuse, local_exceed, local_look, local_spotted, local_spelled, local_valued, local_next, local_then, local_map, local_after, local_close, local_deep, local_optional, local_chain, local_entries, local_listed, local_repeat, takes_expect, takes_first, takes_last, takes_spotted}
use Rattle.tht_grammar.proofs.LocalWords.{local_name, local_number, local_offset, local_sort, local_param, local_params, local_logic, local_nums, local_initial}

module _ (inner : (n : Nested) → Reader (Tree n)) (inners : (n : Nested) → IsLocal (inner n)) where
  -- ---- terms

  local_after_paren : (b : Bool) → IsLocal (r.after_paren inner b)
  local_after_paren true = local_next (local_pure t.Unit)
  local_after_paren false = local_then (inners a_term) (λ x. local_close k.RParen _)

  local_closed : IsLocal (r.closed inner)
  unfolding r.closed
  local_closed = local_look (λ o. local_after_paren (is k.RParen o))

  local_prim_by : (o : Option TokenKind) → IsLocal (r.prim_by inner o)
  local_prim_by (Some k.Num) = local_valued (λ n. local_next (local_pure (t.Num n)))
  local_prim_by (Some k.True) = local_next (local_pure t.True)
  local_prim_by (Some k.False) = local_next (local_pure t.False)
  local_prim_by (Some k.Null) = local_next (local_pure t.Null)
  local_prim_by (Some k.Nil) = local_next (local_pure t.Nil)
  local_prim_by (Some k.Name) = local_spelled (λ w. local_next (local_pure (t.Var w)))
  local_prim_by (Some k.LParen) = local_next local_closed
  local_prim_by (Some k.Len) = local_next (local_map _ (inners after_len))
  local_prim_by _ = local_refuse

  local_prim : IsLocal (r.prim inner)
  unfolding r.prim
  local_prim = local_look local_prim_by

  local_off : IsLocal (r.off inner)
  unfolding r.off
  local_off = local_then local_prim (local_chain dots local_offset 64)

  local_prod : IsLocal (r.prod inner)
  unfolding r.prod
  local_prod = local_then local_off (local_chain muls local_off 64)

  local_sum : IsLocal (r.sum inner)
  unfolding r.sum
  local_sum = local_then local_prod (local_chain adds local_prod 64)

  local_app : IsLocal (r.app inner)
  unfolding r.app
  local_app = local_then local_sum (local_optional links (inners after_link))

  local_cmp : IsLocal (r.cmp inner)
  unfolding r.cmp
  local_cmp = local_then local_app (local_optional compares local_app)

  local_neg_by : (b : Bool) → IsLocal (r.neg_by inner b)
  local_neg_by true = local_next (local_map _ (inners after_not))
  local_neg_by false = local_cmp

  local_neg : IsLocal (r.neg inner)
  unfolding r.neg
  local_neg = local_look (λ o. local_neg_by (is k.Not o))

  local_conj : IsLocal (r.conj inner)
  unfolding r.conj
  local_conj = local_then local_neg (local_chain ands local_neg 64)

  local_disj : IsLocal (r.disj inner)
  unfolding r.disj
  local_disj = local_then local_conj (local_chain ors local_conj 64)

  local_term : IsLocal (r.term inner)
  unfolding r.term
  local_term = local_then local_disj (local_optional implies (inners a_term))

  local_arguments : IsLocal (r.arguments inner)
  unfolding r.arguments
  local_arguments = local_after k.LParen (local_then (local_listed begins_term (inners a_term) 64) (λ ts. local_close k.RParen _))

  local_bracketed : IsLocal (r.bracketed inner)
  unfolding r.bracketed
  local_bracketed = local_after k.LBracket (local_then (inners a_term) (λ x. local_close k.RBracket _))

  -- ---- assertions

  local_cell_by : (x : Term) (o : Option TokenKind) → IsLocal (r.cell_by inner x o)
  local_cell_by x (Some k.Arrow) = local_next (local_map _ local_off)
  local_cell_by x (Some k.FatArrow) = local_next (local_map _ local_off)
  local_cell_by x _ = local_refuse

  local_cell : (x : Term) → IsLocal (r.cell inner x)
  unfolding r.cell
  local_cell x = local_then (local_chain dots local_offset 64 x) (λ y. local_look (local_cell_by y))

  local_instance_by : (w : List ℕ) (b : Bool) → IsLocal (r.instance_by inner w b)
  local_instance_by w true = local_map _ local_arguments
  local_instance_by w false = local_cell (t.Var w)

  local_named : IsLocal (r.named inner)
  unfolding r.named
  local_named = local_then local_name (λ w. local_look (λ o. local_instance_by w (is k.LParen o)))

  local_exists : IsLocal (r.exists inner)
  unfolding r.exists
  local_exists = local_after k.Exists (local_then local_name (λ x. local_after k.Colon (local_then local_sort (λ z. local_after k.Dot
      (local_map _ (inners an_assn))))))

  local_either : IsLocal (r.either inner)
  unfolding r.either
  local_either = local_after k.Either (local_then (inners after_either) (λ x. local_after k.Or (local_map _ (inners after_either))))

  local_apr_by : (o : Option TokenKind) → IsLocal (r.apr_by inner o)
  local_apr_by (Some k.Emp) = local_next (local_pure a.Emp)
  local_apr_by (Some k.LBracket) = local_map _ local_bracketed
  local_apr_by (Some k.LParen) = local_next (local_then (inners an_assn) (λ x. local_close k.RParen _))
  local_apr_by (Some k.Name) = local_named
  local_apr_by (Some k.Null) = local_next (local_cell t.Null)
  local_apr_by (Some k.Exists) = local_exists
  local_apr_by (Some k.Either) = local_either
  local_apr_by _ = local_refuse

  local_apr : IsLocal (r.apr inner)
  unfolding r.apr
  local_apr = local_look local_apr_by

  local_assn : IsLocal (r.assn inner)
  unfolding r.assn
  local_assn = local_then local_apr (local_chain stars local_apr 64)

  local_box : IsLocal (r.box inner)
  unfolding r.box
  local_box = local_after k.LBrace (local_then (inners an_assn) (λ x. local_close k.RBrace _))

  -- ---- proofs

  local_case : IsLocal (r.case inner)
  unfolding r.case
  local_case = local_after k.LBrace (local_then local_name (λ h. local_after k.Dot (local_then (inners a_proof)
      (λ q. local_close k.RBrace _))))

  local_over_one : (node : (Proof → ProofKind)) → IsLocal (r.over_one inner node)
  unfolding r.over_one
  local_over_one node = local_map _ (inners a_proof)

  local_over_two : (node : (Proof → Proof → ProofKind)) → IsLocal (r.over_two inner node)
  unfolding r.over_two
  local_over_two node = local_then (inners a_proof) (λ q. local_map _ (inners a_proof))

  local_of_over_one : (node : (Term → Proof → ProofKind)) → IsLocal (r.of_over_one inner node)
  unfolding r.of_over_one
  local_of_over_one node = local_then local_bracketed (λ x. local_map _ (inners a_proof))

  local_of_over_two : (node : (Term → Proof → Proof → ProofKind)) → IsLocal (r.of_over_two inner node)
  unfolding r.of_over_two
  local_of_over_two node = local_then local_bracketed (λ x. local_then (inners a_proof) (λ q. local_map _ (inners a_proof)))

  local_of_two_over_one : (node : (Term → Term → Proof → ProofKind)) → IsLocal (r.of_two_over_one inner node)
  unfolding r.of_two_over_one
  local_of_two_over_one node = local_then local_bracketed (λ x. local_then local_bracketed (λ y. local_map _ (inners a_proof)))

  local_hyp : IsLocal (r.hyp inner)
  unfolding r.hyp
  local_hyp = local_map _ local_name

  local_subst : IsLocal (r.subst inner)
  unfolding r.subst
  local_subst = local_after k.LParen (local_then local_name (λ x. local_after k.Colon (local_then local_sort (λ z. local_after k.Dot
      (local_then (inners a_term) (λ y. local_after k.RParen (local_then local_bracketed (λ old. local_then local_bracketed
      (λ new. local_then (inners a_proof) (λ q. local_map _ (inners a_proof)))))))))))

  local_cases : IsLocal (r.cases inner)
  unfolding r.cases
  local_cases = local_then local_bracketed (λ x. local_then (inners a_proof) (λ q. local_then local_case (λ b. local_map _ local_case)))

  local_fun : IsLocal (r.fun inner)
  unfolding r.fun
  local_fun = local_then local_name (λ h. local_after k.Dot (local_map _ (inners a_proof)))

  local_em : IsLocal (r.em inner)
  unfolding r.em
  local_em = local_then local_bracketed (λ x. local_then local_case (λ b. local_map _ local_case))

  local_lin_entry : IsLocal (r.lin_entry inner)
  unfolding r.lin_entry
  local_lin_entry = local_then local_number (λ m. local_then local_bracketed (λ x. local_map _ (inners a_proof)))

  local_lin : IsLocal (r.lin inner)
  unfolding r.lin
  local_lin = local_then local_number (λ m. local_after k.LBrace (local_then (local_listed (is k.Num) local_lin_entry 64)
      (λ es. local_close k.RBrace _)))

  local_apart : IsLocal (r.apart inner)
  unfolding r.apart
  local_apart = local_then local_number (λ m. local_map _ local_number)

  local_nonnull : IsLocal (r.nonnull inner)
  unfolding r.nonnull
  local_nonnull = local_map _ local_number

  local_lemma : IsLocal (r.lemma inner)
  unfolding r.lemma
  local_lemma = local_then local_name (λ x. local_then local_arguments (λ ts. local_map _ (inners a_proof)))

  local_proof_kind_by : (o : Option TokenKind) → IsLocal (r.proof_kind_by inner o)
  local_proof_kind_by (Some k.Hyp) = local_next local_hyp
  local_proof_kind_by (Some k.Refl) = local_next (local_pure p.Refl)
  local_proof_kind_by (Some k.Calc) = local_next (local_pure p.Calc)
  local_proof_kind_by (Some k.As) = local_next (local_of_over_one p.Recast)
  local_proof_kind_by (Some k.Sym) = local_next (local_over_one p.Sym)
  local_proof_kind_by (Some k.Both) = local_next (local_over_two p.Both)
  local_proof_kind_by (Some k.Subst) = local_next local_subst
  local_proof_kind_by (Some k.Pair) = local_next (local_over_two p.Pair)
  local_proof_kind_by (Some k.Fst) = local_next (local_of_over_one p.Fst)
  local_proof_kind_by (Some k.Snd) = local_next (local_of_over_one p.Snd)
  local_proof_kind_by (Some k.Inl) = local_next (local_over_one p.Inl)
  local_proof_kind_by (Some k.Inr) = local_next (local_over_one p.Inr)
  local_proof_kind_by (Some k.Cases) = local_next local_cases
  local_proof_kind_by (Some k.Fun) = local_next local_fun
  local_proof_kind_by (Some k.App) = local_next (local_of_over_two p.App)
  local_proof_kind_by (Some k.Neg) = local_next (local_of_over_two p.Neg)
  local_proof_kind_by (Some k.Absurd) = local_next (local_over_one p.Absurd)
  local_proof_kind_by (Some k.Em) = local_next local_em
  local_proof_kind_by (Some k.Lin) = local_next local_lin
  local_proof_kind_by (Some k.Monus) = local_next (local_over_one p.Monus)
  local_proof_kind_by (Some k.Head) = local_next (local_of_two_over_one p.Head)
  local_proof_kind_by (Some k.Tail) = local_next (local_of_two_over_one p.Tail)
  local_proof_kind_by (Some k.Nocons) = local_next (local_pure p.Nocons)
  local_proof_kind_by (Some k.Apart) = local_next local_apart
  local_proof_kind_by (Some k.Nonnull) = local_next local_nonnull
  local_proof_kind_by (Some k.Lemma) = local_next local_lemma
  local_proof_kind_by (Some k.Todo) = local_next (local_pure p.Todo)
  local_proof_kind_by _ = local_refuse

  local_proof_kind : IsLocal (r.proof_kind inner)
  unfolding r.proof_kind
  local_proof_kind = local_look local_proof_kind_by

  local_proof_by : (b : Bool) → IsLocal (r.proof_by inner b)
  local_proof_by true = local_next (local_then (inners a_proof) (λ x. local_close k.RParen _))
  local_proof_by false = local_spotted (λ spot. local_then local_proof_kind (λ x. local_pure (record { spot = spot; kind = x })))

  local_proof : IsLocal (r.proof inner)
  unfolding r.proof
  local_proof = local_look (λ o. local_proof_by (is k.LParen o))

  -- ---- gives

  local_give_kind_by : (o : Option TokenKind) → IsLocal (r.give_kind_by inner o)
  local_give_kind_by (Some k.Emp) = local_next (local_pure g.Emp)
  local_give_kind_by (Some k.AtSign) = local_next (local_map _ local_number)
  local_give_kind_by (Some k.LBracket) = local_next (local_then (inners a_proof) (λ q. local_close k.RBracket _))
  local_give_kind_by (Some k.Ex) = local_next (local_then local_bracketed (λ x. local_map _ (inners after_prefix)))
  local_give_kind_by (Some k.Left) = local_next (local_map _ (inners after_prefix))
  local_give_kind_by (Some k.Right) = local_next (local_map _ (inners after_prefix))
  local_give_kind_by (Some k.Fold) = local_next (local_map _ (inners after_prefix))
  local_give_kind_by _ = local_refuse

  local_give_kind : IsLocal (r.give_kind inner)
  unfolding r.give_kind
  local_give_kind = local_look local_give_kind_by

  local_gpr_by : (b : Bool) → IsLocal (r.gpr_by inner b)
  local_gpr_by true = local_next (local_then (inners a_give) (λ x. local_close k.RParen _))
  local_gpr_by false = local_spotted (λ spot. local_then local_give_kind (λ x. local_pure (record { spot = spot; kind = x })))

  local_gpr : IsLocal (r.gpr inner)
  unfolding r.gpr
  local_gpr = local_look (λ o. local_gpr_by (is k.LParen o))

  local_give : IsLocal (r.give inner)
  unfolding r.give
  local_give = local_spotted (λ spot. local_then local_gpr (local_chain (joins spot) local_gpr 64))

  -- ---- steps

  local_by_proof : IsLocal (r.by_proof inner)
  unfolding r.by_proof
  local_by_proof = local_after k.By (inners a_proof)

  local_by_give : IsLocal (r.by_give inner)
  unfolding r.by_give
  local_by_give = local_after k.By (inners a_give)

  local_have : IsLocal (r.have inner)
  unfolding r.have
  local_have = local_then local_name (λ h. local_after k.Colon (local_then (inners a_term) (λ x. local_map _ local_by_proof)))

  local_opened_by : (m : ℕ) (x : List ℕ) (b : Bool) → IsLocal (r.opened_by inner m x b)
  local_opened_by m x true = local_next (local_map _ local_sort)
  local_opened_by m x false = local_pure (s.OpenFact m x)

  local_open_atom : IsLocal (r.open_atom inner)
  unfolding r.open_atom
  local_open_atom = local_then local_number (λ m. local_after k.As (local_then local_name (λ x. local_look
      (λ o. local_opened_by m x (is k.Colon o)))))

  local_unfold_atom : IsLocal (r.unfold_atom inner)
  unfolding r.unfold_atom
  local_unfold_atom = local_map _ local_number

  local_fold : IsLocal (r.fold inner)
  unfolding r.fold
  local_fold = local_then local_name (λ x. local_then local_arguments (λ ts. local_map _ local_by_give))

  local_rewrite : IsLocal (r.rewrite inner)
  unfolding r.rewrite
  local_rewrite = local_then local_number (λ m. local_then local_number (λ n. local_after k.To (local_then (inners a_term)
      (λ x. local_map _ local_by_proof))))

  local_use_lemma : IsLocal (r.use_lemma inner)
  unfolding r.use_lemma
  local_use_lemma = local_then local_name (λ x. local_then local_arguments (λ ts. local_map _ local_by_give))

  local_step_kind_by : (o : Option TokenKind) → IsLocal (r.step_kind_by inner o)
  local_step_kind_by (Some k.Have) = local_next local_have
  local_step_kind_by (Some k.Open) = local_next local_open_atom
  local_step_kind_by (Some k.Unfold) = local_next local_unfold_atom
  local_step_kind_by (Some k.Fold) = local_next local_fold
  local_step_kind_by (Some k.Rewrite) = local_next local_rewrite
  local_step_kind_by (Some k.Use) = local_next local_use_lemma
  local_step_kind_by _ = local_refuse

  local_step_kind : IsLocal (r.step_kind inner)
  unfolding r.step_kind
  local_step_kind = local_look local_step_kind_by

  -- ---- statements

  local_at_atom : IsLocal (r.at_atom inner)
  unfolding r.at_atom
  local_at_atom = local_after k.At local_number

  local_block : IsLocal (r.block inner)
  unfolding r.block
  local_block = local_then local_nums (λ is. local_then (inners a_body) (λ y. local_map _ local_box))

  local_read : (x : List ℕ) (z : Sort) → IsLocal (r.read inner x z)
  unfolding r.read
  local_read x z = local_then (inners a_term) (λ y. local_then local_at_atom (λ m. local_after k.As (local_then local_name
      (λ h. local_map _ local_by_proof))))

  local_do_block : (x : List ℕ) (z : Sort) → IsLocal (r.do_block inner x z)
  unfolding r.do_block
  local_do_block x z = local_map _ local_block

  local_atomic : (x : List ℕ) (z : Sort) → IsLocal (r.atomic inner x z)
  unfolding r.atomic
  local_atomic x z = local_map _ local_block

  local_typed_by : (x : List ℕ) (z : Sort) (o : Option TokenKind) → IsLocal (r.typed_by inner x z o)
  local_typed_by x z (Some k.Read) = local_next (local_read x z)
  local_typed_by x z (Some k.Do) = local_next (local_do_block x z)
  local_typed_by x z (Some k.Atomic) = local_next (local_atomic x z)
  local_typed_by x z _ = local_refuse

  local_typed : (x : List ℕ) → IsLocal (r.typed inner x)
  unfolding r.typed
  local_typed x = local_then local_sort (λ z. local_after k.LeftArrow (local_look (local_typed_by x z)))

  local_alloc : (x : List ℕ) → IsLocal (r.alloc inner x)
  unfolding r.alloc
  local_alloc x = local_after k.LParen (local_then (local_entries begins_term (inners a_term) 8 []) (λ ts. local_close k.RParen _))

  local_call : (x : List ℕ) → IsLocal (r.call inner x)
  unfolding r.call
  local_call x = local_then local_name (λ f. local_then local_arguments (λ ts. local_after k.LBracket (local_then
      (local_listed begins_term (inners a_term) 64) (λ us. local_after k.RBracket (local_map _ local_by_give)))))

  local_made_by : (x : List ℕ) (o : Option TokenKind) → IsLocal (r.made_by inner x o)
  local_made_by x (Some k.Alloc) = local_next (local_alloc x)
  local_made_by x (Some k.Call) = local_next (local_call x)
  local_made_by x _ = local_refuse

  local_bound_by : (x : List ℕ) (o : Option TokenKind) → IsLocal (r.bound_by inner x o)
  local_bound_by x (Some k.Colon) = local_next (local_typed x)
  local_bound_by x (Some k.LeftArrow) = local_next (local_look (local_made_by x))
  local_bound_by x _ = local_refuse

  local_bound : IsLocal (r.bound inner)
  unfolding r.bound
  local_bound = local_then local_name (λ x. local_look (local_bound_by x))

  local_write : IsLocal (r.write inner)
  unfolding r.write
  local_write = local_then local_off (λ x. local_then local_off (λ y. local_then local_at_atom (λ m. local_map _ local_by_proof)))

  local_at_cell : (node : (Term → ℕ → Proof → StmtKind)) → IsLocal (r.at_cell inner node)
  unfolding r.at_cell
  local_at_cell node = local_then (inners a_term) (λ x. local_then local_at_atom (λ m. local_map _ local_by_proof))

  local_par : IsLocal (r.par inner)
  unfolding r.par
  local_par = local_then local_param (λ x. local_after k.Comma (local_then local_param (λ y. local_after k.RParen (local_after k.LeftArrow
      (local_after k.Par (local_then local_block (λ b. local_map _ local_block)))))))

  local_step : IsLocal (r.step inner)
  unfolding r.step
  local_step = local_spotted (λ spot. local_then local_step_kind (λ x. local_pure (c.Proof (record { spot = spot; kind = x }))))

  local_stmt_kind_by : (o : Option TokenKind) → IsLocal (r.stmt_kind_by inner o)
  local_stmt_kind_by (Some k.Name) = local_bound
  local_stmt_kind_by (Some k.LParen) = local_next local_par
  local_stmt_kind_by (Some k.Write) = local_next local_write
  local_stmt_kind_by (Some k.Free) = local_next (local_at_cell c.Free)
  local_stmt_kind_by (Some k.Publish) = local_next (local_at_cell c.Publish)
  local_stmt_kind_by (Some k.Retract) = local_next (local_at_cell c.Retract)
  local_stmt_kind_by _ = local_step

  local_stmt_kind : IsLocal (r.stmt_kind inner)
  unfolding r.stmt_kind
  local_stmt_kind = local_look local_stmt_kind_by

  local_ended : IsLocal (r.ended inner)
  unfolding r.ended
  local_ended = local_spotted (λ spot. local_then local_stmt_kind (λ x. local_close k.Semicolon (record { spot = spot; kind = x })))

  pub takes_ended : TakesOne (r.ended inner)
  unfolding r.ended
  takes_ended = takes_spotted (λ spot. takes_last local_stmt_kind (λ x. takes_first (takes_expect k.Semicolon)
      (λ _. local_pure (record { spot = spot; kind = x }))))

  local_stmts : IsLocal (r.stmts inner)
  unfolding r.stmts
  local_stmts = local_repeat begins_stmt local_ended refl takes_ended []

  -- ---- ends and bodies

  local_ret : IsLocal (r.ret inner)
  unfolding r.ret
  local_ret = local_then (inners a_term) (λ x. local_map _ local_by_give)

  local_if_else : IsLocal (r.if_else inner)
  unfolding r.if_else
  local_if_else = local_then (inners a_term) (λ x. local_after k.As (local_then local_name (λ h. local_then (inners a_body)
      (λ y. local_after k.Else (local_map _ (inners a_body))))))

  local_case_atom : IsLocal (r.case_atom inner)
  unfolding r.case_atom
  local_case_atom = local_then local_number (λ m. local_then (inners a_body) (λ y. local_map _ (inners a_body)))

  local_case_bool : IsLocal (r.case_bool inner)
  unfolding r.case_bool
  local_case_bool = local_then local_bracketed (λ x. local_after k.As (local_then local_name (λ h. local_then (inners a_body)
      (λ y. local_map _ (inners a_body)))))

  local_case_seq : IsLocal (r.case_seq inner)
  unfolding r.case_seq
  local_case_seq = local_then (inners a_term) (λ x. local_after k.As (local_then local_name (λ h. local_then (inners a_body)
      (λ y. local_then local_name (λ m. local_then local_name (λ n. local_map _ (inners a_body)))))))

  local_case_by : (o : Option TokenKind) → IsLocal (r.case_by inner o)
  local_case_by (Some k.Num) = local_case_atom
  local_case_by (Some k.LBracket) = local_case_bool
  local_case_by (Some k.Seq) = local_next local_case_seq
  local_case_by _ = local_refuse

  local_dead : IsLocal (r.dead inner)
  unfolding r.dead
  local_dead = local_then (inners a_proof) (λ q. local_map _ (inners a_body))

  local_end_kind_by : (o : Option TokenKind) → IsLocal (r.end_kind_by inner o)
  local_end_kind_by (Some k.Ret) = local_next local_ret
  local_end_kind_by (Some k.If) = local_next local_if_else
  local_end_kind_by (Some k.Case) = local_next (local_look local_case_by)
  local_end_kind_by (Some k.Dead) = local_next local_dead
  local_end_kind_by _ = local_refuse

  local_end_kind : IsLocal (r.end_kind inner)
  unfolding r.end_kind
  local_end_kind = local_look local_end_kind_by

  local_end : IsLocal (r.end inner)
  unfolding r.end
  local_end = local_spotted (λ spot. local_then local_end_kind (λ x. local_pure (record { spot = spot; kind = x })))

  local_body : IsLocal (r.body inner)
  unfolding r.body
  local_body = local_after k.LBrace (local_then local_stmts (λ xs. local_then local_end (λ y. local_close k.RBrace _)))

  -- ---- declarations

  local_head : IsLocal (r.head inner)
  unfolding r.head
  local_head = local_then local_name (λ x. local_then local_params (λ ps. local_then local_logic (λ vs. local_then local_box
      (λ pre. local_then local_param (λ r. local_map _ local_box)))))

  local_root : IsLocal (r.root inner)
  unfolding r.root
  local_root = local_then local_param (λ x. local_after k.Assign (local_then local_initial (λ y. local_close k.Semicolon _)))

  local_invariant : IsLocal (r.invariant inner)
  unfolding r.invariant
  local_invariant = local_then local_box (λ x. local_then local_by_give (λ y. local_close k.Semicolon _))

  local_definition : IsLocal (r.definition inner)
  unfolding r.definition
  local_definition = local_after k.Equal (inners an_assn)

  local_pred_on : (who : Access) (x : List ℕ) (ps : List Param) → IsLocal (r.pred_on inner who x ps)
  unfolding r.pred_on
  local_pred_on who x ps = local_then local_name (λ u. local_after k.Nil (local_then local_definition (λ y. local_after k.Cons
      (local_then local_name (λ m. local_then local_name (λ n. local_then local_definition (λ z. local_close k.Semicolon _)))))))

  local_pred_plain : (who : Access) (x : List ℕ) (ps : List Param) → IsLocal (r.pred_plain inner who x ps)
  unfolding r.pred_plain
  local_pred_plain who x ps = local_then local_definition (λ y. local_close k.Semicolon _)

  local_pred_by : (who : Access) (x : List ℕ) (ps : List Param) (b : Bool) → IsLocal (r.pred_by inner who x ps b)
  local_pred_by who x ps true = local_next (local_pred_on who x ps)
  local_pred_by who x ps false = local_pred_plain who x ps

  local_pred : (who : Access) → IsLocal (r.pred inner who)
  unfolding r.pred
  local_pred who = local_after k.Pred (local_then local_name (λ x. local_then local_params (λ ps. local_look
      (λ o. local_pred_by who x ps (is k.On o)))))

  local_lemma_seq : (spot : Spot) (x : List ℕ) (ps : List Param) (u : List ℕ) (pre post : Assn) → IsLocal (r.lemma_seq inner spot x ps u pre post)
  unfolding r.lemma_seq
  local_lemma_seq spot x ps u pre post = local_then (inners a_body) (λ y. local_after k.Cons (local_then local_name
      (λ m. local_then local_name (λ n. local_map _ (inners a_body)))))

  local_lemma_nat : (spot : Spot) (x : List ℕ) (ps : List Param) (u : List ℕ) (pre post : Assn) → IsLocal (r.lemma_nat inner spot x ps u pre post)
  unfolding r.lemma_nat
  local_lemma_nat spot x ps u pre post = local_then (inners a_body) (λ y. local_after k.Next (local_then local_name
      (λ m. local_map _ (inners a_body))))

  local_lemma_on_by : (spot : Spot) (x : List ℕ) (ps : List Param) (u : List ℕ) (pre post : Assn) (o : Option TokenKind)
      → IsLocal (r.lemma_on_by inner spot x ps u pre post o)
  local_lemma_on_by spot x ps u pre post (Some k.Nil) = local_next (local_lemma_seq spot x ps u pre post)
  local_lemma_on_by spot x ps u pre post (Some k.Zero) = local_next (local_lemma_nat spot x ps u pre post)
  local_lemma_on_by spot x ps u pre post _ = local_refuse

  local_lemma_on : (spot : Spot) (x : List ℕ) (ps : List Param) → IsLocal (r.lemma_on inner spot x ps)
  unfolding r.lemma_on
  local_lemma_on spot x ps = local_then local_name (λ u. local_then local_box (λ pre. local_then local_box (λ post. local_look
      (local_lemma_on_by spot x ps u pre post))))

  local_lemma_plain : (spot : Spot) (x : List ℕ) (ps : List Param) → IsLocal (r.lemma_plain inner spot x ps)
  unfolding r.lemma_plain
  local_lemma_plain spot x ps = local_then local_box (λ pre. local_then local_box (λ post. local_map _ (inners a_body)))

  local_lemma_by : (spot : Spot) (x : List ℕ) (ps : List Param) (b : Bool) → IsLocal (r.lemma_by inner spot x ps b)
  local_lemma_by spot x ps true = local_next (local_lemma_on spot x ps)
  local_lemma_by spot x ps false = local_lemma_plain spot x ps

  local_lemma_decl : (spot : Spot) → IsLocal (r.lemma_decl inner spot)
  unfolding r.lemma_decl
  local_lemma_decl spot = local_then local_name (λ x. local_then local_params (λ ps. local_look
      (λ o. local_lemma_by spot x ps (is k.On o))))

  local_txn : IsLocal (r.txn inner)
  unfolding r.txn
  local_txn = local_then local_head (λ x. local_map _ (inners a_body))

  local_proc : IsLocal (r.proc inner)
  unfolding r.proc
  local_proc = local_then local_head (λ x. local_map _ (inners a_body))

  local_decl_kind_by : (spot : Spot) (o : Option TokenKind) → IsLocal (r.decl_kind_by inner spot o)
  local_decl_kind_by spot (Some k.Root) = local_next local_root
  local_decl_kind_by spot (Some k.Invariant) = local_next local_invariant
  local_decl_kind_by spot (Some k.Shared) = local_next (local_pred access.Shared)
  local_decl_kind_by spot (Some k.Pred) = local_pred access.Private
  local_decl_kind_by spot (Some k.Lemma) = local_next (local_lemma_decl spot)
  local_decl_kind_by spot (Some k.Txn) = local_next local_txn
  local_decl_kind_by spot (Some k.Proc) = local_next local_proc
  local_decl_kind_by spot _ = local_refuse

  local_decl_kind : (spot : Spot) → IsLocal (r.decl_kind inner spot)
  unfolding r.decl_kind
  local_decl_kind spot = local_look (local_decl_kind_by spot)

  local_decl : IsLocal (r.decl inner)
  unfolding r.decl
  local_decl = local_spotted (λ spot. local_then (local_decl_kind spot) (λ x. local_pure (record { spot = spot; kind = x })))

  local_decl_within : (b : Bool) → IsLocal (r.decl_within inner (r.decl inner) b)
  local_decl_within true = local_exceed many
  local_decl_within false = local_decl

  local_decls_by : {more : Reader (List Decl)} (found : List Decl) → IsLocal more → (b : Bool) → IsLocal (r.decls_by inner more found b)
  local_decls_by found more true = more
  local_decls_by found more false = local_pure _

  local_decls_full : (found : List Decl) (b : Bool) → IsLocal (r.decls_full inner found b)
  local_decls_full found true = local_exceed many
  local_decls_full found false = local_pure _

  local_decls : (m n : ℕ) (found : List Decl) → IsLocal (r.decls inner m n found)
  unfolding r.decls
  local_decls zero n found = local_look (λ o. local_decls_full found (begins_decl o))
  local_decls (suc m) n found = local_look (λ o. local_decls_by found (local_then
      (local_decl_within (r.is_root_over inner (is k.Root o) n))
      (λ x. local_decls m (r.roots_left inner (is k.Root o) n) (found ++ x ∷ []))) (begins_decl o))

  -- ---- files

  local_main : IsLocal (r.main inner)
  unfolding r.main
  local_main = local_spotted (λ spot. local_after k.Main (local_then local_param (λ x. local_then local_box
      (λ post. local_then (inners a_body)
      (λ y. local_pure (record { spot = spot; result = x.name; sort = x.sort; post = post; body = y }))))))

  local_version_by : (n : ℕ) (b : Bool) → IsLocal (r.version_by inner n b)
  local_version_by n true = local_next (local_pure n)
  local_version_by n false = local_exceed version

  local_version_at : (b : Bool) → IsLocal (r.version_at inner b)
  local_version_at true = local_valued (λ n. local_version_by n (n == 1))
  local_version_at false = local_refuse

  local_version_number : IsLocal (r.version_number inner)
  unfolding r.version_number
  local_version_number = local_look (λ o. local_version_at (is k.Num o))

  local_file : IsLocal (r.file inner)
  unfolding r.file
  local_file = local_after k.Tht (local_then local_version_number (λ n. local_then (local_decls 2000 256 [])
      (λ ds. local_map _ local_main)))

  pub local_construct : (n : Nested) → IsLocal (r.construct inner n)
  local_construct a_term = local_term
  local_construct after_not = local_neg
  local_construct after_link = local_app
  local_construct after_len = local_prim
  local_construct an_assn = local_assn
  local_construct after_either = local_apr
  local_construct a_proof = local_proof
  local_construct a_give = local_give
  local_construct after_prefix = local_gpr
  local_construct a_body = local_body

pub local_nested : (more : ℕ) (n : Nested) → IsLocal (r.nested more n)
unfolding r.nested
local_nested zero n = local_deep (begins n)
local_nested (suc more) n = local_construct (r.nested more) (local_nested more) n

-- a file, with so many constructs inside one another
pub file_is_local : (more : ℕ) → IsLocal (r.file (r.nested more))
file_is_local more = local_file (r.nested more) (local_nested more)
