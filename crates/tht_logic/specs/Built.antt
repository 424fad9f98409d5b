-- Which files `run` takes so far: those of which every form is built. All terms are; all proofs but `lemma`; all assertions but shared
-- cells; all gives; all steps but `use`; of statements those on private cells, calls and `do`; all ends; of declarations private predicates by one
-- case, and procs.
use Rattle.std.specs.Prelude.{Bool, true, false, ◌&&◌, List, [], ◌∷◌}
use Rattle.std.specs.List.{list_all}
use Rattle.tht_tree.specs.declared.assn.Assn.{Assn, fold-Assn}
use Rattle.tht_tree.specs.declared.assn.Assn.TheOpen as a
use Rattle.tht_tree.specs.declared.proof.Proof.{Proof, fold-Proof}
use Rattle.tht_tree.specs.declared.proof.ProofKind.TheOpen as p
use Rattle.tht_tree.specs.declared.give.Give.{Give, fold-Give}
use Rattle.tht_tree.specs.declared.give.GiveKind.TheOpen as g
use Rattle.tht_tree.specs.declared.step.StepKind.{StepKind}
use Rattle.tht_tree.specs.declared.step.StepKind.TheVariants as t
use Rattle.tht_tree.specs.declared.body.Body.{Body, fold-Body}
use Rattle.tht_tree.specs.declared.body.EndKind.TheOpen as b
use Rattle.tht_tree.specs.declared.decl.Access.TheVariants.{Private}
use Rattle.tht_tree.specs.declared.decl.DeclKind.{DeclKind}
use Rattle.tht_tree.specs.declared.decl.DeclKind.TheVariants as d
use Rattle.tht_tree.specs.declared.file.Source1.{Source1}

abbrev pub proof_at : p.ProofKind-F Bool Bool Bool → Bool
proof_at (p.Recast t q) = q
proof_at (p.Sym q) = q
proof_at (p.Both q r) = q && r
proof_at (p.Subst x s t a b q r) = q && r
proof_at (p.Pair q r) = q && r
proof_at (p.Fst t q) = q
proof_at (p.Snd t q) = q
proof_at (p.Inl q) = q
proof_at (p.Inr q) = q
proof_at (p.Cases t q h r g u) = q && r && u
proof_at (p.Fun h q) = q
proof_at (p.App t q r) = q && r
proof_at (p.Neg t q r) = q && r
proof_at (p.Absurd q) = q
proof_at (p.Em t h q g r) = q && r
proof_at (p.Lin k entries) = list_all (λ e. e) entries
proof_at (p.Monus q) = q
proof_at (p.Head s u q) = q
proof_at (p.Tail x y q) = q
proof_at (p.Lemma l ts q) = false
proof_at _ = true

abbrev pub entry_at : p.LinEntry-F Bool Bool Bool → Bool
entry_at e = e.proof

abbrev pub spotted_proof : p.Proof-F Bool Bool Bool → Bool
spotted_proof x = x.kind

-- no proof in it is a lemma's
unfoldable pub proof : Proof → Bool
proof = fold-Proof Bool Bool Bool proof_at entry_at spotted_proof

abbrev pub give_at : g.GiveKind-F Bool Bool → Bool
give_at (g.Fact q) = proof q
give_at (g.Star x y) = x && y
give_at (g.Ex t x) = x
give_at (g.Left x) = x
give_at (g.Right x) = x
give_at (g.Fold x) = x
give_at _ = true

abbrev pub spotted_give : g.Give-F Bool Bool → Bool
spotted_give x = x.kind

unfoldable pub give : Give → Bool
give = fold-Give Bool Bool give_at spotted_give

abbrev pub assn_at : a.Assn-F Bool → Bool
assn_at (a.Shared t u) = false
assn_at (a.Star p q) = p && q
assn_at (a.Exists x r p) = p
assn_at (a.Either p q) = p && q
assn_at _ = true

-- no cell in it is shared
unfoldable pub assn : Assn → Bool
assn = fold-Assn Bool assn_at

abbrev pub step : StepKind → Bool
step (t.Have h u q) = proof q
step (t.Fold p ts x) = give x
step (t.Rewrite i k u q) = proof q
step (t.Use l ts x) = false
step _ = true

-- whether each form in a part of a body is built
abbrev pub stmt_at : b.StmtKind-F Bool Bool Bool Bool Bool → Bool
stmt_at (b.Read x r u i h q) = proof q
stmt_at (b.Write u w i q) = proof q
stmt_at (b.Alloc x ts) = true
stmt_at (b.Free u i q) = proof q
stmt_at (b.Call x f us ws g) = give g
stmt_at (b.Do x r ns inner p) = inner && assn p
stmt_at (b.Proof x) = step x.kind
stmt_at _ = false

abbrev pub end_at : b.EndKind-F Bool Bool Bool Bool Bool → Bool
end_at (b.Ret u g) = give g
end_at (b.If u h x y) = x && y
end_at (b.CaseAtom i x y) = x && y
end_at (b.CaseBool u h x y) = x && y
end_at (b.CaseSeq u h x n s y) = x && y
end_at (b.Dead q x) = proof q && x

abbrev pub body_at : b.Body-F Bool Bool Bool Bool Bool → Bool
body_at x = list_all (λ s. s) x.stmts && x.end

abbrev pub spotted_end : b.End-F Bool Bool Bool Bool Bool → Bool
spotted_end x = x.kind

abbrev pub spotted_stmt : b.Stmt-F Bool Bool Bool Bool Bool → Bool
spotted_stmt x = x.kind

unfoldable pub body : Body → Bool
body = fold-Body Bool Bool Bool Bool Bool end_at stmt_at body_at spotted_end spotted_stmt

-- a predicate of private cells that is not defined by cases, and a proc
abbrev pub decl : DeclKind → Bool
decl (d.Pred Private q ps p) = assn p
decl (d.Proc head x) = assn head.pre && assn head.post && body x
decl _ = false

abbrev pub is_built : Source1 → Bool
is_built file = list_all (λ x. decl x.kind) file.decls && assn file.main.post && body file.main.body
