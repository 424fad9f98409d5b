-- The places of procs, and the heads that are declared there.
use Rattle.std.proofs.Common.{◌≡◌, ℕ, suc, ◌+◌, Bool, true, false, cond, List, [], ◌∷◌, Option, Some, None, refl, sym, ◌∙◌, ap, arith}
use Rattle.std.specs.Prelude.{bytes_eq, option_and_then, option_map}
use Rattle.std.specs.List.{slice_get}
use Rattle.std.specs.BTreeMap.{BTreeMap}
use Rattle.std.specs.declared.string.String.{String}
use Rattle.tht_tree.specs.declared.decl.Decl.{Decl}
use Rattle.tht_tree.specs.declared.decl.DeclKind.{DeclKind}
use Rattle.tht_tree.specs.declared.decl.DeclKind.TheVariants as d
use Rattle.tht_tree.specs.declared.decl.Head.{Head}
use Rattle.tht_logic.specs.Procedures.{Procedures, Procedure, with_declared_procedure, with_procedures, procedures_of}
use Rattle.heap_rules.specs.PredicatePlaces.{ByName, proc_name_of, with_place, places_from, last_at, head_in, head_at, places_in, AreNamed, AreProcs}

-- the head of a proc, if there is one
abbrev pub head_of : Option Procedure → Option Head
head_of o = option_map (λ x. x.head) o

-- one declaration more
head_step : (k : DeclKind) (n : ℕ) (known : ByName) (others : Procedures) (all : List Decl) (y : List ℕ) → head_at (Some n) all ≡ head_in k → head_at (known y) all ≡ head_of (others y)
    → head_at (with_place proc_name_of k n known y) all ≡ head_of (with_declared_procedure k others y)
head_step (d.Proc x body) n known others all y h g = by (bytes_eq x.name y)
  where
    by : (b : Bool) → head_at (cond b (Some n) (known y)) all ≡ head_of (cond b (Some (record { head = x; body = body })) (others y))
    by true = h
    by false = g
head_step (d.Pred a q ps p) n known others all y h g = g
head_step (d.PredOn a q ps x nil m s cons) n known others all y h g = g
head_step (d.Root x s v) n known others all y h g = g
head_step (d.Invariant a x) n known others all y h g = g
head_step (d.Lemma l) n known others all y h g = g
head_step (d.Txn a b) n known others all y h g = g

heads_from : (xs : List Decl) (n : ℕ) (known : ByName) (others : Procedures) (all : List Decl) → ((k : ℕ) → slice_get all (n + k) ≡ slice_get xs k) → ((y : List ℕ) → head_at (known y) all ≡ head_of (others y))
    → (y : List ℕ) → head_at (places_from proc_name_of n known xs y) all ≡ head_of (with_procedures others xs y)
heads_from [] n known others all at h y = h y
heads_from (x ∷ xs) n known others all at h y =
    let first : slice_get all n ≡ Some x = ap (slice_get all) (omega arith) ∙ at 0 in
    heads_from xs (suc n) (with_place proc_name_of x.kind n known) (with_declared_procedure x.kind others) all
    (λ k. ap (slice_get all) (omega arith) ∙ at (suc k))
    (λ z. head_step x.kind n known others all z (ap (option_and_then (λ w. head_in w.kind)) first) (h z)) y

-- the heads by their names are those at the last places
last_heads : (decls : List Decl) (y : List ℕ) → head_at (last_at proc_name_of decls y) decls ≡ head_of (procedures_of decls y)
last_heads decls y = heads_from decls 0 (λ q. None) (λ f. None) decls (λ k. ap (slice_get decls) (omega arith)) (λ z. refl) y

pub head_there : {Y : Type 0} (m : BTreeMap (String Y) ℕ) (decls : List Decl) (x : List ℕ) (o : Option ℕ) → AreProcs m decls → places_in m x ≡ o → head_at o decls ≡ head_of (procedures_of decls x)
unfolding AreNamed
head_there m decls x o are e = ap (λ z. head_at z decls) (sym e ∙ are x) ∙ last_heads decls x
