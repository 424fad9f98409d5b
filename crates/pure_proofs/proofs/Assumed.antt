-- What is known with one more hypothesis, and without it again.
use Rattle.std.proofs.Common.{◌≡◌, ℕ, ◌+◌, ◌-◌, ◌^◌, ◌<◌, true, ◌&&◌, leb, min, List, [], ◌∷◌, ◌++◌, Option, None, Result, Ok, Err, refl, sym, ◌∙◌, ap, arith}
use Rattle.std.proofs.lemmas.Bool.{lt-ltb, leb-true}
use Rattle.std.proofs.lemmas.List.Sums.{sum_by_push}
use Rattle.std.specs.Prelude.{IfErr}
use Rattle.tht_tree.specs.declared.term.Term.{Term}
use Rattle.tht_tree.specs.Rules.Context.{Context, context_nodes}
use Rattle.tht_tree.specs.Rules.Known.{with_hyp, hyp_fits}
use Rattle.tht_tree.specs.Rules.Sizes.{nodes, formula_fits}
use Rattle.tht_tree.specs.declared.rule.RuleRefusal.{RuleRefusal}
use Rattle.pure_proofs.specs.declared.refusal.Refusal.{Refusal}
use Rattle.pure_proofs.specs.declared.refusal.Refusal.TheVariants.{Rule, Memory}
use Rattle.pure_proofs.specs.Verdicts.{IsVerdict}

head_of : {A : Type 0} → A → List A → A
head_of d [] = d
head_of d (x ∷ xs) = x

tail_of : {A : Type 0} → List A → List A
tail_of [] = []
tail_of (x ∷ xs) = xs

no_end : {A B : Type 0} (ys : List A) (y : A) → [] ≡ ys ++ y ∷ [] → B
no_end [] y e = cc
no_end (z ∷ ys) y e = cc

-- two lists with a last item each
pub last_same : {A : Type 0} (xs ys : List A) (x y : A) → xs ++ x ∷ [] ≡ ys ++ y ∷ [] → (xs ≡ ys) × (x ≡ y)
last_same [] [] x y e = (refl, cc)
last_same [] (b ∷ ys) x y e = let f : [] ≡ ys ++ y ∷ [] = cc in no_end ys y f
last_same (a ∷ xs) [] x y e = let f : [] ≡ xs ++ x ∷ [] = cc in no_end xs x f
last_same (a ∷ xs) (b ∷ ys) x y e =
    let f : xs ++ x ∷ [] ≡ ys ++ y ∷ [] = cc in
    let g : a ≡ b = cc in
    let h = last_same xs ys x y f in
    ((λ i. g i ∷ h.0 i), h.1)

pub none_empty : {A B : Type 0} (xs ys : List A) (y : A) → xs ≡ [] → xs ≡ ys ++ y ∷ [] → B
none_empty xs ys y e f = no_end ys y (sym e ∙ f)

pub with_hyp_nodes : (c : Context) (h : List ℕ) (u : Term) → context_nodes (with_hyp c h u) ≡ context_nodes c + nodes u
with_hyp_nodes c h u = let e = sum_by_push (λ g. nodes g.formula) c.hyps (record { name = h; formula = u }) in omega (arith, e)

-- how many nodes there are with a hypothesis more
pub nodes_more : (c : Context) (h : List ℕ) (u : Term) (n s m : ℕ) → n ≡ context_nodes c → s ≡ min (nodes u) (2 ^ 64 - 1) → m ≡ min (n + s) (2 ^ 64 - 1) → m ≡ min (context_nodes (with_hyp c h u)) (2 ^ 64 - 1)
nodes_more c h u n s m counted size sum = let more = with_hyp_nodes c h u in omega (arith, more, counted, size, sum)

-- a hypothesis within the limits, by a count of the nodes that stays at 2^64 - 1
pub hyp_within : (c : Context) (h : List ℕ) (u : Term) (m : ℕ) → m ≡ min (context_nodes (with_hyp c h u)) (2 ^ 64 - 1) → c.made < 2 ^ 32 → true ≡ formula_fits u → true ≡ leb m 262144 → hyp_fits c h u ≡ true
hyp_within c h u m counted below small e =
    let low = leb-true m 262144 (sym e) in
    let same : m ≡ context_nodes (with_hyp c h u) = omega (arith, counted, low) in
    let within : leb (context_nodes (with_hyp c h u)) 262144 ≡ true = ap (λ k. leb k 262144) (sym same) ∙ sym e in
    (λ i. sym small i && (within i && lt-ltb c.made (2 ^ 32) below i))

-- where nothing is refused, want of memory alone may be answered
pub memory_alone : {A : Type 0} (r : Result A Refusal) (said : Option RuleRefusal) → IfErr r (λ e. e ≡ Memory) → said ≡ None → IsVerdict r said
memory_alone (Ok x) said h none = none
memory_alone (Err Memory) said h none = tt
memory_alone (Err (Rule r)) said h none = cc
