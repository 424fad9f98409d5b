-- What a node does at once leaves its meaning as it is.
use Rattle.std.proofs.Common.{◌≡◌, ℕ, ◌<◌, ◌≤◌, Bool, true, false, cond, List, [], ◌∷◌, ◌++◌, take, drop, slice_get, refl, sym, ◌∙◌, ap, subst, Option, Some, None}
use Rattle.std.specs.Prelude.{ltb}
use Rattle.std.proofs.lemmas.Bool.{lt-ltb, le-ltb}
use Rattle.tht_tree.specs.declared.plain.Value.{Value}
use Rattle.tht_tree.specs.Values.{bool_in}
use Rattle.tht_logic.specs.Machine.{Prog, Ended, FrontBig}
use Rattle.code_form.specs.declared.code.Node.{Node}
use Rattle.code_form.specs.declared.code.Node.TheVariants as node
use Rattle.code_form.specs.declared.walk.Turn.{Turn}
use Rattle.code_form.specs.declared.walk.Turn.TheVariants.{Stay, Goes, Leaves, Gives, TooBig}
use Rattle.code_form.specs.Eval.{eval_of}
use Rattle.tht_tree.specs.Syntax.{Names}
use Rattle.code_form.specs.Means.{Means, means_at, meaning, or_big, cut, pick}
use Rattle.code_form.specs.Turns.{turn_of, turn_prog, or_turn, is_plain, plain_at}
use Rattle.code_form.proofs.Built.{means_is, means_beyond}

module _ (names : Names) where
  gives_is : (go : ℕ → Means) (n : Node) (env : List Value) (o : Option Value) (f : Value → Prog) (t : Value → Turn) → ((v : Value) → f v ≡ turn_prog names go (t v) n env) → or_big o f ≡ turn_prog names go (or_turn o t) n env
  gives_is go n env None f t h = refl
  gives_is go n env (Some v) f t h = h v

  if_is : (go : ℕ → Means) (n : Node) (env : List Value) (p q : ℕ) (b : Bool) → cond b (go p env) (go q env) ≡ turn_prog names go (cond b (Goes p) (Goes q)) n env
  if_is go n env p q true = refl
  if_is go n env p q false = refl

  pub turn_is : (go : ℕ → Means) (n : Node) (env : List Value) → means_at names go n env ≡ turn_prog names go (turn_of n env) n env
  turn_is go (node.If e p q) env = gives_is go (node.If e p q) env (eval_of e env) _ (λ v. cond (bool_in v) (Goes p) (Goes q)) (λ v. if_is go (node.If e p q) env p q (bool_in v))
  turn_is go (node.Leave e gone next) env = gives_is go (node.Leave e gone next) env (eval_of e env) _ (Leaves gone next) (λ v. refl)
  turn_is go (node.Ret e) env = gives_is go (node.Ret e) env (eval_of e env) _ Gives (λ v. refl)
  turn_is go _ env = refl

  -- the meaning at a number, by the node's turn
  pub turned : (nodes : List Node) (i : ℕ) (n : Node) (env : List Value) (t : Turn) → slice_get nodes i ≡ Some n → t ≡ turn_of n env → turn_prog names (cut i (meaning names nodes)) t n env ≡ meaning names nodes i env
  turned nodes i n env t e h =
      ap (λ t. turn_prog names (cut i (meaning names nodes)) t n env) h ∙ sym (turn_is (cut i (meaning names nodes)) n env) ∙ sym (ap (λ (m : Means). m env) (means_is names nodes i n e))

  pub cut_below : (i j : ℕ) (go : ℕ → Means) (env : List Value) → j < i → cut i go j env ≡ go j env
  cut_below i j go env h = ap (λ b. cond b (go j env) FrontBig) (lt-ltb j i h)

  pub cut_above : (i j : ℕ) (go : ℕ → Means) (env : List Value) → i ≤ j → cut i go j env ≡ FrontBig
  cut_above i j go env h = ap (λ b. cond b (go j env) FrontBig) (le-ltb j i h)

  -- the same, where the node's place and its values are told by others
  pub turned_at : (nodes : List Node) (i : ℕ) (n : Node) (values values' env : List Value) (base : ℕ) (t : Turn) → slice_get nodes i ≡ Some n → values' ≡ values → env ≡ drop base values' → t ≡ turn_of n env →
      turn_prog names (cut i (meaning names nodes)) t n (drop base values) ≡ meaning names nodes i (drop base values)
  turned_at nodes i n values values' env base t e v d h = turned nodes i n (drop base values) t e (h ∙ ap (turn_of n) (d ∙ ap (drop base) v))

  pub to_below : (nodes : List Node) (i j : ℕ) (env env' : List Value) → j < i → cut i (meaning names nodes) j env ≡ meaning names nodes i env' → meaning names nodes j env ≡ meaning names nodes i env'
  to_below nodes i j env env' h e = sym (cut_below i j (meaning names nodes) env h) ∙ e

  pub to_above : (nodes : List Node) (i j : ℕ) (env env' : List Value) → i ≤ j → cut i (meaning names nodes) j env ≡ meaning names nodes i env' → FrontBig ≡ meaning names nodes i env'
  to_above nodes i j env env' h e = sym (cut_above i j (meaning names nodes) env h) ∙ e

  pub beyond : (nodes : List Node) (i : ℕ) (env : List Value) → slice_get nodes i ≡ None → FrontBig ≡ meaning names nodes i env
  beyond nodes i env e = sym (means_beyond names nodes i env e)

  stay_plain : (n : Node) (env : List Value) → Stay ≡ turn_of n env → is_plain n ≡ true
  stay_plain (node.If e p q) env h = or_stay (eval_of e env) (λ v. cond (bool_in v) (Goes p) (Goes q)) (λ v. if_stay (bool_in v)) h
    where
      if_stay : (b : Bool) → Stay ≡ cond b (Goes p) (Goes q) → false ≡ true
      if_stay true e = cc
      if_stay false e = cc

      or_stay : (o : Option Value) (f : Value → Turn) → ((v : Value) → Stay ≡ f v → false ≡ true) → Stay ≡ or_turn o f → false ≡ true
      or_stay None f g e = cc
      or_stay (Some v) f g e = g v e
  stay_plain (node.Leave e gone next) env h = or_stay (eval_of e env) h
    where
      or_stay : (o : Option Value) → Stay ≡ or_turn o (Leaves gone next) → false ≡ true
      or_stay None e = cc
      or_stay (Some v) e = cc
  stay_plain (node.Ret e) env h = or_stay (eval_of e env) h
    where
      or_stay : (o : Option Value) → Stay ≡ or_turn o Gives → false ≡ true
      or_stay None e = cc
      or_stay (Some v) e = cc
  stay_plain _ env h = refl

  pub stays_plain : (nodes : List Node) (i : ℕ) (n : Node) (env : List Value) → slice_get nodes i ≡ Some n → Stay ≡ turn_of n env → plain_at (slice_get nodes i) ≡ true
  stays_plain nodes i n env e h = ap plain_at e ∙ stay_plain n env h
