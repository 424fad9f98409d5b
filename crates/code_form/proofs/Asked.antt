-- What a statement asks for is what the program in front asks for.
use Rattle.std.proofs.Common.{◌≡◌, ℕ, zero, suc, Bool, true, false, List, [], ◌∷◌, length, slice_get, refl, sym, ◌∙◌, ap, subst, Option, Some, None, ◌⊎◌, inl, inr, arith, ltb}
use Rattle.std.proofs.lemmas.Bool.{lt-ltb, le-ltb, ltb-true, ltb-false}
use Rattle.tht_tree.specs.declared.plain.Value.{Value}
use Rattle.tht_logic.specs.Machine.{Cmd, Prog, and_then}
use Rattle.code_form.specs.declared.code.Node.{Node}
use Rattle.code_form.specs.declared.code.Node.TheVariants as node
use Rattle.code_form.specs.declared.code.Proc.{Proc}
use Rattle.code_form.specs.declared.ask.Ask.{Ask}
use Rattle.code_form.specs.declared.frames.Front.{Front}
use Rattle.code_form.specs.declared.frames.Front.TheVariants as f
use Rattle.code_form.specs.Stack.{front_prog, IsPlainFront}
use Rattle.code_form.specs.Eval.{eval_of, all_of}
use Rattle.code_form.specs.Means.{Means, means_at, meaning, names_of, or_cmd, or_cmds, calling, cut}
use Rattle.code_form.specs.Turns.{is_plain, plain_at}
use Rattle.code_form.specs.Fronts.{front_ask, cmd_ask}
use Rattle.code_form.specs.Statements.{node_ask, or_ask, alloc_ask, call_ask}
use Rattle.code_form.proofs.Built.{means_is}

-- a body with a number, or none
pub record IsBody (bodies : List Proc) (f : ℕ) : Type 0 where
  pub body : Proc
  pub is : slice_get bodies f ≡ Some body
  pub name : slice_get (names_of bodies) f ≡ Some body.name
  pub less : ltb f (length bodies) ≡ true

pub record IsNoBody (bodies : List Proc) (f : ℕ) : Type 0 where
  pub name : slice_get (names_of bodies) f ≡ None
  pub less : ltb f (length bodies) ≡ false

pub body_or_none : (bodies : List Proc) (f : ℕ) → IsBody bodies f ⊎ IsNoBody bodies f
body_or_none [] f = inr (record { name = refl; less = le-ltb f 0 (omega arith) })
body_or_none (b ∷ bs) zero = inl (record { body = b; is = refl; name = refl; less = lt-ltb 0 (length (b ∷ bs)) (omega arith) })
body_or_none (b ∷ bs) (suc f) = elim (body_or_none bs f) [
  | inl h ↦ inl (record { body = h.body; is = h.is; name = h.name; less = let l = ltb-true f (length bs) h.less in lt-ltb (suc f) (length (b ∷ bs)) (omega (arith, l)) })
  | inr h ↦ inr (record { name = h.name; less = let l = ltb-false f (length bs) h.less in le-ltb (suc f) (length (b ∷ bs)) (omega (arith, l)) })
]

cmd_is : (o : Option Value) (f : Value → Cmd) (g : Value → Ask) → ((v : Value) → g v ≡ cmd_ask (f v)) → or_ask o g ≡ cmd_ask (or_cmd o f)
cmd_is None f g h = refl
cmd_is (Some v) f g h = h v

alloc_is : (o : Option (List Value)) (f : List Value → Cmd) → ((vs : List Value) → alloc_ask (Some vs) ≡ cmd_ask (f vs)) → alloc_ask o ≡ cmd_ask (or_cmds o f)
alloc_is None f h = refl
alloc_is (Some vs) f h = h vs

-- a call, by what is known of its body and of its arguments
call_by : (b : Bool) (name : Option (List ℕ)) (o : Option (List Value)) (rest k : Value → Prog) → ((b ≡ true) × ((n : List ℕ) × (name ≡ Some n))) ⊎ ((b ≡ false) × (name ≡ None)) →
    call_ask b o ≡ front_ask (and_then (calling name o rest) k)
call_by true (Some n) None rest k h = refl
call_by true (Some n) (Some vs) rest k h = refl
call_by false None o rest k h = refl
call_by true None o rest k (inl h) = let e = h.1.1 in cc
call_by true None o rest k (inr h) = let e = h.0 in cc
call_by false (Some n) o rest k (inl h) = let e = h.0 in cc
call_by false (Some n) o rest k (inr h) = let e = h.1 in cc

module _ (bodies : List Proc) where
  call_is : (f : ℕ) (o : Option (List Value)) (rest k : Value → Prog) → call_ask (ltb f (length bodies)) o ≡ front_ask (and_then (calling (slice_get (names_of bodies) f) o rest) k)
  call_is f o rest k = call_by (ltb f (length bodies)) (slice_get (names_of bodies) f) o rest k (elim (body_or_none bodies f) [
    | inl h ↦ inl (h.less, (h.body.name, h.name))
    | inr h ↦ inr (h.less, h.name)
  ])

  pub ask_is : (go : ℕ → Means) (k : Value → Prog) (n : Node) (env : List Value) → is_plain n ≡ true → node_ask (length bodies) n env ≡ front_ask (and_then (means_at (names_of bodies) go n env) k)
  ask_is go k (node.Ret e) env h = cc
  ask_is go k (node.Leave e keep next) env h = cc
  ask_is go k (node.If e p q) env h = cc
  ask_is go k (node.Read s e next) env h = cmd_is (eval_of e env) _ _ (λ v. refl)
  ask_is go k (node.Write e f next) env h = cmd_is (eval_of e env) (λ v. or_cmd (eval_of f env) _) (λ v. or_ask (eval_of f env) _) (λ v. cmd_is (eval_of f env) _ _ (λ w. refl))
  ask_is go k (node.Alloc es next) env h = alloc_is (all_of env es) _ (λ vs. refl)
  ask_is go k (node.Free e next) env h = cmd_is (eval_of e env) _ _ (λ v. refl)
  ask_is go k (node.Publish e next) env h = cmd_is (eval_of e env) _ _ (λ v. refl)
  ask_is go k (node.Retract e next) env h = cmd_is (eval_of e env) _ _ (λ v. refl)
  ask_is go k (node.Atomic p next) env h = refl
  ask_is go k (node.Fork p q next) env h = refl
  ask_is go k (node.Call f es next) env h = call_is f (all_of env es) (λ v. go next _) k

  pub asked_at : (nodes : List Node) (front : Front) (i : ℕ) (n : Node) (env : List Value) (k : Value → Prog) → front ≡ f.At i → slice_get nodes i ≡ Some n → IsPlainFront nodes front →
      node_ask (length bodies) n env ≡ front_ask (front_prog (meaning (names_of bodies) nodes) front env k)
  asked_at nodes front i n env k h e plain =
      let is : is_plain n ≡ true = sym (ap plain_at e) ∙ subst (IsPlainFront nodes) h plain in
      ask_is (cut i (meaning (names_of bodies) nodes)) k n env is ∙ ap (λ (m : Means). front_ask (and_then (m env) k)) (sym (means_is (names_of bodies) nodes i n e)) ∙ ap (λ x. front_ask (front_prog (meaning (names_of bodies) nodes) x env k)) (sym h)
