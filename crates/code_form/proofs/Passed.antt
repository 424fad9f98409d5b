-- Going on after a statement goes past it.
use Rattle.std.proofs.Common.{◌≡◌, ℕ, suc, ◌<◌, true, List, [], ◌∷◌, ◌++◌, length, slice_get, refl, sym, ◌∙◌, ap, subst, Option, Some, None, arith, inl, inr}
use Rattle.std.proofs.lemmas.Bool.{ltb-true}
use Rattle.std.proofs.lemmas.List.{append-nil}
use Rattle.tht_tree.specs.declared.plain.Value.{Value}
use Rattle.tht_tree.specs.declared.plain.Value.TheVariants as v
use Rattle.tht_tree.specs.declared.plain.Place.{Place}
use Rattle.tht_tree.specs.declared.plain.Sort.{Sort}
use Rattle.tht_tree.specs.Syntax.{Names}
use Rattle.tht_tree.specs.Values.{place_in, unit_value}
use Rattle.tht_logic.specs.Machine as machine
use Rattle.tht_logic.specs.Machine.{Cmd, Prog, Ended, FrontBig, Plain, Bodies, and_then}
use Rattle.code_form.specs.declared.expr.Expr.{Expr}
use Rattle.code_form.specs.declared.code.Code.{Code}
use Rattle.code_form.specs.declared.code.Node.{Node}
use Rattle.code_form.specs.declared.code.Node.TheVariants as node
use Rattle.code_form.specs.declared.ways.After.{After}
use Rattle.code_form.specs.declared.ways.Into.{Into}
use Rattle.code_form.specs.declared.ways.Told.{Told}
use Rattle.code_form.specs.declared.ways.Told.TheVariants.{Went, Got}
use Rattle.code_form.specs.declared.ways.Told.TheVariants as told
use Rattle.code_form.specs.declared.ways.Joined.{Joined}
use Rattle.code_form.specs.declared.ways.Way.{Way}
use Rattle.code_form.specs.declared.ways.Way.TheVariants.{On, In, Nowhere}
use Rattle.code_form.specs.Eval.{eval_of, with_first, all_of}
use Rattle.code_form.specs.declared.frames.Front.TheVariants as front
use Rattle.code_form.specs.StackValue.{StackValue}
use Rattle.code_form.specs.Codes.{means_of, at_body, bodies_of, body_at}
use Rattle.code_form.specs.Means.{Means, means_at, names_of, AreFound, or_cmd, or_cmds, calling, cut}
use Rattle.code_form.specs.Stack.{value_or_unit, arguments_of, values_in, front_prog, IsPlainFront}
use Rattle.code_form.specs.Stacks.{env_of, behind_of, stack_prog}
use Rattle.code_form.specs.Turns.{is_plain, plain_at}
use Rattle.code_form.specs.Statements.{way_in, arguments_in}
use Rattle.code_form.specs.Fronts.{CanTell, FrontTakes, past, front_after, cells_of, front_cells}
use Rattle.code_form.proofs.Built.{means_is}
use Rattle.code_form.proofs.Asked.{body_or_none}

-- ---- lists of values

abbrev some_values : List Value → Option (List Value) → List Value
some_values d None = d
some_values d (Some vs) = vs

length_first : (o : Option Value) (p : Option (List Value)) (n : ℕ) (vs : List Value) → ((ws : List Value) → p ≡ Some ws → length ws ≡ n) → with_first o p ≡ Some vs → length vs ≡ suc n
length_first None p n vs h e = cc
length_first (Some w) None n vs h e = cc
length_first (Some w) (Some ws) n vs h e = let same : w ∷ ws ≡ vs = ap (some_values vs) e in let l = h ws refl in ap length (sym same) ∙ omega (arith, l)

length_all : (env : List Value) (es : List Expr) (vs : List Value) → all_of env es ≡ Some vs → length vs ≡ length es
length_all env [] vs e = ap length (sym (ap (some_values vs) e))
length_all env (x ∷ es) vs e = length_first (eval_of x env) (all_of env es) (length es) vs (length_all env es) e ∙ omega arith

arguments_first : (o : Option Value) (p : Option (List Value)) (us vs : List Value) → ((ws : List Value) → p ≡ Some ws → us ≡ ws) → with_first o p ≡ Some vs → value_or_unit o ∷ us ≡ vs
arguments_first None p us vs h e = cc
arguments_first (Some w) None us vs h e = cc
arguments_first (Some w) (Some ws) us vs h e = ap (λ xs. w ∷ xs) (h ws refl) ∙ ap (some_values vs) e

pub arguments_are : (env : List Value) (es : List Expr) (vs : List Value) → all_of env es ≡ Some vs → arguments_of env es ≡ vs
arguments_are env [] vs e = ap (some_values vs) e
arguments_are env (x ∷ es) vs e = arguments_first (eval_of x env) (all_of env es) (arguments_of env es) vs (arguments_are env es) e

-- ---- going on

abbrev after_in : After → Way → After
after_in a (On b) = b
after_in a _ = a

abbrev into_in : Into → Way → Into
into_in a (In b) = b
into_in a _ = a

module _ (names : Names) (F : Bodies) (place : Place) (go : ℕ → Means) (env : List Value) (k : Value → Prog) where
  abbrev pub standing : Node → Prog
  standing n = and_then (means_at names go n env) k

  -- what follows a statement that binds a value, and one that binds none
  binds : ℕ → Value → Prog
  binds next w = and_then (go next (env ++ w ∷ [])) k

  pub record IsPassed (n : Node) (told : Told) (a : After) : Type 0 where
    pub program : and_then (go a.next (env ++ values_in a.bound)) k ≡ front_after F place (standing n) told
    pub cells : front_cells (standing n) ≡ a.cells

  read_is : (s : Sort) (o : Option Value) (w : Value) (rest : Value → Prog) → CanTell (or_cmd o (λ x. machine.Read s (place_in x))) (Got w) →
      (rest w ≡ past F place (or_cmd o (λ x. machine.Read s (place_in x))) (Got w) rest) × (cells_of (or_cmd o (λ x. machine.Read s (place_in x))) ≡ 0)
  read_is s None w rest t = absurd t
  read_is s (Some x) w rest t = (refl, refl)

  write_is : (o p : Option Value) (rest : Value → Prog) → CanTell (or_cmd o (λ x. or_cmd p (machine.Write (place_in x)))) Went →
      (rest unit_value ≡ past F place (or_cmd o (λ x. or_cmd p (machine.Write (place_in x)))) Went rest) × (cells_of (or_cmd o (λ x. or_cmd p (machine.Write (place_in x)))) ≡ 0)
  write_is None p rest t = absurd t
  write_is (Some x) None rest t = absurd t
  write_is (Some x) (Some y) rest t = (refl, refl)

  free_is : (o : Option Value) (rest : Value → Prog) → CanTell (or_cmd o (λ x. machine.Free (place_in x))) Went →
      (rest unit_value ≡ past F place (or_cmd o (λ x. machine.Free (place_in x))) Went rest) × (cells_of (or_cmd o (λ x. machine.Free (place_in x))) ≡ 0)
  free_is None rest t = absurd t
  free_is (Some x) rest t = (refl, refl)

  publish_is : (o : Option Value) (rest : Value → Prog) → CanTell (or_cmd o (λ x. machine.Publish (place_in x))) Went →
      (rest unit_value ≡ past F place (or_cmd o (λ x. machine.Publish (place_in x))) Went rest) × (cells_of (or_cmd o (λ x. machine.Publish (place_in x))) ≡ 0)
  publish_is None rest t = absurd t
  publish_is (Some x) rest t = (refl, refl)

  retract_is : (o : Option Value) (rest : Value → Prog) → CanTell (or_cmd o (λ x. machine.Retract (place_in x))) Went →
      (rest unit_value ≡ past F place (or_cmd o (λ x. machine.Retract (place_in x))) Went rest) × (cells_of (or_cmd o (λ x. machine.Retract (place_in x))) ≡ 0)
  retract_is None rest t = absurd t
  retract_is (Some x) rest t = (refl, refl)

  alloc_is : (o : Option (List Value)) (n : ℕ) (rest : Value → Prog) → ((vs : List Value) → o ≡ Some vs → length vs ≡ n) → CanTell (or_cmds o machine.Alloc) Went →
      (rest (v.Loc place) ≡ past F place (or_cmds o machine.Alloc) Went rest) × (cells_of (or_cmds o machine.Alloc) ≡ n)
  alloc_is None n rest l t = absurd t
  alloc_is (Some vs) n rest l t = (refl, l vs refl)

  no_more : (next : ℕ) → and_then (go next (env ++ [])) k ≡ and_then (go next env) k
  no_more next = ap (λ (z : List Value). and_then (go next z) k) (append-nil env)

  pub passed : (n : Node) (told : Told) (a : After) → way_in n told place ≡ On a → FrontTakes (standing n) told → IsPassed n told a
  passed (node.Read s e next) (Got w) a i t =
      let is = read_is s (eval_of e env) w (λ x. and_then (go next (env ++ x ∷ [])) k) t in
      subst (IsPassed (node.Read s e next) (Got w)) (ap (after_in a) i) (record { program = is.0; cells = is.1 })
  passed (node.Write e f next) Went a i t =
      let is = write_is (eval_of e env) (eval_of f env) (λ x. and_then (go next env) k) t in
      subst (IsPassed (node.Write e f next) Went) (ap (after_in a) i) (record { program = no_more next ∙ is.0; cells = is.1 })
  passed (node.Alloc es next) Went a i t =
      let is = alloc_is (all_of env es) (length es) (λ x. and_then (go next (env ++ x ∷ [])) k) (length_all env es) t in
      subst (IsPassed (node.Alloc es next) Went) (ap (after_in a) i) (record { program = is.0; cells = is.1 })
  passed (node.Free e next) Went a i t =
      let is = free_is (eval_of e env) (λ x. and_then (go next env) k) t in
      subst (IsPassed (node.Free e next) Went) (ap (after_in a) i) (record { program = no_more next ∙ is.0; cells = is.1 })
  passed (node.Publish e next) Went a i t =
      let is = publish_is (eval_of e env) (λ x. and_then (go next env) k) t in
      subst (IsPassed (node.Publish e next) Went) (ap (after_in a) i) (record { program = no_more next ∙ is.0; cells = is.1 })
  passed (node.Retract e next) Went a i t =
      let is = retract_is (eval_of e env) (λ x. and_then (go next env) k) t in
      subst (IsPassed (node.Retract e next) Went) (ap (after_in a) i) (record { program = no_more next ∙ is.0; cells = is.1 })
  passed (node.Call f es next) Went a i t = cc
  passed (node.Call f es next) (Got w) a i t = cc
  passed (node.Read s e next) Went a i t = cc
  passed (node.Write e f next) (Got w) a i t = cc
  passed (node.Alloc es next) (Got w) a i t = cc
  passed (node.Free e next) (Got w) a i t = cc
  passed (node.Publish e next) (Got w) a i t = cc
  passed (node.Retract e next) (Got w) a i t = cc
  passed (node.Ret e) told a i t = cc
  passed (node.Leave e keep next) told a i t = cc
  passed (node.If e p q) told a i t = cc
  passed (node.Atomic p next) told a i t = absurd t
  passed (node.Fork p q next) told a i t = absurd t
  passed (node.Read s e next) (told.Joined ends) a i t = cc
  passed (node.Write e f next) (told.Joined ends) a i t = cc
  passed (node.Alloc es next) (told.Joined ends) a i t = cc
  passed (node.Free e next) (told.Joined ends) a i t = cc
  passed (node.Publish e next) (told.Joined ends) a i t = cc
  passed (node.Retract e next) (told.Joined ends) a i t = cc
  passed (node.Call f es next) (told.Joined ends) a i t = cc

  -- a call: its body has a name, and its arguments have values
  pub record IsCalling (n : Node) (told : Told) (x : Into) : Type 0 where
    pub name : List ℕ
    pub named : slice_get names x.body ≡ Some name
    pub values : List Value
    pub have : all_of env (arguments_in n) ≡ Some values
    pub program : front_after F place (standing n) told ≡ and_then (F name values) (λ w. and_then (go x.next (env ++ w ∷ [])) k)
    pub cells : front_cells (standing n) ≡ 0

  call_is : (f : ℕ) (es : List Expr) (next : ℕ) (name : Option (List ℕ)) (o : Option (List Value)) → slice_get names f ≡ name → all_of env es ≡ o →
      FrontTakes (and_then (calling name o (λ w. go next (env ++ w ∷ []))) k) Went → IsCalling (node.Call f es next) Went (record { body = f; next = next })
  call_is f es next None o e h t = absurd t
  call_is f es next (Some name) None e h t = absurd t
  call_is f es next (Some name) (Some vs) e h t = record {
    name = name;
    named = e;
    values = vs;
    have = h;
    program = ap (λ z. front_after F place (and_then (calling z (all_of env es) (λ w. go next (env ++ w ∷ []))) k) Went) e ∙ ap (λ z. front_after F place (and_then (calling (Some name) z (λ w. go next (env ++ w ∷ []))) k) Went) h;
    cells = ap (λ z. front_cells (and_then (calling z (all_of env es) (λ w. go next (env ++ w ∷ []))) k)) e ∙ ap (λ z. front_cells (and_then (calling (Some name) z (λ w. go next (env ++ w ∷ []))) k)) h;
  }

  pub called : (n : Node) (told : Told) (x : Into) → way_in n told place ≡ In x → FrontTakes (standing n) told → IsCalling n told x
  called (node.Call f es next) Went x i t = subst (IsCalling (node.Call f es next) Went) (ap (into_in x) i) (call_is f es next (slice_get names f) (all_of env es) refl refl t)
  called (node.Call f es next) (Got w) x i t = cc
  called (node.Read s e next) (Got w) x i t = cc
  called (node.Read s e next) Went x i t = cc
  called (node.Write e f next) Went x i t = cc
  called (node.Write e f next) (Got w) x i t = cc
  called (node.Alloc es next) Went x i t = cc
  called (node.Alloc es next) (Got w) x i t = cc
  called (node.Free e next) Went x i t = cc
  called (node.Free e next) (Got w) x i t = cc
  called (node.Publish e next) Went x i t = cc
  called (node.Publish e next) (Got w) x i t = cc
  called (node.Retract e next) Went x i t = cc
  called (node.Retract e next) (Got w) x i t = cc
  called (node.Ret e) told x i t = cc
  called (node.Leave e keep next) told x i t = cc
  called (node.If e p q) told x i t = cc
  called (node.Atomic p next) told x i t = absurd t
  called (node.Fork p q next) told x i t = absurd t
  called (node.Read s e next) (told.Joined ends) x i t = cc
  called (node.Write e f next) (told.Joined ends) x i t = cc
  called (node.Alloc es next) (told.Joined ends) x i t = cc
  called (node.Free e next) (told.Joined ends) x i t = cc
  called (node.Publish e next) (told.Joined ends) x i t = cc
  called (node.Retract e next) (told.Joined ends) x i t = cc
  called (node.Call f es next) (told.Joined ends) x i t = cc

  -- each statement that can be told something goes on
  no_joined : (p : Prog) (ends : Joined) → FrontTakes p (told.Joined ends) → ⊥
  no_joined (Plain machine.TermBig rest) ends t = t
  no_joined (Plain (machine.Read s q) rest) ends t = t
  no_joined (Plain (machine.Write q w) rest) ends t = t
  no_joined (Plain (machine.Alloc vs) rest) ends t = t
  no_joined (Plain (machine.Free q) rest) ends t = t
  no_joined (Plain (machine.Publish q) rest) ends t = t
  no_joined (Plain (machine.Retract q) rest) ends t = t
  no_joined (Plain (machine.Call f vs) rest) ends t = t
  no_joined p ends t = t

  no_read : (s : Sort) (o : Option Value) → CanTell (or_cmd o (λ x. machine.Read s (place_in x))) Went → ⊥
  no_read s None t = t
  no_read s (Some x) t = t

  no_write : (o p : Option Value) (w : Value) → CanTell (or_cmd o (λ x. or_cmd p (machine.Write (place_in x)))) (Got w) → ⊥
  no_write None p w t = t
  no_write (Some x) None w t = t
  no_write (Some x) (Some y) w t = t

  no_free : (o : Option Value) (w : Value) → CanTell (or_cmd o (λ x. machine.Free (place_in x))) (Got w) → ⊥
  no_free None w t = t
  no_free (Some x) w t = t

  no_publish : (o : Option Value) (w : Value) → CanTell (or_cmd o (λ x. machine.Publish (place_in x))) (Got w) → ⊥
  no_publish None w t = t
  no_publish (Some x) w t = t

  no_retract : (o : Option Value) (w : Value) → CanTell (or_cmd o (λ x. machine.Retract (place_in x))) (Got w) → ⊥
  no_retract None w t = t
  no_retract (Some x) w t = t

  no_alloc : (o : Option (List Value)) (w : Value) → CanTell (or_cmds o machine.Alloc) (Got w) → ⊥
  no_alloc None w t = t
  no_alloc (Some vs) w t = t

  no_call : (name : Option (List ℕ)) (o : Option (List Value)) (rest : Value → Prog) (w : Value) → FrontTakes (and_then (calling name o rest) k) (Got w) → ⊥
  no_call None o rest w t = t
  no_call (Some n) None rest w t = t
  no_call (Some n) (Some vs) rest w t = t

  pub cannot : (n : Node) (told : Told) → is_plain n ≡ true → way_in n told place ≡ Nowhere → FrontTakes (standing n) told → ⊥
  cannot (node.Read s e next) (Got w) p i t = cc
  cannot (node.Read s e next) Went p i t = no_read s (eval_of e env) t
  cannot (node.Write e f next) Went p i t = cc
  cannot (node.Write e f next) (Got w) p i t = no_write (eval_of e env) (eval_of f env) w t
  cannot (node.Alloc es next) Went p i t = cc
  cannot (node.Alloc es next) (Got w) p i t = no_alloc (all_of env es) w t
  cannot (node.Free e next) Went p i t = cc
  cannot (node.Free e next) (Got w) p i t = no_free (eval_of e env) w t
  cannot (node.Publish e next) Went p i t = cc
  cannot (node.Publish e next) (Got w) p i t = no_publish (eval_of e env) w t
  cannot (node.Retract e next) Went p i t = cc
  cannot (node.Retract e next) (Got w) p i t = no_retract (eval_of e env) w t
  cannot (node.Call f es next) Went p i t = cc
  cannot (node.Call f es next) (Got w) p i t = no_call (slice_get names f) (all_of env es) (λ x. go next (env ++ x ∷ [])) w t
  cannot (node.Ret e) told p i t = cc
  cannot (node.Leave e keep next) told p i t = cc
  cannot (node.If e x y) told p i t = cc
  cannot (node.Atomic b next) told p i t = t
  cannot (node.Fork b c next) told p i t = t
  cannot n (told.Joined ends) p i t = no_joined (standing n) ends t

-- ---- the body of a call

abbrev name_in : List ℕ → Option (List ℕ) → List ℕ
name_in d None = d
name_in d (Some f) = f

-- a body's number and its name find the same body
pub same_body : (code : Code) → AreFound code.bodies → (f : ℕ) (name : List ℕ) (vs : List Value) → slice_get (names_of code.bodies) f ≡ Some name → (f < length code.bodies) × (body_at code f vs ≡ bodies_of code name vs)
same_body code found f name vs e = elim (body_or_none code.bodies f) [
  | inl h ↦
      let same : h.body.name ≡ name = ap (name_in name) (sym h.name ∙ e) in (
        ltb-true f (length code.bodies) h.less,
        ap (λ o. at_body (means_of code) o vs) h.is ∙ ap (λ o. at_body (means_of code) o vs) (sym (found f h.body h.is)) ∙ ap (λ n. bodies_of code n vs) same,
      )
  | inr h ↦ let never : None ≡ Some name = sym h.name ∙ e in cc
]

-- ---- bodies under way

module _ (code : Code) (place : Place) (s : StackValue) (i : ℕ) (n : Node) (told : Told) where
  abbrev env : List Value
  env = env_of s

  abbrev behind : Value → Prog
  behind = behind_of code s

  abbrev here : Node → Prog
  here = standing (names_of code.bodies) (bodies_of code) place (cut i (means_of code)) env behind

  pub stood : s.front ≡ front.At i → slice_get code.nodes i ≡ Some n → stack_prog code s ≡ here n
  stood h e = ap (λ x. front_prog (means_of code) x env behind) h ∙ ap (λ (m : Means). and_then (m env) behind) (means_is (names_of code.bodies) code.nodes i n e)

  -- going on goes past the statement in front
  pub record GoesOn (a : After) : Type 0 where
    pub program : and_then (cut i (means_of code) a.next (env_of s ++ values_in a.bound)) (behind_of code s) ≡ front_after (bodies_of code) place (stack_prog code s) told
    pub cells : front_cells (stack_prog code s) ≡ a.cells

  pub goes_on : (a : After) → s.front ≡ front.At i → slice_get code.nodes i ≡ Some n → way_in n told place ≡ On a → FrontTakes (stack_prog code s) told → GoesOn a
  goes_on a h e way takes =
      let is : stack_prog code s ≡ here n = stood h e in
      let p = passed (names_of code.bodies) (bodies_of code) place (cut i (means_of code)) env behind n told a way (subst (λ z. FrontTakes z told) is takes) in
      record {
        program = p.program ∙ ap (λ z. front_after (bodies_of code) place z told) (sym is);
        cells = ap front_cells is ∙ p.cells;
      }

  -- and going into a body goes into that of the call in front
  pub record GoesIn (x : Into) : Type 0 where
    pub less : x.body < length code.bodies
    pub program : and_then (body_at code x.body (arguments_of (env_of s) (arguments_in n))) (λ w. and_then (cut i (means_of code) x.next (env_of s ++ w ∷ [])) (behind_of code s))
        ≡ front_after (bodies_of code) place (stack_prog code s) told
    pub cells : front_cells (stack_prog code s) ≡ 0

  pub goes_in : (x : Into) → AreFound code.bodies → s.front ≡ front.At i → slice_get code.nodes i ≡ Some n → way_in n told place ≡ In x → FrontTakes (stack_prog code s) told → GoesIn x
  goes_in x found h e way takes =
      let is : stack_prog code s ≡ here n = stood h e in
      let p = called (names_of code.bodies) (bodies_of code) place (cut i (means_of code)) env behind n told x way (subst (λ z. FrontTakes z told) is takes) in
      let b = same_body code found x.body p.name p.values p.named in
      let rest : Value → Prog = λ w. and_then (cut i (means_of code) x.next (env ++ w ∷ [])) behind in
      record {
        less = b.0;
        program =
            ap (λ (z : List Value). and_then (body_at code x.body z) rest) (arguments_are env (arguments_in n) p.values p.have) ∙
            ap (λ (z : Prog). and_then z rest) b.1 ∙ sym p.program ∙ ap (λ z. front_after (bodies_of code) place z told) (sym is);
        cells = ap front_cells is ∙ p.cells;
      }

  pub nowhere : s.front ≡ front.At i → slice_get code.nodes i ≡ Some n → IsPlainFront code.nodes s.front → way_in n told place ≡ Nowhere → FrontTakes (stack_prog code s) told → ⊥
  nowhere h e of way takes =
      let is : stack_prog code s ≡ here n = stood h e in
      let plain : is_plain n ≡ true = sym (ap plain_at e) ∙ subst (IsPlainFront code.nodes) h of in
      cannot (names_of code.bodies) (bodies_of code) place (cut i (means_of code)) env behind n told plain way (subst (λ z. FrontTakes z told) is takes)
