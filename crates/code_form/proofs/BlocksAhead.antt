-- The blocks and forks in front of a body that is under way.
use Rattle.std.proofs.Common.{◌≡◌, ◌∙◌, ℕ, Bool, true, false, List, [], ◌∷◌, ◌++◌, slice_get, Option, Some, None, refl, sym, ap, subst}
use Rattle.tht_tree.specs.declared.plain.Value.{Value}
use Rattle.tht_tree.specs.Syntax.{Names}
use Rattle.tht_logic.specs.Machine.{Prog, Ended, Block, Fork, and_then}
use Rattle.code_form.specs.declared.code.Code.{Code}
use Rattle.code_form.specs.declared.code.Node.{Node}
use Rattle.code_form.specs.declared.code.Node.TheVariants as node
use Rattle.code_form.specs.declared.frames.Frame.{Frame}
use Rattle.code_form.specs.declared.frames.Front.{Front}
use Rattle.code_form.specs.declared.frames.Front.TheVariants as front
use Rattle.code_form.specs.declared.under_way.Inner.{Inner}
use Rattle.code_form.specs.declared.under_way.Sides.{Sides}
use Rattle.code_form.specs.declared.under_way.Split.{Split}
use Rattle.code_form.specs.Codes.{means_of}
use Rattle.code_form.specs.Fronts.{IsNoBlock, IsFork, block_rest, fork_rest}
use Rattle.code_form.specs.Means.{Means, means_at, names_of, calling, cut}
use Rattle.code_form.specs.Stack.{front_prog, rests, IsAtEnd, IsPlainFront}
use Rattle.code_form.specs.Stacks.{env_of, behind_of, stack_prog, inner_in, split_in, is_block_node, is_fork_node, is_at, StandsAt, BeginsAt, ForksTo, ended_in}
use Rattle.code_form.specs.StackValue.{StackValue}
use Rattle.code_form.specs.Turns.{is_plain, plain_at}
use Rattle.code_form.proofs.Built.{means_is}
use Rattle.code_form.proofs.Standings.{IsNoValue}

-- ---- one node

module _ (names : Names) (go : ℕ → Means) (env : List Value) (k : Value → Prog) where
  abbrev standing : Node → Prog
  standing n = and_then (means_at names go n env) k

  no_block_called : (name : Option (List ℕ)) (o : Option (List Value)) (rest : Value → Prog) → IsNoBlock (and_then (calling name o rest) k)
  no_block_called None o rest = tt
  no_block_called (Some f) o rest = tt

  pub no_block : (n : Node) → is_plain n ≡ true → inner_in n ≡ None → IsNoBlock (standing n)
  no_block (node.Read s e next) p h = tt
  no_block (node.Write e f next) p h = tt
  no_block (node.Alloc es next) p h = tt
  no_block (node.Free e next) p h = tt
  no_block (node.Publish e next) p h = tt
  no_block (node.Retract e next) p h = tt
  no_block (node.Call f es next) p h = no_block_called (slice_get names f) _ _
  no_block (node.Atomic b next) p h = cc
  no_block (node.Fork b c next) p h = tt
  no_block (node.Ret e) p h = cc
  no_block (node.Leave e gone next) p h = cc
  no_block (node.If e x y) p h = cc

  no_fork_called : (name : Option (List ℕ)) (o : Option (List Value)) (rest : Value → Prog) → IsFork (and_then (calling name o rest) k) → ⊥
  no_fork_called None o rest f = f
  no_fork_called (Some n) o rest f = f

  pub no_fork : (n : Node) → is_plain n ≡ true → split_in n ≡ None → IsFork (standing n) → ⊥
  no_fork (node.Read s e next) p h f = f
  no_fork (node.Write e u next) p h f = f
  no_fork (node.Alloc es next) p h f = f
  no_fork (node.Free e next) p h f = f
  no_fork (node.Publish e next) p h f = f
  no_fork (node.Retract e next) p h f = f
  no_fork (node.Call g es next) p h f = no_fork_called (slice_get names g) _ _ f
  no_fork (node.Atomic b next) p h f = f
  no_fork (node.Fork b c next) p h f = cc
  no_fork (node.Ret e) p h f = cc
  no_fork (node.Leave e gone next) p h f = cc
  no_fork (node.If e x y) p h f = cc

  no_value_called : (name : Option (List ℕ)) (o : Option (List Value)) (rest : Value → Prog) → IsNoValue (and_then (calling name o rest) k)
  no_value_called None o rest = tt
  no_value_called (Some f) o rest = tt

  -- a statement has not become a value
  pub no_value : (n : Node) → is_plain n ≡ true → IsNoValue (standing n)
  no_value (node.Read s e next) p = tt
  no_value (node.Write e f next) p = tt
  no_value (node.Alloc es next) p = tt
  no_value (node.Free e next) p = tt
  no_value (node.Publish e next) p = tt
  no_value (node.Retract e next) p = tt
  no_value (node.Call f es next) p = no_value_called (slice_get names f) _ _
  no_value (node.Atomic b next) p = tt
  no_value (node.Fork b c next) p = tt
  no_value (node.Ret e) p = cc
  no_value (node.Leave e gone next) p = cc
  no_value (node.If e x y) p = cc

-- ---- the node in front

abbrev the_inner : Inner → Option Inner → Inner
the_inner d None = d
the_inner d (Some x) = x

abbrev the_split : Split → Option Split → Split
the_split d None = d
the_split d (Some x) = x

block_node : (n : Node) (x : Inner) → inner_in n ≡ Some x → n ≡ node.Atomic x.first x.next
block_node (node.Atomic p next) x h = let e : (record { first = p; next = next }) ≡ x = ap (the_inner x) h in λ i. node.Atomic (e i).first (e i).next
block_node n x h = cc

fork_node : (n : Node) (x : Split) → split_in n ≡ Some x → n ≡ node.Fork x.left x.right x.next
fork_node (node.Fork p q next) x h = let e : (record { left = p; right = q; next = next }) ≡ x = ap (the_split x) h in λ i. node.Fork (e i).left (e i).right (e i).next
fork_node n x h = cc

block_there : (n : Node) → inner_in n ≡ None → is_block_node n ≡ true → ⊥
block_there (node.Atomic p next) h e = cc
block_there n h e = cc

fork_there : (n : Node) → split_in n ≡ None → is_fork_node n ≡ true → ⊥
fork_there (node.Fork p q next) h e = cc
fork_there n h e = cc

module _ (code : Code) (s : StackValue) where
  -- at a value nothing follows, as the frames are at their end
  pub value_is : (w : Value) → s.front ≡ front.Ended w → IsAtEnd s.front s.frames → stack_prog code s ≡ Ended w
  value_is w h at =
      let none : s.frames ≡ [] = subst (λ z. IsAtEnd z s.frames) h at in
      ap (λ z. front_prog (means_of code) z (env_of s) (behind_of code s)) h ∙ ap (λ (fs : List Frame). rests (means_of code) s.values fs Ended w) none

  pub too_big_no_block : s.front ≡ front.TooBig → IsNoBlock (stack_prog code s)
  too_big_no_block h = subst (λ z. IsNoBlock (front_prog (means_of code) z (env_of s) (behind_of code s))) (sym h) tt

  pub value_no_block : (w : Value) → s.front ≡ front.Ended w → IsAtEnd s.front s.frames → IsNoBlock (stack_prog code s)
  value_no_block w h at = subst IsNoBlock (sym (value_is w h at)) tt

  pub too_big_no_fork : s.front ≡ front.TooBig → IsFork (stack_prog code s) → ⊥
  too_big_no_fork h f = subst (λ z. IsFork (front_prog (means_of code) z (env_of s) (behind_of code s))) h f

  pub value_no_fork : (w : Value) → s.front ≡ front.Ended w → IsAtEnd s.front s.frames → IsFork (stack_prog code s) → ⊥
  value_no_fork w h at f = subst IsFork (value_is w h at) f

  pub nowhere_to_stand : (test : Node → Bool) (f : Front) → s.front ≡ f → StandsAt test code.nodes s.front → StandsAt test code.nodes f
  nowhere_to_stand test f h stands = subst (StandsAt test code.nodes) h stands

  pub no_node : (test : Node → Bool) (i : ℕ) → s.front ≡ front.At i → slice_get code.nodes i ≡ None → StandsAt test code.nodes s.front → ⊥
  no_node test i h e stands = let no : false ≡ true = sym (ap (is_at test) e) ∙ nowhere_to_stand test (front.At i) h stands in cc

  pub no_plain_node : (i : ℕ) → s.front ≡ front.At i → slice_get code.nodes i ≡ None → IsPlainFront code.nodes s.front → ⊥
  no_plain_node i h e of = let no : false ≡ true = sym (ap plain_at e) ∙ subst (IsPlainFront code.nodes) h of in cc

  module _ (i : ℕ) (n : Node) (h : s.front ≡ front.At i) (e : slice_get code.nodes i ≡ Some n) where
    abbrev here : Node → Prog
    here m = standing (names_of code.bodies) (cut i (means_of code)) (env_of s) (behind_of code s) m

    pub stood : stack_prog code s ≡ here n
    stood = ap (λ x. front_prog (means_of code) x (env_of s) (behind_of code s)) h ∙ ap (λ (m : Means). and_then (m (env_of s)) (behind_of code s)) (means_is (names_of code.bodies) code.nodes i n e)

    plain_here : IsPlainFront code.nodes s.front → is_plain n ≡ true
    plain_here of = sym (ap plain_at e) ∙ subst (IsPlainFront code.nodes) h of

    stands_here : (test : Node → Bool) → test n ≡ true → StandsAt test code.nodes s.front
    stands_here test t = subst (StandsAt test code.nodes) (sym h) (ap (is_at test) e ∙ t)

    test_here : (test : Node → Bool) → StandsAt test code.nodes s.front → test n ≡ true
    test_here test stands = sym (ap (is_at test) e) ∙ subst (StandsAt test code.nodes) h stands

    -- a block
    block_here : (x : Inner) → inner_in n ≡ Some x → stack_prog code s ≡ here (node.Atomic x.first x.next)
    block_here x is = stood ∙ ap here (block_node n x is)

    pub begins : (x : Inner) (first : ℕ) → inner_in n ≡ Some x → ((env : List Value) → means_of code first env ≡ cut i (means_of code) x.first env) → BeginsAt code s first
    begins x first is same = record {
      rest = λ w. and_then (cut i (means_of code) x.next (env_of s ++ w ∷ [])) (behind_of code s);
      is = block_here x is ∙ ap (λ z. Block z (λ w. and_then (cut i (means_of code) x.next (env_of s ++ w ∷ [])) (behind_of code s))) (sym (same (env_of s)));
      stands = stands_here is_block_node (ap is_block_node (block_node n x is));
    }

    pub no_block_here : IsPlainFront code.nodes s.front → inner_in n ≡ None → IsNoBlock (stack_prog code s)
    no_block_here of none = subst IsNoBlock (sym stood) (no_block (names_of code.bodies) (cut i (means_of code)) (env_of s) (behind_of code s) n (plain_here of) none)

    pub block_stands : StandsAt is_block_node code.nodes s.front → inner_in n ≡ None → ⊥
    block_stands stands none = block_there n none (test_here is_block_node stands)

    pub out_of_block : (x : Inner) (v : Value) → inner_in n ≡ Some x → and_then (cut i (means_of code) x.next (env_of s ++ v ∷ [])) (behind_of code s) ≡ block_rest (stack_prog code s) v
    out_of_block x v is = ap (λ p. block_rest p v) (sym (block_here x is))

    -- a fork
    fork_here : (x : Split) → split_in n ≡ Some x → stack_prog code s ≡ here (node.Fork x.left x.right x.next)
    fork_here x is = stood ∙ ap here (fork_node n x is)

    pub forks : (x : Split) (sides : Sides) → split_in n ≡ Some x → ((env : List Value) → means_of code sides.left env ≡ cut i (means_of code) x.left env)
        → ((env : List Value) → means_of code sides.right env ≡ cut i (means_of code) x.right env) → ForksTo code s sides
    forks x sides is left right = record {
      rest = λ w u. and_then (cut i (means_of code) x.next (env_of s ++ w ∷ u ∷ [])) (behind_of code s);
      is = fork_here x is ∙ (λ j. Fork (sym (left (env_of s)) j) (sym (right (env_of s)) j) (λ w u. and_then (cut i (means_of code) x.next (env_of s ++ w ∷ u ∷ [])) (behind_of code s)));
      stands = stands_here is_fork_node (ap is_fork_node (fork_node n x is));
    }

    pub no_fork_here : IsPlainFront code.nodes s.front → split_in n ≡ None → IsFork (stack_prog code s) → ⊥
    no_fork_here of none f = no_fork (names_of code.bodies) (cut i (means_of code)) (env_of s) (behind_of code s) n (plain_here of) none (subst IsFork stood f)

    pub fork_stands_there : StandsAt is_fork_node code.nodes s.front → split_in n ≡ None → ⊥
    fork_stands_there stands none = fork_there n none (test_here is_fork_node stands)

    pub behind_fork : (x : Split) (v w : Value) → split_in n ≡ Some x → and_then (cut i (means_of code) x.next (env_of s ++ v ∷ w ∷ [])) (behind_of code s) ≡ fork_rest (stack_prog code s) v w
    behind_fork x v w is = ap (λ p. fork_rest p v w) (sym (fork_here x is))

    no_value_here : IsPlainFront code.nodes s.front → IsNoValue (stack_prog code s)
    no_value_here of = subst IsNoValue (sym stood) (no_value (names_of code.bodies) (cut i (means_of code)) (env_of s) (behind_of code s) n (plain_here of))

  -- what has not ended is no value
  pub not_ended : IsPlainFront code.nodes s.front → ended_in s.front ≡ None → IsNoValue (stack_prog code s)
  not_ended of none = from s.front refl
    where
      from : (f : Front) → s.front ≡ f → IsNoValue (stack_prog code s)
      from (front.At i) h = at (slice_get code.nodes i) refl
        where
          at : (o : Option Node) → slice_get code.nodes i ≡ o → IsNoValue (stack_prog code s)
          at None e = absurd (no_plain_node i h e of)
          at (Some n) e = no_value_here i n h e of
      from (front.Ended w) h = let no : Some w ≡ None = sym (ap ended_in h) ∙ none in cc
      from front.TooBig h = subst (λ z. IsNoValue (front_prog (means_of code) z (env_of s) (behind_of code s))) (sym h) tt

  -- what has ended stands for its value
  pub has_ended : (w : Value) → IsAtEnd s.front s.frames → ended_in s.front ≡ Some w → stack_prog code s ≡ Ended w
  has_ended w at some = from s.front refl
    where
      value_or : Value → Option Value → Value
      value_or d None = d
      value_or d (Some v) = v

      from : (f : Front) → s.front ≡ f → stack_prog code s ≡ Ended w
      from (front.Ended v) h = value_is v h at ∙ ap Ended (ap (value_or w) (sym (ap ended_in h) ∙ some))
      from (front.At i) h = let no : None ≡ Some w = sym (ap ended_in h) ∙ some in cc
      from front.TooBig h = let no : None ≡ Some w = sym (ap ended_in h) ∙ some in cc
