-- Frames over one stack of values.
use Rattle.std.proofs.Common.{◌≡◌, ℕ, zero, suc, ◌+◌, ◌≤◌, List, [], ◌∷◌, ◌++◌, length, take, drop, refl, sym, ◌∙◌, ap, arith, le_refl}
use Rattle.std.proofs.lemmas.List.{drop-append-le, take-append-le, length-take-le, take_at, drop_at}
use mathlib.Core.Path.{fun_ext}
use Rattle.tht_tree.specs.declared.plain.Value.{Value}
use Rattle.tht_logic.specs.Machine.{Prog, Ended, and_then}
use Rattle.code_form.specs.Means.{Means}
use Rattle.code_form.specs.Stack.{Chain, back, rests, front_prog}
use Rattle.code_form.specs.declared.frames.Frame.{Frame}

pub chain_low : (lo n : ℕ) (fs : List Frame) → Chain lo fs n → lo ≤ n
chain_low lo n [] c = c
chain_low lo n (f ∷ fs) c = omega (arith, c.0, c.1, chain_low f.len n fs c.2)

pub chain_push : (lo n : ℕ) (fs : List Frame) (f : Frame) → Chain lo fs f.base → f.base ≤ f.len → f.len ≤ n → Chain lo (fs ++ f ∷ []) n
chain_push lo n [] f c h g = (c, h, g)
chain_push lo n (e ∷ fs) f c h g = (c.0, c.1, chain_push e.len n fs f c.2 h g)

pub chain_pop : (lo n : ℕ) (fs : List Frame) (f : Frame) → Chain lo (fs ++ f ∷ []) n → Chain lo fs f.base × f.base ≤ f.len × f.len ≤ n
chain_pop lo n [] f c = (c.0, c.1, c.2)
chain_pop lo n (e ∷ fs) f c = let r = chain_pop e.len n fs f c.2 in ((c.0, c.1, r.0), r.1, r.2)

pub rests_push : (go : ℕ → Means) (values : List Value) (fs : List Frame) (f : Frame) (k : Value → Prog) (v : Value) → rests go values (fs ++ f ∷ []) k v ≡ and_then (back go values f v) (rests go values fs k)
rests_push go values [] f k v = refl
rests_push go values (e ∷ fs) f k v = rests_push go values fs f (λ w. and_then (back go values e w) k) v

take_take : (l n : ℕ) (xs : List Value) → l ≤ n → take l (take n xs) ≡ take l xs
take_take zero n xs h = refl
take_take (suc l) zero xs h = absurd (omega (arith, h))
take_take (suc l) (suc n) [] h = refl
take_take (suc l) (suc n) (x ∷ xs) h = ap (λ ys. x ∷ ys) (take_take l n xs (omega (arith, h)))

pub take_less : (l n : ℕ) (xs ys : List Value) → l ≤ n → take n xs ≡ take n ys → take l xs ≡ take l ys
take_less l n xs ys h e = sym (take_take l n xs h) ∙ ap (take l) e ∙ take_take l n ys h

-- what follows hangs on no more values than the frames say
pub rests_same : (go : ℕ → Means) (fs : List Frame) (lo n : ℕ) (xs ys : List Value) (k : Value → Prog) → Chain lo fs n → take n xs ≡ take n ys → rests go xs fs k ≡ rests go ys fs k
rests_same go [] lo n xs ys k c e = refl
rests_same go (f ∷ fs) lo n xs ys k c e =
    let same : take f.len xs ≡ take f.len ys = take_less f.len n xs ys (chain_low f.len n fs c.2) e in
    rests_same go fs f.len n xs ys (λ w. and_then (back go xs f w) k) c.2 e ∙ ap (λ (z : List Value). rests go ys fs (λ w. and_then (go f.next (drop f.base z ++ w ∷ [])) k)) same

-- after the value of a call
pub came_back : (go : ℕ → Means) (fs : List Frame) (f : Frame) (lo n : ℕ) (values : List Value) (v : Value) → Chain lo (fs ++ f ∷ []) n → n ≤ length values →
    and_then (go f.next (drop f.base (take f.len values ++ v ∷ []))) (rests go (take f.len values ++ v ∷ []) fs Ended) ≡ rests go values (fs ++ f ∷ []) Ended v
came_back go fs f lo n values v c h =
    let r = chain_pop lo n fs f c in
    let len : length (take f.len values) ≡ f.len = length-take-le f.len values (omega (arith, r.2, h)) in
    let env : drop f.base (take f.len values ++ v ∷ []) ≡ drop f.base (take f.len values) ++ v ∷ [] = drop-append-le f.base (take f.len values) (v ∷ []) (omega (arith, r.1, len)) in
    let below : take f.base (take f.len values ++ v ∷ []) ≡ take f.base values = take-append-le f.base (take f.len values) (v ∷ []) (omega (arith, r.1, len)) ∙ take_take f.base f.len values r.1 in
    ap (λ (z : List Value). and_then (go f.next z) (rests go (take f.len values ++ v ∷ []) fs Ended)) env ∙
    ap (and_then (back go values f v)) (rests_same go fs lo f.base (take f.len values ++ v ∷ []) values Ended r.0 below) ∙
    sym (rests_push go values fs f Ended v)

-- a walk leaves the whole program as it is
pub walked : (go : ℕ → Means) (fs : List Frame) (lo n : ℕ) (xs ys : List Value) (p q : Prog) → Chain lo fs n → take n xs ≡ take n ys → p ≡ q → and_then p (rests go xs fs Ended) ≡ and_then q (rests go ys fs Ended)
walked go fs lo n xs ys p q c e h = ap (λ (z : Prog). and_then z (rests go xs fs Ended)) h ∙ ap (and_then q) (rests_same go fs lo n xs ys Ended c e)

pub low_same : (lo n : ℕ) (fs : List Frame) (xs ys zs : List Value) → Chain lo fs n → take n xs ≡ take n ys → take lo ys ≡ take lo zs → take lo xs ≡ take lo zs
low_same lo n fs xs ys zs c e h = take_less lo n xs ys (chain_low lo n fs c) e ∙ h

pub low_back : (lo n : ℕ) (f : Frame) (fs : List Frame) (xs ys : List Value) (v : Value) → Chain lo (fs ++ f ∷ []) n → n ≤ length xs → ys ≡ take f.len xs ++ v ∷ [] → take lo ys ≡ take lo xs
low_back lo n f fs xs ys v c h e =
    let r = chain_pop lo n fs f c in
    let l = chain_low lo f.base fs r.0 in
    let len : length (take f.len xs) ≡ f.len = length-take-le f.len xs (omega (arith, r.2, h)) in
    ap (take lo) e ∙ take-append-le lo (take f.len xs) (v ∷ []) (omega (arith, l, r.1, len)) ∙ take_take lo f.len xs (omega (arith, l, r.1))

pub bound_more : (go : ℕ → Means) (fs : List Frame) (lo n : ℕ) (xs ys more : List Value) (m m' : Means) → Chain lo fs n → n ≤ length xs → ys ≡ xs ++ more → ((env : List Value) → m env ≡ m' env) →
    and_then (m (drop n ys)) (rests go ys fs Ended) ≡ and_then (m' (drop n xs ++ more)) (rests go xs fs Ended)
bound_more go fs lo n xs ys more m m' c h e f =
    ap (λ (z : List Value). and_then (m (drop n z)) (rests go z fs Ended)) e ∙
    ap (λ (z : List Value). and_then (m z) (rests go (xs ++ more) fs Ended)) (drop-append-le n xs more h) ∙
    ap (λ (p : Prog). and_then p (rests go (xs ++ more) fs Ended)) (f (drop n xs ++ more)) ∙
    ap (and_then (m' (drop n xs ++ more))) (rests_same go fs lo n (xs ++ more) xs Ended c (take-append-le n xs more h))

-- into a body, with the values of its arguments on top of the others
pub entered : (go : ℕ → Means) (fs : List Frame) (lo : ℕ) (f : Frame) (xs args ys : List Value) (m : Means) → Chain lo fs f.base → f.base ≤ length xs → length xs ≡ f.len → ys ≡ xs ++ args →
    and_then (m (drop f.len ys)) (rests go ys (fs ++ f ∷ []) Ended) ≡ and_then (m args) (λ v. and_then (go f.next (drop f.base xs ++ v ∷ [])) (rests go xs fs Ended))
entered go fs lo f xs args ys m c h len e =
    let on_top : drop f.len (xs ++ args) ≡ args = drop_at xs args f.len len in
    let under : take f.len (xs ++ args) ≡ xs = take_at xs args f.len len in
    let then_is : rests go (xs ++ args) (fs ++ f ∷ []) Ended ≡ (λ v. and_then (go f.next (drop f.base xs ++ v ∷ [])) (rests go xs fs Ended)) = fun_ext (λ v.
    rests_push go (xs ++ args) fs f Ended v ∙
    ap (λ (z : List Value). and_then (go f.next (drop f.base z ++ v ∷ [])) (rests go (xs ++ args) fs Ended)) under ∙
    ap (and_then (go f.next (drop f.base xs ++ v ∷ []))) (rests_same go fs lo f.base (xs ++ args) xs Ended c (take-append-le f.base xs args h))) in
    ap (λ (z : List Value). and_then (m (drop f.len z)) (rests go z (fs ++ f ∷ []) Ended)) e ∙
    ap (λ (z : List Value). and_then (m z) (rests go (xs ++ args) (fs ++ f ∷ []) Ended)) on_top ∙
    ap (and_then (m args)) then_is
