-- What the words of the answers carry over.
use Rattle.std.proofs.Common.{ℕ, zero, suc, Bool, true, false, cond}
use Rattle.tht_logic.specs.Machine.{Said, Next, Cannot, Big, Longer, Touch, Wrong, on_next, unless_zero}
use Rattle.tht_logic.specs.Soundness.{Leads, IsSafe}

pub leads_map : {A : Type 0} (s : Said A) (P R : A → Type 0) → ((a : A) → P a → R a) → Leads s P → Leads s R
leads_map (Next a) P R f h = f a h
leads_map Cannot P R f h = tt
leads_map Big P R f h = tt
leads_map Longer P R f h = tt
leads_map (Touch p) P R f h = tt
leads_map Wrong P R f h = tt

pub leads_on_next : {A B : Type 0} (s : Said A) (f : A → Said B) (P : B → Type 0) → Leads s (λ a. Leads (f a) P) → Leads (on_next s f) P
leads_on_next (Next a) f P h = h
leads_on_next Cannot f P h = tt
leads_on_next Big f P h = tt
leads_on_next Longer f P h = tt
leads_on_next (Touch p) f P h = tt
leads_on_next Wrong f P h = tt

pub leads_both : {A : Type 0} (s : Said A) (P R : A → Type 0) → Leads s P → Leads s R → Leads s (λ a. P a × R a)
leads_both (Next a) P R h g = (h, g)
leads_both Cannot P R h g = tt
leads_both Big P R h g = tt
leads_both Longer P R h g = tt
leads_both (Touch p) P R h g = tt
leads_both Wrong P R h g = tt

-- what holds at each number holds at all numbers
pub leads_all : {A : Type 0} (s : Said A) (P : ℕ → A → Type 0) → ((k : ℕ) → Leads s (P k)) → Leads s (λ a. (k : ℕ) → P k a)
leads_all (Next a) P h = h
leads_all Cannot P h = tt
leads_all Big P h = tt
leads_all Longer P h = tt
leads_all (Touch p) P h = tt
leads_all Wrong P h = tt

pub leads_unless_zero : {A : Type 0} (n : ℕ) (s : Said A) (P : A → Type 0) → Leads s P → Leads (unless_zero n s) P
leads_unless_zero zero s P h = tt
leads_unless_zero (suc n) s P h = h

-- at the branch that is asked, or at another, which cannot step
pub leads_if : {A : Type 0} (c : Bool) (s : Said A) (P : A → Type 0) → Leads s P → Leads (cond c s Cannot) P
leads_if true s P h = h
leads_if false s P h = tt

pub IsSafe-on_next : {A B : Type 0} (s : Said A) (f : A → B) → IsSafe s → IsSafe (on_next s (λ a. Next (f a)))
IsSafe-on_next (Next a) f h = tt
IsSafe-on_next Cannot f h = tt
IsSafe-on_next Big f h = tt
IsSafe-on_next Longer f h = tt
IsSafe-on_next (Touch p) f h = h
IsSafe-on_next Wrong f h = h

pub IsSafe-unless_zero : {A : Type 0} (n : ℕ) (s : Said A) → IsSafe s → IsSafe (unless_zero n s)
IsSafe-unless_zero zero s h = tt
IsSafe-unless_zero (suc n) s h = h

pub IsSafe-if : {A : Type 0} (c : Bool) (s : Said A) → IsSafe s → IsSafe (cond c s Cannot)
IsSafe-if true s h = h
IsSafe-if false s h = tt
