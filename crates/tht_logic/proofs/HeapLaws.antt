-- Disjoint unions of heaps.
use Rattle.std.proofs.Common.{◌≡◌, refl, Option, Some, None, ◌⊎◌, inl, inr}
use mathlib.Core.Path.{fun_ext}
use Rattle.tht_tree.specs.declared.plain.Place.{Place}
use Rattle.tht_tree.specs.Heaps.{Held, Heap, nothing, JoinAt, neither, left, right, Joins}

-- (a + b) + c is a + (b + c), at one place
rest_at : {a b ab c abc : Option Held} → JoinAt a b ab → JoinAt ab c abc → (bc : Option Held) × JoinAt b c bc × JoinAt a bc abc
rest_at neither neither = (None, neither, neither)
rest_at neither (right {c = x}) = (Some x, right, right)
rest_at (left {c = x}) left = (None, neither, left)
rest_at (right {c = x}) left = (Some x, left, right)

front_at : {b c bc a abc : Option Held} → JoinAt b c bc → JoinAt a bc abc → (ab : Option Held) × JoinAt a b ab × JoinAt ab c abc
front_at neither neither = (None, neither, neither)
front_at neither (left {c = x}) = (Some x, left, left)
front_at (left {c = x}) right = (Some x, right, left)
front_at (right {c = x}) right = (None, neither, right)

swap_at : {a b ab : Option Held} → JoinAt a b ab → JoinAt b a ab
swap_at neither = neither
swap_at left = right
swap_at right = left

within_at : {a b ab : Option Held} → JoinAt a b ab → (c : Held) → a ≡ Some c → ab ≡ Some c
within_at neither c e = e
within_at left c e = e
within_at right c e = cc

from_at : {a b ab : Option Held} → JoinAt a b ab → (c : Held) → ab ≡ Some c → (a ≡ Some c) ⊎ (b ≡ Some c)
from_at neither c e = cc
from_at left c e = inl e
from_at right c e = inr e

with_nothing_at : {a b c : Option Held} → JoinAt a b c → b ≡ None → a ≡ c
with_nothing_at neither e = refl
with_nothing_at left e = refl
with_nothing_at right e = cc

beside_nothing_at : (c : Option Held) → JoinAt c None c
beside_nothing_at None = neither
beside_nothing_at (Some c) = left

pub Joins-rest : {a b ab c abc : Heap} → Joins a b ab → Joins ab c abc → (bc : Heap) × Joins b c bc × Joins a bc abc
Joins-rest h g = (λ p. (rest_at (h p) (g p)).0, λ p. (rest_at (h p) (g p)).1, λ p. (rest_at (h p) (g p)).2)

pub Joins-front : {a b c bc abc : Heap} → Joins b c bc → Joins a bc abc → (ab : Heap) × Joins a b ab × Joins ab c abc
Joins-front h g = (λ p. (front_at (h p) (g p)).0, λ p. (front_at (h p) (g p)).1, λ p. (front_at (h p) (g p)).2)

pub Joins-swap : {a b h : Heap} → Joins a b h → Joins b a h
Joins-swap h p = swap_at (h p)

pub Joins-within : {a b h : Heap} → Joins a b h → (p : Place) (c : Held) → a p ≡ Some c → h p ≡ Some c
Joins-within j p c e = within_at (j p) c e

pub Joins-from : {a b h : Heap} → Joins a b h → (p : Place) (c : Held) → h p ≡ Some c → (a p ≡ Some c) ⊎ (b p ≡ Some c)
Joins-from j p c e = from_at (j p) c e

pub Joins-nothing : {a h : Heap} → Joins a nothing h → a ≡ h
Joins-nothing j = fun_ext (λ p. with_nothing_at (j p) refl)

pub beside_nothing : (h : Heap) → Joins h nothing h
beside_nothing h p = beside_nothing_at (h p)
