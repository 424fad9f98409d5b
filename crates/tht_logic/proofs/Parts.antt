-- The private and the shared part of a heap.
use Rattle.std.proofs.Common.{◌≡◌, ℕ, refl, sym, Some, None, Option}
use mathlib.Core.Path.{fun_ext}
use Rattle.tht_tree.specs.declared.plain.Value.{Value}
use Rattle.tht_tree.specs.declared.plain.Place.{Place}
use Rattle.tht_tree.specs.Heaps.{Held, shared, own, Heap, JoinAt, neither, left, right, Joins, shared_part, private_part, kept, if_own, if_shared}

-- a cell, if there is one, is private; is shared
abbrev pub IsOwnAt : Option Held → Type 0
IsOwnAt None = Unit {0}
IsOwnAt (Some (own b v)) = Unit {0}
IsOwnAt (Some (shared v)) = ⊥

abbrev pub IsSharedAt : Option Held → Type 0
IsSharedAt None = Unit {0}
IsSharedAt (Some (own b v)) = ⊥
IsSharedAt (Some (shared v)) = Unit {0}

abbrev pub AllOwn : Heap → Type 0
AllOwn h = (p : Place) → IsOwnAt (h p)

abbrev pub AllShared : Heap → Type 0
AllShared h = (p : Place) → IsSharedAt (h p)

split_at : (c : Option Held) → JoinAt (kept if_own c) (kept if_shared c) c
split_at None = neither
split_at (Some (own b v)) = left
split_at (Some (shared v)) = right

-- a heap is its private and its shared part
pub is_split : (h : Heap) → Joins (private_part h) (shared_part h) h
is_split h p = split_at (h p)

own_at : (c : Option Held) → IsOwnAt (kept if_own c)
own_at None = tt
own_at (Some (own b v)) = tt
own_at (Some (shared v)) = tt

shared_at : (c : Option Held) → IsSharedAt (kept if_shared c)
shared_at None = tt
shared_at (Some (own b v)) = tt
shared_at (Some (shared v)) = tt

first_own_at : {a b c : Option Held} → JoinAt a b c → IsOwnAt c → IsOwnAt a
first_own_at neither o = tt
first_own_at left o = o
first_own_at right o = tt

second_own_at : {a b c : Option Held} → JoinAt a b c → IsOwnAt c → IsOwnAt b
second_own_at neither o = tt
second_own_at left o = tt
second_own_at right o = o

pub private_own : (h : Heap) → AllOwn (private_part h)
private_own h p = own_at (h p)

pub shared_shared : (h : Heap) → AllShared (shared_part h)
shared_shared h p = shared_at (h p)

pub first_own : {a b c : Heap} → Joins a b c → AllOwn c → AllOwn a
first_own j o p = first_own_at (j p) (o p)

pub second_own : {a b c : Heap} → Joins a b c → AllOwn c → AllOwn b
second_own j o p = second_own_at (j p) (o p)

-- private cells and shared ones, beside private ones, at one place
parts_at : {a c q f h : Option Held} → JoinAt a c q → JoinAt q f h → IsOwnAt a → IsSharedAt c → IsOwnAt f → JoinAt a f (kept if_own h) × (kept if_shared h ≡ c)
parts_at neither neither o s o' = (neither, refl)
parts_at neither (right {c = own b v}) o s o' = (right, refl)
parts_at neither (right {c = shared v}) o s o' = absurd o'
parts_at (left {c = own b v}) left o s o' = (left, refl)
parts_at (left {c = shared v}) left o s o' = absurd o
parts_at (right {c = own b v}) left o s o' = absurd s
parts_at (right {c = shared v}) left o s o' = (neither, refl)

pub parts_private : {a c q f h : Heap} → Joins a c q → Joins q f h → AllOwn a → AllShared c → AllOwn f → Joins a f (private_part h)
parts_private j g o s o' p = (parts_at (j p) (g p) (o p) (s p) (o' p)).0

pub parts_shared : {a c q f h : Heap} → Joins a c q → Joins q f h → AllOwn a → AllShared c → AllOwn f → c ≡ shared_part h
parts_shared j g o s o' = fun_ext (λ p. sym (parts_at (j p) (g p) (o p) (s p) (o' p)).1)

-- a private cell is a cell of the heap
pub private_is : (o : Option Held) (a : ℕ) (v : Value) → kept if_own o ≡ Some (own a v) → o ≡ Some (own a v)
private_is None a v e = cc
private_is (Some (own b w)) a v e = e
private_is (Some (shared w)) a v e = cc
