-- Blocks between seats: a seat offers a held block to a carrier, and another seat, or the same, accepts it. Each uses
-- up a ticket, and changes no word.
use Rattle.std.specs.Prelude.{◌≡◌, ◌⊎◌, ℕ, ◌+◌, ◌-◌, false, nat_eq, List, [], ◌∷◌, ◌++◌, Contains, replicate, Option, None, Some}
use Rattle.heap_model.specs.Counting.{total, one_if}
use Rattle.heap_model.specs.Geometry.{lists, superblock_of}
use Rattle.core_model.specs.View.{Setup, View, no_batch, one_if_some}
use Rattle.core_model.specs.Effects.{trimmed}
use Rattle.core_model.specs.Guards.{IsThere}
use Rattle.core_model.specs.Splitting.{Choice, remaining, given_off}

-- it has no root, no free block, no claim and no ticket, and has counted nothing
pub record IsCarrier (u : View) : Type 0 where
  pub is_one : u.carries ≡ 1
  pub roots : u.roots ≡ []
  pub free : (u.caches ≡ replicate lists []) × (u.batch ≡ no_batch)
  pub claims : (u.raw ≡ []) × (u.split ≡ []) × (u.cutting ≡ []) × (u.classed ≡ [])
  pub tickets : (u.ticket ≡ None) × (u.stopped ≡ None)
  pub counts : (u.draws ≡ 0) × (u.wins ≡ 0) × (u.losses ≡ 0) × (u.taken ≡ 0) × (u.cuts ≡ 0) × (u.gives ≡ 0) × (u.moves ≡ 0)
  pub handed : (u.offers ≡ 0) × (u.accepts ≡ 0)

-- a carrier whose block was accepted: it has nothing, and else is as it was
pub record IsEmptied (u : View) : Type 0 where
  pub is_two : u.carries ≡ 2
  pub held : (u.small ≡ replicate lists []) × (u.large ≡ [])
  pub was : IsCarrier (record u { carries = 1 })

-- 1 of a carrier that has its block
abbrev pub one_if_carrier : View → ℕ
one_if_carrier v = one_if (nat_eq v.carries 1)

-- the block that begins at the word, small or large, and no root
abbrev pub one_block : ℕ → ℕ → Choice
one_block capacity block = record {
  blocks = λ b. nat_eq b block;
  spans = λ d. nat_eq d (superblock_of capacity block);
  roots = λ i. false;
  carries = 1;
}

-- the seat without the block that it offered
abbrev pub offered : View → ℕ → View
offered v block = remaining (one_block v.setup.capacity block) (record v { ticket = None; offers = v.offers + 1 })

-- the carrier of that block
abbrev pub carrier_of : View → ℕ → View
carrier_of v block = given_off (one_block v.setup.capacity block) v

-- by class, the blocks of both
abbrev pub both_lists : List (List ℕ) → List (List ℕ) → List (List ℕ)
both_lists [] yss = yss
both_lists (xs ∷ xss) [] = xs ∷ xss
both_lists (xs ∷ xss) (ys ∷ yss) = (xs ++ ys) ∷ both_lists xss yss

-- what the first knows of a word, or else the second
abbrev pub either_known : Option ℕ → Option ℕ → Option ℕ
either_known None y = y
either_known (Some x) y = Some x

-- the same word by word
abbrev pub either_of : List (Option ℕ) → List (Option ℕ) → List (Option ℕ)
either_of [] ys = ys
either_of (x ∷ xs) [] = []
either_of (x ∷ xs) (y ∷ ys) = either_known x y ∷ either_of xs ys

-- the seat with the carrier's blocks
abbrev pub accepted : View → View → View
accepted v u = record v {
  small = both_lists u.small v.small;
  large = u.large ++ v.large;
  volatile = either_of u.volatile v.volatile;
  durable = either_of u.durable v.durable;
  ticket = None;
  accepts = v.accepts + 1;
}

-- the carrier without its block
abbrev pub emptied : View → View
emptied u = trimmed (record u { small = replicate lists []; large = []; carries = 2 })

-- a seat that goes on has a ticket in hand
pub record MayHand (v : View) : Type 0 where
  pub seat : v.carries ≡ 0
  pub going : one_if_some v.stopped ≡ 0
  pub ticket : IsThere v.ticket

-- of the views, w stands in the place of two, in any order
pub record AreOneLess (old new : List View) (v u w : View) : Type 0 where
  pub sums : (f : View → ℕ) → total f new + f v + f u ≡ total f old + f w
  pub members : (x : View) → Contains new x → (w ≡ x) ⊎ Contains old x

-- the seats that the heap was opened for, and the carriers that were made: each is there with its block, or its block was accepted
pub record AreSeatsAndCarriers (k : Setup) (views : List View) : Type 0 where
  pub seats : total (λ (v : View). 1 - v.carries) views ≡ k.seats
  pub carriers : total one_if_carrier views + total (λ (v : View). v.accepts) views ≡ total (λ (v : View). v.offers) views
  pub each : (v : View) → Contains views v → (v.carries ≡ 0) ⊎ IsCarrier v ⊎ IsEmptied v
