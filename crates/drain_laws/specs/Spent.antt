-- A class that has nothing left, of a heap with one seat.
use Rattle.std.specs.Prelude.{◌≡◌, ◌<◌, ◌≤◌, ℕ, []}
use Rattle.heap_model.specs.Counting.{times}
use Rattle.heap_model.specs.Words.{head_first, full_anchor}
use Rattle.core_model.specs.Memory.{Memory, anchor, head, used}
use Rattle.core_model.specs.Sound.{IsCutBlock}
use Rattle.core_model.specs.View.{View, of_class}
use Rattle.seat_costs.specs.Idle.{IsIdle}

-- the list of the class, that of the free ones and the cache are empty, each superblock was taken, and the seat has none in hand
pub record IsSpent (capacity : ℕ) (m : Memory) (class : ℕ) (v : View) : Type 0 where
  pub class_empty : head_first (head m class) ≡ 0
  pub free_empty : head_first (head m 0) ≡ 0
  pub past : capacity ≤ used m
  pub cache : of_class v.caches class ≡ []
  pub idle : IsIdle v

-- superblock d of the class is full, and the seat holds each of its blocks
pub record IsAllHeld (capacity class d : ℕ) (m : Memory) (v : View) : Type 0 where
  pub anchor_is : anchor m d ≡ full_anchor
  pub blocks : (b : ℕ) → IsCutBlock capacity class d b → 0 < times b (of_class v.small class)
