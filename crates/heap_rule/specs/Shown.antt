-- When a seat may do a step, as its view shows it: by what it has, what it has seen, and what it knows of its own words.
use Rattle.std.specs.Prelude.{◌≡◌, ◌≢◌, ◌≤◌, ◌<◌, ◌⊎◌, ◌+◌, ◌*◌, ℕ, true, cond, nat_eq, List, [], ◌∷◌, Option, Some, None, ⊤, length}
use Rattle.heap_model.specs.Counting.{times}
use Rattle.heap_model.specs.Geometry.{lists, start_word, superblock_of}
use Rattle.heap_model.specs.Sizes.{IsClass, words_of_class}
use Rattle.heap_model.specs.Words.{head_first, anchor_state, anchor_first, anchor_count, empty_state, full_anchor, large_info}
use Rattle.core_model.specs.declared.event.Event.{Event}
use Rattle.core_model.specs.declared.event.Event.TheVariants.{Tick, Load, Store, Settle, LookUsed, TakeFresh, KeepUsed, LookHead, LookLink, Pop, Push, LookAnchor, TakeAll, Give}
use Rattle.core_model.specs.declared.event.Shift.{Shift}
use Rattle.core_model.specs.declared.event.Shift.TheVariants.{Cut, Alloc, Free, Lift, Large, Split}
use Rattle.core_model.specs.Cells.{Cell, info_cell, anchor_cell, link_cell, data_cell, cell_at}
use Rattle.core_model.specs.View.{View, of_class, times_classed, known}
use Rattle.core_model.specs.Effects.{seen_word, seen_of, claim_class, class_blocks, first_of, last_of}
use Rattle.core_model.specs.Guards.{IsThere, IsOwn, IsFreelyClaimed, MayChangeWord, MayTake, MayLink, MayPop, MayLookAt, MayTakeAll, MayAlloc, MaySplit, HasTicketFor}

-- the seat knows that loads see this value of the word
abbrev pub Shows : View → Cell → ℕ → Type 0
Shows v cell value = known v.volatile cell ≡ Some value

-- it knows that a crash leaves this value of it
abbrev pub ShowsDurable : View → Cell → ℕ → Type 0
ShowsDurable v cell value = known v.durable cell ≡ Some value

-- all blocks of the claimed superblock are free: since it is claimed without a class, by its anchor, which is the
-- seat's own, or by what was seen of it since it was claimed
pub data ShowsEmpty (v : View) (d : ℕ) : Type 0 where
  by_claim : 0 < times d v.raw → ShowsEmpty v d
  by_anchor : (anchor : ℕ) → Shows v (anchor_cell d) anchor → anchor_state anchor ≡ empty_state → ShowsEmpty v d
  by_look : 0 < times_classed d v.classed → IsThere v.seen_anchor → seen_of v.seen_anchor ≡ d
      → anchor_state (seen_word v.seen_anchor) ≡ empty_state → ShowsEmpty v d

-- each block but the last is linked to the next
abbrev pub ShowsLinks : View → List ℕ → Type 0
ShowsLinks v [] = ⊤
ShowsLinks v (b ∷ []) = ⊤
ShowsLinks v (b ∷ c ∷ blocks) = Shows v (data_cell b) c × ShowsLinks v (c ∷ blocks)

-- what may be stored to an own word
pub data CanAnchor (v : View) (d : ℕ) : ℕ → Type 0 where
  as_empty : CanAnchor v d 0
  as_full : times d v.cutting ≡ 0 → ShowsEmpty v d ⊎ (0 < times d v.split) → CanAnchor v d full_anchor

-- this value may be stored to the cell
abbrev pub CanStore : View → Cell → ℕ → Type 0
CanStore v (anchor_cell d) value = CanAnchor v d value
CanStore v (link_cell d) value = times d v.cutting ≡ 0
CanStore v (data_cell word) value = MayChangeWord v word
CanStore v cell value = ⊤

-- a claimed superblock goes to the list of the free ones, or to that of its class
pub data CanList (v : View) (d : ℕ) : ℕ → Type 0 where
  as_free : IsFreelyClaimed v d → ShowsEmpty v d → CanList v d 0
  of_its_class : (class : ℕ) → IsClass class → 0 < times_classed d v.classed → claim_class d v.classed ≡ class
      → CanList v d class

-- the superblock may go to the list whose head was seen
pub record CanPush (v : View) (d : ℕ) : Type 0 where
  pub is_seen : IsThere v.seen_head
  pub durable : d < v.floor
  pub linked : Shows v (link_cell d) (head_first (seen_word v.seen_head))
  pub listed : CanList v d (seen_of v.seen_head)

-- the batch may go to the superblock whose anchor was seen
pub record CanGive (v : View) (d : ℕ) : Type 0 where
  pub batch : v.batch.descriptor ≡ d
  pub some : 1 ≤ length v.batch.blocks
  pub is_seen : IsThere v.seen_anchor
  pub of : seen_of v.seen_anchor ≡ d
  pub linked : anchor_count (seen_word v.seen_anchor) ≢ 0 → Shows v (data_cell (last_of v.batch.blocks))
      (start_word v.setup.capacity d + anchor_first (seen_word v.seen_anchor) * words_of_class v.batch.class)

-- the superblock was made ready, all its blocks linked, and its class has no block cached
pub record CanCut (v : View) (d : ℕ) : Type 0 where
  pub cutting : 0 < times d v.cutting
  pub class : ℕ
  pub is_class : IsClass class
  pub info_is : Shows v (info_cell d) class
  pub durable_info_is : ShowsDurable v (info_cell d) class
  pub durable : d < v.floor
  pub linked : ShowsLinks v (class_blocks v.setup.capacity class d)
  pub uncached : of_class v.caches class ≡ []

-- the held block is linked to the first block of its cache
pub record CanFree (v : View) (block : ℕ) : Type 0 where
  pub class : ℕ
  pub held : 0 < times block (of_class v.small class)
  pub linked : 1 ≤ length (of_class v.caches class) → Shows v (data_cell block) (first_of (of_class v.caches class))

-- the first block of the cache may come behind the batch
pub record CanLift (v : View) (class : ℕ) : Type 0 where
  pub is_class : IsClass class
  pub cached : 1 ≤ length (of_class v.caches class)
  pub same : 1 ≤ length v.batch.blocks → v.batch.descriptor ≡ superblock_of v.setup.capacity (first_of (of_class v.caches class))
  pub unchanged : 1 ≤ length v.batch.blocks → v.batch.linked ≡ true
  pub linked : 1 ≤ length v.batch.blocks → Shows v (data_cell (last_of v.batch.blocks)) (first_of (of_class v.caches class))

-- superblock e may be one of the n from d on that become a large block
pub record CanJoin (v : View) (d n e : ℕ) : Type 0 where
  pub claimed : 0 < times e v.raw + times e v.split
  pub empty : ShowsEmpty v e ⊎ (0 < times e v.split)
  pub info_is : Shows v (info_cell e) (cond (nat_eq e d) (large_info n) 0)
  pub durable_info_is : ShowsDurable v (info_cell e) (cond (nat_eq e d) (large_info n) 0)

-- the superblocks from d on may become a large block
pub record CanHoldLarge (v : View) (d n : ℕ) : Type 0 where
  pub some : 1 ≤ n
  pub durable : d + n ≤ v.floor
  pub each : (e : ℕ) → d ≤ e → e < d + n → CanJoin v d n e

-- the parts may change so
abbrev pub CanShift : View → Option Shift → Type 0
CanShift v None = ⊤
CanShift v (Some (Cut d)) = CanCut v d
CanShift v (Some (Alloc class)) = MayAlloc v class
CanShift v (Some (Free block)) = CanFree v block
CanShift v (Some (Lift class)) = CanLift v class
CanShift v (Some (Large d n)) = CanHoldLarge v d n
CanShift v (Some (Split block)) = MaySplit v block

-- what the event needs but for the ticket and the comparison
abbrev pub IsShownFor : View → Event → Type 0
IsShownFor v (Tick shift) = CanShift v shift
IsShownFor v (Load word) = IsOwn v (cell_at v.setup.capacity word)
IsShownFor v (Store word value) = IsOwn v (cell_at v.setup.capacity word) × CanStore v (cell_at v.setup.capacity word) value
IsShownFor v (Settle word) = IsOwn v (cell_at v.setup.capacity word)
IsShownFor v LookUsed = ⊤
IsShownFor v (TakeFresh n) = MayTake v n
IsShownFor v KeepUsed = IsThere v.seen_used
IsShownFor v (LookHead list) = list < lists
IsShownFor v LookLink = MayLink v
IsShownFor v Pop = MayPop v
IsShownFor v (Push d) = CanPush v d
IsShownFor v (LookAnchor d) = MayLookAt v d
IsShownFor v (TakeAll d) = MayTakeAll v d
IsShownFor v (Give d) = CanGive v d

-- a seat that has not stopped can do the event
pub record Can (v : View) (event : Event) : Type 0 where
  pub going : v.stopped ≡ None
  pub ticket : HasTicketFor v event
  pub shown : IsShownFor v event
