-- When a seat may do a step: what its parts and snapshots must be, what the memory must have, and, of a step that
-- compares, that the word is as it was seen.
use Rattle.std.specs.Prelude.{◌≡◌, ◌≢◌, ℕ, ◌+◌, ◌*◌, ◌<◌, ◌≤◌, ◌⊎◌, true, [], Option, None, Some, ⊤, length}
use Rattle.heap_model.specs.Geometry.{lists, start_word, superblock_of}
use Rattle.heap_model.specs.Sizes.{IsClass, words_of_class}
use Rattle.heap_model.specs.Words.{head_first, anchor_state, anchor_first, anchor_count, empty_state, partial_state, full_anchor, large_info}
use Rattle.heap_model.specs.Counting.{times, total}
use Rattle.heap_model.specs.Chains.{Walks}
use Rattle.core_model.specs.declared.event.Event.{Event}
use Rattle.core_model.specs.declared.event.Event.TheVariants.{Tick, Load, Store, Settle, LookUsed, TakeFresh, KeepUsed, LookHead, LookLink, Pop, Push, LookAnchor, TakeAll, Give}
use Rattle.core_model.specs.declared.event.Shift.{Shift}
use Rattle.core_model.specs.declared.event.Shift.TheVariants.{Cut, Alloc, Free, Lift, Large, Split}
use Rattle.core_model.specs.Cells.{Cell, anchor_cell, link_cell, data_cell, cell_at}
use Rattle.core_model.specs.Memory.{Memory, used, head, info, anchor, link, next, durable_used, durable_info}
use Rattle.core_model.specs.View.{View, of_class, one_if_some, times_classed, times_claimed, times_own}
use Rattle.core_model.specs.Effects.{seen, seen_word, seen_of, claim_class, span_count, class_blocks, first_of, last_of}

-- there is a snapshot, a ticket
abbrev pub IsThere : {A : Type 0} → Option A → Type 0
IsThere x = one_if_some x ≡ 1

-- the word is the seat's own
abbrev pub IsOwn : View → Cell → Type 0
IsOwn v cell = 0 < times_own v cell

-- the superblock is claimed, and its blocks are not being made
pub record IsFreelyClaimed (v : View) (d : ℕ) : Type 0 where
  pub claimed : 0 < times_claimed d v
  pub not_cutting : times d v.cutting ≡ 0

-- an anchor becomes full or 0: full where it is empty or counts as empty, to begin the making of blocks
pub data MayAnchor (m : Memory) (v : View) (d : ℕ) : ℕ → Type 0 where
  as_empty : (value : ℕ) → value ≡ 0 → MayAnchor m v d value
  as_full : (value : ℕ) → value ≡ full_anchor → times d v.cutting ≡ 0
      → (anchor_state (anchor m d) ≡ empty_state) ⊎ (0 < times d v.split) → MayAnchor m v d value

-- the first words of cached blocks stay, and those of the batch but the last one's
pub record MayChangeWord (v : View) (word : ℕ) : Type 0 where
  pub uncached : total (times word) v.caches ≡ 0
  pub in_batch : (times word v.batch.blocks ≡ 0) ⊎ (word ≡ last_of v.batch.blocks)

-- what may be stored to an own word
abbrev pub MayStore : Memory → View → Cell → ℕ → Type 0
MayStore m v (anchor_cell d) value = MayAnchor m v d value
MayStore m v (link_cell d) value = times d v.cutting ≡ 0
MayStore m v (data_cell word) value = MayChangeWord v word
MayStore m v cell value = ⊤

-- n fresh superblocks may be taken: the mark was seen, and the capacity has room for them
pub record MayTake (v : View) (n : ℕ) : Type 0 where
  pub is_seen : IsThere v.seen_used
  pub some : 1 ≤ n
  pub room : seen v.seen_used + n ≤ v.setup.capacity

-- the link behind a head may be read: the head was seen, and its list is not empty
pub record MayLink (v : View) : Type 0 where
  pub is_seen : IsThere v.seen_head
  pub some : head_first (seen_word v.seen_head) ≢ 0

-- a descriptor may be popped: the head and the link behind it were seen
pub record MayPop (v : View) : Type 0 where
  pub is_seen : IsThere v.seen_head
  pub link : IsThere v.seen_link

-- a superblock goes to the list of the free ones where its anchor is empty, or to the list of its class where it has free blocks
pub data MayList (m : Memory) (v : View) (d : ℕ) : ℕ → Type 0 where
  as_free : (list : ℕ) → list ≡ 0 → IsFreelyClaimed v d → anchor_state (anchor m d) ≡ empty_state → MayList m v d list
  of_its_class : (list : ℕ) → list ≢ 0 → 0 < times_classed d v.classed → info m d ≡ list
      → (anchor_state (anchor m d) ≡ partial_state) ⊎ (anchor_state (anchor m d) ≡ empty_state) → MayList m v d list

-- descriptor d may be pushed to the list whose head was seen: its link leads to that list's first, and a crash remembers it
pub record MayPush (m : Memory) (v : View) (d : ℕ) : Type 0 where
  pub is_seen : IsThere v.seen_head
  pub durable : d < durable_used m
  pub linked : link m d ≡ head_first (seen_word v.seen_head)
  pub listed : MayList m v d (seen_of v.seen_head)

-- the anchor of superblock d may be read: d is claimed, or the batch is of it
abbrev pub MayLookAt : View → ℕ → Type 0
MayLookAt v d = IsFreelyClaimed v d ⊎ ((v.batch.descriptor ≡ d) × (1 ≤ length v.batch.blocks))

-- all free blocks of superblock d may be taken: its anchor was seen partial, and the cache of its class is empty
pub record MayTakeAll (v : View) (d : ℕ) : Type 0 where
  pub claimed : 0 < times_classed d v.classed
  pub is_seen : IsThere v.seen_anchor
  pub of : seen_of v.seen_anchor ≡ d
  pub partial : anchor_state (seen_word v.seen_anchor) ≡ partial_state
  pub uncached : of_class v.caches (claim_class d v.classed) ≡ []

-- the batch may be given back to superblock d: its anchor was seen, and the last block leads to the first free one
pub record MayGive (m : Memory) (v : View) (d : ℕ) : Type 0 where
  pub batch : v.batch.descriptor ≡ d
  pub some : 1 ≤ length v.batch.blocks
  pub is_seen : IsThere v.seen_anchor
  pub of : seen_of v.seen_anchor ≡ d
  pub linked : anchor_count (seen_word v.seen_anchor) ≢ 0
      → next m (last_of v.batch.blocks) ≡ start_word v.setup.capacity d + anchor_first
      (seen_word v.seen_anchor) * words_of_class v.batch.class

-- superblock d may be cut: its class is durable, its blocks are linked, and the cache of its class is empty
pub record MayCut (m : Memory) (v : View) (d : ℕ) : Type 0 where
  pub cutting : 0 < times d v.cutting
  pub class : IsClass (info m d)
  pub durable_class : durable_info m d ≡ info m d
  pub durable : d < durable_used m
  pub linked : Walks (next m) (start_word v.setup.capacity d) (class_blocks v.setup.capacity (info m d) d)
  pub uncached : of_class v.caches (info m d) ≡ []

-- a block of the class may be allocated: one is cached
pub record MayAlloc (v : View) (class : ℕ) : Type 0 where
  pub is_class : IsClass class
  pub cached : 1 ≤ length (of_class v.caches class)

-- the block may be freed: it is held, and leads to the first cached block of its class
pub record MayFree (m : Memory) (v : View) (block : ℕ) : Type 0 where
  pub is_class : IsClass (info m (superblock_of v.setup.capacity block))
  pub held : 0 < times block (of_class v.small (info m (superblock_of v.setup.capacity block)))
  pub linked : 1 ≤ length (of_class v.caches (info m (superblock_of v.setup.capacity block)))
      → next m block ≡ first_of (of_class v.caches (info m (superblock_of v.setup.capacity block)))

-- the batch is empty, or of the block's superblock, and its last block is still linked to the block
pub record IsBehind (m : Memory) (v : View) (block : ℕ) : Type 0 where
  pub same : v.batch.descriptor ≡ superblock_of v.setup.capacity block
  pub unchanged : v.batch.linked ≡ true
  pub linked : next m (last_of v.batch.blocks) ≡ block

-- the first cached block of the class may go behind the batch
pub record MayLift (m : Memory) (v : View) (class : ℕ) : Type 0 where
  pub is_class : IsClass class
  pub cached : 1 ≤ length (of_class v.caches class)
  pub behind : 1 ≤ length v.batch.blocks → IsBehind m v (first_of (of_class v.caches class))

-- n claimed superblocks with empty anchors and durable infos become a large block
pub record MayHoldLarge (m : Memory) (v : View) (d n : ℕ) : Type 0 where
  pub some : 1 ≤ n
  pub claimed : (e : ℕ) → d ≤ e → e < d + n → (0 < times e v.raw + times e v.split)
  pub empty : (e : ℕ) → d ≤ e → e < d + n → (anchor_state (anchor m e) ≡ empty_state) ⊎ (0 < times e v.split)
  pub durable : d + n ≤ durable_used m
  pub first : info m d ≡ large_info n
  pub others : (e : ℕ) → d < e → e < d + n → info m e ≡ 0
  pub durable_infos : (e : ℕ) → d ≤ e → e < d + n → durable_info m e ≡ info m e

-- the large block may be split: it is held, and begins there
pub record MaySplit (v : View) (block : ℕ) : Type 0 where
  pub held : 1 ≤ span_count (superblock_of v.setup.capacity block) v.large
  pub first : block ≡ start_word v.setup.capacity (superblock_of v.setup.capacity block)

-- what a draw does besides may be done
abbrev pub MayShift : Memory → View → Option Shift → Type 0
MayShift m v None = ⊤
MayShift m v (Some (Cut d)) = MayCut m v d
MayShift m v (Some (Alloc class)) = MayAlloc v class
MayShift m v (Some (Free block)) = MayFree m v block
MayShift m v (Some (Lift class)) = MayLift m v class
MayShift m v (Some (Large d n)) = MayHoldLarge m v d n
MayShift m v (Some (Split block)) = MaySplit v block

-- what the event needs but for the ticket and the comparison
abbrev pub IsReadyFor : Memory → View → Event → Type 0
IsReadyFor m v (Tick shift) = MayShift m v shift
IsReadyFor m v (Load word) = IsOwn v (cell_at v.setup.capacity word)
IsReadyFor m v (Store word value) = IsOwn v (cell_at v.setup.capacity word) × MayStore m v (cell_at v.setup.capacity word) value
IsReadyFor m v (Settle word) = IsOwn v (cell_at v.setup.capacity word)
IsReadyFor m v LookUsed = ⊤
IsReadyFor m v (TakeFresh n) = MayTake v n
IsReadyFor m v KeepUsed = IsThere v.seen_used
IsReadyFor m v (LookHead list) = list < lists
IsReadyFor m v LookLink = MayLink v
IsReadyFor m v Pop = MayPop v
IsReadyFor m v (Push d) = MayPush m v d
IsReadyFor m v (LookAnchor d) = MayLookAt v d
IsReadyFor m v (TakeAll d) = MayTakeAll v d
IsReadyFor m v (Give d) = MayGive m v d

-- a ticket is in hand, where the event needs one
abbrev pub HasTicketFor : View → Event → Type 0
HasTicketFor v (Tick shift) = ⊤
HasTicketFor v (Settle word) = ⊤
HasTicketFor v event = IsThere v.ticket

-- the word is as it was seen, where the event compares
abbrev pub IsAsSeen : Memory → View → Event → Type 0
IsAsSeen m v (TakeFresh n) = used m ≡ seen v.seen_used
IsAsSeen m v Pop = head m (seen_of v.seen_head) ≡ seen_word v.seen_head
IsAsSeen m v (Push d) = head m (seen_of v.seen_head) ≡ seen_word v.seen_head
IsAsSeen m v (TakeAll d) = anchor m d ≡ seen_word v.seen_anchor
IsAsSeen m v (Give d) = anchor m d ≡ seen_word v.seen_anchor
IsAsSeen m v event = ⊤

-- a seat that has not stopped may take the step, and then wins it where it compares
pub record MayStep (m : Memory) (v : View) (event : Event) : Type 0 where
  pub going : one_if_some v.stopped ≡ 0
  pub ticket : HasTicketFor v event
  pub ready : IsReadyFor m v event

-- the seat may take the step, and wins it where it compares
pub record MayDo (m : Memory) (v : View) (event : Event) : Type 0 where
  pub may : MayStep m v event
  pub as_seen : IsAsSeen m v event
