-- What is so of memory and seats between any two steps, as records over no more than each reads. "In exactly one place"
-- is a sum over lists, seats and the superblocks that are full in no list.
use Rattle.std.specs.Prelude.{◌≡◌, ◌≢◌, ℕ, ◌+◌, ◌*◌, ◌<◌, ◌≤◌, ◌⊎◌, ◌↔◌, true, not, ◌&&◌, nat_eq, nat_lt, List, length, get_or, Contains, Option, None, Some, slice_index}
use Rattle.heap_model.specs.Geometry.{lists, roots, start_word, image_words, largest_capacity, capacity_word, used_word, IsFixed, superblock_of}
use Rattle.std.specs.List.{range_with_len}
use Rattle.heap_model.specs.Sizes.{last_class, IsClass, words_of_class, blocks_of}
use Rattle.heap_model.specs.Words.{head_first, head_pops, anchor_state, anchor_first, anchor_count, empty_state, partial_state, full_state, full_anchor, large_info}
use Rattle.heap_model.specs.Counting.{times, total, below, one_if}
use Rattle.heap_model.specs.Rest.{list_numbers}
use Rattle.heap_model.specs.Chains.{Follows, Walks}
use Rattle.core_model.specs.Cells.{Cell, anchor_cell, link_cell, is_cell}
use Rattle.core_model.specs.Memory.{Memory, used, head, info, anchor, link, next, durable_used, durable_info, table_length, memory_of}
use Rattle.core_model.specs.View.{Setup, View, Claim, Span, Batch, Snapshot, of_class, one_if_some, known, times_raw, times_classed, times_claimed, times_large, times_block}
use Rattle.core_model.specs.Effects.{seen, seen_word, seen_of, claim_class, span_count, first_of, steps, before}
use Rattle.core_model.specs.Guards.{IsThere, IsOwn}

-- the seats' parts of the heap, each added up: how often a superblock is claimed without a class, with one, or part of
-- a held large block; and how often a small block is held, cached or batched
pub record Tally : Type 0 where
  pub raw : ℕ → ℕ
  pub classed : ℕ → ℕ
  pub large : ℕ → ℕ
  pub blocks : ℕ → ℕ

-- those of the views
abbrev pub tally_of : List View → Tally
tally_of views = record {
  raw = λ d. total (times_raw d) views;
  classed = λ d. total (λ v. times_classed d v.classed) views;
  large = λ d. total (λ v. times_large d v.large) views;
  blocks = λ b. total (times_block b) views;
}

-- what the words hide: the descriptors of each list, which superblocks are full in no list, and the chain of each superblock
pub record CoreShape : Type 0 where
  pub lists : ℕ → List ℕ
  pub full : ℕ → ℕ
  pub chains : ℕ → List ℕ

-- the lists but that of the free superblocks
abbrev pub class_numbers : List ℕ
class_numbers = range_with_len 1 last_class

-- how often superblock d is in the list of a class
abbrev pub times_in_lists : CoreShape → ℕ → ℕ
times_in_lists g d = total (λ class. times d (g.lists class)) class_numbers

-- how often superblock d is cut: in the list of a class, claimed with a class, or full in no list
abbrev pub times_cut : CoreShape → Tally → ℕ → ℕ
times_cut g t d = times_in_lists g d + t.classed d + g.full d

-- each list leads along its descriptors
pub record AreLists (capacity : ℕ) (head link : ℕ → ℕ) (descriptors : ℕ → List ℕ) : Type 0 where
  pub follows : (list : ℕ) → list < lists → Follows link capacity (head_first (head list)) (descriptors list)

-- each taken superblock is in exactly one place, and no other is in any
pub record IsInOnePlace (used : ℕ) (g : CoreShape) (t : Tally) : Type 0 where
  pub one_place : (d : ℕ) → times d (g.lists 0) + times_cut g t d + t.raw d + t.large d ≡ below d used

-- a superblock that was never taken has nothing but 0 in its descriptor, volatile and durable
pub record IsBlank (m : Memory) (d : ℕ) : Type 0 where
  pub volatile : (info m d ≡ 0) × (anchor m d ≡ 0) × (link m d ≡ 0)
  pub durable : (durable_info m d ≡ 0) × (m.durable (anchor_cell d) ≡ 0) × (m.durable (link_cell d) ≡ 0)

-- each superblock above the mark is such
pub record AreUntaken (capacity : ℕ) (m : Memory) : Type 0 where
  pub blank : (d : ℕ) → used m ≤ d → d < capacity → IsBlank m d

-- infos and anchors fit the lists
pub record FitsLists (info anchor : ℕ → ℕ) (descriptors : ℕ → List ℕ) (full : ℕ → ℕ) : Type 0 where
  pub free : (d : ℕ) → 0 < times d (descriptors 0) → anchor_state (anchor d) ≡ empty_state
  pub in_class : (class d : ℕ) → IsClass class → 0 < times d (descriptors class) → (info d ≡ class) × (anchor_state (anchor d) < full_state)
  pub is_full : (d : ℕ) → 0 < full d → anchor d ≡ full_anchor

-- the anchor of a superblock of the class tells the chain of its free blocks: how many, the first, and the state
pub record IsAnchoredBy (next : ℕ → ℕ) (capacity class d word : ℕ) (chain : List ℕ) : Type 0 where
  pub walks : Walks next (start_word capacity d + anchor_first word * words_of_class class) chain
  pub count : anchor_count word ≡ length chain
  pub empty : (anchor_state word ≡ empty_state) ↔ (length chain ≡ blocks_of class)
  pub full : (word ≡ full_anchor) ↔ (length chain ≡ 0)
  pub partial : length chain ≢ 0 → length chain ≢ blocks_of class → anchor_state word ≡ partial_state

-- b is the first word of a block of superblock d, cut for the class
pub record IsCutBlock (capacity class d b : ℕ) : Type 0 where
  pub index : ℕ
  pub below : index < blocks_of class
  pub at : b ≡ start_word capacity d + index * words_of_class class

-- each cut superblock has a class and a chain; each of its blocks is in the chain or has one owner; and no other blocks are there
pub record AreChained (capacity : ℕ) (info anchor next : ℕ → ℕ) (chains : ℕ → List ℕ) (cut blocks : ℕ → ℕ) : Type 0 where
  pub is_class : (d : ℕ) → 0 < cut d → IsClass (info d)
  pub anchored : (d : ℕ) → 0 < cut d → IsAnchoredBy next capacity (info d) d (anchor d) (chains d)
  pub owned : (d b : ℕ) → 0 < cut d → IsCutBlock capacity (info d) d b → times b (chains d) + blocks b ≡ 1
  pub chained : (d b : ℕ) → 0 < cut d → 0 < times b (chains d) → IsCutBlock capacity (info d) d b
  pub inside : (b : ℕ) → 0 < blocks b → (0 < cut (superblock_of capacity b))
      × IsCutBlock capacity (info (superblock_of capacity b)) (superblock_of capacity b) b

-- the marks are in order; superblocks that a crash must not forget lie below the durable one, and their infos are durable
pub record AreDurable (capacity used durable_used : ℕ) (info durable_info free cut large : ℕ → ℕ) : Type 0 where
  pub behind : durable_used ≤ used
  pub room : used ≤ capacity
  pub below : (d : ℕ) → 0 < free d + cut d + large d → d < durable_used
  pub infos : (d : ℕ) → 0 < cut d + large d → durable_info d ≡ info d

-- how often superblock d is in the list of a class, or claimed with a class
abbrev pub times_parked : CoreShape → Tally → ℕ → ℕ
times_parked g t d = times_in_lists g d + t.classed d

-- how many of those have an empty anchor
abbrev pub empties : ℕ → (ℕ → ℕ) → (ℕ → ℕ) → ℕ
empties capacity anchor parked = total (λ d. one_if (nat_lt 0 (parked d) && nat_eq (anchor_state (anchor d)) empty_state))
    (steps 0 1 capacity)

-- everything that is said of superblocks, lists and blocks
pub record IsInShape (capacity : ℕ) (m : Memory) (g : CoreShape) (t : Tally) : Type 0 where
  pub lists : AreLists capacity (head m) (link m) g.lists
  pub placed : IsInOnePlace (used m) g t
  pub untaken : AreUntaken capacity m
  pub listed : FitsLists (info m) (anchor m) g.lists g.full
  pub chained : AreChained capacity (info m) (anchor m) (next m) g.chains (times_cut g t) t.blocks
  pub durable : AreDurable capacity (used m) (durable_used m) (info m) (durable_info m) (λ d. times d (g.lists 0)) (times_cut g t) t.large

-- each seat
abbrev pub Each : List View → (View → Type 0) → Type 0
Each views P = (i : ℕ) (v : View) → i < length views → get_or views i v ≡ v → P v

-- the setup, how long the lists of the view are, and that owned roots are among those of the heap
pub record IsSetUp (k : Setup) (v : View) : Type 0 where
  pub setup : v.setup ≡ k
  pub small : length v.small ≡ lists
  pub roots : (i : ℕ) → 0 < times i v.roots → i < roots
  pub caches : length v.caches ≡ lists
  pub looks : length v.head_looks ≡ lists
  pub volatile : length v.volatile ≡ image_words k.capacity
  pub durable : length v.durable ≡ image_words k.capacity

-- infos and anchors fit the seat's claims and large blocks
pub record HasClaims (info anchor : ℕ → ℕ) (raw split cutting : List ℕ) (classed : List Claim) (large : List Span) : Type 0 where
  pub is_raw : (d : ℕ) → 0 < times d raw → anchor_state (anchor d) ≡ empty_state
  pub is_split : (d : ℕ) → 0 < times d split → anchor_state (anchor d) ≢ partial_state
  pub is_cutting : (d : ℕ) → 0 < times d cutting → anchor d ≡ full_anchor
  pub is_classed : (d : ℕ) → 0 < times_classed d classed → IsClass (claim_class d classed) × (info d ≡ claim_class d classed)
      × (anchor_state (anchor d) < full_state)
  pub is_large : (d : ℕ) → 0 < span_count d large → (info d ≡ large_info (span_count d large)) × ((e : ℕ) → d < e
      → e < d + span_count d large → info e ≡ 0)
  pub is_part : (d : ℕ) → 0 < times_large d large → anchor_state (anchor d) ≢ partial_state
  pub some : (span : Span) → Contains large span → 1 ≤ span.count

-- of a memory and a view
abbrev pub ClaimsOf : Memory → View → Type 0
ClaimsOf m v = HasClaims (info m) (anchor m) v.raw v.split v.cutting v.classed v.large

-- its blocks are of the class of the list that they are in; those of each cache, and of the batch, are linked
pub record HasBlocks (capacity : ℕ) (info next : ℕ → ℕ) (small caches : List (List ℕ)) (batch : Batch) : Type 0 where
  pub held : (class b : ℕ) → 0 < times b (of_class small class) → info (superblock_of capacity b) ≡ class
  pub cached : (class b : ℕ) → 0 < times b (of_class caches class) → info (superblock_of capacity b) ≡ class
  pub batched : (b : ℕ) → 0 < times b batch.blocks → (superblock_of capacity b ≡ batch.descriptor) × (info batch.descriptor ≡ batch.class)
  pub cache_linked : (class : ℕ) → Walks next (first_of (of_class caches class)) (of_class caches class)
  pub batch_linked : Walks next (first_of batch.blocks) batch.blocks

-- of a memory and a view
abbrev pub BlocksOf : Memory → View → Type 0
BlocksOf m v = HasBlocks v.setup.capacity (info m) (next m) v.small v.caches v.batch

-- a head that was seen has no more pops than now; where it has as many, its descriptor is in the list, and its link is as it was seen
pub record KnowsHead (capacity : ℕ) (heads links : ℕ → ℕ) (descriptors : ℕ → List ℕ) (list word : ℕ) (link : Option ℕ) : Type 0 where
  pub is_list : list < lists
  pub small : head_first word ≤ capacity
  pub pops : head_pops word ≤ head_pops (heads list)
  pub listed : head_pops word ≡ head_pops (heads list) → head_first word ≢ 0 → 0 < times (before (head_first word)) (descriptors list)
  pub linked : IsThere link → (head_first word ≢ 0) × (head_pops word ≡ head_pops (heads list)
      → links (before (head_first word)) ≡ seen link)

-- what the seat saw is still true as far as it goes
pub record Knows (capacity : ℕ) (m : Memory) (g : CoreShape) (v : View) : Type 0 where
  pub seen_head : IsThere v.seen_head → KnowsHead capacity (head m) (link m) g.lists (seen_of v.seen_head)
      (seen_word v.seen_head) v.seen_link
  pub seen_used : IsThere v.seen_used → seen v.seen_used ≤ used m
  pub looked : v.used_look.word + v.taken ≤ used m + v.used_look.taken
  pub seen_anchor : IsThere v.seen_anchor → (0 < times_claimed (seen_of v.seen_anchor) v)
      ⊎ ((v.batch.descriptor ≡ seen_of v.seen_anchor) × (1 ≤ length v.batch.blocks))
  pub seen_empty : IsThere v.seen_anchor → 0 < times_classed (seen_of v.seen_anchor) v.classed
      → anchor_state (seen_word v.seen_anchor) ≡ empty_state
      → anchor_state (anchor m (seen_of v.seen_anchor)) ≡ empty_state
  pub floor : v.floor ≤ durable_used m

-- a ticket, if there is one, has been drawn
pub record IsTicketDrawn (drawn : ℕ) (ticket : Option ℕ) : Type 0 where
  pub is_drawn : IsThere ticket → seen ticket < drawn

-- a seat stops at its last ticket, which is not below the budget, and has none in hand then; a ticket in hand is the
-- last one, and below the budget; and so are the tickets of a seat that has not stopped
pub record IsTicketed (budget : ℕ) (ticket last stopped : Option ℕ) : Type 0 where
  pub stopping : (t : ℕ) → stopped ≡ Some t → (budget ≤ t) × (last ≡ Some t) × (ticket ≡ None)
  pub in_hand : IsThere ticket → (last ≡ ticket) × (seen ticket < budget)
  pub going : stopped ≡ None → IsThere last → seen last < budget

-- the tickets of a seat, with what it counted: no more wins and losses than draws, and no more gives and cuts than those
pub record HasTickets (budget drawn : ℕ) (v : View) : Type 0 where
  pub ticket : IsTicketDrawn drawn v.ticket
  pub last : IsTicketDrawn drawn v.last_ticket
  pub used_look : IsTicketDrawn drawn v.used_look.ticket
  pub head_looks : (list : ℕ) → list < lists → IsTicketDrawn drawn (get_or v.head_looks list v.used_look).ticket
  pub counts : v.wins + v.losses + one_if_some v.ticket ≤ v.draws
  pub state : IsTicketed budget v.ticket v.last_ticket v.stopped
  pub looked_then : (v.used_look.taken ≤ v.taken) × (v.used_look.wins ≤ v.wins)
  pub gives : v.gives + v.moves ≤ v.wins
  pub cuts : v.cuts ≤ v.draws

-- what is known of a word is its value, and the word is the seat's own
pub record KnowsWords (capacity : ℕ) (m : Memory) (v : View) : Type 0 where
  pub volatile : (cell : Cell) (value : ℕ) → is_cell capacity cell ≡ true → known v.volatile cell ≡ Some value
      → IsOwn v cell × (m.volatile cell ≡ value)
  pub durable : (cell : Cell) (value : ℕ) → is_cell capacity cell ≡ true → known v.durable cell ≡ Some value
      → IsOwn v cell × (m.durable cell ≡ value)

-- 1 where there is a snapshot that differs from the word now
abbrev pub differs : Option ℕ → ℕ → ℕ
differs None now = 0
differs (Some word) now = one_if (not (nat_eq word now))

-- 1 where the snapshot of a head is stale
abbrev pub stale_head : Memory → Option Snapshot → ℕ
stale_head m None = 0
stale_head m (Some s) = one_if (not (nat_eq s.word (head m s.of)))

-- 1 where the snapshot of an anchor is stale whose descriptor is not claimed without a class
abbrev pub stale_anchor : Memory → View → Option Snapshot → ℕ
stale_anchor m v None = 0
stale_anchor m v (Some s) = one_if (nat_eq (times_raw s.of v) 0 && not (nat_eq s.word (anchor m s.of)))

-- how many snapshots of shared words are stale: of the mark, of a head, and of an anchor
abbrev pub stale : Memory → View → ℕ
stale m v = differs v.seen_used (used m) + stale_head m v.seen_head + stale_anchor m v v.seen_anchor

-- the sums over the seats
pub record HasTotals (k : Setup) (m : Memory) (views : List View) : Type 0 where
  -- each draw is a ticket, and each pop uses one up
  pub draws : m.drawn ≡ total (λ (v : View). v.draws) views
  pub pops : total (λ list. head_pops (head m list)) list_numbers + total (λ (v : View). one_if_some v.ticket) views ≤ m.drawn
  pub budget : total (λ list. head_pops (head m list)) list_numbers + total (λ (v : View). one_if_some v.ticket) views ≤ k.budget
  pub stopped : m.drawn ≤ k.budget + total (λ (v : View). one_if_some v.stopped) views
  pub taken : used m ≡ k.used + total (λ (v : View). v.taken) views
  -- a root is own to at most one seat
  pub roots : (i : ℕ) → total (λ (v : View). times i v.roots) views ≤ 1

-- each lost exchange, and each stale snapshot, is one that another seat won
abbrev pub HasLost : Memory → List View → View → Type 0
HasLost m views v = v.losses + stale m v + v.wins ≤ total (λ (u : View). u.wins) views

-- memory and seats fit together
pub record Good (k : Setup) (m : Memory) (views : List View) : Type 0 where
  pub small : k.capacity ≤ largest_capacity
  pub shape : CoreShape
  pub shaped : IsInShape k.capacity m shape (tally_of views)
  pub set_up : Each views (IsSetUp k)
  pub claims : Each views (ClaimsOf m)
  pub blocks : Each views (BlocksOf m)
  pub knows : Each views (Knows k.capacity m shape)
  pub words : Each views (KnowsWords k.capacity m)
  pub tickets : Each views (HasTickets k.budget m.drawn)
  pub adds : HasTotals k m views
  pub lost : Each views (HasLost m views)
  -- superblocks that became empty in a list of their class came there by a give, or were so at the opening
  pub moves : empties k.capacity (anchor m) (times_parked shape (tally_of views)) + total (λ (v : View). v.moves) views ≤ total (λ
      (v : View). v.gives) views + k.capacity

-- the words of the shared table and the views of the seats are sound
pub record Sound (k : Setup) (words : List ℕ) (views : List View) : Type 0 where
  pub some : 1 ≤ k.capacity
  pub long : length words ≡ table_length k.capacity
  pub fixed : (word : ℕ) → IsFixed k.capacity word → (get_or words word 0 ≡ slice_index k.opened word)
      × (get_or words (image_words k.capacity + word) 0 ≡ slice_index k.opened word)
  pub capacity : slice_index k.opened capacity_word ≡ k.capacity
  pub used : slice_index k.opened used_word ≡ k.used
  pub good : Good k (memory_of k.capacity words) views
