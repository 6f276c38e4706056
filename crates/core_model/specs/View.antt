-- What is seen of a seat: the part of the heap that is its own, what it has read, and what it has counted.
use Rattle.std.specs.Prelude.{ℕ, ◌+◌, Bool, false, ◌&&◌, nat_eq, nat_le, nat_lt, List, [], ◌∷◌, get_or, Option, None, Some}
use Rattle.heap_model.specs.Sizes.{words_of_class}
use Rattle.heap_model.specs.Counting.{times, total, one_if}
use Rattle.heap_model.specs.Geometry.{superblock_of}
use Rattle.core_model.specs.Cells.{Cell, used_cell, head_cell, info_cell, anchor_cell, link_cell, root_cell, data_cell, no_cell, index_of}

-- what stays the same from the opening on: capacity and budget, for how many seats it was opened, and the words of the opened image
pub record Setup : Type 0 where
  pub capacity : ℕ
  pub budget : ℕ
  pub seats : ℕ
  pub used : ℕ
  pub opened : List ℕ

-- a claimed descriptor whose superblock is cut for a class
pub record Claim : Type 0 where
  pub descriptor : ℕ
  pub class : ℕ

-- a held large block: its first superblock, and how many it takes
pub record Span : Type 0 where
  pub first : ℕ
  pub count : ℕ

-- free blocks of one superblock on their way to its anchor, each linked to the next; `linked` where no store has
-- changed the last one's link since it came from the cache
pub record Batch : Type 0 where
  pub descriptor : ℕ
  pub class : ℕ
  pub blocks : List ℕ
  pub linked : Bool

-- a snapshot of the head of a list, or of the anchor of a descriptor
pub record Snapshot : Type 0 where
  pub of : ℕ
  pub word : ℕ

-- what was seen last of a shared word: by which ticket, and how many exchanges had been won and superblocks taken by then
pub record LastLook : Type 0 where
  pub word : ℕ
  pub ticket : Option ℕ
  pub wins : ℕ
  pub taken : ℕ

-- a block is told by its first word; lists by class have one entry for each list
pub record View : Type 0 where
  pub setup : Setup
  -- held small blocks by class, held large blocks, and owned roots
  pub small : List (List ℕ)
  pub large : List Span
  pub roots : List ℕ
  -- free blocks: the cache of each class, and the batch
  pub caches : List (List ℕ)
  pub batch : Batch
  -- claimed descriptors: without a class; those of a large block that was split, which count as empty; those whose
  -- blocks are being made; and of a class
  pub raw : List ℕ
  pub split : List ℕ
  pub cutting : List ℕ
  pub classed : List Claim
  -- snapshots that a later exchange compares with
  pub seen_used : Option ℕ
  pub seen_head : Option Snapshot
  pub seen_link : Option ℕ
  pub seen_anchor : Option Snapshot
  -- last looks at the mark and at each head
  pub used_look : LastLook
  pub head_looks : List LastLook
  -- by word index, what is known of own words
  pub volatile : List (Option ℕ)
  pub durable : List (Option ℕ)
  -- all superblocks below are known to be below the durable mark
  pub floor : ℕ
  -- the ticket in hand, the last one drawn, and the one at which it stopped
  pub ticket : Option ℕ
  pub last_ticket : Option ℕ
  pub stopped : Option ℕ
  -- the word that the last lost exchange found; 0 before any
  pub lost_to : ℕ
  -- counts: superblocks taken, tickets drawn, superblocks cut, exchanges won and lost, batches given, and superblocks
  -- of a class put on the list of the free ones
  pub taken : ℕ
  pub draws : ℕ
  pub cuts : ℕ
  pub wins : ℕ
  pub losses : ℕ
  pub gives : ℕ
  pub moves : ℕ
  -- 1 of a carrier, which holds a block between two seats and takes no step, 2 of one whose block was accepted, else 0;
  -- and how many blocks a seat offered and accepted
  pub carries : ℕ
  pub offers : ℕ
  pub accepts : ℕ

-- whether it is a carrier, and how many blocks it offered and accepted
pub record Role : Type 0 where
  pub carries : ℕ
  pub offers : ℕ
  pub accepts : ℕ

-- that of a view
abbrev pub role : View → Role
role v = record { carries = v.carries; offers = v.offers; accepts = v.accepts }

-- of a seat that has offered and accepted nothing
abbrev pub no_role : Role
no_role = record { carries = 0; offers = 0; accepts = 0 }

-- the parts of the heap that are the seat's
pub record Parts : Type 0 where
  pub setup : Setup
  pub small : List (List ℕ)
  pub large : List Span
  pub roots : List ℕ
  pub caches : List (List ℕ)
  pub batch : Batch
  pub raw : List ℕ
  pub split : List ℕ
  pub cutting : List ℕ
  pub classed : List Claim

-- those of a view
abbrev pub parts : View → Parts
parts v = record {
  setup = v.setup;
  small = v.small;
  large = v.large;
  roots = v.roots;
  caches = v.caches;
  batch = v.batch;
  raw = v.raw;
  split = v.split;
  cutting = v.cutting;
  classed = v.classed;
}

-- 1 where there is something
abbrev pub one_if_some : {A : Type 0} → Option A → ℕ
one_if_some None = 0
one_if_some (Some x) = 1

-- a batch without blocks
abbrev pub no_batch : Batch
no_batch = record { descriptor = 0; class = 0; blocks = []; linked = false }

-- the entry of a list by class
abbrev pub of_class : List (List ℕ) → ℕ → List ℕ
of_class lists class = get_or lists class []

-- how often a descriptor is claimed without a class, being cut or not
abbrev pub times_raw : ℕ → View → ℕ
times_raw d v = times d v.raw + times d v.split + times d v.cutting

-- how often it is claimed with a class
abbrev pub times_classed : ℕ → List Claim → ℕ
times_classed d claims = total (λ (claim : Claim). one_if (nat_eq claim.descriptor d)) claims

-- how often it is claimed at all
abbrev pub times_claimed : ℕ → View → ℕ
times_claimed d v = times_raw d v + times_classed d v.classed

-- whether the large block takes superblock d
abbrev pub takes : ℕ → Span → Bool
takes d span = nat_le span.first d && nat_lt d (span.first + span.count)

-- how many held large blocks take superblock d
abbrev pub times_large : ℕ → List Span → ℕ
times_large d spans = total (λ span. one_if (takes d span)) spans

-- how often a small block is the seat's: held, cached or in the batch
abbrev pub times_block : ℕ → View → ℕ
times_block b v = total (times b) v.small + total (times b) v.caches + times b v.batch.blocks

-- how many blocks of so many words, of those that begin at the list's words, have the word
abbrev pub times_within : ℕ → ℕ → List ℕ → ℕ
times_within words word blocks = total (λ b. one_if (nat_le b word && nat_lt word (b + words))) blocks

-- the same for lists by class, from a class on
abbrev pub times_in_classes : ℕ → ℕ → List (List ℕ) → ℕ
times_in_classes word class [] = 0
times_in_classes word class (blocks ∷ lists) = times_within (words_of_class class) word blocks + times_in_classes word (class + 1) lists

-- how often the word is the seat's own: words of held, cached and batched blocks, and of claimed superblocks without a
-- class, whose info and anchor are its own too; owned roots; and the links of all claimed descriptors
abbrev pub times_own : View → Cell → ℕ
times_own v used_cell = 0
times_own v (head_cell list) = 0
times_own v (info_cell d) = times_raw d v
times_own v (anchor_cell d) = times_raw d v
times_own v (link_cell d) = times_claimed d v
times_own v (root_cell i) = times i v.roots
times_own v (data_cell word) = times_in_classes word 0 v.small + times_in_classes word 0 v.caches + times_within
    (words_of_class v.batch.class) word v.batch.blocks
    + times_large (superblock_of v.setup.capacity word) v.large + times_raw (superblock_of v.setup.capacity word) v
times_own v no_cell = 0

-- how often the word is one of a held block or an owned root
abbrev pub times_held : View → Cell → ℕ
times_held v used_cell = 0
times_held v (head_cell list) = 0
times_held v (info_cell d) = 0
times_held v (anchor_cell d) = 0
times_held v (link_cell d) = 0
times_held v (root_cell i) = times i v.roots
times_held v (data_cell word) = times_in_classes word 0 v.small + times_large (superblock_of v.setup.capacity word) v.large
times_held v no_cell = 0

-- how often the word is one of a cached block, or of one in the batch
abbrev pub times_free : View → ℕ → ℕ
times_free v word = times_in_classes word 0 v.caches + times_within (words_of_class v.batch.class) word v.batch.blocks

-- what the seat knows of a word
abbrev pub known : List (Option ℕ) → Cell → Option ℕ
known values cell = get_or values (index_of cell) None
