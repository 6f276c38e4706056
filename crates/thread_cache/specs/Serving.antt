-- What a granted and a refused request, and a freed block, leave of a seat that allocates by caches.
use Rattle.std.specs.Prelude.{◌≡◌, ◌<◌, ◌≤◌, ℕ, ◌+◌, ◌-◌, ◌*◌, [], length}
use Rattle.heap_model.specs.declared.block.Block.{Block}
use Rattle.heap_model.specs.Sizes.{IsLeastClassFor, largest_small, span_of}
use Rattle.heap_seat.specs.declared.fault.Looks.{Looks}
use Rattle.core_model.specs.View.{View, of_class}
use Rattle.thread_cache.specs.Large.{HasNoRoom}
use Rattle.thread_cache.specs.Requests.{IsGivenBack, IsGranted, light_free_costs, light_request, most_free_costs, request_costs}
use Rattle.cache_fill.specs.Refills.{IsFilledInOrder, IsFull}
use Rattle.seat_costs.specs.Costs.{one_draw}
use Rattle.seat_costs.specs.Rows.{IsMade, Passes, next_of, parts}

-- a call that cuts, gives and takes nothing, and holds or frees no large block, draws 64 tickets at most, and 16 for
-- each lost exchange and each superblock that it moves
abbrev pub IsLight : View → View → Type 0
IsLight v w = w.cuts ≡ v.cuts → w.gives ≡ v.gives → w.taken ≡ v.taken → w.large ≡ v.large
    → w.draws + 16 * v.losses + 16 * v.moves ≤ v.draws + 64 + 16 * w.losses + 16 * w.moves

-- before superblocks were taken, the mark told by a ticket of this call that there is room for them
pub record HasSeenRoom (bytes : ℕ) (v w : View) : Type 0 where
  pub made : IsMade (next_of v) (next_of w) v.taken v.taken w.used_look
  pub room : w.used_look.word + span_of bytes ≤ w.setup.capacity

-- A granted request. A block of a class is the first of its cache, where that had one, by one ticket; else the cache
-- was filled in order. A large one begins at
-- the mark that was seen. Nothing else that the seat had changed, and no batch was given. It cost what a request may
-- cost, and less where it cut nothing.
pub record IsServed (bytes : ℕ) (v w : View) : Type 0 where
  pub light : IsLight v w
  pub block : Block
  pub granted : IsGranted bytes block v w
  pub gives : w.gives ≡ v.gives
  pub order : (class : ℕ) → IsLeastClassFor bytes class → IsFilledInOrder class v w
  pub cached : (class : ℕ) → IsLeastClassFor bytes class → 1 ≤ length (of_class v.caches class) → Passes one_draw v w
  pub costs : Passes (request_costs bytes (w.moves - v.moves)) v w
  pub uncut : w.cuts ≡ v.cuts → Passes (light_request bytes (w.moves - v.moves)) v w
  pub large : largest_small < bytes → HasSeenRoom bytes v w

-- A refused request. Of a class, whose cache is empty, it found both lists empty and the mark past, in this order, and
-- won no exchange from the first of these
-- looks on. One that is too large for a class found the mark past, and won none at all. The seat has what it had, and
-- cut and gave nothing. It cost what a request
-- may cost that cuts nothing.
pub record IsTurnedAway (bytes : ℕ) (looks : Looks) (v w : View) : Type 0 where
  pub light : IsLight v w
  pub parts_are : parts w ≡ parts v
  pub cuts : w.cuts ≡ v.cuts
  pub gives : w.gives ≡ v.gives
  pub costs : Passes (light_request bytes (w.moves - v.moves)) v w
  pub for_class : (class : ℕ) → IsLeastClassFor bytes class → IsFull class looks v w × (of_class v.caches class ≡ [])
  pub for_span : largest_small < bytes → HasNoRoom (span_of bytes) looks v w

-- A freed block. One of a class went before those of its cache. Where that then had as many as a superblock it was
-- flushed, in one batch for each run. Of a large
-- one no superblock is claimed. Nothing was cut. It cost what the freeing of a block may cost, and less where it only went into the cache.
pub record IsPutBack (b : Block) (v w : View) : Type 0 where
  pub light : IsLight v w
  pub cuts : w.cuts ≡ v.cuts
  pub costs : Passes most_free_costs v w
  pub cached : w.gives ≡ v.gives → w.large ≡ v.large → Passes light_free_costs v w
  pub given : IsGivenBack b v w
