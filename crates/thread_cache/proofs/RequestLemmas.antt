-- What a request of any size, and the freeing of any block, leave.
use Rattle.std.proofs.Common.{◌≡◌, ◌<◌, ◌≤◌, ℕ, ◌+◌, ◌*◌, inl, inr, true, nat_le, nat_lt, length, Result, Ok, Err, IfOk, OnOk, IfErr, OnErr, refl, ap, sym, subst, arith}
use Rattle.std.specs.Bool.{⊤}
use Rattle.std.proofs.lemmas.Bool.{cases_lt, leb-true}
use Rattle.heap_model.specs.declared.block.Block.{Block}
use Rattle.heap_model.specs.Blocks.{IsIn}
use Rattle.heap_model.specs.Counting.{times}
use Rattle.heap_model.specs.Geometry.{largest_capacity, start_word, superblock_words, superblocks_end, superblock_of}
use Rattle.heap_model.specs.Sizes.{IsClass, IsLeastClassFor, blocks_of, largest_small, span_of, words_of_class}
use Rattle.heap_model.proofs.SizeLemmas.{few_blocks, few_words, size_of-words}
use Rattle.size_table.proofs.ClassLemmas.{least_of_size, least_small, one_least}
use Rattle.line_memory.specs.declared.memory.Stopped.{Stopped}
use Rattle.heap_seat.specs.declared.fault.AllocFault.{AllocFault}
use Rattle.heap_seat.specs.declared.fault.AllocFault.TheVariants.{Full, Stopped as StoppedFault}
use Rattle.core_model.specs.Cells.{Cell, used_cell, head_cell, info_cell, anchor_cell, link_cell, root_cell, data_cell, no_cell, cell_at, index_of, is_cell}
use Rattle.core_model.specs.Effects.{span_count, without_span}
use Rattle.core_model.specs.Guards.{MaySplit}
use Rattle.core_model.specs.Held.{IsHeld, a_small, a_large}
use Rattle.core_model.specs.View.{View, of_class, times_large}
use Rattle.core_model.proofs.OwnerLemmas.{in_lists_total}
use Rattle.heap_model.proofs.PartLemmas.{same_fields}
use Rattle.core_model.proofs.PlaceLemmas.{and_both}
use Rattle.core_model.proofs.RangeLemmas.{in_range, range_is, range_not, without_span_is}
use Rattle.heap_table.specs.Plays.{HasSoundState}
use Rattle.heap_rule.specs.Seated.{SeatView}
use Rattle.heap_rule.proofs.HeldLemmas.{held_placed}
use Rattle.heap_rule.proofs.SettleLemmas.{own_index, own_there}
use Rattle.seat_index.proofs.ViewBlocks.{block_class}
use Rattle.large_block.specs.Splits.{MayHaveSplit}
use Rattle.seat_costs.specs.Costs.{IsWithin, no_costs, one_draw}
use Rattle.seat_costs.specs.Rows.{HoldingRow, IsHeldBoth, Parts, Row, RowBut}
use Rattle.seat_costs.specs.Words.{IsHeldWord, times_held}
use Rattle.seat_costs.proofs.RowLemmas.{but_fewer, holding_within, row_within}
use Rattle.seat_costs.proofs.WordLemmas.{owns_held, still_held}
use Rattle.cache_fill.specs.Refills.{IsFilledInOrder}
use Rattle.thread_cache.specs.Large.{AllocatesNoLarge, HasAllocatedLarge, HasFreedLarge, large_costs, large_free_costs}
use Rattle.thread_cache.specs.Requests.{Answers, IsGivenBack, IsSmallBlock, IsSpan, by_class, by_span, light_free_costs, light_request, most_free_costs, of_a_class, of_a_span, request_costs}
use Rattle.thread_cache.specs.Small.{AllocatesNone, HasAllocated, HasFreed, IfGoing, IsHeldOutside, alloc_costs, block_of, free_costs, light_alloc}

-- a span has a superblock at least
some_span : (bytes : ℕ) → 1 ≤ span_of bytes
some_span bytes = omega arith

-- a request of a class
pub answers_class : (bytes class : ℕ) (v w : View) (result : Result Block AllocFault) → IsLeastClassFor bytes class
    → IfOk result (λ b. HasAllocated class b v w) → IfErr result (λ fault. AllocatesNone class fault v w) → Answers bytes result v w
answers_class bytes class v w (Ok b) least ok err = by_class class least ok
answers_class bytes class v w (Err (Full looks)) least ok err = by_class class least err.0 err.1
answers_class bytes class v w (Err (StoppedFault e)) least ok err = err

pub answers_span : (bytes : ℕ) (v w : View) (result : Result Block AllocFault) → largest_small < bytes
    → IfOk result (λ b. HasAllocatedLarge (span_of bytes) b v w) → IfErr result (λ fault. AllocatesNoLarge (span_of bytes) fault v w)
    → Answers bytes result v w
answers_span bytes v w (Ok b) large ok err = by_span large ok
answers_span bytes v w (Err (Full looks)) large ok err = by_span large err
answers_span bytes v w (Err (StoppedFault e)) large ok err = err

module _ (bytes moves : ℕ) where
  class_within : (class : ℕ) → IsClass class → IsWithin (alloc_costs class moves) (request_costs bytes moves)
  class_within class is = let few = few_blocks class is in let some = some_span bytes in
      record { draws = omega arith; wins = omega arith; gives = omega arith; cuts = omega arith; taken = omega arith; moves = omega arith }

  span_within : IsWithin (large_costs (span_of bytes)) (request_costs bytes moves)
  span_within = record { draws = omega arith; wins = omega arith; gives = omega arith; cuts = omega arith; taken = omega arith; moves = omega arith }

  pub class_row : (class : ℕ) (v w : SeatView) → IsClass class → HoldingRow (alloc_costs class moves) v w → HoldingRow (request_costs bytes moves) v w
  class_row class v w is = holding_within (request_costs bytes moves) v w (class_within class is)

  pub span_row : (v w : SeatView) → HoldingRow (large_costs (span_of bytes)) v w → HoldingRow (request_costs bytes moves) v w
  span_row v w = holding_within (request_costs bytes moves) v w span_within

  pub class_none : {A E : Type 0} (class : ℕ) (v w : SeatView) (result : Result A E) → IsClass class
      → OnErr result (Row (alloc_costs class moves) v w) → OnErr result (Row (request_costs bytes moves) v w)
  class_none class v w (Ok a) is row = tt
  class_none class v w (Err e) is row = row_within (request_costs bytes moves) v w (class_within class is) row

  pub span_none : {A E : Type 0} (v w : SeatView) (result : Result A E) → OnErr result (Row (large_costs (span_of bytes)) v w)
      → OnErr result (Row (request_costs bytes moves) v w)
  span_none v w (Ok a) row = tt
  span_none v w (Err e) row = row_within (request_costs bytes moves) v w span_within row

  light_class : (v w : SeatView) → HoldingRow (light_alloc moves) v w → HoldingRow (light_request bytes moves) v w
  light_class v w = let some = some_span bytes in holding_within (light_request bytes moves) v w
      (record { draws = omega arith; wins = omega arith; gives = omega arith; cuts = omega arith; taken = omega arith; moves = omega arith })

  pub class_light : (P : Type 0) (v w : SeatView) (result : Result Block AllocFault) → IfGoing result (P → HoldingRow (light_alloc moves) v w)
      → IfGoing result (P → HoldingRow (light_request bytes moves) v w)
  class_light P v w (Ok b) light = λ p. light_class v w (light p)
  class_light P v w (Err (Full looks)) light = λ p. light_class v w (light p)
  class_light P v w (Err (StoppedFault e)) light = tt

  pub span_light : (P : Type 0) (v w : SeatView) (result : Result Block AllocFault) → HoldingRow (large_costs (span_of bytes)) v w
      → IfGoing result (P → HoldingRow (light_request bytes moves) v w)
  span_light P v w (Ok b) row = λ p. holding_within (light_request bytes moves) v w
      (record { draws = omega arith; wins = omega arith; gives = omega arith; cuts = omega arith; taken = omega arith; moves = omega arith }) row
  span_light P v w (Err (Full looks)) row = λ p. holding_within (light_request bytes moves) v w
      (record { draws = omega arith; wins = omega arith; gives = omega arith; cuts = omega arith; taken = omega arith; moves = omega arith }) row
  span_light P v w (Err (StoppedFault e)) row = tt

-- the order by which the cache of the least class was filled
pub class_order : (bytes class : ℕ) (v w : View) (result : Result Block AllocFault) → IsLeastClassFor bytes class
    → IfGoing result (IsFilledInOrder class v w) → IfGoing result ((c : ℕ) → IsLeastClassFor bytes c → IsFilledInOrder c v w)
class_order bytes class v w (Ok b) least order = λ c other. subst (λ k. IsFilledInOrder k v w) (one_least bytes class c least other) order
class_order bytes class v w (Err (Full looks)) least order = λ c other. subst (λ k. IsFilledInOrder k v w) (one_least bytes class c least other) order
class_order bytes class v w (Err (StoppedFault e)) least order = tt

pub span_order : (bytes : ℕ) (v w : View) (result : Result Block AllocFault) → largest_small < bytes
    → IfGoing result ((c : ℕ) → IsLeastClassFor bytes c → IsFilledInOrder c v w)
span_order bytes v w (Ok b) large = λ c least. absurd (let small = least_small bytes c least in omega arith)
span_order bytes v w (Err (Full looks)) large = λ c least. absurd (let small = least_small bytes c least in omega arith)
span_order bytes v w (Err (StoppedFault e)) large = tt

-- the cache of the least class served it
pub class_cached : (bytes class : ℕ) (v w : SeatView) → IsLeastClassFor bytes class
    → (1 ≤ length (of_class v.view.caches class) → HoldingRow one_draw v w)
    → (c : ℕ) → IsLeastClassFor bytes c → 1 ≤ length (of_class v.view.caches c) → HoldingRow one_draw v w
class_cached bytes class v w least cached c other some = cached (subst (λ k. 1 ≤ length (of_class v.view.caches k))
    (sym (one_least bytes class c least other)) some)

pub span_cached : (bytes : ℕ) (v w : SeatView) → largest_small < bytes → (c : ℕ) → IsLeastClassFor bytes c
    → 1 ≤ length (of_class v.view.caches c) → HoldingRow one_draw v w
span_cached bytes v w large c least some = absurd (let small = least_small bytes c least in omega arith)

-- a held block, by its size
module _ (v : View) (has : HasSoundState v) where
  held_class : (class b : ℕ) → 0 < times b (of_class v.small class) → IsClass class
  held_class class b there =
      let had = in_lists_total b class v.small there in
      subst IsClass ((has.sound.good.blocks has.seat v has.below has.at).held class b there) (block_class v has b (omega arith))

  pub small_block : (b : Block) → IsHeld v b → (class : ℕ) → IsLeastClassFor (8 * b.words) class → IsSmallBlock class b v
  small_block b (a_small c x there) class least =
      let is = held_class c x there in
      let same = least_of_size (8 * words_of_class c) class c least is (sym (size_of-words c is)) in
      record { is_class = least.is_class; words = ap words_of_class same; there = subst (λ k. 0 < times x (of_class v.small k)) same there }
  small_block b (a_large d n some count) class least = absurd (let small = least_small (8 * (superblock_words * n)) class least in omega arith)

  pub large_span : (b : Block) → IsHeld v b → largest_small < 8 * b.words → IsSpan (superblock_of v.setup.capacity b.first_word) b v
  large_span b (a_small c x there) large = absurd (let few = few_words c (held_class c x there) in omega arith)
  large_span b (a_large d n some count) large =
      let at : superblock_of v.setup.capacity (start_word v.setup.capacity d) ≡ d = omega arith in
      subst (λ e. IsSpan e (record { first_word = start_word v.setup.capacity d; words = superblock_words * n }) v) (sym at)
      (record {
        there = omega arith;
        block = ap (λ m. record { first_word = start_word v.setup.capacity d; words = superblock_words * m })
            (sym count);
      })

  pub may_split : (b : Block) → IsHeld v b → largest_small < 8 * b.words → MaySplit v b.first_word
  may_split b held large = let span = large_span b held large in record { held = span.there; first = ap (λ (x : Block). x.first_word) span.block }

  pub short_block : (b : Block) → IsHeld v b → b.words ≤ superblock_words * largest_capacity
  short_block b held = let placed = held_placed v has b held in let small = has.sound.good.small in
      let from = placed.from in let until = placed.until in let low = placed.low in omega arith

  -- the words of all held blocks but a large one
  module _ (w : View) (d : ℕ) (b : Block) (span : IsSpan d b v) (setup : w.setup ≡ v.setup) (roots : w.roots ≡ v.roots) (may : MayHaveSplit d v w) where
    abbrev without_it : View
    without_it = record v { large = without_span d v.large }

    out_of_range : (word : ℕ) → start_word v.setup.capacity 0 ≤ word → (IsIn b word → ⊥)
        → in_range d (span_count d v.large) (superblock_of v.setup.capacity word) ≡ 0
    out_of_range word low out = range_not d (span_count d v.large) (superblock_of v.setup.capacity word)
        (λ from until. out (subst (λ (x : Block). IsIn x word) (sym span.block) (record { from = omega arith; until = omega arith })))

    fewer_words : (k : ℕ) (cell : Cell) → index_of cell ≡ k → is_cell v.setup.capacity cell ≡ true → (IsIn b k → ⊥)
        → times_held without_it cell ≡ times_held v cell
    fewer_words k used_cell at there out = refl
    fewer_words k (head_cell list) at there out = refl
    fewer_words k (info_cell e) at there out = refl
    fewer_words k (anchor_cell e) at there out = refl
    fewer_words k (link_cell e) at there out = refl
    fewer_words k (root_cell i) at there out = refl
    fewer_words k (data_cell word) at there out =
        let low = leb-true (start_word v.setup.capacity 0) word (and_both (nat_le (start_word v.setup.capacity 0) word)
        (nat_lt word (superblocks_end v.setup.capacity)) there).0 in
        let is = without_span_is (superblock_of v.setup.capacity word) d v.large span.there in
        let none = out_of_range word low (λ inside. out (subst (IsIn b) at inside)) in omega arith
    fewer_words k no_cell at there out = refl

    pub span_outside : (k : ℕ) → IsHeldOutside v b k → IsHeldBoth v w k
    span_outside k kept = (
      kept.0,
      elim may.large as (λ _. IsHeldWord w k) [
        | inl same ↦ still_held v w setup may.small same roots k kept.0
        | inr less ↦ still_held without_it w setup may.small less roots k
            (let own = owns_held v k kept.0 in
            let same = fewer_words k (cell_at v.setup.capacity k) (own_index v k own) (own_there v k own) kept.1 in let h = kept.0 in omega arith)
      ],
    )

-- a block of a class that is freed
module _ (v w : SeatView) (class : ℕ) (b : Block) (small : IsSmallBlock class b v.view) where
  block_is : block_of class b.first_word ≡ b
  block_is = same_fields (block_of class b.first_word) b refl (sym small.words)

  pub freed_class : (result : Result ⊤ Stopped) → OnOk result (HasFreed b.first_word class v.view w.view) → OnOk result (IsGivenBack b v.view w.view)
  freed_class (Ok a) freed = of_a_class class small freed
  freed_class (Err e) freed = tt

  pub free_class_row : RowBut (IsHeldOutside v.view (block_of class b.first_word)) (free_costs (blocks_of class)) v w
      → RowBut (IsHeldOutside v.view b) most_free_costs v w
  free_class_row row = let few = few_blocks class small.is_class in
      but_fewer (IsHeldOutside v.view b) most_free_costs v w (λ k kept. subst (λ (x : Block). IsHeldOutside v.view x k) (sym block_is) kept)
      (record { draws = omega arith; wins = omega arith; gives = omega arith; cuts = omega arith; taken = omega arith; moves = omega arith }) row

  pub free_class_light : (result : Result ⊤ Stopped) → OnOk result (HasFreed b.first_word class v.view w.view)
      → (length (of_class v.view.caches class) + 1 < blocks_of class
      → RowBut (IsHeldOutside v.view (block_of class b.first_word)) (record no_costs { draws = 2 }) v w)
      → OnOk result (w.view.gives ≡ v.view.gives → w.view.large ≡ v.view.large → RowBut (IsHeldOutside v.view b) light_free_costs v w)
  free_class_light (Ok a) freed light = λ gives large. elim (cases_lt (length (of_class v.view.caches class) + 1) (blocks_of class)) as
      (λ _. RowBut (IsHeldOutside v.view b) light_free_costs v w) [
        | inl few ↦ but_fewer (IsHeldOutside v.view b) light_free_costs v w (λ k kept. subst (λ (x : Block). IsHeldOutside v.view x k) (sym block_is) kept)
            (record { draws = omega arith; wins = omega arith; gives = omega arith; cuts = omega arith; taken = omega arith; moves = omega arith })
            (light few)
        | inr many ↦ absurd (let gave = freed.gave many in omega arith)
      ]
  free_class_light (Err e) freed light = tt

-- a large block that is freed
module _ (v w : SeatView) (has : HasSoundState v.view) (b : Block) (held : IsHeld v.view b) (large : largest_small < 8 * b.words) where
  abbrev first : ℕ
  first = superblock_of v.view.setup.capacity b.first_word

  span : IsSpan first b v.view
  span = large_span v.view has b held large

  pub freed_span : (result : Result ⊤ Stopped) → OnOk result (HasFreedLarge first v.view w.view) → OnOk result (IsGivenBack b v.view w.view)
  freed_span (Ok a) freed = of_a_span first span freed
  freed_span (Err e) freed = tt

  few_superblocks : span_count first v.view.large ≤ largest_capacity
  few_superblocks = let short = short_block v.view has b held in let words = ap (λ (x : Block). x.words) span.block in omega arith

  pub free_span_row : HoldingRow (large_free_costs (span_count first v.view.large)) v w → MayHaveSplit first v.view w.view
      → RowBut (IsHeldOutside v.view b) most_free_costs v w
  unfolding largest_capacity
  free_span_row row may = let few = few_superblocks in
      but_fewer (IsHeldOutside v.view b) most_free_costs v w (span_outside v.view has w.view first b span row.passes.setup row.passes.roots may)
      (record { draws = omega arith; wins = omega arith; gives = omega arith; cuts = omega arith; taken = omega arith; moves = omega arith }) row

  pub free_span_light : (P : Type 0) (result : Result ⊤ Stopped) → OnOk result (HasFreedLarge first v.view w.view)
      → OnOk result (w.view.gives ≡ v.view.gives → w.view.large ≡ v.view.large → P)
  free_span_light P (Ok a) freed = λ gives same. absurd (
      let less = ap (λ (p : Parts). times_large first p.large) freed.parts_are in
      let is = without_span_is first first v.view.large span.there in
      let there = span.there in
      let one = range_is first (span_count first v.view.large) first (omega arith) (omega arith) in
      let stays = ap (times_large first) same in omega arith)
  free_span_light P (Err e) freed = tt
