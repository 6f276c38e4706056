-- The blocks that a view has lie in the image, each once, in a superblock of their class.
use Rattle.std.proofs.Common.{◌≡◌, inl, inr, ℕ, ◌<◌, ◌≤◌, true, nat_lt, nat_le, length, lt-ltb, le-leb, arith}
use Rattle.std.proofs.lemmas.Bool.{cases_lt}
use Rattle.heap_model.specs.Geometry.{start_word, superblocks_end, superblock_of}
use Rattle.heap_model.specs.Sizes.{IsClass}
use Rattle.heap_model.proofs.SizeLemmas.{two_words}
use Rattle.core_model.specs.Cells.{data_cell, is_cell}
use Rattle.core_model.specs.Memory.{Memory, memory_of, info}
use Rattle.core_model.specs.View.{View, of_class, times_block, times_large}
use Rattle.core_model.specs.Effects.{span_count}
use Rattle.core_model.specs.Sound.{Good, IsCutBlock, tally_of, times_cut}
use Rattle.core_model.proofs.TotalLemmas.{total_at}
use Rattle.core_model.proofs.PlaceLemmas.{and_is}
use Rattle.core_model.proofs.BlockLemmas.{inside_of}
use Rattle.core_model.proofs.OwnerLemmas.{in_lists_total}
use Rattle.seat_state.proofs.BlockRanges.{cut_range}
use Rattle.seat_state.proofs.CountLemmas.{short, list_at_most, no_span}
use Rattle.heap_table.specs.Plays.{HasSoundState}

-- a block of a superblock of the image begins in the image
pub cut_cell : (c class d b : ℕ) → IsClass class → IsCutBlock c class d b → d < c → is_cell c (data_cell b) ≡ true
cut_cell c class d b is at less =
    let place = inside_of c class d b is at in let low = place.0 in let high = place.1 in let two = two_words class is in
    and_is (nat_le (start_word c 0) b) (nat_lt b (superblocks_end c)) (le-leb (start_word c 0) b (omega arith))
    (lt-ltb b (superblocks_end c) (omega arith))

module _ (v : View) (s : HasSoundState v) where
  abbrev m : Memory
  m = memory_of v.setup.capacity s.words

  abbrev good : Good v.setup m s.views
  good = s.sound.good

  -- what lies below the floor lies in the image
  pub below_capacity : (d : ℕ) → d < v.floor → d < v.setup.capacity
  below_capacity d low = let f = (good.knows s.seat v s.below s.at).floor in let q = good.shaped.durable.behind in
      let r = good.shaped.durable.room in omega arith

  -- the superblock of an own block is cut, for a class
  pub block_cut : (b : ℕ) → 0 < times_block b v → (0 < times_cut good.shape (tally_of s.views) (superblock_of v.setup.capacity b))
      × IsCutBlock v.setup.capacity (info m (superblock_of v.setup.capacity b)) (superblock_of v.setup.capacity b) b
  block_cut b own = good.shaped.chained.inside b (let t = total_at (times_block b) s.views s.seat v s.below s.at in omega arith)

  pub block_class : (b : ℕ) → 0 < times_block b v → IsClass (info m (superblock_of v.setup.capacity b))
  block_class b own = good.shaped.chained.is_class (superblock_of v.setup.capacity b) (block_cut b own).0

  pub block_cell : (b : ℕ) → 0 < times_block b v → is_cell v.setup.capacity (data_cell b) ≡ true
  block_cell b own =
      let cut = block_cut b own in let some = cut.0 in
      let low = good.shaped.durable.below (superblock_of v.setup.capacity b) (omega arith) in let q = good.shaped.durable.behind in
      let r = good.shaped.durable.room in
      cut_cell v.setup.capacity (info m (superblock_of v.setup.capacity b)) (superblock_of v.setup.capacity b) b (block_class b own) cut.1 (omega arith)

  pub block_below : (b : ℕ) → 0 < times_block b v → superblock_of v.setup.capacity b < v.setup.capacity
  block_below b own = let some = (block_cut b own).0 in
      let low = good.shaped.durable.below (superblock_of v.setup.capacity b) (omega arith) in let q = good.shaped.durable.behind in
      let r = good.shaped.durable.room in omega arith

  -- it begins among the words of superblocks
  pub block_range : (b : ℕ) → 0 < times_block b v → (start_word v.setup.capacity 0 ≤ b) × (b < superblocks_end v.setup.capacity)
  block_range b own = cut_range v.setup.capacity (info m (superblock_of v.setup.capacity b)) (superblock_of v.setup.capacity b) b
      (block_class b own) (block_below b own) (block_cut b own).1

  -- the seat has it once
  pub block_once : (b : ℕ) → times_block b v ≤ 1
  block_once b = elim (cases_lt 0 (times_block b v)) [
    | inl some ↦ let t = total_at (times_block b) s.views s.seat v s.below s.at in let cut = block_cut b some in
        let o = good.shaped.chained.owned (superblock_of v.setup.capacity b) b cut.0 cut.1 in omega arith
    | inr none ↦ omega arith
  ]

  -- a cache and the batch are no longer than the image
  pub cache_short : (class : ℕ) → length (of_class v.caches class) ≤ superblocks_end v.setup.capacity
  cache_short class = short (superblocks_end v.setup.capacity) (of_class v.caches class)
      (λ b some. let t = in_lists_total b class v.caches some in (block_range b (omega arith)).1)
      (λ b. let o = block_once b in let l = list_at_most b class v.caches in omega arith)

  pub batch_short : length v.batch.blocks ≤ superblocks_end v.setup.capacity
  batch_short = short (superblocks_end v.setup.capacity) v.batch.blocks (λ b some. (block_range b (omega arith)).1)
      (λ b. let o = block_once b in omega arith)

-- a held large block begins in the image
pub span_below : (v : View) (s : HasSoundState v) (d : ℕ) → 1 ≤ span_count d v.large → d < v.setup.capacity
span_below v s d some = elim (cases_lt 0 (times_large d v.large)) [
  | inl takes ↦ let t = total_at (λ (u : View). times_large d u.large) s.views s.seat v s.below s.at in
      let low = s.sound.good.shaped.durable.below d (omega arith) in
      let q = s.sound.good.shaped.durable.behind in let r = s.sound.good.shaped.durable.room in omega arith
  | inr none ↦ absurd (let z = no_span d v.large (omega arith) in omega arith)
]
