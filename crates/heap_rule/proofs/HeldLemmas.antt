-- What is so of the blocks and roots that a seat holds.
use Rattle.std.proofs.Common.{◌+◌, ◌≡◌, ◌<◌, ◌≤◌, ℕ, inr, nat_le, nat_lt, get_or, refl, ap, sym, subst, le-leb, lt-ltb, arith}
use Rattle.heap_model.specs.declared.block.Block.{Block}
use Rattle.heap_model.specs.Blocks.{AreOneOrApart, layout_of, IsIn}
use Rattle.heap_model.specs.Counting.{times}
use Rattle.heap_model.specs.Geometry.{image_words, superblocks_end, largest_capacity, used_word, root_word, roots, start_word, superblock_of}
use Rattle.heap_model.specs.Image.{Image}
use Rattle.heap_model.specs.Sizes.{words_of_class}
use Rattle.heap_model.proofs.BlockLemmas.{block_inside, block_words}
use Rattle.core_model.specs.Cells.{Cell, cell_at, data_cell, root_cell}
use Rattle.core_model.specs.Guards.{IsOwn}
use Rattle.core_model.specs.Held.{AreHeldOnce, IsHeld, IsHeldBy, a_small, a_large, durable_image}
use Rattle.core_model.specs.Memory.{memory_of, durable_used, used}
use Rattle.core_model.specs.View.{View, times_block, times_large, times_own}
use Rattle.core_model.proofs.HeldLemmas.{firm}
use Rattle.core_model.proofs.HeldOnceLemmas.{held_once}
use Rattle.core_model.proofs.LinkFrameLemmas.{span_covers}
use Rattle.core_model.proofs.PlaceLemmas.{and_is, cell_at_index, pick}
use Rattle.core_model.proofs.TotalLemmas.{total_at}
use Rattle.heap_rule.specs.Held.{IsPlacedBelow}
use Rattle.seat_state.proofs.BlockRanges.{in_classes_word}
use Rattle.heap_rule.specs.Left.{Lasts, a_data, a_root}
use Rattle.heap_table.specs.Plays.{HasSoundState}
use Rattle.heap_rule.proofs.CrashLemmas.{kept_capacity}

-- what is so of a view that some sound state has
module _ (v : View) (s : HasSoundState v) where
  once : AreHeldOnce v.setup.capacity s.views
  once = held_once v.setup s.words s.views s.sound

  by_seat : (b : Block) → IsHeld v b → IsHeldBy s.views b
  by_seat b held = record { seat = s.seat; view = v; below = s.below; at = s.at; holds = held }

  -- the durable words are a mixture, and have the durable mark
  abbrev kept : Image
  kept = durable_image v.setup.capacity s.words

  kept_word : (word : ℕ) → word < 16 → kept word ≡ get_or s.words (image_words v.setup.capacity + word) 0
  kept_word word low = pick (nat_lt word (image_words v.setup.capacity)) _ _ (lt-ltb word (image_words v.setup.capacity) (omega arith))

  pub held_placed : (b : Block) → IsHeld v b → IsPlacedBelow v.setup.capacity (durable_used (memory_of v.setup.capacity s.words)) b
  held_placed b held =
      let is = ((firm v.setup s.words s.views s.sound).each kept (record { each = λ word. inr refl }) b (by_seat b held)).block in
      let two = block_words (layout_of kept) b is in
      let inside = block_inside (layout_of kept) b is in let from = inside.0 in let until = inside.1 in
      let capacity = kept_capacity v s in let mark = kept_word used_word (omega arith) in
      let behind = s.sound.good.shaped.durable.behind in let room = s.sound.good.shaped.durable.room in
      record { some = omega arith; from = omega arith; until = omega arith; low = omega arith }

  pub marks_in_order : (durable_used (memory_of v.setup.capacity s.words) ≤ used (memory_of v.setup.capacity s.words))
      × (used (memory_of v.setup.capacity s.words) ≤ v.setup.capacity)
      × (v.setup.capacity ≤ largest_capacity)
  marks_in_order = (s.sound.good.shaped.durable.behind, s.sound.good.shaped.durable.room, s.sound.good.small)

  pub held_apart : (a b : Block) → IsHeld v a → IsHeld v b → AreOneOrApart a b
  held_apart a b one other = once.by_any a b (by_seat a one) (by_seat b other)

  pub one_block : (b : ℕ) → times_block b v ≤ 1
  one_block b = let mine = total_at (times_block b) s.views s.seat v s.below s.at in let most = once.small b in omega arith

  pub one_large : (d : ℕ) → times_large d v.large ≤ 1
  one_large d = let mine = total_at (λ (u : View). times_large d u.large) s.views s.seat v s.below s.at in let most = once.large d in omega arith

  pub one_root : (n : ℕ) → times n v.roots ≤ 1
  one_root n = let mine = total_at (λ (u : View). times n u.roots) s.views s.seat v s.below s.at in let most = s.sound.good.adds.roots n in omega arith

  -- a word of a held block is one of a superblock of the image
  held_cell : (b : Block) → IsHeld v b → (word : ℕ) → IsIn b word → cell_at v.setup.capacity word ≡ data_cell word
  held_cell b held word within =
      let placed = held_placed b held in
      let from = placed.from in let until = placed.until in let low = placed.low in let first = within.from in let last = within.until in
      cell_at_index v.setup.capacity (data_cell word) (and_is (nat_le (start_word v.setup.capacity 0) word)
      (nat_lt word (superblocks_end v.setup.capacity))
      (le-leb (start_word v.setup.capacity 0) word (omega arith)) (lt-ltb word (superblocks_end v.setup.capacity) (omega arith)))

  held_own : (b : Block) → IsHeld v b → (word : ℕ) → IsIn b word → 0 < times_own v (data_cell word)
  held_own b (a_small class first there) word within = let from = within.from in let until = within.until in
      let own = in_classes_word word first 0 class v.small from (let e = ap words_of_class (let p : class ≡ 0 + class = omega arith in p) in
      omega arith) there in omega arith
  held_own b (a_large d n some count) word within = let from = within.from in let until = within.until in
      let own = span_covers d (superblock_of v.setup.capacity word) v.large (omega arith) (omega arith) (omega arith) in omega arith

  pub block_words_own : (b : Block) → IsHeld v b → (word : ℕ) → IsIn b word → IsOwn v (cell_at v.setup.capacity word)
      × Lasts (cell_at v.setup.capacity word)
  block_words_own b held word within = subst (λ (cell : Cell). IsOwn v cell × Lasts cell) (sym (held_cell b held word within))
      (held_own b held word within, a_data word)

pub root_own : (v : View) (n : ℕ) → n < roots → 0 < times n v.roots → IsOwn v (cell_at v.setup.capacity (root_word n))
    × Lasts (cell_at v.setup.capacity (root_word n))
root_own v n less own = subst (λ (cell : Cell). IsOwn v cell × Lasts cell)
    (sym (cell_at_index v.setup.capacity (root_cell n) (lt-ltb n roots less))) (own, a_root n)
