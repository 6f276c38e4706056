-- No block is held twice.
use Rattle.std.proofs.Common.{◌≡◌, ◌≢◌, ℕ, ◌+◌, ◌*◌, ◌<◌, ◌≤◌, inl, inr, nat_lt, get_or, List, length, refl, ap, sym, subst, lt-ltb, arith}
use Rattle.std.proofs.lemmas.Bool.{cases_lt}
use Rattle.heap_model.specs.declared.block.Block.{Block}
use Rattle.heap_model.specs.Counting.{times, total}
use Rattle.heap_model.specs.Blocks.{AreOneOrApart, Names, layout_of}
use Rattle.heap_model.specs.Geometry.{start_word, superblocks_end, image_words, superblock_of}
use Rattle.heap_model.proofs.BlockLemmas.{never_overlap, block_inside}
use Rattle.core_model.specs.Cells.{Cell, used_cell, head_cell, info_cell, anchor_cell, link_cell, root_cell, data_cell, no_cell}
use Rattle.core_model.specs.Guards.{IsOwn}
use Rattle.core_model.specs.Memory.{Memory, durable_used, memory_of, used}
use Rattle.core_model.specs.View.{Setup, View, times_block, times_claimed, times_classed, times_free, times_held, times_large, times_own, times_raw}
use Rattle.core_model.specs.Sound.{Good, IsCutBlock, Sound}
use Rattle.core_model.specs.Held.{AreApart, AreHeldOnce, durable_image, IsHeld, IsHeldBy, a_small, a_large}
use Rattle.core_model.proofs.HeldLemmas.{durable_capacity, firm}
use Rattle.core_model.proofs.PlaceLemmas.{pick}
use Rattle.core_model.proofs.LinkFrameLemmas.{span_covers}
use Rattle.core_model.proofs.OwnLemmas.{one_at_most}
use Rattle.core_model.proofs.OwnerLemmas.{covered, covered_most, in_blocks, in_lists_total, one_owner, own_first}
use Rattle.core_model.proofs.TotalLemmas.{total_at}

module _ (k : Setup) (words : List ℕ) (views : List View) (sound : Sound k words views) where
  abbrev m : Memory
  m = memory_of k.capacity words

  good : Good k m views
  good = sound.good

  small_once : (b : ℕ) → total (times_block b) views ≤ 1
  small_once b = elim (cases_lt 0 (total (times_block b) views)) [
    | inl some ↦ let inside = good.shaped.chained.inside b some in
        let one = good.shaped.chained.owned (superblock_of k.capacity b) b inside.0 inside.1 in omega arith
    | inr none ↦ omega arith
  ]

  large_once : (d : ℕ) → total (λ (v : View). times_large d v.large) views ≤ 1
  large_once d = let p = good.shaped.placed.one_place d in let most = one_at_most (nat_lt d (used m)) in omega arith

  -- the first word of a held block is own
  first_own : (i : ℕ) (v : View) → i < length views → get_or views i v ≡ v → (b : Block) → IsHeld v b → IsOwn v (data_cell b.first_word)
  first_own i v below at b (a_small class first some) =
      let t = in_lists_total first class v.small some in
      let own = own_first k m views good i v below at first (omega arith) in omega arith
  first_own i v below at b (a_large d n some count) =
      let covers = span_covers d d v.large (omega arith) (omega arith) (omega arith) in
      let here : superblock_of v.setup.capacity (start_word v.setup.capacity d) ≡ d = omega arith in
      let same = ap (λ e. times_large e v.large) here in omega arith

  -- the durable words name it
  names_of : (b : Block) → IsHeldBy views b → Names (durable_image k.capacity words) (8 * b.first_word) b
  names_of = (firm k words views sound).each (durable_image k.capacity words) (record { each = λ word. inr refl })

  by_any : (a b : Block) → IsHeldBy views a → IsHeldBy views b → AreOneOrApart a b
  by_any a b first second = never_overlap (layout_of (durable_image k.capacity words)) a b (names_of a first).block (names_of b second).block

  by_two : (i j : ℕ) (v u : View) → j ≢ i → i < length views → get_or views i v ≡ v → j < length views → get_or views j u ≡ u → (a b : Block)
      → IsHeld v a → IsHeld u b → AreApart a b
  by_two i j v u other below_i at_i below_j at_j a b first second =
      elim (by_any a b (record { seat = i; view = v; below = below_i; at = at_i; holds = first })
      (record { seat = j; view = u; below = below_j; at = at_j; holds = second })) as (λ _. AreApart a b) [
        | inl same ↦ absurd (let own = first_own i v below_i at_i a first in let own_other = first_own j u below_j at_j b second in
            let none = one_owner k m views good i j v u other below_i at_i below_j at_j (data_cell a.first_word) own in
            let moved : IsOwn u (data_cell a.first_word) = subst (λ (x : Block). IsOwn u (data_cell x.first_word)) (sym same) own_other in
            omega (arith, none, moved))
        | inr apart ↦ apart
      ]

  inside : (b : Block) → IsHeldBy views b → (start_word k.capacity 0 ≤ b.first_word) × (b.first_word + b.words ≤ superblocks_end k.capacity)
  inside b held =
      let placed = block_inside (layout_of (durable_image k.capacity words)) b (names_of b held).block in
      let c = durable_capacity k words views sound in
      let u : durable_image k.capacity words 8 ≡ durable_used m = pick (nat_lt 8 (image_words k.capacity)) _ _
      (lt-ltb 8 (image_words k.capacity) (omega arith)) in
      let behind = good.shaped.durable.behind in let room = good.shaped.durable.room in (omega arith, omega arith)

  pub held_once : AreHeldOnce k.capacity views
  held_once = record { small = small_once; large = large_once; by_two = by_two; by_any = by_any; inside = inside }

-- each word is a seat's own at most once
module _ (k : Setup) (m : Memory) (views : List View) (good : Good k m views) (i : ℕ) (v : View) (below : i < length views)
    (at : get_or views i v ≡ v) where
  once_whole : (d : ℕ) → times_claimed d v ≤ 1
  once_whole d = let raw = total_at (times_raw d) views i v below at in
      let classed = total_at (λ (u : View). times_classed d u.classed) views i v below at in
      let p = good.shaped.placed.one_place d in let most = one_at_most (nat_lt d (used m)) in omega arith

  once_word : (word : ℕ) → times_own v (data_cell word) ≤ 1
  once_word word =
      let cap : v.setup.capacity ≡ k.capacity = ap (λ (s : Setup). s.capacity) (good.set_up i v below at).setup in
      let whole = ap (λ c. times_large (superblock_of c word) v.large + times_raw (superblock_of c word) v) cap in
      let d = superblock_of k.capacity word in
      let raw = total_at (times_raw d) views i v below at in
      let large = total_at (λ (u : View). times_large d u.large) views i v below at in
      let p = good.shaped.placed.one_place d in
      let most = one_at_most (nat_lt d (used m)) in
      elim (cases_lt 0 (in_blocks v word)) as (λ _. times_own v (data_cell word) ≤ 1) [
        | inl of_block ↦
            let b = covered k m views good i v below at word of_block in
            let cut = b.1.cut in
            let few = covered_most k m views good i v below at v word b.0 b.1 in
            let blocks = total_at (times_block b.0) views i v below at in
            let one = good.shaped.chained.owned d b.0 cut (subst (λ c. IsCutBlock k.capacity c d b.0) (sym b.1.info_is) b.1.is) in omega arith
        | inr no_block ↦ omega arith
      ]

  pub own_once : (cell : Cell) → times_own v cell ≤ 1
  own_once used_cell = omega arith
  own_once (head_cell list) = omega arith
  own_once (info_cell d) = let once = once_whole d in omega arith
  own_once (anchor_cell d) = let once = once_whole d in omega arith
  own_once (link_cell d) = once_whole d
  own_once (root_cell n) = let t = total_at (λ (u : View). times n u.roots) views i v below at in let most = good.adds.roots n in omega arith
  own_once (data_cell word) = once_word word
  own_once no_cell = omega arith

  -- so a word of a cached or batched block is none of a held one
  pub free_not_held : (word : ℕ) → 0 < times_free v word → times_held v (data_cell word) ≡ 0
  free_not_held word some = let once = once_word word in omega arith
