-- What a view shows of own words is so in every sound state.
use Rattle.std.proofs.Common.{◌≡◌, ℕ, suc, zero, ◌+◌, ◌<◌, ◌≤◌, true, List, [], ◌∷◌, refl, ap, sym, subst, ◌∙◌, lt-ltb, arith}
use Rattle.heap_model.specs.Geometry.{start_word}
use Rattle.heap_model.specs.Sizes.{IsClass, words_of_class, blocks_of}
use Rattle.heap_model.specs.Chains.{Walks}
use Rattle.heap_model.specs.Words.{anchor_state, empty_state}
use Rattle.heap_model.specs.Counting.{times}
use Rattle.heap_model.proofs.SizeLemmas.{four_blocks}
use Rattle.core_model.specs.Cells.{Cell, info_cell, anchor_cell, data_cell, is_cell}
use Rattle.core_model.specs.Memory.{Memory, memory_of, anchor, next}
use Rattle.core_model.specs.View.{View, times_raw, times_classed}
use Rattle.core_model.specs.Effects.{steps, class_blocks, first_of}
use Rattle.core_model.specs.Sound.{Good}
use Rattle.core_model.proofs.TotalLemmas.{eq-eqb-one}
use Rattle.core_model.proofs.RangeLemmas.{block_of}
use Rattle.core_model.proofs.SoundLemmas.{taken}
use Rattle.heap_table.specs.Plays.{HasSoundState}
use Rattle.heap_rule.specs.Shown.{Shows, ShowsDurable, ShowsEmpty, by_claim, by_anchor, by_look, ShowsLinks}
use Rattle.seat_index.proofs.ViewBlocks.{cut_cell, below_capacity}

-- numbers a step apart begin with the first
pub first_step : (from apart n : ℕ) → 1 ≤ n → first_of (steps from apart n) ≡ from
first_step from apart zero some = absurd (omega arith)
first_step from apart (suc n) some = refl

module _ (v : View) (s : HasSoundState v) where
  abbrev m : Memory
  m = memory_of v.setup.capacity s.words

  abbrev good : Good v.setup m s.views
  good = s.sound.good

  pub shown : (cell : Cell) (value : ℕ) → is_cell v.setup.capacity cell ≡ true → Shows v cell value → m.volatile cell ≡ value
  shown cell value is knows = ((good.words s.seat v s.below s.at).volatile cell value is knows).1

  pub shown_durable : (cell : Cell) (value : ℕ) → is_cell v.setup.capacity cell ≡ true → ShowsDurable v cell value → m.durable cell ≡ value
  shown_durable cell value is knows = ((good.words s.seat v s.below s.at).durable cell value is knows).1

  pub info_there : (d : ℕ) → d < v.floor → is_cell v.setup.capacity (info_cell d) ≡ true
  info_there d low = lt-ltb d v.setup.capacity (below_capacity v s d low)

  -- a claimed superblock that is shown to be empty is empty
  pub empty_shown : (d : ℕ) → 0 < times_raw d v + times_classed d v.classed → ShowsEmpty v d → anchor_state (anchor m d) ≡ empty_state
  empty_shown d claimed (by_claim raw) = (good.claims s.seat v s.below s.at).is_raw d raw
  empty_shown d claimed (by_anchor word shows empty) =
      ap anchor_state (shown (anchor_cell d) word (lt-ltb d v.setup.capacity (taken v.setup m s.views s.seat v s.below s.at good d claimed))
      shows) ∙ empty
  empty_shown d claimed (by_look classed is_seen of empty) = ap (λ e. anchor_state (anchor m e)) (sym of)
      ∙ (good.knows s.seat v s.below s.at).seen_empty is_seen (subst (λ e. 0 < times_classed e v.classed) (sym of) classed) empty

  -- the blocks are linked as it is shown
  walks_shown : (bs : List ℕ) → ((b : ℕ) → 0 < times b bs → is_cell v.setup.capacity (data_cell b) ≡ true) → ShowsLinks v bs
      → Walks (next m) (first_of bs) bs
  walks_shown [] cells links = tt
  walks_shown (b ∷ []) cells links = (refl, tt)
  walks_shown (b ∷ c ∷ bs) cells links = (
    refl,
    subst (λ x. Walks (next m) x (c ∷ bs)) (sym (shown (data_cell b) c (cells b (let one = eq-eqb-one b b refl in omega arith)) links.0))
        (walks_shown (c ∷ bs) (λ x some. cells x (omega arith)) links.1),
  )

  pub blocks_walk : (class d : ℕ) → IsClass class → d < v.setup.capacity → ShowsLinks v (class_blocks v.setup.capacity class d)
      → Walks (next m) (start_word v.setup.capacity d) (class_blocks v.setup.capacity class d)
  blocks_walk class d is less links = let four = four_blocks class is in
      subst (λ x. Walks (next m) x (class_blocks v.setup.capacity class d))
      (first_step (start_word v.setup.capacity d) (words_of_class class) (blocks_of class) (omega arith))
      (walks_shown (class_blocks v.setup.capacity class d) (λ b some. cut_cell v.setup.capacity class d b is
      (block_of v.setup.capacity class d b some) less) links)
