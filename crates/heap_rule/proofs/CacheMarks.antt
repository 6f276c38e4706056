-- The blocks of a cache, one after the other, as their first words lead.
use Rattle.std.proofs.Common.{◌≡◌, ℕ, zero, suc, ◌+◌, ◌<◌, ◌≤◌, List, [], ◌∷◌, get_or, length, ap, sym, subst, ◌∙◌, add-one, arith}
use Rattle.heap_model.specs.Chains.{Walks}
use Rattle.heap_model.specs.Geometry.{image_words}
use Rattle.core_model.specs.Cells.{data_cell}
use Rattle.core_model.specs.Memory.{memory_of, next, volatile_at}
use Rattle.core_model.specs.View.{View, of_class, times_block}
use Rattle.core_model.specs.Effects.{first_of}
use Rattle.core_model.proofs.OwnerLemmas.{in_lists_total}
use Rattle.seat_state.proofs.WordLemmas.{read_is}
use Rattle.heap_table.specs.Plays.{HasSoundState}
use Rattle.seat_index.proofs.MarkLemmas.{entry_times}
use Rattle.seat_index.proofs.ViewBlocks.{block_cell, block_range}

-- the entry at which a walk stands, and where its first word leads
walk_on : (f : ℕ → ℕ) (from : ℕ) (bs : List ℕ) (i b : ℕ) → Walks f from bs → suc i < length bs → get_or bs i b ≡ b → get_or bs (suc i) (f b) ≡ f b
walk_on f from [] i b w less at = absurd (omega arith)
walk_on f from (x ∷ []) i b w less at = absurd (omega arith)
walk_on f from (x ∷ y ∷ bs) zero b w less at = sym w.1.0 ∙ ap f at
walk_on f from (x ∷ y ∷ bs) (suc i) b w less at = walk_on f (f x) (y ∷ bs) i b w.1 (omega arith) at

pub first_at : (bs : List ℕ) (b : ℕ) → 1 ≤ length bs → b ≡ first_of bs → get_or bs 0 b ≡ b
first_at [] b some is = absurd (omega arith)
first_at (x ∷ bs) b some is = sym is

module _ (v : View) (class : ℕ) (s : HasSoundState v) (i b : ℕ) (less : i < length (of_class v.caches class))
    (at : get_or (of_class v.caches class) i b ≡ b) where
  own : 0 < times_block b v
  own = let t = in_lists_total b class v.caches (entry_times (of_class v.caches class) i b less at) in omega arith

  pub cached_below : b < image_words v.setup.capacity
  cached_below = let inside = (block_range v s b own).1 in omega arith

  pub next_at : (found : ℕ) → found ≡ get_or s.words b 0 → i + 1 < length (of_class v.caches class)
      → get_or (of_class v.caches class) (i + 1) found ≡ found
  next_at found is more = subst (λ n. get_or (of_class v.caches class) n found ≡ found) (sym (add-one i))
      (subst (λ n. get_or (of_class v.caches class) (suc i) n ≡ n) (leads ∙ sym is)
      (walk_on (next (memory_of v.setup.capacity s.words)) (first_of (of_class v.caches class)) (of_class v.caches class) i b
      ((s.sound.good.blocks s.seat v s.below s.at).cache_linked class) (omega arith) at)) where
        leads : next (memory_of v.setup.capacity s.words) b ≡ get_or s.words b 0
        leads = read_is v.setup.capacity s.words (volatile_at (data_cell b)) (block_cell v s b own)
