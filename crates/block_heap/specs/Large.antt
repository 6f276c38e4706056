-- How superblocks become a large block, and when one of them is free again.
use Rattle.std.specs.Prelude.{◌≡◌, ℕ, ◌+◌, ◌*◌, ◌<◌, ◌≤◌, Option, MatchOption, List, Contains, slice_set}
use Rattle.heap_model.specs.declared.block.Block.{Block}
use Rattle.heap_model.specs.Geometry.{used_word, info_word, superblock_words, start_word}
use Rattle.heap_model.specs.Sizes.{IsClass}
use Rattle.heap_model.specs.Words.{large_info}
use Rattle.heap_at_rest.specs.Draining.{HasNoHeld}
use Rattle.heap_shape.specs.Moves.{AddsTo}
use Rattle.block_heap.specs.Parts.{Parts, OnlyLooks, image_of, held_in}
use Rattle.block_heap.specs.Lists.{LeadsAlong}
use Rattle.block_heap.specs.Steps.{IsLook}

-- the words once so many superblocks, from the first that was never taken on, are one block: `used` and one info changed
abbrev pub joined_words : ℕ → Parts → List ℕ
joined_words count p = slice_set (slice_set p.words.volatile used_word (image_of p used_word + count))
    (info_word (image_of p used_word)) (large_info count)

-- the block of so many superblocks is held now, the first ones that were never taken; or as many were not left
abbrev pub JoinsAs : ℕ → Option Block → Parts → Parts → Type 0
JoinsAs count answer p q = MatchOption answer
    ((held_in q ≡ held_in p) × (p.capacity < image_of p used_word + count) × (image_of q used_word ≡ image_of p used_word)
    × IsLook p.words.drawn q q.used_look (image_of q used_word) × (q.taken ≡ p.taken) × OnlyLooks 1 p q)
    (λ b. (b.words ≡ superblock_words * count) × AddsTo b (held_in p) (held_in q)
    × (Contains (held_in p) b → ⊥) × (image_of p used_word + count ≤ p.capacity)
    × (b.first_word ≡ start_word p.capacity (image_of p used_word)) × (q.taken ≡ p.taken + count)
    × (q.words.volatile ≡ joined_words count p))

-- superblock d was taken, is cut for no class, and no held block and no list has it: it is one of a large block that was freed
pub record IsDropped (p : Parts) (d : ℕ) : Type 0 where
  pub within : d < p.capacity
  pub taken : d < image_of p used_word
  pub no_class : IsClass (image_of p (info_word d)) → ⊥
  pub none : HasNoHeld p.capacity (held_in p) d
  pub unlisted : (ds : List ℕ) → LeadsAlong p 0 ds → Contains ds d → ⊥
