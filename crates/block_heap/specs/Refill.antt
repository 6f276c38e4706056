-- Where the cache of a class is filled from.
use Rattle.std.specs.Prelude.{◌≡◌, ℕ, ◌+◌, ◌<◌, ◌≤◌, ◌⊎◌, Bool, true, false, slice_set}
use Rattle.heap_model.specs.Counting.{one_if}
use Rattle.heap_model.specs.Geometry.{used_word, start_word}
use Rattle.heap_model.specs.Sizes.{words_of_class, blocks_of}
use Rattle.block_heap.specs.Divide.{IsDivided}
use Rattle.block_heap.specs.Parts.{Parts, OnlyLooks, image_of, held_in, cache_at}
use Rattle.block_heap.specs.Lists.{IsEmptyList, head_at}
use Rattle.block_heap.specs.Steps.{FindsEmpty, IsLook, look_at, Spends}
use Rattle.block_heap.specs.Serving.{HasRoom, FindsNone}

-- looks, counts and held blocks stay
pub record SameBut (p q : Parts) : Type 0 where
  pub capacity : q.capacity ≡ p.capacity
  pub taken : q.taken ≡ p.taken
  pub used_look : q.used_look ≡ p.used_look
  pub head_looks : q.head_looks ≡ p.head_looks
  pub held : held_in q ≡ held_in p

-- superblock d was cut, and its blocks are in the cache of the class
pub record Cuts (class d : ℕ) (p q : Parts) : Type 0 where
  pub divided : IsDivided p.capacity class d p.words q.words
  pub caches : q.caches ≡ slice_set p.caches class (record { first = start_word p.capacity d; count = blocks_of class })
  pub start : q.blocks.start ≡ p.blocks.start
  pub sizes : q.blocks.words.items ≡ slice_set p.blocks.words.items d (words_of_class class)

-- the cache was filled from the list of the class, or the list is empty: then its superblocks are in the free list, or it was empty
abbrev pub FindsPartial : ℕ → Bool → Parts → Parts → Type 0
FindsPartial class true p q = (1 ≤ (cache_at q.caches class).count) × (IsEmptyList p class → ⊥)
FindsPartial class false p q = ((cache_at q.caches class).count ≡ 0)
    × (IsEmptyList q class × IsLook p.words.drawn q (look_at q class) (head_at q class))
    × (image_of q used_word ≡ image_of p used_word)
    × (IsEmptyList q 0 → IsEmptyList p 0 × IsEmptyList p class)
    × (IsEmptyList p class → OnlyLooks 1 p q)

-- from the free list, or that is empty, as few steps tell
abbrev pub FindsFree : ℕ → Bool → Parts → Parts → Type 0
FindsFree class true p q = (1 ≤ (cache_at q.caches class).count) × (IsEmptyList p 0 → ⊥)
FindsFree class false p q = ((cache_at q.caches class).count ≡ 0) × FindsEmpty 0 p q × (q.words.drawn ≤ p.words.drawn + 3)

-- from a superblock that was never taken, or there is none
abbrev pub FindsFresh : ℕ → Bool → Parts → Parts → Type 0
FindsFresh class true p q = (1 ≤ (cache_at q.caches class).count) × (image_of p used_word + 1 ≤ p.capacity)
FindsFresh class false p q = ((cache_at q.caches class).count ≡ 0) × (p.capacity < image_of p used_word + 1)
    × (q.words.volatile ≡ p.words.volatile) × IsLook p.words.drawn q q.used_look (image_of q used_word)
    × (q.head_looks ≡ p.head_looks) × (q.taken ≡ p.taken) × OnlyLooks 1 p q

-- from one of these, or there is no room
abbrev pub Refills : ℕ → Bool → Parts → Parts → Type 0
Refills class true p q = (1 ≤ (cache_at q.caches class).count) × HasRoom p class
Refills class false p q = FindsNone class p q

-- the cache had blocks and no ticket was drawn, or it was filled, which used up a superblock
abbrev pub Stocks : ℕ → Bool → Parts → Parts → Type 0
Stocks class some p q = (Spends 0 class p q × (q.words.drawn ≤ p.words.drawn)) ⊎ Spends (one_if some) class p q
