-- What requests make of the parts of a heap.
use Rattle.std.specs.Prelude.{◌≡◌, ℕ, ◌+◌, ◌*◌, ◌<◌, ◌≤◌, ◌⊎◌, Option, MatchOption, Contains}
use Rattle.heap_model.specs.declared.block.Block.{Block}
use Rattle.heap_model.specs.Geometry.{used_word, start_word, superblock_words}
use Rattle.heap_model.specs.Sizes.{IsLeastClassFor, largest_small, span_of, words_of_class}
use Rattle.heap_shape.specs.Moves.{AddsTo}
use Rattle.heap_at_rest.specs.Draining.{IsToDrain, IsDrainable}
use Rattle.heap_seat.specs.declared.fault.Looks.{Looks}
use Rattle.block_heap.specs.Accounts.{AreAccounted}
use Rattle.heap_seat.specs.Alloc.{IsSizeFor}
use Rattle.block_heap.specs.Parts.{Parts, OnlyLooks, image_of, held_in, cache_at}
use Rattle.block_heap.specs.Running.{IsRunning, CachesAreShort}
use Rattle.block_heap.specs.Lists.{head_at, IsEmptyList}
use Rattle.block_heap.specs.Large.{joined_words}
use Rattle.block_heap.specs.Steps.{look_at, IsLook, Spends}
use Rattle.block_heap.specs.Draws.{most_join_draws, most_small_draws}

-- a request of a class finds blocks: in the cache, in a list, or where none were taken yet
pub data HasRoom (p : Parts) (class : ℕ) : Type 0 where
  in_cache : 1 ≤ (cache_at p.caches class).count → HasRoom p class
  in_class_list : (IsEmptyList p class → ⊥) → HasRoom p class
  in_free_list : (IsEmptyList p 0 → ⊥) → HasRoom p class
  in_fresh : image_of p used_word + 1 ≤ p.capacity → HasRoom p class

-- a request finds room: one of a class as above, a large one where enough superblocks were never taken
pub data HasRoomFor (p : Parts) (bytes : ℕ) : Type 0 where
  for_class : (class : ℕ) → IsLeastClassFor bytes class → HasRoom p class → HasRoomFor p bytes
  for_large : largest_small < bytes → image_of p used_word + span_of bytes ≤ p.capacity → HasRoomFor p bytes

-- what a refused request of a class read: both lists were empty, and every superblock was taken
pub record LookedInClass (class : ℕ) (from : ℕ) (q : Parts) : Type 0 where
  pub class_look : IsLook from q (look_at q class) (head_at q class)
  pub class_empty : IsEmptyList q class
  pub free_look : IsLook from q (look_at q 0) (head_at q 0)
  pub free_empty : IsEmptyList q 0
  pub used_look : IsLook from q q.used_look (image_of q used_word)
  pub past : q.capacity < image_of q used_word + 1

-- and what a large one read
pub record LookedAtUsed (count : ℕ) (from : ℕ) (q : Parts) : Type 0 where
  pub used_look : IsLook from q q.used_look (image_of q used_word)
  pub past : q.capacity < image_of q used_word + count

-- a request of a class found no room
pub record FindsNone (class : ℕ) (p q : Parts) : Type 0 where
  pub looked : LookedInClass class p.words.drawn q
  pub none : HasRoom p class → ⊥
  pub empty : (cache_at q.caches class).count ≡ 0
  pub taken : q.taken ≡ p.taken
  pub only : OnlyLooks 3 p q

-- the block of a large request is of the first superblocks that were never taken, just as many as it needs, and costs few
-- tickets: two words change, so lists and their heads stay, and so do caches
pub record JoinsFresh (bytes : ℕ) (p q : Parts) : Type 0 where
  pub few : q.words.drawn ≤ p.words.drawn + most_join_draws
  pub taken : q.taken ≡ p.taken + span_of bytes
  pub volatile : q.words.volatile ≡ joined_words (span_of bytes) p
  pub caches : q.caches ≡ p.caches
  pub held : Contains (held_in q) (record { first_word = start_word p.capacity (image_of p used_word); words = superblock_words * span_of bytes })

-- so is a large request that is answered served
abbrev pub ServesLarge : ℕ → Parts → Parts → Type 0
ServesLarge bytes p q = largest_small < bytes → JoinsFresh bytes p q

-- the request got the block
pub record GetsBlock (bytes : ℕ) (b : Block) (p q : Parts) : Type 0 where
  pub running : IsRunning q
  pub short : CachesAreShort q 0
  pub size : IsSizeFor bytes (8 * b.words)
  pub adds : AddsTo b (held_in p) (held_in q)
  pub new : Contains (held_in p) b → ⊥
  pub room : HasRoomFor p bytes
  pub large : ServesLarge bytes p q
  pub accounted : AreAccounted p → AreAccounted q

-- a block of the class that draining it was to give
abbrev pub DrainsTo : ℕ → Block → Parts → Parts → Type 0
DrainsTo class b p q = IsDrainable p.capacity (image_of p) (held_in p) class
    → IsDrainable p.capacity (image_of q) (held_in q) class × IsToDrain p.capacity (image_of p) (held_in p) class b
    × (IsToDrain p.capacity (image_of q) (held_in q) class b → ⊥)
    × ((a : Block) → IsToDrain p.capacity (image_of p) (held_in p) class a
    → (a ≡ b) ⊎ IsToDrain p.capacity (image_of q) (held_in q) class a)
    × ((a : Block) → IsToDrain p.capacity (image_of q) (held_in q) class a → IsToDrain p.capacity (image_of p) (held_in p) class a)

-- what a request of a class answers: of a block, all that a drain needs too
pub record MissesInClass (class : ℕ) (p q : Parts) : Type 0 where
  pub running : IsRunning q
  pub short : CachesAreShort q 0
  pub held : held_in q ≡ held_in p
  pub taken : q.taken ≡ p.taken
  pub none : HasRoom p class → ⊥
  pub looked : LookedInClass class p.words.drawn q
  pub only : OnlyLooks 3 p q
  pub accounted : AreAccounted p → AreAccounted q

-- a request of the class got the block
pub record GetsInClass (class : ℕ) (b : Block) (p q : Parts) : Type 0 where
  pub running : IsRunning q
  pub short : CachesAreShort q 0
  pub size : b.words ≡ words_of_class class
  pub adds : AddsTo b (held_in p) (held_in q)
  pub new : Contains (held_in p) b → ⊥
  pub room : HasRoom p class
  pub accounted : AreAccounted p → AreAccounted q

-- the answer to a request of the class
abbrev pub AnswersInClass : ℕ → Option Block → Parts → Parts → Type 0
AnswersInClass class answer p q = MatchOption answer (MissesInClass class p q) (λ b. GetsInClass class b p q)

-- a drained heap has nothing more to give
abbrev pub DrainsNone : ℕ → Parts → Type 0
DrainsNone class p = IsDrainable p.capacity (image_of p) (held_in p) class
    → (b : Block) → IsToDrain p.capacity (image_of p) (held_in p) class b → ⊥

-- what a block cost: one ticket if it was in the cache, and else a superblock that the cache was filled from
abbrev pub Costs : ℕ → Parts → Parts → Type 0
Costs class p q = (Spends 0 class p q × (q.words.drawn ≤ p.words.drawn + 1))
    ⊎ (Spends 1 class p q × (q.words.drawn ≤ p.words.drawn + most_small_draws))

-- what a drain needs of the answer: if it is none, there is no room after it too
abbrev pub DrainsAs : ℕ → Option Block → Parts → Parts → Type 0
DrainsAs class answer p q = MatchOption answer (DrainsNone class p × (HasRoom q class → ⊥)) (λ b. DrainsTo class b p q × Costs class p q)

-- the request found no room: what it read last was read by it
pub record Misses (bytes : ℕ) (p q : Parts) : Type 0 where
  pub running : IsRunning q
  pub short : CachesAreShort q 0
  pub held : held_in q ≡ held_in p
  pub taken : q.taken ≡ p.taken
  pub none : HasRoomFor p bytes → ⊥
  pub in_class : (class : ℕ) → IsLeastClassFor bytes class → LookedInClass class p.words.drawn q
  pub at_used : largest_small < bytes → LookedAtUsed (span_of bytes) p.words.drawn q
  pub three_looks : bytes ≤ largest_small → OnlyLooks 3 p q
  pub one_look : largest_small < bytes → OnlyLooks 1 p q
  pub accounted : AreAccounted p → AreAccounted q

-- the answer to a request
abbrev pub Answers : ℕ → Option Block → Parts → Parts → Type 0
Answers bytes answer p q = MatchOption answer (Misses bytes p q) (λ b. GetsBlock bytes b p q)

-- the last looks that the answer to a request has
pub record IsLooksOf (bytes : ℕ) (looks : Looks) (p : Parts) : Type 0 where
  pub used : looks.used ≡ p.used_look.seen
  pub class : (class : ℕ) → IsLeastClassFor bytes class → looks.class_head ≡ (look_at p class).seen
  pub free : bytes ≤ largest_small → looks.free_head ≡ (look_at p 0).seen
  pub large : largest_small < bytes → (looks.class_head ≡ 0) × (looks.free_head ≡ 0)

-- a refusal: there was no room, each look is the word as it is, and nothing else was done: a request of a class looks at
-- its list, at the free list and at `used`, and a large one at `used` alone
pub record RefusesAs (bytes : ℕ) (looks : Looks) (p q : Parts) : Type 0 where
  pub none : HasRoomFor p bytes → ⊥
  pub used : looks.used ≡ image_of q used_word
  pub class : (class : ℕ) → IsLeastClassFor bytes class → looks.class_head ≡ head_at q class
  pub free : bytes ≤ largest_small → looks.free_head ≡ head_at q 0
  pub three_looks : bytes ≤ largest_small → OnlyLooks 3 p q
  pub one_look : largest_small < bytes → OnlyLooks 1 p q
