-- What the parts of a heap are after rows of steps that are done.
use Rattle.std.specs.Prelude.{◌≡◌, ◌≢◌, ℕ, ◌+◌, ◌<◌, ◌≤◌, List, ◌∷◌, length, Some, Contains}
use Rattle.heap_model.specs.declared.block.Block.{Block}
use Rattle.heap_model.specs.Geometry.{used_word}
use Rattle.heap_model.specs.Sizes.{IsClass, words_of_class}
use Rattle.heap_shape.specs.Moves.{AddsTo}
use Rattle.heap_shape.specs.Draining.{DrainsSame, DrainsOne}
use Rattle.heap_seat.specs.declared.look.Look.{Look}
use Rattle.block_heap.specs.declared.refill.Found.{Found}
use Rattle.block_heap.specs.declared.refill.Found.TheVariants.{Blocks, Recycled, Nothing}
use Rattle.block_heap.specs.Parts.{Parts, OnlyLooks, image_of, held_in, cache_at, head_look}
use Rattle.block_heap.specs.Lists.{head_at, IsEmptyList, LeadsAlong, KeepsList}
use Rattle.block_heap.specs.Running.{IsRunning}

-- no more superblocks than n are left that the class may be filled from: those in its list, the free ones, and those that were never taken
abbrev pub HasAtMost : ℕ → Parts → ℕ → Type 0
HasAtMost class p n = (cs fs : List ℕ) → LeadsAlong p class cs → LeadsAlong p 0 fs
    → length cs + length fs + p.capacity ≤ n + image_of p used_word

-- so many of them were used up, or more
abbrev pub Spends : ℕ → ℕ → Parts → Parts → Type 0
Spends count class p q = (n : ℕ) → HasAtMost class p n → (m : ℕ) × (m + count ≤ n) × HasAtMost class q m

-- how many were used up where this was found first
abbrev pub used_up : Found → ℕ
used_up Blocks = 1
used_up Recycled = 0
used_up Nothing = 0

-- the last look at the head of a list
abbrev pub look_at : Parts → ℕ → Look
look_at p list = head_look p.head_looks list

-- the look was by a ticket from `from` on, saw this word, and no superblock was taken since
pub record IsLook (from : ℕ) (q : Parts) (look : Look) (seen : ℕ) : Type 0 where
  pub seen_is : look.seen ≡ seen
  pub ticket : ℕ
  pub by : look.ticket ≡ Some ticket
  pub since : from ≤ ticket
  pub until : ticket < q.words.drawn
  pub taken_is : look.taken ≡ q.taken

-- on the way to fill the cache of the class: the parts are right again, and held blocks, what is to be drained and the
-- caches and lists of the other classes are as before
pub record IsRefilling (class : ℕ) (p q : Parts) : Type 0 where
  pub running : IsRunning q
  pub held : held_in q ≡ held_in p
  pub caches : (c : ℕ) → IsClass c → c ≢ class → cache_at q.caches c ≡ cache_at p.caches c
  pub heads : (c : ℕ) → IsClass c → c ≢ class → head_at q c ≡ head_at p c
  pub lists : (c : ℕ) → IsClass c → c ≢ class → KeepsList p q c
  pub drains : DrainsSame p.capacity class (held_in p) (image_of p) (image_of q)

-- the list was found empty by one step, and nothing was stored
pub record FindsEmpty (list : ℕ) (p q : Parts) : Type 0 where
  pub empty : IsEmptyList p list
  pub only : OnlyLooks 1 p q
  pub volatile : q.words.volatile ≡ p.words.volatile
  pub look : IsLook p.words.drawn q (look_at q list) (head_at q list)
  pub others : (other : ℕ) → other ≢ list → look_at q other ≡ look_at p other

-- its first superblock, with no block in use, went to the free list
pub record Recycles (class : ℕ) (p q : Parts) : Type 0 where
  pub some : IsEmptyList p class → ⊥
  pub now : IsEmptyList q 0 → ⊥
  pub used : image_of q used_word ≡ image_of p used_word
  pub shorter : (ds : List ℕ) → LeadsAlong q class ds → (d : ℕ) × LeadsAlong p class (d ∷ ds)

-- what was found first in the list of the class
abbrev pub FindsFirst : ℕ → Found → Parts → Parts → Type 0
FindsFirst class Blocks p q = (1 ≤ (cache_at q.caches class).count) × (IsEmptyList p class → ⊥)
FindsFirst class Recycled p q = ((cache_at q.caches class).count ≡ 0) × Recycles class p q × (q.taken ≡ p.taken)
FindsFirst class Nothing p q = ((cache_at q.caches class).count ≡ 0) × FindsEmpty class p q × (q.taken ≡ p.taken)

-- the first block left the cache of the class and is held
pub record PopsBlock (class : ℕ) (b : Block) (p q : Parts) : Type 0 where
  pub running : IsRunning q
  pub size : b.words ≡ words_of_class class
  pub adds : AddsTo b (held_in p) (held_in q)
  pub new : Contains (held_in p) b → ⊥
  pub at : b.first_word ≡ (cache_at p.caches class).first
  pub next : (cache_at q.caches class).first ≡ image_of p b.first_word
  pub count : (cache_at q.caches class).count + 1 ≡ (cache_at p.caches class).count
  pub caches : (c : ℕ) → IsClass c → c ≢ class → cache_at q.caches c ≡ cache_at p.caches c
  pub drains : DrainsOne p.capacity class (image_of p) (held_in p) (held_in q) b
  pub volatile : q.words.volatile ≡ p.words.volatile
  pub drawn : q.words.drawn ≡ p.words.drawn + 1
  pub taken : q.taken ≡ p.taken
