-- Where a request of a class gets its block.
use Rattle.std.specs.Prelude.{◌≡◌, ◌≢◌, ℕ, ◌+◌, ◌<◌, ◌≤◌, ⊤, Bool, true, false, Option, MatchOption, List, ◌∷◌, ◌++◌, length, reverse, Contains}
use Rattle.heap_model.specs.declared.block.Block.{Block}
use Rattle.heap_model.specs.Geometry.{anchor_word, info_word, used_word, start_word}
use Rattle.heap_model.specs.Sizes.{IsClass, IsLeastClassFor, blocks_of, words_of_class}
use Rattle.heap_model.specs.Words.{anchor_state, anchor_first, anchor_count, empty_state, partial_state, full_anchor}
use Rattle.heap_shape.specs.Standing.{first_of}
use Rattle.heap_shape.specs.Effects.{IsInSuperblock}
use Rattle.heap_shape.specs.Moves.{AddsTo}
use Rattle.block_heap.specs.declared.refill.Found.{Found}
use Rattle.block_heap.specs.declared.refill.Found.TheVariants.{Blocks, Recycled, Nothing}
use Rattle.block_heap.specs.Lists.{head_at, IsEmptyList, LeadsAlong, IsInList, KeepsFree, KeepsList, CountsPops}
use Rattle.block_heap.specs.Parts.{Parts, image_of, held_in, cache_at}
use Rattle.block_heap.specs.Divide.{AreLinked, IsLinkedWord}

-- each superblock in the list of the class has all its blocks free: the list has nothing to give
abbrev pub HasNothing : ℕ → Parts → Type 0
HasNothing class p = (d : ℕ) → IsInList p class d → anchor_state (image_of p (anchor_word d)) ≡ empty_state

-- superblock e stays: its info, its anchor and its words
pub record KeepsSuperblock (e : ℕ) (p q : Parts) : Type 0 where
  pub info : image_of q (info_word e) ≡ image_of p (info_word e)
  pub anchor : image_of q (anchor_word e) ≡ image_of p (anchor_word e)
  pub words : (word : ℕ) → IsInSuperblock p.capacity e word → image_of q word ≡ image_of p word

-- these went to the free list, one after another: the last of them is its first now
abbrev pub Frees : List ℕ → Parts → Parts → Type 0
Frees ds p q = (fs : List ℕ) → LeadsAlong p 0 fs → LeadsAlong q 0 (reverse ds ++ fs)

-- superblock d is the first in the list of the class that has blocks in use: all that it had free are in the cache,
-- chained as they were, and the list begins behind it; each other superblock stays
pub record TakesAll (class d : ℕ) (p q : Parts) : Type 0 where
  pub within : d < p.capacity
  pub before : List ℕ
  pub behind : List ℕ
  pub leads : LeadsAlong p class (before ++ d ∷ behind)
  pub passed : (e : ℕ) → Contains before e → anchor_state (image_of p (anchor_word e)) ≡ empty_state
  pub rest : LeadsAlong q class behind
  pub partial : anchor_state (image_of p (anchor_word d)) ≡ partial_state
  pub cache : cache_at q.caches class ≡ record {
    first = first_of p.capacity class d (anchor_first (image_of p (anchor_word d)));
    count = anchor_count (image_of p (anchor_word d));
  }
  pub now : image_of q (anchor_word d) ≡ full_anchor
  pub info : image_of q (info_word d) ≡ image_of p (info_word d)
  pub words : (word : ℕ) → IsInSuperblock p.capacity d word → image_of q word ≡ image_of p word
  pub others : (e : ℕ) → e < p.capacity → e ≢ d → KeepsSuperblock e p q
  pub frees : Frees before p q
  pub free : KeepsFree p q
  pub pops : CountsPops class (length before + 1) 0 p q
  pub taken : q.taken ≡ p.taken

-- superblock d is cut for the class, and all its blocks are in the cache, chained in ascending order by the first word of
-- each: its other words stay, and so does each other superblock, and none leaves the free list
pub record CutsAll (class d : ℕ) (p q : Parts) : Type 0 where
  pub within : d < p.capacity
  pub anchor : image_of q (anchor_word d) ≡ full_anchor
  pub info : image_of q (info_word d) ≡ class
  pub cache : cache_at q.caches class ≡ record { first = start_word p.capacity d; count = blocks_of class }
  pub linked : AreLinked p.capacity class d (blocks_of class) q.words
  pub words : (word : ℕ) → IsInSuperblock p.capacity d word → (IsLinkedWord p.capacity class d (blocks_of class) word → ⊥)
      → image_of q word ≡ image_of p word
  pub others : (e : ℕ) → e < p.capacity → e ≢ d → KeepsSuperblock e p q
  pub free : (e : ℕ) → e ≢ d → IsInList p 0 e → IsInList q 0 e

-- the superblocks in the list of the class went to the free list, one after another, and d, the first there then, left it
pub record TakesFree (class d : ℕ) (p q : Parts) : Type 0 where
  pub listed : List ℕ
  pub free : List ℕ
  pub behind : List ℕ
  pub class_leads : LeadsAlong p class listed
  pub free_leads : LeadsAlong p 0 free
  pub first : reverse listed ++ free ≡ d ∷ behind
  pub empty : IsEmptyList q class
  pub rest : LeadsAlong q 0 behind
  pub pops : CountsPops class (length listed) 1 p q

-- where the empty cache of a class is filled from: its list; if that has nothing to give a free superblock, which may
-- have been in it; if there is none a superblock that was never taken
pub data RefillsFrom (class : ℕ) (p q : Parts) : Type 0 where
  from_class_list : (d : ℕ) → TakesAll class d p q → RefillsFrom class p q
  from_free_list : (d : ℕ) → HasNothing class p → TakesFree class d p q → CutsAll class d p q → q.taken ≡ p.taken
      → RefillsFrom class p q
  from_fresh : IsEmptyList p class → IsEmptyList p 0 → CutsAll class (image_of p used_word) p q → q.taken ≡ p.taken + 1
      → CountsPops class 0 0 p q → RefillsFrom class p q

-- the caches and the lists of the other classes stay, these with their heads
pub record KeepsOtherClasses (class : ℕ) (p q : Parts) : Type 0 where
  pub caches : (c : ℕ) → IsClass c → c ≢ class → cache_at q.caches c ≡ cache_at p.caches c
  pub heads : (c : ℕ) → IsClass c → c ≢ class → head_at q c ≡ head_at p c
  pub lists : (c : ℕ) → IsClass c → c ≢ class → KeepsList p q c

-- the cache has blocks, or is filled
pub data Stocked (class : ℕ) (p q : Parts) : Type 0 where
  in_stock : 1 ≤ (cache_at p.caches class).count → q ≡ p → Stocked class p q
  is_filled : (cache_at p.caches class).count ≡ 0 → held_in q ≡ held_in p → KeepsOtherClasses class p q → RefillsFrom class p q
      → Stocked class p q

-- the first block of the cache left it and is held, by one ticket: no word is stored to, and the other caches stay
pub record TakesFirst (class : ℕ) (p q : Parts) : Type 0 where
  pub capacity : q.capacity ≡ p.capacity
  pub held : AddsTo (record { first_word = (cache_at p.caches class).first; words = words_of_class class }) (held_in p) (held_in q)
  pub next : (cache_at q.caches class).first ≡ image_of p (cache_at p.caches class).first
  pub count : (cache_at q.caches class).count + 1 ≡ (cache_at p.caches class).count
  pub caches : (c : ℕ) → IsClass c → c ≢ class → cache_at q.caches c ≡ cache_at p.caches c
  pub volatile : q.words.volatile ≡ p.words.volatile
  pub drawn : q.words.drawn ≡ p.words.drawn + 1
  pub taken : q.taken ≡ p.taken

-- a request of the class is served from the cache, which is filled first if it is empty
pub record IsServed (class : ℕ) (p r : Parts) : Type 0 where
  pub between : Parts
  pub stocked : Stocked class p between
  pub takes : TakesFirst class between r

-- the answer to a request of the class: a block was served in order
abbrev pub ServesInOrder : ℕ → Option Block → Parts → Parts → Type 0
ServesInOrder class answer p q = MatchOption answer ⊤ (λ _. IsServed class p q)

-- so is one that a class serves
abbrev pub IsServedInOrder : ℕ → Parts → Parts → Type 0
IsServedInOrder bytes p q = (class : ℕ) → IsLeastClassFor bytes class → IsServed class p q

-- the first superblocks of the list of the class, with all their blocks free, went to the free list
pub record MovesEmpty (class : ℕ) (p q : Parts) : Type 0 where
  pub capacity : q.capacity ≡ p.capacity
  pub all : (e : ℕ) → e < p.capacity → KeepsSuperblock e p q
  pub anchors : (e : ℕ) → image_of q (anchor_word e) ≡ image_of p (anchor_word e)
  pub moved : List ℕ
  pub were : (ds : List ℕ) → LeadsAlong q class ds → LeadsAlong p class (moved ++ ds)
  pub passed : (e : ℕ) → Contains moved e → anchor_state (image_of p (anchor_word e)) ≡ empty_state
  pub frees : Frees moved p q
  pub nothing : HasNothing class q → HasNothing class p
  pub free : KeepsFree p q
  pub pops : CountsPops class (length moved) 0 p q

-- what was found first in the list of the class, and what after all with nothing to give had left it
abbrev pub OrdersFirst : ℕ → Found → Parts → Parts → Type 0
OrdersFirst class Blocks p q = (d : ℕ) × TakesAll class d p q
OrdersFirst class Recycled p q = MovesEmpty class p q
OrdersFirst class Nothing p q = ⊤

-- what was found in the whole list of the class: a superblock with blocks in use, or nothing to give
abbrev pub OrdersPartial : ℕ → Bool → Parts → Parts → Type 0
OrdersPartial class true p q = (d : ℕ) × TakesAll class d p q
OrdersPartial class false p q = MovesEmpty class p q × HasNothing class p

-- the first free superblock was cut, or one that was never taken
pub record CutsFirst (class d : ℕ) (p q : Parts) : Type 0 where
  pub behind : List ℕ
  pub was : LeadsAlong p 0 (d ∷ behind)
  pub rest : LeadsAlong q 0 behind
  pub class_head : head_at q class ≡ head_at p class
  pub pops : CountsPops class 0 1 p q
  pub cuts : CutsAll class d p q

-- what was found in the free list
abbrev pub OrdersFree : ℕ → Bool → Parts → Parts → Type 0
OrdersFree class true p q = (d : ℕ) × CutsFirst class d p q
OrdersFree class false p q = ⊤

-- and among the superblocks that were never taken
abbrev pub OrdersFresh : ℕ → Bool → Parts → Parts → Type 0
OrdersFresh class true p q = CutsAll class (image_of p used_word) p q × (q.taken ≡ p.taken + 1) × CountsPops class 0 0 p q
OrdersFresh class false p q = ⊤
