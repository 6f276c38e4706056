-- Where freed blocks go.
use Rattle.std.specs.Prelude.{◌≡◌, ◌≢◌, ℕ, ◌+◌, ◌*◌, ◌<◌, ◌⊎◌, List, [], ◌∷◌, ◌++◌, length, slice_set, Contains}
use Rattle.heap_model.specs.declared.block.Block.{Block}
use Rattle.heap_model.specs.Geometry.{head_word, info_word, anchor_word, link_word, start_word, superblock_words}
use Rattle.heap_model.specs.Image.{words_from}
use Rattle.heap_model.specs.Sizes.{IsClass, blocks_of, words_of_class}
use Rattle.heap_model.specs.Words.{head_pops}
use Rattle.heap_model.specs.Recovered.{HasPartIn}
use Rattle.heap_model.specs.Chains.{Walks}
use Rattle.heap_shape.specs.Standing.{IsFirstOf}
use Rattle.heap_shape.specs.Effects.{IsInSuperblock}
use Rattle.block_heap.specs.declared.small.CachePrefix.{CachePrefix}
use Rattle.block_heap.specs.BlockRuns.{BlockRun, IsRunOf, AreRunsOf, GivesRun, GivesRuns}
use Rattle.block_heap.specs.Lists.{head_at, IsInList, KeepsFree, KeepsList, CountsPops}
use Rattle.block_heap.specs.Order.{Frees}
use Rattle.block_heap.specs.Parts.{Parts, image_of, cache_at}

-- the cache of the class leads along these blocks
pub record CachesAlong (class : ℕ) (p : Parts) (words : List ℕ) : Type 0 where
  pub walks : Walks (image_of p) (cache_at p.caches class).first words
  pub count : (cache_at p.caches class).count ≡ length words

-- it has no blocks but those of superblock d
abbrev pub CachesOnlyOf : ℕ → ℕ → Parts → Type 0
CachesOnlyOf class d p = (words : List ℕ) → CachesAlong class p words
    → (word : ℕ) → Contains words word → IsFirstOf p.capacity class d word

-- it has exactly the blocks of superblock d
abbrev pub CachesAllOf : ℕ → ℕ → Parts → Type 0
CachesAllOf class d p = ((cache_at p.caches class).count ≡ blocks_of class) × CachesOnlyOf class d p

-- the block that begins at the word is in front of the cache, by one ticket: no other cache and no other word is changed
pub record CachesBlock (class word : ℕ) (p q : Parts) : Type 0 where
  pub capacity : q.capacity ≡ p.capacity
  pub cache : cache_at q.caches class ≡ record { first = word; count = (cache_at p.caches class).count + 1 }
  pub caches : (c : ℕ) → IsClass c → c ≢ class → cache_at q.caches c ≡ cache_at p.caches c
  pub volatile : q.words.volatile ≡ slice_set p.words.volatile word (cache_at p.caches class).first
  pub drawn : q.words.drawn ≡ p.words.drawn + 1

-- the cache was given back as runs, in its order: each is as long as it can be
pub record GivesInRuns (class : ℕ) (p q : Parts) : Type 0 where
  pub words : List ℕ
  pub cached : CachesAlong class p words
  pub runs : List BlockRun
  pub cut : AreRunsOf p.capacity class words runs
  pub gives : GivesRuns p.capacity class runs (image_of p) (image_of q)

-- the cache was given back, so that a superblock of each of its blocks is in the list of the class or in the free list:
-- it came to the free list exactly where the cache had exactly its blocks, and no list loses one; the lists of the other
-- classes stay, and no pop is counted
pub record Flushes (class : ℕ) (p q : Parts) : Type 0 where
  pub capacity : q.capacity ≡ p.capacity
  pub in_runs : GivesInRuns class p q
  pub empty : (cache_at q.caches class).count ≡ 0
  pub caches : (c : ℕ) → IsClass c → c ≢ class → cache_at q.caches c ≡ cache_at p.caches c
  pub heads : (c : ℕ) → IsClass c → c ≢ class → head_at q c ≡ head_at p c
  pub lists : (c : ℕ) → IsClass c → c ≢ class → KeepsList p q c
  pub pops : CountsPops class 0 0 p q
  pub infos : (d : ℕ) → d < p.capacity → image_of q (info_word d) ≡ image_of p (info_word d)
  pub free : KeepsFree p q
  pub listed : (d : ℕ) → IsInList p class d → IsInList q class d
  pub all : (d : ℕ) → CachesAllOf class d p → IsInList q 0 d
  pub only : (d : ℕ) → IsInList q 0 d → IsInList p 0 d ⊎ CachesAllOf class d p
  pub given : (words : List ℕ) → CachesAlong class p words → (word d : ℕ) → Contains words word → IsFirstOf p.capacity class d word
      → IsInList q class d ⊎ IsInList q 0 d

-- a freed block goes in front of the cache, which is given back where it has as many blocks then as a superblock
pub data FreesInClass (class word : ℕ) (p r : Parts) : Type 0 where
  below_limit : (cache_at p.caches class).count + 1 < blocks_of class → CachesBlock class word p r → FreesInClass class word p r
  at_limit : (q : Parts) → (cache_at p.caches class).count + 1 ≡ blocks_of class → CachesBlock class word p q → Flushes class q r
      → FreesInClass class word p r

-- so where the cache had exactly the other blocks of its superblock, that is in the free list
pub record FreesSmall (class word : ℕ) (p r : Parts) : Type 0 where
  pub freed : FreesInClass class word p r
  pub all : (d : ℕ) → IsFirstOf p.capacity class d word → (cache_at p.caches class).count + 1 ≡ blocks_of class
      → CachesOnlyOf class d p → IsInList r 0 d

-- a word that the free of a large block changes: the head of the free list, the anchor or the link of one of its superblocks
abbrev pub IsFreedWord : ℕ → Block → ℕ → Type 0
IsFreedWord capacity b word = (word ≡ head_word 0)
    ⊎ ((d : ℕ) × HasPartIn capacity b d × ((word ≡ anchor_word d) ⊎ (word ≡ link_word d)))

-- the superblocks of a freed large block came to the free list one after another, and no others: each keeps its info until
-- it is cut again; their anchors are 0, no pop is counted, and no other word is changed
pub record FreesLarge (b : Block) (p q : Parts) : Type 0 where
  pub all : (d : ℕ) → HasPartIn p.capacity b d → IsInList q 0 d
  pub only : (d : ℕ) → IsInList q 0 d → IsInList p 0 d ⊎ HasPartIn p.capacity b d
  pub free : KeepsFree p q
  pub heads : (class : ℕ) → IsClass class → head_at q class ≡ head_at p class
  pub infos : (d : ℕ) → d < p.capacity → image_of q (info_word d) ≡ image_of p (info_word d)
  pub caches : q.caches ≡ p.caches
  pub in_order : (first count : ℕ) → b.first_word ≡ start_word p.capacity first → b.words ≡ superblock_words * count
      → Frees (words_from (λ d. d) first count) p q
  pub lists : (class : ℕ) → IsClass class → KeepsList p q class
  pub anchors : (d : ℕ) → HasPartIn p.capacity b d → image_of q (anchor_word d) ≡ 0
  pub pops : head_pops (head_at q 0) ≡ head_pops (head_at p 0)
  pub others : (word : ℕ) → (IsFreedWord p.capacity b word → ⊥) → image_of q word ≡ image_of p word

-- where a freed block goes, by its size
pub record ComesBack (b : Block) (p q : Parts) : Type 0 where
  pub in_class : (class : ℕ) → IsClass class → b.words ≡ words_of_class class → FreesSmall class b.first_word p q
  pub as_large : ((class : ℕ) → IsClass class → b.words ≢ words_of_class class) → FreesLarge b p q

-- no longer prefix of the cache lies in its superblock
abbrev pub IsLongest : CachePrefix → Parts → Type 0
IsLongest prefix p = (prefix.rest.count ≡ 0) ⊎ (IsInSuperblock p.capacity prefix.d prefix.rest.first → ⊥)

-- the prefix is a run of the cache, which leads along the rest now
pub record GivesPrefix (class : ℕ) (prefix : CachePrefix) (p q : Parts) : Type 0 where
  pub blocks : List ℕ
  pub rest : List ℕ
  pub cached : CachesAlong class p (blocks ++ rest)
  pub now : CachesAlong class q rest
  pub is_run : IsRunOf p.capacity class (record { superblock = prefix.d; blocks = blocks })
  pub gives : GivesRun p.capacity class (record { superblock = prefix.d; blocks = blocks }) (image_of p) (image_of q)

-- the superblock that got the prefix is in the free list if it got all its blocks, and else in that of the class; no list loses one
pub record GivesTo (class : ℕ) (prefix : CachePrefix) (p q : Parts) : Type 0 where
  pub free : KeepsFree p q
  pub listed : (d : ℕ) → IsInList p class d → IsInList q class d
  pub all : prefix.batch.count ≡ blocks_of class → IsInList q 0 prefix.d
  pub some : prefix.batch.count ≢ blocks_of class → IsInList q class prefix.d
  pub only : (d : ℕ) → IsInList q 0 d → IsInList p 0 d ⊎ ((d ≡ prefix.d) × (prefix.batch.count ≡ blocks_of class))
  pub heads : (c : ℕ) → IsClass c → c ≢ class → head_at q c ≡ head_at p c
  pub lists : (c : ℕ) → IsClass c → c ≢ class → KeepsList p q c
  pub pops : CountsPops class 0 0 p q
  pub infos : (d : ℕ) → d < p.capacity → image_of q (info_word d) ≡ image_of p (info_word d)

-- superblock d came to the front of the free list: the lists of the classes and all other words stay
pub record FreesOne (d : ℕ) (p q : Parts) : Type 0 where
  pub freed : IsInList q 0 d
  pub only : (e : ℕ) → IsInList q 0 e → IsInList p 0 e ⊎ (e ≡ d)
  pub free : KeepsFree p q
  pub heads : (class : ℕ) → IsClass class → head_at q class ≡ head_at p class
  pub infos : (e : ℕ) → image_of q (info_word e) ≡ image_of p (info_word e)
  pub first : Frees (d ∷ []) p q
  pub lists : (class : ℕ) → IsClass class → KeepsList p q class
  pub anchor : image_of q (anchor_word d) ≡ 0
  pub pops : head_pops (head_at q 0) ≡ head_pops (head_at p 0)
  pub others : (word : ℕ) → word ≢ head_word 0 → word ≢ anchor_word d → word ≢ link_word d → image_of q word ≡ image_of p word
