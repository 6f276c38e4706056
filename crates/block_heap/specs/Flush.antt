-- How a cache is given back to the superblocks.
use Rattle.std.specs.Prelude.{◌≡◌, ◌≢◌, ℕ, ◌+◌, ◌<◌, List, [], ◌∷◌, ◌++◌, length, Contains}
use Rattle.heap_model.specs.Sizes.{IsClass}
use Rattle.heap_model.specs.Chains.{Walks}
use Rattle.heap_shape.specs.Standing.{first_of, IsFirstOf}
use Rattle.block_heap.specs.declared.small.CachePrefix.{CachePrefix}
use Rattle.block_heap.specs.Accounts.{AreAccounted}
use Rattle.block_heap.specs.Parts.{Parts, image_of, cache_at}

-- the cache leads along blocks of superblock d, which the batch has, and then along the rest, of which so many are left
pub record IsCachePrefix (class : ℕ) (prefix : CachePrefix) (p : Parts) : Type 0 where
  pub within : prefix.d < p.capacity
  pub before : List ℕ
  pub walks : Walks (image_of p) (cache_at p.caches class).first (before ++ prefix.batch.last ∷ [])
  pub firsts : (word : ℕ) → Contains (before ++ prefix.batch.last ∷ []) word → IsFirstOf p.capacity class prefix.d word
  pub first : (cache_at p.caches class).first ≡ first_of p.capacity class prefix.d prefix.batch.first
  pub count : prefix.batch.count ≡ length (before ++ prefix.batch.last ∷ [])
  pub next : prefix.rest.first ≡ image_of p prefix.batch.last
  pub rest : prefix.rest.count + prefix.batch.count ≡ (cache_at p.caches class).count

-- the other caches, and what was read and taken, stay, and no superblock is lost
pub record KeepsAll (class : ℕ) (p q : Parts) : Type 0 where
  pub caches : (c : ℕ) → IsClass c → c ≢ class → cache_at q.caches c ≡ cache_at p.caches c
  pub used_look : q.used_look ≡ p.used_look
  pub head_looks : q.head_looks ≡ p.head_looks
  pub accounted : AreAccounted p → AreAccounted q

-- the cache is what was behind the prefix
pub record GivesBack (class : ℕ) (prefix : CachePrefix) (p q : Parts) : Type 0 where
  pub cache : cache_at q.caches class ≡ prefix.rest
  pub keeps : KeepsAll class p q
