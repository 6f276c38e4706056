-- The map that a seat's shard stands for in every mixture of what its words may have.
use Rattle.std.specs.Prelude.{◌≡◌, ◌≢◌, ℕ, ◌⊎◌, Some, Contains}
use Rattle.heap_model.specs.declared.block.Block.{Block}
use Rattle.heap_model.specs.Geometry.{root_word}
use Rattle.heap_model.specs.Image.{Image}
use Rattle.heap_model.specs.Blocks.{IsIn}
use Rattle.heap_seat.specs.View.{View}
use Rattle.heap_seat.specs.Words.{MixesOwn, KeepsWord}
use Rattle.dict_model.specs.Shards.{Map, LeadsTo, IsMap}
use Rattle.dict_requests.specs.Reached.{MayReach}

-- the shard of an image, by the blocks that the seat holds
abbrev pub IsMapIn : View → Image → ℕ → Map → Type 0
IsMapIn v image shard = IsMap (LeadsTo (Contains v.held)) image shard

-- every mixture of the seat's words gives the shard this map
pub record GivesMap (v : View) (shard : ℕ) (map : Map) : Type 0 where
  pub each : (image : Image) → MixesOwn v image → IsMapIn v image shard map

-- every mixture gives it the one map or the other
pub record GivesEither (v : View) (shard : ℕ) (one other : Map) : Type 0 where
  pub each : (image : Image) → MixesOwn v image → IsMapIn v image shard one ⊎ IsMapIn v image shard other

-- the shard keeps its table: where loads see that its root isn't null, they see the same of it after
pub record KeepsTable (shard : ℕ) (v w : View) : Type 0 where
  pub root : (x : ℕ) → Contains v.roots shard → v.volatile (root_word shard) ≡ Some x → x ≢ 0 → w.volatile (root_word shard) ≡ Some x

-- all that other roots reach is held with its words: they are not stored to, and the kinds of the roots stay
pub record KeepsOtherShards (shard : ℕ) (v w : View) : Type 0 where
  pub roots : w.roots ≡ v.roots
  pub kinds : w.kinds ≡ v.kinds
  pub root_words : (root : ℕ) → Contains v.roots root → root ≢ shard → KeepsWord v w (root_word root)
  pub blocks : (b : Block) → Contains v.held b → ((kind : ℕ) → MayReach v shard b kind → ⊥)
      → Contains w.held b × ((word : ℕ) → IsIn b word → KeepsWord v w word)
