-- Images of the dictionary, and a seat of some roots that has just been opened over one.
use Rattle.std.specs.Prelude.{◌≡◌, ℕ, ◌*◌, ◌<◌, ◌↔◌, None, Some, Contains}
use Rattle.heap_model.specs.declared.block.Block.{Block}
use Rattle.heap_model.specs.Image.{Image}
use Rattle.heap_model.specs.Geometry.{roots, version, version_word}
use Rattle.heap_model.specs.Header.{header_fault, HasKindsBelow, kinds_of}
use Rattle.heap_model.specs.Reach.{ReachFrom, IsReachedIn, IsOutsideIn}
use Rattle.heap_seat.specs.View.{View}
use Rattle.heap_seat.specs.Words.{IsOwn, StoresKinds}
use Rattle.dict_model.specs.Links.{shards, dict_links, kind_count}
use Rattle.dict_model.specs.Shards.{Map, MapOf}
use Rattle.dict_requests.specs.Trails.{IsDurableAt}

-- each root has a kind that there is, and each shard of the image is a map
pub record HasMaps (image : Image) : Type 0 where
  pub kinds : HasKindsBelow (Some kind_count) image
  pub each : (shard : ℕ) → shard < shards → (map : Map) × MapOf image shard map

-- nothing in the image is outside, each shard is a map, and exactly the reached blocks are held
pub record IsDictionary (image : Image) (held : Block → Type 0) : Type 0 where
  pub nothing_outside : (at : ℕ) → IsOutsideIn image dict_links at → ⊥
  pub maps : HasMaps image
  pub exact : (b : Block) → held b ↔ IsReachedIn image dict_links b

-- the block is reached from one of the chosen roots
pub record IsReachedFrom (image : Image) (chosen : ℕ → Type 0) (b : Block) : Type 0 where
  pub kind : ℕ
  pub reach : ReachFrom image chosen (kinds_of image) dict_links b kind

-- the seat has some roots, with their kinds, and holds exactly what the image reaches from them; each of its own words
-- is durable as it stands in the image
pub record IsOpenedOver (image : Image) (v : View) : Type 0 where
  pub kinds : StoresKinds v image
  pub nothing_outside : (at : ℕ) → IsOutsideIn image dict_links at → ⊥
  pub maps : HasMaps image
  pub exact : (b : Block) → Contains v.held b ↔ IsReachedFrom image (Contains v.roots) b
  pub words : (word : ℕ) → IsOwn v.held v.roots word → IsDurableAt v word (image word)

-- the seat has all roots
pub record HasAllRoots (v : View) : Type 0 where
  pub each : (root : ℕ) → root < roots → Contains v.roots root

-- an image of so many words that recovery does not refuse, and each of whose shards is a map
pub record CanBeRun (words : ℕ) (image : Image) : Type 0 where
  pub well_formed : header_fault (Some kind_count) (8 * words) image ≡ None
  pub version_is : image version_word ≡ version
  pub nothing_outside : (at : ℕ) → IsOutsideIn image dict_links at → ⊥
  pub maps : HasMaps image
