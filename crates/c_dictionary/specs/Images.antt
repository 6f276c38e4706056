-- The image that a dictionary was opened over, and the one that it leaves.
use Rattle.std.specs.Prelude.{◌≡◌, ◌≢◌, ◌⊎◌, ℕ, ◌*◌, ◌<◌, List, length, map, slice_index, Option, None, Some}
use Rattle.heap_model.specs.Durability.{Mixes}
use Rattle.heap_model.specs.Geometry.{image_words}
use Rattle.heap_model.specs.Header.{capacity_of}
use Rattle.heap_model.specs.Image.{Image}
use Rattle.block_heap.specs.SeqState.{seat_of}
use Rattle.region_header.specs.Words.{AreWordsOf}
use Rattle.crash_image.specs.Crash.{GivesAll, transient_words}
use Rattle.tool_ports.specs.Seeded.{BeginsBy, GivesWord}
use Rattle.tool_ports.specs.declared.seeded_chances.SeededChances.{SeededChances}
use Rattle.dict_model.specs.Links.{shards}
use Rattle.dict_model.specs.Shards.{Map, MapOf, no_keys}
use Rattle.dict_requests.specs.Maps.{GivesEither}
use Rattle.run_model.specs.Arrivals.{IsWholeMap}
use Rattle.dictionary_heap.specs.Images.{current_image, CanBeRecovered}
use Rattle.dictionary_heap.specs.Opened.{GivesMapsOf}
use Rattle.c_dictionary.specs.declared.store.Store.{Store}
use Rattle.c_dictionary.specs.Dictionary.{Holds}

-- the map of the image of these words, of which each shard gives its own; and the length of the image in this version
pub record IsMapOf (words : List ℕ) (s : Store) : Type 0 where
  pub maps : GivesMapsOf (current_image words) (seat_of s.heap)
  pub map : Map
  pub whole : IsWholeMap (current_image words) map
  pub holds : Holds map s
  pub long : s.length ≡ 8 * image_words (capacity_of (current_image words))

-- it has a dictionary, and that is the map of the image of these words, which can be recovered
pub record OpensWords (words : List ℕ) (new : Option Store) : Type 0 where
  pub store : Store
  pub has : new ≡ Some store
  pub good : CanBeRecovered words
  pub opened : IsMapOf words store

-- the same of the image in these bytes
pub record OpensBytes (bytes : List ℕ) (new : Option Store) : Type 0 where
  pub words : List ℕ
  pub are : AreWordsOf words bytes
  pub opens : OpensWords words new

-- it has a dictionary without keys, whose image has so many superblocks
pub record OpensEmpty (superblocks : ℕ) (new : Option Store) : Type 0 where
  pub store : Store
  pub has : new ≡ Some store
  pub empty : Holds no_keys store
  pub long : store.length ≡ 8 * image_words superblocks

-- The words are an image of the dictionary: it can be recovered. Each shard of it is a map that every mixture gives, or
-- one of two; so a dictionary that is a map leaves this map.
pub record IsImageOf (s : Store) (words : List ℕ) : Type 0 where
  pub good : CanBeRecovered words
  pub either : (shard : ℕ) (one other : Map) → shard < shards → GivesEither (seat_of s.heap) shard one other
      → MapOf (current_image words) shard one ⊎ MapOf (current_image words) shard other
  pub whole : (map : Map) → Holds map s → IsWholeMap (current_image words) map

-- it had a dictionary, and these are the bytes of an image of it
pub record LeavesImage (old : Option Store) (bytes : List ℕ) : Type 0 where
  pub store : Store
  pub had : old ≡ Some store
  pub words : List ℕ
  pub are : AreWordsOf words bytes
  pub image : IsImageOf store words

-- how many bytes its image has; 0 where there is none
abbrev pub length_of : Option Store → ℕ
length_of None = 0
length_of (Some s) = s.length

-- it has a dictionary, and its image has another length than this
pub record HasOtherLength (value : Option Store) (size : ℕ) : Type 0 where
  pub store : Store
  pub has : value ≡ Some store
  pub other : store.length ≢ size

-- the heads, anchors and links of the image are the numbers that the generator of this seed gives for what a crash leaves
-- at random, from the first on
pub record IsScrambledBy (seed : ℕ) (image : Image) : Type 0 where
  pub begun : SeededChances
  pub by_seed : BeginsBy seed begun
  pub ended : SeededChances
  pub gives : GivesAll GivesWord begun (map image (transient_words (capacity_of image))) ended

-- each of the new words is what loads saw, or the old one
pub record IsMixing (now old new : List ℕ) : Type 0 where
  pub long : length new ≡ length old
  pub mixes : Mixes (slice_index now) (slice_index old) (slice_index new)
