-- What a dictionary is as it is recovered, and a heap that was just opened over one.
use Rattle.std.specs.Prelude.{◌≡◌, ℕ, ◌<◌, List, None, Contains, slice_index}
use Rattle.heap_model.specs.declared.block.Block.{Block}
use Rattle.heap_model.specs.Image.{Image}
use Rattle.heap_model.specs.Rest.{IsReady}
use Rattle.heap_seat.specs.View.{View}
use Rattle.block_heap.specs.Closing.{IsOpened}
use Rattle.block_heap.specs.SeqState.{SeqState}
use Rattle.dict_model.specs.Links.{shards}
use Rattle.dict_model.specs.Shards.{Map, MapOf}
use Rattle.dict_requests.specs.Maps.{GivesMap}
use Rattle.dictionary.specs.Reading.{AreMaps, RecoversTo}
use Rattle.run_model.specs.Opened.{IsDictionary}
use Rattle.dictionary_heap.specs.declared.recovering.RecoveredDictionary.{RecoveredDictionary}

-- recovery makes this heap at rest of the image; it is a dictionary, and the maps are those of the image's shards
pub record IsDictionaryOf (image : Image) (found : RecoveredDictionary) : Type 0 where
  pub ready : IsReady found.heap.words found.heap.held
  pub recovers : RecoversTo image (slice_index found.heap.words)
  pub dictionary : IsDictionary (slice_index found.heap.words) (Contains found.heap.held)
  pub maps_are : AreMaps image shards found.maps.items

-- the heap was opened with this budget over what recovery leaves of the image, a dictionary at rest
pub record IsOpenedFrom (image : Image) (budget : ℕ) (s : SeqState) : Type 0 where
  pub words : List ℕ
  pub held : List Block
  pub recovers : RecoversTo image (slice_index words)
  pub dictionary : IsDictionary (slice_index words) (Contains held)
  pub opened : IsOpened words held budget s

-- each shard of the image has a map, and every mixture of the seat's words gives the shard this map
pub record GivesMapsOf (image : Image) (v : View) : Type 0 where
  pub each : (shard : ℕ) → shard < shards → (map : Map) × MapOf image shard map × GivesMap v shard map

-- the seat has this budget, and has drawn no ticket, made no call and taken no superblock
pub record HasDoneNothing (budget : ℕ) (v : View) : Type 0 where
  pub budget_is : v.budget ≡ budget
  pub next : v.next ≡ 0
  pub stopped : v.stopped ≡ None
  pub small_calls : v.small_calls ≡ 0
  pub large_calls : v.large_calls ≡ 0
  pub taken : v.taken ≡ 0
  pub refusals : v.refusals ≡ 0
