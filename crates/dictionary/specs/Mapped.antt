-- A heap at rest each of whose shards was read as a map.
use Rattle.std.specs.Prelude.{ℕ, List, slice_index}
use Rattle.std.specs.BTreeMap.{BTreeMap}
use Rattle.heap_model.specs.Header.{kinds_of}
use Rattle.heap_model.specs.Image.{Image}
use Rattle.super_block.specs.Contents.{Contents}
use Rattle.root_reach.specs.declared.labels.Origins.{Origins}
use Rattle.root_reach.specs.Reaching.{AreOrigins}
use Rattle.dict_model.specs.Links.{shards, dict_links}
use Rattle.dictionary.specs.Reading.{AreMaps}

-- the maps are those of its shards, and what is told of the roots that reach its blocks is so, by the kinds that it stores
pub record IsMappedHeap (heap : Contents) (maps : List (BTreeMap ℕ (List ℕ))) (origins : Origins) : Type 0 where
  pub maps_are : AreMaps (slice_index heap.words) shards maps
  pub origins_are : AreOrigins (slice_index heap.words) (kinds_of (slice_index heap.words)) dict_links origins

-- each shard of the image has a map
pub record HaveMaps (image : Image) : Type 0 where
  pub maps : List (BTreeMap ℕ (List ℕ))
  pub are : AreMaps image shards maps
