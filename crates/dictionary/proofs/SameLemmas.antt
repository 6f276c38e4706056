-- What recovery leaves of a dictionary: its shards have the maps, or the bad places, that they have in the image before.
use Rattle.std.proofs.Common.{◌≡◌, ℕ, ◌<◌, List, arith}
use Rattle.std.specs.BTreeMap.{BTreeMap}
use Rattle.heap_model.specs.declared.block.Block.{Block}
use Rattle.heap_model.specs.Geometry.{roots}
use Rattle.heap_model.specs.Header.{kinds_of}
use Rattle.heap_model.specs.Image.{Image}
use Rattle.heap_model.specs.Blocks.{layout_of, IsBlock}
use Rattle.heap_model.specs.Reach.{AnyRoot, TracesAlike, IsReachedIn, IsOutsideIn}
use Rattle.heap_model.specs.Recovery.{IsRecovered}
use Rattle.heap_recover.proofs.UnchangedLemmas.{words_unchanged}
use Rattle.dictionary.specs.Reading.{AreMaps, RecoversTo, TellsLowest}
use Rattle.dictionary.specs.declared.fault.MapFault.{MapFault}
use Rattle.dictionary.specs.declared.fault.MapFault.TheVariants.{BadShard as NoMap, Memory}
use Rattle.dictionary.proofs.KeptLemmas.{KeepsReached, kinds_same, map_before, bad_before, traced_alike as kept_alike}
use Rattle.dict_model.specs.Links.{dict_links, shards}
use Rattle.dict_model.specs.Shards.{Map, MapOf, BadShard}

-- what recovery makes of an image in which nothing is outside
pub recovers_to : (old new : Image) → IsRecovered old new (IsReachedIn old dict_links) → ((at : ℕ) → IsOutsideIn old dict_links at → ⊥)
    → ((b : Block) → IsReachedIn old dict_links b → IsBlock (layout_of new) b) → RecoversTo old new
recovers_to old new recovered inside blocks = record { recovered = recovered; inside = inside; blocks = blocks }

pub keeps_reached : (old new : Image) → RecoversTo old new → KeepsReached old new
keeps_reached old new to = record {
  same = to.recovered.same;
  state = to.recovered.state;
  words = words_unchanged old new (kinds_of old) dict_links to.recovered;
  blocks = to.blocks;
  none = to.inside;
}

-- so it is traced as the image before
pub kinds_kept : (old new : Image) → RecoversTo old new → (root : ℕ) → root < roots → kinds_of new root ≡ kinds_of old root
kinds_kept old new to = kinds_same old new (keeps_reached old new to)

pub traced_alike : (old new : Image) → RecoversTo old new → TracesAlike old new AnyRoot (kinds_of old) dict_links
traced_alike old new to = kept_alike old new (keeps_reached old new to)

-- its shards are those of the image
pub map_kept : (old new : Image) → RecoversTo old new → (shard : ℕ) (map : Map) → shard < shards → MapOf new shard map → MapOf old shard map
map_kept old new to = map_before old new (keeps_reached old new to)

pub bad_kept : (old new : Image) → RecoversTo old new → (shard at : ℕ) → shard < shards → BadShard new shard at → BadShard old shard at
bad_kept old new to = bad_before old new (keeps_reached old new to)

module _ (old new : Image) (to : RecoversTo old new) where
  -- maps that were read of what recovery leaves are those of the image
  pub maps_of_image : (maps : List (BTreeMap ℕ (List ℕ))) → AreMaps new shards maps → AreMaps old shards maps
  maps_of_image maps are = record {
    long = are.long;
    each = λ i below. let each = are.each i below in (each.0, each.1, map_kept old new to i _ below each.2, each.3);
  }

  -- and so is the lowest shard that has none
  pub lowest_of_image : (fault : MapFault) → TellsLowest new fault → TellsLowest old fault
  lowest_of_image (NoMap shard at) tells = (
    tells.0,
    bad_kept old new to shard at tells.0 tells.1,
    λ i less. let below : i < shards = omega (arith, less, tells.0) in let m = tells.2 i less in (m.0, map_kept old new to i m.0 below m.1),
  )
  lowest_of_image Memory tells = tt
