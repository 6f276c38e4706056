-- From the blocks that a seat holds to those that an image names.
use Rattle.std.proofs.Common.{ℕ, Contains}
use Rattle.heap_model.specs.Image.{Image}
use Rattle.heap_model.specs.Pointers.{Leads}
use Rattle.heap_seat.specs.View.{View}
use Rattle.heap_seat.specs.Words.{NamesAll}
use Rattle.dict_model.specs.Shards.{Map, LeadsTo, WalkOf}
use Rattle.dict_model.proofs.MapLemmas.{map_wider}
use Rattle.dict_requests.specs.Maps.{IsMapIn}

-- an image that names the held blocks has the map by its own names
pub walk_of : (v : View) (image : Image) (shard : ℕ) (map : Map) → NamesAll image v.held → IsMapIn v image shard map → WalkOf image shard map
walk_of v image shard map named is =
    map_wider (LeadsTo (Contains v.held)) (Leads image) image shard map (λ word b used leads. record { pointer = leads.1; names = named b leads.0 }) is
