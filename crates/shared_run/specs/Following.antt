-- The maps of shards after requests to them.
use Rattle.std.specs.Prelude.{◌≡◌, ℕ, ◌<◌, List, ◌++◌, length, map, get_or}
use Rattle.std.specs.BTreeMap.{BTreeMap, get, IsOrdered}
use Rattle.std.specs.Ordering.{nat_cmp}
use Rattle.heap_model.specs.Image.{Image}
use Rattle.dict_model.specs.Links.{shards}
use Rattle.dict_model.specs.Nodes.{shard_of}
use Rattle.dict_model.specs.Requests.{Request, put, Reply, done, after}
use Rattle.dict_model.specs.Shards.{Map}
use Rattle.dictionary.specs.Reading.{AreMaps}
use Rattle.run_model.specs.Arrivals.{arrivals}
use Rattle.run_model.specs.Runs.{of_shard}

-- each of the new maps is the old one of its shard after the requests to this, with their replies, and has its keys in order as that had
pub record AreAfter (rs : List (Request × Reply)) (old new : List (BTreeMap ℕ (List ℕ))) : Type 0 where
  pub long : length new ≡ length old
  pub each : (shard key : ℕ) (any : BTreeMap ℕ (List ℕ)) → shard < length old
      → get nat_cmp (get_or new shard any) key ≡ after (get nat_cmp (get_or old shard any)) (of_shard shard rs) key
  pub ordered : (shard : ℕ) (any : BTreeMap ℕ (List ℕ)) → shard < length old → IsOrdered nat_cmp (get_or old shard any)
      → IsOrdered nat_cmp (get_or new shard any)

-- each key has in its shard's map what it has in the whole map
pub record AreMapsOf (whole : Map) (maps : List (BTreeMap ℕ (List ℕ))) : Type 0 where
  pub each : (key : ℕ) (any : BTreeMap ℕ (List ℕ)) → get nat_cmp (get_or maps (shard_of key) any) key ≡ whole key

-- each of the values is put under the key beside it, and that is done
abbrev pub puts_under : List (ℕ × List ℕ) → List (Request × Reply)
puts_under moved = map (λ m. (put m.0 m.1, done)) moved

-- the new maps are the old ones after a run: after its requests with these replies, and then after what arrives by these
abbrev pub AreAfterRun : List (Request × Reply) → List (BTreeMap ℕ (List ℕ)) → List (BTreeMap ℕ (List ℕ)) → Type 0
AreAfterRun rs old new = (whole : Map) → AreMapsOf whole old → AreAfter (rs ++ arrivals whole rs) old new

-- the maps are those of the image's shards after the run
pub record FollowMapsOf (image : Image) (rs : List (Request × Reply)) (new : List (BTreeMap ℕ (List ℕ))) : Type 0 where
  pub old : List (BTreeMap ℕ (List ℕ))
  pub were : AreMaps image shards old
  pub after : AreAfterRun rs old new
