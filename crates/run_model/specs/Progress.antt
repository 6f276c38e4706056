-- How a run goes on: what a request does that is answered, what one may do wherever it ends, and how far the run has come.
use Rattle.std.specs.Prelude.{ℕ, ◌<◌, List, Contains}
use Rattle.heap_model.specs.Image.{Image}
use Rattle.heap_seat.specs.View.{View}
use Rattle.dict_model.specs.Links.{shards}
use Rattle.dict_model.specs.Requests.{Request, Reply, done, after, after_one, IsReply, AreReplies}
use Rattle.dict_model.specs.Shards.{Map, MapOf}
use Rattle.dict_requests.specs.Changes.{MayChange}
use Rattle.dict_requests.specs.Maps.{GivesMap}
use Rattle.run_model.specs.Workers.{shard_asked}
use Rattle.run_model.specs.Runs.{of_shard}
use Rattle.run_model.specs.Stands.{StandsOver}

-- the request was answered: the reply is right for the shard's map, and each mixture has the map after it
pub record Answers (request : Request) (reply : Reply) (v w : View) : Type 0 where
  pub right : (map : Map) → GivesMap v (shard_asked request) map → IsReply map request reply
  pub gives : (map : Map) → GivesMap v (shard_asked request) map → GivesMap w (shard_asked request) (after_one map request reply)

-- wherever the request ended, each mixture has the map before it or the map after it
abbrev pub MayAnswer : Request → View → View → Type 0
MayAnswer request = MayChange (shard_asked request) (λ map. after_one map request done)

-- a run over the image has come so far in the seat's shards: these requests have these replies
pub record HasAnswered (image : Image) (rs : List (Request × Reply)) (v : View) : Type 0 where
  pub stands : StandsOver image v
  pub right : (shard : ℕ) (map : Map) → shard < shards → Contains v.roots shard → MapOf image shard map → AreReplies map (of_shard shard rs)
  pub gives : (shard : ℕ) (map : Map) → shard < shards → Contains v.roots shard → MapOf image shard map
      → GivesMap v shard (after map (of_shard shard rs))
