-- A run of a trace that is as good as one thread's: the whole dictionary of an image as one map, asked by the whole trace in its order.
use Rattle.std.specs.Prelude.{◌≡◌, List, ◌++◌, map, Some, Contains}
use Rattle.heap_model.specs.Image.{Image}
use Rattle.dict_model.specs.Requests.{Request, full, after, AreReplies}
use Rattle.dict_model.specs.Shards.{Map}
use Rattle.run_model.specs.Arrivals.{IsWholeMap, arrivals}
use Rattle.run_model.specs.Workers.{Replies}
use Rattle.run_model.specs.Runs.{answered}

-- no request was told that there is no room
abbrev pub NoneIsFull : Replies → Type 0
NoneIsFull replies = Contains replies (Some full) → ⊥

-- each request of the trace is answered, none for want of room, each reply is right for the whole map of its moment,
-- and what is left is the whole map after all of them and what arrives by them
pub record IsAsOneThread (image : Image) (requests : List Request) (replies : Replies) (left : Image) : Type 0 where
  pub none_full : NoneIsFull replies
  pub whole : Map
  pub begins : IsWholeMap image whole
  pub requests_are : requests ≡ map (λ r. r.0) (answered requests replies)
  pub replies_are : replies ≡ map (λ r. Some r.1) (answered requests replies)
  pub right : AreReplies whole (answered requests replies)
  pub leaves : IsWholeMap left (after whole (answered requests replies ++ arrivals whole (answered requests replies)))
