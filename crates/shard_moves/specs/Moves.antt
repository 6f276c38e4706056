-- What a move does in the shard that it takes from.
use Rattle.std.specs.Prelude.{◌≡◌, ℕ, List, ◌∷◌, Some}
use Rattle.std.specs.List.Sorted.{IsPermutation}
use Rattle.heap_seat.specs.View.{View}
use Rattle.dict_model.specs.Nodes.{shard_of}
use Rattle.dict_model.specs.Requests.{Reply, done, full, none}
use Rattle.dict_model.specs.Shards.{Map}
use Rattle.dict_requests.specs.Maps.{GivesMap}
use Rattle.shard_moves.specs.declared.away.MoveAnswer.{MoveAnswer}
use Rattle.shard_moves.specs.declared.away.MoveAnswer.TheVariants.{Done, Full, Missing}
use Rattle.run_model.specs.Sending.{Sent}

-- the answer as a reply
abbrev pub reply_of : MoveAnswer → Reply
reply_of Done = done
reply_of Full = full
reply_of Missing = none

-- what was sent by the move of this number: where it is done, the value that the map had of the key, to the other key; else nothing
abbrev pub SendsFor : ℕ → ℕ → ℕ → MoveAnswer → List Sent → List Sent → View → Type 0
SendsFor number key to Done old new v =
    (value : List ℕ) × ((map : Map) → GivesMap v (shard_of key) map → map key ≡ Some value)
    × IsPermutation (record { number = number; key = to; value = value } ∷ old) new
SendsFor number key to Full old new v = new ≡ old
SendsFor number key to Missing old new v = new ≡ old
