use Rattle.std.proofs.Common.{◌⊎◌, inl, inr}
use Rattle.dict_model.specs.Links.{table_kind}
use Rattle.dict_model.specs.Shards.{MapOf}
use Rattle.dict_requests.proofs.ImageLemmas.{walk_of}
use Rattle.dict_requests.proofs.SeatsLemmas.{nothing_outside, walk_alone, image_kind, walk_map}
use Rattle.dict_requests.proofs.laws.a_shard_of_a_seat_is_a_shard_of_the_heap.Goals as goal

pub returns-clause-walk : goal.returns-clause-walk
returns-clause-walk c = λ count seats image share mixed shard map small is.
    (walk_alone count seats image share mixed shard map small is, walk_map image shard map)

pub returns-clause-gives : goal.returns-clause-gives
returns-clause-gives c = λ count seats image share mixed i shard map below small is gives.
    walk_alone count seats image share mixed shard map small (image_kind count seats image share mixed i shard table_kind below small is)
    (walk_of (seats i) image shard map (mixed.names i below) (gives.each image (mixed.mixes i below)))

pub returns-clause-either : goal.returns-clause-either
returns-clause-either c = λ count seats image share mixed i shard one other below small is gives.
    let kind = image_kind count seats image share mixed i shard table_kind below small is in
    elim (gives.each image (mixed.mixes i below)) as (λ _. MapOf image shard one ⊎ MapOf image shard other) [
      | inl is ↦ inl (walk_alone count seats image share mixed shard one small kind (walk_of (seats i) image shard one (mixed.names i below) is))
      | inr is ↦ inr (walk_alone count seats image share mixed shard other small kind (walk_of (seats i) image shard other (mixed.names i below) is))
    ]

pub returns-clause-inside : goal.returns-clause-inside
returns-clause-inside c = nothing_outside
