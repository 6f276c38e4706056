use Rattle.std.proofs.Common.{inl, inr, ◌⊎◌}
use Rattle.dict_model.specs.Shards.{WalkOf}
use Rattle.dict_requests.proofs.ImageLemmas.{walk_of}
use Rattle.dict_requests.proofs.laws.images_have_the_map.Goals as goal

pub returns-clause-names : goal.returns-clause-names
returns-clause-names g c = λ image left. g.met.H.HeapSeat.named c.args._seat.now image left

pub returns-clause-gives : goal.returns-clause-gives
returns-clause-gives g c = λ shard map gives image left.
    walk_of (g.H.HeapSeat.view c.args._seat.now) image shard map (g.met.H.HeapSeat.named c.args._seat.now image left)
    (gives.each image (g.met.H.HeapSeat.mixed c.args._seat.now image left))

pub returns-clause-either : goal.returns-clause-either
returns-clause-either g c = λ shard one other gives image left.
    let view = g.H.HeapSeat.view in
    let named = g.met.H.HeapSeat.named c.args._seat.now image left in
    elim (gives.each image (g.met.H.HeapSeat.mixed c.args._seat.now image left)) as (λ _. WalkOf image shard one ⊎ WalkOf image shard other) [
      | inl is ↦ inl (walk_of (view c.args._seat.now) image shard one named is)
      | inr is ↦ inr (walk_of (view c.args._seat.now) image shard other named is)
    ]
