use Rattle.std.proofs.Common.{◌≡◌, subst, arith}
use Rattle.dict_model.specs.Links.{shards}
use Rattle.seat_owners.proofs.OwnerLemmas.{HasOwnersBelow, owners_none, owners_next, owners_all}
use Rattle.seat_owners.proofs.owners.root_owners.Goals as goal

pub loop-shard-init : goal.loop-shard-init
loop-shard-init c = owners_none c.args.workers c.in_ok-owners.owners.items (c.in_ok-owners.ensures.items_if_clones_equal (λ y same. same))

pub loop-shard-preserved : goal.loop-shard-preserved
loop-shard-preserved c = owners_next c.args.workers c.loop-shard.shard c.loop-shard.owners.items c.loop-shard-test.true c.loop-shard.invariant

pub returns : goal.returns
returns c =
    let all : c.loop-shard.shard ≡ shards = omega arith in
    owners_all c.args.workers c.loop-shard.owners.items (subst (λ n. HasOwnersBelow c.args.workers n c.loop-shard.owners.items)
    all c.loop-shard.invariant)
