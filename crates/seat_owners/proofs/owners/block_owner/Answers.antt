use Rattle.std.proofs.Common.{◌∙◌, sym, arith, true≢false}
use Rattle.heap_model.specs.Header.{kinds_of}
use Rattle.dict_model.specs.Links.{dict_links}
use Rattle.seat_owners.proofs.OwnerLemmas.{owned_alone, owned_beside}
use Rattle.seat_owners.proofs.owners.block_owner.Goals as goal

pub returns-then-not-is_reached_beside : goal.returns-then-not-is_reached_beside
returns-then-not-is_reached_beside c image are maps is =
    owned_alone image c.args.workers c.args.block c.loop-shard.shard c.loop-shard-test.true (omega arith)
    (λ beside. true≢false (sym ((c.is_reached_beside.ensures image (kinds_of image) dict_links are is).1 beside) ∙ c.if-not-is_reached_beside.true))

pub returns : goal.returns
returns c image are maps is =
    owned_beside image c.args.workers c.args.block maps c.requires.some (λ shard small. c.loop-shard.invariant image are is shard (omega arith))
