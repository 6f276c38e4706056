use Rattle.std.proofs.Common.{◌<◌, ap, length, slice_index, arith}
use Rattle.seat_state.proofs.PickedLemmas.{entry_of}
use Rattle.seat_owners.proofs.OwnerLemmas.{owned_next}
use Rattle.seat_owners.proofs.owners.block_owners.Goals as goal

pub loop-i-preserved : goal.loop-i-preserved
loop-i-preserved c =
    let heap = c.args.heap.now in
    let image = slice_index heap.words in
    let e = ap length c.held-held.ensures.held in
    let inside : c.loop-i.i < length heap.held = let t = c.loop-i-test.true in omega arith in
    let is = entry_of _ heap.held c.loop-i.i (record { first_word = 0; words = 0 }) c.held-held.ensures.held c.loop-i-test.true in
    owned_next image c.args.workers heap.held c.loop-i.i c.block_owner.result _ c.loop-i.owners.items inside is
    (c.block_owner.ensures image c.requires.origins c.requires.maps (c.held-held.ensures.ready.blocks _ (c.loop-i.i, inside, is))) c.loop-i.invariant
