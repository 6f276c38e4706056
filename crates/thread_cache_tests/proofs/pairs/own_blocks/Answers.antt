use Rattle.std.proofs.Common.{refl}
use Rattle.seat_state.proofs.PickedLemmas.{entry_of}
use Rattle.thread_cache_tests.proofs.pairs.own_blocks.Goals as goal

pub add_held-requires-clause-held : goal.add_held-requires-clause-held
add_held-requires-clause-held c =
    let held = c.args.held.now in let inside = c.loop-index-test.true in
    c.requires c.loop-index.index _ inside (entry_of held held c.loop-index.index (record { first_word = 0; words = 0 }) refl inside)
    c.if-index-number.true
