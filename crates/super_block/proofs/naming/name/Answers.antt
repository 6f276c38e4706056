use Rattle.std.proofs.Common.{slice_index, arith}
use Rattle.heap_model.specs.Blocks.{layout_of}
use Rattle.heap_model.proofs.BlockLemmas.{some_words}
use Rattle.super_block.proofs.NamingLemmas.{nowhere, past_taken, undivided}
use Rattle.super_block.proofs.naming.name.Goals as goal

pub returns-in_default-clause-none : goal.returns-in_default-clause-none
returns-in_default-clause-none c = nowhere (layout_of (slice_index c.args.words.now)) c.args.offset c.in_default.ensures.none

pub returns-then-place-words-clause-none : goal.returns-then-place-words-clause-none
returns-then-place-words-clause-none c =
    past_taken (layout_of (slice_index c.args.words.now)) c.args.offset c.in-Some.place c.in-Some.ensures.some c.if-place-words.true

pub returns-in_default-division_at-clause-none : goal.returns-in_default-division_at-clause-none
returns-in_default-division_at-clause-none c =
    undivided (layout_of (slice_index c.args.words.now)) c.args.offset c.in-Some.place c.in-Some.ensures.some c.in_default-division_at.ensures

pub block_in-requires-clause-words : goal.block_in-requires-clause-words
block_in-requires-clause-words c =
    let some = some_words (layout_of (slice_index c.args.words.now))
    c.in-Some.place.superblock c.in-Some-division_at.division.words c.in-Some-division_at.division.count c.in-Some-division_at.ensures in
    omega arith
