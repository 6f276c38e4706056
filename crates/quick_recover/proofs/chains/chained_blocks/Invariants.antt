use Rattle.std.proofs.Common.{slice_index}
use Rattle.quick_recover.specs.Anchored.{IsChainTo, block_word}
use Rattle.quick_recover.proofs.chains.chained_blocks.Given as goal

abbrev pub invariant-loop-count : goal.invariant-loop-count
invariant-loop-count l = IsChainTo (slice_index l.words) l.geometry.capacity l.class.number l.d
    (block_word l.geometry.capacity l.class.number l.d l.anchor.first) l._count l.next l.marks
