use Rattle.std.proofs.Common.{suc, ◌-◌, ◌≤◌, max, length, slice_index}
use Rattle.heap_recover.proofs.WritingLemmas.{AreWritten}
use Rattle.heap_recover.proofs.chains.link_chain.Given as goal

abbrev pub invariant-loop-i : goal.invariant-loop-i
invariant-loop-i l =
    (l.i ≤ max 1 (length l.chain)) × AreWritten (slice_index l.chain) (λ j. slice_index l.chain (suc j)) l.initial.words l.words (l.i - 1)
