use Rattle.trace_text.proofs.SizeLemmas.{CountsUpTo}
use Rattle.trace_text.proofs.sizes.size_runs.Given as goal

-- the blocks up to here are counted
abbrev pub invariant-loop-block : goal.invariant-loop-block
invariant-loop-block l = CountsUpTo l.blocks l.block-index l.runs.items l.run
