use Rattle.std.proofs.Common.{◌∙◌}
use Rattle.thread_cache.specs.Laws.{seat_row_law}
use Rattle.thread_cache_tests.proofs.HoldLemmas.{still_owns}
use Rattle.thread_cache_tests.proofs.scripts.publish.Goals as goal

pub put-requires : goal.put-requires
put-requires c = still_owns c.args.owned.now c.args.seat.now c.loop-index.seat c.loop-index.invariant.kept c.requires

pub returns-in_err-put-clause-kept : goal.returns-in_err-put-clause-kept
returns-in_err-put-clause-kept c = seat_row_law _ c.args.seat.now c.loop-index.seat c.put.new.seat c.loop-index.invariant.kept c.put.ensures.kept

pub loop-index-preserved : goal.loop-index-preserved
loop-index-preserved c = record {
  held = c.in_ok-put.ensures.held ∙ c.loop-index.invariant.held;
  kept = seat_row_law _ c.args.seat.now c.loop-index.seat c.put.new.seat c.loop-index.invariant.kept c.put.ensures.kept;
}
