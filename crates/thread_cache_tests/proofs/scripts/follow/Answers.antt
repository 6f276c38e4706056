use Rattle.thread_cache.specs.Laws.{seat_row_law}
use Rattle.thread_cache_tests.proofs.scripts.follow.Goals as goal

pub returns-in_err-perform : goal.returns-in_err-perform
returns-in_err-perform c = seat_row_law _ c.args.seat.now c.loop-told.seat c.perform.new.seat c.loop-told.invariant.kept c.perform.ensures.kept

pub loop-told-preserved : goal.loop-told-preserved
loop-told-preserved c = record {
  holds = c.in_ok-perform.ensures.holds;
  kept = seat_row_law _ c.args.seat.now c.loop-told.seat c.perform.new.seat c.loop-told.invariant.kept c.perform.ensures.kept;
}
