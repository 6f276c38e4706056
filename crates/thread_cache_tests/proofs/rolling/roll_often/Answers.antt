use Rattle.thread_cache.specs.Laws.{seat_row_law}
use Rattle.thread_cache_tests.proofs.rolling.roll_often.Goals as goal

pub returns-in_err-roll-clause-kept : goal.returns-in_err-roll-clause-kept
returns-in_err-roll-clause-kept c = seat_row_law _ c.args.seat.now c.loop-turn.seat c.roll.new.seat c.loop-turn.invariant.kept c.roll.ensures.kept

pub loop-turn-preserved : goal.loop-turn-preserved
loop-turn-preserved c = record {
  holds = c.in_ok-roll.ensures.holds;
  kept = seat_row_law _ c.args.seat.now c.loop-turn.seat c.roll.new.seat c.loop-turn.invariant.kept c.roll.ensures.kept;
}
