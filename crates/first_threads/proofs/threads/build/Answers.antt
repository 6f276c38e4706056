use Rattle.heap_seat.proofs.CallerLemmas.{held_in}
use Rattle.seat_model.specs.CacheState.{heap_view}
use Rattle.thread_cache.specs.Laws.{seat_row_law}
use Rattle.first_threads.proofs.threads.build.Goals as goal

pub returns-clause-held : goal.returns-clause-held
returns-clause-held c = λ b there.
    let pushed = c.in_ok-chain.ensures.others b there in
    held_in (heap_view c.pop.new.seat.state) (heap_view c.quiet.new.self.state) b c.quiet.ensures.unchanged.held
    (c.pop.ensures.others b pushed.0 pushed.1)

pub returns-clause-quiet : goal.returns-clause-quiet
returns-clause-quiet c =
    let going = c.in_ok-quiet.ensures.runs in record {
      going = going;
      idle = (c.quiet.new.self.state.between going).0;
      empty = c.in_ok-quiet.ensures.quiet.each;
    }

pub returns-in_err-pop-clause-kept : goal.returns-in_err-pop-clause-kept
returns-in_err-pop-clause-kept c = seat_row_law _ c.args.seat.now c.push_all.new.seat c.pop.new.seat c.push_all.ensures.kept c.pop.ensures.kept

pub returns-in_err-quiet-clause-kept : goal.returns-in_err-quiet-clause-kept
returns-in_err-quiet-clause-kept c = seat_row_law _ c.args.seat.now c.pop.new.seat c.quiet.new.self
    (seat_row_law _ c.args.seat.now c.push_all.new.seat c.pop.new.seat c.push_all.ensures.kept c.pop.ensures.kept) c.quiet.ensures.kept

pub returns-clause-kept : goal.returns-clause-kept
returns-clause-kept c = seat_row_law _ c.args.seat.now c.pop.new.seat c.quiet.new.self
    (seat_row_law _ c.args.seat.now c.push_all.new.seat c.pop.new.seat c.push_all.ensures.kept c.pop.ensures.kept) c.quiet.ensures.kept
