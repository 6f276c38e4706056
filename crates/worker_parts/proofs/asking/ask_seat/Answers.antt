use Rattle.worker_parts.proofs.AskLemmas.{stops_by}
use Rattle.worker_parts.proofs.asking.ask_seat.Goals as goal

pub work_off-requires : goal.work_off-requires
work_off-requires g c κs within =
    let is = c.requires in (
      within.0,
      (
        within.1.0,
        (
          within.1.1,
          (is.some, (is.begun, (is.shards, (is.maps, (is.rooms, (is.short, (is.empty, (is.reserved, (is.ready, is.outgoing))))))))),
        ),
      ),
    )

pub returns-clause-asked : goal.returns-clause-asked
returns-clause-asked g c =
    let is = c.requires in
    let e = c.work_off.ensures in record {
      worked = e.answered;
      in_one = e.stopped;
      full = e.full;
      taken = e.taken;
      few = e.calls;
      by_tables = e.tables;
      steps = e.steps;
      roots_are = e.roots;
      goes_on = e.goes_on;
      stops = stops_by c.work_off.result (g.H.HeapSeat.view c.work_off.new.seat).stopped e.cause (λ going. e.going going is.going);
      exact = λ going. e.exact going is.exact;
    }

pub returns-clause-sent : goal.returns-clause-sent
returns-clause-sent g c = c.work_off.ensures.sent
