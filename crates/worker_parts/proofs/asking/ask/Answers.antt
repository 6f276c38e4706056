use Rattle.std.proofs.Common.{sym, subst}
use Rattle.heap_model.specs.Image.{Image}
use Rattle.run_model.specs.Arrivals.{IsWholeMap}
use Rattle.run_model.specs.Workers.{worker_requests}
use Rattle.shard_moves.specs.Tables.{is_flagged}
use Rattle.worker_run.specs.Said.{requests_of, replies_of}
use Rattle.worker_parts.specs.Asking.{HasExecuted}
use Rattle.worker_parts.proofs.AskLemmas.{asked_state, begun_among, begun_answered, begun_going, begun_image, begun_maps, begun_owns}
use Rattle.worker_parts.proofs.asking.ask.Goals as goal

pub ask_seat-stopped-requires-clause-begun : goal.ask_seat-stopped-requires-clause-begun
ask_seat-stopped-requires-clause-begun g c =
    let begun = c.args.begun in
    let is = c.requires.begun in
    begun_answered c.args._shared.now begun.worker.workers begun.worker.number _
    (is_flagged begun.tables) begun.stopped c.requires.going is.first begun.seat.state is.is_first is.part

pub ask_seat-stopped-requires-clause-going : goal.ask_seat-stopped-requires-clause-going
ask_seat-stopped-requires-clause-going g c =
    let begun = c.args.begun in
    let is = c.requires.begun in
    begun_going c.args._shared.now begun.worker.workers begun.worker.number _
    (is_flagged begun.tables) begun.stopped c.requires.going is.first begun.seat.state is.is_first is.part

pub ask_seat-stopped-requires-clause-exact : goal.ask_seat-stopped-requires-clause-exact
ask_seat-stopped-requires-clause-exact g c = c.requires.begun.part.exact c.requires.going

pub ask_seat-stopped-requires-clause-shards : goal.ask_seat-stopped-requires-clause-shards
ask_seat-stopped-requires-clause-shards g c =
    let begun = c.args.begun in
    let is = c.requires.begun in
    begun_owns c.args._shared.now begun.worker.workers begun.worker.number _
    (is_flagged begun.tables) begun.stopped c.requires.going is.first begun.seat.state is.is_first is.part

pub ask_seat-stopped-requires-clause-maps : goal.ask_seat-stopped-requires-clause-maps
ask_seat-stopped-requires-clause-maps g c =
    let begun = c.args.begun in
    let is = c.requires.begun in
    begun_maps c.args._shared.now begun.worker.workers begun.worker.number _
    (is_flagged begun.tables) begun.stopped c.requires.going is.first begun.seat.state is.is_first is.part

pub returns-clause-asked : goal.returns-clause-asked
returns-clause-asked g c =
    let begun = c.args.begun in
    let is = c.requires.begun in
    let shared = c.args._shared.now in
    let w = begun.worker in
    let s = begun.seat in
    let t = c.ask_seat-stopped.new.seat in
    let mine = worker_requests w.workers w.number (requests_of c.args.requests.now) in
    let tables = is_flagged c.args.tables.now in
    let replies = replies_of c.ask_seat-stopped.new.replies.items in
    let stopped = c.ask_seat-stopped.result in
    record {
      first = is.first;
      begun = s.state;
      is_first = is.is_first;
      made = begun_among shared w.workers w.number _ (is_flagged begun.tables)
          begun.stopped c.requires.going is.first s.state is.is_first is.part tables c.requires.tables;
      part = subst (λ (i : Image). HasExecuted i mine tables replies stopped s.state t.state)
          (sym (begun_image shared w.workers w.number _ (is_flagged begun.tables) begun.stopped c.requires.going is.first s.state is.is_first is.part))
          (asked_state g.O.Outbox.goes c.requires.goes _ mine tables replies stopped s t c.ask_seat-stopped.ensures.asked);
    }

pub returns-clause-sent : goal.returns-clause-sent
returns-clause-sent g c = λ whole is_whole.
    let begun = c.args.begun in
    let is = c.requires.begun in
    let shared = c.args._shared.now in
    let w = begun.worker in
    c.ask_seat-stopped.ensures.sent whole
    (subst (λ (i : Image). IsWholeMap i whole) (begun_image shared w.workers w.number _
    (is_flagged begun.tables) begun.stopped c.requires.going is.first begun.seat.state is.is_first is.part) is_whole)
