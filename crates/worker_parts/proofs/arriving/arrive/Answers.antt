use Rattle.std.proofs.Common.{sym, subst, ◌∙◌}
use Rattle.seat_model.specs.CacheState.{heap_view}
use Rattle.worker_run.specs.Said.{requests_of, replies_of}
use Rattle.shard_moves.specs.Tables.{is_flagged}
use Rattle.run_model.specs.Workers.{worker_requests}
use Rattle.worker_parts.specs.Asking.{HasExecuted}
use Rattle.worker_parts.specs.Jobs.{image_of}
use Rattle.worker_parts.proofs.ArrivalLemmas.{arrival_cause, arrival_exact, BringsIn, brings_in}
use Rattle.worker_parts.proofs.TableLemmas.{have_tables}
use Rattle.worker_parts.proofs.WholeLemmas.{arrived_part}
use Rattle.worker_parts.proofs.arriving.arrive.Goals as goal

pub bring_in-requires-clause-tables : goal.bring_in-requires-clause-tables
bring_in-requires-clause-tables g c =
    let is = c.requires.asked in
    let w = c.args.asked.worker in
    let qs = requests_of c.args._requests.now in
    let tables = is_flagged c.args._tables.now in
    let replies = replies_of c.args.asked.replies.items in
    let s = c.args.asked.seat.state in
    have_tables c.args._shared.now qs w.workers w.number tables replies is.first is.begun s is.is_first is.made
    (subst (λ b. HasExecuted (image_of c.args._shared.now) (worker_requests w.workers w.number qs) tables replies b is.begun s)
    c.requires.going is.part)
    (g.I.Inbox.left c.args.inbox.now) c.requires.tables

pub returns-clause-worked : goal.returns-clause-worked
returns-clause-worked g c =
    let is = c.requires.asked in
    let w = c.args.asked.worker in
    let qs = requests_of c.args._requests.now in
    let tables = is_flagged c.args._tables.now in
    let replies = replies_of c.args.asked.replies.items in
    let back = c.into_seat.ensures in
    let e = c.bring_in.ensures in
    let said = c.is_err-stopped.ensures.value in
    let came = g.I.Inbox.left c.args.inbox.now in
    let left = g.I.Inbox.left c.bring_in.new.inbox in
    let s = c.args.asked.seat.state in
    let t = c.bring_in.new.seat.state in
    let part = subst (λ b. HasExecuted (image_of c.args._shared.now) (worker_requests w.workers w.number qs) tables replies b is.begun s)
    c.requires.going is.part in
    let brings = subst (λ b. BringsIn came left b s t) (sym said)
    (brings_in g.I.Inbox.goes c.requires.goes c.bring_in.result came left c.args.asked.seat c.bring_in.new.seat e.answered e.steps e.stopped
    e.empty) in (
      brings.brought,
      brings.later,
      brings.came_are,
      brings.left_are,
      record {
        part = arrived_part c.args._shared.now qs w.workers w.number tables replies is.first is.begun s t c.empty_caches-stopped.new.seat.state
            is.is_first is.made part
            came left c.is_err-stopped.result c.empty_caches-stopped.result brings
            (λ stopped. arrival_cause c.bring_in.result (heap_view s) (heap_view t) e.cause (sym said ∙ stopped))
            c.empty_caches-stopped.ensures.settled (c.requires.goes c.args.asked.seat c.bring_in.new.seat e.goes_on)
            (have_tables c.args._shared.now qs w.workers w.number tables replies is.first is.begun s is.is_first is.made part came
            c.requires.tables) e.calls e.taken
            (λ ran. arrival_exact c.bring_in.result (heap_view s) (heap_view t) e.exact (sym said ∙ ran)) c.into_seat.result back.table back.view;
      },
    )

pub returns-clause-ends : goal.returns-clause-ends
returns-clause-ends g c = (
  c.bring_in.new.seat,
  c.empty_caches-stopped.new.seat,
  c.bring_in.ensures.goes_on,
  c.bring_in.ensures.ready_on,
  c.empty_caches-stopped.ensures.kept,
  sym c.into_seat.ensures.view,
)
