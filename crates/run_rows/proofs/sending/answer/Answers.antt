use Rattle.std.proofs.Common.{◌≡◌, ap, arith, length, refl, subst, ◌∙◌, rules}
use Rattle.std.specs.Vec.{vec_len}
use Rattle.seat_parcels.specs.Boxes.{ArePutRightly}
use Rattle.worker_run.specs.Said.{requests_of}
use Rattle.shard_moves.specs.Tables.{is_flagged}
use Rattle.run_rows.specs.declared.sending.Posted.{Posted}
use Rattle.run_rows.proofs.SendLemmas.{answered_of, begun_in_step, empty_of, goes_offering, none_accepted, none_sent}
use Rattle.run_rows.proofs.sending.answer.Goals as goal

pub new-outbox-requires : goal.new-outbox-requires
new-outbox-requires g c =
    let is = c.requires.sender in
    record {
      workers = let below = is.begun.is_first.below in omega (arith, below);
      queues = c.requires.queues;
      each = c.requires.each;
      passes = is.passes.passes_are;
      parts = is.passes.parts_are;
      rightly = subst (λ n. ArePutRightly n 0 c.args.sender.passes.items) c.requires.each is.passes.rightly;
      kept = empty_of _ c.args.sender.kept.items is.empty;
    }

pub ask-asked-requires : goal.ask-asked-requires
ask-asked-requires g c =
    let is = c.requires.sender in
    let begun = c.args.sender.begun in
    let w = begun.worker in
    let box = c.new-outbox.result in
    let spare = c.new-outbox.ensures.spare in
    let long : vec_len c.args.sender.kept ≡ length c.args.sender.kept.items = search rules in
    let none = ap length is.empty in
    let room = is.room in
    λ k. (
      (refl, tt),
      (
        is.begun,
        (
          is.going,
          (
            c.requires.short,
            (
              c.requires.tables.each,
              (
                (λ s t on. goes_offering g.C.Chance.draw_gives s t on),
                (
                  begun_in_step c.args.shared.now w.workers w.number _ (is_flagged begun.tables)
                      begun.stopped is.begun.first begun.seat.state is.begun.is_first is.begun.part _ box c.requires.heap
                      (none_sent box c.args.sender.passes.items c.args.sender.kept.items c.new-outbox.ensures.passes c.new-outbox.ensures.kept
                      is.nothing is.empty),
                  omega (arith, spare, long, none, room),
                ),
              ),
            ),
          ),
        ),
      ),
    )

pub returns-clause-answered : goal.returns-clause-answered
returns-clause-answered g c =
    let is = c.requires.sender in
    let begun = c.args.sender.begun in
    let w = begun.worker in
    let box = c.new-outbox.result in
    let shared = c.args.shared.now in
    let parts = c.into_parts-passes.ensures in
    let asked = c.ask-asked.ensures in
    let one : Posted g.row.C.Denot = record {
      asked = c.ask-asked.result;
      passes = c.into_parts-passes.result.0;
      kept = c.into_parts-passes.result.1;
    } in
    answered_of shared (requests_of c.args.requests.now) (is_flagged c.args.tables.now)
    c.args.queues.now _ w box c.ask-asked.new.outbox one asked.worker parts.passes parts.kept
    _ c.requires.heap c.requires.queues asked.asked parts.queues parts.parts parts.rightly parts.each asked.sent
    (none_sent box c.args.sender.passes.items c.args.sender.kept.items c.new-outbox.ensures.passes c.new-outbox.ensures.kept is.nothing
    is.empty) asked.ready_on
    (asked.goes_on.accepts
    ∙ none_accepted shared w.workers w.number _ (is_flagged begun.tables) begun.stopped is.begun.first begun.seat.state is.begun.is_first is.begun.part)
