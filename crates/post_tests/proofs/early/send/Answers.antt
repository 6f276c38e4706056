use Rattle.std.proofs.Common.{◌≡◌, ap, arith, length, refl, rules}
use Rattle.std.specs.Vec.{vec_len}
use Rattle.shard_moves.specs.Tables.{is_flagged}
use Rattle.run_rows.proofs.SendLemmas.{begun_in_step, goes_offering, none_sent}
use Rattle.post_tests.proofs.FirstLemmas.{all_short, no_target, one_room}
use Rattle.post_tests.proofs.early.send.Goals as goal

pub ask-asked-requires : goal.ask-asked-requires
ask-asked-requires g c =
    let is = c.requires.begun in
    let begun = c.args.begun in
    let w = begun.worker in
    let was = is.begun_of in
    let box = c.new-outbox.result in
    let spare = c.new-outbox.ensures.spare in
    let kept = c.in_ok-kept.kept in
    let long : vec_len kept ≡ length kept.items = search rules in
    let none = ap length c.in_ok-kept.ensures.items in
    let exact = c.in_ok-kept.ensures.exact in
    let room = c.in_ok-kept.ensures.capacity in
    let unsent = none_sent box c.args.passes.items kept.items c.new-outbox.ensures.passes c.new-outbox.ensures.kept
    c.requires.passes.nothing c.in_ok-kept.ensures.items in
    let need = one_room w.workers w.number _ is.workers is.number is.trace in
    λ k. (
      (refl, tt),
      (
        is.begun_of,
        (
          is.going,
          (
            all_short _ is.trace,
            (
              (λ shard below target. absurd (no_target w.workers w.number _ is.workers is.number is.trace shard target)),
              (
                (λ s t on. goes_offering _ s t on),
                (
                  begun_in_step c.args.shared.now w.workers w.number _ (is_flagged begun.tables) begun.stopped was.first begun.seat.state
                      was.is_first was.part _ box c.requires.heap unsent,
                  omega (arith, spare, long, none, exact, room, need),
                ),
              ),
            ),
          ),
        ),
      ),
    )
