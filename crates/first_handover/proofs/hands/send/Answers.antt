use Rattle.std.proofs.Common.{◌≡◌, ◌∙◌}
use Rattle.core_model.specs.View.{role}
use Rattle.heap_seat.proofs.CallerLemmas.{held_in, not_new}
use Rattle.seat_model.specs.CacheState.{heap_view}
use Rattle.first_handover.proofs.Words.{at_first, brings_of, left_beside, on_err}
use Rattle.first_handover.proofs.hands.send.Goals as goal

pub persist-requires : goal.persist-requires
persist-requires c =
    let has = c.in_ok-gift.ensures.ok.blocks.has in
    (has, ((c.a_seat_of_the_core_is_a_seat_of_a_heap.ensures.seat c.alloc-2.new.self.state).placed c.in_ok-gift.gift has).some)

pub returns-in_err-persist-clause-none_offered : goal.returns-in_err-persist-clause-none_offered
returns-in_err-persist-clause-none_offered c = on_err (role c.persist.new.heap.state.view ≡ role c.args.seat.now.state.view)
    c.from_residual-in_err-persist.result
    (c.persist.ensures.kept.heap.2 ∙ c.alloc-2.ensures.kept.heap.2 ∙ c.alloc.ensures.kept.heap.2)

pub returns-in_err-carrier-clause-none_offered : goal.returns-in_err-carrier-clause-none_offered
returns-in_err-carrier-clause-none_offered c = on_err (role c.offer.new.self.state.view ≡ role c.args.seat.now.state.view)
    c.from_residual-in_err-carrier.result
    (c.in_err-carrier.ensures.none_offered ∙ c.persist.ensures.kept.heap.2 ∙ c.alloc-2.ensures.kept.heap.2 ∙ c.alloc.ensures.kept.heap.2)

pub returns-clause-kept : goal.returns-clause-kept
returns-clause-kept c =
    let kept = c.in_ok-kept.kept in
    let gift = c.in_ok-gift.gift in
    let first = c.in_ok-kept.ensures.ok.blocks in
    let second = c.in_ok-gift.ensures.ok.blocks in
    let at = heap_view c.persist.new.heap.state in
    left_beside kept gift at (heap_view c.offer.new.self.state) c.in_ok-carrier.ensures.ok
    (held_in (heap_view c.alloc-2.new.self.state) at kept c.persist.ensures.crash.held (second.keeps kept first.has))
    (not_new (heap_view c.alloc.new.self.state) kept gift first.has second.new)

pub returns-clause-brings : goal.returns-clause-brings
returns-clause-brings c =
    let gift = c.in_ok-gift.gift in
    let at = heap_view c.persist.new.heap.state in
    let has = c.in_ok-gift.ensures.ok.blocks.has in
    brings_of gift c.args.value c.in_ok-carrier.carrier c.persist.new.heap.state
    ((c.a_seat_of_the_core_is_a_seat_of_a_heap.ensures.seat c.alloc-2.new.self.state).placed gift has).some c.in_ok-carrier.ensures.sent (record {
      seen = at_first at.volatile gift c.args.value c.in_ok-persist.ensures.ok;
      left = at_first at.durable gift c.args.value c.in_ok-persist.ensures.durable;
    })
