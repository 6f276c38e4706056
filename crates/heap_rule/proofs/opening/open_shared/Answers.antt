use Rattle.std.proofs.Common.{ap, sym, subst, ◌∙◌}
use Rattle.heap_model.specs.Geometry.{image_words}
use Rattle.heap_table.specs.Rule.{Opening, opening_of, opened_view_of}
use Rattle.seat_index.specs.Owned.{parts_of}
use Rattle.seat_index.specs.Rooms.{IsOpenedRoom}
use Rattle.seat_index.proofs.OwnedOpening.{opened_parts_are}
use Rattle.heap_rule.proofs.OpeningLemmas.{opened_seats}
use Rattle.heap_rule.proofs.opening.open_shared.Goals as goal

pub deal-requires-clause-rooms : goal.deal-requires-clause-rooms
deal-requires-clause-rooms c = λ i room less at. subst (IsOpenedRoom room)
    (sym (ap (λ (k : Opening). parts_of (opened_view_of k i)) c.in_ok-shared.ensures.opening
    ∙ opened_parts_are c.args.heap c.args.owners.now c.args.seats c.args.budget i)) (c.in_ok-rooms.ensures.each i room less at)

pub returns-clause-seats : goal.returns-clause-seats
returns-clause-seats c = opened_seats c.in_ok-shared.shared (opening_of c.args.heap c.args.owners.now c.args.seats c.args.budget)
    (image_words c.geometry-geometry.result.capacity) c.in_ok-list.list.items c.in_ok-shared.ensures.opening c.in_ok-list.ensures
