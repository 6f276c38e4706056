use Rattle.std.proofs.Common.{◌<◌, ap, arith, get_or, length, List, ◌∙◌}
use Rattle.core_model.specs.Opening.{setup_of}
use Rattle.heap_rule.specs.Seated.{SeatView}
use Rattle.first_handover.proofs.Pairs.{both_are, fresh_of}
use Rattle.first_handover.proofs.handover.open.Goals as goal

pub returns-clause-one : goal.returns-clause-one
returns-clause-one c =
    let heap = c.args.heap in
    let owners = c.in_ok-owners.owners in
    let shared = c.in_ok-shared.shared in
    let seats = c.in_ok-shared.seats.items in
    let one = c.in-Some-pop.one in
    let setup = setup_of heap.words 1000000 2 in
    let opened = c.in_ok-shared.ensures.seats in
    let two = opened.count ∙ c.in_ok-shared.ensures.count in
    let both = both_are seats c.pop.new.self.items c.pop-2.new.self.items one c.in-Some.other c.in-Some.ensures.items c.in-Some-pop.ensures.items two in
    let at = ap (λ (l : List SeatView). get_or l 0 one) both in
    let less : 0 < length seats = omega (arith, two) in
    fresh_of setup heap.held owners.held owners.roots shared seats 0 one opened less at
    (c.an_opened_seat_is_idle.ensures setup heap.held owners.held owners.roots shared seats opened 0 one less at)

pub returns-clause-other : goal.returns-clause-other
returns-clause-other c =
    let heap = c.args.heap in
    let owners = c.in_ok-owners.owners in
    let shared = c.in_ok-shared.shared in
    let seats = c.in_ok-shared.seats.items in
    let other = c.in-Some.other in
    let setup = setup_of heap.words 1000000 2 in
    let opened = c.in_ok-shared.ensures.seats in
    let two = opened.count ∙ c.in_ok-shared.ensures.count in
    let both = both_are seats c.pop.new.self.items c.pop-2.new.self.items c.in-Some-pop.one other c.in-Some.ensures.items
    c.in-Some-pop.ensures.items two in
    let at = ap (λ (l : List SeatView). get_or l 1 other) both in
    let less : 1 < length seats = omega (arith, two) in
    fresh_of setup heap.held owners.held owners.roots shared seats 1 other opened less at
    (c.an_opened_seat_is_idle.ensures setup heap.held owners.held owners.roots shared seats opened 1 other less at)
