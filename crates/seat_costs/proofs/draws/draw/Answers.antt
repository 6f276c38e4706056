use Rattle.heap_rule.specs.Seated.{SeatView}
use Rattle.std.proofs.Common.{None, ap}
use Rattle.seat_costs.proofs.AskedLemmas.{left_as_settled}
use Rattle.seat_costs.proofs.DrawLemmas.{told_drawn, told_looks, told_row, told_stopped}
use Rattle.seat_costs.proofs.RowLemmas.{row_of}
use Rattle.seat_costs.proofs.draws.draw.Goals as goal

pub returns-clause-drawn : goal.returns-clause-drawn
returns-clause-drawn g c =
    told_drawn c.args.seat.now.view c.draw_with.new.seat.view c.draw_with.ensures.event
    (λ step stop. ap (λ (x : SeatView). x.view) (c.draw_with.ensures.had_stopped step stop)) c.draw_with.result c.draw_with.ensures.told

pub returns-clause-stopped : goal.returns-clause-stopped
returns-clause-stopped g c =
    told_stopped None c.args.seat.now.view c.draw_with.new.seat.view c.draw_with.ensures.event
    (λ step stop. ap (λ (x : SeatView). x.view) (c.draw_with.ensures.had_stopped step stop))
    c.draw_with.result c.draw_with.ensures.told c.recall_soundness.ensures

pub returns-clause-row : goal.returns-clause-row
returns-clause-row g c = row_of c.args.seat.now c.draw_with.new.seat c.draw_with.ensures.stores
    (told_row c.args.seat.now.view c.draw_with.new.seat.view c.draw_with.ensures.event
    (λ step stop. ap (λ (x : SeatView). x.view) (c.draw_with.ensures.had_stopped step stop)))

pub returns-clause-looks : goal.returns-clause-looks
returns-clause-looks g c =
    told_looks c.args.seat.now.view c.draw_with.new.seat.view c.draw_with.ensures.event
    (λ step stop. ap (λ (x : SeatView). x.view) (c.draw_with.ensures.had_stopped step stop))

pub returns-clause-asked : goal.returns-clause-asked
returns-clause-asked g c = λ going. let e = c.draw_with.ensures.asked going in (e.0, e.1)

pub returns-clause-not_asked : goal.returns-clause-not_asked
returns-clause-not_asked g c = c.draw_with.ensures.not_asked

pub returns-clause-early : goal.returns-clause-early
returns-clause-early g c = λ going. left_as_settled g.C.Chance.draw_gives c.args.seat.now c.draw_with.new.seat c.args.chance.now
    c.draw_with.new.chance (c.draw_with.ensures.asked going)
