use Rattle.std.proofs.Common.{ap}
use Rattle.heap_rule.specs.Seated.{SeatView}
use Rattle.seat_costs.proofs.AskedLemmas.{asked_once}
use Rattle.seat_costs.proofs.DrawLemmas.{by_chance, drew_later, told_losses}
use Rattle.seat_costs.proofs.draws.draw_with.Goals as goal

pub returns-clause-event : goal.returns-clause-event
returns-clause-event g c = λ going. let e = c.draw.ensures.event going in (e.2.0.view, by_chance e.0 c.args.seat.now e.2.0 e.2.1, e.2.2, e.2.3)

pub returns-clause-drew : goal.returns-clause-drew
returns-clause-drew g c = λ going. let e = returns-clause-event g c going in
    drew_later c.args.seat.now.view e.0 e.1 c.args.shift c.draw.new.self.view e.2 e.3 going

pub returns-clause-losses : goal.returns-clause-losses
returns-clause-losses g c =
    told_losses c.args.shift c.args.seat.now.view c.draw.new.self.view (returns-clause-event g c)
    (λ step stop. ap (λ (x : SeatView). x.view) (c.draw.ensures.had_stopped step stop).0)

pub returns-clause-asked : goal.returns-clause-asked
returns-clause-asked g c = c.draw.ensures.event

pub returns-clause-not_asked : goal.returns-clause-not_asked
returns-clause-not_asked g c = λ step stop. (c.draw.ensures.had_stopped step stop).1

pub returns-clause-numbers : goal.returns-clause-numbers
returns-clause-numbers g c = asked_once g.C.Chance.draw_gives c.args.shift c.args.seat.now c.draw.new.self c.args.chance.now c.draw.new.chance
    c.draw.ensures.event c.draw.ensures.had_stopped
