use Rattle.std.proofs.Common.{ap}
use Rattle.core_model.specs.View.{View}
use Rattle.seat_costs.proofs.AskedLemmas.{asked_alike, settled_then}
use Rattle.thread_cache.proofs.OwnLemmas.{line_row, marked_line, runs_drew}
use Rattle.thread_cache.proofs.words.write_back.Goals as goal

pub returns-clause-drew : goal.returns-clause-drew
returns-clause-drew g c = runs_drew c.args.seat.now.view c.write_back.new.self.view
    (marked_line c.args.seat.now c.draw.new.seat c.write_back.new.self c.in_ok-draw.ensures.drawn c.args.word c.write_back.ensures.marked).runs

pub returns-clause-row : goal.returns-clause-row
returns-clause-row g c = line_row c.args.seat.now c.draw.new.seat c.write_back.new.self c.in_ok-draw.ensures.drawn _ c.args.word
    c.in_ok-draw.ensures.row c.write_back.ensures.marked

pub returns-clause-asked : goal.returns-clause-asked
returns-clause-asked g c = asked_alike c.draw.ensures.numbers (ap (λ (x : View). x.draws) c.write_back.ensures.marked.view)

pub returns-clause-early : goal.returns-clause-early
returns-clause-early g c = λ going. settled_then (c.draw.ensures.early going) (ap (λ (x : View). x.durable) c.write_back.ensures.marked.view)
