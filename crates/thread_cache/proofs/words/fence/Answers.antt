use Rattle.std.proofs.Common.{ap}
use Rattle.core_model.specs.View.{View}
use Rattle.seat_costs.proofs.AskedLemmas.{asked_alike}
use Rattle.seat_costs.proofs.RowLemmas.{row_then}
use Rattle.seat_costs.proofs.StoreLemmas.{fence_row}
use Rattle.thread_cache.proofs.OwnLemmas.{runs_drew, has_fenced}
use Rattle.thread_cache.proofs.words.fence.Goals as goal

pub returns-clause-fenced : goal.returns-clause-fenced
returns-clause-fenced g c =
    has_fenced c.args.seat.now c.draw.new.seat c.fence.new.self c.in_ok-draw.ensures.drawn c.draw.ensures.stores.marks c.fence.ensures.fence

pub returns-clause-row : goal.returns-clause-row
returns-clause-row g c = row_then c.args.seat.now c.draw.new.seat c.fence.new.self c.draw.ensures.row
    (fence_row c.draw.new.seat c.fence.new.self c.fence.ensures.fence)

pub returns-clause-drew : goal.returns-clause-drew
returns-clause-drew g c = runs_drew c.args.seat.now.view c.fence.new.self.view (returns-clause-fenced g c).runs

pub returns-clause-asked : goal.returns-clause-asked
returns-clause-asked g c = asked_alike c.draw.ensures.numbers (ap (λ (x : View). x.draws) c.fence.ensures.fence.rest)
