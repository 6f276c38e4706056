use Rattle.std.proofs.Common.{ℕ, subst, ap, ◌∙◌}
use Rattle.core_model.specs.Effects.{span_count}
use Rattle.seat_costs.specs.Rows.{Row}
use Rattle.seat_costs.proofs.AskedLemmas.{asked_then}
use Rattle.thread_cache.specs.Large.{list_costs}
use Rattle.thread_cache.proofs.SpanLemmas.{freed_row}
use Rattle.thread_cache.proofs.large.free_large.Goals as goal

pub returns-clause-row : goal.returns-clause-row
returns-clause-row g c = let s = c.superblocks_of-span.ensures in
    freed_row c.args.seat.now c.split.new.seat c.list_all.new.seat _ c.split.ensures.row
    (subst (λ (n : ℕ). Row (list_costs n) c.split.new.seat c.list_all.new.seat) (s.count
    ∙ ap (λ (d : ℕ). span_count d c.args.seat.now.view.large) s.first) c.list_all.ensures.row)

pub returns-clause-asked : goal.returns-clause-asked
returns-clause-asked g c = asked_then c.split.ensures.asked c.list_all.ensures.asked
