use Rattle.std.proofs.Common.{◌≡◌, ◌↔◌, true, subst}
use Rattle.core_model.specs.Cells.{cell_at}
use Rattle.core_model.specs.Guards.{IsOwn}
use Rattle.heap_table.specs.SeatViews.{view_in}
use Rattle.heap_rule.specs.Seated.{SeatView}
use Rattle.heap_rule.proofs.SeatLemmas.{index_of}
use Rattle.heap_rule.proofs.seat.Seat.owns.Goals as goal

pub owns-requires : goal.owns-requires
owns-requires c = (view_in c.self.inside.table_seat.me.0, index_of _ _ _ _ _ _ c.self.invariant)

pub returns : goal.returns
returns c = subst (λ (s : SeatView). (c.owns.result ≡ true) ↔ IsOwn s.view (cell_at s.view.setup.capacity c.args.word)) c.self.view_is
    (c.owns.ensures (view_in c.self.inside.table_seat.me.0) (index_of _ _ _ _ _ _ c.self.invariant))
