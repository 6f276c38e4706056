use Rattle.std.proofs.Common.{◌≤◌, sym, subst, ap, ◌∙◌, arith}
use Rattle.core_model.specs.Effects.{span_count}
use Rattle.heap_table.specs.SeatViews.{view_in}
use Rattle.heap_rule.specs.Seated.{SeatView}
use Rattle.seat_index.proofs.OwnedReads.{span_of}
use Rattle.seat_index.proofs.ViewBlocks.{span_below}
use Rattle.heap_rule.proofs.seat.Seat.span_length.Goals as goal

pub index-requires : goal.index-requires
index-requires c = let held = subst (λ (s : SeatView). 1 ≤ span_count c.args.d s.view.large) (sym c.self.view_is) c.requires.held in
    let b = span_below (view_in c.self.inside.table_seat.me.0) c.self.invariant.seat.kept.has c.args.d held in
    let l = c.self.invariant.own.ownerships_long in omega arith

pub returns : goal.returns
returns c = let held = subst (λ (s : SeatView). 1 ≤ span_count c.args.d s.view.large) (sym c.self.view_is) c.requires.held in
    span_of (view_in c.self.inside.table_seat.me.0) c.self.invariant.seat.kept.has c.self.inside.owned c.self.invariant.own c.args.d
    c.count.result c.index.result.now
    (span_below (view_in c.self.inside.table_seat.me.0) c.self.invariant.seat.kept.has c.args.d held) c.index.ensures c.count.ensures
    ∙ ap (λ (s : SeatView). span_count c.args.d s.view.large) c.self.view_is
