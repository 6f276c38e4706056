use Rattle.std.proofs.Common.{◌<◌, sym, subst, ap, ◌∙◌, arith}
use Rattle.core_model.specs.View.{times_classed}
use Rattle.core_model.specs.Effects.{claim_class}
use Rattle.heap_table.specs.SeatViews.{view_in}
use Rattle.heap_rule.specs.Seated.{SeatView}
use Rattle.seat_index.proofs.OwnedReads.{classed_below, claim_of}
use Rattle.heap_rule.proofs.seat.Seat.claimed_class.Goals as goal

pub index-requires : goal.index-requires
index-requires c = let claimed = subst (λ (s : SeatView). 0 < times_classed c.args.d s.view.classed) (sym c.self.view_is) c.requires.claimed in
    let b = classed_below (view_in c.self.inside.table_seat.me.0) c.self.invariant.seat.kept.has c.self.inside.owned c.self.invariant.own
    c.args.d claimed in
    let l = c.self.invariant.own.ownerships_long in omega arith

pub overflow_cast-class : goal.overflow_cast-class
overflow_cast-class c = let claimed = subst (λ (s : SeatView). 0 < times_classed c.args.d s.view.classed) (sym c.self.view_is) c.requires.claimed in
    let l = (claim_of (view_in c.self.inside.table_seat.me.0) c.self.invariant.seat.kept.has c.self.inside.owned c.self.invariant.own c.args.d
    c.class-class.result c.index.result.now claimed c.index.ensures c.class-class.ensures).1.last in omega arith

pub new-requires : goal.new-requires
new-requires c = let claimed = subst (λ (s : SeatView). 0 < times_classed c.args.d s.view.classed) (sym c.self.view_is) c.requires.claimed in
    (claim_of (view_in c.self.inside.table_seat.me.0) c.self.invariant.seat.kept.has c.self.inside.owned c.self.invariant.own c.args.d
    c.class-class.result c.index.result.now claimed c.index.ensures c.class-class.ensures).1

pub returns : goal.returns
returns c = let claimed = subst (λ (s : SeatView). 0 < times_classed c.args.d s.view.classed) (sym c.self.view_is) c.requires.claimed in
    record {
      class = c.new.ensures ∙ (claim_of (view_in c.self.inside.table_seat.me.0)
          c.self.invariant.seat.kept.has c.self.inside.owned c.self.invariant.own c.args.d c.class-class.result c.index.result.now claimed
          c.index.ensures c.class-class.ensures).0
          ∙ ap (λ (s : SeatView). claim_class c.args.d s.view.classed) c.self.view_is;
    }
