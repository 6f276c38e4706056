use Rattle.std.proofs.Common.{◌≡◌, sym, subst, ◌∙◌, arith}
use Rattle.heap_model.specs.Sizes.{IsClass}
use Rattle.heap_table.specs.SeatViews.{view_in}
use Rattle.heap_rule.specs.Seated.{SeatView}
use Rattle.heap_rule.specs.Shown.{CanCut}
use Rattle.heap_rule.proofs.ChainLemmas.{info_read}
use Rattle.heap_rule.proofs.ShiftLemmas.{cut_below, cut_info}
use Rattle.heap_rule.proofs.seat.Seat.cutting_class.Goals as goal

pub overflow_cast-class : goal.overflow_cast-class
overflow_cast-class c = let can = subst (λ (s : SeatView). CanCut s.view c.args.d) (sym c.self.view_is) c.requires.can in
    let is : c.read-class.result ≡ can.class = info_read (view_in c.self.inside.table_seat.me.0)
    c.read-class.ensures.found.0 c.args.d c.info.result c.read-class.result
    (cut_below (view_in c.self.inside.table_seat.me.0) c.read-class.ensures.found.0 c.args.d can) c.info.ensures c.read-class.ensures.found.1
    ∙ cut_info (view_in c.self.inside.table_seat.me.0) c.read-class.ensures.found.0 c.args.d can in
    let l = can.is_class.last in omega arith

pub new-requires : goal.new-requires
new-requires c = let can = subst (λ (s : SeatView). CanCut s.view c.args.d) (sym c.self.view_is) c.requires.can in
    subst IsClass (sym (info_read (view_in c.self.inside.table_seat.me.0)
    c.read-class.ensures.found.0 c.args.d c.info.result c.read-class.result
    (cut_below (view_in c.self.inside.table_seat.me.0) c.read-class.ensures.found.0 c.args.d can) c.info.ensures c.read-class.ensures.found.1
    ∙ cut_info (view_in c.self.inside.table_seat.me.0) c.read-class.ensures.found.0 c.args.d can)) can.is_class

pub returns-clause-class : goal.returns-clause-class
returns-clause-class c = subst (λ (s : SeatView). (can : CanCut s.view c.args.d) → c.new.result.number ≡ can.class) c.self.view_is
    (λ can. c.new.ensures ∙ info_read (view_in c.self.inside.table_seat.me.0)
    c.read-class.ensures.found.0 c.args.d c.info.result c.read-class.result
    (cut_below (view_in c.self.inside.table_seat.me.0) c.read-class.ensures.found.0 c.args.d can) c.info.ensures c.read-class.ensures.found.1
    ∙ cut_info (view_in c.self.inside.table_seat.me.0) c.read-class.ensures.found.0 c.args.d can)
