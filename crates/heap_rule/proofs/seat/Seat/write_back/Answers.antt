use Rattle.std.proofs.Common.{◌/◌, refl, subst, arith}
use Rattle.heap_rule.specs.Fences.{IsLineMarked}
use Rattle.heap_table.specs.SeatViews.{view_in}
use Rattle.heap_rule.specs.Seated.{SeatView}
use Rattle.heap_rule.proofs.FenceLemmas.{line_kept}
use Rattle.heap_rule.proofs.seat.Seat.write_back.Goals as goal

pub returns-clause-marked : goal.returns-clause-marked
returns-clause-marked c = subst (λ (s : SeatView). IsLineMarked c.args.word s
    (record {
      table = c.self.inside.table_seat.table_id;
      view = view_in c.self.inside.table_seat.me.0;
      stores = c.self.inside.recent;
      marks = c.mark_line.new.self;
    })) c.self.view_is (record {
      view = refl;
      stores = refl;
      in_line = λ k less same. c.mark_line.ensures.in_line k (let l = c.self.invariant.marks_long in let e = c.self.invariant.seat.capacity_is in
          omega arith) same;
      others = c.mark_line.ensures.others;
      kept = line_kept c.self.inside.pending c.mark_line.new.self (c.args.word / 8) c.mark_line.ensures.in_line c.mark_line.ensures.others;
    })
