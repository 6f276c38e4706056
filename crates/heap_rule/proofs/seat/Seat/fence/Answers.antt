use Rattle.std.proofs.Common.{[], ap, sym, subst, refl, ◌∙◌, arith}
use Rattle.line_memory.specs.Marks.{mark_count}
use Rattle.line_memory.proofs.MarkLemmas.{fewer_marks}
use Rattle.heap_rule.specs.Fences.{IsSeatFence}
use Rattle.heap_table.specs.SeatViews.{view_in}
use Rattle.heap_rule.specs.Seated.{SeatView}
use Rattle.heap_rule.proofs.FenceLemmas.{IsRow, row_start, row_step, row_whole, settles_at}
use Rattle.heap_rule.proofs.seat.Seat.fence.Goals as goal

pub loop-word-init : goal.loop-word-init
loop-word-init c = record { seat = c.requires.seat; row = ([], row_start c.args.self.now) }

pub loop-word-smaller : goal.loop-word-smaller
loop-word-smaller c = let gone = c.in-Some.ensures.some in
    let left = ap mark_count (c.settle_own.ensures.stores.marks ∙ gone.1) in let before = ap (λ (s : SeatView). mark_count s.marks) c.self.view_is in
    let fewer = fewer_marks c.self.inside.pending c.in-Some.word gone.0 in omega arith

pub loop-word-preserved : goal.loop-word-preserved
loop-word-preserved c = let gone = c.in-Some.ensures.some in record {
  seat = c.settle_own.ensures.seat;
  row = row_step c.args.self.now (record {
    table = c.self.inside.table_seat.table_id;
    view = view_in c.self.inside.table_seat.me.0;
    stores = c.self.inside.recent;
    marks = c.self.inside.pending;
  }) c.settle_own.new.self c.loop-word.invariant.row.0 c.in-Some.word
      (subst (λ (s : SeatView). IsRow c.args.self.now s c.loop-word.invariant.row.0) (sym c.self.view_is) c.loop-word.invariant.row.1)
      gone.0 c.settle_own.ensures.stores.stores
      (c.settle_own.ensures.stores.marks ∙ gone.1) (settles_at c.in-Some.word _
      (record {
        table = c.self.inside.table_seat.table_id;
        view = view_in c.self.inside.table_seat.me.0;
        stores = c.self.inside.recent;
        marks = c.self.inside.pending;
      }) c.settle_own.new.self refl c.settle_own.ensures.done);
}

pub returns-clause-fence : goal.returns-clause-fence
returns-clause-fence c = let none = c.in_default.ensures.none refl in
    subst (λ m. IsSeatFence c.args.self.now (record {
      table = c.self.inside.table_seat.table_id;
      view = view_in c.self.inside.table_seat.me.0;
      stores = c.self.inside.recent;
      marks = m;
    })) (sym none.1)
    (row_whole c.args.self.now (record {
      table = c.self.inside.table_seat.table_id;
      view = view_in c.self.inside.table_seat.me.0;
      stores = c.self.inside.recent;
      marks = c.self.inside.pending;
    }) c.loop-word.invariant.row.0
    (subst (λ (s : SeatView). IsRow c.args.self.now s c.loop-word.invariant.row.0) (sym c.self.view_is) c.loop-word.invariant.row.1) none.0)
