use Rattle.heap_model.specs.Geometry.{image_words}
use Rattle.std.proofs.Common.{replicate, false}
use Rattle.std.proofs.Common.{sym, get_or, ◌+◌, ◌∙◌, ap, arith}
use Rattle.seat_index.specs.declared.owned_opening.Room.{Room}
use Rattle.seat_index.specs.Owned.{opened_parts}
use Rattle.seat_index.specs.Rooms.{IsOpenedRoom}
use Rattle.seat_index.proofs.EntryLemmas.{each_snoc}
use Rattle.seat_index.proofs.owned_opening.opened_rooms.Goals as goal

pub loop-seat-preserved : goal.loop-seat-preserved
loop-seat-preserved c = record {
  count = c.push_back_reserved.ensures.len ∙ ap (λ n. n + 1) c.loop-seat.invariant.count;
  room = (let k = c.push_back_reserved.ensures.capacity in let r = c.loop-seat.invariant.room in omega arith);
  each = λ i o less at. each_snoc (λ n (x : Room). IsOpenedRoom x (opened_parts c.args.heap.now c.args.owners.now n))
      c.loop-seat.list.items _ c.loop-seat.seat (let n = c.loop-seat.invariant.count in omega arith)
      c.loop-seat.invariant.each (record {
        owned = c.in_ok-owned_by.ensures;
        stores = c.in_ok-new.ensures;
        marks = c.in_ok-new-2.ensures ∙ ap (λ n. replicate n false) (c.length-length.ensures ∙ ap image_words c.geometry-geometry.ensures);
      })
      i o less (sym (ap (λ l. get_or l i o) c.push_back_reserved.ensures.items) ∙ at);
}

pub returns-clause-each : goal.returns-clause-each
returns-clause-each c = λ i o less at. c.loop-seat.invariant.each i o (let t = c.loop-seat-test.false in let n = c.loop-seat.invariant.count in
    omega arith) at
