use Rattle.std.proofs.Common.{◌≡◌, ◌<◌, ◌∙◌, [], ℕ, suc, ◌+◌, ◌-◌, ◌∷◌, ◌++◌, ap, sym, subst, Bool, false, replicate, length, arith}
use Rattle.atomic_table.specs.Table.{Me}
use Rattle.core_model.specs.Opening.{tabulate}
use Rattle.heap_model.specs.Geometry.{image_words}
use Rattle.std.proofs.lemmas.List.{length-replicate}
use Rattle.seat_index.specs.declared.owned_opening.Room.{Room}
use Rattle.seat_index.specs.Rooms.{IsOpenedRoom}
use Rattle.seat_index.specs.Owned.{HasOwned, parts_of}
use Rattle.seat_index.proofs.EntryLemmas.{each_rest}
use Rattle.heap_table.specs.SeatViews.{SeatViews, first_view, other_views, view_in}
use Rattle.heap_table.specs.Rule.{opened_view_of}
use Rattle.heap_rule.specs.Seated.{SeatView}
use Rattle.heap_rule.proofs.OpeningLemmas.{first_dealt, others_stay, one_more, is_seat}
use Rattle.heap_rule.proofs.opening.deal.Goals as goal

pub invariant_of-push_reserved : goal.invariant_of-push_reserved
invariant_of-push_reserved c =
    let o = c.args.shared.now.opening in
    let less : c.loop-i._i < o.seats = (let l = c.loop-i-test.true in let s = c.requires.seats in omega arith) in
    let more : c.len-seats.result - c.loop-i._i ≡ suc (c.len-seats.result - (c.loop-i._i + 1)) = (let l = c.loop-i-test.true in omega arith) in
    let me : c.split_first-table_seat.result.me ≡ (opened_view_of o c.loop-i._i ∷ [], []) = c.split_first-table_seat.ensures.first
    ∙ ap (λ (m : Me ℕ SeatViews). (first_view m.0, [])) c.loop-i.invariant.rest
    ∙ ap (λ (vs : SeatViews). (vs, [])) (first_dealt (opened_view_of o) c.loop-i._i _ _ more) in
    let opened = (each_rest (λ n (x : Room). IsOpenedRoom x (parts_of (opened_view_of o n)))
    c.loop-i.rooms.items c.pop_front.new.self.items c.in-Some.room c.loop-i._i c.in-Some.ensures.items c.loop-i.invariant.rooms).0 in record {
      seat = is_seat o c.loop-i._i c.args.geometry.capacity c.args.budget c.split_first-table_seat.result.me c.requires.opened less me
          c.requires.geometry c.requires.budget;
      marks_long = ap length opened.marks ∙ length-replicate {A = Bool} (image_words (opened_view_of o c.loop-i._i).setup.capacity) false
          ∙ ap image_words (sym c.requires.geometry);
      own = subst (λ (m : Me ℕ SeatViews). HasOwned c.in-Some.room.owned (parts_of (view_in m.0))) (sym me) opened.owned;
    }

pub loop-i-preserved : goal.loop-i-preserved
loop-i-preserved c =
    let V = opened_view_of c.args.shared.now.opening in
    let i = c.loop-i._i in
    let some : c.len-seats.result - i ≡ suc (c.len-seats.result - (i + 1)) = (let l = c.loop-i-test.true in omega arith) in
    let me : c.split_first-table_seat.result.me.0 ≡ V i ∷ [] = ap (λ (m : Me ℕ SeatViews). m.0) c.split_first-table_seat.ensures.first
    ∙ ap (λ (m : Me ℕ SeatViews). first_view m.0) c.loop-i.invariant.rest ∙ first_dealt V i _ _ some in
    let opened = (each_rest (λ n (x : Room). IsOpenedRoom x (parts_of (opened_view_of c.args.shared.now.opening n)))
    c.loop-i.rooms.items c.pop_front.new.self.items c.in-Some.room c.loop-i._i c.in-Some.ensures.items c.loop-i.invariant.rooms).0 in
    let seat : SeatView = record {
      table = c.split_first-table_seat.result.table_id;
      view = view_in c.split_first-table_seat.result.me.0;
      stores = c.in-Some.room.recent;
      marks = c.in-Some.room.pending;
    } in
    record {
      table = c.split_first-table_seat.ensures.table ∙ c.loop-i.invariant.table;
      rest = c.split_first-table_seat.ensures.rest ∙ ap (λ (m : Me ℕ SeatViews). (other_views m.0, m.1)) c.loop-i.invariant.rest
          ∙ ap (λ (vs : SeatViews). (vs, [])) (others_stay V i _ _ some);
      dealt = c.push_reserved.ensures.items ∙ ap (λ l. l ++ seat ∷ []) c.loop-i.invariant.dealt
          ∙ one_more c.args.shared.now.table V (image_words c.args.geometry.capacity) i seat (c.split_first-table_seat.ensures.first_table
          ∙ c.loop-i.invariant.table) (ap view_in me) opened.stores
          (opened.marks ∙ ap (λ n. replicate (image_words n) false) (sym c.requires.geometry));
      count = c.push_reserved.ensures.len ∙ ap (λ n. n + 1) c.loop-i.invariant.count;
      room = c.push_reserved.ensures.capacity ∙ c.loop-i.invariant.room;
      left = (let l = c.loop-i.invariant.left in let p = c.in-Some.ensures.cases in omega arith);
      rooms = (each_rest (λ n (x : Room). IsOpenedRoom x (parts_of (opened_view_of c.args.shared.now.opening n)))
          c.loop-i.rooms.items c.pop_front.new.self.items c.in-Some.room c.loop-i._i c.in-Some.ensures.items c.loop-i.invariant.rooms).1;
    }

pub loop-i-init : goal.loop-i-init
loop-i-init c = record {
  table = c.requires.table;
  rest = c.requires.first ∙ ap (λ n. (tabulate (opened_view_of c.args.shared.now.opening) 0 n, [])) (let s = c.requires.seats in
      let l = c.len-seats.ensures in let e : c.args.shared.now.opening.seats ≡ c.len-seats.result - 0 = omega arith in e);
  dealt = c.in_ok-list.ensures.items;
  count = c.in_ok-list.ensures.len;
  room = (let k = c.in_ok-list.ensures.exact in let l = c.in_ok-list.ensures.capacity in omega arith);
  left = (let l = c.len-seats.ensures in omega arith);
  rooms = λ k o less at. subst (λ n. IsOpenedRoom o (parts_of (opened_view_of c.args.shared.now.opening n))) (let e : k ≡ 0 + k = omega arith in
      e) (c.requires.rooms k o less at);
}
