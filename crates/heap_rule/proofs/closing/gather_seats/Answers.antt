use Rattle.std.proofs.Common.{ℕ, ◌∙◌, [], ◌∷◌, ◌+◌, ◌++◌, length, length-append, ap, sym, subst, Contains, arith}
use Rattle.std.proofs.lemmas.List.Elements.{Contains-append_left, Contains-append_right}
use Rattle.atomic_table.specs.Table.{Me}
use Rattle.heap_model.proofs.MemberLemmas.{in_head}
use Rattle.heap_table.specs.SeatViews.{SeatViews, view_in}
use Rattle.heap_rule.specs.Seated.{SeatView}
use Rattle.heap_rule.proofs.ClosingLemmas.{one_joined, one_seat}
use Rattle.heap_rule.proofs.closing.gather_seats.Goals as goal

pub join-requires-clause-other_table : goal.join-requires-clause-other_table
join-requires-clause-other_table c = let seat = c.in-Some.seat in
    ap (λ (s : SeatView). s.table) c.seat.view_is ∙ c.loop-seat.invariant.seats.each seat
    (subst (λ l. Contains l seat) (sym c.in-Some.ensures.items) (Contains-append_right c.pop.new.self.items (seat ∷ []) seat (in_head seat [])))

pub join-requires-clause-no_slots : goal.join-requires-clause-no_slots
join-requires-clause-no_slots c = c.seat.invariant.seat.no_slots

pub loop-seat-preserved : goal.loop-seat-preserved
loop-seat-preserved c = let seat = c.in-Some.seat in let joined = ap (λ (m : Me ℕ SeatViews). m.0) c.join.ensures.views in
    let counted = c.loop-seat.invariant.counted in record {
      table = c.join.ensures.table ∙ c.loop-seat.invariant.table;
      seats = record {
        each = λ s p. c.loop-seat.invariant.seats.each s
            (subst (λ l. Contains l s) (sym c.in-Some.ensures.items) (Contains-append_left c.pop.new.self.items (seat ∷ []) s p));
      };
      views = one_joined (λ (s : SeatView). s.view) c.loop-seat.seats.items c.pop.new.self.items seat c.seat.inside.table_seat.me.0
          c.loop-seat.all.me.0 c.join.new.seat.me.0 _ c.in-Some.ensures.items
          (c.seat.invariant.seat.single ∙ ap (λ (s : SeatView). s.view ∷ []) c.seat.view_is) joined c.loop-seat.invariant.views;
      counted = (
        counted.0 + 1,
        (let l = ap length c.in-Some.ensures.items in let a = length-append c.pop.new.self.items (seat ∷ []) in let n = counted.1 in omega arith),
        one_seat counted.0 c.args.last.me.0 c.loop-seat.all.me.0 c.join.new.seat.me.0
            (view_in c.seat.inside.table_seat.me.0) c.seat.invariant.seat.kept.has.is_seat (joined
            ∙ ap (λ vs. vs ++ c.loop-seat.all.me.0) c.seat.invariant.seat.single) counted.2,
      );
    }
