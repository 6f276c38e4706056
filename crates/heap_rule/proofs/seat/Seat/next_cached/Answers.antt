use Rattle.std.proofs.Common.{◌≡◌, ◌≤◌, length, sym, subst, arith}
use Rattle.core_model.specs.View.{of_class}
use Rattle.core_model.specs.Effects.{first_of, rest_of}
use Rattle.core_model.specs.Guards.{MayAlloc}
use Rattle.seat_state.proofs.EndLemmas.{rest_length}
use Rattle.heap_table.specs.SeatViews.{view_in}
use Rattle.heap_rule.specs.Seated.{SeatView}
use Rattle.heap_rule.proofs.SeatLemmas.{whole_at}
use Rattle.heap_rule.proofs.ShiftLemmas.{cache_count, cached_inside, less, next_read}
use Rattle.seat_index.proofs.StackLemmas.{has_stack}
use Rattle.heap_rule.proofs.seat.Seat.next_cached.Goals as goal

pub returns-then-cache-lt2-clause-next : goal.returns-then-cache-lt2-clause-next
returns-then-cache-lt2-clause-next c = subst (λ (s : SeatView). 1 ≤ length (rest_of (of_class s.view.caches c.args.class))
    → first_of (rest_of (of_class s.view.caches c.args.class)) ≡ 0) c.self.view_is
    (λ some. let n = cache_count c.self.inside.notes (view_in c.self.inside.table_seat.me.0) c.self.invariant.seat.kept c.args.class
    (less c.self.inside.notes (view_in c.self.inside.table_seat.me.0) c.self.invariant.seat.kept c.args.class
    (subst (λ (s : SeatView). MayAlloc s.view c.args.class) (sym c.self.view_is) c.requires.may)) in
    let l = rest_length (of_class (view_in c.self.inside.table_seat.me.0).caches c.args.class) in let t = c.if-cache-lt2.true in
    absurd (omega (arith, n, l, t)))

pub returns-in-Some-clause-next : goal.returns-in-Some-clause-next
returns-in-Some-clause-next c = subst (λ (s : SeatView). 1 ≤ length (rest_of (of_class s.view.caches c.args.class))
    → first_of (rest_of (of_class s.view.caches c.args.class)) ≡ c.in-Some.second) c.self.view_is
    (λ some. c.in-Some.ensures (of_class (view_in c.self.inside.table_seat.me.0).caches c.args.class)
    (c.self.invariant.own.stacks.each c.args.class c.index.result.now (sym c.index.ensures)
    (less c.self.inside.notes (view_in c.self.inside.table_seat.me.0) c.self.invariant.seat.kept c.args.class
    (subst (λ (s : SeatView). MayAlloc s.view c.args.class) (sym c.self.view_is) c.requires.may))))

pub second-requires : goal.second-requires
second-requires c = (has_stack c.self.inside.owned.stacks.items (view_in c.self.inside.table_seat.me.0).caches c.args.class
    c.self.invariant.own.stacks c.requires.may.is_class).inside c.index.result.now (sym c.index.ensures)

pub read-requires-clause-inside : goal.read-requires-clause-inside
read-requires-clause-inside c = cached_inside c.self.inside.notes
    (view_in c.self.inside.table_seat.me.0) c.self.invariant.seat.kept c.args.class
    (subst (λ (s : SeatView). MayAlloc s.view c.args.class) (sym c.self.view_is) c.requires.may)

pub returns-clause-next : goal.returns-clause-next
returns-clause-next c = subst (λ (s : SeatView). 1 ≤ length (rest_of (of_class s.view.caches c.args.class))
    → first_of (rest_of (of_class s.view.caches c.args.class)) ≡ c.read.result) c.self.view_is
    (next_read c.self.inside.notes (view_in c.self.inside.table_seat.me.0) c.self.invariant.seat.kept c.args.class
    (subst (λ (s : SeatView). MayAlloc s.view c.args.class) (sym c.self.view_is) c.requires.may)
    c.read.ensures.found.0 c.read.result c.read.ensures.found.1)

pub invariant_of-self : goal.invariant_of-self
invariant_of-self c = whole_at c.self.inside.table_seat.me c.read.new.seat.me _ _ _ _ _ c.read.ensures.same c.self.invariant
