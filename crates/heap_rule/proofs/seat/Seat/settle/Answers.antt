use Rattle.seat_index.proofs.OwnedViews.{quiet}
use Rattle.seat_index.specs.Owned.{parts_of}
use Rattle.std.proofs.Common.{◌≡◌, ◌+◌, ap, sym, subst, ◌∙◌, arith}
use Rattle.heap_model.specs.Geometry.{image_words, largest_capacity_fits}
use Rattle.core_model.specs.declared.event.Event.TheVariants.{Settle}
use Rattle.core_model.specs.Effects.{place_of}
use Rattle.core_model.specs.Memory.{table_index}
use Rattle.core_model.specs.View.{View}
use Rattle.heap_table.specs.SeatViews.{view_in}
use Rattle.heap_table.specs.Plays.{May, IsEvent}
use Rattle.heap_table.specs.Reached.{learned}
use Rattle.heap_rule.specs.Seated.{SeatView}
use Rattle.heap_table.specs.AtTable.{IsStore}
use Rattle.heap_rule.specs.Shown.{Can}
use Rattle.heap_rule.proofs.ShownLemmas.{may_of}
use Rattle.heap_rule.proofs.SettleLemmas.{own_below, settle_place, settle_can, settle_store, settled_seat, settled_event}
use Rattle.heap_rule.proofs.seat.Seat.settle.Goals as goal

pub overflow_add-place : goal.overflow_add-place
overflow_add-place c =
    let can = subst (λ (s : SeatView). Can s.view (Settle c.args.word)) (sym c.self.view_is) c.requires.can in
    let below = own_below (view_in c.self.inside.table_seat.me.0) c.args.word can.shown in
    let small = c.self.invariant.seat.kept.has.sound.good.small in let fits = largest_capacity_fits in
    let same = c.self.invariant.seat.capacity_is in let long = c.length.ensures in omega arith

pub store-requires-clause-may : goal.store-requires-clause-may
store-requires-clause-may c =
    let can = subst (λ (s : SeatView). Can s.view (Settle c.args.word)) (sym c.self.view_is) c.requires.can in
    subst (λ v. May v (Settle c.args.word)) (sym c.learn-value.ensures.view)
    (may_of (learned (view_in c.self.inside.table_seat.me.0) c.args.word c.learn-value.result) (Settle c.args.word)
    (settle_can (view_in c.self.inside.table_seat.me.0) c.args.word c.learn-value.result can))

pub store-requires-clause-place : goal.store-requires-clause-place
store-requires-clause-place c =
    let can = subst (λ (s : SeatView). Can s.view (Settle c.args.word)) (sym c.self.view_is) c.requires.can in
    subst (λ (v : View). c.length.result + c.args.word ≡ table_index v.setup.capacity (place_of v (Settle c.args.word)))
    (sym c.learn-value.ensures.view)
    (ap (λ n. n + c.args.word) (c.length.ensures ∙ ap image_words c.self.invariant.seat.capacity_is)
    ∙ settle_place (view_in c.self.inside.table_seat.me.0) c.args.word c.learn-value.result can.shown)

pub store-requires-clause-store : goal.store-requires-clause-store
store-requires-clause-store c =
    let can = subst (λ (s : SeatView). Can s.view (Settle c.args.word)) (sym c.self.view_is) c.requires.can in
    subst (λ v. IsStore (Settle c.args.word) v c.learn-value.result) (sym c.learn-value.ensures.view)
    (settle_store (view_in c.self.inside.table_seat.me.0) c.args.word c.learn-value.result can.shown)

pub invariant_of-self : goal.invariant_of-self
invariant_of-self c = record {
  seat = settled_seat c.self.inside.table_seat.me c.store.new.seat.me c.self.inside.notes c.self.inside.geometry.capacity c.args.word
      c.learn-value.result c.store.ensures.event.0 c.args.shared.now c.store.new.seat.table_id c.self.invariant.seat c.store.ensures.at
      (subst (λ v. IsEvent (Settle c.args.word) v c.store.ensures.event.0 (view_in c.store.new.seat.me.0))
      c.learn-value.ensures.view c.store.ensures.event.1);
  marks_long = c.self.invariant.marks_long;
  own = quiet c.self.inside.owned (view_in c.self.inside.table_seat.me.0) (view_in c.store.new.seat.me.0)
      (ap parts_of (subst (λ v. IsEvent (Settle c.args.word) v c.store.ensures.event.0 (view_in c.store.new.seat.me.0))
      c.learn-value.ensures.view c.store.ensures.event.1).after) c.self.invariant.own;
}

pub returns-clause-event : goal.returns-clause-event
returns-clause-event c =
    let can = subst (λ (s : SeatView). Can s.view (Settle c.args.word)) (sym c.self.view_is) c.requires.can in
    let done = settled_event (view_in c.self.inside.table_seat.me.0)
    (view_in c.store.new.seat.me.0) c.args.word c.learn-value.result c.store.ensures.event.0 c.learn-value.ensures.found.0
    c.learn-value.ensures.found.1 can
    (subst (λ v. IsEvent (Settle c.args.word) v c.store.ensures.event.0 (view_in c.store.new.seat.me.0))
    c.learn-value.ensures.view c.store.ensures.event.1) in
    (done.0, subst (λ (s : SeatView). IsEvent (Settle c.args.word) s.view done.0 (view_in c.store.new.seat.me.0)) c.self.view_is done.1)
