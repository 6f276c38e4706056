use Rattle.std.proofs.Common.{ap, length, length-set, false, ◌∙◌, arith, sym, subst}
use Rattle.heap_rule.proofs.SettleLemmas.{own_below}
use Rattle.core_model.specs.declared.event.Event.TheVariants.{Store}
use Rattle.heap_table.specs.SeatViews.{view_in}
use Rattle.heap_rule.specs.Seated.{SeatView}
use Rattle.heap_rule.specs.Shown.{Can}
use Rattle.heap_rule.proofs.ShownLemmas.{may_of}
use Rattle.seat_index.proofs.OwnedStores.{store_owned}
use Rattle.heap_rule.proofs.SeatLemmas.{seat_after}
use Rattle.heap_rule.proofs.StoredLemmas.{word_stored}
use Rattle.heap_rule.proofs.seat.Seat.store_word.Goals as goal

pub store-requires-clause-may : goal.store-requires-clause-may
store-requires-clause-may c = may_of (view_in c.self.inside.table_seat.me.0) (Store c.args.word c.args.value)
    (subst (λ (s : SeatView). Can s.view (Store c.args.word c.args.value)) (sym c.self.view_is) c.requires.can)

pub invariant_of-self : goal.invariant_of-self
invariant_of-self c =
    let can = subst (λ (s : SeatView). Can s.view (Store c.args.word c.args.value)) (sym c.self.view_is) c.requires.can in
    record {
      seat = seat_after c.self.inside.table_seat.me c.store.new.seat.me c.self.inside.notes _ c.self.inside.geometry.capacity
          (Store c.args.word c.args.value) c.store.ensures.event.0 c.args.shared.now c.store.new.seat.table_id c.self.invariant.seat
          c.store.ensures.at c.store.ensures.event.1
          (word_stored c.self.inside.notes (view_in c.self.inside.table_seat.me.0)
          (view_in c.store.new.seat.me.0) c.args.word c.args.value c.store.ensures.event.0
          (record c.self.inside.notes.batch { linked = c.is_linked_after-self-inside.result })
          c.self.invariant.seat.kept c.store.ensures.event.1 c.store.ensures.at.has can.shown.0
          (ap (λ linked. record c.self.inside.notes.batch { linked = linked }) c.is_linked_after-self-inside.ensures));
      marks_long = ap length c.unmark.ensures ∙ length-set c.self.inside.pending c.args.word false ∙ c.self.invariant.marks_long;
      own = store_owned c.self.inside.owned (view_in c.self.inside.table_seat.me.0)
          (view_in c.store.new.seat.me.0) c.args.word c.args.value c.store.ensures.event.0 c.self.invariant.own c.store.ensures.event.1 can.shown.0;
    }

pub unmark-requires : goal.unmark-requires
unmark-requires c =
    let can = subst (λ (s : SeatView). Can s.view (Store c.args.word c.args.value)) (sym c.self.view_is) c.requires.can in
    let b = own_below (view_in c.self.inside.table_seat.me.0) c.args.word can.shown.0 in let l = c.self.invariant.marks_long in
    let e = c.self.invariant.seat.capacity_is in omega arith
