use Rattle.std.proofs.Common.{◌≡◌, ◌≢◌, ℕ, ◌+◌, ◌<◌, ◌≤◌, ◌-◌, ◌/◌, false, Some, refl, ap, sym, subst, ◌∙◌, arith, None, Err}
use Rattle.std.proofs.lemmas.Result.{err_from_is_err_and}
use Rattle.std.specs.Prelude.{unwrap_or}
use Rattle.heap_model.specs.Geometry.{start_word}
use Rattle.heap_model.specs.Words.{anchor_state, anchor_count}
use Rattle.heap_model.specs.Sizes.{IsClass, words_of_class, blocks_of}
use Rattle.core_model.specs.declared.event.Event.TheVariants.{Give}
use Rattle.core_model.specs.Effects.{seen_word, given_anchor}
use Rattle.core_model.specs.Sound.{IsCutBlock}
use Rattle.seat_state.specs.Notes.{snapshot}
use Rattle.seat_state.proofs.NewSeat.{empty_batch}
use Rattle.heap_table.specs.SeatViews.{view_in}
use Rattle.heap_table.specs.Plays.{IsEvent}
use Rattle.heap_rule.specs.Seated.{SeatView, IsKeptOf, Tells}
use Rattle.heap_rule.specs.Shown.{Can}
use Rattle.heap_rule.proofs.ShownLemmas.{may_of}
use Rattle.heap_model.specs.Counting.{times}
use Rattle.seat_index.specs.Owned.{IsMarking, listed}
use Rattle.seat_index.proofs.ViewBlocks.{block_range}
use Rattle.seat_index.proofs.OwnedGifts.{give_kept, give_full}
use Rattle.seat_index.proofs.OwnedLost.{give_lost as give_lost_own}
use Rattle.heap_rule.proofs.SeatLemmas.{seat_after}
use Rattle.heap_rule.proofs.BatchLemmas.{batch_class, batch_first, batch_below, give_exchange, batch_given, give_lost}
use Rattle.heap_rule.proofs.seat.Seat.try_give.Goals as goal

pub anchor-place-requires : goal.anchor-place-requires
anchor-place-requires c =
    let can = subst (λ (s : SeatView). Can s.view (Give c.args.d)) (sym c.self.view_is) c.requires.can in
    subst (λ n. c.args.d < n) (sym c.self.invariant.seat.capacity_is)
    (batch_below (view_in c.self.inside.table_seat.me.0) c.self.invariant.seat.kept.has c.args.d can.shown.batch can.shown.some)

pub anchor_with_batch-given-requires-clause-d : goal.anchor_with_batch-given-requires-clause-d
anchor_with_batch-given-requires-clause-d c =
    let can = subst (λ (s : SeatView). Can s.view (Give c.args.d)) (sym c.self.view_is) c.requires.can in
    subst (λ n. c.args.d < n) (sym c.self.invariant.seat.capacity_is)
    (batch_below (view_in c.self.inside.table_seat.me.0) c.self.invariant.seat.kept.has c.args.d can.shown.batch can.shown.some)

pub overflow_cast-batch : goal.overflow_cast-batch
overflow_cast-batch c =
    let can = subst (λ (s : SeatView). Can s.view (Give c.args.d)) (sym c.self.view_is) c.requires.can in
    let l = (subst IsClass c.self.invariant.seat.kept.batch.class (batch_class
    (view_in c.self.inside.table_seat.me.0) c.self.invariant.seat.kept.has c.args.d can.shown.batch can.shown.some)).last in omega arith

pub new-class-requires : goal.new-class-requires
new-class-requires c =
    let can = subst (λ (s : SeatView). Can s.view (Give c.args.d)) (sym c.self.view_is) c.requires.can in
    subst IsClass c.self.invariant.seat.kept.batch.class (batch_class
    (view_in c.self.inside.table_seat.me.0) c.self.invariant.seat.kept.has c.args.d can.shown.batch can.shown.some)

pub anchor_with_batch-given-requires-clause-first : goal.anchor_with_batch-given-requires-clause-first
anchor_with_batch-given-requires-clause-first c =
    let can = subst (λ (s : SeatView). Can s.view (Give c.args.d)) (sym c.self.view_is) c.requires.can in
    subst (λ n. IsCutBlock c.self.inside.geometry.capacity n c.args.d c.self.inside.notes.batch.first) (sym c.new-class.ensures)
    (subst (λ n. IsCutBlock n c.self.inside.notes.batch.class c.args.d c.self.inside.notes.batch.first) (sym c.self.invariant.seat.capacity_is)
    (subst (λ n. IsCutBlock (view_in c.self.inside.table_seat.me.0).setup.capacity n c.args.d c.self.inside.notes.batch.first)
    c.self.invariant.seat.kept.batch.class
    (subst (λ n. IsCutBlock (view_in c.self.inside.table_seat.me.0).setup.capacity
    (view_in c.self.inside.table_seat.me.0).batch.class c.args.d n) c.self.invariant.seat.kept.batch.first
    (batch_first (view_in c.self.inside.table_seat.me.0) c.self.invariant.seat.kept.has c.args.d can.shown.batch can.shown.some))))

pub exchange_seen-requires-clause-may : goal.exchange_seen-requires-clause-may
exchange_seen-requires-clause-may c = may_of (view_in c.self.inside.table_seat.me.0) (Give c.args.d)
    (subst (λ (s : SeatView). Can s.view (Give c.args.d)) (sym c.self.view_is) c.requires.can)

pub exchange_seen-requires-clause-exchange : goal.exchange_seen-requires-clause-exchange
exchange_seen-requires-clause-exchange c =
    let can = subst (λ (s : SeatView). Can s.view (Give c.args.d)) (sym c.self.view_is) c.requires.can in
    let is = ap seen_word (c.self.invariant.seat.kept.notes_are.seen_anchor ∙ ap snapshot c.in-Some.is) in
    let word = c.in-Some.anchor.word in let batch = c.self.inside.notes.batch in
    let given = subst (λ (n : ℕ). anchor_state word ≢ 3 → batch.count + anchor_count word ≤ blocks_of n
    → c.anchor_with_batch-given.result ≡ Some (given_anchor word ((batch.first - start_word c.self.inside.geometry.capacity c.args.d)
    / words_of_class n) batch.count (blocks_of n))) c.new-class.ensures c.anchor_with_batch-given.ensures.given in
    give_exchange c.self.inside.notes (view_in c.self.inside.table_seat.me.0)
    c.args.d c.in-Some.anchor.word c.unwrap_or-new.result c.self.invariant.seat.kept can.shown can.ticket is
    (λ state room. c.unwrap_or-new.ensures ∙ ap (λ o. unwrap_or o c.in-Some.anchor.word) (given state room)
    ∙ ap (λ n. given_anchor c.in-Some.anchor.word ((c.self.inside.notes.batch.first - start_word n c.args.d)
    / words_of_class c.self.inside.notes.batch.class) c.self.inside.notes.batch.count (blocks_of c.self.inside.notes.batch.class))
    c.self.invariant.seat.capacity_is)

pub invariant_of-self : goal.invariant_of-self
invariant_of-self c = let e = c.in_err-exchange_seen.ensures.event in
    let is = ap seen_word (c.self.invariant.seat.kept.notes_are.seen_anchor ∙ ap snapshot c.in-Some.is) in
    record {
      seat = seat_after c.self.inside.table_seat.me c.exchange_seen.new.table_seat.me c.self.inside.notes _ c.self.inside.geometry.capacity
          (Give c.args.d) e.0 c.args.shared.now c.exchange_seen.new.table_seat.table_id c.self.invariant.seat c.exchange_seen.ensures.at e.1
          (subst (λ n. IsKeptOf n (view_in c.exchange_seen.new.table_seat.me.0)) (sym c.in_err-exchange_seen.ensures.notes)
          (give_lost c.self.inside.notes (view_in c.self.inside.table_seat.me.0)
          (view_in c.exchange_seen.new.table_seat.me.0) c.args.d e.0 c.in-Some.anchor.word c.self.invariant.seat.kept e.1
          c.exchange_seen.ensures.at.has is e.2.1));
      marks_long = c.self.invariant.marks_long;
      own = give_lost_own c.self.inside.owned (view_in c.self.inside.table_seat.me.0)
          (view_in c.exchange_seen.new.table_seat.me.0) c.args.d e.0 c.in-Some.anchor.word c.self.invariant.own e.1 is e.2.1;
    }

pub mark_all-requires : goal.mark_all-requires
mark_all-requires c = λ b some. let there : 0 < times b (view_in c.self.inside.table_seat.me.0).batch.blocks =
    subst (λ l. 0 < times b l) (c.deref.ensures.value ∙ c.self.invariant.own.batch) some in
    let r = block_range (view_in c.self.inside.table_seat.me.0) c.self.invariant.seat.kept.has b (omega arith) in
    let l = c.self.invariant.own.words_long in omega arith

pub invariant_of-self-then-anchor-anchor_after_take_all : goal.invariant_of-self-then-anchor-anchor_after_take_all
invariant_of-self-then-anchor-anchor_after_take_all c = let e = c.in_ok-exchange_seen.ensures.event in
    let is = ap seen_word (c.self.invariant.seat.kept.notes_are.seen_anchor ∙ ap snapshot c.in-Some.is) in record {
      seat = seat_after c.self.inside.table_seat.me c.exchange_seen.new.table_seat.me c.self.inside.notes _ c.self.inside.geometry.capacity
          (Give c.args.d) e.0 c.args.shared.now c.exchange_seen.new.table_seat.table_id c.self.invariant.seat c.exchange_seen.ensures.at e.1
          (subst (λ n. IsKeptOf (record n { seen_anchor = None; batch = empty_batch }) (view_in c.exchange_seen.new.table_seat.me.0))
          (sym c.in_ok-exchange_seen.ensures.notes) (batch_given c.self.inside.notes (view_in c.self.inside.table_seat.me.0)
          (view_in c.exchange_seen.new.table_seat.me.0) c.args.d e.0 c.in-Some.anchor.word c.self.invariant.seat.kept e.1
          c.exchange_seen.ensures.at.has is e.2));
      marks_long = c.self.invariant.marks_long;
      own = give_kept (view_in c.self.inside.table_seat.me.0) (view_in c.exchange_seen.new.table_seat.me.0) c.args.d e.0 e.1 (e.2
          ∙ sym is) c.self.inside.owned c.mark_all.new.blocks c.clear.new.self c.self.invariant.own
          (subst (λ l. IsMarking c.self.inside.owned.blocks c.mark_all.new.blocks l false) (c.deref.ensures.value
          ∙ c.self.invariant.own.batch) c.mark_all.ensures) c.clear.ensures.items c.clear.ensures.capacity
          (λ full. c.if-anchor-anchor_after_take_all.true (sym e.2 ∙ full ∙ sym c.anchor_after_take_all.ensures));
    }

pub index_mut-requires : goal.index_mut-requires
index_mut-requires c =
    let can = subst (λ (s : SeatView). Can s.view (Give c.args.d)) (sym c.self.view_is) c.requires.can in
    let below = batch_below (view_in c.self.inside.table_seat.me.0) c.self.invariant.seat.kept.has c.args.d can.shown.batch can.shown.some in
    let l = c.self.invariant.own.ownerships_long in omega arith

pub invariant_of-self-2 : goal.invariant_of-self-2
invariant_of-self-2 c = let e = c.in_ok-exchange_seen.ensures.event in
    let is = ap seen_word (c.self.invariant.seat.kept.notes_are.seen_anchor ∙ ap snapshot c.in-Some.is) in record {
      seat = seat_after c.self.inside.table_seat.me c.exchange_seen.new.table_seat.me c.self.inside.notes _ c.self.inside.geometry.capacity
          (Give c.args.d) e.0 c.args.shared.now c.exchange_seen.new.table_seat.table_id c.self.invariant.seat c.exchange_seen.ensures.at e.1
          (subst (λ n. IsKeptOf (record n { seen_anchor = None; batch = empty_batch }) (view_in c.exchange_seen.new.table_seat.me.0))
          (sym c.in_ok-exchange_seen.ensures.notes) (batch_given c.self.inside.notes (view_in c.self.inside.table_seat.me.0)
          (view_in c.exchange_seen.new.table_seat.me.0) c.args.d e.0 c.in-Some.anchor.word c.self.invariant.seat.kept e.1
          c.exchange_seen.ensures.at.has is e.2));
      marks_long = c.self.invariant.marks_long;
      own = give_full (view_in c.self.inside.table_seat.me.0) (view_in c.exchange_seen.new.table_seat.me.0) c.args.d e.0 e.1 (e.2
          ∙ sym is) c.self.inside.owned c.mark_all.new.blocks c.clear.new.self _ c.listed.result c.self.invariant.own
          (subst (λ l. IsMarking c.self.inside.owned.blocks c.mark_all.new.blocks l false) (c.deref.ensures.value
          ∙ c.self.invariant.own.batch) c.mark_all.ensures) c.clear.ensures.items c.clear.ensures.capacity
          (e.2 ∙ c.if-anchor-anchor_after_take_all.false ∙ c.anchor_after_take_all.ensures) (c.listed.ensures
          ∙ ap listed (c.new-class.ensures ∙ sym c.self.invariant.seat.kept.batch.class)) refl;
    }

pub returns-in_err-exchange_seen-clause-event : goal.returns-in_err-exchange_seen-clause-event
returns-in_err-exchange_seen-clause-event c =
    let told = err_from_is_err_and c.from_residual.result c.from_residual.ensures.1 in
    let e = c.in_err-exchange_seen.ensures.event in let is = ap seen_word (c.self.invariant.seat.kept.notes_are.seen_anchor
    ∙ ap snapshot c.in-Some.is) in
    rw (told.1, told.2) (subst (λ (s : SeatView). (x : ℕ) × IsEvent (Give c.args.d) s.view x (view_in c.exchange_seen.new.table_seat.me.0)
    × Tells (seen_word s.view.seen_anchor) x (Err c.in_err-exchange_seen.field-0.0)) c.self.view_is
    (e.0, e.1, (e.2.0, λ same. e.2.1 (same ∙ is))))
