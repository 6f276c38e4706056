use Rattle.std.specs.Vec.{with_item}
use Rattle.std.proofs.lemmas.Result.{err_from_is_err_and}
use Rattle.seat_index.specs.declared.owned.Ownership.TheVariants as ownership
use Rattle.std.proofs.Common.{refl, ap, subst, sym, ◌∙◌, arith, ℕ, None, Err}
use Rattle.heap_model.specs.Geometry.{largest_capacity_fits}
use Rattle.core_model.specs.declared.event.Event.TheVariants.{Push}
use Rattle.core_model.specs.Effects.{cleared, seen_word}
use Rattle.seat_state.specs.Notes.{snapshot}
use Rattle.seat_state.specs.declared.notes.SeatNotes.{SeatNotes}
use Rattle.heap_table.specs.SeatViews.{view_in}
use Rattle.heap_table.specs.Plays.{IsEvent}
use Rattle.heap_rule.specs.Seated.{SeatView, IsKeptOf, Tells}
use Rattle.heap_rule.specs.Shown.{Can}
use Rattle.heap_rule.proofs.ShownLemmas.{may_of}
use Rattle.seat_index.proofs.ViewBlocks.{below_capacity}
use Rattle.seat_index.proofs.OwnedClaims.{pushed_owned}
use Rattle.seat_index.proofs.OwnedLost.{push_lost as push_lost_own}
use Rattle.heap_rule.proofs.SeatLemmas.{seat_after}
use Rattle.heap_rule.proofs.HeadLemmas.{head_pushed, push_lost}
use Rattle.heap_rule.proofs.seat.Seat.try_push.Goals as goal

pub head_after_push-new-requires : goal.head_after_push-new-requires
head_after_push-new-requires c =
    let durable = (subst (λ (s : SeatView). Can s.view (Push c.args.d)) (sym c.self.view_is) c.requires.can).shown.durable in
    let less = below_capacity (view_in c.self.inside.table_seat.me.0) c.self.invariant.seat.kept.has c.args.d durable in
    let small = c.self.invariant.seat.kept.has.sound.good.small in let fits = largest_capacity_fits in omega arith

pub exchange_seen-requires-clause-may : goal.exchange_seen-requires-clause-may
exchange_seen-requires-clause-may c = may_of (view_in c.self.inside.table_seat.me.0) (Push c.args.d)
    (subst (λ (s : SeatView). Can s.view (Push c.args.d)) (sym c.self.view_is) c.requires.can)

pub invariant_of-self : goal.invariant_of-self
invariant_of-self c = let e = c.in_err-exchange_seen.ensures.event in
    let is = ap seen_word (c.self.invariant.seat.kept.notes_are.seen_head ∙ ap snapshot c.in-Some.is) in
    record {
      seat = seat_after c.self.inside.table_seat.me c.exchange_seen.new.table_seat.me c.self.inside.notes _ c.self.inside.geometry.capacity
          (Push c.args.d) e.0 c.args.shared.now c.exchange_seen.new.table_seat.table_id c.self.invariant.seat c.exchange_seen.ensures.at e.1
          (subst (λ n. IsKeptOf n (view_in c.exchange_seen.new.table_seat.me.0)) (sym c.in_err-exchange_seen.ensures.notes)
          (push_lost c.self.inside.notes (view_in c.self.inside.table_seat.me.0)
          (view_in c.exchange_seen.new.table_seat.me.0) c.args.d e.0 c.in-Some.head.word c.self.invariant.seat.kept e.1
          c.exchange_seen.ensures.at.has is e.2.1));
      marks_long = c.self.invariant.marks_long;
      own = push_lost_own c.self.inside.owned (view_in c.self.inside.table_seat.me.0)
          (view_in c.exchange_seen.new.table_seat.me.0) c.args.d e.0 c.in-Some.head.word c.self.invariant.own e.1 is e.2.1;
    }

pub invariant_of-self-2 : goal.invariant_of-self-2
invariant_of-self-2 c = let e = c.in_ok-exchange_seen.ensures.event in
    let is = ap seen_word (c.self.invariant.seat.kept.notes_are.seen_head ∙ ap snapshot c.in-Some.is) in
    record {
      seat = seat_after c.self.inside.table_seat.me c.exchange_seen.new.table_seat.me c.self.inside.notes _ c.self.inside.geometry.capacity
          (Push c.args.d) e.0 c.args.shared.now c.exchange_seen.new.table_seat.table_id c.self.invariant.seat c.exchange_seen.ensures.at e.1
          (subst (λ n. IsKeptOf (record n { seen_head = None; seen_anchor = c.cleared-self-inside.result })
          (view_in c.exchange_seen.new.table_seat.me.0)) (sym c.in_ok-exchange_seen.ensures.notes)
          (head_pushed c.self.inside.notes (view_in c.self.inside.table_seat.me.0)
          (view_in c.exchange_seen.new.table_seat.me.0) c.args.d e.0 c.in-Some.head.word c.cleared-self-inside.result
          c.self.invariant.seat.kept e.1 c.exchange_seen.ensures.at.has is e.2 (c.cleared-self-inside.ensures
          ∙ ap (λ (n : SeatNotes). cleared c.args.d 1 (snapshot n.seen_anchor)) c.in_ok-exchange_seen.ensures.notes)));
      marks_long = c.self.invariant.marks_long;
      own = pushed_owned c.self.inside.owned (with_item c.self.inside.owned.ownerships c.args.d ownership.Nothing)
          (view_in c.self.inside.table_seat.me.0) (view_in c.exchange_seen.new.table_seat.me.0)
          c.args.d e.0 c.in-Some.head.word c.self.invariant.own e.1 is e.2 refl;
    }

pub returns-in_err-exchange_seen-clause-event : goal.returns-in_err-exchange_seen-clause-event
returns-in_err-exchange_seen-clause-event c =
    let told = err_from_is_err_and c.from_residual.result c.from_residual.ensures.1 in
    let e = c.in_err-exchange_seen.ensures.event in let is = ap seen_word (c.self.invariant.seat.kept.notes_are.seen_head ∙ ap snapshot c.in-Some.is) in
    rw (told.1, told.2) (subst (λ (s : SeatView). (x : ℕ) × IsEvent (Push c.args.d) s.view x (view_in c.exchange_seen.new.table_seat.me.0)
    × Tells (seen_word s.view.seen_head) x (Err c.in_err-exchange_seen.field-0.0)) c.self.view_is
    (e.0, e.1, (e.2.0, λ same. e.2.1 (same ∙ is))))
