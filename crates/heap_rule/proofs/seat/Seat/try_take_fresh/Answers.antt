use Rattle.std.proofs.Common.{◌+◌, ap, refl, ◌∙◌, ℕ, Err, sym, subst, Some}
use Rattle.std.proofs.lemmas.Result.{err_from_is_err_and}
use Rattle.core_model.specs.declared.event.Event.TheVariants.{TakeFresh}
use Rattle.core_model.specs.Effects.{cleared, seen}
use Rattle.seat_state.specs.declared.notes.SeatNotes.{SeatNotes}
use Rattle.seat_state.specs.Notes.{snapshot}
use Rattle.heap_table.specs.SeatViews.{view_in}
use Rattle.heap_table.specs.Plays.{IsEvent}
use Rattle.seat_index.proofs.OwnedClaims.{fresh_owned}
use Rattle.seat_index.proofs.OwnedLost.{fresh_lost as fresh_lost_own}
use Rattle.heap_rule.proofs.SeatLemmas.{seat_after}
use Rattle.heap_rule.specs.Seated.{SeatView, IsKeptOf, Tells}
use Rattle.heap_rule.proofs.FreshLemmas.{fresh_taken, fresh_lost}
use Rattle.heap_rule.proofs.seat.Seat.try_take_fresh.Goals as goal

pub invariant_of-self : goal.invariant_of-self
invariant_of-self c = let e = c.in_err-exchange_seen.ensures.event in
    let is = ap seen (c.self.invariant.seat.kept.notes_are.seen_used ∙ c.in-Some.is) in
    record {
      seat = seat_after c.self.inside.table_seat.me c.exchange_seen.new.table_seat.me c.self.inside.notes _ c.self.inside.geometry.capacity
          (TakeFresh c.args.n) e.0 c.args.shared.now c.exchange_seen.new.table_seat.table_id c.self.invariant.seat c.exchange_seen.ensures.at e.1
          (subst (λ n. IsKeptOf n (view_in c.exchange_seen.new.table_seat.me.0)) (sym c.in_err-exchange_seen.ensures.notes)
          (fresh_lost c.self.inside.notes (view_in c.self.inside.table_seat.me.0)
          (view_in c.exchange_seen.new.table_seat.me.0) c.args.n e.0 c.in-Some.used c.self.invariant.seat.kept e.1
          c.exchange_seen.ensures.at.has is e.2.1));
      marks_long = c.self.invariant.marks_long;
      own = fresh_lost_own c.self.inside.owned (view_in c.self.inside.table_seat.me.0)
          (view_in c.exchange_seen.new.table_seat.me.0) c.args.n e.0 c.in-Some.used c.self.invariant.own e.1 is e.2.1;
    }

pub invariant_of-self-2 : goal.invariant_of-self-2
invariant_of-self-2 c = let e = c.in_ok-exchange_seen.ensures.event in
    let is = ap seen (c.self.invariant.seat.kept.notes_are.seen_used ∙ c.in-Some.is) in
    record {
      seat = seat_after c.self.inside.table_seat.me c.exchange_seen.new.table_seat.me c.self.inside.notes _ c.self.inside.geometry.capacity
          (TakeFresh c.args.n) e.0 c.args.shared.now c.exchange_seen.new.table_seat.table_id c.self.invariant.seat c.exchange_seen.ensures.at e.1
          (subst (λ n. IsKeptOf (record n { seen_used = Some (c.in-Some.used + c.args.n); seen_anchor = c.cleared-self-inside.result })
          (view_in c.exchange_seen.new.table_seat.me.0)) (sym c.in_ok-exchange_seen.ensures.notes)
          (fresh_taken c.self.inside.notes (view_in c.self.inside.table_seat.me.0)
          (view_in c.exchange_seen.new.table_seat.me.0) c.args.n e.0 c.in-Some.used
          (c.in-Some.used + c.args.n) c.cleared-self-inside.result c.self.invariant.seat.kept e.1 c.exchange_seen.ensures.at.has is e.2 refl
          (c.cleared-self-inside.ensures ∙ ap (λ (n : SeatNotes). cleared c.in-Some.used c.args.n (snapshot n.seen_anchor))
          c.in_ok-exchange_seen.ensures.notes)));
      marks_long = c.self.invariant.marks_long;
      own = fresh_owned c.self.inside.owned c.own_range.new.ownerships (view_in c.self.inside.table_seat.me.0)
          (view_in c.exchange_seen.new.table_seat.me.0) c.args.n e.0 c.in-Some.used c.self.invariant.own e.1 is e.2 c.own_range.ensures;
    }

pub returns-in_err-exchange_seen-clause-event : goal.returns-in_err-exchange_seen-clause-event
returns-in_err-exchange_seen-clause-event c =
    let told = err_from_is_err_and c.from_residual.result c.from_residual.ensures.1 in
    let e = c.in_err-exchange_seen.ensures.event in let is = ap seen (c.self.invariant.seat.kept.notes_are.seen_used ∙ c.in-Some.is) in
    rw (told.1, told.2) (subst (λ (s : SeatView). (x : ℕ) × IsEvent (TakeFresh c.args.n) s.view x (view_in c.exchange_seen.new.table_seat.me.0)
    × Tells (seen s.view.seen_used) x (Err c.in_err-exchange_seen.field-0.0)) c.self.view_is
    (e.0, e.1, (e.2.0, λ same. e.2.1 (same ∙ is))))
