use Rattle.std.proofs.Common.{None, refl, ap, sym, subst, ◌<◌, ◌∙◌, ℕ, Err}
use Rattle.std.proofs.lemmas.Result.{err_from_is_err_and}
use Rattle.std.specs.Vec.{with_item}
use Rattle.core_model.specs.Effects.{cleared, seen_of, seen_word}
use Rattle.heap_model.specs.Words.{head_pops}
use Rattle.core_model.specs.declared.event.Event.TheVariants.{Pop}
use Rattle.core_model.specs.Guards.{IsThere}
use Rattle.core_model.specs.View.{one_if_some}
use Rattle.seat_state.specs.declared.notes.SeatNotes.{SeatNotes}
use Rattle.seat_state.specs.Notes.{snapshot}
use Rattle.heap_table.specs.SeatViews.{view_in}
use Rattle.heap_table.specs.Plays.{IsEvent}
use Rattle.heap_rule.specs.Seated.{SeatView, IsKeptOf, Tells}
use Rattle.seat_index.proofs.OwnedClaims.{popped_owned, popped_below}
use Rattle.seat_index.proofs.OwnedLost.{pop_lost as pop_lost_own}
use Rattle.heap_rule.proofs.SeatLemmas.{seat_after}
use Rattle.heap_rule.proofs.HeadLemmas.{pops_below, head_popped, pop_lost}
use Rattle.heap_rule.proofs.seat.Seat.try_pop.Goals as goal

pub head_after_pop-new-requires : goal.head_after_pop-new-requires
head_after_pop-new-requires c =
    let is = c.self.invariant.seat.kept.notes_are.seen_head ∙ ap snapshot c.in-Some.is in
    subst (λ n. head_pops n < 1099511627775) (ap seen_word is)
    (pops_below (view_in c.self.inside.table_seat.me.0) c.self.invariant.seat.kept.has c.self.invariant.seat.low
    (subst (λ (s : SeatView). IsThere s.view.ticket) (sym c.self.view_is) c.requires.can.ticket) (ap one_if_some is))

pub invariant_of-self : goal.invariant_of-self
invariant_of-self c = let e = c.in_err-exchange_seen.ensures.event in
    let is = ap seen_word (c.self.invariant.seat.kept.notes_are.seen_head ∙ ap snapshot c.in-Some.is) in
    record {
      seat = seat_after c.self.inside.table_seat.me c.exchange_seen.new.table_seat.me c.self.inside.notes _ c.self.inside.geometry.capacity Pop
          e.0 c.args.shared.now c.exchange_seen.new.table_seat.table_id c.self.invariant.seat c.exchange_seen.ensures.at e.1
          (subst (λ n. IsKeptOf n (view_in c.exchange_seen.new.table_seat.me.0)) (sym c.in_err-exchange_seen.ensures.notes)
          (pop_lost c.self.inside.notes (view_in c.self.inside.table_seat.me.0)
          (view_in c.exchange_seen.new.table_seat.me.0) e.0 c.in-Some.head.word c.self.invariant.seat.kept e.1
          c.exchange_seen.ensures.at.has is e.2.1));
      marks_long = c.self.invariant.marks_long;
      own = pop_lost_own c.self.inside.owned (view_in c.self.inside.table_seat.me.0)
          (view_in c.exchange_seen.new.table_seat.me.0) e.0 c.in-Some.head.word c.self.invariant.own e.1 is e.2.1;
    }

pub invariant_of-self-2 : goal.invariant_of-self-2
invariant_of-self-2 c = let e = c.in_ok-exchange_seen.ensures.event in
    let is = ap seen_word (c.self.invariant.seat.kept.notes_are.seen_head ∙ ap snapshot c.in-Some.is) in
    record {
      seat = seat_after c.self.inside.table_seat.me c.exchange_seen.new.table_seat.me c.self.inside.notes _ c.self.inside.geometry.capacity Pop
          e.0 c.args.shared.now c.exchange_seen.new.table_seat.table_id c.self.invariant.seat c.exchange_seen.ensures.at e.1
          (subst (λ n. IsKeptOf (record n { seen_head = None; seen_link = None; seen_anchor = c.cleared-self-inside.result })
          (view_in c.exchange_seen.new.table_seat.me.0)) (sym c.in_ok-exchange_seen.ensures.notes)
          (head_popped c.self.inside.notes (view_in c.self.inside.table_seat.me.0)
          (view_in c.exchange_seen.new.table_seat.me.0) e.0 c.in-Some.head.word c.head_first.result c.saturating_sub-d.result
          c.cleared-self-inside.result c.self.invariant.seat.kept e.1 c.exchange_seen.ensures.at.has is e.2 c.head_first.ensures
          c.saturating_sub-d.ensures (c.cleared-self-inside.ensures ∙ ap
          (λ (n : SeatNotes). cleared c.saturating_sub-d.result 1 (snapshot n.seen_anchor)) c.in_ok-exchange_seen.ensures.notes)));
      marks_long = c.self.invariant.marks_long;
      own = popped_owned c.self.inside.owned (with_item c.self.inside.owned.ownerships c.saturating_sub-d.result c.listed.result)
          (view_in c.self.inside.table_seat.me.0) (view_in c.exchange_seen.new.table_seat.me.0)
          e.0 c.in-Some.head.word c.in-Some.head.of c.head_first.result c.saturating_sub-d.result c.listed.result c.self.invariant.own e.1 is
          (ap seen_of (c.self.invariant.seat.kept.notes_are.seen_head ∙ ap snapshot c.in-Some.is))
          e.2 c.head_first.ensures c.saturating_sub-d.ensures c.listed.ensures refl;
    }

pub index_mut-requires : goal.index_mut-requires
index_mut-requires c = let e = c.in_ok-exchange_seen.ensures.event in
    let is = ap seen_word (c.self.invariant.seat.kept.notes_are.seen_head ∙ ap snapshot c.in-Some.is) in
    let b = popped_below (view_in c.self.inside.table_seat.me.0) (view_in c.exchange_seen.new.table_seat.me.0)
    e.0 c.in-Some.head.word c.head_first.result c.saturating_sub-d.result e.1 is c.head_first.ensures c.saturating_sub-d.ensures in
    subst (λ n. c.saturating_sub-d.result < n) (sym (c.self.inside.owned.ownerships.ok.0 ∙ c.self.invariant.own.ownerships_long)) b

pub returns-in_err-exchange_seen-clause-event : goal.returns-in_err-exchange_seen-clause-event
returns-in_err-exchange_seen-clause-event c =
    let told = err_from_is_err_and c.from_residual.result c.from_residual.ensures.1 in
    let e = c.in_err-exchange_seen.ensures.event in let is = ap seen_word (c.self.invariant.seat.kept.notes_are.seen_head ∙ ap snapshot c.in-Some.is) in
    rw (told.1, told.2) (subst (λ (s : SeatView). (x : ℕ) × IsEvent Pop s.view x (view_in c.exchange_seen.new.table_seat.me.0)
    × Tells (seen_word s.view.seen_head) x (Err c.in_err-exchange_seen.field-0.0)) c.self.view_is
    (e.0, e.1, (e.2.0, λ same. e.2.1 (same ∙ is))))
