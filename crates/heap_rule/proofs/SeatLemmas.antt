-- What is kept of a seat after its steps.
use Rattle.std.proofs.Common.{◌≡◌, ℕ, ◌<◌, None, Some, Bool, List, refl, ap, sym, subst, ◌∙◌}
use Rattle.core_model.specs.declared.event.Event.{Event}
use Rattle.core_model.specs.declared.event.Event.TheVariants.{Load, LookLink, LookAnchor}
use Rattle.atomic_table.specs.Seated.{TableId}
use Rattle.atomic_table.specs.Table.{Me}
use Rattle.core_model.specs.View.{Setup, View}
use Rattle.seat_state.specs.declared.notes.SeatNotes.{SeatNotes}
use Rattle.core_model.specs.Effects.{used_up}
use Rattle.seat_state.specs.Notes.{HasNotes}
use Rattle.seat_index.specs.declared.owned.Owned.{Owned}
use Rattle.seat_index.specs.Owned.{IsIndexOf}
use Rattle.heap_table.specs.Plays.{HasSoundState, IsEvent}
use Rattle.heap_table.specs.AtTable.{SharedView, IsAt}
use Rattle.heap_rule.specs.Seated.{Fits, IsKeptOf, IsSingleSeat, IsWholeSeat}
use Rattle.heap_table.specs.SeatViews.{SeatViews, view_in}
use Rattle.heap_table.proofs.TableStepLemmas.{has_after}

pub keep_fits : (notes : SeatNotes) (v w : View) → w ≡ v → HasSoundState w → Fits notes v → IsKeptOf notes w
keep_fits notes v w same has fits = subst (λ u. HasSoundState u → IsKeptOf notes u) (sym same)
    (λ h. record { has = h; notes_are = fits.notes_are; caches = fits.caches; batch = fits.batch }) has

pub looked_anchor : (notes : SeatNotes) (v w : View) (d found : ℕ) → IsKeptOf notes v → IsEvent (LookAnchor d) v found w → HasSoundState w
    → IsKeptOf (record notes { ticket = None; seen_anchor = Some (record { of = d; word = found }) }) w
looked_anchor notes v w d found kept event has = keep_fits _ _ w event.after has (record {
  notes_are = record {
    ticket = refl;
    stopped = kept.notes_are.stopped;
    seen_used = kept.notes_are.seen_used;
    seen_head = kept.notes_are.seen_head;
    seen_link = kept.notes_are.seen_link;
    seen_anchor = refl;
  };
  caches = kept.caches;
  batch = kept.batch;
})

pub looked_link : (notes : SeatNotes) (v w : View) (found : ℕ) → IsKeptOf notes v → IsEvent LookLink v found w → HasSoundState w
    → IsKeptOf (record notes { ticket = None; seen_link = Some found }) w
looked_link notes v w found kept event has = keep_fits _ _ w event.after has (record {
  notes_are = record {
    ticket = refl;
    stopped = kept.notes_are.stopped;
    seen_used = kept.notes_are.seen_used;
    seen_head = kept.notes_are.seen_head;
    seen_link = refl;
    seen_anchor = kept.notes_are.seen_anchor;
  };
  caches = kept.caches;
  batch = kept.batch;
})

-- a seat after an event, once what is kept of it is that of the new view
pub seat_after : (me me' : Me ℕ SeatViews) (notes notes' : SeatNotes) (capacity : ℕ) {budget : ℕ} (event : Event) (found : ℕ)
    (shared : SharedView) (table : TableId) → IsSingleSeat me notes capacity budget → IsAt shared table me' (view_in me'.0)
    → IsEvent event (view_in me.0) found (view_in me'.0) → IsKeptOf notes' (view_in me'.0) → IsSingleSeat me' notes' capacity budget
seat_after me me' notes notes' capacity event found shared table old at event_is kept =
    let same : (view_in me'.0).setup ≡ (view_in me.0).setup = (has_after event (view_in me.0) found (view_in me'.0) event_is).1 in record {
      single = at.single;
      no_slots = at.no_slots;
      kept = kept;
      capacity_is = old.capacity_is ∙ sym (ap (λ (k : Setup). k.capacity) same);
      budget_is = old.budget_is ∙ sym (ap (λ (k : Setup). k.budget) same);
      low = subst (λ (k : Setup). k.budget < 1099511627776) (sym same) old.low;
    }

-- a step that uses the ticket up, and changes nothing else that is kept
pub used : (notes : SeatNotes) (v : View) → IsKeptOf notes v → HasNotes (record notes { ticket = None }) (used_up v)
used notes v kept = record {
  ticket = refl;
  stopped = kept.notes_are.stopped;
  seen_used = kept.notes_are.seen_used;
  seen_head = kept.notes_are.seen_head;
  seen_link = kept.notes_are.seen_link;
  seen_anchor = kept.notes_are.seen_anchor;
}

pub loaded : (notes : SeatNotes) (v w : View) (word found : ℕ) → IsKeptOf notes v → IsEvent (Load word) v found w → HasSoundState w
    → IsKeptOf (record notes { ticket = None }) w
loaded notes v w word found kept event has = keep_fits _ _ w event.after has (record {
  notes_are = let u = used notes v kept in record {
    ticket = refl;
    stopped = u.stopped;
    seen_used = u.seen_used;
    seen_head = u.seen_head;
    seen_link = u.seen_link;
    seen_anchor = u.seen_anchor;
  };
  caches = kept.caches;
  batch = kept.batch;
})

-- a seat that stands for the same views
pub whole_at : (me me' : Me ℕ SeatViews) (notes : SeatNotes) (owned : Owned) (marks : List Bool) (capacity budget : ℕ) → me' ≡ me
    → IsWholeSeat me notes owned marks capacity budget → IsWholeSeat me' notes owned marks capacity budget
whole_at me me' notes owned marks capacity budget same whole = subst (λ m. IsWholeSeat m notes owned marks capacity budget) (sym same) whole

-- what a seat keeps to tell its own words is that of its view
pub index_of : (me : Me ℕ SeatViews) (notes : SeatNotes) (owned : Owned) (marks : List Bool) (capacity budget : ℕ)
    → IsWholeSeat me notes owned marks capacity budget → IsIndexOf owned capacity (view_in me.0)
index_of me notes owned marks capacity budget whole = record {
  has = whole.seat.kept.has;
  own = whole.own;
  capacity_is = whole.seat.capacity_is;
}
