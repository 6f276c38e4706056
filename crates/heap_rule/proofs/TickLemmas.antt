-- What is kept of a seat after a draw.
use Rattle.std.proofs.Common.{◌≡◌, ℕ, ◌<◌, ◌≤◌, nat_lt, Option, None, Some, refl, ap, ◌∙◌, lt-ltb}
use Rattle.core_model.specs.declared.event.Event.TheVariants.{Tick}
use Rattle.core_model.specs.declared.event.Shift.{Shift}
use Rattle.core_model.specs.Memory.{Memory, memory_of}
use Rattle.core_model.specs.View.{View}
use Rattle.core_model.specs.Effects.{drew, stopped}
use Rattle.core_model.specs.ViewAfter.{shifted}
use Rattle.core_model.proofs.PlaceLemmas.{pick, skip, not-lt}
use Rattle.seat_state.proofs.DecisionLemmas.{going_on}
use Rattle.seat_state.specs.declared.notes.SeatNotes.{SeatNotes}
use Rattle.heap_table.specs.Plays.{HasSoundState, IsEvent}
use Rattle.heap_rule.specs.Seated.{IsKeptOf, FitsShift}
use Rattle.heap_rule.proofs.SeatLemmas.{keep_fits}

-- a seat that draws with a shift goes on
goes_on : (m : Memory) (v : View) (shift : Option Shift) (found : ℕ) → (shifted m (drew v found) shift).stopped ≡ v.stopped
goes_on m v None found = refl
goes_on m v (Some shift) found = going_on m v shift found

-- with no shift, all else that is kept stays
pub alone_fits : (notes : SeatNotes) (v : View) → IsKeptOf notes v → FitsShift notes v None
alone_fits notes v kept = λ s found. record {
  notes_are = record {
    ticket = refl;
    stopped = kept.notes_are.stopped;
    seen_used = kept.notes_are.seen_used;
    seen_head = kept.notes_are.seen_head;
    seen_link = kept.notes_are.seen_link;
    seen_anchor = kept.notes_are.seen_anchor;
  };
  caches = kept.caches;
  batch = kept.batch;
}

module _ (v w : View) (shift : Option Shift) (found : ℕ) (event : IsEvent (Tick shift) v found w) where
  pub drawn : found < v.setup.budget → w ≡ shifted (memory_of v.setup.capacity event.before.words) (drew v found) shift
  drawn less = event.after ∙ pick (nat_lt found v.setup.budget) (shifted (memory_of v.setup.capacity event.before.words) (drew v found) shift)
      (stopped v found) (lt-ltb found v.setup.budget less)

  pub spent : v.setup.budget ≤ found → w ≡ stopped v found
  spent past = event.after ∙ skip (nat_lt found v.setup.budget) (shifted (memory_of v.setup.capacity event.before.words) (drew v found) shift)
      (stopped v found) (not-lt found v.setup.budget past)

  pub draw_going : v.stopped ≡ None → found < v.setup.budget → w.stopped ≡ None
  draw_going going less = ap (λ (u : View). u.stopped) (drawn less) ∙ goes_on (memory_of v.setup.capacity event.before.words) v shift found ∙ going

  pub draw_stopped : v.setup.budget ≤ found → w.stopped ≡ Some found
  draw_stopped past = ap (λ (u : View). u.stopped) (spent past)

  pub draw_kept : (changed : SeatNotes) → FitsShift changed v shift → HasSoundState w → found < v.setup.budget
      → IsKeptOf (record changed { ticket = Some found }) w
  draw_kept changed fits has less = keep_fits _ _ w (drawn less) has (fits event.before found)

  pub stop_kept : (notes : SeatNotes) → IsKeptOf notes v → HasSoundState w → v.setup.budget ≤ found
      → IsKeptOf (record notes { ticket = None; stopped = Some found }) w
  stop_kept notes kept has past = keep_fits _ _ w (spent past) has (record {
    notes_are = record {
      ticket = refl;
      stopped = refl;
      seen_used = kept.notes_are.seen_used;
      seen_head = kept.notes_are.seen_head;
      seen_link = kept.notes_are.seen_link;
      seen_anchor = kept.notes_are.seen_anchor;
    };
    caches = kept.caches;
    batch = kept.batch;
  })
