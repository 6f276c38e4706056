-- What is kept of a seat after an exchange of the mark.
use Rattle.std.proofs.Common.{◌≡◌, ◌≢◌, ℕ, ◌+◌, Option, None, Some, refl, ap, sym, ◌∙◌}
use Rattle.core_model.specs.declared.event.Event.TheVariants.{TakeFresh}
use Rattle.core_model.specs.View.{View}
use Rattle.core_model.specs.Effects.{seen, cleared, taken_fresh}
use Rattle.seat_state.specs.declared.notes.SeatNotes.{SeatNotes}
use Rattle.seat_state.specs.declared.notes.Seen.{Seen}
use Rattle.seat_state.specs.Notes.{snapshot}
use Rattle.heap_table.specs.Plays.{HasSoundState, IsEvent}
use Rattle.heap_rule.specs.Seated.{IsKeptOf}
use Rattle.heap_rule.proofs.SeatLemmas.{keep_fits}
use Rattle.seat_index.proofs.ExchangeLemmas.{hit, missed}

-- after the mark is exchanged
pub fresh_taken : (notes : SeatNotes) (v w : View) (n found used new : ℕ) (anchor : Option Seen) → IsKeptOf notes v
    → IsEvent (TakeFresh n) v found w → HasSoundState w → seen v.seen_used ≡ used → found ≡ used → new ≡ used + n
    → snapshot anchor ≡ cleared used n (snapshot notes.seen_anchor)
    → IsKeptOf (record notes { ticket = None; seen_used = Some new; seen_anchor = anchor }) w
fresh_taken notes v w n found used new anchor kept event has is same new_is cleared_is =
    keep_fits _ _ w (event.after ∙ hit found (seen v.seen_used) (taken_fresh v n) _ (same ∙ sym is)) has (record {
      notes_are = record {
        ticket = refl;
        stopped = kept.notes_are.stopped;
        seen_used = ap Some (ap (λ x. x + n) is ∙ sym new_is);
        seen_head = kept.notes_are.seen_head;
        seen_link = kept.notes_are.seen_link;
        seen_anchor = ap (cleared (seen v.seen_used) n) kept.notes_are.seen_anchor ∙ ap (λ u. cleared u n (snapshot notes.seen_anchor)) is ∙ sym cleared_is;
      };
      caches = kept.caches;
      batch = kept.batch;
    })

pub fresh_lost : (notes : SeatNotes) (v w : View) (n found used : ℕ) → IsKeptOf notes v → IsEvent (TakeFresh n) v found w → HasSoundState w
    → seen v.seen_used ≡ used → found ≢ used
    → IsKeptOf (record notes { ticket = None; seen_used = None }) w
fresh_lost notes v w n found used kept event has is other = keep_fits _ _ w (event.after
    ∙ missed found (seen v.seen_used) (taken_fresh v n) _ (λ e. other (e ∙ is))) has (record {
      notes_are = record {
        ticket = refl;
        stopped = kept.notes_are.stopped;
        seen_used = refl;
        seen_head = kept.notes_are.seen_head;
        seen_link = kept.notes_are.seen_link;
        seen_anchor = kept.notes_are.seen_anchor;
      };
      caches = kept.caches;
      batch = kept.batch;
    })
