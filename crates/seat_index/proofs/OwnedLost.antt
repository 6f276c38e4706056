-- What a seat keeps to tell its own words stays, where an exchange is lost.
use Rattle.std.proofs.Common.{◌≡◌, ◌≢◌, ℕ, ap, ◌∙◌}
use Rattle.heap_model.specs.Words.{head_first}
use Rattle.core_model.specs.declared.event.Event.TheVariants.{TakeFresh, Pop, Push, TakeAll, Give}
use Rattle.core_model.specs.Memory.{memory_of, used}
use Rattle.core_model.specs.View.{View}
use Rattle.core_model.specs.Effects.{seen, seen_word, before, taken_fresh, popped, pushed, taken_all, given}
use Rattle.seat_index.specs.declared.owned.Owned.{Owned}
use Rattle.seat_index.specs.Owned.{parts_of, HasOwned}
use Rattle.heap_table.specs.Plays.{IsEvent}
use Rattle.seat_index.proofs.ExchangeLemmas.{missed}
use Rattle.seat_index.proofs.OwnedViews.{quiet}

-- an exchange that is lost changes nothing of what is the seat's
pub fresh_lost : (o : Owned) (v w : View) (n found used : ℕ) → HasOwned o (parts_of v) → IsEvent (TakeFresh n) v found w
    → seen v.seen_used ≡ used → found ≢ used → HasOwned o (parts_of w)
fresh_lost o v w n found used own event is other = quiet o v w (ap parts_of (event.after
    ∙ missed found (seen v.seen_used) (taken_fresh v n) _ (λ e. other (e ∙ is)))) own

pub pop_lost : (o : Owned) (v w : View) (found word : ℕ) → HasOwned o (parts_of v) → IsEvent Pop v found w → seen_word v.seen_head ≡ word
    → found ≢ word → HasOwned o (parts_of w)
pop_lost o v w found word own event is other = quiet o v w (ap parts_of (event.after
    ∙ missed found (seen_word v.seen_head) (popped v (before (head_first (seen_word v.seen_head)))) _ (λ e. other (e ∙ is)))) own

pub push_lost : (o : Owned) (v w : View) (d found word : ℕ) → HasOwned o (parts_of v) → IsEvent (Push d) v found w
    → seen_word v.seen_head ≡ word → found ≢ word → HasOwned o (parts_of w)
push_lost o v w d found word own event is other = quiet o v w (ap parts_of (event.after
    ∙ missed found (seen_word v.seen_head) (pushed v d) _ (λ e. other (e ∙ is)))) own

pub take_lost : (o : Owned) (v w : View) (d found word : ℕ) → HasOwned o (parts_of v) → IsEvent (TakeAll d) v found w
    → seen_word v.seen_anchor ≡ word → found ≢ word → HasOwned o (parts_of w)
take_lost o v w d found word own event is other = quiet o v w (ap parts_of (event.after
    ∙ missed found (seen_word v.seen_anchor) (taken_all (memory_of v.setup.capacity event.before.words) v d) _ (λ e. other (e ∙ is)))) own

pub give_lost : (o : Owned) (v w : View) (d found word : ℕ) → HasOwned o (parts_of v) → IsEvent (Give d) v found w
    → seen_word v.seen_anchor ≡ word → found ≢ word → HasOwned o (parts_of w)
give_lost o v w d found word own event is other = quiet o v w (ap parts_of (event.after
    ∙ missed found (seen_word v.seen_anchor) (given v d) _ (λ e. other (e ∙ is)))) own
