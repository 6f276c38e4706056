-- A word that is looked at, whose volatile and durable values agree: where it is own, that settles it.
use Rattle.std.proofs.Common.{◌≡◌, ℕ, ◌+◌, ◌<◌, ◌≤◌, arith, Bool, true, false, None, refl, ap, sym, subst, ◌∙◌}
use Rattle.heap_model.specs.Geometry.{image_words}
use Rattle.atomic_table.specs.Seated.{TableId}
use Rattle.atomic_table.specs.Table.{Me}
use Rattle.core_model.specs.declared.event.Event.TheVariants.{Settle}
use Rattle.core_model.specs.View.{Setup, View}
use Rattle.seat_state.specs.declared.notes.SeatNotes.{SeatNotes}
use Rattle.heap_table.specs.AtTable.{SharedView, IsAt, MayPut, may_put, may_not, DoesIfMay, does, does_not, LearnsOwn, is_own, not_own}
use Rattle.heap_table.specs.Plays.{HasSoundState, IsEvent, May}
use Rattle.heap_table.specs.Reached.{learned}
use Rattle.heap_table.specs.SeatViews.{SeatViews, view_in}
use Rattle.heap_rule.specs.Fences.{Owns, SettlesOwn}
use Rattle.heap_rule.specs.Fences as fences
use Rattle.seat_index.specs.Owned.{parts_of}
use Rattle.heap_rule.specs.Seated.{IsSingleSeat, SeatView}
use Rattle.heap_rule.specs.Shown.{Can}
use Rattle.heap_rule.proofs.FenceLemmas.{rest_stays}
use Rattle.heap_rule.proofs.SeatLemmas.{keep_fits}
use Rattle.heap_rule.proofs.SettleLemmas.{own_below, own_still, settle_place, settle_can, settle_store, settled_event}
use Rattle.heap_rule.proofs.ShownLemmas.{may_of}

-- nothing but what is recorded of words has changed
abbrev pub RecordsOnly : View → View → Type 0
RecordsOnly v w = w ≡ record v { volatile = w.volatile; durable = w.durable }

pub same_only : (v w : View) → w ≡ v → RecordsOnly v w
same_only v w same = subst (λ (u : View). u ≡ record v { volatile = u.volatile; durable = u.durable }) (sym same) refl

pub learned_only : (v u : View) (word found : ℕ) → LearnsOwn word found v u → RecordsOnly v u
learned_only v u word found (is_own own s is u_is) = subst (λ (z : View). z ≡ record v { volatile = z.volatile; durable = z.durable }) (sym u_is) refl
learned_only v u word found (not_own not u_is) = same_only v u u_is

pub does_only : (u w : View) (word : ℕ) → DoesIfMay (Settle word) u w → RecordsOnly u w
does_only u w word (does found event) = rest_stays u w word found event
does_only u w word (does_not not same) = same_only u w same

-- and so after a look at the durable word
pub stood_only : (stands : Bool) (u w : View) (word : ℕ) → (stands ≡ true → DoesIfMay (Settle word) u w) → (stands ≡ false → w ≡ u) → RecordsOnly u w
stood_only true u w word there other = does_only u w word (there refl)
stood_only false u w word there other = same_only u w (other refl)

pub only_then : (v u w : View) → RecordsOnly v u → RecordsOnly u w → RecordsOnly v w
only_then v u w a b = b ∙ ap (λ (z : View). record z { volatile = w.volatile; durable = w.durable }) a

pub only_parts : (v w : View) → RecordsOnly v w → parts_of w ≡ parts_of v
only_parts v w only = ap parts_of only

pub only_seat : (me me' : Me ℕ SeatViews) (notes : SeatNotes) (capacity : ℕ) {budget : ℕ} (shared : SharedView) (table : TableId)
    → IsSingleSeat me notes capacity budget → IsAt shared table me' (view_in me'.0)
    → RecordsOnly (view_in me.0) (view_in me'.0) → IsSingleSeat me' notes capacity budget
only_seat me me' notes capacity shared table old at only =
    let same : (view_in me'.0).setup ≡ (view_in me.0).setup = ap (λ (v : View). v.setup) only in record {
      single = at.single;
      no_slots = at.no_slots;
      kept = keep_fits notes _ (view_in me'.0) only at.has (record {
        notes_are = let n = old.kept.notes_are in record {
          ticket = n.ticket;
          stopped = n.stopped;
          seen_used = n.seen_used;
          seen_head = n.seen_head;
          seen_link = n.seen_link;
          seen_anchor = n.seen_anchor;
        };
        caches = old.kept.caches;
        batch = old.kept.batch;
      });
      capacity_is = old.capacity_is ∙ sym (ap (λ (k : Setup). k.capacity) same);
      budget_is = old.budget_is ∙ sym (ap (λ (k : Setup). k.budget) same);
      low = subst (λ (k : Setup). k.budget < 1099511627776) (sym same) old.low;
    }

can_settle : (v : View) (word : ℕ) → v.stopped ≡ None → Owns v word → Can v (Settle word)
can_settle v word going own = record { going = going; ticket = tt; shown = own }

may_settle : (v : View) (word value : ℕ) → v.stopped ≡ None → Owns v word → May (learned v word value) (Settle word)
may_settle v word value going own = may_of (learned v word value) (Settle word) (settle_can v word value (can_settle v word going own))

pub agree_put : (v u : View) (word value place : ℕ) → v.stopped ≡ None → HasSoundState u → place ≡ image_words v.setup.capacity + word
    → LearnsOwn word value v u → MayPut (Settle word) u place value
agree_put v u word value place going has place_is (is_own own s is u_is) = subst (λ z. MayPut (Settle word) z place value) (sym u_is)
    (may_put (may_settle v word value going own) (place_is ∙ settle_place v word value own) (settle_store v word value own))
agree_put v u word value place going has place_is (not_own not u_is) = may_not (λ may. not (subst (λ z. Owns z word) u_is (may has).ready))

-- the word is settled by the look
pub agreed : (v w : SeatView) (u : View) (word value : ℕ) → v.view.stopped ≡ None → LearnsOwn word value v.view u
    → DoesIfMay (Settle word) u w.view → SettlesOwn word v w
agreed v w u word value going (is_own own s is u_is) (does found event) =
    let done = settled_event v.view w.view word value found s is (can_settle v.view word going own)
    (subst (λ z. IsEvent (Settle word) z found w.view) u_is event) in fences.is_own own done.0 done.1
agreed v w u word value going (is_own own s is u_is) (does_not not same) =
    absurd (not (subst (λ z. May z (Settle word)) (sym u_is) (may_settle v.view word value going own)))
agreed v w u word value going (not_own not u_is) (does found event) = absurd (not (subst (λ z. Owns z word) u_is event.may.ready))
agreed v w u word value going (not_own not u_is) (does_not none same) = fences.not_own not (same ∙ u_is)

-- or by the store after it
settled_then : (v u w : SeatView) (word value n : ℕ) → v.view.stopped ≡ None → LearnsOwn word value v.view u.view → Owns u.view word
    → IsEvent (Settle word) u.view n w.view → SettlesOwn word v w
settled_then v u w word value n going (is_own own s is u_is) owns event =
    let done = settled_event v.view w.view word value n s is (can_settle v.view word going own)
    (subst (λ z. IsEvent (Settle word) z n w.view) u_is event) in fences.is_own own done.0 done.1
settled_then v u w word value n going (not_own not u_is) owns event = absurd (not (subst (λ z. Owns z word) u_is owns))

left_then : (v u w : SeatView) (word value : ℕ) → LearnsOwn word value v.view u.view → (Owns u.view word → ⊥) → w.view ≡ u.view → SettlesOwn word v w
left_then v u w word value (is_own own s is u_is) none same = absurd (none (subst (λ z. Owns z word) (sym u_is) (own_still v.view word value own)))
left_then v u w word value (not_own not u_is) none same = fences.not_own not (same ∙ u_is)

pub found_then : (v u w : SeatView) (word value : ℕ) → v.view.stopped ≡ None → LearnsOwn word value v.view u.view → SettlesOwn word u w
    → SettlesOwn word v w
found_then v u w word value going looked (fences.is_own own n event) = settled_then v u w word value n going looked own event
found_then v u w word value going looked (fences.not_own none same) = left_then v u w word value looked none same

-- a word past the image is nobody's
pub past_then : (v w : SeatView) (word length : ℕ) → length ≡ image_words v.view.setup.capacity → length ≤ word → w.view ≡ v.view → SettlesOwn word v w
past_then v w word length long past same = fences.not_own (λ own. absurd (let b = own_below v.view word own in omega arith)) same
