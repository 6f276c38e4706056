-- A word of a seat's own that is read, recorded and made durable.
use Rattle.std.proofs.Common.{◌≡◌, ℕ, ◌+◌, ◌<◌, true, inl, inr, None, Some, get_or, set, length, length-set, refl, ap, sym, subst, ◌∙◌, arith, zero, suc, List, [], ◌∷◌, Option}
use Rattle.std.proofs.lemmas.List.{get_or-set_same}
use Rattle.heap_model.specs.Geometry.{image_words}
use Rattle.core_model.specs.declared.event.Event.TheVariants.{Settle}
use Rattle.core_model.specs.Cells.{cell_at, index_of, is_cell}
use Rattle.core_model.specs.Memory.{Memory, memory_of, table_index}
use Rattle.core_model.specs.View.{Setup, View, times_own}
use Rattle.core_model.specs.Effects.{place_of, learn}
use Rattle.core_model.specs.Sound.{Sound}
use Rattle.core_model.specs.Steps.{found_by, words_after}
use Rattle.core_model.proofs.SoundLemmas.{sound_step}
use Rattle.core_model.specs.Guards.{IsOwn, MayStep}
use Rattle.core_model.proofs.PlaceLemmas.{pick, cell_there, index_at, index_within}
use Rattle.core_model.proofs.QuietLemmas.{own_same}
use Rattle.seat_state.specs.declared.notes.SeatNotes.{SeatNotes}
use Rattle.heap_table.specs.Plays.{HasSoundState, IsEvent}
use Rattle.heap_table.specs.Reached.{learned}
use Rattle.atomic_table.specs.Seated.{TableId}
use Rattle.atomic_table.specs.Table.{Me}
use Rattle.heap_table.specs.SeatViews.{SeatViews, view_in}
use Rattle.heap_table.specs.AtTable.{SharedView, IsAt, IsStore}
use Rattle.heap_rule.specs.Seated.{IsKeptOf, IsSingleSeat}
use Rattle.heap_rule.specs.Shown.{Can}
use Rattle.heap_rule.proofs.SeatLemmas.{keep_fits}
use Rattle.heap_table.proofs.TableStepLemmas.{has_after}
use Rattle.heap_rule.proofs.ViewLemmas.{shown}
use Rattle.heap_rule.proofs.ShownLemmas.{may_of}

-- an own word is one of the image
pub own_there : (v : View) (word : ℕ) → IsOwn v (cell_at v.setup.capacity word) → is_cell v.setup.capacity (cell_at v.setup.capacity word) ≡ true
own_there v word own = elim (cell_there v.setup.capacity word) [
  | inl there ↦ there
  | inr nowhere ↦ absurd (let e = ap (times_own v) nowhere in
      omega arith)
]

pub own_index : (v : View) (word : ℕ) → IsOwn v (cell_at v.setup.capacity word) → index_of (cell_at v.setup.capacity word) ≡ word
own_index v word own = index_at v.setup.capacity word (own_there v word own)

pub own_below : (v : View) (word : ℕ) → IsOwn v (cell_at v.setup.capacity word) → word < image_words v.setup.capacity
own_below v word own = subst (λ n. n < image_words v.setup.capacity) (own_index v word own)
    (index_within v.setup.capacity (cell_at v.setup.capacity word) (own_there v word own))

-- what is recorded changes nothing of what is the seat's
pub own_still : (v : View) (word value : ℕ) → IsOwn v (cell_at v.setup.capacity word) → IsOwn (learned v word value) (cell_at v.setup.capacity word)
own_still v word value own = subst (λ n. 0 < n) (sym (own_same v (learned v word value) refl (cell_at v.setup.capacity word))) own

pub settle_place : (v : View) (word value : ℕ) → IsOwn v (cell_at v.setup.capacity word)
    → image_words v.setup.capacity + word ≡ table_index v.setup.capacity (place_of (learned v word value) (Settle word))
settle_place v word value own = ap (λ n. image_words v.setup.capacity + n) (sym (own_index v word own))

pub settle_can : (v : View) (word value : ℕ) → Can v (Settle word) → Can (learned v word value) (Settle word)
settle_can v word value can = record { going = can.going; ticket = tt; shown = own_still v word value can.shown }

-- what is recorded is the word in each state that has the view
pub settle_store : (v : View) (word value : ℕ) → IsOwn v (cell_at v.setup.capacity word) → IsStore (Settle word) (learned v word value) value
settle_store v word value own s found =
    shown (learned v word value) s (cell_at v.setup.capacity word) value (own_there v word own)
    (ap (λ n. get_or (set v.volatile word (Some value)) n None) (own_index v word own) ∙ get_or-set_same v.volatile word (Some value) None less) where
      less : word < length v.volatile
      less = let l = (s.sound.good.set_up s.seat (learned v word value) s.below s.at).volatile in
          let n = length-set v.volatile word (Some value) in let b = own_below v word own in omega arith

pub settled_kept : (notes : SeatNotes) (v w : View) (word value found : ℕ) → IsKeptOf notes v
    → IsEvent (Settle word) (learned v word value) found w → HasSoundState w → IsKeptOf notes w
settled_kept notes v w word value found kept event has = keep_fits _ _ w event.after has (record {
  notes_are = let n = kept.notes_are in record {
    ticket = n.ticket;
    stopped = n.stopped;
    seen_used = n.seen_used;
    seen_head = n.seen_head;
    seen_link = n.seen_link;
    seen_anchor = n.seen_anchor;
  };
  caches = kept.caches;
  batch = kept.batch;
})

pub settled_seat : (me me' : Me ℕ SeatViews) (notes : SeatNotes) (capacity : ℕ) {budget : ℕ} (word value found : ℕ) (shared : SharedView)
    (table : TableId) → IsSingleSeat me notes capacity budget → IsAt shared table me' (view_in me'.0)
    → IsEvent (Settle word) (learned (view_in me.0) word value) found (view_in me'.0) → IsSingleSeat me' notes capacity budget
settled_seat me me' notes capacity word value found shared table old at event =
    let same : (view_in me'.0).setup ≡ (view_in me.0).setup = (has_after (Settle word) (learned (view_in me.0) word value) found
    (view_in me'.0) event).1 in record {
      single = at.single;
      no_slots = at.no_slots;
      kept = settled_kept notes (view_in me.0) (view_in me'.0) word value found old.kept event at.has;
      capacity_is = old.capacity_is ∙ sym (ap (λ (k : Setup). k.capacity) same);
      budget_is = old.budget_is ∙ sym (ap (λ (k : Setup). k.budget) same);
      low = subst (λ (k : Setup). k.budget < 1099511627776) (sym same) old.low;
    }

set_again : (values : List (Option ℕ)) (i : ℕ) (a : Option ℕ) → set (set values i a) i a ≡ set values i a
set_again [] i a = refl
set_again (x ∷ values) zero a = refl
set_again (x ∷ values) (suc i) a = ap (λ l. x ∷ l) (set_again values i a)

-- the word that is read, recorded and then stored as the durable one: this is the event of the view before, in the state in which it was read
pub settled_event : (v w : View) (word value found : ℕ) (s : HasSoundState v) → value ≡ get_or s.words word 0 → Can v (Settle word)
    → IsEvent (Settle word) (learned v word value) found w → (n : ℕ) × IsEvent (Settle word) v n w
settled_event v w word value found s value_is can event = (
  found_by m v (Settle word),
  record {
    before = s;
    may = may;
    found_is = refl;
    after = w_is;
    kept = subst (λ u. Sound v.setup (words_after v.setup s.words v (Settle word)) (set s.views s.seat u)) (sym w_is)
        (sound_step v.setup s.words s.views s.seat v (Settle word) s.below s.at s.sound may);
  },
) where
  m : Memory
  m = memory_of v.setup.capacity s.words

  may : MayStep m v (Settle word)
  may = may_of v (Settle word) can s

  settled : ℕ → View
  settled x = record v { volatile = learn v.volatile word x; durable = learn v.durable word x }

  read : m.volatile (cell_at v.setup.capacity word) ≡ value
  read = pick (is_cell v.setup.capacity (cell_at v.setup.capacity word)) _ _ (own_there v word can.shown)
      ∙ ap (λ n. get_or s.words n 0) (own_index v word can.shown) ∙ sym value_is

  later : (memory_of v.setup.capacity event.before.words).volatile (cell_at v.setup.capacity word) ≡ value
  later = settle_store v word value can.shown event.before found

  w_is : w ≡ settled (m.volatile (cell_at v.setup.capacity word))
  w_is = event.after
      ∙ ap (λ x. record v { volatile = learn (learn v.volatile word value) word x; durable = learn v.durable word x }) later
      ∙ ap (λ l. record v { volatile = l; durable = learn v.durable word value }) (set_again v.volatile word (Some value))
      ∙ ap settled (sym read)
