-- What a step at the table leaves a seat with.
use prog.Atomic.{either}
use Rattle.std.proofs.Common.{◌≡◌, ◌≢◌, ◌⊎◌, ℕ, ◌+◌, ◌*◌, ◌%◌, ◌^◌, ◌<◌, ◌==◌, max, List, [], ◌∷◌, get_or, set, length, length-set, ap, sym, subst, ◌∙◌, arith, inl, inr}
use Rattle.std.proofs.Math.Nat.{mod-eq_of_lt}
use Rattle.std.proofs.lemmas.List.{get_or-set_same}
use Rattle.heap_model.specs.Geometry.{image_words}
use Rattle.atomic_table.specs.Seated.{TableId}
use Rattle.atomic_table.specs.Table.{Me}
use Rattle.core_model.specs.declared.event.Event.{Event}
use Rattle.core_model.specs.Effects.{place_of, left_there}
use Rattle.core_model.specs.Memory.{memory_of, table_index, table_length}
use Rattle.core_model.specs.View.{Setup, View}
use Rattle.core_model.specs.Sound.{Sound}
use Rattle.core_model.specs.Steps.{found_by, words_after}
use Rattle.core_model.proofs.SoundLemmas.{in_length, in_table, taken, batched}
use Rattle.core_model.specs.Guards.{MayLookAt}
use Rattle.heap_table.specs.SeatViews.{SeatViews, IsSingle, all_views, view_in, nobody}
use Rattle.heap_table.specs.Rule.{Opening, HasAllSeats, setup_for}
use Rattle.heap_table.specs.Plays.{HasSoundState, May, IsEvent, IsStepAt, Did, DidFind, DidLearnOwn, stored, may_not, another, own_word, no_own_word}
use Rattle.heap_table.specs.Reached.{learned}
use Rattle.seat_state.proofs.WordLemmas.{read_is}
use Rattle.core_model.specs.Carriers.{AreSeatsAndCarriers}
use Rattle.core_model.specs.Cells.{cell_at}
use Rattle.core_model.specs.Guards.{IsOwn}
use Rattle.core_model.proofs.OfferLemmas.{same_roles, stopped_few}
use Rattle.core_model.proofs.RoleLemmas.{Role, role, role_after}
use Rattle.heap_table.specs.AtTable.{SharedView, IsAt, IsLook, IsDraw, IsRaise, IsExchange, IsStore, MayPut, may_put, DoesIfMay, does, does_not, LearnsOwn, is_own, not_own}
use Rattle.heap_table.specs.AtTable as at_table

-- the place of a step is one of the table
pub place_below : (v : View) (event : Event) (place : ℕ) → HasSoundState v → May v event
    → place ≡ table_index v.setup.capacity (place_of v event) → place < table_length v.setup.capacity
place_below v event place has may place_is =
    let below = in_length v.setup (record { words = has.words; views = has.views }) has.seat v event has.below has.at has.sound (may has) in
    let long = has.sound.long in omega (arith, place_is, below, long)

-- a seat that stands for one seat has its view
pub the_view : (group : SeatViews) (v : View) → IsSingle group v → view_in group ≡ v
the_view group v single = ap (λ vs. get_or vs 0 nobody) single

-- after the event some sound state has the new view, of the same heap
pub has_after : (event : Event) (v : View) (found : ℕ) (w : View) → IsEvent event v found w → HasSoundState w × (w.setup ≡ v.setup)
has_after event v found w e = (
  record {
    words = words_after v.setup e.before.words v event;
    views = set e.before.views e.before.seat w;
    seat = e.before.seat;
    sound = subst (λ k. Sound k (words_after v.setup e.before.words v event) (set e.before.views e.before.seat w)) (sym same) e.kept;
    counted = subst (λ k. AreSeatsAndCarriers k (set e.before.views e.before.seat w)) (sym same)
        (same_roles v.setup e.before.views e.before.seat v w e.before.below e.before.at e.before.counted e.before.is_seat roles);
    is_seat = ap (λ (r : Role). r.carries) roles ∙ e.before.is_seat;
    below = below;
    at = at;
  },
  same,
) where
  below : e.before.seat < length (set e.before.views e.before.seat w)
  below = let l = length-set e.before.views e.before.seat w in let b = e.before.below in omega arith

  at : get_or (set e.before.views e.before.seat w) e.before.seat w ≡ w
  at = get_or-set_same e.before.views e.before.seat w w e.before.below

  same : w.setup ≡ v.setup
  same = (e.kept.good.set_up e.before.seat w below at).setup

  roles : role w ≡ role v
  roles = ap role e.after ∙ role_after (memory_of v.setup.capacity e.before.words) v event found

-- what a seat is after the event
pub record IsAfter (shared : SharedView) (table : TableId) (event : Event) (me : Me ℕ SeatViews) (found : ℕ) (me' : Me ℕ SeatViews) : Type 0 where
  pub at : IsAt shared table me' (view_in me'.0)
  pub event_is : IsEvent event (view_in me.0) found (view_in me'.0)

pub after_did : (shared : SharedView) (table table' : TableId) (event : Event) (me : Me ℕ SeatViews) (found : ℕ) (me' : Me ℕ SeatViews)
    → IsAt shared table me (view_in me.0) → table' ≡ table → Did event me found me'
    → IsAfter shared table' event me found me'
after_did shared table table' event me found me' at same did = record {
  at = record {
    table_is = same ∙ at.table_is;
    single = single;
    no_slots = ap (λ (m : Me ℕ SeatViews). m.1) did.now ∙ at.no_slots;
    setup = after.1 ∙ at.setup;
    has = after.0;
  };
  event_is = event_is;
} where
  view_is : view_in me.0 ≡ did.view
  view_is = the_view me.0 did.view did.single

  left_is : view_in me'.0 ≡ did.left
  left_is = ap (λ (m : Me ℕ SeatViews). view_in m.0) did.now

  event_is : IsEvent event (view_in me.0) found (view_in me'.0)
  event_is = subst (λ u. IsEvent event u found (view_in me'.0)) (sym view_is) (subst (λ u. IsEvent event did.view found u) (sym left_is) did.event_is)

  after : HasSoundState (view_in me'.0) × ((view_in me'.0).setup ≡ (view_in me.0).setup)
  after = has_after event (view_in me.0) found (view_in me'.0) event_is

  single : IsSingle me'.0 (view_in me'.0)
  single = ap (λ (m : Me ℕ SeatViews). m.0) did.now ∙ ap (λ u. u ∷ []) (sym left_is)

-- a look leaves the word as it is
pub look_at : (o : Opening) (v : View) (event : Event) (place : ℕ) → v.setup ≡ setup_for o → v.carries ≡ 0 → May v event
    → place ≡ table_index v.setup.capacity (place_of v event) → IsLook event → IsStepAt o v event place (λ n. n)
look_at o v event place setup seat may place_is look = record {
  setup = setup;
  is_seat = seat;
  may = may;
  place_is = place_is;
  leaves = λ words groups keeps s same all. sym (look (memory_of v.setup.capacity words) v (get_or words place 0));
}

-- a superblock that a seat may look at is one of the image
pub look_below : (v : View) (d : ℕ) → HasSoundState v → MayLookAt v d → d < v.setup.capacity
look_below v d s look = elim look [
  | inl claimed ↦ taken v.setup (memory_of v.setup.capacity s.words) s.views s.seat v s.below s.at s.sound.good d (let c = claimed.claimed in
      omega arith)
  | inr batch ↦ batched v.setup (memory_of v.setup.capacity s.words) s.views s.seat v s.below s.at s.sound.good d batch.0 batch.1
]

-- a draw does not wrap: fewer tickets are drawn than the budget and the seats
drawn_below : (o : Opening) (words : List ℕ) (groups : List SeatViews) → HasAllSeats o words groups
    → get_or words (2 * image_words (setup_for o).capacity) 0 + 1 < 18446744073709551616
drawn_below o words groups keeps = let d = keeps.sound.good.adds.stopped in
    let most = stopped_few (setup_for o) (all_views groups) keeps.counted in let f = keeps.few in let l = keeps.low in omega arith

pub draw_at : (o : Opening) (v : View) (event : Event) (place : ℕ) → v.setup ≡ setup_for o → v.carries ≡ 0 → May v event
    → place ≡ table_index v.setup.capacity (place_of v event) → IsDraw event → IsStepAt o v event place (λ n. (n + 1) % 2 ^ 64)
draw_at o v event place setup seat may place_is draw = record {
  setup = setup;
  is_seat = seat;
  may = may;
  place_is = place_is;
  leaves = λ words groups keeps s same all.
      let here : place ≡ 2 * image_words (setup_for o).capacity = place_is ∙ ap (table_index v.setup.capacity) (draw v).0
      ∙ ap (λ (k : Setup). 2 * image_words k.capacity) setup in
      let less : get_or words place 0 + 1 < 2 ^ 64 = subst (λ n. get_or words n 0 + 1 < 2 ^ 64) (sym here) (drawn_below o words groups keeps) in
      mod-eq_of_lt less ∙ sym ((draw v).1 (memory_of v.setup.capacity words) (get_or words place 0));
}

pub raise_at : (o : Opening) (v : View) (event : Event) (place value : ℕ) → v.setup ≡ setup_for o → v.carries ≡ 0 → May v event
    → place ≡ table_index v.setup.capacity (place_of v event) → IsRaise event v value → IsStepAt o v event place (λ n. max n value)
raise_at o v event place value setup seat may place_is raise = record {
  setup = setup;
  is_seat = seat;
  may = may;
  place_is = place_is;
  leaves = λ words groups keeps s same all. sym (raise (memory_of v.setup.capacity words) (get_or words place 0));
}

pub exchange_at : (o : Opening) (v : View) (event : Event) (place seen new : ℕ) → v.setup ≡ setup_for o → v.carries ≡ 0 → May v event
    → place ≡ table_index v.setup.capacity (place_of v event) → IsExchange event v seen new
    → IsStepAt o v event place (λ n. either (n == seen) new n)
exchange_at o v event place seen new setup seat may place_is exchange = record {
  setup = setup;
  is_seat = seat;
  may = may;
  place_is = place_is;
  leaves = λ words groups keeps s same all.
      let step = may s in
      let found_is : get_or s.words place 0 ≡ found_by (memory_of v.setup.capacity s.words) v event = ap (λ n. get_or s.words n 0) place_is
      ∙ sym (read_is v.setup.capacity s.words (place_of v event) (in_table v.setup
      (memory_of v.setup.capacity s.words) s.views s.seat v s.below s.at s.sound.good event step)) in
      subst (λ ws. either (get_or ws place 0 == seen) new (get_or ws place 0) ≡ left_there (memory_of v.setup.capacity ws) v event
      (get_or ws place 0)) same (sym (exchange s (get_or s.words place 0) found_is));
}

pub store_at : (o : Opening) (v : View) (event : Event) (place value : ℕ) → v.setup ≡ setup_for o → v.carries ≡ 0 → May v event
    → place ≡ table_index v.setup.capacity (place_of v event) → IsStore event v value → IsStepAt o v event place (λ _. value)
store_at o v event place value setup seat may place_is store = record {
  setup = setup;
  is_seat = seat;
  may = may;
  place_is = place_is;
  leaves = λ words groups keeps s same all. subst (λ ws. value ≡ left_there (memory_of v.setup.capacity ws) v event (get_or words place 0)) same
      (sym (store s (get_or words place 0)));
}

-- a seat that stands for the same views
pub after_same : (shared : SharedView) (table table' : TableId) (me me' : Me ℕ SeatViews) → IsAt shared table me (view_in me.0) → table' ≡ table
    → me' ≡ me → IsAt shared table' me' (view_in me'.0)
after_same shared table table' me me' at same still = subst (λ (m : Me ℕ SeatViews). IsAt shared table' m (view_in m.0)) (sym still)
    (record { table_is = same ∙ at.table_is; single = at.single; no_slots = at.no_slots; setup = at.setup; has = at.has })

pub after_learn_own : (shared : SharedView) (table table' : TableId) (word : ℕ) (me : Me ℕ SeatViews) (found : ℕ) (me' : Me ℕ SeatViews)
    → IsAt shared table me (view_in me.0) → table' ≡ table → DidLearnOwn word me found me'
    → IsAt shared table' me' (view_in me'.0) × LearnsOwn word found (view_in me.0) (view_in me'.0)
after_learn_own shared table table' word me found me' at same (no_own_word v single not still) = (
  after_same shared table table' me me' at same still,
  not_own (subst (λ (u : View). IsOwn u (cell_at u.setup.capacity word) → ⊥)
      (sym (the_view me.0 v single)) not) (ap (λ (m : Me ℕ SeatViews). view_in m.0) still),
)
after_learn_own shared table table' word me found me' at same (own_word v single own did) = (
  record {
    table_is = same ∙ at.table_is;
    single = single';
    no_slots = ap (λ (m : Me ℕ SeatViews). m.1) did.now ∙ at.no_slots;
    setup = ap (λ (u : View). u.setup) (left_is ∙ ap (λ u. learned u word found) (sym view_is)) ∙ at.setup;
    has = subst HasSoundState (sym left_is) did.has;
  },
  is_own (subst (λ (u : View). IsOwn u (cell_at u.setup.capacity word)) (sym (the_view me.0 v single)) own) (told.0) (told.1) (left_is
      ∙ ap (λ u. learned u word found) (sym view_is)),
) where
  view_is : view_in me.0 ≡ did.view
  view_is = the_view me.0 did.view did.single

  left_is : view_in me'.0 ≡ learned did.view word found
  left_is = ap (λ (m : Me ℕ SeatViews). view_in m.0) did.now

  single' : IsSingle me'.0 (view_in me'.0)
  single' = ap (λ (m : Me ℕ SeatViews). m.0) did.now ∙ ap (λ u. u ∷ []) (sym left_is)

  told : (s : HasSoundState (view_in me.0)) × (found ≡ get_or s.words word 0)
  told = subst (λ (u : View). (s : HasSoundState u) × (found ≡ get_or s.words word 0)) (sym view_is) (did.before, did.found_is)

pub put_at : (o : Opening) (v : View) (event : Event) (place value : ℕ) → v.setup ≡ setup_for o → v.carries ≡ 0 → MayPut event v place value
    → IsStepAt o v event place (λ _. value) ⊎ (May v event → ⊥)
put_at o v event place value setup seat (may_put may place_is store) = inl (store_at o v event place value setup seat may place_is store)
put_at o v event place value setup seat (at_table.may_not not) = inr not

pub after_find : (shared : SharedView) (table table' : TableId) (event : Event) (value : ℕ) (me : Me ℕ SeatViews) (found : ℕ)
    (me' : Me ℕ SeatViews) → IsAt shared table me (view_in me.0) → table' ≡ table → DidFind event value me found me'
    → IsAt shared table' me' (view_in me'.0)
after_find shared table table' event value me found me' at same (stored is did) = (after_did shared table table' event me found me' at same did).at
after_find shared table table' event value me found me' at same (may_not is v single not still) = after_same shared table table' me me' at same still
after_find shared table table' event value me found me' at same (another other still) = after_same shared table table' me me' at same still

pub found_there : (shared : SharedView) (table table' : TableId) (event : Event) (value : ℕ) (me : Me ℕ SeatViews) (found : ℕ)
    (me' : Me ℕ SeatViews) → IsAt shared table me (view_in me.0) → table' ≡ table → DidFind event value me found me'
    → found ≡ value → DoesIfMay event (view_in me.0) (view_in me'.0)
found_there shared table table' event value me found me' at same (stored is did) there =
    does found (after_did shared table table' event me found me' at same did).event_is
found_there shared table table' event value me found me' at same (may_not is v single not still) there =
    does_not (subst (λ u. May u event → ⊥) (sym (the_view me.0 v single)) not) (ap (λ (m : Me ℕ SeatViews). view_in m.0) still)
found_there shared table table' event value me found me' at same (another other still) there = absurd (other there)

pub found_other : (event : Event) (value : ℕ) (me : Me ℕ SeatViews) (found : ℕ) (me' : Me ℕ SeatViews) → found ≢ value
    → DidFind event value me found me' → view_in me'.0 ≡ view_in me.0
found_other event value me found me' other (stored is did) = absurd (other is)
found_other event value me found me' other (may_not is v single not still) = absurd (other is)
found_other event value me found me' other (another not still) = ap (λ (m : Me ℕ SeatViews). view_in m.0) still
