-- A step that a seat may do in every sound state is one that the rule of the table allows.
use Rattle.std.proofs.Common.{length-set, ◌≡◌, ℕ, ◌⊎◌, inl, inr, List, [], ◌∷◌, get_or, set, refl, ap, sym, subst, ◌∙◌, arith}
use Rattle.std.proofs.lemmas.Bool.{cases_eq, cases_lt}
use Rattle.std.proofs.lemmas.List.{set-get_or, get_or-set_same}
use Rattle.atomic_table.proofs.Lists.{set_again}
use mathlib.Core.Option.{some}
use lib.ListN.{get_elem?}
use Rattle.atomic_table.specs.Table.{Allows, keeps, stepped}
use Rattle.core_model.specs.declared.event.Event.{Event}
use Rattle.core_model.specs.Cells.{cell_at}
use Rattle.core_model.specs.Memory.{memory_of}
use Rattle.core_model.specs.View.{Setup, View, times_own}
use Rattle.core_model.specs.Effects.{place_of, left_there}
use Rattle.core_model.specs.ViewAfter.{view_after}
use Rattle.core_model.specs.Guards.{IsOwn, MayStep}
use Rattle.core_model.specs.Sound.{Sound}
use Rattle.core_model.specs.Steps.{found_by, words_after, seat_after}
use Rattle.core_model.proofs.SoundLemmas.{in_table, sound_step}
use Rattle.core_model.specs.Carriers.{AreSeatsAndCarriers}
use Rattle.core_model.proofs.OfferLemmas.{same_roles}
use Rattle.core_model.proofs.RoleLemmas.{role_after}
use Rattle.seat_state.proofs.WordLemmas.{read_is}
use Rattle.heap_table.specs.SeatViews.{SeatViews, IsSingle, all_views}
use Rattle.heap_table.specs.Reached.{IsReached, by_event, by_record, learned}
use Rattle.heap_table.specs.Rule.{Opening, HasAllSeats, Holds, setup_for, state_of}
use Rattle.heap_table.specs.Plays.{HasSoundState, IsStepAt, Did, DidFind, DidStore, DidRead, DidRecall, DidLearn, DidLearnOwn, May, stored, may_not, another, own_word, no_own_word}
use Rattle.heap_table.proofs.ReachedLemmas.{recorded_sound}
use Rattle.heap_table.proofs.SeatViewsLemmas.{offset, offset_below, at_offset, set_offset}

-- the state of the table, as one in which the seat has the view
abbrev pub state_with : (o : Opening) (words : List ℕ) (groups : List SeatViews) (id : ℕ) (group : SeatViews) (v : View) → v.setup ≡ setup_for o
    → v.carries ≡ 0 → HasAllSeats o words groups → get_elem? groups id ≡ some group → IsSingle group v → HasSoundState v
state_with o words groups id group v setup seat holds at single = record {
  words = words;
  views = all_views groups;
  seat = offset id groups;
  sound = subst (λ k. Sound k words (all_views groups)) (sym setup) holds.sound;
  counted = subst (λ k. AreSeatsAndCarriers k (all_views groups)) (sym setup) holds.counted;
  is_seat = seat;
  below = offset_below groups id group v at single;
  at = at_offset groups id group v at single;
}

pub allowed : (o : Opening) (count id : ℕ) (group : SeatViews) (slots : List (ℕ × ℕ)) (v : View) (event : Event) (place : ℕ) (f : ℕ → ℕ)
    → IsSingle group v → IsStepAt o v event place f
    → Allows (Holds o) count id (group, slots) place f (λ found after. Did event (group, slots) found after)
allowed o count id group slots v event place f single is s holds none at fits =
    (w ∷ [], keeps, tt, kept, did) where
      has : HasSoundState v
      has = state_with o s.words s.views id group v is.setup is.is_seat holds at single

      step : MayStep (memory_of v.setup.capacity s.words) v event
      step = is.may has

      found : ℕ
      found = get_or s.words place 0

      found_is : found ≡ found_by (memory_of v.setup.capacity s.words) v event
      found_is = ap (λ n. get_or s.words n 0) is.place_is
          ∙ sym (read_is v.setup.capacity s.words (place_of v event) (in_table v.setup (memory_of v.setup.capacity s.words)
          (all_views s.views) has.seat v has.below has.at has.sound.good event step))

      w : View
      w = view_after (memory_of v.setup.capacity s.words) v event found

      w_is : w ≡ seat_after (memory_of v.setup.capacity s.words) v event
      w_is = ap (view_after (memory_of v.setup.capacity s.words) v event) found_is

      sound : Sound v.setup (words_after v.setup s.words v event) (set (all_views s.views) has.seat w)
      sound = subst (λ u. Sound v.setup (words_after v.setup s.words v event) (set (all_views s.views) has.seat u)) (sym w_is)
          (sound_step v.setup s.words (all_views s.views) has.seat v event has.below has.at has.sound step)

      words_are : words_after v.setup s.words v event ≡ set s.words place (f found)
      words_are = ap (λ n. set s.words n (left_there (memory_of v.setup.capacity s.words) v event
          (found_by (memory_of v.setup.capacity s.words) v event))) (sym is.place_is)
          ∙ ap (λ x. set s.words place x) (ap (left_there (memory_of v.setup.capacity s.words) v event) (sym found_is)
          ∙ sym (is.leaves s.words s.views holds has refl refl))

      -- what is so of words and views after the event is so of the table after the step
      told : (P : Setup → List ℕ → List View → Type 0) → P v.setup (words_after v.setup s.words v event) (set (all_views s.views) has.seat w)
          → P (setup_for o) (set s.words place (f found)) (all_views (set s.views id (w ∷ [])))
      told P p = subst (λ vs. P (setup_for o) (set s.words place (f found)) vs) (sym (set_offset s.views id group v w at single))
          (subst (λ ws. P (setup_for o) ws (set (all_views s.views) has.seat w)) words_are
          (subst (λ k. P k (words_after v.setup s.words v event) (set (all_views s.views) has.seat w)) is.setup p))

      reached : IsReached v.setup (state_of o) (words_after v.setup s.words v event) (set (all_views s.views) has.seat w)
      reached = subst (λ u. IsReached v.setup (state_of o) (words_after v.setup s.words v event) (set (all_views s.views) has.seat u)) (sym w_is)
          (by_event s.words (all_views s.views) has.seat v event (subst (λ k. IsReached k (state_of o) s.words (all_views s.views))
          (sym is.setup) holds.reached) has.below has.at is.is_seat step)

      kept : HasAllSeats o (set s.words place (f found)) (set s.views id (w ∷ []))
      kept = record {
        reached = told (λ k. IsReached k (state_of o)) reached;
        sound = told Sound sound;
        counted = told (λ k ws. AreSeatsAndCarriers k) (same_roles v.setup
            (all_views s.views) has.seat v w has.below has.at has.counted is.is_seat (role_after (memory_of v.setup.capacity s.words) v event found));
        few = holds.few;
        low = holds.low;
      }

      did : Did event (group, slots) found (w ∷ [], slots)
      did = record {
        view = v;
        single = single;
        left = w;
        now = refl;
        event_is = record { before = has; may = step; found_is = found_is; after = refl; kept = sound };
      }

-- the same of a store, which does not tell what it found
pub allowed_store : (o : Opening) (count id : ℕ) (group : SeatViews) (slots : List (ℕ × ℕ)) (v : View) (event : Event) (place value : ℕ)
    → IsSingle group v → IsStepAt o v event place (λ _. value)
    → Allows (Holds o) count id (group, slots) place (λ _. value) (λ _ after. DidStore event (group, slots) after)
allowed_store o count id group slots v event place value single is s holds none at fits =
    let r = allowed o count id group slots v event place (λ _. value) single is s holds none at fits in
    (r.0, r.1, r.2, r.3, record { found = get_or s.words place 0; did = r.4 })

-- a load that changes nothing and records nothing, of whatever the seat of the table stands for
pub allowed_load : (o : Opening) (count id : ℕ) (group : SeatViews) (slots : List (ℕ × ℕ)) (place : ℕ)
    → Allows (Holds o) count id (group, slots) place (λ n. n) (λ _ after. after ≡ (group, slots))
allowed_load o count id group slots place s holds none at fits = (
  group,
  keeps,
  tt,
  subst (λ ws. HasAllSeats o ws (set s.views id group)) (sym (set-get_or s.words place 0))
      (subst (λ js. HasAllSeats o s.words js) (sym (set_again s.views id group at)) holds),
  refl,
)

-- a read that changes nothing
pub allowed_read : (o : Opening) (count id : ℕ) (group : SeatViews) (slots : List (ℕ × ℕ)) (v : View) (place : ℕ) → IsSingle group v
    → v.setup ≡ setup_for o → v.carries ≡ 0
    → Allows (Holds o) count id (group, slots) place (λ n. n) (λ found after. DidRead place (group, slots) found after)
allowed_read o count id group slots v place single setup seat s holds none at fits =
    let r = allowed_load o count id group slots place s holds none at fits in (
      r.0,
      r.1,
      r.2,
      r.3,
      record {
        same = r.4;
        view = v;
        single = single;
        has = state_with o s.words s.views id group v setup seat holds at single;
        found_is = refl;
      },
    )

-- a read that tells what the heap came to
pub allowed_recall : (o : Opening) (count id : ℕ) (group : SeatViews) (slots : List (ℕ × ℕ)) (v : View) (place : ℕ) → IsSingle group v
    → v.carries ≡ 0
    → Allows (Holds o) count id (group, slots) place (λ n. n) (λ found after. DidRecall o (group, slots) after)
allowed_recall o count id group slots v place single seat s holds none at fits =
    let r = allowed_load o count id group slots place s holds none at fits in (
      r.0,
      r.1,
      r.2,
      r.3,
      record {
        same = r.4;
        view = v;
        single = single;
        has = record {
          words = s.words;
          views = all_views s.views;
          seat = offset id s.views;
          reached = holds.reached;
          counted = holds.counted;
          is_seat = seat;
          below = offset_below s.views id group v at single;
          at = at_offset s.views id group v at single;
        };
      },
    )

-- a read of an own word that is recorded
pub allowed_learn : (o : Opening) (count id : ℕ) (group : SeatViews) (slots : List (ℕ × ℕ)) (v : View) (word : ℕ) → IsSingle group v
    → v.setup ≡ setup_for o → v.carries ≡ 0 → IsOwn v (cell_at v.setup.capacity word)
    → Allows (Holds o) count id (group, slots) word (λ n. n) (λ found after. DidLearn word (group, slots) found after)
allowed_learn o count id group slots v word single setup seat own s holds none at fits =
    (w ∷ [], keeps, tt, kept, record { view = v; single = single; now = refl; before = has; found_is = refl; has = has_w }) where
      has : HasSoundState v
      has = state_with o s.words s.views id group v setup seat holds at single

      found : ℕ
      found = get_or s.words word 0

      w : View
      w = learned v word found

      sound : Sound v.setup s.words (set (all_views s.views) has.seat w)
      sound = recorded_sound v.setup s.words (all_views s.views) has.seat v word has.below has.at own has.sound

      -- what is so of the views after the read is so of the table after it
      told : (P : Setup → List ℕ → List View → Type 0) → P v.setup s.words (set (all_views s.views) has.seat w)
          → P (setup_for o) (set s.words word found) (all_views (set s.views id (w ∷ [])))
      told P p = subst (λ ws. P (setup_for o) ws (all_views (set s.views id (w ∷ [])))) (sym (set-get_or s.words word 0))
          (subst (λ vs. P (setup_for o) s.words vs) (sym (set_offset s.views id group v w at single))
          (subst (λ k. P k s.words (set (all_views s.views) has.seat w)) setup p))

      kept : HasAllSeats o (set s.words word found) (set s.views id (w ∷ []))
      kept = record {
        reached = told (λ k. IsReached k (state_of o)) (by_record s.words (all_views s.views) has.seat v word
            (subst (λ k. IsReached k (state_of o) s.words (all_views s.views)) (sym setup) holds.reached) has.below has.at own);
        sound = told Sound sound;
        counted = told (λ k ws. AreSeatsAndCarriers k) (same_roles v.setup (all_views s.views) has.seat v w has.below has.at has.counted seat refl);
        few = holds.few;
        low = holds.low;
      }

      has_w : HasSoundState w
      has_w = record {
        words = s.words;
        views = set (all_views s.views) has.seat w;
        seat = has.seat;
        sound = sound;
        counted = same_roles v.setup (all_views s.views) has.seat v w has.below has.at has.counted seat refl;
        is_seat = seat;
        below = let l = length-set (all_views s.views) has.seat w in let b = has.below in omega arith;
        at = get_or-set_same (all_views s.views) has.seat w w has.below;
      }

-- the same where the word is own
pub allowed_learn_own : (o : Opening) (count id : ℕ) (group : SeatViews) (slots : List (ℕ × ℕ)) (v : View) (word : ℕ) → IsSingle group v
    → v.setup ≡ setup_for o → v.carries ≡ 0
    → Allows (Holds o) count id (group, slots) word (λ n. n) (λ found after. DidLearnOwn word (group, slots) found after)
allowed_learn_own o count id group slots v word single setup seat s holds none at fits =
    elim (cases_lt 0 (times_own v (cell_at v.setup.capacity word))) [
      | inl own ↦ let r = allowed_learn o count id group slots v word single setup seat own s holds none at fits in
          (r.0, r.1, r.2, r.3, own_word v single own r.4)
      | inr not ↦ let r = allowed_load o count id group slots word s holds none at fits in
          (r.0, r.1, r.2, r.3, no_own_word v single (λ own. absurd (omega (arith, own, not))) r.4)
    ]

-- a load that finds what a store would leave is that store
pub allowed_find : (o : Opening) (count id : ℕ) (group : SeatViews) (slots : List (ℕ × ℕ)) (v : View) (event : Event) (place value : ℕ)
    → IsSingle group v
    → IsStepAt o v event place (λ _. value) ⊎ (May v event → ⊥)
    → Allows (Holds o) count id (group, slots) place (λ n. n) (λ found after. DidFind event value (group, slots) found after)
allowed_find o count id group slots v event place value single is s holds none at fits = elim (cases_eq (get_or s.words place 0) value) [
  | inl same ↦ elim is [
    | inl may ↦ let r = allowed o count id group slots v event place (λ _. value) single may s holds none at fits in
        (r.0, r.1, r.2, subst (λ x. Holds o (stepped s place x id slots r.0 r.1)) (sym same) r.3, stored same r.4)
    | inr not ↦ let r = allowed_load o count id group slots place s holds none at fits in (r.0, r.1, r.2, r.3, may_not same v single not r.4)
  ]
  | inr other ↦ let r = allowed_load o count id group slots place s holds none at fits in (r.0, r.1, r.2, r.3, another other r.4)
]
