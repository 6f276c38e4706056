-- What a sound state comes to is sound.
use Rattle.std.proofs.Common.{◌≡◌, ◌⊎◌, ℕ, zero, suc, ◌+◌, ◌-◌, ◌<◌, ◌≤◌, inl, inr, true, List, [], ◌∷◌, Contains, get_or, set, length, refl, ap, sym, subst, ◌∙◌, arith}
use Rattle.heap_model.specs.Rest.{IsReady}
use Rattle.core_model.specs.Cells.{cell_at, is_cell}
use Rattle.core_model.specs.Guards.{IsOwn}
use Rattle.core_model.specs.Memory.{Memory, memory_of}
use Rattle.core_model.specs.Opening.{AreOwners}
use Rattle.core_model.specs.Sound.{Good, Sound}
use Rattle.core_model.specs.Steps.{TableState, found_by, seat_after}
use Rattle.core_model.specs.View.{Setup, View, times_own}
use Rattle.core_model.proofs.OpenedLemmas.{opened}
use Rattle.core_model.specs.Carriers.{AreSeatsAndCarriers, carrier_of, IsCarrier, IsEmptied, offered, one_if_carrier}
use Rattle.core_model.specs.Opening.{tabulate}
use Rattle.core_model.proofs.CarrierLemmas.{join_sound, one_set}
use Rattle.core_model.proofs.OfferLemmas.{accepts_one, offer_sound, offers_one, same_roles, same_seats}
use Rattle.core_model.proofs.RoleLemmas.{Role, role_after}
use Rattle.core_model.proofs.TotalLemmas.{total_same}
use Rattle.heap_model.proofs.MemberLemmas.{head_or_rest, in_none}
use Rattle.std.proofs.lemmas.List.Elements.{Contains-append_cases}
use Rattle.core_model.proofs.OrderLemmas.{reordered}
use Rattle.core_model.proofs.OwnStepLemmas.{learns}
use Rattle.core_model.proofs.PlaceLemmas.{pick, cell_there, index_at}
use Rattle.core_model.proofs.SoundLemmas.{sound_step}
use Rattle.heap_table.specs.AtTable.{IsClosedReached, IsClosedSound}
use Rattle.heap_table.specs.Reached.{IsReached, at_opening, by_event, by_record, by_offer, by_accept, in_another_order, learned}
use Rattle.heap_table.specs.Rule.{Opening, setup_for, state_of, opened_view_of}

-- an own word that is read and recorded
pub recorded_sound : (k : Setup) (words : List ℕ) (views : List View) (i : ℕ) (v : View) (word : ℕ) → i < length views → get_or views i v ≡ v
    → IsOwn v (cell_at k.capacity word) → Sound k words views
    → Sound k words (set views i (learned v word (get_or words word 0)))
recorded_sound k words views i v word below at own sound = record {
  some = sound.some;
  long = sound.long;
  fixed = sound.fixed;
  capacity = sound.capacity;
  used = sound.used;
  good = subst (λ x. Good k m (set views i (learned v word x))) (sym value_is)
      (subst (λ (h : Setup). Good k m (set views i (learned v word (m.volatile (cell_at h.capacity word))))) same
      (learns k m views i v below at sound.good word (subst (λ (h : Setup). IsOwn v (cell_at h.capacity word)) (sym same) own)));
} where
  same : v.setup ≡ k
  same = (sound.good.set_up i v below at).setup

  m : Memory
  m = memory_of k.capacity words

  -- an own word is one of the image
  there : is_cell k.capacity (cell_at k.capacity word) ≡ true
  there = elim (cell_there k.capacity word) [ inl yes_there ↦ yes_there | inr nowhere ↦ absurd (let e = ap (times_own v) nowhere in omega arith) ]

  value_is : get_or words word 0 ≡ m.volatile (cell_at k.capacity word)
  value_is = ap (λ n. get_or words n 0) (sym (index_at k.capacity word there)) ∙ sym (pick (is_cell k.capacity (cell_at k.capacity word)) _ _ there)

-- a seat or a carrier that records a word is one still
pub recorded_counted : (k : Setup) (views : List View) (i : ℕ) (v : View) (word value : ℕ) → i < length views → get_or views i v ≡ v
    → AreSeatsAndCarriers k views → AreSeatsAndCarriers k (set views i (learned v word value))
recorded_counted k views i v word value below at are = record {
  seats = total_same (λ (x : View). 1 - x.carries) views i v (learned v word value) below at refl ∙ are.seats;
  carriers = (let c = total_same one_if_carrier views i v (learned v word value) below at refl in
      let a = total_same (λ (x : View). x.accepts) views i v (learned v word value) below at refl in
      let o = total_same (λ (x : View). x.offers) views i v (learned v word value) below at refl in let old = are.carriers in omega arith);
  each = one_set views i (learned v word value) (λ y. (y.carries ≡ 0) ⊎ IsCarrier y ⊎ IsEmptied y) are.each (elim (are.each v (i, below, at)) [
    | inl seat ↦ inl seat
    | inr (inl c) ↦ inr (inl (record {
      is_one = c.is_one;
      roots = c.roots;
      free = c.free;
      claims = c.claims;
      tickets = c.tickets;
      counts = c.counts;
      handed = c.handed;
    }))
    | inr (inr e) ↦ inr (inr (record {
      is_two = e.is_two;
      held = e.held;
      was = let c = e.was in record {
        is_one = c.is_one;
        roots = c.roots;
        free = c.free;
        claims = c.claims;
        tickets = c.tickets;
        counts = c.counts;
        handed = c.handed;
      };
    }))
  ]);
}

pub reached_sound : (k : Setup) (start : TableState) → Sound k start.words start.views → (words : List ℕ) (views : List View)
    → IsReached k start words views → Sound k words views
reached_sound k start first _ _ at_opening = first
reached_sound k start first _ _ (by_event words views i v event before below at seat may) =
    sound_step k words views i v event below at (reached_sound k start first words views before) may
reached_sound k start first _ _ (by_record words views i v word before below at own) =
    recorded_sound k words views i v word below at own (reached_sound k start first words views before)
reached_sound k start first _ _ (by_offer words views i v b before below at may held) =
    offer_sound k words views i v b.first_word below at (reached_sound k start first words views before)
reached_sound k start first _ _ (by_accept words old new v u before has_v has_u may carries less) =
    join_sound k words old new v u has_v has_u carries less (reached_sound k start first words old before)
reached_sound k start first _ _ (in_another_order words old new before same) =
    reordered k words old new same (reached_sound k start first words old before)

-- no seat and no carrier is lost on the way
pub reached_counted : (k : Setup) (start : TableState) → AreSeatsAndCarriers k start.views → (words : List ℕ) (views : List View)
    → IsReached k start words views → AreSeatsAndCarriers k views
reached_counted k start first _ _ at_opening = first
reached_counted k start first _ _ (by_event words views i v event before below at seat may) =
    same_roles k views i v (seat_after (memory_of k.capacity words) v event) below at (reached_counted k start first words views before) seat
    (role_after (memory_of k.capacity words) v event (found_by (memory_of k.capacity words) v event))
reached_counted k start first _ _ (by_record words views i v word before below at own) =
    recorded_counted k views i v word (get_or words word 0) below at (reached_counted k start first words views before)
reached_counted k start first _ _ (by_offer words views i v b before below at may held) =
    offers_one k views i v (offered v b.first_word) below at (reached_counted k start first words views before) b.first_word may.seat refl
reached_counted k start first _ _ (by_accept words old new v u before has_v has_u may carries less) =
    accepts_one k old new v u may.seat carries less (reached_counted k start first words old before)
reached_counted k start first _ _ (in_another_order words old new before same) =
    same_seats k old new same (reached_counted k start first words old before)

-- no carrier stays once its block was accepted
pub reached_filled : (k : Setup) (start : TableState) → ((v : View) → Contains start.views v → v.carries ≤ 1)
    → (words : List ℕ) (views : List View) → IsReached k start words views
    → (v : View) → Contains views v → v.carries ≤ 1
reached_filled k start first _ _ at_opening v there = first v there
reached_filled k start first _ _ (by_event words views i u event before below at seat may) v there =
    one_set views i (seat_after (memory_of k.capacity words) u event) (λ x. x.carries ≤ 1) (reached_filled k start first words views before)
    (let same = ap (λ (r : Role). r.carries) (role_after (memory_of k.capacity words) u event
    (found_by (memory_of k.capacity words) u event)) in omega arith) v there
reached_filled k start first _ _ (by_record words views i u word before below at own) v there =
    one_set views i (learned u word (get_or words word 0)) (λ x. x.carries ≤ 1) (reached_filled k start first words views before)
    (reached_filled k start first words views before u (i, below, at)) v there
reached_filled k start first _ _ (by_offer words views i u b before below at may held) v there =
    elim (Contains-append_cases (set views i (offered u b.first_word)) (carrier_of u b.first_word ∷ []) v there) [
      | inl seat ↦ one_set views i (offered u b.first_word) (λ x. x.carries ≤ 1) (reached_filled k start first words views before)
          (reached_filled k start first words views before u (i, below, at)) v seat
      | inr carrier ↦ elim (head_or_rest (carrier_of u b.first_word) v [] carrier) [
        | inl same ↦ (let one = ap (λ (x : View). x.carries) same in
            omega arith)
        | inr none ↦ absurd (in_none v none)
      ]
    ]
reached_filled k start first _ _ (by_accept words old new u c before has_u has_c may carries less) v there = elim (less.members v there) [
  | inl same ↦ (let is = ap (λ (x : View). x.carries) same in let seat = may.seat in omega arith)
  | inr other ↦ reached_filled k start first words old before v other
]
reached_filled k start first _ _ (in_another_order words old new before same) v there =
    reached_filled k start first words old before v (same.members v there)

pub opened_filled : (o : Opening) (v : View) → Contains (state_of o).views v → v.carries ≤ 1
opened_filled o v there = go 0 o.seats there where
  go : (i n : ℕ) → Contains (tabulate (opened_view_of o) i n) v → v.carries ≤ 1
  go i zero none = absurd (in_none v none)
  go i (suc n) one = elim (head_or_rest (opened_view_of o i) v (tabulate (opened_view_of o) (i + 1) n) one)
      [ inl same ↦ (let is = ap (λ (x : View). x.carries) same in omega arith) | inr later ↦ go (i + 1) n later ]

-- the seats of a heap that is opened
pub opened_counted : (o : Opening) → AreSeatsAndCarriers (setup_for o) (state_of o).views
opened_counted o = from 0 o.seats where
  from : (i n : ℕ) → AreSeatsAndCarriers (record (setup_for o) { seats = n }) (tabulate (opened_view_of o) i n)
  from i zero = record { seats = refl; carriers = refl; each = λ v there. absurd (in_none v there) }
  from i (suc n) = let rest = from (i + 1) n in let s = rest.seats in let c = rest.carriers in record {
    seats = omega arith;
    carriers = omega arith;
    each = λ v there. elim (head_or_rest (opened_view_of o i) v (tabulate (opened_view_of o) (i + 1) n) there)
        [ inl same ↦ inl (ap (λ (x : View). x.carries) (sym same)) | inr later ↦ rest.each v later ];
  }

pub closed_reached_sound : (o : Opening) (now kept : List ℕ) (views : List View) → IsReady o.words o.held
    → AreOwners o.held o.seats o.block_owners o.root_owners → IsClosedReached o now kept views
    → IsClosedSound (setup_for o) now kept views
closed_reached_sound o now kept views ready owners closed = record {
  now_long = closed.now_long;
  kept_long = closed.kept_long;
  drawn = closed.drawn;
  sound = reached_sound (setup_for o) _ (opened o.words o.held o.budget o.seats o.block_owners o.root_owners ready owners) _ views closed.reached;
  counted = reached_counted (setup_for o) (state_of o) (opened_counted o) _ views closed.reached;
}
