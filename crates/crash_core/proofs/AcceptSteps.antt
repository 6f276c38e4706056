-- The core after a seat's accept stands for the state whose carrier is emptied.
use Rattle.std.proofs.Common.{◌≡◌, ◌≢◌, ℕ, ◌+◌, ◌<◌, ◌≤◌, inl, inr, List, get_or, set, length, None, nat_eq, refl, ap, sym, subst, ◌∙◌, length-set, arith}
use Rattle.std.proofs.lemmas.Bool.{cases_eq}
use Rattle.std.proofs.lemmas.List.{get_or-set_same, get_or-set_other}
use Rattle.heap_model.specs.Counting.{one_if}
use Rattle.core_model.specs.Carriers.{accepted, emptied, IsEmptied}
use Rattle.core_model.specs.Handing.{after_accept, MayAccept}
use Rattle.core_model.specs.Sound.{Sound}
use Rattle.core_model.specs.Steps.{TableState}
use Rattle.core_model.specs.View.{Setup, View, one_if_some}
use Rattle.core_model.proofs.EmptiedLemmas.{accept_counted, accept_sound, empties_carrier}
use Rattle.core_model.proofs.TotalLemmas.{total_set}
use Rattle.seat_state.specs.declared.notes.SeatNotes.{SeatNotes}
use Rattle.seat_state.specs.declared.notes.TheConstants.{NEW_SEAT}
use Rattle.crash_core.specs.declared.state.CoreState.{CoreState}
use Rattle.crash_core.specs.Standing.{AreInOrder, IsKept, IsSeatAt, KeepsViews, nobody, Represents}
use Rattle.crash_core.proofs.HandSteps.{HasOwn}
use Rattle.crash_core.proofs.StandingLemmas.{among, IsSameHeap}

module _ (c c' : CoreState) (k : Setup) (s : TableState) (i j : ℕ) (v u : View) (t : SeatNotes) (stands : Represents c k s)
    (at : get_or s.views i v ≡ v) (at_t : IsSeatAt c i t) (past : length c.seats.items ≤ j) (may : MayAccept s.views v j u)
    (words : c'.words.items ≡ c.words.items) (seats : c'.seats.items ≡ set c.seats.items i (record t { ticket = None }))
    (same : IsSameHeap c c') (mine : HasOwn c' i (accepted v u)) (left : HasOwn c' j (emptied u))
    (others : (e : ℕ) (y : View) → e ≢ i → e ≢ j → HasOwn c e y → HasOwn c' e y) where
  keeps : KeepsViews c k s.views
  keeps = stands.keeps

  below : i < length s.views
  below = among keeps at_t.less

  apart : j ≢ i
  apart e = let l = at_t.less in omega (arith, e, past, l)

  abbrev a : View
  a = accepted v u

  abbrev b : View
  b = emptied u

  abbrev noted : SeatNotes
  noted = record t { ticket = None }

  abbrev seated : List View
  seated = set s.views i a

  abbrev views' : List View
  views' = set seated j b

  long : length views' ≡ length s.views
  long = length-set seated j b ∙ length-set s.views i a

  same_seats : length c'.seats.items ≡ length c.seats.items
  same_seats = ap length seats ∙ length-set c.seats.items i noted

  below_seated : j < length seated
  below_seated = let l = length-set s.views i a in let m = may.below in omega arith

  -- the view at an index
  seat_is : (y : View) → get_or views' i y ≡ y → a ≡ y
  seat_is y at_y = sym (get_or-set_same s.views i a y below) ∙ sym (get_or-set_other seated j i b y (λ e. apart (sym e))) ∙ at_y

  carrier_is : (y : View) → get_or views' j y ≡ y → b ≡ y
  carrier_is y at_y = sym (get_or-set_same seated j b y below_seated) ∙ at_y

  other_is : (e : ℕ) (y : View) → e ≢ i → e ≢ j → get_or views' e y ≡ y → get_or s.views e y ≡ y
  other_is e y not_i not_j at_y = sym (get_or-set_other s.views i e a y not_i) ∙ sym (get_or-set_other seated j e b y not_j) ∙ at_y

  kept_mine : IsKept c' i noted a
  kept_mine = let old = keeps.each i t v below at_t at in let n = old.notes in record {
    notes = record {
      ticket = refl;
      stopped = n.stopped;
      seen_used = n.seen_used;
      seen_head = n.seen_head;
      seen_link = n.seen_link;
      seen_anchor = n.seen_anchor;
    };
    caches = old.caches;
    batch = old.batch;
    blocks = mine.blocks;
    superblocks = mine.superblocks;
    roots = record { is_owned = λ n. old.roots.is_owned n ∙ ap (λ os. one_if (nat_eq (get_or os n (i + 1)) i)) (sym same.roots) };
  }

  kept_left : IsKept c' j NEW_SEAT b
  kept_left = let old = keeps.carried j u past may.below may.at in let n = old.notes in record {
    notes = record {
      ticket = n.ticket;
      stopped = n.stopped;
      seen_used = n.seen_used;
      seen_head = n.seen_head;
      seen_link = n.seen_link;
      seen_anchor = n.seen_anchor;
    };
    caches = old.caches;
    batch = old.batch;
    blocks = left.blocks;
    superblocks = left.superblocks;
    roots = record { is_owned = λ n. old.roots.is_owned n ∙ ap (λ os. one_if (nat_eq (get_or os n (j + 1)) j)) (sym same.roots) };
  }

  kept_other : (e : ℕ) (r : SeatNotes) (y : View) → e ≢ i → e ≢ j → IsKept c e r y → IsKept c' e r y
  kept_other e r y not_i not_j h = let o = others e y not_i not_j (record { blocks = h.blocks; superblocks = h.superblocks }) in record {
    notes = h.notes;
    caches = h.caches;
    batch = h.batch;
    blocks = o.blocks;
    superblocks = o.superblocks;
    roots = record { is_owned = λ n. h.roots.is_owned n ∙ ap (λ os. one_if (nat_eq (get_or os n (e + 1)) e)) (sym same.roots) };
  }

  keeps' : KeepsViews c' k views'
  keeps' = record {
    sound = subst (λ ws. Sound k ws views') (sym words) (accept_sound k s.views i j v u apart below at may.below may.at c.words.items
        may.carrier keeps.sound);
    capacity = keeps.capacity ∙ sym same.capacity;
    budget = keeps.budget ∙ sym same.budget;
    opened = keeps.opened ∙ sym same_seats;
    low = keeps.low;
    few = subst (λ n. n < 4611686018427387904) (sym long) keeps.few;
    seats = (let l = long in let n = keeps.seats in let s' = same_seats in let m = same.carriers in omega arith);
    blocks = same.blocks ∙ keeps.blocks;
    superblocks = same.superblocks ∙ keeps.superblocks;
    roots = ap length same.roots ∙ keeps.roots;
    each = λ e r y below_e at_r at_y.
        let less : e < length c.seats.items = subst (λ n. e < n) same_seats at_r.less in elim (cases_eq e i) [
          | inl here ↦
              let is_t : noted ≡ r = sym (get_or-set_same c.seats.items i noted r at_t.less)
              ∙ subst (λ n. get_or (set c.seats.items i noted) n r ≡ r) here (subst (λ l. get_or l e r ≡ r) seats at_r.at) in
              subst (λ n. IsKept c' n r y) (sym here) (subst (λ x. IsKept c' i x y) is_t
              (subst (λ x. IsKept c' i noted x) (seat_is y (subst (λ n. get_or views' n y ≡ y) here at_y)) kept_mine))
          | inr other ↦
              let not_j : e ≢ j = (λ h. omega (arith, h, less, past)) in
              kept_other e r y other not_j (keeps.each e r y (among keeps less)
              (record { less = less; at = sym (get_or-set_other c.seats.items i e noted r other) ∙ subst (λ l. get_or l e r ≡ r) seats at_r.at })
              (other_is e y other not_j at_y))
        ];
    carried = λ e y past_e below_e at_y.
        let not_i : e ≢ i = (λ h. let p = past_e in let n = same_seats in let l = at_t.less in omega (arith, h, p, n, l)) in elim (cases_eq e j) [
          | inl here ↦ subst (λ n. IsKept c' n NEW_SEAT y) (sym here) (subst (IsKept c' j NEW_SEAT)
              (carrier_is y (subst (λ n. get_or views' n y ≡ y) here at_y)) kept_left)
          | inr other ↦ kept_other e NEW_SEAT y not_i other (keeps.carried e y (subst (λ n. n ≤ e) same_seats past_e)
              (subst (λ n. e < n) long below_e) (other_is e y not_i other at_y))
        ];
    none = λ e past_e. kept_other e NEW_SEAT (nobody k) (λ h. let l = long in let p = past_e in
        omega (arith, h, l, p, below)) (λ h. let l = long in let p = past_e in let m = may.below in
        omega (arith, h, l, p, m)) (keeps.none e (subst (λ n. n ≤ e) long past_e));
  }

  seat_below : i < k.seats
  seat_below = subst (λ n. i < n) (sym keeps.opened) at_t.less

  behind_seats : k.seats ≤ j
  behind_seats = subst (λ n. n ≤ j) (sym keeps.opened) past

  order' : AreInOrder k views'
  order' = record {
    counted = accept_counted k s.views i j v u apart below at may.below may.at may.may.seat may.carrier stands.order.counted;
    few = stands.order.few;
    all = subst (λ n. k.seats ≤ n) (sym long) stands.order.all;
    first = λ e y less at_y. elim (cases_eq e i) [
      | inl here ↦ ap (λ (x : View). x.carries) (sym (seat_is y (subst (λ n. get_or views' n y ≡ y) here at_y))) ∙ may.may.seat
      | inr other ↦ stands.order.first e y less (other_is e y other (λ h. let p = behind_seats in omega (arith, h, less, p)) at_y)
    ];
    behind = λ e y past_e below_e at_y. elim (cases_eq e j) [
      | inl here ↦ inr (subst IsEmptied (carrier_is y (subst (λ n. get_or views' n y ≡ y) here at_y)) (empties_carrier u may.carrier))
      | inr other ↦ stands.order.behind e y past_e (subst (λ n. e < n) long below_e)
          (other_is e y (λ h. let l = seat_below in omega (arith, h, past_e, l)) other at_y)
    ];
  }

  pub accept_stands : Represents c' k (after_accept s i j v u)
  accept_stands = record {
    words = words ∙ stands.words;
    keeps = keeps';
    order = order';
    made = (let l = long in let m = stands.made in let t' = total_set (λ (x : View). one_if_some x.ticket) s.views i v a below at in
        let b' = total_set (λ (x : View). one_if_some x.ticket) seated j u b below_seated (get_or-set_other s.views i j a u apart ∙ may.at) in
        omega arith);
  }
