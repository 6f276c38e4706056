-- A seat that offers a block keeps the heap sound, and the carriers stay counted.
use Rattle.std.proofs.Common.{◌≡◌, ℕ, zero, suc, ◌+◌, ◌-◌, ◌<◌, ◌≤◌, ◌⊎◌, inl, inr, false, nat_eq, set, List, [], ◌∷◌, ◌++◌, Contains, get_or, length, None, refl, ap, sym, subst, ◌∙◌, length-set, arith}
use Rattle.std.proofs.lemmas.List.{get_or-set_same}
use Rattle.std.proofs.lemmas.List.Elements.{Contains-append_cases}
use Rattle.heap_model.specs.Counting.{total, one_if}
use Rattle.heap_model.proofs.MemberLemmas.{in_head, in_rest, in_none, head_or_rest}
use Rattle.core_model.specs.Memory.{Memory, memory_of}
use Rattle.core_model.specs.View.{Setup, View, one_if_some}
use Rattle.core_model.specs.Sound.{Good, Sound}
use Rattle.core_model.specs.Carriers.{IsCarrier, IsEmptied, one_if_carrier, one_block, offered, carrier_of, accepted, AreOneLess, AreSeatsAndCarriers}
use Rattle.core_model.specs.Orders.{AreReordered}
use Rattle.core_model.specs.Splitting.{chosen}
use Rattle.core_model.proofs.EventStepLemmas.{seat_at}
use Rattle.core_model.proofs.QuietLemmas.{none_drawn, ticket_given_up, quiet, words_same}
use Rattle.core_model.proofs.SplittingLemmas.{split_seat}
use Rattle.core_model.proofs.ChosenLemmas.{total_behind}
use Rattle.core_model.proofs.TicketLemmas.{one_at_most}
use Rattle.core_model.proofs.RoleLemmas.{Role, role}
use Rattle.core_model.proofs.TotalLemmas.{total_set, total_same}
use Rattle.core_model.proofs.CarrierLemmas.{one_set}

-- a ticket that is used up for nothing
pub spend : (k : Setup) (m : Memory) (views : List View) (i : ℕ) (v : View) → i < length views → get_or views i v ≡ v → Good k m views
    → (offers : ℕ) → Good k m (set views i (record v { ticket = None; offers = offers }))
spend k m views i v below at good offers = let s = seat_at k m views good i v below at in
    quiet k m views i v (record v { ticket = None; offers = offers }) below at good refl refl
    (let x = s.set_up in record {
      setup = x.setup;
      small = x.small;
      roots = x.roots;
      caches = x.caches;
      looks = x.looks;
      volatile = x.volatile;
      durable = x.durable;
    })
    (let x = s.knows in record {
      seen_head = x.seen_head;
      seen_used = x.seen_used;
      looked = x.looked;
      seen_anchor = x.seen_anchor;
      seen_empty = x.seen_empty;
      floor = x.floor;
    })
    (words_same k.capacity m v (record v { ticket = None; offers = offers }) refl refl refl s.words)
    (let t = s.tickets in record {
      ticket = none_drawn m.drawn;
      last = t.last;
      used_look = t.used_look;
      head_looks = t.head_looks;
      counts = let c = t.counts in omega arith;
      state = ticket_given_up k.budget v (record v { ticket = None; offers = offers }) t.state refl refl refl;
      looked_then = t.looked_then;
      gives = t.gives;
      cuts = t.cuts;
    })
    (omega arith) (omega arith)

-- the carrier that a seat makes
pub carries_block : (v : View) (block : ℕ) → IsCarrier (carrier_of v block)
carries_block v block = record {
  is_one = refl;
  roots = no_roots v.roots;
  free = (refl, refl);
  claims = (refl, refl, refl, refl);
  tickets = (refl, refl);
  counts = (refl, refl, refl, refl, refl, refl, refl);
  handed = (refl, refl);
} where
  no_roots : (roots : List ℕ) → chosen (λ i. false) roots ≡ []
  no_roots [] = refl
  no_roots (x ∷ roots) = no_roots roots

pub twice : (xs : List View) (i : ℕ) (a b : View) → set (set xs i a) i b ≡ set xs i b
twice [] i a b = refl
twice (x ∷ xs) zero a b = refl
twice (x ∷ xs) (suc i) a b = ap (λ l. x ∷ l) (twice xs i a b)

-- a seat that offers a block
pub offer_good : (k : Setup) (m : Memory) (views : List View) (i : ℕ) (v : View) (block : ℕ) → i < length views → get_or views i v ≡ v
    → Good k m views → Good k m (set views i (offered v block) ++ carrier_of v block ∷ [])
offer_good k m views i v block below at good = subst (λ l. Good k m (l ++ carrier_of v block ∷ [])) (twice views i spent (offered v block))
    (split_seat k m (set views i spent) i spent (let l = length-set views i spent in
    omega arith) (get_or-set_same views i spent spent below) (spend k m views i v below at good (v.offers + 1))
    (one_block v.setup.capacity block)) where
      spent : View
      spent = record v { ticket = None; offers = v.offers + 1 }

pub offer_sound : (k : Setup) (words : List ℕ) (views : List View) (i : ℕ) (v : View) (block : ℕ) → i < length views → get_or views i v ≡ v
    → Sound k words views → Sound k words (set views i (offered v block) ++ carrier_of v block ∷ [])
offer_sound k words views i v block below at sound = record {
  some = sound.some;
  long = sound.long;
  fixed = sound.fixed;
  capacity = sound.capacity;
  used = sound.used;
  good = offer_good k (memory_of k.capacity words) views i v block below at sound.good;
}

-- the seats and the carriers after an event of a seat
module _ (k : Setup) (views : List View) (i : ℕ) (v w : View) (below : i < length views) (at : get_or views i v ≡ v)
    (are : AreSeatsAndCarriers k views) where
  pub same_roles : v.carries ≡ 0 → role w ≡ role v → AreSeatsAndCarriers k (set views i w)
  same_roles seat same = record {
    seats = total_same (λ (x : View). 1 - x.carries) views i v w below at (ap (λ (r : Role). 1 - r.carries) same) ∙ are.seats;
    carriers = (let c = total_same one_if_carrier views i v w below at (ap (λ (r : Role). one_if (nat_eq r.carries 1)) same) in
        let a = total_same (λ (x : View). x.accepts) views i v w below at (ap (λ (r : Role). r.accepts) same) in
        let o = total_same (λ (x : View). x.offers) views i v w below at (ap (λ (r : Role). r.offers) same) in let old = are.carriers in omega arith);
    each = λ x there. one_set views i w (λ y. (y.carries ≡ 0) ⊎ IsCarrier y ⊎ IsEmptied y) are.each
        (inl (ap (λ (r : Role). r.carries) same ∙ seat)) x there;
  }

  -- after an offer
  pub offers_one : (block : ℕ) → v.carries ≡ 0 → w ≡ offered v block → AreSeatsAndCarriers k (set views i w ++ carrier_of v block ∷ [])
  offers_one block seat is = record {
    seats = (let t = total_behind (λ (x : View). 1 - x.carries) (set views i w) (carrier_of v block) in
        let s = total_same (λ (x : View). 1 - x.carries) views i v w below at (ap (λ (x : View). 1 - x.carries) is) in let old = are.seats in
        omega arith);
    carriers = (let c = total_behind one_if_carrier (set views i w) (carrier_of v block) in
        let c' = total_same one_if_carrier views i v w below at (ap one_if_carrier is) in
        let a = total_behind (λ (x : View). x.accepts) (set views i w) (carrier_of v block) in
        let a' = total_same (λ (x : View). x.accepts) views i v w below at (ap (λ (x : View). x.accepts) is) in
        let o = total_behind (λ (x : View). x.offers) (set views i w) (carrier_of v block) in
        let o' = total_set (λ (x : View). x.offers) views i v w below at in let more = ap (λ (x : View). x.offers) is in
        let old = are.carriers in omega arith);
    each = λ x there. elim (Contains-append_cases (set views i w) (carrier_of v block ∷ []) x there) [
      | inl before ↦ one_set views i w (λ y. (y.carries ≡ 0) ⊎ IsCarrier y ⊎ IsEmptied y) are.each
          (inl (ap (λ (x : View). x.carries) is ∙ seat)) x before
      | inr last ↦ elim (head_or_rest (carrier_of v block) x [] last)
          [ inl same ↦ inr (inl (subst IsCarrier same (carries_block v block))) | inr none ↦ absurd (in_none x none) ]
    ];
  }

-- after an accept
pub accepts_one : (k : Setup) (old new : List View) (v u : View) → v.carries ≡ 0 → IsCarrier u → AreOneLess old new v u (accepted v u)
    → AreSeatsAndCarriers k old → AreSeatsAndCarriers k new
accepts_one k old new v u seat carries less are = record {
  seats = (let s = less.sums (λ (x : View). 1 - x.carries) in let c = carries.is_one in let was = are.seats in omega arith);
  carriers = (let c = less.sums one_if_carrier in let a = less.sums (λ (x : View). x.accepts) in let o = less.sums (λ (x : View). x.offers) in
      let one = ap (λ n. one_if (nat_eq n 1)) carries.is_one in let h = carries.handed in let p = h.0 in let q = h.1 in
      let was = are.carriers in omega arith);
  each = λ x there. elim (less.members x there) [ inl same ↦ inl (ap (λ (y : View). y.carries) (sym same) ∙ seat) | inr before ↦ are.each x before ];
}

-- in another order
pub same_seats : (k : Setup) (old new : List View) → AreReordered old new → AreSeatsAndCarriers k old → AreSeatsAndCarriers k new
same_seats k old new same are = record {
  seats = same.sums (λ (x : View). 1 - x.carries) ∙ are.seats;
  carriers = (let c = same.sums one_if_carrier in let a = same.sums (λ (x : View). x.accepts) in let o = same.sums (λ (x : View). x.offers) in
      let was = are.carriers in omega arith);
  each = λ x there. are.each x (same.members x there);
}

-- the seats that stopped are at most those that there are
pub stopped_few : (k : Setup) (views : List View) → AreSeatsAndCarriers k views → total (λ (x : View). one_if_some x.stopped) views ≤ k.seats
stopped_few k views are = let l = go views are.each in let s = are.seats in omega arith where
  here : (x : View) → (x.carries ≡ 0) ⊎ IsCarrier x ⊎ IsEmptied x → one_if_some x.stopped ≤ 1 - x.carries
  here x (inl seat) = let m = one_at_most x.stopped in omega arith
  here x (inr (inl carrier)) = let z = ap one_if_some carrier.tickets.1 in omega arith
  here x (inr (inr empty)) = let z = ap one_if_some empty.was.tickets.1 in omega arith

  go : (xs : List View) → ((x : View) → Contains xs x → (x.carries ≡ 0) ⊎ IsCarrier x ⊎ IsEmptied x)
      → total (λ (x : View). one_if_some x.stopped) xs ≤ total (λ (x : View). 1 - x.carries) xs
  go [] each = omega arith
  go (x ∷ xs) each = let h = here x (each x (in_head x xs)) in let rest = go xs (λ y there. each y (in_rest x y xs there)) in omega arith
