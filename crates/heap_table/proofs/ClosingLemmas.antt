-- The seats of a closed table, and its words.
use Rattle.std.proofs.Common.{◌≡◌, ◌⊎◌, inl, inr, ℕ, zero, suc, nat_eq, ◌+◌, ◌-◌, ◌*◌, ◌≤◌, Contains, List, [], ◌∷◌, ◌++◌, get_or, take, drop, length, length-append, length-drop, refl, ap, sym, subst, ◌∙◌, arith}
use Rattle.std.proofs.lemmas.List.{append-nil, take-append-drop, length-take-le}
use mathlib.Core.Option.{some, some-injective, some-ne-none}
use lib.ListN.{get_elem?}
use Rattle.atomic_table.specs.Table.{Final, Seen}
use Rattle.heap_model.specs.Geometry.{image_words}
use Rattle.heap_model.specs.Counting.{total, one_if}
use Rattle.heap_model.proofs.MemberLemmas.{in_head, in_rest}
use Rattle.std.proofs.lemmas.List.Elements.{Contains-append_left, Contains-append_right, Contains-append_cases}
use Rattle.heap_model.proofs.CountingLemmas.{total_append}
use Rattle.core_model.specs.Carriers.{AreSeatsAndCarriers, IsCarrier, IsEmptied, one_if_carrier}
use Rattle.core_model.specs.View.{Setup, View}
use Rattle.core_model.specs.Sound.{Sound}
use Rattle.heap_table.specs.AtTable.{AreAll, IsClosedReached, IsClosedSound}
use Rattle.heap_table.specs.Reached.{IsReached}
use Rattle.heap_table.specs.Rule.{Opening, HasAllSeats, Holds, setup_for, state_of}
use Rattle.heap_table.specs.SeatViews.{SeatViews, all_views}
use Rattle.heap_table.proofs.DealLemmas.{length_total}
use Rattle.heap_table.proofs.ReachedLemmas.{opened_filled, reached_filled}

none_left : (xs : List View) → length xs ≡ 0 → xs ≡ []
none_left [] none = refl
none_left (x ∷ xs) none = absurd (omega (arith, none))

one_in_all : (groups : List SeatViews) (id : ℕ) (group : SeatViews) → get_elem? groups id ≡ some group → length group ≤ length (all_views groups)
one_in_all [] id group at = absurd (some-ne-none group (sym at))
one_in_all (j ∷ groups) zero group at = let same = ap length (some-injective j group at) in let l = length-append j (all_views groups) in omega arith
one_in_all (j ∷ groups) (suc id) group at = let rest = one_in_all groups id group at in let l = length-append j (all_views groups) in omega arith

-- the sum over all views is the one over those of a seat of the table, and over others, each of which is one of all
record HasOthers (groups : List SeatViews) (group : SeatViews) : Type 0 where
  rest : List View
  sums : (f : View → ℕ) → total f (all_views groups) ≡ total f group + total f rest
  members : (v : View) → Contains rest v → Contains (all_views groups) v

others_of : (groups : List SeatViews) (id : ℕ) (group : SeatViews) → get_elem? groups id ≡ some group → HasOthers groups group
others_of [] id group at = absurd (some-ne-none group (sym at))
others_of (j ∷ groups) zero group at = record {
  rest = all_views groups;
  sums = λ f. let a = total_append f j (all_views groups) in let same = ap (total f) (some-injective j group at) in omega arith;
  members = λ v there. Contains-append_right j (all_views groups) v there;
}
others_of (j ∷ groups) (suc id) group at = let o = others_of groups id group at in record {
  rest = j ++ o.rest;
  sums = λ f. let a = total_append f j (all_views groups) in let b = total_append f j o.rest in let s = o.sums f in omega arith;
  members = λ v there. elim (Contains-append_cases j o.rest v there)
      [ inl here ↦ Contains-append_left j (all_views groups) v here | inr later ↦ Contains-append_right j (all_views groups) v (o.members v later) ];
}

-- views of which none is a seat are carriers, which offered and accepted nothing
no_seats : (rest : List View) → ((v : View) → Contains rest v → (v.carries ≡ 0) ⊎ IsCarrier v ⊎ IsEmptied v)
    → ((v : View) → Contains rest v → v.carries ≤ 1) → total (λ (v : View). 1 - v.carries) rest ≡ 0
    → (total (λ (v : View). v.carries) rest ≡ length rest) × (total (λ (v : View). v.offers) rest ≡ 0)
no_seats [] each filled none = (refl, refl)
no_seats (v ∷ rest) each filled none = let later = no_seats rest (λ x there. each x (in_rest v x rest there))
    (λ x there. filled x (in_rest v x rest there)) (omega (arith, none)) in elim (each v (in_head v rest)) [
      | inl seat ↦ absurd (omega (arith, none, seat))
      | inr (inr empty) ↦ absurd (let f = filled v (in_head v rest) in omega (arith, f, empty.is_two))
      | inr (inl carrier) ↦ let one = carrier.is_one in let o = carrier.handed.0 in let p = later.0 in let q = later.1 in (omega arith, omega arith)
    ]

-- of views of which none is emptied, the carriers
filled_carriers : (views : List View) → ((v : View) → Contains views v → v.carries ≤ 1)
    → total one_if_carrier views ≡ total (λ (v : View). v.carries) views
filled_carriers [] filled = refl
filled_carriers (v ∷ views) filled = let rest = filled_carriers views (λ x there. filled x (in_rest v x views there)) in
    let here = one v.carries (filled v (in_head v views)) in omega arith where
      one : (n : ℕ) → n ≤ 1 → one_if (nat_eq n 1) ≡ n
      one zero low = refl
      one (suc zero) low = refl
      one (suc (suc n)) low = absurd (omega (arith, low))

-- where one seat of the table stands for all seats and for each carrier that is not taken in, as many views as it has are there
as_many : (k : Setup) (groups : List SeatViews) (id : ℕ) (group : SeatViews) → get_elem? groups id ≡ some group
    → AreSeatsAndCarriers k (all_views groups) → ((v : View) → Contains (all_views groups) v → v.carries ≤ 1) → AreAll k.seats group
    → length (all_views groups) ≡ length group
as_many k groups id group at are filled all =
    let o = others_of groups id group at in
    let s = o.sums (λ (v : View). 1 - v.carries) in let c = o.sums (λ (v : View). v.carries) in let a = o.sums (λ (v : View). v.accepts) in
    let f = o.sums (λ (v : View). v.offers) in
    let n = o.sums (λ (v : View). 1) in let l = length_total (all_views groups) in let l' = length_total group in let r = length_total o.rest in
    let x = are.seats in let y = are.carriers in let e = filled_carriers (all_views groups) filled in let z = all.seats_are in
    let w = all.carriers_are in
    let none = no_seats o.rest (λ v there. are.each v (o.members v there)) (λ v there. filled v (o.members v there)) (omega (arith, s, x, z)) in
    let p = none.0 in let q = none.1 in omega arith

-- where one seat of the table stands for as many seats as there are, no other stands for any
all_in_one : (groups : List SeatViews) (id : ℕ) (group : SeatViews) → get_elem? groups id ≡ some group
    → length (all_views groups) ≡ length group → all_views groups ≡ group
all_in_one [] id group at count = absurd (some-ne-none group (sym at))
all_in_one (j ∷ groups) zero group at count =
    let same = ap length (some-injective j group at) in let l = length-append j (all_views groups) in
    ap (λ vs. j ++ vs) (none_left (all_views groups) (omega arith)) ∙ append-nil j ∙ some-injective j group at
all_in_one (j ∷ groups) (suc id) group at count =
    let least = one_in_all groups id group at in let l = length-append j (all_views groups) in
    ap (λ vs. vs ++ all_views groups) (none_left j (omega arith)) ∙ all_in_one groups id group at (omega arith)

pub one_left : (xs : List ℕ) → length xs ≡ 1 → xs ≡ get_or xs 0 0 ∷ []
one_left [] one = absurd (omega (arith, one))
one_left (x ∷ []) one = refl
one_left (x ∷ y ∷ xs) one = absurd (omega (arith, one))

-- the words are the volatile ones, the durable ones and the ticket word
pub three_parts : (words : List ℕ) (n : ℕ) → length words ≡ 2 * n + 1
    → words ≡ take n words ++ (take n (drop n words) ++ (get_or (drop n (drop n words)) 0 0 ∷ []))
three_parts words n long = sym (take-append-drop n words)
    ∙ ap (λ ws. take n words ++ ws) (sym (take-append-drop n (drop n words))
    ∙ ap (λ ws. take n (drop n words) ++ ws) (one_left (drop n (drop n words)) one)) where
      one : length (drop n (drop n words)) ≡ 1
      one = let a = length-drop n words in let b = length-drop n (drop n words) in omega arith

-- what the table leaves, where one seat of it stood for all seats
module _ (o : Opening) (words slots : List ℕ) (id n : ℕ) (group : SeatViews) (final : Final (Seen (Holds o) id group) words slots)
    (all : AreAll o.seats group) (half : n ≡ image_words (setup_for o).capacity) where
  keeps : HasAllSeats o final.0.words final.0.views
  keeps = final.1.0

  long : length words ≡ 2 * n + 1
  long = let l = keeps.sound.long in let same = ap length final.2 in omega arith

  -- what the rule says of the last state is so of the parts that its words are read off in
  told : (P : List ℕ → List View → Type 0) → P final.0.words (all_views final.0.views)
      → P (take n words ++ (take n (drop n words) ++ (get_or (drop n (drop n words)) 0 0 ∷ []))) group
  told P p = subst (λ ws. P ws group) (three_parts words n long)
      (subst (P words) (all_in_one final.0.views id group final.1.1 (as_many (setup_for o) final.0.views id group final.1.1 keeps.counted
      (reached_filled (setup_for o) (state_of o) (opened_filled o) final.0.words (all_views final.0.views) keeps.reached) all))
      (subst (λ ws. P ws (all_views final.0.views)) final.2 p))

  now_long : length (take n words) ≡ image_words (setup_for o).capacity
  now_long = length-take-le n words (omega (arith, long)) ∙ half

  kept_long : length (take n (drop n words)) ≡ image_words (setup_for o).capacity
  kept_long = length-take-le n (drop n words) (let l = length-drop n words in omega (arith, long, l)) ∙ half

  pub closed_sound : IsClosedSound (setup_for o) (take n words) (take n (drop n words)) group
  closed_sound = record {
    now_long = now_long;
    kept_long = kept_long;
    drawn = get_or (drop n (drop n words)) 0 0;
    sound = told (Sound (setup_for o)) keeps.sound;
    counted = told (λ ws. AreSeatsAndCarriers (setup_for o)) keeps.counted;
  }

  pub closed_reached : IsClosedReached o (take n words) (take n (drop n words)) group
  closed_reached = record {
    now_long = now_long;
    kept_long = kept_long;
    drawn = get_or (drop n (drop n words)) 0 0;
    reached = told (IsReached (setup_for o) (state_of o)) keeps.reached;
  }

take_last : (xs : List ℕ) (i x : ℕ) → get_elem? xs i ≡ some x → take (suc i) xs ≡ take i xs ++ x ∷ []
take_last [] i x at = absurd (some-ne-none x (sym at))
take_last (y ∷ xs) zero x at = ap (λ z. z ∷ []) (some-injective y x at)
take_last (y ∷ xs) (suc i) x at = ap (λ ws. y ∷ ws) (take_last xs i x at)

elem_behind : (xs : List ℕ) (from i x : ℕ) → get_elem? xs (from + i) ≡ some x → get_elem? (drop from xs) i ≡ some x
elem_behind xs zero i x at = ap (get_elem? xs) (let e : i ≡ 0 + i = omega arith in e) ∙ at
elem_behind [] (suc from) i x at = absurd (some-ne-none x (sym at))
elem_behind (y ∷ xs) (suc from) i x at = elem_behind xs from i x
    (ap (get_elem? (y ∷ xs)) (let e : suc (from + i) ≡ suc from + i = omega arith in e) ∙ at)

-- one word more
pub one_word_more : (xs ws ws' : List ℕ) (from i x : ℕ) → get_elem? xs (from + i) ≡ some x → ws ≡ take i (drop from xs) → ws' ≡ ws ++ x ∷ []
    → ws' ≡ take (i + 1) (drop from xs)
one_word_more xs ws ws' from i x at so_far more =
    more ∙ ap (λ l. l ++ x ∷ []) so_far ∙ sym (take_last (drop from xs) i x (elem_behind xs from i x at))
    ∙ ap (λ n. take n (drop from xs)) (let e : suc i ≡ i + 1 = omega arith in e)

-- the same said of what was read off the table
pub read_off : (P : Opening → List ℕ → List ℕ → Type 0) (o o' : Opening) (now now' kept kept' : List ℕ) → o ≡ o' → now' ≡ now → kept' ≡ kept
    → P o now kept → P o' now' kept'
read_off P o o' now now' kept kept' same same_now same_kept p = subst (λ h. P h now' kept') same
    (subst (λ ws. P o ws kept') (sym same_now) (subst (P o now) (sym same_kept) p))
