-- The only seat of a heap.
use Rattle.std.proofs.Common.{◌≡◌, ◌⊎◌, ℕ, ◌+◌, ◌-◌, ◌≤◌, inl, inr, nat_eq, List, [], ◌∷◌, Contains, ap, ◌∙◌, arith}
use Rattle.heap_model.specs.Counting.{one_if, total}
use Rattle.heap_model.proofs.CountingLemmas.{total_none}
use Rattle.heap_model.proofs.MemberLemmas.{head_or_rest, in_head, in_none, in_rest}
use Rattle.core_model.specs.Carriers.{IsCarrier, IsEmptied, one_if_carrier}
use Rattle.core_model.specs.View.{View}
use Rattle.core_model.proofs.TotalLemmas.{total_at}
use Rattle.heap_table.specs.Plays.{HasReached, HasSoundState}
use Rattle.heap_table.specs.Rule.{Opening, setup_for, state_of}
use Rattle.heap_table.proofs.DealLemmas.{length_total}
use Rattle.heap_table.proofs.ReachedLemmas.{opened_filled, reached_filled}
use Rattle.seat_costs.proofs.AloneLemmas.{one_of}

-- 1 of a seat
abbrev one_if_seat : View → ℕ
one_if_seat v = 1 - v.carries

-- a view that counts nothing, and is no seat
abbrev CountsNone : (View → ℕ) → View → Type 0
CountsNone f u = (f u ≡ 0) × (one_if_seat u ≡ 0)

-- what the other views don't count the only seat does
sums : (f : View → ℕ) (views : List View) (v : View) → Contains views v → v.carries ≡ 0 → total one_if_seat views ≡ 1
    → ((u : View) → Contains views u → (u.carries ≡ 0) ⊎ CountsNone f u) → total f views ≡ f v
sums f [] v has seat one each = absurd (in_none v has)
sums f (u ∷ us) v has seat one each = elim (head_or_rest u v us has) as (λ _. f u + total f us ≡ f v) [
  | inl same ↦
      let here = ap f same in
      let counts = ap one_if_seat same in
      let none = total_none f us (others (omega (arith, counts, one, seat))) in omega (arith, here, none)
  | inr rest ↦ elim (each u (in_head u us)) as (λ _. f u + total f us ≡ f v) [
    | inl also ↦ absurd (let counts = total_at one_if_seat us rest.0 v rest.1 rest.2 in omega (arith, counts, one, also, seat))
    | inr none ↦
        let a = none.0 in
        let b = none.1 in
        let later = sums f us v rest seat (omega (arith, b, one)) (λ x p. each x (in_rest u x us p)) in omega (arith, a, later)
  ]
] where
  others : total one_if_seat us ≡ 0 → (x : View) → Contains us x → f x ≡ 0
  others no_seat x p = elim (each x (in_rest u x us p)) as (λ _. f x ≡ 0) [
    | inl also ↦ absurd (let counts = total_at one_if_seat us p.0 x p.1 p.2 in omega (arith, counts, no_seat, also))
    | inr none ↦ none.0
  ]

-- of a sound state
module _ (v : View) (one : v.setup.seats ≡ 1) (s : HasSoundState v) where
  -- what carriers don't count
  counted : (f : View → ℕ) → ((u : View) → IsCarrier u → f u ≡ 0) → ((u : View) → IsEmptied u → f u ≡ 0) → total f s.views ≡ f v
  counted f carriers emptied = sums f s.views v (s.seat, s.below, s.at) s.is_seat (s.counted.seats ∙ one)
      (λ u p. elim (s.counted.each u p) as (λ _. (u.carries ≡ 0) ⊎ CountsNone f u) [
        | inl seat ↦ inl seat
        | inr (inl carrier) ↦ inr (carriers u carrier, let is = carrier.is_one in omega (arith, is))
        | inr (inr empty) ↦ inr (emptied u empty, let is = empty.is_two in omega (arith, is))
      ])

  pub only_losses : v.losses ≡ 0
  only_losses =
      let lost = s.sound.good.lost s.seat v s.below s.at in
      let all = counted (λ (u : View). u.wins) (λ u c. c.counts.1) (λ u e. e.was.counts.1) in omega (arith, lost, all)

  pub only_moves : v.moves ≤ v.gives + v.setup.capacity
  only_moves =
      let m = s.sound.good.moves in
      let gives = counted (λ (u : View). u.gives) (λ u c. c.counts.5) (λ u e. e.was.counts.5) in
      let mine = total_at (λ (u : View). u.moves) s.views s.seat v s.below s.at in omega (arith, m, gives, mine)

-- the only seat of an opened heap, which has offered no block, is all that there is
pub alone : (o : Opening) (v : View) → o.seats ≡ 1 → v.offers ≡ 0 → (h : HasReached o v) → h.views ≡ v ∷ []
alone o v one none h = one_of h.views v (length_total h.views ∙ all) there where
  there : Contains h.views v
  there = (h.seat, h.below, h.at)

  seats : total one_if_seat h.views ≡ 1
  seats = h.counted.seats ∙ one

  offers : total (λ (u : View). u.offers) h.views ≡ 0
  offers = sums (λ (u : View). u.offers) h.views v there h.is_seat seats (λ u p.
      elim (h.counted.each u p) as (λ _. (u.carries ≡ 0) ⊎ CountsNone (λ (x : View). x.offers) u) [
        | inl seat ↦ inl seat
        | inr (inl carrier) ↦ inr (carrier.handed.0, let is = carrier.is_one in omega (arith, is))
        | inr (inr empty) ↦ inr (empty.was.handed.0, let is = empty.is_two in omega (arith, is))
      ]) ∙ none

  no_carrier : (u : View) → Contains h.views u → u.carries ≡ 0
  no_carrier u p = elim (h.counted.each u p) as (λ _. u.carries ≡ 0) [
    | inl seat ↦ seat
    | inr (inl carrier) ↦ absurd (let held = h.counted.carriers in let mine = total_at one_if_carrier h.views p.0 u p.1 p.2 in
        let is = ap (λ n. one_if (nat_eq n 1)) carrier.is_one in let no = offers in omega (arith, held, mine, is, no))
    | inr (inr empty) ↦ absurd (let two = empty.is_two in
        let most = reached_filled (setup_for o) (state_of o) (opened_filled o) h.words h.views h.reached u p in omega (arith, two, most))
  ]

  all : total (λ (u : View). 1) h.views ≡ 1
  all = sums (λ (u : View). 1) h.views v there h.is_seat seats (λ u p. inl (no_carrier u p))
