-- Worked examples by computation: what requests that are refused leave, and what they may cost.
use Rattle.std.proofs.Common.{◌≡◌, ◌≤◌, ◌<◌, ℕ, [], ◌∷◌, inl, inr, length, refl, ap, sym, set, subst, ◌∙◌, arith}
use Rattle.std.proofs.lemmas.Bool.{cases_eq, cases_lt}
use Rattle.std.proofs.lemmas.Option.{same_Some}
use Rattle.std.proofs.lemmas.List.{get_or_past, get_or-replicate, get_or-set_other}
use Rattle.core_model.specs.View.{LastLook, Parts, View, of_class}
use Rattle.seat_costs.specs.Rows.{IsKeptOrMade, IsMade, Passes, head_look}
use Rattle.thread_cache.specs.Requests.{light_request}
use Rattle.cache_fill.specs.Refills.{IsFull}
use Rattle.thread_cache.specs.Serving.{HasSeenRoom, IsTurnedAway}
use Rattle.cache_examples.specs.Looks.{free_head_first, is_full, refused}
use Rattle.cache_examples.specs.Seats.{all_taken, before, later, look_at, with_cached, with_looks}
use Rattle.cache_examples.specs.Serving.{is_last, least_for_these}

-- 65,537 bytes take two superblocks: a mark of 0 leaves room for them, by a look of the call, and one of 1 doesn't
abbrev saw_mark : ℕ → ℕ → View
saw_mark mark ticket = record (later 3 0 0 before) { used_look = look_at mark ticket }

pub room_for_two : HasSeenRoom 65537 before (saw_mark 0 5)
room_for_two = record {
  made = record {
    ticket = 5;
    by = refl;
    since = omega arith;
    below = omega arith;
    taken_least = omega arith;
    taken_most = omega arith;
  };
  room = omega arith;
}

pub room_for_one : HasSeenRoom 65537 before (saw_mark 1 5) → ⊥
room_for_one seen = let room : 3 ≤ 2 = seen.room in omega (arith, room)

pub room_before : HasSeenRoom 65537 before (saw_mark 0 3) → ⊥
room_before seen =
    let by : 3 ≡ seen.made.ticket = same_Some 3 seen.made.ticket seen.made.by in
    let since = seen.made.since in omega (arith, by, since)

-- the last look of a list that was never looked at
abbrev unread : LastLook
unread = before.used_look

-- the request is refused by three looks and four tickets: each last look is the one from before, or by one of these tickets
looks_kept : (list : ℕ) → IsKeptOrMade before refused (head_look before list) (head_look refused list)
looks_kept list = elim (cases_lt list 21) as (λ _. IsKeptOrMade before refused (head_look before list) (head_look refused list)) [
  | inl less ↦ among less
  | inr past ↦ inr (subst (IsMade 4 8 0 0) (sym (get_or_past refused.head_looks list refused.used_look past))
      (record { ticket = 7; by = refl; since = omega arith; below = omega arith; taken_least = omega arith; taken_most = omega arith }))
] where
  among : list < 21 → IsKeptOrMade before refused (head_look before list) (head_look refused list)
  among less = elim (cases_eq list 0) as (λ _. IsKeptOrMade before refused (head_look before list) (head_look refused list)) [
    | inl free ↦ subst (λ l. IsKeptOrMade before refused (head_look before l) (head_look refused l)) (sym free)
        (inr (record { ticket = 6; by = refl; since = omega arith; below = omega arith; taken_least = omega arith; taken_most = omega arith }))
    | inr not_free ↦ elim (cases_eq list 20) as (λ _. IsKeptOrMade before refused (head_look before list) (head_look refused list)) [
      | inl class ↦ subst (λ l. IsKeptOrMade before refused (head_look before l) (head_look refused l)) (sym class)
          (inr (record { ticket = 5; by = refl; since = omega arith; below = omega arith; taken_least = omega arith; taken_most = omega arith }))
      | inr not_class ↦ inl (get_or-set_other (set before.head_looks 20 (look_at 0 5)) 0 list (look_at 0 6) refused.used_look not_free
          ∙ get_or-set_other before.head_looks 20 list (look_at 0 5) refused.used_look not_class
          ∙ get_or-replicate 21 list unread refused.used_look less ∙ sym (get_or-replicate 21 list unread before.used_look less))
    ]
  ]

passes_refused : (bytes : ℕ) → Passes (light_request bytes 0) before refused
passes_refused bytes = record {
  setup = refl;
  roots = refl;
  role_is = refl;
  floor = omega arith;
  next = omega arith;
  tickets = omega arith;
  more = record {
    draws = omega arith;
    wins = omega arith;
    losses = omega arith;
    gives = omega arith;
    moves = omega arith;
    cuts = omega arith;
    taken = omega arith;
  };
  most = record { draws = omega arith; wins = omega arith; gives = omega arith; cuts = omega arith; taken = omega arith; moves = omega arith };
  looks = record {
    used = inr (record { ticket = 7; by = refl; since = omega arith; below = omega arith; taken_least = omega arith; taken_most = omega arith });
    heads = looks_kept;
    no_less = omega arith;
  };
}

pub turned_away : IsTurnedAway 14000 all_taken before refused
turned_away = record {
  light = λ cuts gives taken large. omega arith;
  parts_are = refl;
  cuts = refl;
  gives = refl;
  costs = passes_refused 14000;
  for_class = λ class least. subst (λ c. IsFull c all_taken before refused × (of_class before.caches c ≡ [])) (sym (is_last class least))
      (is_full, refl);
  for_span = λ big. absurd (omega (arith, big));
}

-- not while the cache of the class has a block
pub turned_away_from_a_cache : IsTurnedAway 14000 all_taken (with_cached (1080 ∷ []) before) (with_cached (1080 ∷ []) refused) → ⊥
turned_away_from_a_cache away = let e : 1 ≡ 0 = ap length (away.for_class 20 least_for_these).1 in omega (arith, e)

-- nor by a look at the list of the free ones first
pub turned_away_in_no_order : IsTurnedAway 14000 all_taken before (with_looks (look_at 0 6) (look_at 0 5) (look_at 2 7)) → ⊥
turned_away_in_no_order away = free_head_first (away.for_class 20 least_for_these).0

-- nor with a superblock cut, a batch given, or a claim kept
pub turned_away_by_a_cut : IsTurnedAway 14000 all_taken before (record refused { cuts = 1 }) → ⊥
turned_away_by_a_cut away = let e : 1 ≡ 0 = away.cuts in omega (arith, e)

pub turned_away_by_a_give : IsTurnedAway 14000 all_taken before (record refused { gives = 1 }) → ⊥
turned_away_by_a_give away = let e : 1 ≡ 0 = away.gives in omega (arith, e)

pub turned_away_with_a_claim : IsTurnedAway 14000 all_taken before (record refused { raw = 0 ∷ [] }) → ⊥
turned_away_with_a_claim away = let e = ap (λ (p : Parts). p.raw) away.parts_are in absurd (cc)

-- nor by eleven tickets
pub turned_away_by_eleven : IsTurnedAway 14000 all_taken before (record refused { draws = 15 }) → ⊥
turned_away_by_eleven away = let most : 15 ≤ 14 = away.costs.most.draws in omega (arith, most)

-- and one that is too large for a class not once it won an exchange
pub turned_away_by_a_win : IsTurnedAway 100000 all_taken before (record refused { wins = 1 }) → ⊥
turned_away_by_a_win away = let e : 1 ≡ 0 = (away.for_span (omega arith)).wins in omega (arith, e)
