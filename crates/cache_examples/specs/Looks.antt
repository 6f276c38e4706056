-- Worked examples by computation: what a look by now is, and which looks refuse a request.
use Rattle.std.proofs.Common.{◌≡◌, ◌<◌, ◌+◌, ℕ, [], ◌∷◌, None, Some, refl, ap, arith}
use Rattle.std.proofs.lemmas.Option.{same_Some}
use Rattle.core_model.specs.View.{LastLook, Parts, View}
use Rattle.cache_fill.specs.Refills.{IsFull, IsLook}
use Rattle.cache_examples.specs.Seats.{all_taken, before, look_at, with_looks}

-- a look by ticket 7, of a seat that has won nothing and taken nothing since
pub looked : IsLook (look_at 2 7) 2 before
looked = record { ticket = 7; by = refl; word_is = refl; wins = refl; taken = refl }

-- it is none once an exchange was won
pub won_since : IsLook (look_at 2 7) 2 (record before { wins = 1 }) → ⊥
won_since look = let e : 0 ≡ 1 = look.wins in omega (arith, e)

-- nor once a superblock was taken
pub taken_since : IsLook (look_at 2 7) 2 (record before { taken = 1 }) → ⊥
taken_since look = let e : 0 ≡ 1 = look.taken in omega (arith, e)

-- nor of another word
pub another_word : IsLook (look_at 2 7) 1 before → ⊥
another_word look = let e : 2 ≡ 1 = look.word_is in omega (arith, e)

-- nor without a ticket
pub never_looked : IsLook (record (look_at 2 7) { ticket = None }) 2 before → ⊥
never_looked look = let e = look.by in absurd (cc)

-- the list of the class by ticket 5, that of the free ones by ticket 6, and the mark by ticket 7, the last one: no room
abbrev pub refused : View
refused = with_looks (look_at 0 5) (look_at 0 6) (look_at 2 7)

pub is_full : IsFull 20 all_taken before refused
is_full = record {
  going = refl;
  parts_are = refl;
  cuts = refl;
  taken = refl;
  class_look = record { ticket = 5; by = refl; word_is = refl; wins = refl; taken = refl };
  free_look = record { ticket = 6; by = refl; word_is = refl; wins = refl; taken = refl };
  used_look = record { ticket = 7; by = refl; word_is = refl; wins = refl; taken = refl };
  since = omega arith;
  class_first = omega arith;
  free_second = omega arith;
  last = refl;
  class_empty = refl;
  free_empty = refl;
  past = omega arith;
}

-- the list of the free ones was looked at first
pub free_head_first : IsFull 20 all_taken before (with_looks (look_at 0 6) (look_at 0 5) (look_at 2 7)) → ⊥
free_head_first full =
    let class : 6 ≡ full.class_look.ticket = same_Some 6 full.class_look.ticket full.class_look.by in
    let free : 5 ≡ full.free_look.ticket = same_Some 5 full.free_look.ticket full.free_look.by in
    let order = full.class_first in omega (arith, class, free, order)

-- one ticket can't look at both
pub both_at_once : IsFull 20 all_taken before (with_looks (look_at 0 5) (look_at 0 5) (look_at 2 7)) → ⊥
both_at_once full =
    let class : 5 ≡ full.class_look.ticket = same_Some 5 full.class_look.ticket full.class_look.by in
    let free : 5 ≡ full.free_look.ticket = same_Some 5 full.free_look.ticket full.free_look.by in
    let order = full.class_first in omega (arith, class, free, order)

-- the mark was not looked at behind the list of the free ones
pub mark_not_last : IsFull 20 all_taken before (with_looks (look_at 0 5) (look_at 0 7) (look_at 2 7)) → ⊥
mark_not_last full =
    let free : 7 ≡ full.free_look.ticket = same_Some 7 full.free_look.ticket full.free_look.by in
    let used : 7 ≡ full.used_look.ticket = same_Some 7 full.used_look.ticket full.used_look.by in
    let order = full.free_second in omega (arith, free, used, order)

-- the list of the class was looked at before the call
pub looked_before : IsFull 20 all_taken before (with_looks (look_at 0 3) (look_at 0 6) (look_at 2 7)) → ⊥
looked_before full =
    let class : 3 ≡ full.class_look.ticket = same_Some 3 full.class_look.ticket full.class_look.by in
    let since = full.since in omega (arith, class, since)

-- the look at the mark was not the last step
pub drew_since : IsFull 20 all_taken before (record refused { last_ticket = Some 8 }) → ⊥
drew_since full =
    let used : 7 ≡ full.used_look.ticket = same_Some 7 full.used_look.ticket full.used_look.by in
    let last : 9 ≡ full.used_look.ticket + 1 = full.last in omega (arith, used, last)

-- the list of the class had a superblock, or that of the free ones did
pub class_had_one : IsFull 20 (record all_taken { class_head = 2 }) before (with_looks (look_at 2 5) (look_at 0 6) (look_at 2 7)) → ⊥
class_had_one full = let e : 2 ≡ 0 = full.class_empty in omega (arith, e)

pub free_had_one : IsFull 20 (record all_taken { free_head = 2 }) before (with_looks (look_at 0 5) (look_at 2 6) (look_at 2 7)) → ⊥
free_had_one full = let e : 2 ≡ 0 = full.free_empty in omega (arith, e)

-- the mark left room for one more
pub room_for_one : IsFull 20 (record all_taken { used = 1 }) before (with_looks (look_at 0 5) (look_at 0 6) (look_at 1 7)) → ⊥
room_for_one full = let less : 2 < 2 = full.past in omega (arith, less)

-- the seat has other parts, cut a superblock, or took one
pub keeps_a_claim : IsFull 20 all_taken before (record refused { raw = 0 ∷ [] }) → ⊥
keeps_a_claim full = let e = ap (λ (p : Parts). p.raw) full.parts_are in absurd (cc)

pub has_cut : IsFull 20 all_taken before (record refused { cuts = 1 }) → ⊥
has_cut full = let e : 1 ≡ 0 = full.cuts in omega (arith, e)

-- a last look at this word by this ticket, once the seat had taken a superblock
abbrev taken_one : ℕ → ℕ → LastLook
taken_one word ticket = record (look_at word ticket) { taken = 1 }

pub has_taken : IsFull 20 all_taken before (record (with_looks (taken_one 0 5) (taken_one 0 6) (taken_one 2 7)) { taken = 1 }) → ⊥
has_taken full = let e : 1 ≡ 0 = full.taken in omega (arith, e)

-- it won an exchange after the first look
abbrev won_one : ℕ → ℕ → LastLook
won_one word ticket = record (look_at word ticket) { wins = 1 }

pub won_after_a_look : IsFull 20 all_taken before (record (with_looks (look_at 0 5) (won_one 0 6) (won_one 2 7)) { wins = 1 }) → ⊥
won_after_a_look full = let e : 0 ≡ 1 = full.class_look.wins in omega (arith, e)
