-- Worked examples by computation: in which order an empty cache is filled.
use Rattle.std.proofs.Common.{◌≡◌, ◌≤◌, [], ◌∷◌, Some, refl, arith}
use Rattle.std.proofs.lemmas.Option.{same_Some}
use Rattle.core_model.specs.View.{LastLook, View}
use Rattle.cache_fill.specs.Refills.{HasSeenEmpty, HasSeenNone, IsFilledInOrder}
use Rattle.cache_examples.specs.Seats.{before, look_at, with_cached, with_looks}

-- both lists were found empty, that of the class by ticket 5 and that of the free ones by ticket 6
pub seen_none : HasSeenNone 20 before (with_looks (look_at 0 5) (look_at 0 6) (look_at 0 7))
seen_none = record {
  of_class = record {
    made = record {
      ticket = 5;
      by = refl;
      since = omega arith;
      below = omega arith;
      taken_least = omega arith;
      taken_most = omega arith;
    };
    empty = refl;
  };
  free = record {
    made = record {
      ticket = 6;
      by = refl;
      since = omega arith;
      below = omega arith;
      taken_least = omega arith;
      taken_most = omega arith;
    };
    empty = refl;
  };
  order = omega arith;
}

-- that of the free ones was looked at first
pub free_list_first : HasSeenNone 20 before (with_looks (look_at 0 6) (look_at 0 5) (look_at 0 7)) → ⊥
free_list_first none =
    let class : 6 ≡ none.of_class.made.ticket = same_Some 6 none.of_class.made.ticket none.of_class.made.by in
    let free : 5 ≡ none.free.made.ticket = same_Some 5 none.free.made.ticket none.free.made.by in
    let order = none.order in omega (arith, class, free, order)

-- one ticket can't look at both
pub both_at_once : HasSeenNone 20 before (with_looks (look_at 0 5) (look_at 0 5) (look_at 0 7)) → ⊥
both_at_once none =
    let class : 5 ≡ none.of_class.made.ticket = same_Some 5 none.of_class.made.ticket none.of_class.made.by in
    let free : 5 ≡ none.free.made.ticket = same_Some 5 none.free.made.ticket none.free.made.by in
    let order = none.order in omega (arith, class, free, order)

-- a list was looked at before the call, was not empty, or was looked at once a superblock had been taken
pub looked_before : HasSeenEmpty 20 before (with_looks (look_at 0 3) (look_at 0 6) (look_at 0 7)) → ⊥
looked_before seen =
    let by : 3 ≡ seen.made.ticket = same_Some 3 seen.made.ticket seen.made.by in
    let since = seen.made.since in omega (arith, by, since)

pub had_one : HasSeenEmpty 20 before (with_looks (look_at 2 5) (look_at 0 6) (look_at 0 7)) → ⊥
had_one seen = let e : 2 ≡ 0 = seen.empty in omega (arith, e)

pub looked_behind : HasSeenEmpty 20 before (with_looks (record (look_at 0 5) { taken = 1 }) (look_at 0 6) (look_at 0 7)) → ⊥
looked_behind seen = let most : 1 ≤ 0 = seen.made.taken_most in omega (arith, most)

-- from a superblock of the class: nothing is cut or taken, whatever was looked at
pub from_the_class : IsFilledInOrder 20 before (with_cached (1080 ∷ []) (record before { wins = 2; draws = 9; last_ticket = Some 8 }))
from_the_class = record {
  cut = λ cut. absurd (omega (arith, cut));
  claimed = λ cut. omega (arith, cut);
  uncut = λ e. refl;
  fresh = λ taken. absurd (omega (arith, taken));
}

-- a superblock was cut, which one exchange claimed since the look at the list of the class
abbrev pub cut_behind : LastLook → LastLook → View
cut_behind class_look free_look = record (with_looks class_look free_look (look_at 0 7)) { cuts = 1; wins = 1 }

-- one of the free ones, which the list of the free ones had
pub from_the_free : IsFilledInOrder 20 before (cut_behind (look_at 0 5) (look_at 2 6))
from_the_free = record {
  cut = λ cut. record {
    made = record {
      ticket = 5;
      by = refl;
      since = omega arith;
      below = omega arith;
      taken_least = omega arith;
      taken_most = omega arith;
    };
    empty = refl;
  };
  claimed = λ cut. refl;
  uncut = λ e. omega (arith, e);
  fresh = λ taken. absurd (omega (arith, taken));
}

-- one that was never taken, where neither list had one
abbrev pub fresh_behind : LastLook → LastLook → View
fresh_behind class_look free_look = record (cut_behind class_look free_look) { taken = 1 }

pub from_the_mark : IsFilledInOrder 20 before (fresh_behind (look_at 0 5) (look_at 0 6))
from_the_mark = record {
  cut = λ cut. record {
    made = record {
      ticket = 5;
      by = refl;
      since = omega arith;
      below = omega arith;
      taken_least = omega arith;
      taken_most = omega arith;
    };
    empty = refl;
  };
  claimed = λ cut. refl;
  uncut = λ e. omega (arith, e);
  fresh = λ taken. record {
    of_class = record {
      made = record {
        ticket = 5;
        by = refl;
        since = omega arith;
        below = omega arith;
        taken_least = omega arith;
        taken_most = omega arith;
      };
      empty = refl;
    };
    free = record {
      made = record {
        ticket = 6;
        by = refl;
        since = omega arith;
        below = omega arith;
        taken_least = omega arith;
        taken_most = omega arith;
      };
      empty = refl;
    };
    order = omega arith;
  };
}

-- a superblock was cut though the list of the class had one, or was not looked at in the call
pub cut_beside_one : IsFilledInOrder 20 before (cut_behind (look_at 2 5) (look_at 2 6)) → ⊥
cut_beside_one filled = let e : 2 ≡ 0 = (filled.cut (omega arith)).empty in omega (arith, e)

pub cut_unlooked : IsFilledInOrder 20 before (cut_behind (look_at 0 3) (look_at 2 6)) → ⊥
cut_unlooked filled =
    let seen = (filled.cut (omega arith)).made in
    let by : 3 ≡ seen.ticket = same_Some 3 seen.ticket seen.by in
    let since = seen.since in omega (arith, by, since)

-- two exchanges were won since that look, or none was
pub claimed_twice : IsFilledInOrder 20 before (record (cut_behind (look_at 0 5) (look_at 2 6)) { wins = 2 }) → ⊥
claimed_twice filled = let e : 2 ≡ 1 = filled.claimed (omega arith) in omega (arith, e)

pub claimed_never : IsFilledInOrder 20 before (record (cut_behind (look_at 0 5) (look_at 2 6)) { wins = 0 }) → ⊥
claimed_never filled = let e : 0 ≡ 1 = filled.claimed (omega arith) in omega (arith, e)

-- a superblock was taken, and none was cut
pub taken_uncut : IsFilledInOrder 20 before (record (fresh_behind (look_at 0 5) (look_at 0 6)) { cuts = 0 }) → ⊥
taken_uncut filled = let e : 1 ≡ 0 = filled.uncut refl in omega (arith, e)

-- one that was never taken was taken though the list of the free ones had one, or that of the class, or that of the free ones was looked at first
pub fresh_beside_a_free_one : IsFilledInOrder 20 before (fresh_behind (look_at 0 5) (look_at 2 6)) → ⊥
fresh_beside_a_free_one filled = let e : 2 ≡ 0 = (filled.fresh (omega arith)).free.empty in omega (arith, e)

pub fresh_beside_one_of_the_class : IsFilledInOrder 20 before (fresh_behind (look_at 2 5) (look_at 0 6)) → ⊥
fresh_beside_one_of_the_class filled = let e : 2 ≡ 0 = (filled.fresh (omega arith)).of_class.empty in omega (arith, e)

pub fresh_by_the_wrong_order : IsFilledInOrder 20 before (fresh_behind (look_at 0 6) (look_at 0 5)) → ⊥
fresh_by_the_wrong_order filled =
    let none = filled.fresh (omega arith) in
    let class : 6 ≡ none.of_class.made.ticket = same_Some 6 none.of_class.made.ticket none.of_class.made.by in
    let free : 5 ≡ none.free.made.ticket = same_Some 5 none.free.made.ticket none.free.made.by in
    let order = none.order in omega (arith, class, free, order)
