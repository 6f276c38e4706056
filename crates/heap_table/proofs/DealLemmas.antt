-- A seat of the table that deals out some of its views, or takes in those of another, leaves the same seats.
use Rattle.std.proofs.Common.{◌≡◌, ℕ, zero, suc, ◌+◌, inl, inr, ◌⊎◌, List, [], ◌∷◌, ◌++◌, Contains, length, set, refl, ap, sym, subst, arith}
use Rattle.std.proofs.lemmas.List.Elements.{Contains-append_left, Contains-append_right, Contains-append_cases}
use mathlib.Core.Option.{some, some-injective, some-ne-none}
use lib.ListN.{get_elem?}
use Rattle.atomic_table.specs.Table.{Splits, Joins}
use Rattle.atomic_table.proofs.Lists.{at_set, at_snoc}
use Rattle.heap_model.specs.Counting.{total}
use Rattle.heap_model.proofs.MemberLemmas.{in_none}
use Rattle.heap_model.proofs.CountingLemmas.{total_append}
use Rattle.core_model.specs.View.{View}
use Rattle.core_model.specs.Orders.{AreReordered}
use Rattle.core_model.proofs.OfferLemmas.{same_seats}
use Rattle.core_model.proofs.OrderLemmas.{reordered}
use Rattle.heap_table.specs.Reached.{in_another_order}
use Rattle.heap_table.specs.SeatViews.{SeatViews, all_views}
use Rattle.heap_table.specs.Rule.{Opening, HasAllSeats, Holds, setup_for}

pub length_total : (xs : List View) → length xs ≡ total (λ (v : View). 1) xs
length_total [] = refl
length_total (x ∷ xs) = let rest = length_total xs in omega arith

-- where one seat of the table stands for other views, the sum over them changes as theirs
pub total_set_group : (f : View → ℕ) (groups : List SeatViews) (id : ℕ) (old new : SeatViews) → get_elem? groups id ≡ some old
    → total f (all_views (set groups id new)) + total f old ≡ total f (all_views groups) + total f new
total_set_group f [] id old new at = absurd (some-ne-none old (sym at))
total_set_group f (j ∷ groups) zero old new at =
    let a = total_append f new (all_views groups) in let b = total_append f j (all_views groups) in
    let same = ap (total f) (some-injective j old at) in omega arith
total_set_group f (j ∷ groups) (suc id) old new at =
    let a = total_append f j (all_views (set groups id new)) in let b = total_append f j (all_views groups) in
    let rest = total_set_group f groups id old new at in omega arith

pub total_last : (f : View → ℕ) (groups : List SeatViews) (last : SeatViews)
    → total f (all_views (groups ++ last ∷ [])) ≡ total f (all_views groups) + total f last
total_last f [] last = let a = total_append f last [] in omega arith
total_last f (j ∷ groups) last =
    let a = total_append f j (all_views (groups ++ last ∷ [])) in let b = total_append f j (all_views groups) in
    let rest = total_last f groups last in omega arith

-- a view is one of all exactly where a seat of the table stands for it
record IsOf (groups : List SeatViews) (v : View) : Type 0 where
  id : ℕ
  group : SeatViews
  at : get_elem? groups id ≡ some group
  has : Contains group v

of_all : (groups : List SeatViews) (v : View) → Contains (all_views groups) v → IsOf groups v
of_all [] v p = absurd (in_none v p)
of_all (j ∷ groups) v p = elim (Contains-append_cases j (all_views groups) v p) [
  | inl here ↦ record { id = 0; group = j; at = refl; has = here }
  | inr later ↦ let rest = of_all groups v later in record { id = suc rest.id; group = rest.group; at = rest.at; has = rest.has }
]

pub in_all : (groups : List SeatViews) (id : ℕ) (group : SeatViews) (v : View) → get_elem? groups id ≡ some group → Contains group v
    → Contains (all_views groups) v
in_all [] id group v at has = absurd (some-ne-none group (sym at))
in_all (j ∷ groups) zero group v at has = Contains-append_left j (all_views groups) v
    (subst (λ (l : SeatViews). Contains l v) (sym (some-injective j group at)) has)
in_all (j ∷ groups) (suc id) group v at has = Contains-append_right j (all_views groups) v (in_all groups id group v at has)

-- where one seat of the table stands for other views, each view is as before or one of those
pub of_set : (groups : List SeatViews) (id : ℕ) (new : SeatViews) (v : View) → Contains (all_views (set groups id new)) v
    → Contains new v ⊎ Contains (all_views groups) v
of_set groups id new v p = let found = of_all (set groups id new) v p in
    elim (at_set groups id found.id new found.group found.at) [
      | inl here ↦ inl (subst (λ (l : SeatViews). Contains l v) (sym here.1) found.has)
      | inr other ↦ inr (in_all groups found.id found.group v other.1 found.has)
    ]

pub of_last : (groups : List SeatViews) (last : SeatViews) (v : View) → Contains (all_views (groups ++ last ∷ [])) v
    → Contains (all_views groups) v ⊎ Contains last v
of_last groups last v p = let found = of_all (groups ++ last ∷ []) v p in
    elim (at_snoc groups last found.group found.id found.at) [
      | inl before ↦ inl (in_all groups found.id found.group v before found.has)
      | inr same ↦ inr (subst (λ (l : SeatViews). Contains l v) (sym same) found.has)
    ]

-- the rule holds of the same seats in another order
keeps_reordered : (o : Opening) (words : List ℕ) (old new : List SeatViews) → AreReordered (all_views old) (all_views new)
    → HasAllSeats o words old → HasAllSeats o words new
keeps_reordered o words old new same keeps = record {
  reached = in_another_order words (all_views old) (all_views new) keeps.reached same;
  sound = reordered (setup_for o) words (all_views old) (all_views new) same keeps.sound;
  counted = same_seats (setup_for o) (all_views old) (all_views new) same keeps.counted;
  few = keeps.few;
  low = keeps.low;
}

-- the first views go to a new seat of the table, and the others stay
pub dealt : (o : Opening) (id : ℕ) (whole left right : SeatViews) → right ++ left ≡ whole → Splits (Holds o) id whole left right
dealt o id whole left right parts s holds at = keeps_reordered o s.words s.views (set s.views id left ++ right ∷ []) record {
  sums = sums;
  members = members;
} holds where
  sums : (f : View → ℕ) → total f (all_views (set s.views id left ++ right ∷ [])) ≡ total f (all_views s.views)
  sums f = let a = total_last f (set s.views id left) right in let b = total_set_group f s.views id whole left at in
      let c = total_append f right left in let d = ap (total f) parts in omega arith

  has_right : (v : View) → Contains right v → Contains (all_views s.views) v
  has_right v p = in_all s.views id whole v at (subst (λ (l : SeatViews). Contains l v) parts (Contains-append_left right left v p))

  has_left : (v : View) → Contains left v → Contains (all_views s.views) v
  has_left v p = in_all s.views id whole v at (subst (λ (l : SeatViews). Contains l v) parts (Contains-append_right right left v p))

  members : (v : View) → Contains (all_views (set s.views id left ++ right ∷ [])) v → Contains (all_views s.views) v
  members v p = elim (of_last (set s.views id left) right v p) [
    | inr last ↦ has_right v last
    | inl before ↦ elim (of_set s.views id left v before) [ inl mine ↦ has_left v mine | inr old ↦ old ]
  ]

-- a seat of the table takes in the views of another, which it puts before its own
pub joined : (o : Opening) (id : ℕ) (mine : SeatViews) (other : ℕ) (theirs : SeatViews) → Joins (Holds o) id mine other theirs (theirs ++ mine) []
joined o id mine other theirs s holds at apart at_other = keeps_reordered o s.words s.views (set once other []) record {
  sums = sums;
  members = members;
} holds where
  once : List SeatViews
  once = set s.views id (theirs ++ mine)

  sums : (f : View → ℕ) → total f (all_views (set (set s.views id (theirs ++ mine)) other [])) ≡ total f (all_views s.views)
  sums f = let a = total_set_group f (set s.views id (theirs ++ mine)) other theirs [] at_other in
      let b = total_set_group f s.views id mine (theirs ++ mine) at in
      let c = total_append f theirs mine in omega arith

  has_theirs : (v : View) → Contains theirs v → Contains (all_views s.views) v
  has_theirs v p = elim (at_set s.views id other (theirs ++ mine) theirs at_other) [
    | inl same ↦ absurd (apart same.0)
    | inr found ↦ in_all s.views other theirs v found.1 p
  ]

  members : (v : View) → Contains (all_views (set (set s.views id (theirs ++ mine)) other [])) v → Contains (all_views s.views) v
  members v p = elim (of_set (set s.views id (theirs ++ mine)) other [] v p) [
    | inl none ↦ absurd (in_none v none)
    | inr before ↦ elim (of_set s.views id (theirs ++ mine) v before) [
      | inr old ↦ old
      | inl both ↦ elim (Contains-append_cases theirs mine v both) [ inl p' ↦ has_theirs v p' | inr p' ↦ in_all s.views id mine v at p' ]
    ]
  ]

-- a new seat of the table that stands for no seat changes nothing
pub entered : (o : Opening) (words : List ℕ) (groups : List SeatViews) → HasAllSeats o words groups → HasAllSeats o words (groups ++ [] ∷ [])
entered o words groups keeps = keeps_reordered o words groups (groups ++ [] ∷ []) record {
  sums = λ f. let a = total_last f groups [] in omega arith;
  members = λ v p. elim (of_last groups [] v p) [ inl before ↦ before | inr none ↦ absurd (in_none v none) ];
} keeps
