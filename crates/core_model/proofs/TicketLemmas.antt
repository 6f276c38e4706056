-- An event gives a seat no ticket but the one that it draws.
use Rattle.std.proofs.Common.{◌≡◌, ℕ, zero, suc, ◌+◌, ◌≤◌, nat_eq, nat_lt, Bool, true, false, cond, Option, None, Some, refl, ap, arith}
use Rattle.heap_model.specs.Words.{full_anchor}
use Rattle.heap_model.specs.Counting.{times}
use Rattle.core_model.specs.declared.event.Event.{Event}
use Rattle.core_model.specs.declared.event.Event.TheVariants.{Tick, Load, Store, Settle, LookUsed, TakeFresh, KeepUsed, LookHead, LookLink, Pop, Push, LookAnchor, TakeAll, Give}
use Rattle.core_model.specs.Cells.{Cell, used_cell, head_cell, info_cell, anchor_cell, link_cell, root_cell, data_cell, no_cell, cell_at}
use Rattle.core_model.specs.Memory.{Memory}
use Rattle.core_model.specs.View.{View, no_batch, one_if_some}
use Rattle.core_model.specs.Effects.{seen, seen_of, seen_word, claimed, pushed, pushed_raw, pushed_classed, given, won, stored}
use Rattle.core_model.specs.Steps.{found_by, memory_after, seat_after}

either_way : (test : Bool) (a b : View) → a.ticket ≡ None → b.ticket ≡ None → (cond test a b).ticket ≡ None
either_way true a b first second = first
either_way false a b first second = second

claimed_ticket : (v : View) (d list : ℕ) → (claimed v d list).ticket ≡ v.ticket
claimed_ticket v d zero = refl
claimed_ticket v d (suc class) = refl

stored_ticket : (v : View) (cell : Cell) (value : ℕ) → (stored v cell value).ticket ≡ v.ticket
stored_ticket v used_cell value = refl
stored_ticket v (head_cell list) value = refl
stored_ticket v (info_cell d) value = refl
stored_ticket v (anchor_cell d) zero = refl
stored_ticket v (anchor_cell d) (suc n) = refl
stored_ticket v (link_cell d) value = refl
stored_ticket v (root_cell i) value = refl
stored_ticket v (data_cell word) value = refl
stored_ticket v no_cell value = refl

pub one_at_most : (ticket : Option ℕ) → one_if_some ticket ≤ 1
one_at_most None = omega arith
one_at_most (Some n) = omega arith

none_left : (v : View) (drawn : ℕ) (w : View) → w.ticket ≡ None → one_if_some w.ticket + drawn ≤ one_if_some v.ticket + drawn
none_left v drawn w none = let z = ap one_if_some none in omega arith

-- the tickets in hand are no more than before, but for one that was drawn
pub ticket_after : (m : Memory) (v : View) (event : Event) → one_if_some (seat_after m v event).ticket + m.drawn ≤ one_if_some v.ticket +
    (memory_after m v event).drawn
ticket_after m v (Tick shift) = let one = one_at_most (seat_after m v (Tick shift)).ticket in omega arith
ticket_after m v (Load word) = omega arith
ticket_after m v (Store word value) = none_left v m.drawn (seat_after m v (Store word value)) (stored_ticket _ (cell_at v.setup.capacity word) value)
ticket_after m v (Settle word) = omega arith
ticket_after m v LookUsed = omega arith
ticket_after m v (TakeFresh n) = none_left v m.drawn (seat_after m v (TakeFresh n))
    (either_way (nat_eq (found_by m v (TakeFresh n)) (seen v.seen_used)) _ _ refl refl)
ticket_after m v KeepUsed = omega arith
ticket_after m v (LookHead list) = omega arith
ticket_after m v LookLink = omega arith
ticket_after m v Pop = none_left v m.drawn (seat_after m v Pop) (either_way (nat_eq (found_by m v Pop) (seen_word v.seen_head)) _ _
    (claimed_ticket _ _ (seen_of v.seen_head)) refl)
ticket_after m v (Push d) = none_left v m.drawn (seat_after m v (Push d))
    (either_way (nat_eq (found_by m v (Push d)) (seen_word v.seen_head)) (pushed v d) _
    (either_way (nat_lt 0 (times d v.raw + times d v.split)) (pushed_raw v d) (pushed_classed v d) refl refl) refl)
ticket_after m v (LookAnchor d) = omega arith
ticket_after m v (TakeAll d) = none_left v m.drawn (seat_after m v (TakeAll d))
    (either_way (nat_eq (found_by m v (TakeAll d)) (seen_word v.seen_anchor)) _ _ refl refl)
ticket_after m v (Give d) = none_left v m.drawn (seat_after m v (Give d))
    (either_way (nat_eq (found_by m v (Give d)) (seen_word v.seen_anchor)) (given v d) _ (given_ticket v d) refl) where
      given_ticket : (u : View) (e : ℕ) → (given u e).ticket ≡ None
      given_ticket u e = by_test (nat_eq (seen_word u.seen_anchor) full_anchor) where
        by_test : (test : Bool) → (cond test (claimed (record (won u) { batch = no_batch; seen_anchor = None; gives = u.gives + 1 })
            e u.batch.class) (record (won u) { batch = no_batch; seen_anchor = None; gives = u.gives + 1 })).ticket ≡ None
        by_test true = claimed_ticket _ e u.batch.class
        by_test false = refl
