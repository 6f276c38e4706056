-- How rows of calls of a seat go together, for its callers.
use Rattle.std.proofs.Common.{◌≡◌, ℕ, ◌+◌, ◌≤◌, ◌⊎◌, inl, inr, Option, None, Some, refl, sym, subst, ◌∙◌, arith}
use Rattle.heap_seat.specs.declared.look.Look.{Look}
use Rattle.heap_seat.specs.View.{View}
use Rattle.heap_seat.specs.Looks.{IsMade, KeepsLooks}
use Rattle.heap_seat.specs.Tickets.{Runs, Stops}
use Rattle.heap_seat.specs.Calls.{GoesOn, SameRefusals, IsSmallCall, IsLargeCall, counted}
use Rattle.heap_seat.specs.Rows.{IsRow}

-- no call at all
pub goes_none : (v : View) → GoesOn v v
goes_none v = record { capacity = refl; kinds = refl; budget = refl; tickets = omega arith; used = omega arith }

pub looks_none : (v : View) → KeepsLooks v v
looks_none v = record { used = inl refl; heads = λ list. inl refl }

pub row_none : (v : View) → IsRow 0 0 0 v v
row_none v = record {
  goes_on = goes_none v;
  small_from = omega arith;
  small_few = omega arith;
  large_from = omega arith;
  large_few = omega arith;
  taken = omega arith;
  few = omega arith;
  looks = looks_none v;
}

-- one after the other
pub goes_then : (v u w : View) → GoesOn v u → GoesOn u w → GoesOn v w
goes_then v u w a b = record {
  capacity = b.capacity ∙ a.capacity;
  kinds = b.kinds ∙ a.kinds;
  budget = b.budget ∙ a.budget;
  tickets = let p = a.tickets in let q = b.tickets in omega arith;
  used = let p = a.used in let q = b.used in omega arith;
}

-- a look over two stretches of tickets and of superblocks taken
pub look_then : (from mid until before between after : ℕ) (x y z : Look) → from ≤ mid → mid ≤ until → before ≤ between → between ≤ after
    → (y ≡ x) ⊎ IsMade from mid before between y → (z ≡ y) ⊎ IsMade mid until between after z → (z ≡ x) ⊎ IsMade from until before after z
look_then from mid until before between after x y z f u b a (inl one) (inl two) = inl (two ∙ one)
look_then from mid until before between after x y z f u b a (inr made) (inl two) = inr (subst (IsMade from until before after) (sym two) (record {
  ticket = made.ticket;
  by = made.by;
  since = made.since;
  below = let p = made.below in omega arith;
  least = made.least;
  most = let p = made.most in omega arith;
}))
look_then from mid until before between after x y z f u b a one (inr made) = inr (record {
  ticket = made.ticket;
  by = made.by;
  since = let p = made.since in omega arith;
  below = made.below;
  least = let p = made.least in omega arith;
  most = made.most;
})

pub looks_then : (v u w : View) → v.next ≤ u.next → u.next ≤ w.next → v.taken ≤ u.taken → u.taken ≤ w.taken → KeepsLooks v u → KeepsLooks u w
    → KeepsLooks v w
looks_then v u w f t b a one two = record {
  used = look_then v.next u.next w.next v.taken u.taken w.taken v.used_look u.used_look w.used_look f t b a one.used two.used;
  heads = λ list. look_then v.next u.next w.next v.taken u.taken w.taken (v.head_look list) (u.head_look list) (w.head_look list) f t b a
      (one.heads list) (two.heads list);
}

pub row_then : (small large most smalls larges mosts : ℕ) (v u w : View) → IsRow small large most v u → IsRow smalls larges mosts u w
    → IsRow (small + smalls) (large + larges) (most + mosts) v w
row_then small large most smalls larges mosts v u w a b = record {
  goes_on = goes_then v u w a.goes_on b.goes_on;
  small_from = let p = a.small_from in let q = b.small_from in omega arith;
  small_few = let p = a.small_few in let q = b.small_few in omega arith;
  large_from = let p = a.large_from in let q = b.large_from in omega arith;
  large_few = let p = a.large_few in let q = b.large_few in omega arith;
  taken = let p = a.taken in let q = b.taken in omega arith;
  few = let p = a.few in let q = b.few in omega arith;
  looks = looks_then v u w a.goes_on.tickets b.goes_on.tickets a.taken b.taken a.looks b.looks;
}

-- wider bounds
pub row_more : (small large most smalls larges mosts : ℕ) (v w : View) → small ≤ smalls → large ≤ larges → most ≤ mosts
    → IsRow small large most v w → IsRow smalls larges mosts v w
row_more small large most smalls larges mosts v w s l m row = record {
  goes_on = row.goes_on;
  small_from = row.small_from;
  small_few = let p = row.small_few in omega arith;
  large_from = row.large_from;
  large_few = let p = row.large_few in omega arith;
  taken = row.taken;
  few = let p = row.few in omega arith;
  looks = row.looks;
}

-- a count rises by one at most
pub counted_one : (stopped : Option ℕ) (calls : ℕ) → (calls ≤ counted stopped calls) × (counted stopped calls ≤ calls + 1)
counted_one None calls = (omega arith, omega arith)
counted_one (Some ticket) calls = (omega arith, omega arith)

-- one call
pub row_small : (v w : View) → IsSmallCall v w → IsRow 1 0 0 v w
row_small v w call =
    let one = counted_one v.stopped v.small_calls in
    let small = call.small in
    let large = call.large in
    let taken = call.taken in
    record {
      goes_on = call.goes_on;
      small_from = omega (arith, one.0);
      small_few = omega (arith, one.1);
      large_from = omega arith;
      large_few = omega arith;
      taken = omega arith;
      few = omega arith;
      looks = record { used = inl call.used_look; heads = λ list. inl (call.head_look list) };
    }

pub row_large : (most : ℕ) (v w : View) → IsLargeCall most v w → IsRow 0 1 most v w
row_large most v w call =
    let one = counted_one v.stopped v.large_calls in
    let small = call.small in
    let large = call.large in
    record {
      goes_on = call.goes_on;
      small_from = omega arith;
      small_few = omega arith;
      large_from = omega (arith, one.0);
      large_few = omega (arith, one.1);
      taken = call.taken;
      few = call.few;
      looks = call.looks;
    }

-- calls that were done, and one more that was done or that stopped
pub runs_then : (v u w : View) → Runs v u → Runs u w → Runs v w
runs_then v u w a b = record { ran = a.ran; running = b.running; drew = let p = a.drew in let q = b.drew in omega arith; below = b.below }

pub stops_then : (ticket : ℕ) (v u w : View) → Runs v u → Stops ticket u w → Stops ticket v w
stops_then ticket v u w a b = record {
  stopped = b.stopped;
  above = b.above;
  last = b.last;
  now = λ ran.
      let drawn = b.now a.running in
      record { from = let p = a.drew in let q = drawn.from in omega arith; until = drawn.until };
  before = λ at stopped. absurd (let ran = a.ran in cc);
}

-- refusals over two calls
pub same_refusals_then : (v u w : View) → SameRefusals v u → SameRefusals u w → SameRefusals v w
same_refusals_then v u w a b = record { count = b.count ∙ a.count; bytes = b.bytes ∙ a.bytes; looks = b.looks ∙ a.looks }
