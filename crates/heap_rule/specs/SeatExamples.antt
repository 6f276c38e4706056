-- Worked examples by computation: what write-backs, fences and stores leave of a seat, and what draws and lost exchanges tell of it.
use Rattle.std.specs.Prelude.{◌≡◌, ◌<◌, ℕ, ◌+◌, Bool, true, false, List, [], ◌∷◌, ◌++◌, replicate, Some, Ok, Err, refl, length}
use Rattle.std.proofs.Common.{true≢false, ap, sym, arith}
use Rattle.line_memory.specs.Marks.{mark_at}
use Rattle.core_model.specs.declared.event.Event.TheVariants.{Pop}
use Rattle.core_model.specs.Cells.{root_cell}
use Rattle.core_model.specs.Effects.{seen}
use Rattle.core_model.specs.View.{View, known, one_if_some}
use Rattle.heap_table.specs.AtTable.{SharedView}
use Rattle.heap_rule.specs.Examples.{only, seat}
use Rattle.heap_rule.specs.Fences.{IsLineMarked, IsSeatFence, SettlesEarly, no_store, a_store}
use Rattle.heap_rule.specs.LeftExamples.{has_root, differ}
use Rattle.heap_rule.specs.Seated.{SeatView, KeepsStores, HasNewStore, HasLostTo, TellsDraw}
use Rattle.heap_rule.specs.Seats.{AreOpenedSeats, AreSeatsOf, views_of}
use Rattle.heap_rule.specs.Tickets.{next_of}

-- a seat that owns word 43, of which loads see 7 and a crash leaves 6, with these marks
abbrev pub with_marks : SeatView → List Bool → SeatView
with_marks v marks = record v { view = has_root; marks = marks }

-- a write-back marks each word of the line, takes no mark back, and marks no word of another line
pub each_of_the_line : (v : SeatView) → IsLineMarked 9 (with_marks v []) (with_marks v []) → ⊥
each_of_the_line v is = true≢false (sym (is.in_line 15 (omega arith) refl))

pub marks_are_kept : (v : SeatView) → IsLineMarked 9 (with_marks v (true ∷ [])) (with_marks v []) → ⊥
marks_are_kept v is = true≢false (sym (is.kept 0 refl))

pub no_other_line : (v : SeatView) → IsLineMarked 9 (with_marks v []) (with_marks v (true ∷ [])) → ⊥
no_other_line v is = true≢false (is.others 0 (λ e. differ 0 1 e (omega arith)))

-- word 43 is marked, and no other
abbrev pub mark_43 : List Bool
mark_43 = replicate 43 false ++ true ∷ []

-- a seat that knows other values of word 43
abbrev pub then_knows : SeatView → ℕ → ℕ → SeatView
then_knows v now kept = record v { view = record has_root { volatile = only 43 now; durable = only 43 kept }; marks = [] }

apart : (a b c : ℕ) → a ≡ c → b ≡ c → a < b → ⊥
apart a b c first second less = omega (arith, first, second, less)

-- a fence leaves no mark; a marked own word is durable then, and loads see of it what they saw
pub no_mark_is_left : (v : SeatView) → IsSeatFence v (with_marks v (true ∷ [])) → ⊥
no_mark_is_left v is = true≢false (is.clear 0)

pub marked_is_durable : (v : SeatView) → IsSeatFence (with_marks v mark_43) (then_knows v 7 6) → ⊥
marked_is_durable v is = let d = is.durable 43 refl (omega arith) in apart 6 7 d.value (ap seen d.durable) (ap seen d.volatile) (omega arith)

pub loads_see_the_same : (v : SeatView) → IsSeatFence (with_marks v mark_43) (then_knows v 6 6) → ⊥
loads_see_the_same v is = differ 6 7 (ap seen (is.seen 43 7 (omega arith) refl)) (omega arith)

-- an own word without a mark stays as it was recorded, and no ticket is drawn
pub unmarked_stays : (v : SeatView) → IsSeatFence (with_marks v []) (then_knows v 7 7) → ⊥
unmarked_stays v is = let kept = is.others 43 (omega arith) (λ marked. true≢false (sym marked)) in differ 6 7 (sym (ap seen kept.durable))
    (omega arith)

pub fence_draws_none : (v : SeatView) → IsSeatFence v (record v { view = record v.view { draws = v.view.draws + 1 } }) → ⊥
fence_draws_none v is = let more : v.view.draws + 1 ≡ v.view.draws = ap (λ (u : View). u.draws) is.rest in omega (arith, more)

-- an even number settles no word
pub even_number_settles_none : (v : SeatView) → SettlesEarly 2 (with_marks v []) (then_knows v 7 7) → ⊥
even_number_settles_none v (no_store none same) =
    differ 6 7 (sym (ap (λ (s : SeatView). seen (known s.view.durable (root_cell 3))) same)) (omega arith)
even_number_settles_none v (a_store word named settles keeps) = differ 0 1 (ap one_if_some named) (omega arith)

-- other calls forget no store and no mark, and note none; a store is noted, and its mark goes
pub no_store_is_noted : (v : SeatView) → KeepsStores (record v { stores = [] }) (record v { stores = 9 ∷ [] }) → ⊥
no_store_is_noted v keeps = differ 0 1 (ap length (sym keeps.stores)) (omega arith)

pub no_mark_is_made : (v : SeatView) → KeepsStores (record v { marks = [] }) (record v { marks = true ∷ [] }) → ⊥
no_mark_is_made v keeps = differ 0 1 (ap length (sym keeps.marks)) (omega arith)

pub store_is_noted : (v : SeatView) → HasNewStore 9 (record v { stores = [] }) (record v { stores = [] }) → ⊥
store_is_noted v new = differ 0 1 (ap length new.stores) (omega arith)

pub stored_mark_goes : (v : SeatView) → HasNewStore 1 (record v { marks = false ∷ true ∷ [] }) (record v {
  marks =
      false ∷ true ∷ [];
}) → ⊥
stored_mark_goes v new = true≢false (ap (λ (marks : List Bool). mark_at marks 1) new.marks)

-- a draw tells the ticket in hand, or the step at which the seat stopped
pub tells_a_ticket : TellsDraw seat (Ok tt)
tells_a_ticket = refl

pub tells_the_stop : TellsDraw (record seat { stopped = Some 12 }) (Err (record { step = 12 }))
tells_the_stop = refl

pub tells_no_other_stop : TellsDraw (record seat { stopped = Some 12 }) (Err (record { step = 13 })) → ⊥
tells_no_other_stop told = differ 12 13 (ap seen told) (omega arith)

pub tells_no_ticket_then : TellsDraw (record seat { stopped = Some 12 }) (Ok tt) → ⊥
tells_no_ticket_then told = differ 0 1 (sym (ap one_if_some told)) (omega arith)

-- the tickets of a seat rise
pub first_ticket : next_of seat ≡ 0
first_ticket = refl

pub ticket_after_the_last : next_of (record seat { last_ticket = Some 4 }) ≡ 5
ticket_after_the_last = refl

-- a lost exchange counts
pub loss_counts : (v : View) → HasLostTo Pop 5 6 v v → ⊥
loss_counts v lost = let more : v.losses ≡ v.losses + 1 = lost.losses in omega (arith, more)

-- a heap is opened with each seat's own view, and closed with all its seats, whose views stand in their order
pub opened_with_its_view : (shared : SharedView) (v : SeatView) → AreOpenedSeats shared (λ i. has_root) (record v {
  view = seat;
} ∷ [])
    → ⊥
opened_with_its_view shared v opened = let first = opened.each 0 (record v { view = seat }) (omega arith) refl in
    differ 0 1 (ap (λ (u : View). length u.roots) first.1) (omega arith)

pub closed_with_all : (shared : SharedView) → AreSeatsOf (record shared { opening = record shared.opening { seats = 1 } }) [] → ⊥
closed_with_all shared are = differ 0 1 are.count (omega arith)

pub views_in_order : (a b : SeatView) → views_of (a ∷ b ∷ []) ≡ a.view ∷ b.view ∷ []
views_in_order a b = refl
