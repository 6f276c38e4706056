-- What a step tells of the heap.
use Rattle.std.proofs.Common.{◌≡◌, ℕ, ◌+◌, ◌<◌, ◌≤◌, Bool, true, false, cond, nat_lt, Option, None, Some, refl, ap, sym, ◌∙◌, ltb-true, lt-ltb, true≢false, inl, inr, arith}
use Rattle.std.proofs.lemmas.Bool.{cases_lt}
use Rattle.core_model.specs.declared.event.Event.TheVariants.{Tick, Load}
use Rattle.core_model.specs.declared.event.Shift.{Shift}
use Rattle.core_model.specs.declared.event.Shift.TheVariants.{Cut, Alloc, Free, Lift, Large, Split}
use Rattle.core_model.specs.Cells.{cell_at}
use Rattle.core_model.specs.Memory.{Memory, memory_of}
use Rattle.core_model.specs.View.{View, one_if_some}
use Rattle.core_model.specs.Effects.{drew, stopped}
use Rattle.core_model.specs.ViewAfter.{shifted}
use Rattle.core_model.proofs.TotalLemmas.{total_at}
use Rattle.heap_table.specs.Plays.{IsEvent}
use Rattle.heap_rule.specs.Shown.{Shows}
use Rattle.heap_rule.proofs.SettleLemmas.{own_there}
use Rattle.heap_rule.proofs.ViewLemmas.{shown}

-- a change of the parts leaves ticket, stop and count of draws
pub record IsDrawn (u v : View) : Type 0 where
  pub ticket : u.ticket ≡ v.ticket
  pub stopped_is : u.stopped ≡ v.stopped
  pub draws : u.draws ≡ v.draws

pub parts_alone : (m : Memory) (v : View) (shift : Option Shift) → IsDrawn (shifted m v shift) v
parts_alone m v None = record { ticket = refl; stopped_is = refl; draws = refl }
parts_alone m v (Some (Cut d)) = record { ticket = refl; stopped_is = refl; draws = refl }
parts_alone m v (Some (Alloc class)) = record { ticket = refl; stopped_is = refl; draws = refl }
parts_alone m v (Some (Free block)) = record { ticket = refl; stopped_is = refl; draws = refl }
parts_alone m v (Some (Lift class)) = record { ticket = refl; stopped_is = refl; draws = refl }
parts_alone m v (Some (Large d n)) = record { ticket = refl; stopped_is = refl; draws = refl }
parts_alone m v (Some (Split block)) = record { ticket = refl; stopped_is = refl; draws = refl }

-- the ticket is the count of all draws
pub draws_before : (shift : Option Shift) (v w : View) (ticket : ℕ) → IsEvent (Tick shift) v ticket w → v.draws ≤ ticket
draws_before shift v w ticket e =
    let all = e.before.sound.good.adds.draws in
    let mine = total_at (λ (u : View). u.draws) e.before.views e.before.seat v e.before.below e.before.at in
    let found = e.found_is in omega arith

by_budget : (m : Memory) (v w : View) (shift : Option Shift) (ticket : ℕ) (below : Bool) → nat_lt ticket v.setup.budget ≡ below → v.draws ≤ ticket
    → w ≡ cond below (shifted m (drew v ticket) shift) (stopped v ticket) → w.stopped ≡ None
    → (w.ticket ≡ Some ticket) × (ticket < v.setup.budget) × (v.draws ≤ ticket) × (w.draws ≡ v.draws + 1)
by_budget m v w shift ticket true less most after going = let p = parts_alone m (drew v ticket) shift in
    (ap (λ (u : View). u.ticket) after ∙ p.ticket, ltb-true ticket v.setup.budget less, most, ap (λ (u : View). u.draws) after ∙ p.draws)
by_budget m v w shift ticket false past most after going = absurd (let e = ap one_if_some (sym going ∙ ap (λ (u : View). u.stopped) after) in
    omega arith)

pub drawn_told : (shift : Option Shift) (v w : View) (ticket : ℕ) → IsEvent (Tick shift) v ticket w → w.stopped ≡ None
    → (w.ticket ≡ Some ticket) × (ticket < v.setup.budget) × (v.draws ≤ ticket) × (w.draws ≡ v.draws + 1)
drawn_told shift v w ticket e going = by_budget (memory_of v.setup.capacity e.before.words) v w shift ticket (nat_lt ticket v.setup.budget) refl
    (draws_before shift v w ticket e) e.after going

by_stop : (m : Memory) (v w : View) (shift : Option Shift) (ticket step : ℕ) (below : Bool) → nat_lt ticket v.setup.budget ≡ below
    → w ≡ cond below (shifted m (drew v ticket) shift) (stopped v ticket) → v.stopped ≡ None → w.stopped ≡ Some step → (step ≡ ticket)
    × (v.setup.budget ≤ ticket)
by_stop m v w shift ticket step true less after going stop = absurd (let p = parts_alone m (drew v ticket) shift in
    let e = ap one_if_some (sym stop ∙ ap (λ (u : View). u.stopped) after ∙ p.stopped_is ∙ going) in omega arith)
by_stop m v w shift ticket step false past after going stop =
    let same : Some step ≡ Some ticket = sym stop ∙ ap (λ (u : View). u.stopped) after in (
      the_number same,
      elim (cases_lt ticket v.setup.budget) [
        | inl less ↦ absurd
            (true≢false (sym (lt-ltb ticket v.setup.budget less) ∙ past))
        | inr more ↦ let e = more in omega arith
      ],
    ) where
      number : Option ℕ → ℕ
      number None = 0
      number (Some n) = n

      the_number : Some step ≡ Some ticket → step ≡ ticket
      the_number same = ap number same

pub stop_told : (shift : Option Shift) (v w : View) (ticket step : ℕ) → IsEvent (Tick shift) v ticket w → v.stopped ≡ None
    → w.stopped ≡ Some step → (step ≡ ticket) × (v.setup.budget ≤ ticket)
stop_told shift v w ticket step e going stop = by_stop (memory_of v.setup.capacity e.before.words) v w shift ticket step
    (nat_lt ticket v.setup.budget) refl e.after going stop

pub load_told : (v w : View) (word value found : ℕ) → IsEvent (Load word) v found w → Shows v (cell_at v.setup.capacity word) value → found ≡ value
load_told v w word value found e shows = e.found_is ∙ shown v e.before (cell_at v.setup.capacity word) value (own_there v word e.may.ready) shows
