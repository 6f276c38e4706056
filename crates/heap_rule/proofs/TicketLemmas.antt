-- A seat's tickets rise, and a seat that has stopped keeps its last one.
use Rattle.std.proofs.Common.{◌≡◌, ◌<◌, ◌≤◌, ◌+◌, ℕ, Bool, true, false, cond, nat_lt, Option, None, Some, refl, ap, subst, ◌∙◌, arith}
use Rattle.core_model.specs.declared.event.Event.TheVariants.{LookUsed, Tick}
use Rattle.core_model.specs.declared.event.Shift.{Shift}
use Rattle.core_model.specs.declared.event.Shift.TheVariants.{Cut, Alloc, Free, Lift, Large, Split}
use Rattle.core_model.specs.Effects.{drew, seen, stopped}
use Rattle.core_model.specs.ViewAfter.{shifted}
use Rattle.core_model.specs.Memory.{Memory, memory_of}
use Rattle.core_model.specs.View.{View, one_if_some}
use Rattle.heap_table.specs.Plays.{HasSoundState, IsEvent}
use Rattle.heap_rule.specs.Tickets.{after_ticket, next_of}
use Rattle.heap_rule.proofs.ToldLemmas.{draws_before, parts_alone}

-- a ticket that is drawn is above the last one
pub rises : (shift : Option Shift) (v w : View) (ticket : ℕ) → IsEvent (Tick shift) v ticket w → next_of v ≤ ticket
rises shift v w ticket e = by_last v.last_ticket refl where
  by_last : (o : Option ℕ) → v.last_ticket ≡ o → after_ticket o ≤ ticket
  by_last None none = omega arith
  by_last (Some t) some =
      let told = (e.before.sound.good.tickets e.before.seat v e.before.below e.before.at).last.is_drawn in
      let here : t < (memory_of v.setup.capacity e.before.words).drawn = rw some at told (refl) in
      let found = e.found_is in omega arith

-- a change of the parts leaves the last ticket
last_alone : (m : Memory) (v : View) (shift : Option Shift) → (shifted m v shift).last_ticket ≡ v.last_ticket
last_alone m v None = refl
last_alone m v (Some (Cut d)) = refl
last_alone m v (Some (Alloc class)) = refl
last_alone m v (Some (Free block)) = refl
last_alone m v (Some (Lift class)) = refl
last_alone m v (Some (Large d n)) = refl
last_alone m v (Some (Split block)) = refl

-- what is drawn is the last ticket, whether the seat goes on or stops
module _ (shift : Option Shift) (v w : View) (ticket : ℕ) (e : IsEvent (Tick shift) v ticket w) where
  abbrev m : Memory
  m = memory_of v.setup.capacity e.before.words

  pub is_last : w.last_ticket ≡ Some ticket
  is_last = by_budget (nat_lt ticket v.setup.budget) e.after where
    by_budget : (below : Bool) → w ≡ cond below (shifted m (drew v ticket) shift) (stopped v ticket) → w.last_ticket ≡ Some ticket
    by_budget true after = ap (λ (u : View). u.last_ticket) after ∙ last_alone m (drew v ticket) shift
    by_budget false after = ap (λ (u : View). u.last_ticket) after

  one_draw : w.draws ≡ v.draws + 1
  one_draw = by_budget (nat_lt ticket v.setup.budget) e.after where
    by_budget : (below : Bool) → w ≡ cond below (shifted m (drew v ticket) shift) (stopped v ticket) → w.draws ≡ v.draws + 1
    by_budget true after = ap (λ (u : View). u.draws) after ∙ (parts_alone m (drew v ticket) shift).draws
    by_budget false after = ap (λ (u : View). u.draws) after

  pub draws_most : (w.draws ≡ v.draws + 1) × (w.draws ≤ ticket + 1)
  draws_most = let one = one_draw in let most = draws_before shift v w ticket e in (one, omega arith)

-- a look at the mark finds what the last one did, and what the seat has taken since, or more
pub looks_rise : (v w : View) (found : ℕ) → IsEvent LookUsed v found w → v.used_look.word + v.taken ≤ found + v.used_look.taken
looks_rise v w found e = let told = (e.before.sound.good.knows e.before.seat v e.before.below e.before.at).looked in let is = e.found_is in omega arith

module _ (v : View) (s : HasSoundState v) (ticket : ℕ) where
  pub stop_last : v.stopped ≡ Some ticket → (v.setup.budget ≤ ticket) × (v.last_ticket ≡ Some ticket) × (v.ticket ≡ None)
  stop_last at = (s.sound.good.tickets s.seat v s.below s.at).state.stopping ticket at

  pub hand_last : v.ticket ≡ Some ticket → (v.last_ticket ≡ Some ticket) × (ticket < v.setup.budget)
  hand_last at = let told = (s.sound.good.tickets s.seat v s.below s.at).state.in_hand (ap one_if_some at) in
      (told.0 ∙ at, subst (λ o. seen o < v.setup.budget) at told.1)

  pub going_low : v.stopped ≡ None → v.last_ticket ≡ Some ticket → ticket < v.setup.budget
  going_low going at = subst (λ o. seen o < v.setup.budget) at ((s.sound.good.tickets s.seat v s.below s.at).state.going going (ap one_if_some at))
