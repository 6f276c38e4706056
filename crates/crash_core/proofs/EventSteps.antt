-- What a step of the core makes of each state that it stands for.
use Rattle.std.proofs.Common.{◌≡◌, ℕ, ◌+◌, ◌<◌, ◌≤◌, List, get_or, length, Option, None, Some, refl, ap, sym, subst, ◌∙◌}
use Rattle.core_model.specs.declared.answer.StepAnswer.{StepAnswer}
use Rattle.core_model.specs.declared.answer.StepAnswer.TheVariants.{Done, Stopped, NotNow}
use Rattle.core_model.specs.declared.event.Event.{Event}
use Rattle.core_model.specs.declared.event.Event.TheVariants.{Tick, Load, Store, Settle, LookUsed, TakeFresh, KeepUsed, LookHead, LookLink, Pop, Push, LookAnchor, TakeAll, Give}
use Rattle.seat_state.specs.declared.notes.SeatNotes.{SeatNotes}
use Rattle.crash_core.specs.declared.state.CoreState.{CoreState}
use Rattle.heap_model.specs.Counting.{total}
use Rattle.core_model.specs.View.{Setup, View, one_if_some}
use Rattle.core_model.specs.Guards.{HasTicketFor, MayDo}
use Rattle.core_model.specs.Memory.{memory_of}
use Rattle.core_model.specs.Steps.{TableState, StepsTo, is_done, stops, not_now, has_stopped, state_after}
use Rattle.crash_core.specs.Standing.{IsSeatAt, IsCore, KeepsViews, AreInOrder, IsStanding, KeepsState, Represents, HasTicketAt, Takes, Follows, Steps, steps_done, steps_stopped, steps_not, state_of}
use Rattle.crash_core.proofs.OrderSteps.{event_made, event_order}
use Rattle.seat_state.proofs.WordLemmas.{entry_there}
use Rattle.crash_core.proofs.StandingLemmas.{among}

-- what a seat has by its ticket
ticket_for : (v : View) (ticket : Option ℕ) (event : Event) → v.ticket ≡ ticket → HasTicketAt ticket event → HasTicketFor v event
ticket_for v ticket (Tick shift) is has = tt
ticket_for v ticket (Load word) is has = ap one_if_some is ∙ has
ticket_for v ticket (Store word value) is has = ap one_if_some is ∙ has
ticket_for v ticket (Settle word) is has = tt
ticket_for v ticket LookUsed is has = ap one_if_some is ∙ has
ticket_for v ticket (TakeFresh n) is has = ap one_if_some is ∙ has
ticket_for v ticket KeepUsed is has = ap one_if_some is ∙ has
ticket_for v ticket (LookHead list) is has = ap one_if_some is ∙ has
ticket_for v ticket LookLink is has = ap one_if_some is ∙ has
ticket_for v ticket Pop is has = ap one_if_some is ∙ has
ticket_for v ticket (Push d) is has = ap one_if_some is ∙ has
ticket_for v ticket (LookAnchor d) is has = ap one_if_some is ∙ has
ticket_for v ticket (TakeAll d) is has = ap one_if_some is ∙ has
ticket_for v ticket (Give d) is has = ap one_if_some is ∙ has

ticket_of : (v : View) (ticket : Option ℕ) (event : Event) → v.ticket ≡ ticket → HasTicketFor v event → HasTicketAt ticket event
ticket_of v ticket (Tick shift) is has = tt
ticket_of v ticket (Load word) is has = ap one_if_some (sym is) ∙ has
ticket_of v ticket (Store word value) is has = ap one_if_some (sym is) ∙ has
ticket_of v ticket (Settle word) is has = tt
ticket_of v ticket LookUsed is has = ap one_if_some (sym is) ∙ has
ticket_of v ticket (TakeFresh n) is has = ap one_if_some (sym is) ∙ has
ticket_of v ticket KeepUsed is has = ap one_if_some (sym is) ∙ has
ticket_of v ticket (LookHead list) is has = ap one_if_some (sym is) ∙ has
ticket_of v ticket LookLink is has = ap one_if_some (sym is) ∙ has
ticket_of v ticket Pop is has = ap one_if_some (sym is) ∙ has
ticket_of v ticket (Push d) is has = ap one_if_some (sym is) ∙ has
ticket_of v ticket (LookAnchor d) is has = ap one_if_some (sym is) ∙ has
ticket_of v ticket (TakeAll d) is has = ap one_if_some (sym is) ∙ has
ticket_of v ticket (Give d) is has = ap one_if_some (sym is) ∙ has

-- the state is the core's words with its views
stated : (c : CoreState) (k : Setup) (s : TableState) → Represents c k s → s ≡ state_of c s.views
stated c k s stands = ap (λ ws. let r : TableState = record { words = ws; views = s.views } in r) (sym stands.words)

abbrev pub Next : CoreState → Setup → TableState → ℕ → Event → StepAnswer → Type 0
Next new k s i event answer = (next : TableState) × StepsTo k s i event answer next × Represents new k next

-- a state whose carriers stand behind the seats, and took a ticket each
record IsOrdered (k : Setup) (s : TableState) : Type 0 where
  order : AreInOrder k s.views
  made : length s.views + total (λ (v : View). one_if_some v.ticket) s.views ≤ k.seats + (memory_of k.capacity s.words).drawn

in_order : (c : CoreState) (k : Setup) (s : TableState) → KeepsState c k s → IsOrdered k s → Represents c k s
in_order c k s keeps ordered = record { words = keeps.words; keeps = keeps.keeps; order = ordered.order; made = ordered.made }

after_event : (c : CoreState) (k : Setup) (views : List View) (i : ℕ) (v : View) (event : Event) → KeepsViews c k views
    → IsOrdered k (state_of c views) → i < k.seats → i < length views → get_or views i v ≡ v
    → MayDo (memory_of k.capacity c.words.items) v event → IsOrdered k (state_after k (state_of c views) i v event)
after_event c k views i v event keeps ordered seat below at may = record {
  order = event_order k (memory_of k.capacity c.words.items) views i v event below at seat ordered.order;
  made = event_made k c.words.items views i v event below at keeps.sound may.may ordered.made;
}

of_steps : (c new : CoreState) (k : Setup) (views : List View) (i : ℕ) (v : View) (event : Event) (answer : StepAnswer) → KeepsViews c k views
    → IsOrdered k (state_of c views) → i < k.seats → i < length views → get_or views i v ≡ v → v.stopped ≡ None
    → Steps c new k views i v event answer → Next new k (state_of c views) i event answer
of_steps c new k views i v event Done keeps ordered seat below at going (steps_done may on stands) = (
  state_after k (state_of c views) i v event,
  is_done v at may on,
  in_order new k _ stands (after_event c k views i v event keeps ordered seat below at may),
)
of_steps c new k views i v event (Stopped ticket) keeps ordered seat below at going (steps_stopped step may at_end stands) = (
  state_after k (state_of c views) i v event,
  stops v step at may at_end,
  in_order new k _ stands (after_event c k views i v event keeps ordered seat below at may),
)
of_steps c new k views i v event NotNow keeps ordered seat below at going (steps_not refused same) = (
  state_of c views,
  not_now v at going refused,
  subst (λ x. Represents x k (state_of c views)) (sym same)
      (in_order c k (state_of c views) (record { words = refl; keeps = keeps }) ordered),
)

module _ (c : CoreState) (i : ℕ) (t : SeatNotes) (event : Event) (at_t : IsSeatAt c i t) where
  by_views : (new : CoreState) (answer : StepAnswer) → ((k : Setup) (views : List View) → KeepsViews c k views → IsOrdered k (state_of c views)
      → Next new k (state_of c views) i event answer) → Follows c i event answer new
  by_views new answer next = λ k s stands. subst (λ x. Next new k x i event answer) (sym (stated c k s stands))
      (next k s.views stands.keeps (record {
        order = stands.order;
        made =
            subst (λ (x : TableState). length s.views + total (λ (v : View). one_if_some v.ticket) s.views ≤ k.seats +
            (memory_of k.capacity x.words).drawn) (stated c k s stands) stands.made;
      }))

  seat_there : (k : Setup) (views : List View) → KeepsViews c k views → (v : View) × (get_or views i v ≡ v)
  seat_there k views keeps = entry_there views i (among keeps at_t.less)

  pub follows_stopped : (step : ℕ) → t.stopped ≡ Some step → Follows c i event (Stopped step) c
  follows_stopped step some = by_views c (Stopped step) (λ k views keeps order.
      let v = seat_there k views keeps in (
        state_of c views,
        has_stopped v.0 step v.1 ((keeps.each i t v.0 (among keeps at_t.less) at_t v.1).notes.stopped ∙ some),
        in_order c k (state_of c views) (record { words = refl; keeps = keeps }) order,
      ))

  pub follows_not : t.stopped ≡ None → (HasTicketAt t.ticket event → ⊥) → Follows c i event NotNow c
  follows_not going none = by_views c NotNow (λ k views keeps order.
      let v = seat_there k views keeps in let notes = (keeps.each i t v.0 (among keeps at_t.less) at_t v.1).notes in (
        state_of c views,
        not_now v.0 v.1 (notes.stopped ∙ going) (λ may. none (ticket_of v.0 t.ticket event notes.ticket may.may.ticket)),
        in_order c k (state_of c views) (record { words = refl; keeps = keeps }) order,
      ))

  pub follows_taken : t.stopped ≡ None → HasTicketAt t.ticket event → (new : CoreState) (answer : StepAnswer) → Takes c i event answer new
      → Follows c i event answer new
  follows_taken going has new answer takes = by_views new answer (λ k views keeps order.
      let v = seat_there k views keeps in let below = among keeps at_t.less in let notes = (keeps.each i t v.0 below at_t v.1).notes in
      of_steps c new k views i v.0 event answer keeps order (subst (λ n. i < n) (sym keeps.opened) at_t.less) below v.1 (notes.stopped ∙ going)
      (takes k views v.0 keeps below v.1 (notes.stopped ∙ going) (ticket_for v.0 t.ticket event notes.ticket has)))

-- a core that stands for a state keeps one
pub core_of : (c : CoreState) → IsStanding c → IsCore c
core_of c core = record { setup = core.setup; views = core.state.views; keeps = core.stands.keeps }

pub seats_after : (c new : CoreState) (i : ℕ) (event : Event) (answer : StepAnswer) → IsStanding c → Follows c i event answer new
    → length new.seats.items ≡ length c.seats.items
seats_after c new i event answer core follows = let next = follows core.setup core.state core.stands in
    sym next.2.keeps.opened ∙ core.stands.keeps.opened

-- the core after a step stands for a state again
pub core_after : (c new : CoreState) (i : ℕ) (event : Event) (answer : StepAnswer) → IsStanding c → Follows c i event answer new → IsStanding new
core_after c new i event answer core follows = let next = follows core.setup core.state core.stands in
    record { setup = core.setup; state = next.0; stands = next.2 }
