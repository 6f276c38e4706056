-- What a view shows that a seat may do, it may do in every sound state in which it has the view.
use Rattle.std.proofs.Common.{◌<◌, ap, subst}
use Rattle.core_model.specs.declared.event.Event.{Event}
use Rattle.core_model.specs.declared.event.Event.TheVariants.{Tick, Load, Store, Settle, LookUsed, TakeFresh, KeepUsed, LookHead, LookLink, Pop, Push, LookAnchor, TakeAll, Give}
use Rattle.core_model.specs.Cells.{cell_at}
use Rattle.core_model.specs.Memory.{memory_of, table_index, table_length}
use Rattle.core_model.specs.View.{View, one_if_some}
use Rattle.core_model.specs.Effects.{place_of}
use Rattle.core_model.specs.Guards.{IsReadyFor}
use Rattle.core_model.proofs.SoundLemmas.{in_length}
use Rattle.heap_table.specs.Plays.{HasSoundState, May}
use Rattle.heap_rule.specs.Shown.{Can, IsShownFor}
use Rattle.heap_rule.proofs.GuardLemmas.{store_may, push_may, give_may}
use Rattle.heap_rule.proofs.GuardShiftLemmas.{shift_may}

module _ (v : View) (s : HasSoundState v) where
  ready_for : (event : Event) → IsShownFor v event → IsReadyFor (memory_of v.setup.capacity s.words) v event
  ready_for (Tick shift) shown = shift_may v s shift shown
  ready_for (Load word) shown = shown
  ready_for (Store word value) shown = (shown.0, store_may v s (cell_at v.setup.capacity word) value shown.0 shown.1)
  ready_for (Settle word) shown = shown
  ready_for LookUsed shown = tt
  ready_for (TakeFresh n) shown = shown
  ready_for KeepUsed shown = shown
  ready_for (LookHead list) shown = shown
  ready_for LookLink shown = shown
  ready_for Pop shown = shown
  ready_for (Push d) shown = push_may v s d shown
  ready_for (LookAnchor d) shown = shown
  ready_for (TakeAll d) shown = shown
  ready_for (Give d) shown = give_may v s d shown

pub may_of : (v : View) (event : Event) → Can v event → May v event
may_of v event can s = record {
  going = ap one_if_some can.going;
  ticket = can.ticket;
  ready = ready_for v s event can.shown;
}

-- its word is one of the table
pub can_place : (v : View) (event : Event) → HasSoundState v → Can v event
    → table_index v.setup.capacity (place_of v event) < table_length v.setup.capacity
can_place v event s can = subst (λ n. table_index v.setup.capacity (place_of v event) < n) s.sound.long
    (in_length v.setup (record { words = s.words; views = s.views }) s.seat v event s.below s.at s.sound (may_of v event can s))
