-- The seats stay in front and the carriers behind them, whatever event a seat takes.
use Rattle.std.proofs.Common.{◌≡◌, ℕ, ◌+◌, ◌<◌, ◌≤◌, inl, inr, get_or, set, length, List, ap, sym, subst, ◌∙◌, length-set, arith}
use Rattle.std.proofs.lemmas.Bool.{cases_eq}
use Rattle.std.proofs.lemmas.List.{get_or-set_same, get_or-set_other}
use Rattle.core_model.specs.declared.event.Event.{Event}
use Rattle.core_model.specs.Effects.{left_there, place_of}
use Rattle.core_model.specs.Guards.{MayStep}
use Rattle.core_model.specs.Memory.{Memory, memory_of}
use Rattle.core_model.specs.Sound.{Sound}
use Rattle.core_model.specs.Steps.{found_by, seat_after, words_after}
use Rattle.core_model.specs.View.{Setup, View, Role, one_if_some, role}
use Rattle.core_model.proofs.OfferLemmas.{same_roles}
use Rattle.core_model.proofs.RoleLemmas.{role_after}
use Rattle.core_model.proofs.SoundLemmas.{in_table}
use Rattle.core_model.proofs.TableLemmas.{memory_set}
use Rattle.core_model.proofs.TicketLemmas.{ticket_after}
use Rattle.core_model.proofs.TotalLemmas.{total_set}
use Rattle.heap_model.specs.Counting.{total}
use Rattle.crash_core.specs.Standing.{AreInOrder}

pub event_order : (k : Setup) (m : Memory) (views : List View) (i : ℕ) (v : View) (event : Event) → i < length views → get_or views i v ≡ v
    → i < k.seats → AreInOrder k views → AreInOrder k (set views i (seat_after m v event))
event_order k m views i v event below at seat order = record {
  counted = same_roles k views i v w below at order.counted (order.first i v seat at) same;
  few = order.few;
  all = subst (λ n. k.seats ≤ n) (sym (length-set views i w)) order.all;
  first = λ j u less at_u. elim (cases_eq j i) [
    | inl here ↦ ap (λ (x : View). x.carries) (sym (is_w j u here at_u)) ∙ ap (λ (r : Role). r.carries) same ∙ order.first i v seat at
    | inr other ↦ order.first j u less (sym (get_or-set_other views i j w u other) ∙ at_u)
  ];
  behind = λ j u past less at_u. order.behind j u past (subst (λ n. j < n) (length-set views i w) less)
      (sym (get_or-set_other views i j w u (λ same_j. omega (arith, same_j, past, seat))) ∙ at_u);
} where
  w : View
  w = seat_after m v event

  same : role w ≡ role v
  same = role_after m v event (found_by m v event)

  is_w : (j : ℕ) (u : View) → j ≡ i → get_or (set views i w) j u ≡ u → w ≡ u
  is_w j u here at_u = sym (get_or-set_same views i w u below) ∙ subst (λ n. get_or (set views i w) n u ≡ u) here at_u

-- an event makes no carrier, and gives no ticket but the one that it draws
pub event_made : (k : Setup) (words : List ℕ) (views : List View) (i : ℕ) (v : View) (event : Event) → i < length views → get_or views i v ≡ v
    → Sound k words views → MayStep (memory_of k.capacity words) v event
    → length views + total (λ (x : View). one_if_some x.ticket) views ≤ k.seats + (memory_of k.capacity words).drawn
    → length (set views i (seat_after (memory_of k.capacity words) v event)) + total (λ (x : View). one_if_some x.ticket)
    (set views i (seat_after (memory_of k.capacity words) v event)) ≤ k.seats + (memory_of k.capacity (words_after k words v event)).drawn
event_made k words views i v event below at sound may made =
    let m = memory_of k.capacity words in
    let l = length-set views i (seat_after m v event) in let t = total_set (λ (x : View). one_if_some x.ticket) views i v
    (seat_after m v event) below at in
    let after = ap (λ (n : Memory). n.drawn) (memory_set k.capacity words (place_of v event)
    (left_there m v event (found_by m v event)) sound.long (in_table k m views i v below at sound.good event may)) in
    let one = ticket_after m v event in omega arith
