-- What an offer answers, in each state that the core stands for.
use Rattle.std.proofs.Common.{◌≡◌, ℕ, ◌<◌, ◌≤◌, get_or, Bool, true, false, not, is_some, Option, None, Some, ap, sym, subst, ◌∙◌, true≢false, arith}
use Rattle.heap_model.specs.Counting.{times, total}
use Rattle.core_model.specs.declared.answer.StepAnswer.{StepAnswer}
use Rattle.core_model.specs.declared.answer.StepAnswer.TheVariants.{NotNow, Stopped}
use Rattle.core_model.specs.Carriers.{MayHand}
use Rattle.heap_model.specs.declared.block.Block.{Block}
use Rattle.heap_model.specs.Geometry.{start_word, superblock_of}
use Rattle.core_model.specs.Effects.{span_count}
use Rattle.core_model.specs.Guards.{IsThere, MaySplit}
use Rattle.core_model.specs.Handing.{HoldsAt, offers_not, offers_stopped}
use Rattle.core_model.specs.Held.{IsHeld, a_large, a_small}
use Rattle.core_model.specs.Steps.{TableState}
use Rattle.core_model.specs.View.{Setup, View, one_if_some}
use Rattle.seat_state.specs.declared.notes.SeatNotes.{SeatNotes}
use Rattle.core_model.proofs.OwnerLemmas.{in_lists_total}
use Rattle.seat_state.proofs.WordLemmas.{entry_there}
use Rattle.crash_core.specs.declared.state.CoreState.{CoreState}
use Rattle.crash_core.specs.Standing.{held_in, IsKept, IsSeatAt, IsStanding, no_block, Offers, place_for, Represents}
use Rattle.crash_core.proofs.StandingLemmas.{among}

-- the view of the seat
pub record IsSeatOf (c : CoreState) (s : TableState) (i : ℕ) (t : SeatNotes) : Type 0 where
  pub view : View
  pub at : get_or s.views i view ≡ view
  pub kept : IsKept c i t view
  pub seat : view.carries ≡ 0

pub seat_of : (c : CoreState) (k : Setup) (s : TableState) (i : ℕ) (t : SeatNotes) → Represents c k s → IsSeatAt c i t → IsSeatOf c s i t
seat_of c k s i t stands at_t = let v = entry_there s.views i (among stands.keeps at_t.less) in record {
  view = v.0;
  at = v.1;
  kept = stands.keeps.each i t v.0 (among stands.keeps at_t.less) at_t v.1;
  seat = stands.order.first i v.0 (subst (λ n. i < n) (sym stands.keeps.opened) at_t.less) v.1;
}

pub may_hand : (c : CoreState) (s : TableState) (i : ℕ) (t : SeatNotes) (o : IsSeatOf c s i t) → t.stopped ≡ None → IsThere t.ticket → MayHand o.view
may_hand c s i t o going ticket = record {
  seat = o.seat;
  going = ap one_if_some (o.kept.notes.stopped ∙ going);
  ticket = ap one_if_some o.kept.notes.ticket ∙ ticket;
}

pub offer_stopped : (c : CoreState) (i x : ℕ) (t : SeatNotes) (step : ℕ) → IsSeatAt c i t → t.stopped ≡ Some step → Offers c i x (Stopped step) c
offer_stopped c i x t step at_t some k s stands = let o = seat_of c k s i t stands at_t in
    (s, offers_stopped o.view step o.at (o.kept.notes.stopped ∙ some), stands)

pub offer_no_ticket : (c : CoreState) (i x : ℕ) (t : SeatNotes) → IsSeatAt c i t → t.stopped ≡ None → (IsThere t.ticket → ⊥) → Offers c i x NotNow c
offer_no_ticket c i x t at_t going none k s stands = let o = seat_of c k s i t stands at_t in
    (s, offers_not o.view o.at (o.kept.notes.stopped ∙ going) (λ may. none (ap one_if_some (sym o.kept.notes.ticket) ∙ may.may.ticket)), stands)

-- no block is held that begins there, small or large
pub not_held : (v : View) (x : ℕ) → total (times x) v.small ≡ 0 → (MaySplit v x → ⊥) → HoldsAt v x → ⊥
not_held v x no_small no_large holds = by holds.block holds.holds holds.at where
  by : (b : Block) → IsHeld v b → b.first_word ≡ x → ⊥
  by _ (a_small class b some) at = let t = in_lists_total b class v.small some in let same = ap (λ n. total (times n) v.small) at in
      omega (arith, t, same, no_small)
  by _ (a_large d n some count) at = no_large (large_there d n some count at) where
    large_there : (d n : ℕ) → 0 < n → span_count d v.large ≡ n → start_word v.setup.capacity d ≡ x → MaySplit v x
    large_there d n some count at =
        let d_is : superblock_of v.setup.capacity x ≡ d = omega (arith, at) in
        record {
          held = subst (λ e. 1 ≤ span_count e v.large) (sym d_is) (omega (arith, count, some));
          first = sym at ∙ ap (start_word v.setup.capacity) (sym d_is);
        }

pub offer_not_held : (c : CoreState) (i x : ℕ) (t : SeatNotes) → (at_t : IsSeatAt c i t) → t.stopped ≡ None
    → held_in (place_for i (get_or c.blocks.items x no_block)) ≡ 0
    → ((k : Setup) (s : TableState) (stands : Represents c k s) → MaySplit (seat_of c k s i t stands at_t).view x → ⊥) → Offers c i x NotNow c
offer_not_held c i x t at_t going no_small no_large k s stands = let o = seat_of c k s i t stands at_t in (
  s,
  offers_not o.view o.at (o.kept.notes.stopped ∙ going) (λ may. not_held o.view x ((o.kept.blocks x).held ∙ no_small)
      (no_large k s stands) may.held),
  stands,
)

-- the core after an offer stands for a state again
pub offered_core : (c new : CoreState) (i x : ℕ) (answer : StepAnswer) → IsStanding c → Offers c i x answer new → IsStanding new
offered_core c new i x answer core offers = let next = offers core.setup core.state core.stands in
    record { setup = core.setup; state = next.0; stands = next.2 }

-- an option that is none is not there
pub no_ticket : (ticket : Option ℕ) (none : Bool) → is_some ticket ≡ not none → none ≡ true → IsThere ticket → ⊥
no_ticket None none is so there = omega (arith, there)
no_ticket (Some n) true is so there = true≢false is
no_ticket (Some n) false is so there = true≢false (sym so)
