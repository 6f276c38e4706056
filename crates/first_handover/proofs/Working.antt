-- What both threads leave, of what each of them does.
use Rattle.std.proofs.Common.{◌≡◌, ℕ, ap, arith, subst, sym, ◌∙◌}
use Rattle.std.specs.Prelude.{Contains, IfOk}
use Rattle.std.proofs.lemmas.Result.{IfOk-weaker}
use Rattle.heap_model.specs.declared.block.Block.{Block}
use Rattle.core_model.specs.Held.{AreApart, IsHeld}
use Rattle.core_model.specs.View.{Role, View, role}
use Rattle.heap_table.specs.AtTable.{SharedView}
use Rattle.heap_table.specs.Plays.{HasSoundState}
use Rattle.heap_rule.specs.Seated.{IsSeatOf, SeatView}
use Rattle.seat_model.specs.CacheState.{CacheState, IsBetweenCalls, held_blocks}
use Rattle.seat_model.proofs.HeldLemmas.{held_is}
use Rattle.thread_cache.specs.Keeps.{IsNew}
use Rattle.first_handover.specs.declared.hands.Received.{Received}
use Rattle.first_handover.specs.declared.threads.Ended.{Ended}
use Rattle.first_handover.specs.declared.threads.Owning.{Owning}
use Rattle.first_handover.specs.declared.threads.Sent.{Sent}
use Rattle.first_handover.specs.Handover.{HasEnded, HasOwn, HasSent, HaveWorked, IsBackFrom}
use Rattle.first_handover.proofs.Words.{if_some}

-- a seat that is given back as it is
pub back_from : (shared : SharedView) (v : View) (seat : SeatView) → HasSoundState seat.view → IsSeatOf shared seat
    → ((b : Block) → Contains (held_blocks v) b → Contains (held_blocks seat.view) b)
    → IsBackFrom shared v seat
back_from shared v seat sound of held = record { of = of; held = λ b there. held_is seat.view sound b (held b there) }

-- it has what the seat that allocates had
pub seat_of : (shared : SharedView) (first : SeatView) (s t : CacheState) (seat : SeatView) → IsSeatOf shared first → IsNew first s
    → t.table ≡ s.table → t.view.setup ≡ s.view.setup
    → seat.table ≡ t.table → seat.view ≡ t.view → IsSeatOf shared seat
seat_of shared first s t seat of new table setup back view = record {
  table = back ∙ table ∙ new.table ∙ of.table;
  setup = ap (λ (v : View). v.setup) view ∙ setup ∙ ap (λ (v : View). v.setup) new.view ∙ of.setup;
}

pub held_at : (v w : View) (b : Block) → v ≡ w → Contains (held_blocks w) b → Contains (held_blocks v) b
held_at v w b same there = subst (λ (x : View). Contains (held_blocks x) b) (sym same) there

pub between_at : (s : CacheState) (v : View) → v ≡ s.view → IsBetweenCalls v
between_at s v same = subst IsBetweenCalls (sym same) s.between

module _ (shared : SharedView) (value : ℕ) (sent : Sent) (owning : Owning) (one : SeatView) (ended : Ended) where
  pub worked_of : HasSent shared value sent → HasOwn shared owning → IsBackFrom shared sent.seat.view one → role one.view ≡ role sent.seat.view
      → HasEnded shared sent.carrier owning.seat.view ended
      → HaveWorked shared value (record {
        one = one;
        other = ended.seat;
        kept = sent.kept;
        own = owning.own;
        received = ended.taken.received;
        left = ended.taken.left;
      })
  worked_of sends owns back roles ends = record {
    one = back.of;
    other = ends.back.of;
    kept = IfOk-weaker sent.kept (Contains (held_blocks sent.seat.view)) (IsHeld one.view) back.held sends.kept;
    received = ends.received value sends.brings;
    gets = ends.gets;
    apart = if_some (λ (r : Received). (a : Block) → Contains (held_blocks owning.seat.view) a → AreApart a r.block)
        (λ r. IfOk owning.own (λ a. AreApart a r.block)) ended.taken.received
        (λ r apart. IfOk-weaker owning.own (Contains (held_blocks owning.seat.view)) (λ a. AreApart a r.block) apart owns.own) ends.apart;
    table = ends.table;
    is_seat = ends.accepted.carries ∙ ap (λ (r : Role). r.carries) owns.role_is;
    none_lost =
        let first = roles ∙ sends.role_is in
        let offers = ap (λ (r : Role). r.offers) first in
        let accepts = ap (λ (r : Role). r.accepts) first in
        let gave = ends.accepted.offers ∙ ap (λ (r : Role). r.offers) owns.role_is in
        let before = ap (λ (r : Role). r.accepts) owns.role_is in
        let counted = ends.accepted.accepts in omega (arith, offers, accepts, gave, before, counted);
  }
