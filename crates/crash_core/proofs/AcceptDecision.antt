-- What an accept answers, in each state that the core stands for.
use Rattle.std.proofs.Common.{◌≡◌, ◌≢◌, ℕ, ◌<◌, ◌≤◌, inl, inr, ◌⊎◌, [], get_or, length, map, set, None, Some, refl, ap, sym, subst, ◌∙◌, arith}
use Rattle.std.proofs.lemmas.Bool.{cases_lt}
use Rattle.heap_model.specs.Counting.{times, total}
use Rattle.heap_model.specs.declared.block.Block.{Block}
use Rattle.core_model.specs.declared.answer.StepAnswer.{StepAnswer}
use Rattle.core_model.specs.declared.answer.StepAnswer.TheVariants.{Done, NotNow, Stopped}
use Rattle.core_model.specs.Carriers.{accepted, emptied, IsCarrier, IsEmptied}
use Rattle.core_model.specs.Effects.{span_count}
use Rattle.core_model.specs.Guards.{IsThere}
use Rattle.core_model.specs.Handing.{accepts_not, accepts_stopped, after_accept, is_accepted, MayAccept}
use Rattle.core_model.specs.Held.{IsHeld, a_large, a_small}
use Rattle.core_model.specs.Steps.{TableState}
use Rattle.core_model.specs.View.{Setup, View, one_if_some}
use Rattle.core_model.proofs.OwnerLemmas.{in_lists_total}
use Rattle.seat_state.specs.declared.notes.SeatNotes.{SeatNotes}
use Rattle.seat_state.specs.declared.notes.TheConstants.{NEW_SEAT}
use Rattle.seat_state.specs.Superblocks.{HasSuperblocks}
use Rattle.seat_state.proofs.WordLemmas.{entry_there}
use Rattle.crash_core.specs.declared.state.CoreState.{CoreState}
use Rattle.crash_core.specs.Standing.{Accepts, block_given, CarriesBlock, HasBlocksOf, IsKept, IsLaden, IsSeatAt, IsStanding, nobody, OwnsLarge, OwnsSmall, Represents, superblock_given}
use Rattle.crash_core.proofs.AcceptOwners.{blocks_left, blocks_taken, blocks_third, superblocks_left, superblocks_taken, superblocks_third}
use Rattle.crash_core.proofs.AcceptSteps.{accept_stands}
use Rattle.crash_core.proofs.OfferDecision.{IsSeatOf, may_hand, seat_of}
use Rattle.crash_core.proofs.StandingLemmas.{IsSameHeap}

-- of a view that has nothing the core says so
module _ (c : CoreState) (j : ℕ) (u : View) (kept : IsKept c j NEW_SEAT u) where
  no_small : ((b : ℕ) → total (times b) u.small ≡ 0) → OwnsSmall c j → ⊥
  no_small none owns = let h = (kept.blocks owns.block).held in let n = none owns.block in let some = owns.held in omega arith

  no_large : ((d : ℕ) → span_count d u.large ≡ 0) → OwnsLarge c j → ⊥
  no_large none owns = let h = (kept.superblocks owns.first).count in let n = none owns.first in let some = owns.some in omega arith

  -- a held block is owned
  owns_held : (b : Block) → IsHeld u b → OwnsSmall c j ⊎ OwnsLarge c j
  owns_held _ (a_small class b some) = inl (record {
    block = b;
    held = let h = (kept.blocks b).held in
        let t = in_lists_total b class u.small some in omega arith;
  })
  owns_held _ (a_large d n some count) = inr (record { first = d; some = let h = (kept.superblocks d).count in omega (arith, h, some, count) })

-- a carrier is there that has a block
pub record IsCarrierAt (c : CoreState) (s : TableState) (j : ℕ) : Type 0 where
  pub view : View
  pub below : j < length s.views
  pub at : get_or s.views j view ≡ view
  pub carrier : IsCarrier view

pub carrier_there : (c : CoreState) (k : Setup) (s : TableState) (j : ℕ) → Represents c k s → CarriesBlock c j → IsCarrierAt c s j
carrier_there c k s j stands carries = elim (cases_lt j (length s.views)) [
  | inl less ↦ let u = entry_there s.views j less in by_view u.0 less u.1
      (stands.order.behind j u.0 (subst (λ n. n ≤ j) (sym stands.keeps.opened) carries.behind) less u.1)
  | inr past ↦ absurd (owns_none (nobody k) (stands.keeps.none j past) (λ b. refl) (λ d. refl) carries.owns)
] where
  owns_none : (u : View) → IsKept c j NEW_SEAT u → ((b : ℕ) → total (times b) u.small ≡ 0) → ((d : ℕ) → span_count d u.large ≡ 0)
      → OwnsSmall c j ⊎ OwnsLarge c j → ⊥
  owns_none u kept small large (inl owns) = no_small c j u kept small owns
  owns_none u kept small large (inr owns) = no_large c j u kept large owns

  by_view : (u : View) (less : j < length s.views) → get_or s.views j u ≡ u → IsLaden u ⊎ IsEmptied u → IsCarrierAt c s j
  by_view u less at (inl laden) = record { view = u; below = less; at = at; carrier = laden.carrier }
  by_view u less at (inr empty) = absurd (owns_none u (stands.keeps.carried j u carries.behind less at) (λ b. ap (total (times b)) empty.held.0)
      (λ d. ap (span_count d) empty.held.1) carries.owns)

-- and where the core says that none is there, none is
pub carrier_not : (c : CoreState) (k : Setup) (s : TableState) (j : ℕ) (v u : View) → Represents c k s → (CarriesBlock c j → ⊥)
    → MayAccept s.views v j u → ⊥
carrier_not c k s j v u stands none may = elim (cases_lt j k.seats) [
  | inl seat ↦ let zero_is = stands.order.first j u seat may.at in let one = may.carrier.is_one in omega arith
  | inr past ↦ by_view past (stands.order.behind j u past may.below may.at)
] where
  by_view : k.seats ≤ j → IsLaden u ⊎ IsEmptied u → ⊥
  by_view past (inr empty) = let two = empty.is_two in let one = may.carrier.is_one in omega arith
  by_view past (inl laden) = let behind = subst (λ n. n ≤ j) stands.keeps.opened past in
      none (record { behind = behind; owns = owns_held c j u (stands.keeps.carried j u behind may.below may.at) laden.block laden.holds })

pub accept_stopped : (c : CoreState) (i j : ℕ) (t : SeatNotes) (step : ℕ) → IsSeatAt c i t → t.stopped ≡ Some step → Accepts c i j (Stopped step) c
accept_stopped c i j t step at_t some k s stands = let o = seat_of c k s i t stands at_t in
    (s, accepts_stopped o.view step o.at (o.kept.notes.stopped ∙ some), stands)

pub accept_no_ticket : (c : CoreState) (i j : ℕ) (t : SeatNotes) → IsSeatAt c i t → t.stopped ≡ None → (IsThere t.ticket → ⊥) → Accepts c i j NotNow c
accept_no_ticket c i j t at_t going none k s stands = let o = seat_of c k s i t stands at_t in
    (s, accepts_not o.view o.at (o.kept.notes.stopped ∙ going) (λ u may. none (ap one_if_some (sym o.kept.notes.ticket) ∙ may.may.ticket)), stands)

pub accept_none : (c : CoreState) (i j : ℕ) (t : SeatNotes) → IsSeatAt c i t → t.stopped ≡ None → (CarriesBlock c j → ⊥) → Accepts c i j NotNow c
accept_none c i j t at_t going none k s stands = let o = seat_of c k s i t stands at_t in
    (s, accepts_not o.view o.at (o.kept.notes.stopped ∙ going) (λ u may. carrier_not c k s j o.view u stands none may), stands)

pub accept_done : (c c' : CoreState) (i j : ℕ) (t : SeatNotes) → IsSeatAt c i t → t.stopped ≡ None → IsThere t.ticket → CarriesBlock c j
    → c'.words.items ≡ c.words.items → c'.seats.items ≡ set c.seats.items i (record t { ticket = None }) → IsSameHeap c c'
    → c'.blocks.items ≡ map (block_given j i) c.blocks.items → c'.superblocks.items ≡ map (superblock_given j i) c.superblocks.items
    → Accepts c i j Done c'
accept_done c c' i j t at_t going ticket carries words seats same blocks superblocks k s stands = (
  after_accept s i j o.view u.view,
  is_accepted o.view u.view o.at may,
  accept_stands c c' k s i j o.view u.view t stands o.at at_t carries.behind may words seats same
      (record {
        blocks = subst (λ os. HasBlocksOf os i (accepted o.view u.view).small (accepted o.view u.view).caches
            (accepted o.view u.view).batch.blocks) (sym blocks)
            (blocks_taken j i apart some c.blocks.items o.view u.view u.carrier o.kept.blocks carried.blocks);
        superblocks = subst (λ os. HasSuperblocks os i o.view.raw o.view.split o.view.cutting o.view.classed (accepted o.view u.view).large)
            (sym superblocks)
            (superblocks_taken j i apart some c.superblocks.items o.view u.view u.carrier
            (stands.keeps.sound.good.claims j u.view u.below u.at).some o.kept.superblocks carried.superblocks);
      })
      (record {
        blocks = subst (λ os. HasBlocksOf os j (emptied u.view).small (emptied u.view).caches (emptied u.view).batch.blocks) (sym blocks)
            (blocks_left j i apart some c.blocks.items u.view u.carrier);
        superblocks = subst (λ os. HasSuperblocks os j u.view.raw u.view.split u.view.cutting u.view.classed []) (sym superblocks)
            (superblocks_left j i apart some c.superblocks.items u.view u.carrier);
      })
      (λ e y not_i not_j h. record {
        blocks = subst (λ os. HasBlocksOf os e y.small y.caches y.batch.blocks) (sym blocks)
            (blocks_third j i apart some c.blocks.items e y.small y.caches y.batch.blocks not_j not_i h.blocks);
        superblocks = subst (λ os. HasSuperblocks os e y.raw y.split y.cutting y.classed y.large) (sym superblocks)
            (superblocks_third j i apart some c.superblocks.items e y.raw y.split y.cutting y.classed y.large not_j not_i h.superblocks);
      }),
) where
  o : IsSeatOf c s i t
  o = seat_of c k s i t stands at_t

  u : IsCarrierAt c s j
  u = carrier_there c k s j stands carries

  may : MayAccept s.views o.view j u.view
  may = record { may = may_hand c s i t o going ticket; below = u.below; at = u.at; carrier = u.carrier }

  carried : IsKept c j NEW_SEAT u.view
  carried = stands.keeps.carried j u.view carries.behind u.below u.at

  apart : j ≢ i
  apart e = let l = at_t.less in let p = carries.behind in omega (arith, e, l, p)

  some : j ≢ 0
  some e = let l = at_t.less in let p = carries.behind in omega (arith, e, l, p)

-- the core after an accept stands for a state again
pub accepted_core : (c new : CoreState) (i j : ℕ) (answer : StepAnswer) → IsStanding c → Accepts c i j answer new → IsStanding new
accepted_core c new i j answer core accepts = let next = accepts core.setup core.state core.stands in
    record { setup = core.setup; state = next.0; stands = next.2 }
