-- What an offer and an accept leave, each behind a draw.
use Rattle.std.specs.Prelude.{◌≡◌, ℕ, ◌+◌}
use Rattle.heap_model.specs.declared.block.Block.{Block}
use Rattle.atomic_table.specs.Seated.{TableId}
use Rattle.core_model.specs.Carriers.{accepted, carrier_of, offered}
use Rattle.core_model.specs.View.{View}
use Rattle.heap_table.specs.Plays.{HasSoundState}
use Rattle.heap_rule.specs.Carried.{CarrierView, Carries}
use Rattle.heap_rule.specs.Seated.{SeatView}
use Rattle.seat_costs.specs.Costs.{one_draw}
use Rattle.seat_costs.specs.Rows.{HasDrawn, RowBut}
use Rattle.seat_costs.specs.Words.{IsHeldWord, KeepsWord, left_at, seen_at}

-- a ticket was drawn, and the block offered by it
pub record HasOffered (b : Block) (carrier : CarrierView) (table : TableId) (v w : View) : Type 0 where
  pub behind : View
  pub drawn : HasDrawn v behind
  pub has : HasSoundState behind
  pub left : w ≡ offered behind b.first_word
  pub at_table : carrier.table ≡ table
  pub carried : carrier.view ≡ carrier_of behind b.first_word
  pub block : carrier.block ≡ b
  pub carries : Carries v.setup.capacity carrier.view b

-- a ticket was drawn, and the carrier's block accepted by it
pub record HasAccepted (b : Block) (carrier : CarrierView) (v w : View) : Type 0 where
  pub behind : View
  pub drawn : HasDrawn v behind
  pub has : HasSoundState behind
  pub left : w ≡ accepted behind carrier.view
  pub block : b ≡ carrier.block
  pub carries : Carries v.setup.capacity carrier.view b

-- what an offer leaves and costs: one offer more is counted, and of the words that are held still none is stored to
abbrev pub OfferRow : SeatView → SeatView → Type 0
OfferRow v w = RowBut (IsHeldWord w.view) one_draw (record v { view = record v.view { offers = v.view.offers + 1 } }) w

-- what an accept leaves and costs: one accept more is counted, and of the words that were held none is stored to
abbrev pub AcceptRow : SeatView → SeatView → Type 0
AcceptRow v w = RowBut (IsHeldWord v.view) one_draw (record v { view = record v.view { accepts = v.view.accepts + 1 } }) w

-- the carrier knows of the block's words what the seat did: none is stored to
pub record GoesWith (u v : View) : Type 0 where
  pub words : (word : ℕ) → IsHeldWord u word → KeepsWord v u word

-- the seat knows of the block's words what the carrier did
pub record ComesWith (u w : View) : Type 0 where
  pub seen : (word : ℕ) → IsHeldWord u word → seen_at w word ≡ seen_at u word
  pub left : (word : ℕ) → IsHeldWord u word → left_at w word ≡ left_at u word
