-- What contracts see of a carrier, and what it keeps; and all that a heap is closed with.
use Rattle.std.specs.Prelude.{◌≡◌, ℕ, ◌+◌, ◌-◌, List, [], ◌∷◌, Contains, get_or, length, map, None, Some}
use Rattle.heap_model.specs.declared.block.Block.{Block}
use Rattle.heap_model.specs.Counting.{total}
use Rattle.atomic_table.specs.Seated.{TableId}
use Rattle.atomic_table.specs.Table.{Me}
use Rattle.core_model.specs.Carriers.{IsCarrier}
use Rattle.core_model.specs.Memory.{table_length}
use Rattle.core_model.specs.View.{View}
use Rattle.heap_table.specs.AtTable.{SharedView}
use Rattle.heap_table.specs.SeatViews.{SeatViews, view_in}
use Rattle.seat_index.specs.declared.owned.Holding.{Holding}
use Rattle.heap_rule.specs.Fences.{Owns}
use Rattle.seat_index.specs.Holdings.{HoldsAlone}
use Rattle.heap_rule.specs.Seated.{SeatView}
use Rattle.heap_rule.specs.Seats.{AreSeatsOf, views_of}

-- which table it is at, its view, and the block that it has
pub record CarrierView : Type 0 where
  pub table : TableId
  pub view : View
  pub block : Block

-- it knows of no word but its own
pub record KnowsItsOwn (u : View) : Type 0 where
  pub volatile : (word value : ℕ) → get_or u.volatile word None ≡ Some value → Owns u word
  pub durable : (word value : ℕ) → get_or u.durable word None ≡ Some value → Owns u word

-- a carrier of a heap of this capacity: it holds this block alone, and knows of no word but the block's
pub record Carries (capacity : ℕ) (u : View) (b : Block) : Type 0 where
  pub capacity_is : u.setup.capacity ≡ capacity
  pub carrier : IsCarrier u
  pub holding : Holding
  pub alone : HoldsAlone u b holding
  pub knows : KnowsItsOwn u

-- a seat of the table that stands for such a carrier
pub record IsWholeCarrier (table : TableId) (me : Me ℕ SeatViews) (b : Block) (holding : Holding) : Type 0 where
  pub me_is : me ≡ (view_in me.0 ∷ [], [])
  pub long : table.words ≡ table_length (view_in me.0).setup.capacity
  pub carrier : IsCarrier (view_in me.0)
  pub alone : HoldsAlone (view_in me.0) b holding
  pub knows : KnowsItsOwn (view_in me.0)

-- the views of these carriers
abbrev pub carried_views : List CarrierView → List View
carried_views carriers = map (λ (c : CarrierView). c.view) carriers

-- all the seats of a heap, in any order, and each carrier that they made and that none accepted
pub record AreAllOf (shared : SharedView) (seats : List SeatView) (carriers : List CarrierView) : Type 0 where
  pub seats_are : AreSeatsOf shared seats
  pub at_table : (c : CarrierView) → Contains carriers c → c.table ≡ shared.table
  pub none_lost : length carriers + total (λ (v : View). v.accepts) (views_of seats) ≡ total (λ (v : View). v.offers) (views_of seats)

-- of these views so many are carriers, and the others are none
pub record AreCarriers (n : ℕ) (views : List View) : Type 0 where
  pub carry : total (λ (v : View). v.carries) views ≡ n
  pub no_seats : total (λ (v : View). 1 - v.carries) views ≡ 0
  pub no_offers : total (λ (v : View). v.offers) views ≡ 0
  pub no_accepts : total (λ (v : View). v.accepts) views ≡ 0

-- so many seats were put before the views
pub record HasSeatsBefore (n : ℕ) (before after : List View) : Type 0 where
  pub seats : total (λ (v : View). 1 - v.carries) after ≡ n + total (λ (v : View). 1 - v.carries) before
  pub carry : total (λ (v : View). v.carries) after ≡ total (λ (v : View). v.carries) before
