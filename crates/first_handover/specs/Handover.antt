-- What the two threads begin with, what goes from one to the other, and what they leave.
use Rattle.std.specs.Prelude.{◌≡◌, ℕ, ◌+◌, ◌*◌, None, Some, Contains, IfOk, IfSome, Option, length, option_to_list, slice_index}
use Rattle.heap_model.specs.declared.block.Block.{Block}
use Rattle.heap_model.specs.Blocks.{Names}
use Rattle.heap_model.specs.Durability.{IsClosedImage, IsCrashImage}
use Rattle.heap_model.specs.Image.{Image}
use Rattle.line_memory.specs.ClosedWords.{ClosedWords}
use Rattle.heap_seat.specs.View.{View as HeapView}
use Rattle.core_model.specs.Held.{AreApart, IsHeld}
use Rattle.core_model.specs.View.{View, no_role, role}
use Rattle.heap_table.specs.AtTable.{SharedView}
use Rattle.heap_rule.specs.Carried.{CarrierView}
use Rattle.heap_rule.specs.Seated.{IsSeatOf, SeatView}
use Rattle.seat_costs.specs.Idle.{HasShortCaches, IsIdle}
use Rattle.seat_model.specs.CacheState.{CacheState, IsBetweenCalls, heap_view, held_blocks}
use Rattle.thread_cache.specs.Handing.{contents_of}
use Rattle.first_handover.specs.declared.hands.Received.{Received}
use Rattle.first_handover.specs.declared.hands.Taken.{Taken}
use Rattle.first_handover.specs.declared.threads.Ended.{Ended}
use Rattle.first_handover.specs.declared.threads.Owning.{Owning}
use Rattle.first_handover.specs.declared.threads.Sent.{Sent}
use Rattle.first_handover.specs.declared.threads.Worked.{Worked}

-- a seat of this heap that was opened just now
pub record IsFreshSeatOf (shared : SharedView) (seat : SeatView) : Type 0 where
  pub of : IsSeatOf shared seat
  pub going : seat.view.stopped ≡ None
  pub idle : IsIdle seat.view
  pub short : HasShortCaches seat.view
  pub role_is : role seat.view ≡ no_role

-- a seat of this heap between two calls: unless it has stopped, it may allocate
pub record IsPaused (shared : SharedView) (seat : SeatView) : Type 0 where
  pub of : IsSeatOf shared seat
  pub between : IsBetweenCalls seat.view

-- it is the same seat
pub record IsSameSeat (s t : CacheState) : Type 0 where
  pub table : t.table ≡ s.table
  pub setup : t.view.setup ≡ s.view.setup

-- of so many carriers these are left, and the others were accepted; no block was offered
pub record Accepted (given left : ℕ) (v w : View) : Type 0 where
  pub accepts : left + w.accepts ≡ given + v.accepts
  pub offers : w.offers ≡ v.offers
  pub carries : w.carries ≡ v.carries

-- loads see this value in the block's first word, and a crash leaves it there
pub record HasValue (value : ℕ) (b : Block) (v : HeapView) : Type 0 where
  pub seen : v.volatile b.first_word ≡ Some value
  pub left : v.durable b.first_word ≡ Some value

-- loads and a crash find the value in the first word of the carrier's block
pub record Brings (value : ℕ) (c : CarrierView) : Type 0 where
  pub seen : (contents_of c).volatile c.block.first_word ≡ Some value
  pub left : (contents_of c).durable c.block.first_word ≡ Some value

-- the seat holds the block, in which it read the value, and a crash leaves it there
pub record HasReceived (value : ℕ) (v : HeapView) (r : Received) : Type 0 where
  pub held : Contains v.held r.block
  pub read : r.value ≡ value
  pub has : HasValue value r.block v

-- What a seat took of a carrier that it was given, if it was given one: the block, which is apart from all that it held
-- before and keeps its value, or the
-- carrier again.
pub record HasTaken (given : Option CarrierView) (s t : CacheState) (taken : Taken) : Type 0 where
  pub same : IsSameSeat s t
  pub received : (value : ℕ) → IfSome given (Brings value) → IfSome taken.received (HasReceived value (heap_view t))
  pub gets : IfSome taken.received (λ r. Contains (heap_view t).held r.block)
  pub apart : IfSome taken.received (λ r. (a : Block) → Contains (heap_view s).held a → AreApart a r.block)
  pub held : (a : Block) → Contains (heap_view s).held a → Contains (heap_view t).held a
  pub table : IfSome taken.left (λ c. c.table ≡ s.table)
  pub accepted : Accepted (length (option_to_list given)) (length (option_to_list taken.left)) s.view t.view

-- what the first thread leaves: its seat, which holds the block that it kept, and the carrier that it made, if it came so far
pub record HasSent (shared : SharedView) (value : ℕ) (sent : Sent) : Type 0 where
  pub at : IsPaused shared sent.seat
  pub kept : IfOk sent.kept (Contains (held_blocks sent.seat.view))
  pub table : IfSome sent.carrier (λ c. c.table ≡ shared.table)
  pub brings : IfSome sent.carrier (Brings value)
  pub role_is : role sent.seat.view ≡ record no_role { offers = length (option_to_list sent.carrier) }

-- what the second one leaves meanwhile: its seat, which holds a block of its own
pub record HasOwn (shared : SharedView) (owning : Owning) : Type 0 where
  pub at : IsPaused shared owning.seat
  pub own : IfOk owning.own (Contains (held_blocks owning.seat.view))
  pub role_is : role owning.seat.view ≡ no_role

-- it is a seat of this heap, and holds what was held
pub record IsBackFrom (shared : SharedView) (v : View) (seat : SeatView) : Type 0 where
  pub of : IsSeatOf shared seat
  pub held : (b : Block) → Contains (held_blocks v) b → IsHeld seat.view b

-- a seat with this view has received the block
pub record KnowsReceived (value : ℕ) (v : View) (r : Received) : Type 0 where
  pub state : CacheState
  pub view : v ≡ state.view
  pub has : HasReceived value (heap_view state) r

-- The second thread's seat was given back, with what it took of the carrier that it was given. A block that it received
-- is apart from all that it held before.
pub record HasEnded (shared : SharedView) (given : Option CarrierView) (v : View) (ended : Ended) : Type 0 where
  pub back : IsBackFrom shared v ended.seat
  pub received : (value : ℕ) → IfSome given (Brings value) → IfSome ended.taken.received (KnowsReceived value ended.seat.view)
  pub gets : IfSome ended.taken.received (λ r. IsHeld ended.seat.view r.block)
  pub apart : IfSome ended.taken.received (λ r. (a : Block) → Contains (held_blocks v) a → AreApart a r.block)
  pub table : IfSome ended.taken.left (λ c. c.table ≡ shared.table)
  pub accepted : Accepted (length (option_to_list given)) (length (option_to_list ended.taken.left)) v ended.seat.view

-- What both threads leave: their seats, each with the blocks that it tells of, and the carrier that was not accepted.
pub record HaveWorked (shared : SharedView) (value : ℕ) (w : Worked) : Type 0 where
  pub one : IsSeatOf shared w.one
  pub other : IsSeatOf shared w.other
  pub kept : IfOk w.kept (IsHeld w.one.view)
  pub received : IfSome w.received (KnowsReceived value w.other.view)
  pub gets : IfSome w.received (λ r. IsHeld w.other.view r.block)
  pub apart : IfSome w.received (λ r. IfOk w.own (λ a. AreApart a r.block))
  pub table : IfSome w.left (λ c. c.table ≡ shared.table)
  pub is_seat : w.other.view.carries ≡ 0
  pub none_lost : length (option_to_list w.left) + (w.one.view.accepts + w.other.view.accepts) ≡ w.one.view.offers + w.other.view.offers

-- a crash leaves this image of the closed heap, or its close does
pub data IsLeftOf (words : ClosedWords) (image : Image) : Type 0 where
  by_crash : IsCrashImage (slice_index words.kept) image → IsLeftOf words image
  by_close : IsClosedImage (slice_index words.now) image → IsLeftOf words image

-- the image names the block, and has the value in its first word
pub record HasBlock (value : ℕ) (image : Image) (b : Block) : Type 0 where
  pub named : Names image (8 * b.first_word) b
  pub first : image b.first_word ≡ value
