-- What an offer and an accept are for a seat of a heap, besides what is so of every heap.
use Rattle.std.specs.Prelude.{◌≡◌, ◌≤◌, ◌+◌, [], Contains}
use Rattle.heap_model.specs.declared.block.Block.{Block}
use Rattle.heap_seat.specs.Handing.{Contents, GoesWith}
use Rattle.core_model.specs.View.{View}
use Rattle.heap_rule.specs.Carried.{CarrierView}
use Rattle.seat_costs.specs.Words.{left_at, seen_at}
use Rattle.seat_model.specs.CacheState.{CacheState, heap_view, held_blocks}

-- what a carrier knows of words
abbrev pub contents_of : CarrierView → Contents
contents_of c = record { volatile = seen_at c.view; durable = left_at c.view }

-- the carrier, of the seat's heap, has this block and nothing else, and knows of its words what the seat knew
pub record IsSent (b : Block) (c : CarrierView) (s : CacheState) : Type 0 where
  pub table : c.table ≡ s.table
  pub block : c.block ≡ b
  pub held : Contains (held_blocks c.view) b
  pub alone : (a : Block) → Contains (held_blocks c.view) a → a ≡ b
  pub roots : c.view.roots ≡ []
  pub contents : GoesWith b (contents_of c) (heap_view s)

-- one ticket was drawn at most, and nothing else is counted
pub record OnlyDraws (v w : View) : Type 0 where
  pub draws : w.draws ≤ v.draws + 1
  pub wins : w.wins ≡ v.wins
  pub losses : w.losses ≡ v.losses
  pub taken : w.taken ≡ v.taken
  pub cuts : w.cuts ≡ v.cuts
  pub gives : w.gives ≡ v.gives
  pub moves : w.moves ≡ v.moves
