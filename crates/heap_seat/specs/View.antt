-- What contracts see of a seat: the part of an open heap that one thread works on.
use Rattle.std.specs.Prelude.{ℕ, ◌+◌, ◌-◌, List, Option, slice_index}
use Rattle.heap_model.specs.declared.block.Block.{Block}
use Rattle.heap_model.specs.Geometry.{root_word}
use Rattle.heap_seat.specs.declared.fault.Looks.{Looks}
use Rattle.heap_seat.specs.declared.look.Look.{Look}
use Rattle.heap_seat.specs.declared.spot.Spot.{Spot}
use Rattle.heap_seat.specs.declared.spot.Spot.TheVariants.{InBlock, Root}

-- a seat, as its caller sees it
pub record View : Type 0 where
  -- the blocks that are allocated, and the numbers of the roots that belong to the seat
  pub held : List Block
  pub roots : List ℕ
  -- by word index: what loads see and what a crash leaves, where that is known
  pub volatile : ℕ → Option ℕ
  pub durable : ℕ → Option ℕ
  -- pending write-backs: word indices that the next fence makes durable
  pub pending : List ℕ
  -- how many superblocks the heap has, and the kind of each root
  pub capacity : ℕ
  pub kinds : List ℕ
  -- the first ticket that allows no step, the least ticket that the seat may still draw, and the ticket at which it stopped
  pub budget : ℕ
  pub next : ℕ
  pub stopped : Option ℕ
  -- how many calls there were of load, store, write_back and fence, and how many of alloc and free
  pub small_calls : ℕ
  pub large_calls : ℕ
  -- how many superblocks the seat took
  pub taken : ℕ
  -- how many requests were refused for want of room, and the last of them: its bytes and what it read
  pub refusals : ℕ
  pub refused_bytes : ℕ
  pub refused_looks : Looks
  -- the last looks at the mark of taken superblocks, and at each list head: 0 is that of the free superblocks, then the classes
  pub used_look : Look
  pub head_look : ℕ → Look

-- the kind of root i
abbrev pub kind_of : View → ℕ → ℕ
kind_of v i = slice_index v.kinds i

-- how many steps the budget still allows: it falls with each call that is done, which ends every loop
abbrev pub left : View → ℕ
left v = v.budget - v.next

-- the word index of a spot
abbrev pub word_of : Spot → ℕ
word_of (InBlock b index) = b.first_word + index
word_of (Root i) = root_word i
