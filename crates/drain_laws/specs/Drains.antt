-- What draining a class of a heap that was opened for one seat is, by its image.
use Rattle.std.specs.Prelude.{◌≡◌, ◌<◌, ◌≤◌, ◌-◌, ℕ, List, [], ◌∷◌}
use Rattle.heap_model.specs.declared.block.Block.{Block}
use Rattle.heap_model.specs.Counting.{times}
use Rattle.heap_model.specs.Image.{Image}
use Rattle.heap_model.specs.Sizes.{size_of, words_of_class}
use Rattle.heap_at_rest.specs.Draining.{IsToDrain}
use Rattle.heap_seat.specs.declared.fault.Looks.{Looks}
use Rattle.core_model.specs.View.{View, of_class}
use Rattle.heap_table.specs.Plays.{HasReached}
use Rattle.heap_table.specs.Rule.{Opening, opened_view_of}
use Rattle.seat_costs.specs.Rows.{Passes}
use Rattle.cache_fill.specs.Refills.{IsFull}
use Rattle.thread_cache.specs.Requests.{light_request, request_costs}
use Rattle.thread_cache.specs.Small.{HasAllocated}

-- a granted request of the class, which gave no batch, and what it cost, with and without a superblock that was cut
pub record Grants (class : ℕ) (b : Block) (v w : View) : Type 0 where
  pub allocated : HasAllocated class b v w
  pub gives : w.gives ≡ v.gives
  pub costs : Passes (request_costs (size_of class) (w.moves - v.moves)) v w
  pub uncut : w.cuts ≡ v.cuts → Passes (light_request (size_of class) (w.moves - v.moves)) v w

-- requests of the class that were all granted, the last one first: the first words of their blocks
pub data GrantsAll (class : ℕ) (v : View) : List ℕ → View → Type 0 where
  no_request : GrantsAll class v [] v
  one_more : (firsts : List ℕ) (u w : View) (b : Block) → GrantsAll class v firsts u → Grants class b u w
      → GrantsAll class v (b.first_word ∷ firsts) w

-- requests of the class were granted, and then one was refused
pub record IsDrainRow (class : ℕ) (v : View) (firsts : List ℕ) (w : View) : Type 0 where
  pub between : View
  pub grants : GrantsAll class v firsts between
  pub looks : Looks
  pub refused : IsFull class looks between w
  pub cache : of_class between.caches class ≡ []
  pub gives : w.gives ≡ between.gives
  pub costs : Passes (light_request (size_of class) (w.moves - between.moves)) between w

-- the seat of an opened heap came to this view, by such requests from its opening on
pub record HasDrained (o : Opening) (class : ℕ) (firsts : List ℕ) (w : View) : Type 0 where
  pub row : IsDrainRow class (opened_view_of o 0) firsts w
  pub has : HasReached o w

-- the first words are those of exactly the blocks that were to be drained, each once
pub record GivesExactly (capacity class : ℕ) (image : Image) (held : List Block) (firsts : List ℕ) : Type 0 where
  pub sound : (first : ℕ) → 0 < times first firsts
      → IsToDrain capacity image held class (record { first_word = first; words = words_of_class class })
  pub complete : (b : Block) → IsToDrain capacity image held class b → 0 < times b.first_word firsts
  pub once : (first : ℕ) → times first firsts ≤ 1
