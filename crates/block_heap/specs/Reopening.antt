-- A heap for one thread that was opened over a recovered image.
use Rattle.std.specs.Prelude.{ℕ, List, slice_index}
use Rattle.heap_model.specs.declared.block.Block.{Block}
use Rattle.heap_model.specs.Image.{Image}
use Rattle.heap_model.specs.Header.{IsWellFormed}
use Rattle.heap_model.specs.Reach.{Links, IsReached}
use Rattle.heap_model.specs.Recovered.{AreAscending}
use Rattle.heap_model.specs.Recovery.{IsRecovered}
use Rattle.block_heap.specs.Closing.{IsOpened}
use Rattle.block_heap.specs.SeqState.{SeqState}

-- The image of so many bytes is well formed; recovery made these words of it, with the reached blocks held; and the heap was opened with them.
pub record IsReopened (bytes : ℕ) (old : Image) (kinds : ℕ → ℕ) (links : Links)
    (words : List ℕ) (held : List Block) (budget : ℕ) (s : SeqState) : Type 0 where
  pub formed : IsWellFormed bytes old
  pub recovered : IsRecovered old (slice_index words) (IsReached old kinds links)
  pub held_are : AreAscending (λ (b : Block). b.first_word) (IsReached old kinds links) held
  pub opened : IsOpened words held budget s
