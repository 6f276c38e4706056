-- A heap as it is opened with an empty image.
use Rattle.std.proofs.Common.{◌≡◌, ℕ, ◌<◌, List, [], Some, slice_index, ap, ◌∙◌, arith}
use Rattle.heap_model.specs.declared.block.Block.{Block}
use Rattle.heap_model.specs.Geometry.{roots, root_word}
use Rattle.heap_model.proofs.ListLemmas.{in_numbers}
use Rattle.line_memory.specs.View.{volatile_at, durable_at}
use Rattle.heap_seat.specs.View.{kind_of}
use Rattle.block_heap.specs.Closing.{IsOpened}
use Rattle.block_heap.specs.SeqState.{SeqState, seat_of}
use Rattle.first_filter.specs.Lists.{IsKept, ends, HoldsList}

-- one that was opened with null roots holds the empty list
pub opened_holds : (words : List ℕ) (held : List Block) (budget : ℕ) (s : SeqState) → IsOpened words held budget s
    → kind_of (seat_of s) 0 ≡ 1 → ((i : ℕ) → i < roots → slice_index words (root_word i) ≡ 0) → HoldsList (seat_of s) []
opened_holds words held budget s opened kind null = record {
  first = 0;
  root = kept 0 (omega arith);
  list = ends;
  kind = kind;
  own = λ i less. in_numbers 0 roots i (omega arith) (omega arith);
  others = λ i less other. kept i less;
} where
  kept : (i : ℕ) → i < roots → IsKept (seat_of s) (root_word i) 0
  kept i less = record {
    seen = ap Some (ap (λ v. volatile_at v (root_word i)) opened.opens.words_are ∙ null i less);
    left = ap Some (ap (λ v. durable_at v (root_word i)) opened.opens.words_are ∙ null i less);
  }
