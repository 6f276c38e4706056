-- A heap for one thread that was opened at rest: what lasts, and that it is right.
use Rattle.std.proofs.Common.{ℕ, ◌≤◌, None, List, get_or, ap, sym, ◌∙◌, arith}
use Rattle.heap_model.specs.declared.block.Block.{Block}
use Rattle.heap_model.specs.Geometry.{largest_capacity, capacity_word, kind_word}
use Rattle.heap_model.proofs.SizeLemmas.{four_blocks}
use Rattle.line_memory.specs.View.{View}
use Rattle.heap_seat.specs.declared.fault.Looks.{Looks}
use Rattle.block_heap.specs.Opening.{Opens}
use Rattle.block_heap.specs.Parts.{Parts, held_in}
use Rattle.block_heap.specs.AllocatorWords.{IsLasting}
use Rattle.block_heap.specs.SeqState.{IsSeqHeap}
use Rattle.block_heap.proofs.RunningLemmas.{running_stable}

pub opened_lasts : (words : List ℕ) (held : List Block) (budget : ℕ) (p : Parts) → 1 ≤ p.capacity → p.capacity ≤ largest_capacity
    → Opens words held budget p → IsLasting p.capacity p.words (held_in p) None
opened_lasts words held budget p some small opens = record {
  some = some;
  small = small;
  stable = running_stable p opens.running
      (ap (λ (v : View). get_or v.volatile capacity_word 0) opens.words_are ∙ sym opens.capacity)
      (ap (λ (v : View). get_or v.durable capacity_word 0) opens.words_are ∙ sym opens.capacity)
      (λ root below.
      ap (λ (v : View). get_or v.durable (kind_word p.capacity root) 0) opens.words_are
      ∙ sym (ap (λ (v : View). get_or v.volatile (kind_word p.capacity root) 0) opens.words_are));
  used = record {
    volatile = opens.running.is.used;
    durable = let same = opens.running.settled.used in let fits = opens.running.is.used in omega arith;
  };
  stopping = λ ticket at. absurd (cc);
}

pub opened_heap : (words : List ℕ) (held : List Block) (budget : ℕ) (p : Parts) (looks : Looks)
    (l : ∥ IsLasting p.capacity p.words (held_in p) None ∥₁) → 1 ≤ p.capacity → p.capacity ≤ largest_capacity → Opens words held budget p
    → IsSeqHeap (record {
      parts = p;
      stopped = None;
      small_calls = 0;
      large_calls = 0;
      refusals = 0;
      refused_bytes = 0;
      refused_looks = looks;
      lasts = l;
    })
opened_heap words held budget p looks l some small opens = record {
  lasts = opened_lasts words held budget p some small opens;
  running = λ runs. (
    opens.running,
    record {
      each = λ class is other. let none = opens.empty class is in let more = four_blocks class is in
          omega arith;
    },
    opens.accounted,
  );
  calls = omega arith;
  refused = omega arith;
}
