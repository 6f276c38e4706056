-- What recovery makes of an image depends only on which blocks are kept.
use Rattle.std.proofs.Common.{◌≡◌, ℕ, zero, suc, List, ◌++◌, length, take, drop, ap, ◌∙◌, slice_index}
use Rattle.std.proofs.Math.Seq.{take-append_seam}
use Rattle.heap_model.specs.declared.block.Block.{Block}
use Rattle.heap_model.specs.Image.{Image}
use Rattle.heap_model.specs.Blocks.{Layout, layout_of}
use Rattle.heap_model.specs.Recovered.{IsFreeSuperblock}
use Rattle.heap_model.specs.Recovery.{HoldsKept, IsSpare, IsPartial, IsFullyKept, IsInLarge, IsListed, IsRecovered}
use Rattle.heap_model.specs.Reach.{Links, IsReached}
use Rattle.heap_model.proofs.ReachLemmas.{reached_block}
use Rattle.filter_trace.specs.Reached.{AreReached}
use Rattle.heap_recover.specs.declared.answer.Recovered.{Recovered}
use Rattle.heap_recover.specs.Answer.{IsMadeOf}
use Rattle.heap_recover.specs.Marked.{IsMarked, KeepsBlocks}
use Rattle.heap_recover.proofs.AscendingLemmas.{ascending_same}

module _ (l : Layout) (kept other : Block → Type 0) (to : (b : Block) → kept b → other b) (from : (b : Block) → other b → kept b) (d : ℕ) where
  pub free_with : IsFreeSuperblock l kept d → IsFreeSuperblock l other d
  free_with free = record { taken = free.taken; empty = λ b here part. free.empty b (from b here) part }

  holds_with : HoldsKept l kept d → HoldsKept l other d
  holds_with holds = record { block = holds.block; is_kept = to holds.block holds.is_kept; part = holds.part }

  pub spare_with : (class w : ℕ) → IsSpare l kept class d w → IsSpare l other class d w
  spare_with class w spare = record {
    index = spare.index;
    block = spare.block;
    is_block = spare.is_block;
    first = spare.first;
    unkept = λ here. spare.unkept (from spare.block here);
  }

  pub partial_with : (class : ℕ) → IsPartial l kept class d → IsPartial l other class d
  partial_with class partial = record {
    taken = partial.taken;
    info_is = partial.info_is;
    holds = holds_with partial.holds;
    spare = (partial.spare.0, spare_with class partial.spare.0 partial.spare.1);
  }

  pub full_with : (class : ℕ) → IsFullyKept l kept class d → IsFullyKept l other class d
  full_with class full = record { taken = full.taken; info_is = full.info_is; all = λ index b is_b. to b (full.all index b is_b) }

  pub large_with : IsInLarge l kept d → IsInLarge l other d
  large_with large = record { taken = large.taken; holds = holds_with large.holds; no_class = large.no_class }

  pub listed_with : (list : ℕ) → IsListed l kept list d → IsListed l other list d
  listed_with zero listed = free_with listed
  listed_with (suc c) listed = partial_with (suc c) listed

module _ (old new : Image) (kept other : Block → Type 0) (to : (b : Block) → kept b → other b) (from : (b : Block) → other b → kept b) where
  pub recovered_with : IsRecovered old new kept → IsRecovered old new other
  recovered_with is = record {
    descriptors = is.descriptors;
    chains = is.chains;
    listed = λ list few. ascending_same (λ d. d) (IsListed (layout_of old) kept list) (IsListed (layout_of old) other list) (is.descriptors list)
        (λ d. listed_with (layout_of old) kept other to from d list) (λ d. listed_with (layout_of old) other kept from to d list) (is.listed list few);
    chained = λ class d is_class partial. ascending_same (λ w. w) (IsSpare (layout_of old) kept class d) (IsSpare (layout_of old) other class d)
        (is.chains d)
        (spare_with (layout_of old) kept other to from d class) (spare_with (layout_of old) other kept from to d class)
        (is.chained class d is_class (partial_with (layout_of old) other kept from to d class partial));
    state = is.state;
    same = is.same;
    heads = is.heads;
    links = is.links;
    unlisted = is.unlisted;
    free = λ d free. is.free d (free_with (layout_of old) other kept from to d free);
    partial = λ class d is_class partial. is.partial class d is_class (partial_with (layout_of old) other kept from to d class partial);
    full = λ class d is_class full. is.full class d is_class (full_with (layout_of old) other kept from to d class full);
    in_large = λ d large. is.in_large d (large_with (layout_of old) other kept from to d large);
    untaken = is.untaken;
    inside = λ word low away. is.inside word low (λ class d is_class partial. away class d is_class
        (partial_with (layout_of old) kept other to from d class partial));
  }

-- what a slice of a whole vector is written back as
pub written_back : (xs items : List ℕ) (n : ℕ) → n ≡ length xs → take n (xs ++ drop (length xs) items) ≡ xs
written_back xs items n all = ap (λ k. take k (xs ++ drop (length xs) items)) all ∙ take-append_seam xs (drop (length xs) items)

-- what a trace has marked is what is reached
pub marked_reached : (image : Image) (kinds : ℕ → ℕ) (links : Links) (pairs : List (Block × ℕ)) → AreReached image kinds links pairs
    → (b : Block) → IsMarked pairs b → IsReached image kinds links b
marked_reached image kinds links pairs are b marked = record { kind = marked.kind; reach = (are.each b marked.kind).0 marked.pair }

pub reached_marked : (image : Image) (kinds : ℕ → ℕ) (links : Links) (pairs : List (Block × ℕ)) → AreReached image kinds links pairs
    → (b : Block) → IsReached image kinds links b → IsMarked pairs b
reached_marked image kinds links pairs are b reached = record { kind = reached.kind; pair = (are.each b reached.kind).1 reached.reach }

-- and so are blocks of the image
pub marked_blocks : (image : Image) (kinds : ℕ → ℕ) (links : Links) (pairs : List (Block × ℕ)) → AreReached image kinds links pairs
    → KeepsBlocks (layout_of image) (IsMarked pairs)
marked_blocks image kinds links pairs are = record {
  each = λ b marked. reached_block image kinds links b marked.kind
      ((are.each b marked.kind).0 marked.pair);
}

-- the heap that is made where some blocks are kept is that where others are that are the same
pub made_with : (words : List ℕ) (kept other : Block → Type 0) (answer : Recovered) → ((b : Block) → kept b → other b)
    → ((b : Block) → other b → kept b)
    → IsMadeOf words kept answer → IsMadeOf words other answer
made_with words kept other answer to from made =
    let image = slice_index words in
    let l = layout_of image in
    record {
      held = ascending_same (λ (b : Block). b.first_word) kept other answer.heap.held to from made.held;
      free = ascending_same (λ d. d) (IsFreeSuperblock l kept) (IsFreeSuperblock l other) answer.free.items
          (free_with l kept other to from) (free_with l other kept from to) made.free;
      was = made.was;
      long = made.long;
      recovered = recovered_with image (slice_index answer.heap.words) kept other to from made.recovered;
    }

-- so is the one where the marked blocks are kept, and that where the reached ones are
pub made_of_reached : (words : List ℕ) (kinds : ℕ → ℕ) (links : Links) (pairs : List (Block × ℕ)) (answer : Recovered)
    → AreReached (slice_index words) kinds links pairs
    → IsMadeOf words (IsMarked pairs) answer → IsMadeOf words (IsReached (slice_index words) kinds links) answer
made_of_reached words kinds links pairs answer are =
    made_with words (IsMarked pairs) (IsReached (slice_index words) kinds links) answer
    (marked_reached (slice_index words) kinds links pairs are) (reached_marked (slice_index words) kinds links pairs are)
