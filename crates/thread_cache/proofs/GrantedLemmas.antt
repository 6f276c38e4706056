-- What a granted request is of a block: which words it has, and how long it is.
use Rattle.std.proofs.Common.{◌≡◌, ◌≤◌, ℕ, ◌*◌, None, ap, sym, subst, ◌∙◌, arith}
use Rattle.heap_model.specs.declared.block.Block.{Block}
use Rattle.heap_model.specs.Sizes.{IsLeastClassFor, span_of}
use Rattle.heap_model.proofs.SizeLemmas.{size_of-words}
use Rattle.size_table.proofs.ClassLemmas.{least_small}
use Rattle.heap_seat.specs.Alloc.{IsSizeFor, of_class as size_of_class, of_superblocks}
use Rattle.core_model.specs.View.{View}
use Rattle.heap_table.specs.Plays.{HasSoundState}
use Rattle.seat_costs.specs.Rows.{Parts}
use Rattle.seat_costs.specs.Words.{IsHeldWord}
use Rattle.thread_cache.specs.Large.{HasAllocatedLarge}
use Rattle.thread_cache.specs.Requests.{IsGranted, by_class, by_span}
use Rattle.thread_cache.specs.Small.{HasAllocated}
use Rattle.seat_model.specs.Changes.{HoldsBlock, HoldsSpan}
use Rattle.seat_model.proofs.ChangedBlocks.{class_in}
use Rattle.seat_model.proofs.TakenBlocks.{large_words_stay, small_words_stay}

-- the block that comes
pub holds_block : (bytes class : ℕ) (b : Block) (v w : View) → IsLeastClassFor bytes class → HasAllocated class b v w → HoldsBlock class b v w
holds_block bytes class b v w least allocated = record {
  is_class = least.is_class;
  words = allocated.size;
  setup = ap (λ (p : Parts). p.setup) allocated.parts_are;
  roots = ap (λ (p : Parts). p.roots) allocated.parts_are;
  small = ap (λ (p : Parts). p.small) allocated.parts_are;
  large = ap (λ (p : Parts). p.large) allocated.parts_are;
}

pub holds_span : (n : ℕ) (b : Block) (v w : View) → 1 ≤ n → (allocated : HasAllocatedLarge n b v w) → HoldsSpan allocated.first n b v w
holds_span n b v w some allocated = record {
  some = some;
  block = allocated.block;
  setup = ap (λ (p : Parts). p.setup) allocated.parts_are;
  roots = ap (λ (p : Parts). p.roots) allocated.parts_are;
  small = ap (λ (p : Parts). p.small) allocated.parts_are;
  large = ap (λ (p : Parts). p.large) allocated.parts_are;
}

-- the words that were held are so still
pub granted_words : (bytes : ℕ) (b : Block) (v w : View) → HasSoundState v → IsGranted bytes b v w → (word : ℕ) → IsHeldWord v word → IsHeldWord w word
granted_words bytes b v w has (by_class class least allocated) =
    small_words_stay class b v w (class_in v has class least.is_class) (holds_block bytes class b v w least allocated)
granted_words bytes b v w has (by_span large allocated) = large_words_stay allocated.first (span_of bytes) b v w
    (holds_span (span_of bytes) b v w (omega arith) allocated)

pub granted_going : (bytes : ℕ) (b : Block) (v w : View) → IsGranted bytes b v w → w.stopped ≡ None
granted_going bytes b v w (by_class class least allocated) = allocated.going
granted_going bytes b v w (by_span large allocated) = allocated.going

-- its size
pub granted_size : (bytes : ℕ) (b : Block) (v w : View) → IsGranted bytes b v w → IsSizeFor bytes (8 * b.words)
granted_size bytes b v w (by_class class least allocated) =
    subst (IsSizeFor bytes) (size_of-words class least.is_class ∙ ap (λ n. 8 * n) (sym allocated.size)) (size_of_class class least)
granted_size bytes b v w (by_span large allocated) =
    let words = ap (λ (x : Block). x.words) allocated.block in subst (IsSizeFor bytes) (omega arith) (of_superblocks large)

-- a request of a class takes one superblock at most
pub one_span : (bytes class : ℕ) → IsLeastClassFor bytes class → span_of bytes ≡ 1
one_span bytes class least = let small = least_small bytes class least in omega arith
