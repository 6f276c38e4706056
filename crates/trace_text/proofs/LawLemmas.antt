-- What the texts tell of each held block.
use Rattle.std.proofs.Common.{◌≡◌, ℕ, ◌+◌, ◌-◌, ◌*◌, ◌/◌, ◌<◌, ◌≤◌, true, false, nat_lt, nat_le, List, length, slice_index, get_or, Option, Some, None, ap, ◌∙◌, arith, inl, inr}
use Rattle.std.proofs.Math.Nat.{mul-div_cancel}
use Rattle.std.proofs.lemmas.Bool.{cases_lt, cond-true, lt-ltb, le-ltb, le-leb}
use Rattle.std.proofs.lemmas.List.{get_or_default}
use Rattle.std.specs.List.{Contains, find}
use Rattle.std.specs.Option.{option_map_or}
use Rattle.heap_model.specs.declared.block.Block.{Block}
use Rattle.heap_model.specs.Blocks.{Layout, layout_of, Begins, of_class, as_large}
use Rattle.heap_model.specs.Geometry.{start_word}
use Rattle.heap_model.specs.Header.{capacity_of}
use Rattle.heap_model.specs.Recovered.{IsBlockOfClass}
use Rattle.heap_model.specs.Rest.{IsReady}
use Rattle.heap_model.specs.Sizes.{IsClass, words_of_class}
use Rattle.heap_model.proofs.SizeLemmas.{two_words}
use Rattle.super_block.proofs.NamingLemmas.{block_offset}
use Rattle.trace_text.specs.HeapMap.{AreInOrder, begins_in, index_of, reaches_into, begun_in, first_of}
use Rattle.trace_text.specs.Laws.{IsCounted, in_class, as_large as counted_as_large}
use Rattle.trace_text.proofs.OrderLemmas.{ready_in_order, both, first_fails, second_fails, find_only}

-- what a superblock begins is counted
begun_counted : (l : Layout) (b : Block) (d words count : ℕ) → l.used ≤ l.capacity → b.words ≡ words → Begins l d words count → IsCounted l.capacity b
begun_counted l b d words count short size (of_class class info is) = in_class class is size
begun_counted l b d words count short size (as_large n some info end zeros) = counted_as_large n some (omega arith) size

pub block_counted : (words : List ℕ) (held : List Block) (b : Block) → IsReady words held → Contains held b
    → IsCounted (capacity_of (slice_index words)) b
block_counted words held b ready among =
    let is = ready.blocks b among in
    begun_counted (layout_of (slice_index words)) b is.superblock is.words is.count ready.formed.used is.is_of.size is.is_of.begins

-- a block of a class begins in its superblock, and is told under its index
pub class_begins_in : (capacity class d index : ℕ) (b : Block) → IsClass class → IsBlockOfClass capacity class d index b → begins_in capacity d b ≡ true
class_begins_in capacity class d index b is of =
    let short = block_offset class index is of.below in
    let at = of.at in
    both (nat_le (start_word capacity d) b.first_word) (nat_lt b.first_word (start_word capacity (d + 1))) (le-leb _ _ (omega arith))
    (lt-ltb _ _ (omega arith))

pub class_index : (capacity class d index : ℕ) (b : Block) → IsClass class → IsBlockOfClass capacity class d index b
    → index_of capacity class d b ≡ index
class_index capacity class d index b is of =
    let two = two_words class is in
    let at = of.at in
    let within : b.first_word - start_word capacity d ≡ index * words_of_class class = omega arith in
    ap (λ n. n / words_of_class class) within ∙ mul-div_cancel index (omega arith)

-- the held block that goes on into a superblock is the one that is found
reaching_found : (capacity d at : ℕ) (held : List Block) (e : Block) → AreInOrder held → at < length held
    → (get_or held at e).first_word < start_word capacity d → start_word capacity d < (get_or held at e).first_word + (get_or held at e).words
    → find (reaches_into capacity d) held ≡ Some (get_or held at e)
reaching_found capacity d at held e order within before ends =
    let b = get_or held at e in
    find_only (reaches_into capacity d) held at e within
    (λ k x high other. elim (cases_lt k at) as (λ _. reaches_into capacity d (get_or held k x) ≡ false) [
      | inl less ↦
          let apart = order k at x less within in
          let first_same = ap (λ (y : Block). y.first_word) (get_or_default held at x e within) in
          second_fails _ _ (le-ltb (start_word capacity d) _ (omega arith))
      | inr most ↦
          let apart = order at k x (omega arith) high in
          let first_same = ap (λ (y : Block). y.first_word) (get_or_default held at x e within) in
          let words_same = ap (λ (y : Block). y.words) (get_or_default held at x e within) in
          first_fails _ _ (le-ltb _ (start_word capacity d) (omega arith))
    ])
    ∙ cond-true (reaches_into capacity d b) (Some b) None
    (both (nat_lt b.first_word (start_word capacity d)) (nat_lt (start_word capacity d) (b.first_word + b.words)) (lt-ltb _ _ before) (lt-ltb _ _ ends))

pub inside_told : (words : List ℕ) (held : List Block) (b : Block) (first superblocks d : ℕ) → IsReady words held → Contains held b
    → b.first_word ≡ start_word (capacity_of (slice_index words)) first → b.words ≡ 8192 * superblocks → first < d → d < first + superblocks
    → first_of (capacity_of (slice_index words)) d held ≡ first
inside_told words held b first superblocks d ready among at size behind below =
    let capacity = capacity_of (slice_index words) in
    let same : get_or held among.0 b ≡ b = among.2 in
    let at_same = ap (λ (x : Block). x.first_word) same in
    let size_same = ap (λ (x : Block). x.words) same in
    ap (λ (o : Option Block). option_map_or (begun_in capacity) o 0)
    (reaching_found capacity d among.0 held b (ready_in_order words held ready) among.1 (omega arith) (omega arith) ∙ ap (λ (x : Block). Some x) same)
    ∙ (omega arith)
